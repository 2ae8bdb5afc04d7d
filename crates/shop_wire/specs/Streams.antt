-- How far a source was read, and when a source or a sink failed.
use Rattle.std.specs.Prelude.{ℕ, ◌+◌, ◌-◌, ◌*◌, ◌≤◌, ◌⊎◌, List, length, Option, Some, None, ⊤, IfSome}
use Rattle.shop_streams.specs.Streams.{most_counted}
use Rattle.shop_wire.specs.declared.limits.TheConstants.{MAX_READS, BUFFER_SIZE}

-- the most reads of a replay
abbrev pub most_reads : ℕ
most_reads = MAX_READS

-- so many reads were made, as far as a source counts them
abbrev pub AreReads : ℕ → ℕ → ℕ → Type 0
AreReads before n after = (after ≤ before + n) × ((before + n ≤ after) ⊎ (most_counted ≤ after))

-- the reads that a reader counts and those that its source counts went on together
abbrev pub CountTogether : ℕ → ℕ → ℕ → ℕ → Type 0
CountTogether before counted after counts =
    (before ≤ after) × (counts + before ≤ counted + after) × ((counted + after ≤ counts + before) ⊎ (most_counted ≤ counts))

-- each read took a byte at least: what is left and the number of reads together didn't grow, where what is left is reported
abbrev pub TookBytes : ℕ → Option (List ℕ) → ℕ → Option (List ℕ) → Type 0
TookBytes before None after new = ⊤
TookBytes before (Some xs) after None = ⊥
TookBytes before (Some xs) after (Some ys) = after + length ys ≤ before + length xs

-- after so many reads there are too many bytes left for the rest of them, where they are reported
abbrev pub IsLong : ℕ → Option (List ℕ) → Type 0
IsLong reads left = IfSome left (λ input. most_reads ≤ reads + length input)

-- what reading can still do: each read brings at most 65536 bytes, and each byte is taken once
abbrev pub work : ℕ → List ℕ → ℕ
work reads bytes = (most_reads - reads) * (BUFFER_SIZE + 1) + length bytes

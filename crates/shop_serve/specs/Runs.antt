-- The run of a server.
use Rattle.std.specs.Prelude.{◌≡◌, ℕ, List, length}
use Rattle.hex.specs.Hex.{encode_lower}

-- the digits of eight bytes
abbrev pub IsRun : List ℕ → Type 0
IsRun run = (bytes : List ℕ) × (length bytes ≡ 8) × (run ≡ encode_lower bytes)

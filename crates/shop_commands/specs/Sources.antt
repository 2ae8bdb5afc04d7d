-- What was read of a source, and how its failures were counted.
use Rattle.std.specs.Prelude.{◌⊎◌, ℕ, List, Option}
use Rattle.shop_streams.specs.declared.streams.Source.{Ghosts}
use Rattle.shop_streams.specs.Streams.{HasFailed}
use Rattle.shop_wire.specs.Streams.{AreReads, IsLong, most_reads}

-- what a source had left, and how often a read had failed and how often it was read, before and after
pub record SourceChange : Type 0 where
  pub left : Option (List ℕ)
  pub failed_old : ℕ
  pub failed_new : ℕ
  pub reads_old : ℕ
  pub reads_new : ℕ

-- the change from one state of a source to another
abbrev pub source_change : {S : Type 0} → Ghosts S → (before after : S) → SourceChange
source_change source before after =
    record {
      left = source.left before;
      failed_old = source.failed before;
      failed_new = source.failed after;
      reads_old = source.reads before;
      reads_new = source.reads after;
    }

-- a read failed; or as many reads were made as a replay makes, and the source, where it reports its bytes, had as many
abbrev pub SourceFailed : SourceChange → Type 0
SourceFailed input = HasFailed input.failed_old input.failed_new ⊎ (AreReads input.reads_old most_reads input.reads_new × IsLong 0 input.left)

-- Decisions: the first refusal that holds, or else a change.
use Rattle.std.specs.Prelude.{◌≡◌, ◌≢◌, List, [], ◌∷◌, Bool, if◌then◌else◌, Option, Some, None, Result, Ok, Err}
use Rattle.shop_records.specs.declared.changes.Change.{Change}
use Rattle.shop_records.specs.declared.refusals.Refusal.{Refusal}
use Rattle.shop_records.specs.declared.refusals.Refusal.TheVariants.{NoMemory}
use Rattle.shop_records.specs.declared.messages.Reply.{Reply}

-- the first refusal whose condition holds
abbrev pub first_of : List (Bool × Refusal) → Option Refusal
first_of [] = None
first_of (c ∷ cs) = if c.0 then Some c.1 else first_of cs

-- The result is the first refusal whose condition holds, or else a change that is as it has to be. Memory may be wanting at
-- any point.
abbrev pub Decides : Option Refusal → (Change → Type 0) → Result Change Refusal → Type 0
Decides first makes (Ok made) = (first ≡ None) × makes made
Decides first makes (Err refusal) = refusal ≢ NoMemory → first ≡ Some refusal

-- a change of nothing, with this reply
abbrev pub no_change : Reply → Change
no_change answer =
    record {
      material = None;
      parts = [];
      moved = None;
      undone = [];
      job = None;
      halt = None;
      begun = None;
      order = None;
      extended = None;
      note = None;
      demands = [];
      totals = None;
      act = None;
      demand = None;
      import = None;
      kept = None;
      entry = None;
      reply = answer;
    }

-- Rows of a well-formed content never contradict each other.
use Rattle.std.proofs.Common.{◌≡◌, Bool, true, false}
use Rattle.std.specs.Prelude.{Option, Some, None, not, if◌then◌else◌}
use Rattle.std.specs.Option.{option_or}
use Rattle.shop_records.specs.declared.refusals.Refusal.{Refusal}
use Rattle.shop_records.specs.declared.refusals.Refusal.TheVariants.{StoreFault}

abbrev pub NoFault : Option Refusal → Type 0
NoFault o = o ≡ Some StoreFault → ⊥

pub either : (o p : Option Refusal) → NoFault o → NoFault p → NoFault (option_or o p)
either None p f g e = g e
either (Some r) p f g e = f e

pub nothing : NoFault None
nothing e = cc

-- a refusal of another kind, or what comes after it
pub other : (b : Bool) (r : Refusal) (o : Option Refusal) → NoFault (Some r) → NoFault o → NoFault (if b then Some r else o)
other true r o f g e = f e
other false r o f g e = g e

-- a fault that doesn't hold
pub no_such : (b : Bool) → b ≡ true → NoFault (if not b then Some StoreFault else None)
no_such true h e = cc
no_such false h e = cc

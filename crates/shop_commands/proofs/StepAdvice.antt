-- Advice that fits a refusal.
use Rattle.std.proofs.Common.{◌≡◌, refl, subst, sym, Option, Some, None}
use Rattle.std.specs.Prelude.{IfSome}
use Rattle.shop_records.specs.declared.refusals.Refusal.{Refusal}
use Rattle.shop_records.specs.declared.refusals.Refusal.TheVariants as refusal
use Rattle.shop_commands.specs.declared.advice.Advice.{Advice}
use Rattle.shop_commands.specs.declared.advice.Cause.{Cause}
use Rattle.shop_commands.specs.declared.advice.Cause.TheVariants as cause
use Rattle.shop_commands.specs.declared.faults.Fault.{Fault}
use Rattle.shop_commands.specs.declared.faults.Fault.TheVariants.{Refused}
use Rattle.shop_commands.specs.Advice.{FitsFault, HelpsStep, IsAdviceOf, IsOf, IsOfStep, IsStepHelp}

-- what helps where a step is refused fits such a refusal
helps : (r : Refusal) (c : Cause) → IsOfStep r → HelpsStep c → FitsFault (Refused r) c
helps r cause.Whole of help = of
helps r cause.LongBar of help = of
helps r cause.Steps of help = of
helps r cause.Before of no_help = elim no_help [ ]
helps r cause.Reply of no_help = elim no_help [ ]
helps r cause.Row of no_help = elim no_help [ ]
helps r _ of no_help = absurd no_help

step_help : (r : Refusal) (found : Option Advice) → IsOfStep r → IfSome found IsStepHelp → IfSome found (IsAdviceOf (Refused r))
step_help r None of is = tt
step_help r (Some a) of is = record { fits = helps r a.cause of is.helps; about = is.about; word = is.word }

pub of_help : (r : Refusal) (found : Option Advice) → IfSome found IsStepHelp → IsOfStep r → IfSome found (IsAdviceOf (Refused r))
of_help r found is of = step_help r found of is

pub large_help : (r : Refusal) (found : Option Advice) → r ≡ refusal.TableTooLarge → (IsOfStep r → IfSome found (IsAdviceOf (Refused r)))
    → IfSome found (IsAdviceOf (Refused r))
large_help r found is fits = fits (subst IsOfStep (sym is) tt)

pub bad_help : (r : Refusal) (found : Option Advice) → r ≡ refusal.BadStep → (IsOfStep r → IfSome found (IsAdviceOf (Refused r)))
    → IfSome found (IsAdviceOf (Refused r))
bad_help r found is fits = fits (subst IsOfStep (sym is) tt)

-- an advice of a cause that fits
pub fitting : (fault : Fault) (c : Cause) (found : Option Advice) → FitsFault fault c → IfSome found (IsOf c) → IfSome found (IsAdviceOf fault)
fitting fault c None fits of = tt
fitting fault c (Some a) fits of = record { fits = subst (FitsFault fault) (sym of.cause) fits; about = of.about; word = of.word }

-- an advice of a cause that helps
pub of_step : (c : Cause) (found : Option Advice) → HelpsStep c → IfSome found (IsOf c) → IfSome found IsStepHelp
of_step c None is of = tt
of_step c (Some a) is of = record { helps = subst HelpsStep (sym of.cause) is; about = of.about; word = of.word }

-- an advice of the refusal alone
pub of_refused : (r : Refusal) (found : Option Advice) → IfSome found (IsOf (cause.Refused r)) → IfSome found (IsAdviceOf (Refused r))
of_refused r found of = fitting (Refused r) (cause.Refused r) found refl of

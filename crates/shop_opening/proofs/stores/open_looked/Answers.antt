use Rattle.std.proofs.Common.{◌≡◌, inl, inr, subst}
use Rattle.std.specs.Prelude.{Result, Ok, Err, IfOk, IfErr}
use Rattle.shop_opening.proofs.stores.open_looked.Goals as goal

-- what is known of a result that is known
of_ok : {A B : Type 0} (P : A → Type 0) (r : Result A B) (x : A) → r ≡ Ok x → IfOk r P → P x
of_ok P r x is said = subst (λ s. IfOk s P) is said

of_err : {A B : Type 0} (P : B → Type 0) (r : Result A B) (x : B) → r ≡ Err x → IfErr r P → P x
of_err P r x is said = subst (λ s. IfErr s P) is said

pub returns-in-Err-Ok : goal.returns-in-Err-Ok
returns-in-Err-Ok g c =
    let why = c.in-Err-Ok in
    inr (why.fault, why.conn, of_ok _ why.field-0 (why.fault, why.conn) why.field-0-is why.ensures.tables, c.adopt_fault.ensures)

pub returns-in-Err-Err : goal.returns-in-Err-Err
returns-in-Err-Err g c =
    let why = c.in-Err-Err in
    inl (why.error, why.left, of_err _ why.field-0 (why.error, why.left) why.field-0-is why.ensures.port, c.open_fault-fault.ensures)

use Rattle.std.proofs.Common.{◌≡◌, ℕ, pos, [], ◌∷◌, Some, Result, IfOk, inl, ap, sym, ◌∙◌}
use Rattle.std.proofs.lemmas.Result.{IfOk-weaker}
use Rattle.sqlite_value.specs.declared.value.Value.TheVariants.{Int}
use Rattle.sqlite_value.specs.Order.{Row, column}
use Rattle.sqlite.specs.Held.{state}
use Rattle.shop_statements.specs.declared.faults.TableFault.{TableFault}
use Rattle.shop_statements.proofs.Versions.{number_read}
use Rattle.shop_statements.proofs.numbers.number_of.Goals as goal

-- what is read of the row that was given
number_is : (r : Result ℕ TableFault) (row : Row) (n : ℕ) → Some row ≡ Some (Int (pos n) ∷ []) → IfOk r (λ number. column row 0 ≡ Int (pos number)) → IfOk r (λ number. number ≡ n)
number_is r row n given read =
    let is : row ≡ Int (pos n) ∷ [] = cc in
    IfOk-weaker r _ _ (λ number at. let same : Int (pos number) ≡ Int (pos n) = sym at ∙ ap (λ r. column r 0) is in cc) read

pub returns-clause-number : goal.returns-clause-number
returns-clause-number g c clean b was n once = number_is c.number_in.result c.in-Some.row n (rw c.in-Some.is at (c.in_ok-row.ensures.row clean b was n once)) c.number_in.ensures

pub returns-clause-earlier : goal.returns-clause-earlier
returns-clause-earlier g c clean b was n once = number_is c.number_in.result c.in-Some.row n (rw c.in-Some.is at (c.in_ok-row.ensures.earlier clean b was n once)) c.number_in.ensures

pub returns-clause-second : goal.returns-clause-second
returns-clause-second g c clean b was n once = number_is c.number_in.result c.in-Some.row n (rw c.in-Some.is at (c.in_ok-row.ensures.second clean b was n once)) c.number_in.ensures

pub returns-clause-stands : goal.returns-clause-stands
returns-clause-stands g c clean h =
    IfOk-weaker c.number_in.result _ _ (λ number at. number_read (state g.S.Store c.args.conn.now) c.args.word.now c.in-Some.row (Int (pos number)) (rw c.in-Some.is at (c.in_ok-row.ensures.stands clean (inl h))) at) c.number_in.ensures

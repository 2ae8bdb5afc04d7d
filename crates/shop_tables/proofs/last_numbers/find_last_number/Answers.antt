use Rattle.std.proofs.Common.{inl, inr, refl, sym, subst, ◌∙◌, ap}
use Rattle.std.proofs.lemmas.Result.{IfOk-weaker}
use Rattle.sqlite.specs.Held.{state}
use Rattle.sqlite_value.specs.Order.{Row, column}
use Rattle.shop_records.specs.Lists.{IsLastNumber}
use Rattle.shop_statements.proofs.Reading.{one_number}
use Rattle.shop_tables.proofs.RowsAsShown.{last_read}
use Rattle.shop_tables.proofs.last_numbers.find_last_number.Goals as goal

pub returns-in_default-clause-number : goal.returns-in_default-clause-number
returns-in_default-clause-number g c clean b was = rw c.in_default.is at (c.in_ok-row.ensures.row clean b was)

pub returns-clause-number : goal.returns-clause-number
returns-clause-number g c clean b was =
    let last = rw c.in-Some.is at (c.in_ok-row.ensures.row clean b was) in
    IfOk-weaker c.number_in.result _ _
    (λ number read. subst (IsLastNumber b.content c.args.terminal) (one_number last.0 number (sym (ap (λ (row : Row). column row 0) last.1) ∙ read)) last.2)
    c.number_in.ensures

pub returns-in_default-clause-stands : goal.returns-in_default-clause-stands
returns-in_default-clause-stands g c clean h = inr (rw c.in_default.is at (c.in_ok-row.ensures.stands clean h), refl)

pub returns-clause-stands : goal.returns-clause-stands
returns-clause-stands g c clean h =
    let are = rw c.in-Some.is at (c.in_ok-row.ensures.stands clean h) in
    IfOk-weaker c.number_in.result _ _ (λ number read. inl (last_read c.args.terminal ((state g.S.Store c.args.conn.now).now.trees 11) c.in-Some.row number are read)) c.number_in.ensures

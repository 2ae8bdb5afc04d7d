use Rattle.std.proofs.Common.{◌∷◌, [], subst, refl, inl, inr}
use Rattle.std.specs.Prelude.{Some}
use Rattle.csv.specs.Records.{fields_of}
use Rattle.shop_files.specs.Orders.{HasRead, IsOrders, HasOrdersFault, header, Fields}
use Rattle.shop_files.proofs.Lines.{header_bad, ok_over, err_over}
use Rattle.shop_files.proofs.orders.orders_of.Goals as goal

pub returns-then-not-branch-clause-err : goal.returns-then-not-branch-clause-err
returns-then-not-branch-clause-err c =
    let next = rw c.if-not-branch.true at (c.in_ok-next_row.ensures.found c.args.text.now [] c.reader_of-reader.ensures) in
    inl (refl, inr (inl (c.if-text-gt-MAX_TEXT_LEN.false, next, refl)))

pub returns-in-Some-clause-err : goal.returns-in-Some-clause-err
returns-in-Some-clause-err c =
    let next = rw c.if-not-branch.false at (c.in_ok-next_row.ensures.found c.args.text.now [] c.reader_of-reader.ensures) in
    header_bad (λ s. Some s.now) c.next_row.new.reader c.args.text.now (fields_of c.next_row.new.record) c.in-Some.field c.if-text-gt-MAX_TEXT_LEN.false next c.in-Some.ensures

pub returns-clause-ok : goal.returns-clause-ok
returns-clause-ok c =
    let next = rw c.if-not-branch.false at (c.in_ok-next_row.ensures.found c.args.text.now [] c.reader_of-reader.ensures) in
    let head = subst (λ (f : Fields). HasRead (λ s. Some s.now) c.next_row.new.reader c.args.text.now (f ∷ [])) c.in_default.ensures next in
    ok_over IsOrders (λ t. HasRead (λ s. Some s.now) c.next_row.new.reader t (header ∷ [])) c.read_lines.result c.args.text.now c.if-text-gt-MAX_TEXT_LEN.false head c.read_lines.ensures.ok

pub returns-clause-err : goal.returns-clause-err
returns-clause-err c =
    let next = rw c.if-not-branch.false at (c.in_ok-next_row.ensures.found c.args.text.now [] c.reader_of-reader.ensures) in
    let head = subst (λ (f : Fields). HasRead (λ s. Some s.now) c.next_row.new.reader c.args.text.now (f ∷ [])) c.in_default.ensures next in
    err_over HasOrdersFault (λ t. HasRead (λ s. Some s.now) c.next_row.new.reader t (header ∷ [])) c.read_lines.result c.args.text.now c.if-text-gt-MAX_TEXT_LEN.false head c.read_lines.ensures.err

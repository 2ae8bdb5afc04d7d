use Rattle.std.proofs.Common.{◌≡◌, ◌+◌, Some, None, ap, drop, refl, subst, sym, ◌∙◌, arith}
use Rattle.shop_book.specs.Ledgers.{content_in}
use Rattle.shop_records.specs.Content.{Content}
use Rattle.shop_store.specs.Loading.{FitInTurn, with_each}
use Rattle.shop_store.proofs.Chunks.{none_left, value_at}
use Rattle.shop_store.proofs.loadable.load_each.Goals as goal

pub returns-in_default : goal.returns-in_default
returns-in_default g c values is fit =
    let inv = c.loop-row.invariant values is fit in
    let v = value_at g.T.Loadable.row_of values c.args.rows.now c.loop-row.row-index c.row-item.result is c.loop-row-test.true c.row-item.is in
    let here = subst (λ l. FitInTurn g.T.Loadable.fits g.T.Loadable.put l (content_in c.loop-row.ledger)) v.1 inv.0 in
    absurd (let none : None ≡ Some v.0 = rw c.in_default.is at (c.in_ok-value.ensures v.0 here.0 v.2) in cc)

pub loop-row-preserved : goal.loop-row-preserved
loop-row-preserved g c values is fit =
    let inv = c.loop-row.invariant values is fit in
    let before = content_in c.loop-row.ledger in
    let v = value_at g.T.Loadable.row_of values c.args.rows.now c.loop-row.row-index c.row-item.result is c.loop-row-test.true c.row-item.is in
    let here = subst (λ l. FitInTurn g.T.Loadable.fits g.T.Loadable.put l before) v.1 inv.0 in
    let read : Some c.in-Some.value ≡ Some v.0 = rw c.in-Some.is at (c.in_ok-value.ensures v.0 here.0 v.2) in
    let same : c.in-Some.value ≡ v.0 = cc in
    let now : content_in c.load.new.ledger ≡ g.T.Loadable.put v.0 before = c.in_ok-load.ensures ∙ ap (λ x. g.T.Loadable.put x before) same in (
      subst (λ (m : Content). FitInTurn g.T.Loadable.fits g.T.Loadable.put (drop (c.loop-row.row-index + 1) values) m) (sym now) here.1,
      ap (with_each g.T.Loadable.put (drop (c.loop-row.row-index + 1) values)) now ∙ ap (λ l. with_each g.T.Loadable.put l before) (sym v.1) ∙ inv.1,
    )

pub returns : goal.returns
returns g c values is fit =
    let inv = c.loop-row.invariant values is fit in
    let left = none_left g.T.Loadable.row_of values c.args.rows.now c.loop-row.row-index is (omega (arith, c.loop-row-test.false)) in
    (refl, ap (λ l. with_each g.T.Loadable.put l (content_in c.loop-row.ledger)) (sym left) ∙ inv.1)

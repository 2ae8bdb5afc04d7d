use Rattle.std.proofs.Common.{◌≡◌, None, sym, subst, refl}
use Rattle.std.specs.Prelude.{IfSome, is_some, not}
use Rattle.std.specs.FinMap.{get}
use Rattle.shop_records.specs.Content as content
use Rattle.shop_tables.specs.Changing.{with_materials, with_moved, with_parts}
use Rattle.shop_tables.proofs.Fitting.{moved_fits, parts_new, totals_fit, undone_fits}
use Rattle.shop_tables.proofs.InTurn.{of_all, of_some, writes_so, writes_then}
use Rattle.shop_tables.proofs.changing.write_stock.Goals as goal

pub returns-clause-writes : goal.returns-clause-writes
returns-clause-writes g c =
    let change = c.args.change.now in
    writes_so
    (λ b has. (
      (
        (
          (
            subst (λ ms. IfSome change.material (λ row. get ms row.code ≡ None)) (sym has.materials) has.fits.material,
            moved_fits has.decided.content change has.fits b has.parts,
          ),
          undone_fits has.decided.content change has.fits (with_moved change.moved (with_materials change.material b)) (λ i. content.with_moved change.moved (has.parts i)),
        ),
        parts_new has.decided.content change has.fits (with_parts change.undone (with_moved change.moved (with_materials change.material b))) (λ i. content.with_parts change.undone (content.with_moved change.moved (has.parts i))),
      ),
      subst (λ is. IfSome change.totals (λ row. is_some (get b.totals row.material) ≡ not is)) (sym c.is_some.ensures)
          (subst (λ ts. IfSome change.totals (λ row. is_some (get ts row.material) ≡ not (is_some change.material))) (sym has.totals) (totals_fit has.decided change has.sums has.fits)),
    )) (λ b. refl)
    (writes_then
    (writes_then
    (writes_then (writes_then (of_some with_materials (λ b. refl) (λ x b. refl) change.material c.in_ok-write_some.ensures.writes) (of_some with_moved (λ b. refl) (λ x b. refl) change.moved c.in_ok-write_some-2.ensures.writes))
    (of_all with_parts (λ b. refl) (λ x rows b. refl) change.undone (rw c.as_slice.ensures at c.in_ok-write_all.ensures.writes)))
    (of_all with_parts (λ b. refl) (λ x rows b. refl) change.parts (rw c.as_slice-2.ensures at c.in_ok-write_all-2.ensures.writes)))
    c.write_totals.ensures.writes)

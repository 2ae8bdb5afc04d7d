use Rattle.std.proofs.Common.{◌≡◌, ◌<◌, ◌∙◌, None, length, rules, sym, subst, take}
use Rattle.std.proofs.lemmas.Result.{IfOk-weaker}
use Rattle.shop_records.specs.Elements.{IsIn}
use Rattle.shop_records.specs.Lists.{orders_after}
use Rattle.shop_records.proofs.Basics.{all_in}
use Rattle.shop_audit.specs.Compared.{IsImportAlike}
use Rattle.shop_audit.proofs.Orders.{order_in, short}
use Rattle.shop_audit.proofs.compared.have_same_imports.Goals as goal

pub returns-clause-same : goal.returns-clause-same
returns-clause-same g c =
    λ clean clean_anew m k held held_anew.
    let one = c.in_ok-codes.ensures in
    let rest = c.have_same_import_of.ensures in
    let was = rest.keeps_anew.clean_disk clean_anew in
    let rows = c.as_slice-rows.result.now in
    let taken : rows ≡ take 18446744073709551615 (orders_after k None) = c.as_slice-rows.ensures ∙ one.rows was k held_anew in
    let few : length rows < 18446744073709551615 = search rules in
    let all : rows ≡ orders_after k None = taken ∙ short 18446744073709551615 (orders_after k None) (subst (λ l. length l < 18446744073709551615) taken few) in
    IfOk-weaker c.have_same_import_of.result _ _
    (λ same found is code ordered. all_in (IsImportAlike m k) rows (found is) code (subst (IsIn code) (sym all) (order_in k code ordered)))
    (rest.same clean clean_anew m k held (one.keeps.stays was k held_anew))

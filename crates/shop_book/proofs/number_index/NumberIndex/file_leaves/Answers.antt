use Rattle.std.proofs.Common.{◌≡◌, ◌∷◌, [], false, get_or, inl, inr, take, sym, subst}
use Rattle.std.proofs.lemmas.List.{get_or_default}
use Rattle.std.specs.Prelude.{◌⊎◌, IsTrue}
use Rattle.cut_tree.specs.declared.leaves.Leaf.{Leaf}
use Rattle.shop_records.specs.Elements.{IsIn}
use Rattle.shop_book.specs.Filing.{is_filed_for}
use Rattle.shop_book.proofs.Filed.{in_next, stays_then}
use Rattle.shop_book.proofs.number_index.NumberIndex.file_leaves.Goals as goal

pub loop-leaf-preserved : goal.loop-leaf-preserved
loop-leaf-preserved c =
    let leaves = c.args.leaves.now in
    let i = c.loop-leaf.leaf-index in
    let own : Leaf = get_or leaves i (record { demand = 0; turned = false; w = 0; h = 0 }) in
    let stays = c.file_leaf.ensures.stays in
    record {
      filed = λ leaf there.
          elim (in_next leaves i own leaf c.loop-leaf-test.true (get_or_default leaves i (record { demand = 0; turned = false; w = 0; h = 0 }) own c.loop-leaf-test.true) there) [
            | inl j ↦ stays.numbers leaf.demand c.args.job (c.loop-leaf.invariant.filed leaf j)
            | inr j ↦ elim j [
              | inl e ↦ subst (λ (it : Leaf). IsTrue (is_filed_for c.file_leaf.new.self it.demand c.args.job)) (sym e) c.in_ok-file_leaf.ensures.filed
              | inr k ↦ absurd k
            ]
          ];
      stays = stays_then _ _ _ c.loop-leaf.invariant.stays stays;
    }

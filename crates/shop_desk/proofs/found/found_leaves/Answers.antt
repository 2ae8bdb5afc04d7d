use Rattle.std.proofs.Common.{◌≡◌, All, sym, ap, subst, ◌∙◌}
use Rattle.std.proofs.lemmas.List.{get_or_default}
use Rattle.shop_records.specs.Content.{demand_at}
use Rattle.shop_machine.specs.declared.recounts.FoundLeaf.{FoundLeaf}
use Rattle.shop_machine.specs.Recounts.{AreDemandsFound, IsNumbered, leaves_in}
use Rattle.shop_desk.proofs.TakenLeaves.{one_more, more_taken}
use Rattle.shop_desk.proofs.found.found_leaves.Goals as goal

pub loop-leaf-preserved : goal.loop-leaf-preserved
loop-leaf-preserved g c =
    let before = c.loop-leaf.invariant.keeps in
    let one = c.in_ok-demand.ensures.keeps in
    record {
      keeps = record {
        clean_disk = λ clean_disk. before.clean_disk (one.clean_disk clean_disk);
        stays = λ clean_disk m held. one.stays clean_disk m (before.stays (one.clean_disk clean_disk) m held);
        crash = λ clean_disk m held left may. before.crash (one.clean_disk clean_disk) m held left (one.crash clean_disk m (before.stays (one.clean_disk clean_disk) m held) left may);
        failures = one.failures ∙ before.failures;
      };
      leaves =
          ap leaves_in c.in_ok-push_leaf.ensures
          ∙ more_taken (λ (f : FoundLeaf). f.leaf) c.loop-leaf.found.items _ c.deref-leaf-items.result.now c.loop-leaf.leaf-index c.loop-leaf-test.true c.loop-leaf.invariant.leaves
          (get_or_default c.deref-leaf-items.result.now c.loop-leaf.leaf-index _ _ c.loop-leaf-test.true);
      numbered = subst (All IsNumbered) (sym c.in_ok-push_leaf.ensures) (one_more IsNumbered c.loop-leaf.found.items _ c.loop-leaf.invariant.numbered c.in_ok-demand.ensures.key);
      found = λ clean_disk m held.
          let all : AreDemandsFound (demand_at m) c.loop-leaf.found.items = c.loop-leaf.invariant.found (one.clean_disk clean_disk) m held in
          let seen : AreDemandsFound (demand_at m) c.deref.result.now = rw c.deref.ensures.value all in
          subst (AreDemandsFound (demand_at m)) (sym c.in_ok-push_leaf.ensures)
          (one_more (λ (f : FoundLeaf). f.demand ≡ demand_at m f.leaf.demand) c.loop-leaf.found.items _ all
          (c.in_ok-demand.ensures.row clean_disk m (before.stays (one.clean_disk clean_disk) m held) seen));
    }

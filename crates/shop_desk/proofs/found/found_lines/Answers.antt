use Rattle.std.proofs.Common.{◌≡◌, sym, ap, subst, ◌∙◌}
use Rattle.shop_records.specs.Content.{material_at}
use Rattle.shop_machine.specs.declared.ordering.FoundLine.{FoundLine}
use Rattle.shop_machine.specs.Ordering.{AreMaterialsFound, lines_in}
use Rattle.shop_desk.proofs.TakenLeaves.{one_more, more_taken}
use Rattle.shop_desk.proofs.found.found_lines.Goals as goal

pub loop-line-preserved : goal.loop-line-preserved
loop-line-preserved g c =
    let before = c.loop-line.invariant.keeps in
    let one = c.in_ok-material.ensures.keeps in
    record {
      keeps = record {
        clean_disk = λ clean_disk. before.clean_disk (one.clean_disk clean_disk);
        stays = λ clean_disk m held. one.stays clean_disk m (before.stays (one.clean_disk clean_disk) m held);
        crash = λ clean_disk m held left may. before.crash (one.clean_disk clean_disk) m held left (one.crash clean_disk m (before.stays (one.clean_disk clean_disk) m held) left may);
        failures = one.failures ∙ before.failures;
      };
      lines =
          ap lines_in c.in_ok-push_line.ensures
          ∙ more_taken (λ (f : FoundLine). f.line) c.loop-line.found.items _ c.args.lines.now c.loop-line.line-index c.loop-line-test.true c.loop-line.invariant.lines c.line-item.is;
      found = λ clean_disk m held.
          let all : AreMaterialsFound (material_at m) c.loop-line.found.items = c.loop-line.invariant.found (one.clean_disk clean_disk) m held in
          let seen : AreMaterialsFound (material_at m) c.deref.result.now = rw c.deref.ensures.value all in
          subst (AreMaterialsFound (material_at m)) (sym c.in_ok-push_line.ensures)
          (one_more (λ (f : FoundLine). f.material ≡ material_at m f.line.material) c.loop-line.found.items _ all
          (c.in_ok-material.ensures.row clean_disk m (before.stays (one.clean_disk clean_disk) m held) seen));
    }

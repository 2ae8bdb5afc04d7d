use Rattle.std.proofs.Common.{◌∙◌}
use Rattle.shop_desk.proofs.TakenPieces.{piece_more}
use Rattle.shop_desk.proofs.pieces.piece_rows.Goals as goal

pub loop-part-preserved : goal.loop-part-preserved
loop-part-preserved g c =
    let before = c.loop-part.invariant.keeps in
    let one = c.in_ok-found.ensures.keeps in
    record {
      keeps = record {
        clean_disk = λ clean_disk. before.clean_disk (one.clean_disk clean_disk);
        stays = λ clean_disk m held. one.stays clean_disk m (before.stays (one.clean_disk clean_disk) m held);
        crash = λ clean_disk m held left may. before.crash (one.clean_disk clean_disk) m held left (one.crash clean_disk m (before.stays (one.clean_disk clean_disk) m held) left may);
        failures = one.failures ∙ before.failures;
      };
      rows = λ clean_disk m held.
          piece_more m c.args.parts.now c.loop-part.part-index c.part-item.result c.loop-part.rows c.push_piece.new.rows c.in_ok-found.found c.loop-part-test.true c.part-item.is
          (c.loop-part.invariant.rows (one.clean_disk clean_disk) m held)
          (c.in_ok-found.ensures.row clean_disk m (before.stays (one.clean_disk clean_disk) m held)) c.in_ok-push_piece.ensures;
    }

use Rattle.std.proofs.Common.{rules, subst}
use Rattle.std.specs.Prelude.{All}
use Rattle.std.proofs.lemmas.List.{take_all}
use Rattle.std.proofs.lemmas.List.Elements.{All-more}
use Rattle.shop_audit.specs.Compared.{IsImportAlike}
use Rattle.shop_audit.proofs.Steps.{looked}
use Rattle.shop_audit.proofs.compared.have_same_import_of.Goals as goal

pub loop-code-preserved : goal.loop-code-preserved
loop-code-preserved g c =
    let before = c.loop-code.invariant in
    let one = c.in_ok-same.ensures in
    record {
      same = λ clean clean_anew m k held held_anew.
          let was = one.keeps.clean_disk clean in
          let was_anew = one.keeps_anew.clean_disk clean_anew in
          All-more (IsImportAlike m k) c.args.codes.now c.loop-code.code-index c.code-item.result c.loop-code-test.true (before.same was was_anew m k held held_anew)
          (subst (IsImportAlike m k) c.code-item.is (one.same clean clean_anew m k (before.keeps.stays was m held) (before.keeps_anew.stays was_anew k held_anew) c.if-not-same.false));
      keeps = looked g.B.Book c.args.book.now c.loop-code.book c.has_same_import.new.book before.keeps one.keeps;
      keeps_anew = looked g.F.Book c.args.anew.now c.loop-code.anew c.has_same_import.new.anew before.keeps_anew one.keeps_anew;
    }

pub returns-clause-same : goal.returns-clause-same
returns-clause-same g c =
    λ clean clean_anew m k held held_anew same.
    subst (All (IsImportAlike m k)) (take_all c.loop-code.code-index c.args.codes.now (search rules)) (c.loop-code.invariant.same clean clean_anew m k held held_anew)

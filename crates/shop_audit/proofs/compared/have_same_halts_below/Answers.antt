use Rattle.std.proofs.Common.{arith}
use Rattle.shop_audit.proofs.Halts.{one_more}
use Rattle.shop_audit.proofs.Steps.{looked}
use Rattle.shop_audit.proofs.compared.have_same_halts_below.Goals as goal

pub loop-number-preserved : goal.loop-number-preserved
loop-number-preserved g c =
    let before = c.loop-number.invariant in
    let one = c.in_ok-same.ensures in
    record {
      same = λ clean clean_anew m k held held_anew.
          let was = one.keeps.clean_disk clean in
          let was_anew = one.keeps_anew.clean_disk clean_anew in
          one_more m k c.loop-number.number (before.same was was_anew m k held held_anew)
          (one.same clean clean_anew m k (before.keeps.stays was m held) (before.keeps_anew.stays was_anew k held_anew) c.if-not-same.false);
      keeps = looked g.B.Book c.args.book.now c.loop-number.book c.has_same_halt.new.book before.keeps one.keeps;
      keeps_anew = looked g.F.Book c.args.anew.now c.loop-number.anew c.has_same_halt.new.anew before.keeps_anew one.keeps_anew;
    }

pub returns-clause-same : goal.returns-clause-same
returns-clause-same g c =
    λ clean clean_anew m k held held_anew same number least less.
    let all = c.loop-number.invariant.same clean clean_anew m k held held_anew number least in
    all (let end = c.loop-number-test.false in omega (arith, end, less))

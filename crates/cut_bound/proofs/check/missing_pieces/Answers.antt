use Rattle.std.proofs.Common.{◌≤◌, take_all, inr, refl, subst, arith}
use Rattle.std.specs.Prelude.{All}
use Rattle.std.proofs.lemmas.List.Elements.{All-more}
use Rattle.cut_wants.specs.declared.wants.Want.{Want}
use Rattle.cut_bound.specs.Solutions.{pieces_of}
use Rattle.cut_bound.specs.Planned.{solution_of, missing_of}
use Rattle.cut_bound.proofs.CheckedOrders.{fails_all, mapped_next}
use Rattle.cut_bound.proofs.check.missing_pieces.Goals as goal

pub loop-want-preserved : goal.loop-want-preserved
loop-want-preserved c =
    let P = λ (x : Want). pieces_of (solution_of c.args.units.now) x.demand ≤ x.left in
    record {
      no_more = All-more P c.args.wants.now c.loop-want.want-index c.want-item.result (omega arith) c.loop-want.invariant.no_more (subst P c.want-item.is c.in-Some.ensures.some.1);
      missing =
          mapped_next (missing_of (solution_of c.args.units.now)) c.args.wants.now c.loop-want.want-index c.want-item.result c.loop-want.missing.items c.push.new.self.items c.in-Some.number (omega arith)
          c.want-item.is c.in-Some.ensures.some.0 c.loop-want.invariant.missing c.in-Ok.ensures.items;
    }

pub returns-in_default-clause-err : goal.returns-in_default-clause-err
returns-in_default-clause-err c =
    let P = λ (x : Want). pieces_of (solution_of c.args.units.now) x.demand ≤ x.left in
    inr (refl, fails_all P c.args.wants.now c.loop-want.want-index c.want-item.result (omega arith) c.want-item.is (λ le. absurd (omega (arith, le, c.in_default.ensures.none))))

pub returns-clause-no_more : goal.returns-clause-no_more
returns-clause-no_more c =
    let P = λ (x : Want). pieces_of (solution_of c.args.units.now) x.demand ≤ x.left in
    subst (All P) (take_all c.loop-want.want-index c.args.wants.now (omega arith)) c.loop-want.invariant.no_more

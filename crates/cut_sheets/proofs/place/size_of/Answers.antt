use Rattle.std.proofs.Common.{◌≡◌, arith, sym, subst, take_all}
use Rattle.std.specs.Prelude.{Contains}
use Rattle.cut_wants.specs.declared.wants.Want.{Want}
use Rattle.cut_wants.proofs.LeafSums.{first_each}
use Rattle.cut_sheets.proofs.place.size_of.Goals as goal

pub loop-want-preserved : goal.loop-want-preserved
loop-want-preserved c =
    first_each (λ (x : Want). x.demand ≡ c.args.demand → ⊥) c.args.wants.now c.loop-want.want-index c.want-item.result (omega arith) c.loop-want.invariant
    (subst (λ (x : Want). x.demand ≡ c.args.demand → ⊥) c.want-item.is c.if-want-demand.false)

pub returns-clause-none : goal.returns-clause-none
returns-clause-none c = λ x has e. c.loop-want.invariant x (subst (λ xs. Contains xs x) (sym (take_all c.loop-want.want-index c.args.wants.now (omega arith))) has) e

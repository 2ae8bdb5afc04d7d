use Rattle.std.proofs.Common.{◌+◌, ◌*◌, ◌≤◌, sym, subst, take_all, arith}
use Rattle.std.specs.Prelude.{Contains}
use Rattle.cut_wants.specs.declared.wants.Want.{Want}
use Rattle.cut_wants.proofs.LeafSums.{first_each}
use Rattle.cut_bars.proofs.OfferedPieces.{gain_wider}
use Rattle.cut_bars.proofs.bar.highest_price.Goals as goal

pub price-requires-clause-worth : goal.price-requires-clause-worth
price-requires-clause-worth c = (c.requires.modest c.want-item.result (c.loop-want.want-index, omega arith, sym c.want-item.is)).worth

pub loop-want-preserved : goal.loop-want-preserved
loop-want-preserved c =
    let here = gain_wider c.price.result c.max-highest.result (c.want-item.result.size.w + c.args.kerf) c.want-item.result.worth (omega arith) c.price.ensures.enough in (
      first_each (λ (x : Want). x.worth ≤ (x.size.w + c.args.kerf) * c.max-highest.result) c.args.wants.now c.loop-want.want-index c.want-item.result (omega arith)
          (λ x has. gain_wider c.loop-want.highest c.max-highest.result (x.size.w + c.args.kerf) x.worth (omega arith) (c.loop-want.invariant.0 x has))
          (subst (λ (x : Want). x.worth ≤ (x.size.w + c.args.kerf) * c.max-highest.result) c.want-item.is here),
      omega (arith, c.price.ensures.small, c.loop-want.invariant.1),
    )

pub returns-clause-enough : goal.returns-clause-enough
returns-clause-enough c =
    subst (λ xs. (x : Want) → Contains xs x → x.worth ≤ (x.size.w + c.args.kerf) * c.loop-want.highest) (take_all c.loop-want.want-index c.args.wants.now (omega arith)) c.loop-want.invariant.0

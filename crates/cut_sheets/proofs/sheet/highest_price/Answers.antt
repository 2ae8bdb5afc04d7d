use Rattle.std.proofs.Common.{◌≤◌, ◌*◌, sym, subst, take_all, arith}
use Rattle.cut_wants.specs.declared.wants.Want.{Want}
use Rattle.cut_sheets.specs.Table.{ArePriced}
use Rattle.cut_wants.proofs.LeafSums.{first_each}
use Rattle.cut_sheets.proofs.SheetTables.{dearer}
use Rattle.cut_sheets.proofs.sheet.highest_price.Goals as goal

pub price-requires-clause-sides : goal.price-requires-clause-sides
price-requires-clause-sides c =
    let s = c.requires.small c.want-item.result (c.loop-want.want-index, omega arith, sym c.want-item.is) in
    (s.0, s.1)

pub price-requires-clause-worth : goal.price-requires-clause-worth
price-requires-clause-worth c = (c.requires.small c.want-item.result (c.loop-want.want-index, omega arith, sym c.want-item.is)).2

pub loop-want-preserved : goal.loop-want-preserved
loop-want-preserved c =
    let s = c.requires.small c.want-item.result (c.loop-want.want-index, omega arith, sym c.want-item.is) in
    let here = dearer c.want-item.result c.price.result c.max-highest.result (s.0, s.1, c.price.ensures.enough) (omega arith) in (
      first_each (λ (x : Want). (1 ≤ x.size.w) × (1 ≤ x.size.h) × (x.worth ≤ c.max-highest.result * (x.size.w * x.size.h))) c.args.wants.now c.loop-want.want-index c.want-item.result (omega arith)
          (λ x has. dearer x c.loop-want.highest c.max-highest.result (c.loop-want.invariant.0 x has) (omega arith))
          (subst (λ (x : Want). (1 ≤ x.size.w) × (1 ≤ x.size.h) × (x.worth ≤ c.max-highest.result * (x.size.w * x.size.h))) c.want-item.is here),
      omega (arith, c.price.ensures.small, c.loop-want.invariant.1),
    )

pub returns-clause-priced : goal.returns-clause-priced
returns-clause-priced c = subst (λ xs. ArePriced c.loop-want.highest xs) (take_all c.loop-want.want-index c.args.wants.now (omega arith)) c.loop-want.invariant.0

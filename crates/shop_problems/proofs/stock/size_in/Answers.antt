use Rattle.std.proofs.Common.{subst, sym}
use Rattle.std.specs.Prelude.{MatchOption}
use Rattle.cut_measure.specs.Measures.{Size}
use Rattle.shop_problems.specs.Stock.{IsSizeText}
use Rattle.shop_problems.proofs.stock.size_in.Goals as goal

pub returns-in-Bar : goal.returns-in-Bar
returns-in-Bar c =
    subst (λ kind. MatchOption c.bar_in.result ((size : Size) → IsSizeText kind c.args.text.now size → ⊥) (IsSizeText kind c.args.text.now))
    (sym c.in-Bar.is) c.bar_in.ensures

pub returns-in-Sheet : goal.returns-in-Sheet
returns-in-Sheet c =
    subst (λ kind. MatchOption c.sheet_in.result ((size : Size) → IsSizeText kind c.args.text.now size → ⊥) (IsSizeText kind c.args.text.now))
    (sym c.in-Sheet.is) c.sheet_in.ensures

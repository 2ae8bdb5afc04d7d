use Rattle.shop_audit.specs.Compared.{HaltAlikeBelow, IsLookedAt, OnBoth}
use Rattle.shop_audit.proofs.compared.have_same_halts_below.Given as goal

abbrev pub invariant-loop-number : goal.invariant-loop-number
invariant-loop-number g l =
    record {
      same : OnBoth g.B.Book g.F.Book l.fn.book l.book l.fn.anew l.anew (λ m c. HaltAlikeBelow m c l.number);
      keeps : IsLookedAt g.B.Book l.fn.book l.book;
      keeps_anew : IsLookedAt g.F.Book l.fn.anew l.anew;
    }

use Rattle.std.proofs.Common.{All, take}
use Rattle.shop_audit.specs.Compared.{IsImportAlike, IsLookedAt, OnBoth}
use Rattle.shop_audit.proofs.compared.have_same_import_of.Given as goal

abbrev pub invariant-loop-code : goal.invariant-loop-code
invariant-loop-code g l =
    record {
      same : OnBoth g.B.Book g.F.Book l.fn.book l.book l.fn.anew l.anew (λ m c. All (IsImportAlike m c) (take l.code-index l.codes));
      keeps : IsLookedAt g.B.Book l.fn.book l.book;
      keeps_anew : IsLookedAt g.F.Book l.fn.anew l.anew;
    }

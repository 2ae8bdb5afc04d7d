use Rattle.std.proofs.Common.{◌≡◌, ◌-◌, ◌≤◌, true}
use Rattle.std.specs.FinMap.{values}
use Rattle.shop_forms.specs.Forms.{json_texts}
use Rattle.shop_records.specs.Content.{Content}
use Rattle.shop_audit.specs.Compared.{IsLookedAt}
use Rattle.shop_audit.specs.Pages.{GoesOn, IsByNumber}
use Rattle.shop_audit.specs.Whole.{HoldsPart}
use Rattle.shop_audit.proofs.again.all_again.Given as goal

abbrev pub invariant-loop-before : goal.invariant-loop-before
invariant-loop-before g l =
    record {
      given : l.same ≡ true → g.F.Book.has_clean_disk l.anew → g.B.Book.has_clean_disk l.book → (m : Content) → g.B.Book.holds l.fn.book m → (w : Content) → IsByNumber m w → HoldsPart json_texts g.F.Book w l.anew l.before;
      goes : l.same ≡ true → g.B.Book.has_clean_disk l.book → (m : Content) → g.B.Book.holds l.fn.book m → GoesOn 0 l.before (values m.entries);
      most : l.before ≤ l.entries;
      clean_disk : g.F.Book.has_clean_disk l.anew → g.F.Book.has_clean_disk l.fn.anew;
      keeps : IsLookedAt g.B.Book l.fn.book l.book;
    }

abbrev pub decreases-loop-before : goal.decreases-loop-before
decreases-loop-before g l = l.entries - l.before

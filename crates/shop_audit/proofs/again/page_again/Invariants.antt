use Rattle.std.proofs.Common.{◌≡◌, ◌+◌, take, true}
use Rattle.shop_forms.specs.Forms.{json_texts}
use Rattle.shop_records.specs.Content.{Content}
use Rattle.shop_audit.specs.Compared.{IsLookedAt}
use Rattle.shop_audit.specs.Pages.{AreByNumber, NumberedBehind}
use Rattle.shop_audit.specs.Whole.{HoldsPart}
use Rattle.shop_audit.proofs.again.page_again.Given as goal

abbrev pub invariant-loop-entry : goal.invariant-loop-entry
invariant-loop-entry g l =
    record {
      given : l.same ≡ true → g.F.Book.has_clean_disk l.anew → g.B.Book.has_clean_disk l.book → (m : Content) → g.B.Book.holds l.fn.book m → (w : Content)
          → w.kept ≡ m.kept → AreByNumber w l.page → HoldsPart json_texts g.F.Book w l.fn.anew l.before → HoldsPart json_texts g.F.Book w l.anew l.number;
      numbers : l.same ≡ true → NumberedBehind l.before (take l.entry-index l.page);
      number : l.number ≡ l.before + l.entry-index;
      clean_disk : g.F.Book.has_clean_disk l.anew → g.F.Book.has_clean_disk l.fn.anew;
      keeps : IsLookedAt g.B.Book l.fn.book l.book;
    }

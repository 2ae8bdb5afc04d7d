-- What a book's readings and writings promise of the book, in the words that a book gives.
use Rattle.std.specs.Prelude.{ℕ}
use Rattle.shop_records.specs.Content.{Content}

module _ {Book Left : Type 0} (has_clean_disk : Book → Type 0) (holds : Book → Content → Type 0) (may_leave : Book → Left → Type 0) (failed : Book → ℕ) where
  -- the book is left as it was: a clean disk was clean before, holds what it held, and a crash leaves nothing that it
  -- couldn't before
  pub record Keeps (counts : ℕ → ℕ → Type 0) (old new : Book) : Type 0 where
    pub clean_disk : has_clean_disk new → has_clean_disk old
    pub stays : has_clean_disk new → (m : Content) → holds old m → holds new m
    pub crash : has_clean_disk new → (m : Content) → holds old m → (left : Left) → may_leave new left → may_leave old left
    pub failures : counts (failed old) (failed new)

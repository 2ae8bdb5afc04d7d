-- What a reading of a storage leaves.
use Rattle.shop_records.specs.Content.{Content}

module _ {Storage Left : Type 0} (has_clean_disk : Storage → Type 0) (holds : Storage → Content → Type 0) (may_leave : Storage → Left → Type 0) where
  -- the storage is left as it was: a clean disk was clean before, holds what it held, and a crash leaves nothing that it
  -- couldn't before
  pub record IsRead (old new : Storage) : Type 0 where
    pub clean_disk : has_clean_disk new → has_clean_disk old
    pub stays : has_clean_disk new → (m : Content) → holds old m → holds new m
    pub crash : has_clean_disk new → (m : Content) → holds old m → (left : Left) → may_leave new left → may_leave old left

-- When a connection holds a content in tables of version 2 or 1, in which there is no entry.
use Rattle.std.specs.Prelude.{◌≡◌, ◌⊎◌}
use Rattle.std.specs.FinMap.{FinMap, empty}
use Rattle.sqlite.specs.State.{State}
use Rattle.cut_measure.specs.Codes.{code_cmp}
use Rattle.shop_records.specs.Content.{Content}
use Rattle.shop_records.specs.WellFormed.{HasLines}
use Rattle.shop_records.specs.declared.records.Totals.{Totals}
use Rattle.shop_tables.specs.Changing.{HasSums}
use Rattle.shop_statements.specs.Earlier.{HoldsEarlier, HoldsSecond, IsSettledEarlier, IsSettledSecond}
use Rattle.shop_statements.specs.Shown.{Books}
use Rattle.shop_tables.specs.Held.{books, IsSettledAt}

-- The connection holds the content in an older version, whose orders have their lines, and as totals the sums of its parts.
pub record HoldsOlder (Holds : State → Books → Type 0) (s : State) (m : Content) : Type 0 where
  pub lines : HasLines m
  pub none : m.entries ≡ empty
  pub totals : FinMap code_cmp Totals
  pub sums : HasSums (books m totals empty)
  pub holds : Holds s (books m totals empty)

-- The connection sees the content in an older version, whose orders have their lines, with the sums of its parts as totals,
-- and the last commit is what it sees.
pub record IsSettledOlder (IsSettled : State → Books → Type 0) (s : State) (m : Content) : Type 0 where
  pub lines : HasLines m
  pub totals : FinMap code_cmp Totals
  pub sums : HasSums (books m totals empty)
  pub settled : IsSettled s (books m totals empty)

abbrev pub HoldsFirstContent : State → Content → Type 0
HoldsFirstContent = HoldsOlder HoldsEarlier

abbrev pub HoldsSecondContent : State → Content → Type 0
HoldsSecondContent = HoldsOlder HoldsSecond

-- in version 2 or in version 1
abbrev pub HoldsEarlierContent : State → Content → Type 0
HoldsEarlierContent s m = HoldsSecondContent s m ⊎ HoldsFirstContent s m

abbrev pub IsSettledFirstAt : State → Content → Type 0
IsSettledFirstAt = IsSettledOlder IsSettledEarlier

abbrev pub IsSettledSecondAt : State → Content → Type 0
IsSettledSecondAt = IsSettledOlder IsSettledSecond

-- it sees the content in version 2 or in version 1
abbrev pub IsSettledEarlierAt : State → Content → Type 0
IsSettledEarlierAt s m = IsSettledSecondAt s m ⊎ IsSettledFirstAt s m

-- it sees the content in version 3, or in version 2 or 1
abbrev pub IsSettledEitherAt : State → Content → Type 0
IsSettledEitherAt s m = IsSettledAt s m ⊎ IsSettledEarlierAt s m

-- What is known of tables of version 2 or 1 is known of a content in them, which has no entry.
use Rattle.std.proofs.Common.{◌≡◌, ℕ, List, [], inl, inr, Option, None, sym, ap, subst, ◌∙◌, true≢false}
use Rattle.std.specs.Prelude.{IsSome, filter, is_some, map, nat_lt}
use Rattle.std.specs.FinMap.{FinMap, empty, entries, get, get-empty, len, len-empty}
use Rattle.std.specs.Ordering.{nat_cmp}
use Rattle.sqlite.specs.State.{State, Survives}
use Rattle.sqlite.proofs.StateLemmas.{survives_then, survives_weaker}
use Rattle.cut_measure.specs.Codes.{code_cmp}
use Rattle.shop_records.specs.Elements.{IsIn}
use Rattle.shop_records.specs.Content.{Content, entry_at, entry_count, of_found}
use Rattle.shop_records.specs.Lists.{entries_behind}
use Rattle.shop_records.specs.declared.journal.Entry.{Entry}
use Rattle.shop_records.specs.declared.records.Totals.{Totals}
use Rattle.shop_statements.specs.Rows.{use_cmp}
use Rattle.shop_tables.specs.Changing.{HasTrail}
use Rattle.shop_tables.specs.Held.{books, HoldsContent, StandsFor}
use Rattle.shop_statements.specs.Shown.{Books, Holds, Leaves, StandsIn}
use Rattle.shop_statements.specs.Earlier.{earlier_schema, second_schema}
use Rattle.shop_book.specs.Ends.{AreEnds}
use Rattle.shop_tables.proofs.Lays.{no_entries}
use Rattle.shop_tables.proofs.EarlierRows.{stays_earlier, stays_second}
use Rattle.shop_store.specs.EarlierBooks.{HoldsEarlierContent, HoldsFirstContent, HoldsOlder, HoldsSecondContent, IsSettledEarlierAt, IsSettledFirstAt, IsSettledSecondAt}
use Rattle.shop_store.specs.Storing.{IsRemembered}
use Rattle.shop_store.specs.declared.remembered.Remembered.{Remembered}

gone : {X : Type 0} (found : Option X) → found ≡ None → IsSome found → ⊥
gone found is there = true≢false (sym there ∙ ap is_some is)

-- no entries have no gap
pub no_trail : (m : Content) (totals : FinMap code_cmp Totals) → m.entries ≡ empty → HasTrail (books m totals empty)
no_trail m totals none = record {
  numbers = λ number there. absurd (gone (entry_at m number) (ap (λ (es : FinMap nat_cmp Entry). get es number) none ∙ get-empty nat_cmp number) there);
  uses = λ x there. absurd (gone (get (empty {X = Unit {0}} {R = use_cmp}) x) (get-empty use_cmp x) there);
}

-- there is nothing to remember
pub none_remembered : (m : Content) → m.entries ≡ empty → (it : Remembered) → it.number ≡ 0 → it.at ≡ 0 → AreEnds [] it.ends → IsRemembered m it
none_remembered m none it number at ends =
    let count : entry_count m ≡ 0 = ap (λ (es : FinMap nat_cmp Entry). len es) none ∙ len-empty nat_cmp Entry in
    let last : entry_at m (entry_count m) ≡ None = ap (λ (es : FinMap nat_cmp Entry). get es (entry_count m)) none ∙ get-empty nat_cmp (entry_count m) in
    let behind : entries_behind m 0 ≡ [] =
    ap (λ (es : List (ℕ × Entry)). filter (λ (entry : Entry). nat_lt 0 entry.number) (map (λ (e : ℕ × Entry). e.1) es)) (ap (λ (es : FinMap nat_cmp Entry). entries es) none ∙ no_entries nat_cmp Entry) in
    record {
      of_last = number ∙ sym count;
      time = at ∙ sym (ap (of_found (λ (entry : Entry). entry.at)) last);
      of_jobs = subst (λ es. AreEnds es it.ends) (sym behind) ends;
      filed = λ entry there. absurd (subst (IsIn entry) behind there);
    }

module _ (H : State → Books → Type 0) (stays : (old new : State) (b : Books) → Leaves old new → H old b → H new b) where
  pub stays_older : (old new : State) (m : Content) → Leaves old new → HoldsOlder H old m → HoldsOlder H new m
  stays_older old new m leaves was = record { lines = was.lines; none = was.none; totals = was.totals; sums = was.sums; holds = stays old new (books m was.totals empty) leaves was.holds }

  -- after a reading and a renewal
  module _ (old mid new : State) (leaves : Leaves old mid) (m : Content) (was : HoldsOlder H old m) where
    now : H mid (books m was.totals empty)
    now = stays old mid (books m was.totals empty) leaves was.holds

    pub renewed_survives : ((b : Books) → H mid b → Survives mid new (λ db. StandsIn db b)) → Survives old new (λ db. StandsFor db m)
    renewed_survives h =
        survives_then old mid new (λ _. ⊥) (λ db. StandsIn db (books m was.totals empty)) (λ db. StandsFor db m) (λ _ db none. absurd none)
        (λ _ db stands. record { lines = was.lines; totals = was.totals; uses = empty; sums = was.sums; trail = no_trail m was.totals was.none; stands = stands }) leaves.survives (h (books m was.totals empty) now)

-- what is made of it holds the content
pub made_of : (H : State → Books → Type 0) (old new : State) (m : Content) (was : HoldsOlder H old m) → Holds new (books m was.totals empty) → HoldsContent new m
made_of H old new m was held = record { lines = was.lines; totals = was.totals; uses = empty; sums = was.sums; trail = no_trail m was.totals was.none; holds = held }

-- a reading leaves what a crash may leave
pub leaves_survives : (old new : State) (m : Content) → Leaves old new → Survives old new (λ db. StandsFor db m)
leaves_survives old new m leaves = survives_weaker old new _ _ (λ _ db none. absurd none) leaves.survives

-- ---- which of both versions

-- it is of neither
pub older : (s : State) (m : Content) → IsSettledEarlierAt s m → (s.now.schema ≡ second_schema → ⊥) → (s.now.schema ≡ earlier_schema → ⊥) → ⊥
older s m (inl was) two one = two was.settled.shows.schema
older s m (inr was) two one = one was.settled.shows.schema

after_second : (old new : State) (m : Content) → Leaves old new → IsSettledSecondAt old m → HoldsSecondContent new m
after_second old new m leaves was = record { lines = was.lines; none = was.settled.shows.stands.none; totals = was.totals; sums = was.sums; holds = stays_second old new (books m was.totals empty) leaves (λ _ _. was.settled) }

after_first : (old new : State) (m : Content) → Leaves old new → IsSettledFirstAt old m → HoldsFirstContent new m
after_first old new m leaves was = record { lines = was.lines; none = was.settled.shows.stands.none; totals = was.totals; sums = was.sums; holds = stays_earlier old new (books m was.totals empty) leaves (λ _ _. was.settled) }

pub held_second : (old new : State) (m : Content) → Leaves old new → (old.now.schema ≡ earlier_schema → ⊥) → IsSettledEarlierAt old m → HoldsSecondContent new m
held_second old new m leaves one (inl was) = after_second old new m leaves was
held_second old new m leaves one (inr was) = absurd (one was.settled.shows.schema)

pub held_first : (old new : State) (m : Content) → Leaves old new → (old.now.schema ≡ second_schema → ⊥) → IsSettledEarlierAt old m → HoldsFirstContent new m
held_first old new m leaves two (inl was) = absurd (two was.settled.shows.schema)
held_first old new m leaves two (inr was) = after_first old new m leaves was

pub held_older : (old new : State) (m : Content) → Leaves old new → IsSettledEarlierAt old m → HoldsEarlierContent new m
held_older old new m leaves (inl was) = inl (after_second old new m leaves was)
held_older old new m leaves (inr was) = inr (after_first old new m leaves was)

pub leaves_older : (old new : State) (m : Content) → (old.now.schema ≡ second_schema → Leaves old new) → (old.now.schema ≡ earlier_schema → Leaves old new) → IsSettledEarlierAt old m → Leaves old new
leaves_older old new m two one (inl was) = two was.settled.shows.schema
leaves_older old new m two one (inr was) = one was.settled.shows.schema

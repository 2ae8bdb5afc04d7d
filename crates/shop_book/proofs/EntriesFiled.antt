-- Entries in an index, and which of them has a key of a story.
use Rattle.std.proofs.Common.{◌≡◌, ℕ, ◌+◌, ◌-◌, ◌<◌, ◌≤◌, arith, Bool, true, false, List, [], ◌∷◌, length, take, get_or, inl, inr, refl, sym, ap, subst, ◌∙◌, true≢false}
use Rattle.std.proofs.Math.Nat.{min-le_left}
use Rattle.std.specs.Prelude.{◌⊎◌, ◌&&◌, ◌||◌, ◌==◌, IfSome, IsTrue, Option, Some, None, min, option_map, unwrap_or}
use Rattle.std.specs.FinMap.{values}
use Rattle.std.specs.Option.{IsSomeAnd}
use Rattle.std.proofs.lemmas.Bool.{and_parts, eqb-true}
use Rattle.cut_measure.specs.Names.{Name}
use Rattle.shop_records.specs.Content.{Content}
use Rattle.shop_records.specs.Elements.{IsIn}
use Rattle.shop_records.specs.Lists.{ends_job, entries_behind, made_part, makes_units, undoes_job}
use Rattle.shop_records.specs.Same.{same_code, same_name}
use Rattle.shop_records.specs.declared.journal.Entry.{Entry}
use Rattle.shop_records.specs.declared.journal.Subject.{Subject}
use Rattle.shop_records.specs.declared.journal.Subject.TheVariants as subject
use Rattle.shop_rows.proofs.ByLine.{filter_in}
use Rattle.shop_book.specs.FiledEntries.{filed_number, is_named, AreEntriesFiled, HasKey, IsEntryFiled, IsNamedIn, IsUnderAny, IsUnderSome, SkipsNone}
use Rattle.shop_book.specs.Filing.{first_left, is_filed_in, is_filed_of, PassesNone, StaysFiled}
use Rattle.shop_book.specs.declared.number_index.NumberIndex.{NumberIndex}
use Rattle.shop_book.proofs.Filed.{in_next, one_code, one_name}
use Rattle.shop_book.proofs.JobsFiled.{either}

-- ---- what is filed

-- what is said of what is there holds of each that it is
pub some_is : {X : Type 0} (P : X → Type 0) (found : Option X) → IfSome found P → (x : X) → found ≡ Some x → P x
some_is P None h x e = cc
some_is P (Some y) h x e = let same : y ≡ x = cc in subst P same h

pub entry_stays : (old new : NumberIndex) (entry : Entry) → StaysFiled old new → IsEntryFiled old entry → IsEntryFiled new entry
entry_stays old new entry stays f =
    let n = filed_number entry.number in
    record {
      job = λ some. stays.numbers entry.job n (f.job some);
      act = λ some. stays.numbers entry.act n (f.act some);
      order = λ code is. stays.codes code n (f.order code is);
      part = λ name is. stays.names name n (f.part name is);
    }

pub filed_as : (index : NumberIndex) (entry : Entry) (n : ℕ) → n ≡ filed_number entry.number → IsUnderSome index entry.job n → IsUnderSome index entry.act n → ((code : List ℕ) → entry.order ≡ Some code → IsTrue (is_filed_of index code n))
    → ((name : Name) → entry.part ≡ Some name → IsTrue (is_filed_in index name n)) → IsEntryFiled index entry
filed_as index entry n is job act order part = record {
  job = subst (λ k. IsUnderSome index entry.job k) is job;
  act = subst (λ k. IsUnderSome index entry.act k) is act;
  order = λ code there. subst (λ k. IsTrue (is_filed_of index code k)) is (order code there);
  part = λ name there. subst (λ k. IsTrue (is_filed_in index name k)) is (part name there);
}

pub entries_stay : (old new : NumberIndex) (entries : List Entry) → StaysFiled old new → AreEntriesFiled old entries → AreEntriesFiled new entries
entries_stay old new entries stays are entry there = entry_stays old new entry stays (are entry there)

pub entry_filed : (index : NumberIndex) (entry : Entry) → IsEntryFiled index entry → AreEntriesFiled index (entry ∷ [])
entry_filed index entry filed other (inl e) = subst (IsEntryFiled index) (sym e) filed
entry_filed index entry filed other (inr i) = absurd i

pub entries_more : (index : NumberIndex) (entries : List Entry) (i : ℕ) (entry : Entry) → i < length entries → entry ≡ get_or entries i entry → AreEntriesFiled index (take i entries) → AreEntriesFiled index (entry ∷ [])
    → AreEntriesFiled index (take (i + 1) entries)
entries_more index entries i entry within is before own other there = elim (in_next entries i entry other within is there) [ inl j ↦ before other j | inr j ↦ own other j ]

-- the entries behind none are among all
pub filed_behind : (index : NumberIndex) (m : Content) → AreEntriesFiled index (values m.entries) → AreEntriesFiled index (entries_behind m 0)
filed_behind index m are entry there = are entry (filter_in _ (values m.entries) entry there).0

-- ---- the next number

pub any_more : (index : NumberIndex) (acts : List ℕ) (last : Option ℕ) (i act : ℕ) (first own result : Option ℕ) → i < length acts → act ≡ get_or acts i act → PassesNone (IsUnderAny index (take i acts)) last first → PassesNone (IsUnderSome index act) last own
    → ((n : ℕ) → IsSomeAnd first (λ x. x ≤ n) → IsSomeAnd result (λ x. x ≤ n)) → ((n : ℕ) → IsSomeAnd own (λ x. x ≤ n) → IsSomeAnd result (λ x. x ≤ n))
    → (n : ℕ) → first_left last ≤ n → IsUnderAny index (take (i + 1) acts) n → IsSomeAnd result (λ x. x ≤ n)
any_more index acts last i act first own result within is before next later other n left filed = by (in_next acts i act filed.act within is filed.among)
  where
    by : IsIn filed.act (take i acts) ⊎ IsIn filed.act (act ∷ []) → IsSomeAnd result (λ x. x ≤ n)
    by (inl j) = later n (before.none n left (record { act = filed.act; among = j; filed = filed.filed }))
    by (inr (inl e)) = other n (next.none n left (subst (λ a. IsUnderSome index a n) e filed.filed))
    by (inr (inr j)) = absurd j

-- an entry with the code or the name is filed under it
named_in : (index : NumberIndex) (about : Subject) (entry : Entry) → IsEntryFiled index entry → is_named about entry ≡ true → IsNamedIn index about (filed_number entry.number)
named_in index (subject.Order code) entry f named = by entry.order refl named
  where
    n : ℕ
    n = filed_number entry.number

    by : (found : Option (List ℕ)) → entry.order ≡ found → unwrap_or (option_map (same_code code) found) false ≡ true → IsTrue (is_filed_of index code n)
    by None is e = absurd (true≢false (sym e))
    by (Some other) is e = subst (λ (c : List ℕ). IsTrue (is_filed_of index c n)) (sym (one_code code other e)) (f.order other is)
named_in index (subject.Job number) entry f named = absurd (true≢false (sym named))
named_in index (subject.Part name) entry f named = by entry.part refl named
  where
    n : ℕ
    n = filed_number entry.number

    by : (found : Option Name) → entry.part ≡ found → unwrap_or (option_map (same_name name) found) false ≡ true → IsTrue (is_filed_in index name n)
    by None is e = absurd (true≢false (sym e))
    by (Some other) is e = subst (λ (p : Name). IsTrue (is_filed_in index p n)) (sym (one_name name other e)) (f.part other is)

module _ (index : NumberIndex) (about : Subject) (acts : List ℕ) (after : ℕ) (entries : List Entry) (filed : AreEntriesFiled index entries) where
  -- from the greatest filed number on nothing is skipped
  pub skips_late : SkipsNone entries about acts after (Some after)
  skips_late = record { left = omega arith; none = λ entry there behind key. behind }

  -- a number under which it is filed is no less than the first
  found : (first : Option ℕ) → PassesNone (IsNamedIn index about) (Some after) first → PassesNone (IsUnderAny index acts) (Some after) first → (entry : Entry) → IsIn entry entries → after + 1 ≤ filed_number entry.number → HasKey about acts entry
      → IsSomeAnd first (λ x. x ≤ filed_number entry.number)
  found first named worked entry there left (inl is) = named.none (filed_number entry.number) left (named_in index about entry (filed entry there) is)
  found first named worked entry there left (inr (inl i)) = worked.none (filed_number entry.number) left (record { act = entry.job; among = i; filed = (filed entry there).job })
  found first named worked entry there left (inr (inr i)) = worked.none (filed_number entry.number) left (record { act = entry.act; among = i; filed = (filed entry there).act })

  left_of : after < 4294967295 → (entry : Entry) → after < entry.number → after + 1 ≤ filed_number entry.number
  left_of early entry behind = omega (arith, early, behind)

  pub skips_all : after < 4294967295 → PassesNone (IsNamedIn index about) (Some after) None → PassesNone (IsUnderAny index acts) (Some after) None → SkipsNone entries about acts after None
  skips_all early named worked = record { left = tt; none = λ entry there behind key. found None named worked entry there (left_of early entry behind) key }

  pub skips_to : after < 4294967295 → (first : ℕ) → PassesNone (IsNamedIn index about) (Some after) (Some first) → PassesNone (IsUnderAny index acts) (Some after) (Some first) → SkipsNone entries about acts after (Some (first - 1))
  skips_to early first named worked =
      let more : after + 1 ≤ first = named.left in
      record {
        left = omega (arith, more);
        none = λ entry there behind key.
            let le : first ≤ filed_number entry.number = found (Some first) named worked entry there (left_of early entry behind) key in
            let own : filed_number entry.number ≤ entry.number = min-le_left entry.number 4294967295 in
            omega (arith, le, own, more);
      }

-- ---- the acts of a part

-- an entry that made a part, or took it back, has the part's act as its own or as its job
pub made_has : (name : Name) (acts : List ℕ) (entry : Entry) → IsIn name.act acts → made_part name entry ≡ true → IsIn entry.job acts ⊎ IsIn entry.act acts
made_has name acts entry own made = by (either (makes_units entry.word && (entry.act == name.act)) ((ends_job entry.word || undoes_job entry.word) && (entry.job == name.act)) made)
  where
    by : ((makes_units entry.word && (entry.act == name.act)) ≡ true) ⊎ (((ends_job entry.word || undoes_job entry.word) && (entry.job == name.act)) ≡ true) → IsIn entry.job acts ⊎ IsIn entry.act acts
    by (inl e) = inr (subst (λ n. IsIn n acts) (sym (eqb-true entry.act name.act (and_parts _ _ e).1)) own)
    by (inr e) = inl (subst (λ n. IsIn n acts) (sym (eqb-true entry.job name.act (and_parts _ _ e).1)) own)

-- Entries of a content, and what stays true of a content whatever its entries are.
use Rattle.std.proofs.Common.{◌≡◌, ℕ, ◌+◌, ◌≤◌, ◌<◌, Bool, true, false, refl, sym, ap, subst, ◌∙◌, arith, inl, inr, cond}
use Rattle.std.specs.Prelude.{Option, Some, None, IsSome, is_some, nat_lt}
use Rattle.std.proofs.lemmas.Bool.{ltb-true, ltb-false}
use Rattle.std.specs.Cmp.{nat_cmp_total}
use Rattle.std.specs.Ordering.{nat_cmp}
use Rattle.std.specs.FinMap.{FinMap, empty, get, get-empty, insert, len, len-empty, len-insert, nat_cmp-IsAntisymmetric}
use Rattle.shop_records.specs.declared.journal.Entry.{Entry as EntryRow}
use Rattle.shop_records.specs.declared.records.JobHalt.{JobHalt}
use Rattle.shop_records.specs.declared.texts.MessageId.{MessageId}
use Rattle.shop_records.specs.Messages.{Texts}
use Rattle.shop_records.specs.Content.{Content, kept_at, entry_at, entry_count, last_entry, last_time, of_found, forgotten}
use Rattle.shop_records.specs.WellFormed.{IsEntry, AreEntries, IsHalted, IsWellFormed}
use Rattle.shop_records.proofs.Basics.{none_at, get_same, get_other, none_some}
use Rattle.shop_records.proofs.Puts.{found_one, some_known, is_known, still_there}
use Rattle.shop_machine.proofs.Grown.{Grows, IsStock, stock_of, placed_more, job_more, demand_more}

-- a content with other entries
abbrev pub with_entries : FinMap nat_cmp EntryRow → Content → Content
with_entries entries content = record content { entries = entries }

-- and with other rows of where the work on jobs halted
abbrev pub with_rest : FinMap nat_cmp JobHalt → FinMap nat_cmp EntryRow → Content → Content
with_rest halts entries content = record content { halts = halts; entries = entries }

-- ---- a well-formed content is well-formed but for its entries

stock_entries : (m : Content) (halts : FinMap nat_cmp JobHalt) (entries : FinMap nat_cmp EntryRow)
    → ((number : ℕ) (row : JobHalt) → get halts number ≡ Some row → IsHalted m.jobs number row) → IsStock m → IsStock (with_rest halts entries m)
stock_entries m halts entries halted stock =
    let after : Content = with_rest halts entries m in
    let grows : Grows m after = record { materials = λ code x is. is; parts = λ name p is. (p.state, is); demands = λ number h. h; orders = λ code is. is; acts = omega arith } in
    record {
      in_range = record { acts = stock.in_range.acts; last = stock.in_range.last; last_demand = stock.in_range.last_demand; received = stock.in_range.received; adds_up = stock.in_range.adds_up };
      materials = stock.materials;
      parts = λ name part is. placed_more m after grows name part (stock.parts name part is);
      jobs = λ number j is. job_more m after grows number j (λ w. record { same = refl; none_yet = w.none_yet }) (stock.jobs number j is);
      halts = halted;
      demands = λ number d is.
          let old = stock.demands number d is in
          demand_more m after grows (omega arith) number d old (record { few = old.counted.few; reserved = old.counted.reserved; made = old.counted.made });
      lines = stock.lines;
    }

well_formed_rest : (texts : Texts) (m : Content) (halts : FinMap nat_cmp JobHalt) (entries : FinMap nat_cmp EntryRow)
    → ((number : ℕ) (row : JobHalt) → get halts number ≡ Some row → IsHalted m.jobs number row) → IsWellFormed texts m → AreEntries (with_rest halts entries m)
    → IsWellFormed texts (with_rest halts entries m)
well_formed_rest texts m halts entries halted well_formed are =
    let stock = stock_entries m halts entries halted (stock_of texts m well_formed) in
    record {
      in_range = stock.in_range;
      materials = stock.materials;
      parts = stock.parts;
      jobs = stock.jobs;
      halts = stock.halts;
      begun = well_formed.begun;
      notes = well_formed.notes;
      demands = stock.demands;
      lines = stock.lines;
      kept = well_formed.kept;
      imports = λ code row is. let i = well_formed.imports code row is in record { ordered = i.ordered; answer = i.answer; reports = i.reports };
      entries = are;
    }

pub well_formed_entries : (texts : Texts) (m : Content) (entries : FinMap nat_cmp EntryRow) → IsWellFormed texts m → AreEntries (with_entries entries m) → IsWellFormed texts (with_entries entries m)
well_formed_entries texts m entries well_formed are = well_formed_rest texts m m.halts entries well_formed.halts well_formed are

-- ---- no entries

pub no_entries_at : (content : Content) → content.entries ≡ empty → AreEntries content
no_entries_at content none = record {
  each = λ number entry is. absurd (none_some entry (sym (get-empty nat_cmp number) ∙ sym (ap (λ (es : FinMap nat_cmp EntryRow). get es number) none) ∙ is));
  no_gap = λ number least most.
      let zero_of : entry_count content ≡ 0 = ap (λ (es : FinMap nat_cmp EntryRow). len es) none ∙ len-empty nat_cmp EntryRow in
      absurd (omega (arith, least, most, zero_of));
  rising = λ a b one other is is_too le. absurd (none_some one (sym (get-empty nat_cmp a) ∙ sym (ap (λ (es : FinMap nat_cmp EntryRow). get es a) none) ∙ is));
}

-- a well-formed content that forgets its entries, and where the work on its jobs halted, is well-formed
pub well_formed_forgotten : (texts : Texts) (m : Content) → IsWellFormed texts m → IsWellFormed texts (forgotten m)
well_formed_forgotten texts m well_formed = well_formed_rest texts m empty empty (λ number row is. absurd (none_some row (sym (get-empty nat_cmp number) ∙ is))) well_formed (no_entries_at (forgotten m) refl)

-- ---- entries that stay

-- the same entries, where what was kept is kept
pub entries_stay : (m after : Content) → after.entries ≡ m.entries → ((message_id : MessageId) → IsSome (kept_at m message_id) → IsSome (kept_at after message_id)) → AreEntries m → AreEntries after
entries_stay m after same kept are = record {
  each = λ number entry is.
      let old = are.each number entry (sym (ap (λ (es : FinMap nat_cmp EntryRow). get es number) same) ∙ is) in
      record {
        numbered = old.numbered;
        least = old.least;
        so_far = subst (λ (es : FinMap nat_cmp EntryRow). number ≤ len es) (sym same) old.so_far;
        kept = kept entry.message_id old.kept;
      };
  no_gap = λ number least most.
      subst (λ (es : FinMap nat_cmp EntryRow). IsSome (get es number)) (sym same) (are.no_gap number least (subst (λ (es : FinMap nat_cmp EntryRow). number ≤ len es) same most));
  rising = λ a b one other is is_too le.
      are.rising a b one other (sym (ap (λ (es : FinMap nat_cmp EntryRow). get es a) same) ∙ is) (sym (ap (λ (es : FinMap nat_cmp EntryRow). get es b) same) ∙ is_too) le;
}

-- ---- an entry behind the last one

module _ (m : Content) (are : AreEntries m) where
  -- nothing has a number behind the last one
  pub none_behind : (number : ℕ) → entry_count m < number → entry_at m number ≡ None
  none_behind number behind = none_at (entry_at m number) (λ entry is. let le = (are.each number entry is).so_far in omega (arith, le, behind))

  -- no entry is later than the last one
  pub none_later_than_last : (number : ℕ) (entry : EntryRow) → entry_at m number ≡ Some entry → entry.at ≤ last_time m
  none_later_than_last number entry is = by (some_known (last_entry m) (are.no_gap (entry_count m) some (omega arith)))
    where
      most : number ≤ entry_count m
      most = (are.each number entry is).so_far

      some : 1 ≤ entry_count m
      some = let least = (are.each number entry is).least in omega (arith, least, most)

      by : (last : EntryRow) × (last_entry m ≡ Some last) → entry.at ≤ last_time m
      by (last, there) =
          let time : last_time m ≡ last.at = ap (of_found (λ (e : EntryRow). e.at)) there in
          let le : entry.at ≤ last.at = are.rising number (entry_count m) entry last is there most in
          omega (arith, time, le)

  module _ (entry : EntryRow) (next : entry.number ≡ entry_count m + 1) where
    pub none_yet : entry_at m entry.number ≡ None
    none_yet = none_behind entry.number (omega (arith, next))

    pub count_after : len (insert m.entries entry.number entry) ≡ entry_count m + 1
    count_after =
        len-insert nat_cmp_total m.entries entry.number entry
        ∙ ap (λ (found : Option EntryRow). cond (is_some found) (entry_count m) (entry_count m + 1)) none_yet

    module _ (after : Content) (same : after.entries ≡ insert m.entries entry.number entry) (later : last_time m ≤ entry.at)
        (kept : (message_id : MessageId) → IsSome (kept_at m message_id) → IsSome (kept_at after message_id)) (of : IsSome (kept_at after entry.message_id)) where
      found_after : (number : ℕ) (found : EntryRow) → entry_at after number ≡ Some found → get (insert m.entries entry.number entry) number ≡ Some found
      found_after number found is = sym (ap (λ (es : FinMap nat_cmp EntryRow). get es number) same) ∙ is

      so_many : entry_count after ≡ entry_count m + 1
      so_many = ap (λ (es : FinMap nat_cmp EntryRow). len es) same ∙ count_after

      each_after : (number : ℕ) (found : EntryRow) → entry_at after number ≡ Some found → IsEntry after number found
      each_after number found is =
          elim (found_one nat_cmp_total nat_cmp-IsAntisymmetric m.entries entry.number entry number found (found_after number found is)) [
            | inl q ↦
                let here : number ≡ entry.number = q.0 in
                record {
                  numbered = ap (λ (e : EntryRow). e.number) q.1 ∙ sym q.0;
                  least = omega (arith, here, next);
                  so_far = omega (arith, here, next, so_many);
                  kept = subst (λ (e : EntryRow). IsSome (kept_at after e.message_id)) (sym q.1) of;
                }
            | inr q ↦
                let old = are.each number found q.1 in
                let most = old.so_far in
                record { numbered = old.numbered; least = old.least; so_far = omega (arith, most, so_many); kept = kept found.message_id old.kept }
          ]

      there_after : (number : ℕ) → 1 ≤ number → number ≤ entry_count after → IsSome (get (insert m.entries entry.number entry) number)
      there_after number least most = by (nat_lt number entry.number) refl
        where
          by : (b : Bool) → nat_lt number entry.number ≡ b → IsSome (get (insert m.entries entry.number entry) number)
          by true e =
              let less : number < entry.number = ltb-true number entry.number e in
              subst (λ (o : Option EntryRow). IsSome o)
              (sym (get_other nat_cmp_total nat_cmp-IsAntisymmetric m.entries entry.number entry number (λ same. omega (arith, same, less))))
              (are.no_gap number least (omega (arith, less, next)))
          by false e =
              let more : entry.number ≤ number = ltb-false number entry.number e in
              let here : number ≡ entry.number = omega (arith, more, most, so_many, next) in
              is_known (get (insert m.entries entry.number entry) number) entry
              (ap (λ (n : ℕ). get (insert m.entries entry.number entry) n) here ∙ get_same nat_cmp_total nat_cmp-IsAntisymmetric m.entries entry.number entry)

      rising_after : (a b : ℕ) (one other : EntryRow) → entry_at after a ≡ Some one → entry_at after b ≡ Some other → a ≤ b → one.at ≤ other.at
      rising_after a b one other is is_too le =
          elim (found_one nat_cmp_total nat_cmp-IsAntisymmetric m.entries entry.number entry a one (found_after a one is)) [
            | inl p ↦
                let here : a ≡ entry.number = p.0 in
                elim (found_one nat_cmp_total nat_cmp-IsAntisymmetric m.entries entry.number entry b other (found_after b other is_too)) [
                  | inl q ↦
                      let first : one.at ≡ entry.at = ap (λ (e : EntryRow). e.at) p.1 in
                      let second : other.at ≡ entry.at = ap (λ (e : EntryRow). e.at) q.1 in
                      omega (arith, first, second)
                  | inr q ↦
                      let most = (are.each b other q.1).so_far in
                      absurd (omega (arith, here, next, most, le))
                ]
            | inr p ↦
                elim (found_one nat_cmp_total nat_cmp-IsAntisymmetric m.entries entry.number entry b other (found_after b other is_too)) [
                  | inl q ↦
                      let second : other.at ≡ entry.at = ap (λ (e : EntryRow). e.at) q.1 in
                      let before = none_later_than_last a one p.1 in
                      omega (arith, second, before, later)
                  | inr q ↦ are.rising a b one other p.1 q.1 le
                ]
          ]

      -- the entries with it
      pub entries_after : AreEntries after
      entries_after = record {
        each = each_after;
        no_gap = λ number least most.
            subst (λ (es : FinMap nat_cmp EntryRow). IsSome (get es number)) (sym same) (there_after number least most);
        rising = rising_after;
      }

    -- each entry that was there is there
    pub stays_with : (number : ℕ) (found : EntryRow) → entry_at m number ≡ Some found → get (insert m.entries entry.number entry) number ≡ Some found
    stays_with number found is = still_there nat_cmp_total nat_cmp-IsAntisymmetric m.entries entry.number entry number found none_yet is

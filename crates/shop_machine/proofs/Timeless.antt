-- Time decides nothing: contents that differ in their entries' times alone go on to such contents, with the same replies.
use Rattle.std.proofs.Common.{◌≡◌, ℕ, zero, suc, ◌+◌, ◌≤◌, List, [], ◌∷◌, map, Bool, true, false, refl, sym, ap, subst, ◌∙◌, arith, inl, inr, cond}
use Rattle.std.specs.Prelude.{Option, Some, None, IsSome, MatchOption, is_some, max}
use Rattle.std.specs.Option.{option_map}
use Rattle.std.specs.Cmp.{nat_cmp_total}
use Rattle.std.specs.Ordering.{nat_cmp, is_eq}
use Rattle.std.specs.FinMap.{FinMap, empty, entries, find, get, get-empty, get-entries, get-from_entries, insert, same_map, nat_cmp-IsAntisymmetric}
use Rattle.shop_records.specs.declared.imports.ImportRow.{ImportRow}
use Rattle.shop_records.specs.declared.records.JobBegin.{JobBegin}
use Rattle.shop_records.specs.declared.records.JobHalt.{JobHalt}
use Rattle.shop_records.specs.declared.journal.Entry.{Entry as EntryRow}
use Rattle.shop_records.specs.declared.texts.Kept.{Kept}
use Rattle.shop_records.specs.declared.messages.Message.{Message}
use Rattle.shop_records.specs.declared.messages.Reply.{Reply}
use Rattle.shop_records.specs.declared.refusals.Refusal.{Refusal}
use Rattle.shop_records.specs.Messages.{Texts, refusal_in, message_id_of}
use Rattle.shop_records.specs.Readings.{Reading}
use Rattle.shop_records.specs.Journal.{word_of}
use Rattle.shop_records.specs.Content.{Content, kept_at, entry_at, entry_count, last_time, forgotten, timeless, without_times, with_material, with_parts, with_moved, with_job, with_halt, with_begun, with_order, with_note, with_demands, with_import, with_number, halt_at, fresh}
use Rattle.shop_records.specs.WellFormed.{AreEntries, IsWellFormed}
use Rattle.shop_machine.specs.Machine.{Accepts, AcceptsAt, Refuses, StepNew, StepNewAt, StepAgain, Step, StepAt, Makes, entry_of, entry_part, entry_job}
use Rattle.shop_machine.specs.History.{Entry, Gives, GivesAll, MayForget}
use Rattle.shop_records.proofs.Basics.{nat_cases, none_some, same_some, get_same, get_other}
use Rattle.shop_records.proofs.Puts.{found_one, some_known}
use Rattle.shop_machine.proofs.Entered.{with_rest}
use Rattle.shop_machine.proofs.OneResult.{IsSame, one_change}
use Rattle.shop_machine.proofs.StaysWellFormed.{gives_well_formed}
use Rattle.shop_machine.proofs.Newest.{all_gives}

-- ---- entries without their times

through : {X Y : Type 0} (f : X → Y) (b : Bool) (x : X) (o : Option X) (p : Option Y) → p ≡ option_map f o → cond b (Some (f x)) p ≡ option_map f (cond b (Some x) o)
through f true x o p e = refl
through f false x o p e = e

find_mapped : {X Y : Type 0} (f : X → Y) (n : ℕ) (es : List (ℕ × X)) → find nat_cmp n (map (λ (e : ℕ × X). (e.0, f e.1)) es) ≡ option_map f (find nat_cmp n es)
find_mapped f n [] = refl
find_mapped f n (e ∷ es) = through f (is_eq (nat_cmp n e.0)) e.1 (find nat_cmp n es) _ (find_mapped f n es)

timeless_at : (c : Content) (n : ℕ) → entry_at (without_times c) n ≡ option_map timeless (entry_at c n)
timeless_at c n =
    get-from_entries nat_cmp_total (map (λ (e : ℕ × EntryRow). (e.0, timeless e.1)) (entries c.entries)) n
    ∙ find_mapped timeless n (entries c.entries)
    ∙ ap (option_map timeless) (sym (get-entries c.entries n))

-- two contents differ in their entries' times alone
record IsLike (a b : Content) : Type 0 where
  rows : forgotten a ≡ forgotten b
  halts : a.halts ≡ b.halts
  entered : (n : ℕ) → option_map timeless (entry_at a n) ≡ option_map timeless (entry_at b n)

is_like : (a b : Content) → without_times a ≡ without_times b → IsLike a b
is_like a b same = record {
  rows = ap forgotten same;
  halts = ap (λ (c : Content). c.halts) same;
  entered = λ n. sym (timeless_at a n) ∙ ap (λ (c : Content). entry_at c n) same ∙ timeless_at b n;
}

same_times : (a b : Content) → IsLike a b → without_times a ≡ without_times b
same_times a b like =
    let same : (without_times a).entries ≡ (without_times b).entries =
    same_map nat_cmp_total nat_cmp-IsAntisymmetric (without_times a).entries (without_times b).entries (λ n. timeless_at a n ∙ like.entered n ∙ sym (timeless_at b n)) in
    λ i. with_rest (like.halts i) (same i) (like.rows i)

some_mapped : {X Y : Type 0} (f : X → Y) (o : Option X) → is_some (option_map f o) ≡ is_some o
some_mapped f None = refl
some_mapped f (Some x) = refl

also_there : (a b : Content) → IsLike a b → (n : ℕ) → IsSome (entry_at a n) → IsSome (entry_at b n)
also_there a b like n there =
    sym (some_mapped timeless (entry_at b n)) ∙ ap is_some (sym (like.entered n)) ∙ some_mapped timeless (entry_at a n) ∙ there

no_more_entries : (a b : Content) → AreEntries a → AreEntries b → IsLike a b → (n : ℕ) → n ≤ entry_count a → n ≤ entry_count b
no_more_entries a b one other like zero most = omega arith
no_more_entries a b one other like (suc n) most =
    let there = some_known (entry_at b (suc n)) (also_there a b like (suc n) (one.no_gap (suc n) (omega arith) most)) in
    (other.each (suc n) there.0 there.1).so_far

turned : (a b : Content) → IsLike a b → IsLike b a
turned a b like = record { rows = sym like.rows; halts = sym like.halts; entered = λ n. sym (like.entered n) }

same_count : (a b : Content) → AreEntries a → AreEntries b → IsLike a b → entry_count a ≡ entry_count b
same_count a b one other like =
    let least = no_more_entries a b one other like (entry_count a) (omega arith) in
    let most = no_more_entries b a other one (turned a b like) (entry_count b) (omega arith) in
    omega (arith, least, most)

-- what is kept in both contents of where the work on a job halted is the same
abbrev HaltsAgree : (a b : Content) → Type 0
HaltsAgree a b = (n : ℕ) (r s : JobHalt) → halt_at a n ≡ Some r → halt_at b n ≡ Some s → r ≡ s

-- ---- one step

module _ (texts : Texts) (a b : Content) (message : Message) (read : Reading) (one other : Reply) (new also : Content)
    (accepts : Accepts texts a message read one new) (again : Accepts texts b message read other also) (rows : forgotten a ≡ forgotten b) (agree : HaltsAgree a b) where
  as_b : b ≡ with_rest b.halts b.entries a
  as_b = ap (with_rest b.halts b.entries) (sym rows)

  same : IsSame message.command accepts.change again.change
  same = one_change a b.halts b.entries agree message.command read accepts.change again.change accepts.makes
      (subst (λ (c : Content). Makes c message.command read again.change) as_b again.makes)

  pub same_answer : one ≡ other
  same_answer = accepts.answered ∙ same.answer ∙ sym again.answered

  abbrev reported : Reply → ImportRow → ImportRow
  reported answer row = record row { reply = texts.of_reply answer }

  abbrev begun_row : JobBegin → JobBegin
  begun_row row = record row { terminal = message.terminal }

  abbrev made : Content
  made = record {
    materials = with_material accepts.change.material a.materials;
    parts = with_parts accepts.change.parts (with_parts accepts.change.undone (with_moved accepts.change.moved a.parts));
    jobs = with_job accepts.change.job a.jobs;
    halts = empty;
    begun = with_begun (option_map begun_row accepts.change.begun) a.begun;
    orders = with_order accepts.change.order a.orders;
    notes = with_note accepts.change.note a.notes;
    demands = with_demands accepts.change.demands a.demands;
    kept = insert a.kept (message_id_of message) (record { command = texts.of_message message; reply = texts.of_reply accepts.change.reply });
    imports = with_import (option_map (reported accepts.change.reply) accepts.change.import) a.imports;
    entries = empty;
    last_act = with_number accepts.change.act a.last_act;
    last_demand = with_number accepts.change.demand a.last_demand;
  }

  abbrev also_made : Content
  also_made = record {
    materials = with_material again.change.material a.materials;
    parts = with_parts again.change.parts (with_parts again.change.undone (with_moved again.change.moved a.parts));
    jobs = with_job again.change.job a.jobs;
    halts = empty;
    begun = with_begun (option_map begun_row again.change.begun) a.begun;
    orders = with_order again.change.order a.orders;
    notes = with_note again.change.note a.notes;
    demands = with_demands again.change.demands a.demands;
    kept = insert a.kept (message_id_of message) (record { command = texts.of_message message; reply = texts.of_reply again.change.reply });
    imports = with_import (option_map (reported again.change.reply) again.change.import) a.imports;
    entries = empty;
    last_act = with_number again.change.act a.last_act;
    last_demand = with_number again.change.demand a.last_demand;
  }

  same_made : made ≡ also_made
  same_made = λ i. record {
    materials = with_material (same.material i) a.materials;
    parts = with_parts (same.parts i) (with_parts (same.undone i) (with_moved (same.moved i) a.parts));
    jobs = with_job (same.job i) a.jobs;
    halts = empty;
    begun = with_begun (option_map begun_row (same.begun i)) a.begun;
    orders = with_order (same.order i) a.orders;
    notes = with_note (same.note i) a.notes;
    demands = same.demands a.demands i;
    kept = insert a.kept (message_id_of message) (record { command = texts.of_message message; reply = texts.of_reply (same.answer i) });
    imports = with_import (option_map (reported (same.answer i)) (same.import i)) a.imports;
    entries = empty;
    last_act = with_number (same.act i) a.last_act;
    last_demand = with_number (same.demand i) a.last_demand;
  }

  -- what the second change makes of a content's rows
  abbrev by_again : Content → Content
  by_again c = record {
    materials = with_material again.change.material c.materials;
    parts = with_parts again.change.parts (with_parts again.change.undone (with_moved again.change.moved c.parts));
    jobs = with_job again.change.job c.jobs;
    halts = empty;
    begun = with_begun (option_map begun_row again.change.begun) c.begun;
    orders = with_order again.change.order c.orders;
    notes = with_note again.change.note c.notes;
    demands = with_demands again.change.demands c.demands;
    kept = insert c.kept (message_id_of message) (record { command = texts.of_message message; reply = texts.of_reply again.change.reply });
    imports = with_import (option_map (reported again.change.reply) again.change.import) c.imports;
    entries = empty;
    last_act = with_number again.change.act c.last_act;
    last_demand = with_number again.change.demand c.last_demand;
  }

  -- the rows but for the entries are the same
  pub same_rows : forgotten new ≡ forgotten also
  same_rows = ap forgotten accepts.becomes ∙ same_made ∙ ap by_again rows ∙ sym (ap forgotten again.becomes)

  -- the same of where the work on a job halted
  halts_new : (n : ℕ) → halt_at new n ≡ get (with_halt accepts.change.halt a.halts) n
  halts_new n = ap (λ (c : Content). halt_at c n) accepts.becomes

  halts_also : (n : ℕ) → halt_at also n ≡ get (with_halt accepts.change.halt b.halts) n
  halts_also n = ap (λ (c : Content). halt_at c n) again.becomes ∙ ap (λ (o : Option JobHalt). get (with_halt o b.halts) n) (sym same.halt)

  put_agree : (o : Option JobHalt) (n : ℕ) (r s : JobHalt) → get (with_halt o a.halts) n ≡ Some r → get (with_halt o b.halts) n ≡ Some s → r ≡ s
  put_agree None n r s p q = agree n r s p q
  put_agree (Some row) n r s p q =
      elim (found_one nat_cmp_total nat_cmp-IsAntisymmetric a.halts row.job row n r p) [
        | inl y ↦ elim (found_one nat_cmp_total nat_cmp-IsAntisymmetric b.halts row.job row n s q) [
          | inl z ↦ y.1 ∙ sym z.1
          | inr z ↦ absurd (z.0 y.0)
        ]
        | inr y ↦ elim (found_one nat_cmp_total nat_cmp-IsAntisymmetric b.halts row.job row n s q) [
          | inl z ↦ absurd (y.0 z.0)
          | inr z ↦ agree n r s y.1 z.1
        ]
      ]

  pub still_agree : HaltsAgree new also
  still_agree n r s p q = put_agree accepts.change.halt n r s (sym (halts_new n) ∙ p) (sym (halts_also n) ∙ q)

  module _ (one_are : AreEntries a) (other_are : AreEntries b) (like : IsLike a b) where
    count : entry_count a ≡ entry_count b
    count = same_count a b one_are other_are like

    abbrev written : EntryRow
    written = entry_of (entry_count a + 1) (max accepts.at (last_time a)) message accepts.change

    abbrev rewritten : EntryRow
    rewritten = entry_of (entry_count b + 1) (max again.at (last_time b)) message again.change

    same_written : timeless written ≡ timeless rewritten
    same_written = λ i. record {
      number = count i + 1;
      message_id = message_id_of message;
      at = 0;
      word = word_of message.command;
      act = with_number (same.act i) 0;
      job = entry_job message.command (same.job i);
      order = same.entered i;
      part = entry_part message.command;
    }

    at_new : (n : ℕ) → entry_at new n ≡ get (insert a.entries written.number written) n
    at_new n = ap (λ (c : Content). entry_at c n) accepts.becomes

    at_also : (n : ℕ) → entry_at also n ≡ get (insert b.entries rewritten.number rewritten) n
    at_also n = ap (λ (c : Content). entry_at c n) again.becomes

    put_both : (n : ℕ) → option_map timeless (get (insert a.entries written.number written) n) ≡ option_map timeless (get (insert b.entries rewritten.number rewritten) n)
    put_both n =
        elim (nat_cases n written.number) [
          | inl y ↦
              let there : n ≡ rewritten.number = y.0 ∙ ap (λ k. k + 1) count in
              ap (λ k. option_map timeless (get (insert a.entries written.number written) k)) y.0
              ∙ ap (option_map timeless) (get_same nat_cmp_total nat_cmp-IsAntisymmetric a.entries written.number written)
              ∙ ap Some same_written
              ∙ sym (ap (option_map timeless) (get_same nat_cmp_total nat_cmp-IsAntisymmetric b.entries rewritten.number rewritten))
              ∙ sym (ap (λ k. option_map timeless (get (insert b.entries rewritten.number rewritten) k)) there)
          | inr off ↦
              ap (option_map timeless) (get_other nat_cmp_total nat_cmp-IsAntisymmetric a.entries written.number written n off.0)
              ∙ like.entered n
              ∙ sym (ap (option_map timeless) (get_other nat_cmp_total nat_cmp-IsAntisymmetric b.entries rewritten.number rewritten n
              (λ e. off.0 (e ∙ sym (ap (λ k. k + 1) count)))))
        ]

    same_halts : new.halts ≡ also.halts
    same_halts =
        ap (λ (c : Content). c.halts) accepts.becomes ∙ (λ i. with_halt (same.halt i) (like.halts i)) ∙ sym (ap (λ (c : Content). c.halts) again.becomes)

    still_like : IsLike new also
    still_like = record { rows = same_rows; halts = same_halts; entered = λ n. ap (option_map timeless) (at_new n) ∙ put_both n ∙ sym (ap (option_map timeless) (at_also n)) }

-- of the same message on contents that differ in times alone, with the same reading
pub one_step : (texts : Texts) (a b : Content) (message : Message) (read : Reading) (one other : Reply) (new also : Content) → IsWellFormed texts a → IsWellFormed texts b
    → without_times a ≡ without_times b → Accepts texts a message read one new → Accepts texts b message read other also → (one ≡ other) × (without_times new ≡ without_times also)
one_step texts a b message read one other new also well_formed again_well_formed same accepts again =
    let like = is_like a b same in
    let agree : HaltsAgree a b = λ n r s p q. same_some r s (sym p ∙ ap (λ (m : FinMap nat_cmp JobHalt). get m n) like.halts ∙ q) in (
      same_answer texts a b message read one other new also accepts again like.rows agree,
      same_times new also (still_like texts a b message read one other new also accepts again like.rows agree well_formed.entries again_well_formed.entries like),
    )

-- of one history
pub one_history : (texts : Texts) (history : List Entry) (a b : Content) → GivesAll texts history a → GivesAll texts history b → without_times a ≡ without_times b
one_history texts [] a b given again = ap without_times given ∙ sym (ap without_times again)
one_history texts (entry ∷ earlier) a b (before, answer, given, is_message, new, accepts) (before', answer', given', is_message', new', accepts') =
    (one_step texts before before' entry.message entry.read answer answer' a b
    (gives_well_formed texts earlier before (all_gives texts earlier before given)) (gives_well_formed texts earlier before' (all_gives texts earlier before' given'))
    (one_history texts earlier before before' given given') accepts accepts').1

rows_left : (left content : Content) → MayForget left content → forgotten content ≡ forgotten left
rows_left left content (inl same) = ap forgotten same
rows_left left content (inr same) = ap forgotten same

-- what it keeps of where the work on a job halted was kept before
halt_left : (left content : Content) → MayForget left content → (n : ℕ) (r : JobHalt) → halt_at content n ≡ Some r → halt_at left n ≡ Some r
halt_left left content (inl same) n r is = ap (λ (c : Content). halt_at c n) (sym same) ∙ is
halt_left left content (inr same) n r is = absurd (none_some r (sym (get-empty nat_cmp n) ∙ ap (λ (c : Content). halt_at c n) (sym same) ∙ is))

no_halt : (content : Content) → content ≡ fresh → (n : ℕ) (r : JobHalt) → halt_at content n ≡ Some r → ⊥
no_halt content given n r is = none_some r (sym (get-empty nat_cmp n) ∙ ap (λ (c : Content). halt_at c n) (sym given) ∙ is)

-- of one history, whatever was forgotten
both_rows : (texts : Texts) (history : List Entry) (a b : Content) → Gives texts history a → Gives texts history b → (forgotten a ≡ forgotten b) × HaltsAgree a b
both_rows texts [] a b given again = (ap forgotten given ∙ sym (ap forgotten again), λ n r s p q. absurd (no_halt a given n r p))
both_rows texts (entry ∷ earlier) a b (before, answer, given, is_message, new, left, accepts, forgets) (before', answer', given', is_message', new', left', accepts', forgets') =
    let was = both_rows texts earlier before before' given given' in (
      rows_left left a forgets
          ∙ same_rows texts before before' entry.message entry.read answer answer' left left' accepts accepts' was.0 was.1
          ∙ sym (rows_left left' b forgets'),
      λ n r s p q.
          still_agree texts before before' entry.message entry.read answer answer' left left' accepts accepts' was.0 was.1 n r s
          (halt_left left a forgets n r p) (halt_left left' b forgets' n s q),
    )

pub one_history_rows : (texts : Texts) (history : List Entry) (a b : Content) → Gives texts history a → Gives texts history b → forgotten a ≡ forgotten b
one_history_rows texts history a b given again = (both_rows texts history a b given again).0

-- ---- steps with a time

module _ (texts : Texts) (at : ℕ) (old new : Content) (message : Message) (answer : Reply) where
  new_untimed : (o : Option Refusal) → MatchOption o ((read : Reading) × AcceptsAt texts at old message read answer new) (λ refusal. Refuses texts old message.command refusal × (new ≡ old))
      → MatchOption o ((read : Reading) × Accepts texts old message read answer new) (λ refusal. Refuses texts old message.command refusal × (new ≡ old))
  new_untimed None step = (step.0, step.1.0)
  new_untimed (Some refusal) step = step

  by_row : (row : Option Kept) → MatchOption row (StepNewAt texts at old message answer new) (λ row. StepAgain texts row message answer × (new ≡ old))
      → MatchOption row (StepNew texts old message answer new) (λ row. StepAgain texts row message answer × (new ≡ old))
  by_row None step = new_untimed (refusal_in answer) step
  by_row (Some row) step = step

  -- a step with a time is a step
  pub untimed : StepAt texts at old message answer new → Step texts old message answer new
  untimed step = by_row (kept_at old (message_id_of message)) step

module _ (texts : Texts) (old new : Content) (message : Message) (answer : Reply) where
  new_timed : (o : Option Refusal) → refusal_in answer ≡ o
      → MatchOption o ((read : Reading) × Accepts texts old message read answer new) (λ refusal. Refuses texts old message.command refusal × (new ≡ old))
      → (at : ℕ) × MatchOption o ((read : Reading) × AcceptsAt texts at old message read answer new) (λ refusal. Refuses texts old message.command refusal × (new ≡ old))
  new_timed None is step = (step.1.at, (step.0, (step.1, refl)))
  new_timed (Some refusal) is step = (0, step)

  row_timed : (row : Option Kept) → MatchOption row (StepNew texts old message answer new) (λ row. StepAgain texts row message answer × (new ≡ old))
      → (at : ℕ) × MatchOption row (StepNewAt texts at old message answer new) (λ row. StepAgain texts row message answer × (new ≡ old))
  row_timed None step = new_timed (refusal_in answer) refl step
  row_timed (Some row) step = (0, step)

  -- each step is one with some time
  pub timed : Step texts old message answer new → (at : ℕ) × StepAt texts at old message answer new
  timed step = row_timed (kept_at old (message_id_of message)) step

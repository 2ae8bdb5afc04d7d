-- Steps of a book, and runs of them.
use Rattle.std.proofs.Common.{◌≡◌, ◌≢◌, ℕ, List, [], ◌∷◌, Option, Some, None, Ok, Err, inl, inr, refl, sym, ap, ◌∙◌, subst, arith}
use Rattle.std.specs.Prelude.{◌⊎◌, ◌+◌, Bool, true, false, nat_lt, if◌then◌else◌, MatchOption, is_some, not}
use Rattle.std.specs.Option.{option_map}
use Rattle.shop_book.specs.declared.books.TheConstants.{MAX_FAILURES}
use Rattle.shop_book.specs.Failures.{CountsFailure, refusal_for}
use Rattle.shop_book.specs.declared.books.BookFault.{BookFault}
use Rattle.shop_book.specs.declared.books.BookFault.TheVariants as fault
use Rattle.shop_records.specs.declared.texts.Kept.{Kept}
use Rattle.shop_records.specs.declared.imports.ImportRow.{ImportRow}
use Rattle.shop_records.specs.declared.records.JobBegin.{JobBegin}
use Rattle.shop_records.specs.declared.changes.Change.{Change}
use Rattle.shop_records.specs.declared.messages.Message.{Message}
use Rattle.shop_records.specs.declared.refusals.Refusal.{Refusal}
use Rattle.shop_records.specs.declared.refusals.Refusal.TheVariants.{NoMemory, StoreFault, NumberReused}
use Rattle.shop_records.specs.declared.messages.Reply.{Reply}
use Rattle.shop_records.specs.declared.messages.Reply.TheVariants.{Refused}
use Rattle.shop_records.specs.Messages.{Texts, IsMessage, IsMade, refusal_in, is_accepted, message_id_of}
use Rattle.shop_records.specs.Readings.{Reading}
use Rattle.shop_records.specs.Content.{Content, entry_count, kept_at, last_time, changed}
use Rattle.shop_machine.specs.Machine.{Accepts, AcceptsAt, Reads, Makes, Refuses, StepNew, StepNewAt, StepAgain, StepAt, entering, refusal_of, keeping_at}
use Rattle.shop_records.specs.Keeping.{KeepsReply}
use Rattle.shop_records.specs.WellFormed.{IsWellFormed, Fits}
use Rattle.shop_machine.proofs.StaysWellFormed.{reports_accepted, well_formed_entered, fits_entered, agrees}
use Rattle.shop_machine.proofs.Timeless.{untimed}
use Rattle.shop_desk.specs.Faults.{CountsRefusal, CountsReply, StoreFailed}
use Rattle.shop_desk.specs.Decided.{JustifiesStoreFault, Contradicts, CountsOrDisagrees}
use Rattle.shop_desk.specs.Handled.{CrashStatesAfterNew, CrashStatesAfter, IsHandledAt, Leads}

pub counts_made : (before after : ℕ) (answer : Reply) → is_accepted answer ≡ true → after ≡ before → CountsReply answer before after
counts_made before after answer made same = by (refusal_in answer) made
  where
    by : (o : Option Refusal) → not (is_some o) ≡ true → MatchOption o (after ≡ before) (λ refusal. CountsRefusal refusal before after)
    by None e = same
    by (Some refusal) e = cc

rose : (before after : ℕ) (below : Bool) → after ≡ (if below then before + 1 else MAX_FAILURES) → StoreFailed before after
rose before after true e = inl (omega arith)
rose before after false e = inr e

-- a refusal that reports a failed store is counted
pub store_failed : (before after : ℕ) (answer : Reply) → CountsReply answer before after → answer ≡ Refused StoreFault → StoreFailed before after
store_failed before after answer counts e =
    rose before after (nat_lt before MAX_FAILURES) (subst (λ (r : Reply). CountsReply r before after) e counts)

-- a decision to accept is counted as no failure
pub counted_made : (before after : ℕ) (change : Change) → CountsOrDisagrees (Ok change) before after → after ≡ before
counted_made before after change (inl same) = same
counted_made before after change (inr rows) = rows.1

-- a commit that failed blames the store only where it failed
pub commit_justified : (T : Type 0) (before mid after : ℕ) (fault : BookFault) (refusal : Refusal) → mid ≡ before → CountsFailure {T = T} (Err fault) mid after
    → refusal ≡ refusal_for fault → Refused refusal ≡ Refused StoreFault → StoreFailed before after
commit_justified T before mid after fault.NoMemory refusal same counts is reported = absurd (other refusal is reported)
  where
    other : (refusal : Refusal) → refusal ≡ NoMemory → Refused refusal ≡ Refused StoreFault → ⊥
    other refusal is reported = cc
commit_justified T before mid after fault.Store refusal same counts is reported =
    rose before after (nat_lt before MAX_FAILURES) (subst (λ n. after ≡ (if nat_lt n MAX_FAILURES then n + 1 else MAX_FAILURES)) same counts)
commit_justified T before mid after fault.WrongVersion refusal same counts is reported = absurd counts

-- what follows a decision to accept is counted as if it were alone
pub counted_after : (before mid after : ℕ) (refusal : Refusal) → mid ≡ before → CountsRefusal refusal mid after → CountsRefusal refusal before after
counted_after before mid after refusal same counts = subst (λ n. CountsRefusal refusal n after) same counts

-- on a well-formed content a decision blames the store only where it failed
pub justified : (texts : Texts) (m : Content) (message : Message) (before after : ℕ) (refusal : Refusal) → IsWellFormed texts m
    → JustifiesStoreFault texts m message.command before (Err refusal) after → Refused refusal ≡ Refused StoreFault → StoreFailed before after
justified texts m message before after refusal well_formed justifies is = by (justifies (same refusal is))
  where
    same : (refusal : Refusal) → Refused refusal ≡ Refused StoreFault → refusal ≡ StoreFault
    same refusal e = cc

    by : StoreFailed before after ⊎ Contradicts texts m message.command → StoreFailed before after
    by (inl failed) = failed
    by (inr rows) = absurd (agrees texts m message rows.0 well_formed rows.1 rows.2)

module _ (texts : Texts) where
  -- a reply that an accepted message can get reports no refusal
  pub none_made : (answer : Reply) → IsMade answer → refusal_in answer ≡ None
  none_made (Refused refusal) made = absurd made
  none_made _ made = refl

  -- the kept reply to the kept message
  pub again_kept : (row : Kept) (message : Message) (answer : Reply) → IsMade answer → row.command ≡ texts.of_message message → row.reply ≡ texts.of_reply answer
      → StepAgain texts row message answer × (answer ≢ Refused StoreFault)
  again_kept row message answer made command reported = (
    subst (λ (o : Option Refusal). MatchOption o (KeepsReply texts row message answer) (λ refusal. refusal ≢ NoMemory → refusal ≢ StoreFault → (refusal ≡ NumberReused) × (row.command ≢ texts.of_message message)))
        (sym (none_made answer made)) (record { made = made; command = command; reply = reported }),
    λ e. subst IsMade e made,
  )

  step_made : (at : ℕ) (old : Content) (message : Message) (read : Reading) (answer : Reply) (new : Content) → IsMade answer → (accepts : Accepts texts old message read answer new) → accepts.at ≡ at
      → StepNewAt texts at old message answer new
  step_made at old message read answer new made accepts same =
      subst (λ (o : Option Refusal). MatchOption o ((r : Reading) × AcceptsAt texts at old message r answer new) (λ refusal. Refuses texts old message.command refusal × (new ≡ old))) (sym (none_made answer made)) (read, (accepts, same))

  -- a step with a time is one
  new_untimed : (at : ℕ) (old : Content) (message : Message) (answer : Reply) (new : Content) → StepNewAt texts at old message answer new → StepNew texts old message answer new
  new_untimed at old message answer new step = by (refusal_in answer) step
    where
      by : (o : Option Refusal) → MatchOption o ((r : Reading) × AcceptsAt texts at old message r answer new) (λ refusal. Refuses texts old message.command refusal × (new ≡ old))
          → MatchOption o ((r : Reading) × Accepts texts old message r answer new) (λ refusal. Refuses texts old message.command refusal × (new ≡ old))
      by None step = (step.0, step.1.0)
      by (Some refusal) step = step

  -- a step of a message that isn't kept
  pub step_new : (at : ℕ) (old : Content) (message : Message) (answer : Reply) (new : Content) → kept_at old (message_id_of message) ≡ None → StepNewAt texts at old message answer new → StepAt texts at old message answer new
  step_new at old message answer new none step =
      subst (λ o. MatchOption o (StepNewAt texts at old message answer new) (λ row. StepAgain texts row message answer × (new ≡ old))) (sym none) step

  -- a step of one that is
  pub step_again : (at : ℕ) (old : Content) (message : Message) (answer : Reply) (row : Kept) → kept_at old (message_id_of message) ≡ Some row → StepAgain texts row message answer → StepAt texts at old message answer old
  step_again at old message answer row some step =
      subst (λ o. MatchOption o (StepNewAt texts at old message answer old) (λ row. StepAgain texts row message answer × (old ≡ old))) (sym some) (step, refl)

  -- lack of memory and a failed store refuse any message
  pub fault_step : (at : ℕ) (m : Content) (message : Message) (refusal : Refusal) (found : Option Kept) → ((refusal ≢ NoMemory) → (refusal ≢ StoreFault) → ⊥)
      → MatchOption found (StepNewAt texts at m message (Refused refusal) m) (λ row. StepAgain texts row message (Refused refusal) × (m ≡ m))
  fault_step at m message refusal None fault = (λ n s. absurd (fault n s), refl)
  fault_step at m message refusal (Some row) fault = (λ n s. absurd (fault n s), refl)

  pub is_fault : (refusal : Refusal) (fault : BookFault) → refusal ≡ refusal_for fault → (refusal ≢ NoMemory) → (refusal ≢ StoreFault) → ⊥
  is_fault refusal fault.NoMemory e n s = n e
  is_fault refusal fault.Store e n s = s e
  is_fault refusal fault.WrongVersion e n s = s e

  pub no_other : (refusal : Refusal) → (refusal ≡ NoMemory) ⊎ (refusal ≡ StoreFault) → (refusal ≢ NoMemory) → (refusal ≢ StoreFault) → ⊥
  no_other refusal (inl is) n s = n is
  no_other refusal (inr is) n s = s is

  -- the change that is committed fits, whatever reply it holds
  abbrev pub to_commit : Message → Change → (text reported : List ℕ) → Reply → Change
  to_commit message made text reported answer = record made {
    begun = option_map (λ (row : JobBegin). record row { terminal = message.terminal }) made.begun;
    import = option_map (λ (row : ImportRow). record row { reply = reported }) made.import;
    kept = Some (record { message_id = message_id_of message; kept = record { command = text; reply = reported } });
    reply = answer;
  }

  -- the same with the message's entry
  abbrev pub to_commit_at : (at : ℕ) → Content → Message → Change → (text reported : List ℕ) → Reply → Change
  to_commit_at at m message made text reported answer = entering (entry_count m) (last_time m) at message (to_commit message made text reported answer)

  fits_kept : (at : ℕ) (m : Content) (message : Message) (made : Change) (text reported : List ℕ) (answer : Reply) → reported ≡ texts.of_reply made.reply
      → Fits m (keeping_at texts at m message made) → Fits m (to_commit_at at m message made text reported answer)
  fits_kept at m message made text reported answer is fits =
      subst (λ t. Fits m (to_commit_at at m message made text t answer)) (sym is) (record {
        material = fits.material;
        parts = fits.parts;
        rising = fits.rising;
        moved = fits.moved;
        undone = fits.undone;
        apart = fits.apart;
        job = fits.job;
        halt = fits.halt;
        begun = fits.begun;
        order = fits.order;
        extended = fits.extended;
        note = fits.note;
        demands = fits.demands;
        wanted = fits.wanted;
        once = fits.once;
        lines = fits.lines;
        totals = fits.totals;
        sums = fits.sums;
        act = fits.act;
        demand = fits.demand;
        import = fits.import;
        kept = fits.kept;
        entry = record { next = fits.entry.next; new = fits.entry.new; later = fits.entry.later; of = refl };
      })

  pub fits_committed : (at : ℕ) (m : Content) (message : Message) (read : Reading) (made : Change) (text reported : List ℕ) (answer : Reply) → reported ≡ texts.of_reply made.reply
      → kept_at m (message_id_of message) ≡ None → IsWellFormed texts m → Reads texts m message.command read → refusal_of m message.command read ≡ None → Makes m message.command read made
      → Fits m (to_commit_at at m message made text reported answer)
  fits_committed at m message read made text reported answer is none well_formed reads allowed makes =
      fits_kept at m message made text reported answer is (fits_entered texts m message read made at well_formed reads allowed makes none)

  -- and makes of the content what the change that keeps the message makes of it
  pub row_committed : (at : ℕ) (m : Content) (message : Message) (made : Change) (text reported : List ℕ) (answer : Reply) → text ≡ texts.of_message message → reported ≡ texts.of_reply made.reply
      → changed m (to_commit_at at m message made text reported answer) ≡ changed m (keeping_at texts at m message made)
  row_committed at m message made text reported answer is_text is_reported =
      ap (λ t. changed m (to_commit_at at m message made t reported answer)) is_text ∙ ap (λ t. changed m (to_commit_at at m message made (texts.of_message message) t answer)) is_reported

  module _ {Left : Type 0} (stands : Left → Content → Type 0) where
    left_made : (before : Left → Type 0) (old : Content) (message : Message) (answer : Reply) (next : Content) (left : Left) → IsMade answer → stands left next
        → CrashStatesAfterNew texts stands before old message answer next left
    left_made before old message answer next left made it =
        subst (λ (o : Option Refusal). MatchOption o (stands left next) (λ refusal. before left ⊎ ((other : Reply) × (made : Content) × StepNew texts old message other made × stands left made))) (sym (none_made answer made)) it

    left_new : (before : Left → Type 0) (old : Content) (message : Message) (answer : Reply) (next : Content) (left : Left) → kept_at old (message_id_of message) ≡ None
        → CrashStatesAfterNew texts stands before old message answer next left → CrashStatesAfter texts stands before old message answer next left
    left_new before old message answer next left none it =
        subst (λ o. MatchOption o (CrashStatesAfterNew texts stands before old message answer next left) (λ (row : Kept). before left)) (sym none) it

    left_refused : (before : Left → Type 0) (old : Content) (message : Message) (refusal : Refusal) (next : Content) (left : Left) (found : Option Kept) → before left
        → MatchOption found (CrashStatesAfterNew texts stands before old message (Refused refusal) next left) (λ (row : Kept). before left)
    left_refused before old message refusal next left None it = inl it
    left_refused before old message refusal next left (Some row) it = it

    more_new : (before mid : Left → Type 0) → ((left : Left) → mid left → before left)
        → (old : Content) (message : Message) (answer : Reply) (next : Content) (left : Left) → CrashStatesAfterNew texts stands mid old message answer next left → CrashStatesAfterNew texts stands before old message answer next left
    more_new before mid grows old message answer next left it = by (refusal_in answer) it
      where
        by : (o : Option Refusal) → MatchOption o (stands left next) (λ refusal. mid left ⊎ ((other : Reply) × (made : Content) × StepNew texts old message other made × stands left made))
            → MatchOption o (stands left next) (λ refusal. before left ⊎ ((other : Reply) × (made : Content) × StepNew texts old message other made × stands left made))
        by None it = it
        by (Some refusal) (inl it) = inl (grows left it)
        by (Some refusal) (inr it) = inr it

    more_by : (before mid : Left → Type 0) → ((left : Left) → mid left → before left)
        → (old : Content) (message : Message) (answer : Reply) (next : Content) (left : Left) (found : Option Kept)
        → MatchOption found (CrashStatesAfterNew texts stands mid old message answer next left) (λ (row : Kept). mid left)
        → MatchOption found (CrashStatesAfterNew texts stands before old message answer next left) (λ (row : Kept). before left)
    more_by before mid grows old message answer next left None it = more_new before mid grows old message answer next left it
    more_by before mid grows old message answer next left (Some row) it = grows left it

    -- what may be left grows with what could be left before
    pub left_more : (before mid : Left → Type 0) → ((left : Left) → mid left → before left)
        → (old : Content) (message : Message) (answer : Reply) (next : Content) (left : Left) → CrashStatesAfter texts stands mid old message answer next left → CrashStatesAfter texts stands before old message answer next left
    left_more before mid grows old message answer next left it = more_by before mid grows old message answer next left (kept_at old (message_id_of message)) it

    -- a step with a time
    handled_at : (at : ℕ) (before after : Left → Type 0) (holds : Content → Type 0) (m : Content) (message : Message) (answer : Reply) (next : Content) → StepAt texts at m message answer next
        → holds next → IsWellFormed texts next → ((left : Left) → after left → CrashStatesAfter texts stands before m message answer next left) → IsHandledAt texts stands at before after holds m message answer
    handled_at at before after holds m message answer next step held well_formed crash =
        record { handled = record { next = next; step = untimed texts at m next message answer step; held = held; well_formed = well_formed; crash = crash }; timed = step }

    -- refused because memory ran out or by a failed store
    pub faulted : (at : ℕ) (before after : Left → Type 0) (holds : Content → Type 0) (m : Content) (message : Message) (refusal : Refusal) → ((refusal ≢ NoMemory) → (refusal ≢ StoreFault) → ⊥)
        → IsWellFormed texts m → holds m → ((left : Left) → after left → before left) → IsHandledAt texts stands at before after holds m message (Refused refusal)
    faulted at before after holds m message refusal fault well_formed held crash =
        handled_at at before after holds m message (Refused refusal) m (fault_step at m message refusal (kept_at m (message_id_of message)) fault) held well_formed
        (λ left it. left_refused before m message refusal m left (kept_at m (message_id_of message)) (crash left it))

    -- decided against
    pub decided : (at : ℕ) (before after : Left → Type 0) (holds : Content → Type 0) (m : Content) (message : Message) (refusal : Refusal)
        → Refuses texts m message.command refusal → kept_at m (message_id_of message) ≡ None
        → IsWellFormed texts m → holds m → ((left : Left) → after left → before left) → IsHandledAt texts stands at before after holds m message (Refused refusal)
    decided at before after holds m message refusal refused none well_formed held crash =
        handled_at at before after holds m message (Refused refusal) m (step_new at m message (Refused refusal) m none (refused, refl)) held well_formed
        (λ left it. left_refused before m message refusal m left (kept_at m (message_id_of message)) (crash left it))

    -- answered again
    pub repeated : (at : ℕ) (before after : Left → Type 0) (holds : Content → Type 0) (m : Content) (message : Message) (answer : Reply) (row : Kept)
        → kept_at m (message_id_of message) ≡ Some row → StepAgain texts row message answer
        → IsWellFormed texts m → holds m → ((left : Left) → after left → before left) → IsHandledAt texts stands at before after holds m message answer
    repeated at before after holds m message answer row some step well_formed held crash =
        handled_at at before after holds m message answer m (step_again at m message answer row some step) held well_formed
        (λ left it. subst (λ o. MatchOption o (CrashStatesAfterNew texts stands before m message answer m left) (λ (row : Kept). before left)) (sym some) (crash left it))

    -- handled after a reading
    pub handled_later : (at : ℕ) (before mid after : Left → Type 0) (holds : Content → Type 0) (m : Content) (message : Message) (answer : Reply) → ((left : Left) → mid left → before left)
        → IsHandledAt texts stands at mid after holds m message answer → IsHandledAt texts stands at before after holds m message answer
    handled_later at before mid after holds m message answer grows is =
        let one = is.handled in
        record {
          handled = record {
            next = one.next;
            step = one.step;
            held = one.held;
            well_formed = one.well_formed;
            crash = λ left it. left_more before mid grows m message answer one.next left (one.crash left it);
          };
          timed = is.timed;
        }

    module _ (at : ℕ) (before mid after : Left → Type 0) (holds : Content → Type 0) (m : Content) (message : Message) (read : Reading) (change made : Change) (is_message : IsMessage message)
        (none : kept_at m (message_id_of message) ≡ None) (well_formed : IsWellFormed texts m) (reads : Reads texts m message.command read) (allowed : refusal_of m message.command read ≡ None) (makes : Makes m message.command read made)
        (row : changed m change ≡ changed m (keeping_at texts at m message made)) where
      abbrev next : Content
      next = changed m (keeping_at texts at m message made)

      is_made : IsMade made.reply
      is_made = reports_accepted texts m message read made well_formed reads allowed makes is_message

      abbrev accepted : Accepts texts m message read made.reply next
      accepted = record { reads = reads; allowed = allowed; change = made; makes = makes; answered = refl; at = at; becomes = refl }

      made_step : StepNewAt texts at m message made.reply next
      made_step = step_made at m message read made.reply next is_made accepted refl

      -- accepted and kept
      pub committed : holds (changed m change) → ((left : Left) → after left → stands left (changed m change)) → IsHandledAt texts stands at before after holds m message made.reply
      committed held lasts =
          handled_at at before after holds m message made.reply next (step_new at m message made.reply next none made_step) (subst holds row held)
          (well_formed_entered texts m message read made at well_formed reads allowed makes is_message)
          (λ left it. left_new before m message made.reply next left none (left_made before m message made.reply next left is_made (subst (stands left) row (lasts left it))))

      -- the commit failed
      pub failed : (refusal : Refusal) → ((refusal ≢ NoMemory) → (refusal ≢ StoreFault) → ⊥) → holds m → ((left : Left) → mid left → before left)
          → ((left : Left) → after left → mid left ⊎ stands left (changed m change)) → IsHandledAt texts stands at before after holds m message (Refused refusal)
      failed refusal fault held crash_first crash =
          handled_at at before after holds m message (Refused refusal) m (step_new at m message (Refused refusal) m none (λ n s. absurd (fault n s), refl)) held well_formed
          (λ left it. left_new before m message (Refused refusal) m left none (elim (crash left it) [
            | inl was ↦ inl (crash_first left was)
            | inr new ↦ inr (made.reply, next, new_untimed at m message made.reply next made_step, subst (stands left) row new)
          ]))

    -- what may be left in the end grows with what could be left before
    pub leads_grow : (before mid after : Left → Type 0) → ((left : Left) → mid left → before left)
        → (old new : Content) (messages : List Message) (answers : List Reply) → Leads texts stands mid old messages answers new after → Leads texts stands before old messages answers new after
    leads_grow before mid after grows old new [] [] leads = (leads.0, λ left it. grows left (leads.1 left it))
    leads_grow before mid after grows old new [] (r ∷ rs) leads = absurd leads
    leads_grow before mid after grows old new (m ∷ ms) [] leads = absurd leads
    leads_grow before mid after grows old new (m ∷ ms) (r ∷ rs) leads = (
      leads.0,
      leads.1,
      leads_grow (CrashStatesAfter texts stands before old m r leads.0) (CrashStatesAfter texts stands mid old m r leads.0) after (left_more before mid grows old m r leads.0) leads.0 new ms rs leads.2,
    )

-- Lines that were answered, and more of them.
use Rattle.std.proofs.Common.{◌≡◌, ℕ, ◌+◌, ◌*◌, ◌≤◌, inl, inr, Result, Ok, Err, List, [], ◌∷◌, ◌++◌, length, Option, Some, None, refl, sym, ap, subst, ◌∙◌, arith, append_assoc, append-nil, length-append}
use Rattle.std.specs.Prelude.{IfErr, ◌⊎◌, ⊤, map, zip, option_and_then}
use Rattle.std.specs.List.{flat_map}
use Rattle.shop_wire.specs.declared.faults.ReplayFault.{ReplayFault}
use Rattle.shop_wire.specs.declared.faults.ReplayFault.TheVariants.{Read, Write, NoMemory}
use Rattle.shop_wire.specs.declared.limits.TheConstants.{BUFFER_SIZE}
use Rattle.shop_wire.specs.Streams.{work, most_reads}
use Rattle.std.specs.Io.KnownBytes.{Appends, IsAtEnd, prepend_known}
use Rattle.std.proofs.KnownBytes.{Appends-trans, Appends-nil}
use Rattle.std.proofs.lemmas.Grind.{flat_map-append}
use Rattle.std.proofs.lemmas.List.Elements.{filter_map-append}
use Rattle.shop_records.specs.declared.messages.Message.{Message}
use Rattle.shop_records.specs.declared.messages.Reply.{Reply}
use Rattle.shop_records.specs.Content.{Content}
use Rattle.shop_records.specs.WellFormed.{IsWellFormed}
use Rattle.shop_forms.specs.Forms.{message_of, json_texts}
use Rattle.shop_wire.specs.Lines.{lines_of, AreLines, GivesLine, kept_of}
use Rattle.shop_book.specs.declared.books.Book.{Ghosts}
use Rattle.shop_desk.specs.Faults.{CountsUp, ReportOfFailures}
use Rattle.shop_desk.specs.Handled.{HasAccount, OneByOne}
use Rattle.shop_desk.proofs.Justified.{report_more}
use Rattle.shop_desk.proofs.Accounts.{account_same, account_more}
use Rattle.shop_desk.proofs.Handling.{one_by_one as chained}
use Rattle.shop_wire.specs.AnswerBytes.{Response}
use Rattle.shop_wire.specs.Replays.{ExchangesLead, InTurn, exchanges, HasAnswered, AnswersOne, LineStep, line_message, IsReplayed, replies_in, reply_in, response_line, response_lines, with_reply}
use Rattle.shop_wire.proofs.Answered.{AccountOne, LeadsOne, whole_line, data_of-kept_of}
use Rattle.shop_wire.proofs.Crashes.{leads_join}

-- ---- what was answered

module _ {X B : Type 0} (step : Content → X → Response → Content → Type 0) (message_in : X → Option Message) (book : Ghosts B) where
  zip-append : (old mid : Content) (xs more : List X) (responses later : List Response) → InTurn step message_in old xs responses mid
      → zip (xs ++ more) (responses ++ later) ≡ zip xs responses ++ zip more later
  zip-append old mid [] more [] later run = refl
  zip-append old mid [] more (t ∷ ts) later run = absurd run
  zip-append old mid (x ∷ xs) more [] later run = absurd run
  zip-append old mid (x ∷ xs) more (t ∷ ts) later run = ap (λ es. (x, t) ∷ es) (zip-append run.0 mid xs more ts later run.2)

  exchanges-append : (old mid : Content) (xs more : List X) (responses later : List Response) → InTurn step message_in old xs responses mid
      → exchanges step message_in (xs ++ more) (responses ++ later) ≡ exchanges step message_in xs responses ++ exchanges step message_in more later
  exchanges-append old mid xs more responses later run =
      ap (flat_map (λ e. with_reply (message_in e.0) e.1)) (zip-append old mid xs more responses later run)
      ∙ flat_map-append (λ e. with_reply (message_in e.0) e.1) (zip xs responses) (zip more later)

  pub none_answered : (at : B) (m : Content) → book.holds at m → IsWellFormed json_texts m → HasAnswered step message_in book at at m [] []
  none_answered at m held well_formed =
      record { next = m; run = refl; held = held; well_formed = well_formed; crash = (refl, λ left it. it); store_fault_justified = λ none. absurd none; account = account_same json_texts m m refl }

  pub more_answered : (a b c : B) (m : Content) (xs more : List X) (responses later : List Response) → CountsUp (book.failed a) (book.failed b) → CountsUp (book.failed b) (book.failed c)
      → (one : HasAnswered step message_in book a b m xs responses) → HasAnswered step message_in book b c one.next more later → HasAnswered step message_in book a c m (xs ++ more) (responses ++ later)
  more_answered a b c m xs more responses later up next one two =
      record {
        next = two.next;
        run = chained (λ from to x response. step from x response to) m one.next two.next xs more responses later one.run two.run;
        held = two.held;
        well_formed = two.well_formed;
        crash = subst (λ es. ExchangesLead book a c m es two.next) (sym (exchanges-append m one.next xs more responses later one.run))
            (leads_join json_texts book.stands (book.may_leave a) (book.may_leave b) (book.may_leave c) m one.next two.next (exchanges step message_in xs responses) (exchanges step message_in more later) one.crash two.crash);
        store_fault_justified = subst (λ rs. ReportOfFailures rs (book.failed a) (book.failed c)) (sym (filter_map-append reply_in responses later))
            (report_more (book.failed a) (book.failed b) (book.failed c) (replies_in responses) (replies_in later) up next one.store_fault_justified two.store_fault_justified);
        account = subst (λ es. HasAccount json_texts m (map (λ (e : Message × Reply). e.0) es) (map (λ (e : Message × Reply). e.1) es) two.next) (sym (exchanges-append m one.next xs more responses later one.run))
            (account_more json_texts m one.next two.next (exchanges step message_in xs responses) (exchanges step message_in more later) one.account two.account);
      }

-- ---- lines

module _ {B : Type 0} (book : Ghosts B) where
  -- nothing was answered yet
  pub none_replayed : (at : B) (held : Option (List ℕ)) → IsReplayed book at at held held [] []
  none_replayed at held =
      record {
        responses = [];
        each = refl;
        bytes = [];
        reported = refl;
        written = Appends-nil held;
        run = record { one_by_one = refl; in_turn = λ h m held well_formed. none_answered LineStep line_message book at m held well_formed };
      }

  -- a line that was answered, and of which what it is reported was written but for some last bytes
  pub one_replayed : (before after : B) (held_old held_new : Option (List ℕ)) (line : List ℕ) (response : Response) (bytes unwritten : List ℕ)
      → bytes ++ unwritten ≡ response_line response → Appends held_old held_new bytes
      → AnswersOne LineStep line_message book before after line response
      → IsReplayed book before after held_old held_new (line ∷ []) unwritten
  one_replayed before after held_old held_new line response bytes unwritten reported written one =
      record {
        responses = response ∷ [];
        each = refl;
        bytes = bytes;
        reported = reported ∙ sym (append-nil (response_line response));
        written = written;
        run = record { one_by_one = (after, one, refl); in_turn = one.answered };
      }

  joined : (bytes held more lost next : List ℕ) (responses later : List Response) → bytes ++ held ≡ response_lines responses → more ++ lost ≡ response_lines later → next ≡ held ++ more
      → bytes ++ (next ++ lost) ≡ response_lines (responses ++ later)
  joined bytes held more lost next responses later p q is =
      ap (λ l. bytes ++ (l ++ lost)) is ∙ ap (λ l. bytes ++ l) (append_assoc held more lost) ∙ sym (append_assoc bytes held (more ++ lost))
      ∙ ap (λ l. (bytes ++ held) ++ l) q ∙ ap (λ l. l ++ response_lines later) p ∙ sym (flat_map-append response_line responses later)

  -- lines that were answered, of which some is held, and then more that is held but for some last bytes
  pub more_held : (before mid after : B) (a b : Option (List ℕ)) (lines more : List (List ℕ)) (held next lost : List ℕ)
      → (book.has_clean_disk after → book.has_clean_disk mid) → CountsUp (book.failed before) (book.failed mid) → CountsUp (book.failed mid) (book.failed after)
      → IsReplayed book before mid a b lines held → IsReplayed book mid after (Some held) (Some next) more lost → IsReplayed book before after a b (lines ++ more) (next ++ lost)
  more_held before mid after a b lines more held next lost back up later first second =
      record {
        responses = first.responses ++ second.responses;
        each = length-append first.responses second.responses ∙ ap (λ n. n + length second.responses) first.each ∙ ap (λ n. length lines + n) second.each ∙ sym (length-append lines more);
        bytes = first.bytes;
        reported = joined first.bytes held second.bytes lost next first.responses second.responses first.reported second.reported second.written;
        written = first.written;
        run = record {
          one_by_one = chained (AnswersOne LineStep line_message book) before mid after lines more first.responses second.responses first.run.one_by_one second.run.one_by_one;
          in_turn = λ h m held well_formed.
              let one = first.run.in_turn (back h) m held well_formed in
              more_answered LineStep line_message book before mid after m lines more first.responses second.responses up later one (second.run.in_turn h one.next one.held one.well_formed);
        };
      }

  -- some of what is held is written
  pub passed_on : (before after : B) (a b c : Option (List ℕ)) (lines : List (List ℕ)) (held done rest : List ℕ)
      → done ++ rest ≡ held → Appends b c done → IsReplayed book before after a b lines held → IsReplayed book before after a c lines rest
  passed_on before after a b c lines held done rest is written r =
      record {
        responses = r.responses;
        each = r.each;
        bytes = r.bytes ++ done;
        reported = append_assoc r.bytes done rest ∙ ap (λ l. r.bytes ++ l) is ∙ r.reported;
        written = Appends-trans a b c r.bytes done r.written written;
        run = r.run;
      }

  answered_whole : (before after : B) (m : Content) (whole : List ℕ) (responses : List Response)
      → HasAnswered LineStep line_message book before after m (kept_of whole ∷ []) responses → HasAnswered LineStep line_message book before after m (whole ∷ []) responses
  answered_whole before after m whole [] one = absurd one.run
  answered_whole before after m whole (t ∷ []) one =
      record {
        next = one.next;
        run = (one.run.0, whole_line m one.run.0 whole t one.run.1, one.run.2);
        held = one.held;
        well_formed = one.well_formed;
        crash = subst (LeadsOne book before after m t one.next) (ap (option_and_then message_of) (data_of-kept_of whole)) one.crash;
        store_fault_justified = one.store_fault_justified;
        account = subst (AccountOne m t one.next) (ap (option_and_then message_of) (data_of-kept_of whole)) one.account;
      }
  answered_whole before after m whole (t ∷ s ∷ ts) one = absurd one.run.2

  one_whole : (before after : B) (whole : List ℕ) (response : Response) → AnswersOne LineStep line_message book before after (kept_of whole) response
      → AnswersOne LineStep line_message book before after whole response
  one_whole before after whole response one =
      record { answered = λ h m held well_formed. answered_whole before after m whole (response ∷ []) (one.answered h m held well_formed); clean_disk = one.clean_disk; failures = one.failures }

  each_whole : (before after : B) (whole : List ℕ) (responses : List Response) → OneByOne (AnswersOne LineStep line_message book) before (kept_of whole ∷ []) responses after
      → OneByOne (AnswersOne LineStep line_message book) before (whole ∷ []) responses after
  each_whole before after whole [] one = one
  each_whole before after whole (t ∷ []) one = (one.0, one_whole before one.0 whole t one.1, one.2)
  each_whole before after whole (t ∷ s ∷ ts) one = absurd one.2

  -- what is kept of a line was answered as the line
  pub whole_replayed : (before after : B) (a b : Option (List ℕ)) (whole unwritten : List ℕ)
      → IsReplayed book before after a b (kept_of whole ∷ []) unwritten → IsReplayed book before after a b (whole ∷ []) unwritten
  whole_replayed before after a b whole unwritten r =
      record {
        responses = r.responses;
        each = r.each;
        bytes = r.bytes;
        reported = r.reported;
        written = r.written;
        run = record {
          one_by_one = each_whole before after whole r.responses r.run.one_by_one;
          in_turn = λ h m held well_formed. answered_whole before after m whole r.responses (r.run.in_turn h m held well_formed);
        };
      }

  -- none or all of one line
  pub part_replayed : (before after : B) (a b : Option (List ℕ)) (whole unwritten : List ℕ) (lines more : List (List ℕ))
      → lines ++ more ≡ kept_of whole ∷ [] → IsReplayed book before after a b lines unwritten
      → (those rest : List (List ℕ)) × (those ++ rest ≡ whole ∷ []) × IsReplayed book before after a b those unwritten
  part_replayed before after a b whole unwritten [] more is r = ([], whole ∷ [], refl, r)
  part_replayed before after a b whole unwritten (l ∷ []) more is r =
      let same : l ≡ kept_of whole = cc in
      (whole ∷ [], [], refl, whole_replayed before after a b whole unwritten (subst (λ l. IsReplayed book before after a b (l ∷ []) unwritten) same r))
  part_replayed before after a b whole unwritten (l ∷ k ∷ ls) more is r = absurd (omega (arith, ap length is))

-- ---- the lines of the input

-- these lines were read of what there was
abbrev pub HasRead : Option (List ℕ) → Option (List ℕ) → List (List ℕ) → Type 0
HasRead None now lines = ⊤
HasRead (Some xs) None lines = ⊥
HasRead (Some xs) (Some ys) lines = lines_of xs ≡ lines ++ lines_of ys

pub none_read : (left : Option (List ℕ)) → HasRead left (prepend_known [] left) []
none_read None = tt
none_read (Some xs) = refl

pub line_read : (left now next : Option (List ℕ)) (lines : List (List ℕ)) (line : List ℕ) → HasRead left now lines → GivesLine now next line → HasRead left next (lines ++ line ∷ [])
line_read None now next lines line p q = tt
line_read (Some xs) None next lines line p q = absurd p
line_read (Some xs) (Some ys) None lines line p q = absurd q
line_read (Some xs) (Some ys) (Some zs) lines line p q = p ∙ ap (λ l. lines ++ l) q ∙ sym (append_assoc lines (line ∷ []) (lines_of zs))

pub all_read : (left now : Option (List ℕ)) (lines : List (List ℕ)) → HasRead left now lines → IsAtEnd now → AreLines left lines
all_read None now lines p end = tt
all_read (Some xs) None lines p end = absurd p
all_read (Some xs) (Some ys) lines p end = sym (p ∙ ap (λ l. lines ++ lines_of l) end ∙ append-nil lines)

pub some_read : (left now : Option (List ℕ)) (lines : List (List ℕ)) → HasRead left now lines → (more : List (List ℕ)) × AreLines left (lines ++ more)
some_read None now lines p = ([], tt)
some_read (Some xs) None lines p = absurd p
some_read (Some xs) (Some ys) lines p = (lines_of ys, sym p)

-- the lines that were answered are first lines of those that were read
pub first_read : (left now : Option (List ℕ)) (lines those rest : List (List ℕ)) (line : List ℕ) → HasRead left now (lines ++ line ∷ []) → those ++ rest ≡ line ∷ []
    → (more : List (List ℕ)) × AreLines left ((lines ++ those) ++ more)
first_read left now lines those rest line p is =
    let more = some_read left now (lines ++ line ∷ []) p in
    let same : (lines ++ line ∷ []) ++ more.0 ≡ (lines ++ those) ++ (rest ++ more.0) =
    ap (λ l. (lines ++ l) ++ more.0) (sym is) ∙ ap (λ l. l ++ more.0) (sym (append_assoc lines those rest)) ∙ append_assoc (lines ++ those) rest more.0 in
    (rest ++ more.0, subst (AreLines left) same more.1)

-- ---- at the start, and where it stops

pub work_before : (reads : ℕ) (p : List ℕ) → reads ≡ 0 → p ≡ [] → 0 + work reads p ≤ most_reads * (BUFFER_SIZE + 1)
work_before reads p is none = omega (arith, is, ap length none)

pub for_each_fault : {T E : Type 0} (r : Result T E) (P : E → Type 0) → ((e : E) → P e) → IfErr r P
for_each_fault (Ok x) P h = tt
for_each_fault (Err e) P h = h e

pub for_the_fault : {T E : Type 0} (r : Result T E) (P : E → Type 0) (e : E) → r ≡ Err e → P e → IfErr r P
for_the_fault (Ok x) P e is h = absurd (cc is)
for_the_fault (Err d) P e is h = let same : e ≡ d = cc in subst P same h

-- what was lost after a failed read is nothing, where no read failed
pub not_read : (fault : ReplayFault) (lost : List ℕ) → (fault ≡ NoMemory) ⊎ (fault ≡ Write) → fault ≡ Read → lost ≡ []
not_read fault lost (inl is) e = absurd (cc (sym is ∙ e))
not_read fault lost (inr is) e = absurd (cc (sym is ∙ e))

-- Requests one after another.
use Rattle.std.proofs.Common.{◌≡◌, ◌≢◌, ◌∙◌, ℕ, suc, ◌+◌, ◌<◌, ◌≤◌, List, [], ◌∷◌, ◌++◌, true, false, inl, inr, length, map, refl, sym, ap, subst, arith}
use Rattle.std.proofs.lemmas.List.{append-nil, length-append}
use Rattle.std.proofs.lemmas.List.Concat.{flat_map-append}
use Rattle.std.specs.Prelude.{◌⊎◌, Option, Some, Result}
use Rattle.std.specs.declared.time.Instant.{Instant}
use Rattle.shop_records.specs.declared.refusals.Refusal.{Refusal}
use Rattle.shop_request.specs.Requests.{ParseResult, silent, faulty, asking, ParsesTo}
use Rattle.shop_request.specs.declared.routes.Route.{Route}
use Rattle.shop_request.specs.declared.routes.Route.TheVariants.{Backup}
use Rattle.shop_serve.specs.Times.{Times}
use Rattle.shop_desk.specs.Handled.{HasAccount}
use Rattle.shop_desk.specs.Faults.{CountsUp}
use Rattle.shop_desk.proofs.Accounts.{account_same, account_more}
use Rattle.shop_desk.proofs.Justified.{up_more, failed_first, failed_last}
use Rattle.shop_records.specs.Content.{Content}
use Rattle.shop_request.specs.Guards.{HasVerdict}
use Rattle.shop_request.specs.declared.guards.Verdict.{Verdict}
use Rattle.shop_request.specs.declared.guards.Verdict.TheVariants.{Routed}
use Rattle.shop_forms.specs.Forms.{json_texts}
use Rattle.shop_book.specs.declared.books.Book.{Ghosts}
use Rattle.shop_planning.specs.declared.instance.PlanInstance.{PlanInstance}
use Rattle.shop_wire.specs.Replays.{ExchangesLead}
use Rattle.shop_wire.specs.Serves.{exchanged, IsBegun, IsServed}
use Rattle.shop_wire.proofs.Crashes.{leads_join}
use Rattle.shop_serve.specs.declared.answers.Made.{Made}
use Rattle.shop_serve.specs.declared.answers.Made.TheVariants.{Answer, PlanTask}
use Rattle.shop_serve.specs.Making.{IsMadeOf, IsMadeMeanwhile}
use Rattle.shop_serve.specs.declared.sites.Site.{Site}
use Rattle.shop_serve.specs.Sites.{is_routed, own_bytes}
use Rattle.shop_serve.specs.Serving.{ServedRequest, Handling, HandlingStep, IsCounted, IsServedOnce, routed, checked, begun, copied, ServedInOrder, asks_backup, is_backup, IsAnswered, IsAnsweredThen, IsBackupAnswer, exchange_of, exchanges, ReportsFailure, ReportOfFailures, HasServed, Advances}

-- what goes to its route, and what doesn't
pub is_route : (r : Verdict) → is_routed r ≡ true → r ≡ Routed
is_route Routed e = refl
is_route _ e = absurd (cc e)

pub no_route : (r : Verdict) → is_routed r ≡ false → r ≢ Routed
no_route r e is = absurd (cc (sym (ap is_routed is) ∙ e))

-- a backup is asked for by some body
pub is_for_backup : (route : Route) → is_backup route ≡ true → route ≡ Backup
is_for_backup Backup e = refl
is_for_backup _ e = absurd (cc e)

pub backup_asked : (received : List ℕ) (parsed : ParseResult) → asks_backup parsed ≡ true → ParsesTo received parsed → (body : List ℕ) × ParsesTo received (asking Backup body)
backup_asked received silent e has = absurd (cc e)
backup_asked received (faulty f) e has = absurd (cc e)
backup_asked received (asking route text) e has = (text, subst (λ r. ParsesTo received (asking r text)) (is_for_backup route e) has)

served-append : (site : Site) {B : Type 0} (book : Ghosts B) (before mid after : B) (old m new : Content) (ss ts : List ServedRequest)
    → ServedInOrder site book before old ss mid m → ServedInOrder site book mid m ts after new → ServedInOrder site book before old (ss ++ ts) after new
served-append site book before mid after old m new [] ts run more =
    subst (λ b. ServedInOrder site book b old ts after new) run.0 (subst (λ (c : Content). ServedInOrder site book mid c ts after new) run.1 more)
served-append site book before mid after old m new (s ∷ ss) ts run more =
    (run.0, run.1, run.2, run.3, served-append site book run.0 mid after run.1 m new ss ts run.4 more)

-- rounds, and then more of them
store_fault_justified-append : (a b c : ℕ) (ss ts : List ServedRequest) → CountsUp a b → CountsUp b c → ReportOfFailures ss a b → ReportOfFailures ts b c → ReportOfFailures (ss ++ ts) a c
store_fault_justified-append a b c [] ts up next first second t i e = failed_last a b c up (second t i e) next
store_fault_justified-append a b c (s ∷ ss) ts up next first second t (inl is) e = failed_first a b c (first t (inl is) e) next
store_fault_justified-append a b c (s ∷ ss) ts up next first second t (inr i) e = store_fault_justified-append a b c ss ts up next (λ t i. first t (inr i)) second t i e

module _ (site : Site) {B : Type 0} (book : Ghosts B) where
  -- none
  pub none_served : (here : B) (count : ℕ) → HasServed site book here here count
  none_served here count clean_disk m held well_formed =
      record { served = []; few = omega arith; next = m; run = (refl, refl); held = held; well_formed = well_formed; crash = (refl, λ left it. it); failures = inl refl; store_fault_justified = λ t i. absurd i; account = account_same json_texts m m refl }

  -- nothing was done
  pub none_done : (before after : B) (count : ℕ) → after ≡ before → HasServed site book before after count
  none_done before after count same = subst (λ b. HasServed site book before b count) (sym same) (none_served before count)

  -- one that does nothing and reports no failure
  once_same : (here : B) (m : Content) (handling : Handling) → HandlingStep m handling m → book.has_clean_disk here → book.holds here m → exchange_of handling ≡ [] → (ReportsFailure handling → ⊥)
      → IsServedOnce book here here m handling m
  once_same here m handling step clean_disk held none unreported =
      record {
        step = step;
        clean_disk = clean_disk;
        held = held;
        crash = subst (λ es. ExchangesLead book here here m es m) (sym none) (refl, λ left it. it);
        failures = inl refl;
        store_fault_justified = λ reports. absurd (unreported reports);
      }

  -- by its head an input goes to its route
  abbrev GoesToRoute : List ℕ → Type 0
  GoesToRoute input = HasVerdict site.guard input Routed

  -- one was served
  served_once : (before after : B) (input : List ℕ) (old new : Option (List ℕ)) (unwritten : List ℕ) → 0 < length input → GoesToRoute input
      → CountsUp (book.failed before) (book.failed after) → IsServed book before after (Some input) old new unwritten → HasServed site book before after 1
  served_once before after input old new unwritten some goes up s clean_disk m held well_formed =
      let response = s.2.response in
      let done = s.2.run.run clean_disk m held well_formed in
      let served_one : ServedRequest = record { input = input; handling = routed s.0 response; answer = s.2.bytes } in
      let once : IsServedOnce book before after m (routed s.0 response) done.next =
      record { step = done.step; clean_disk = clean_disk; held = done.held; crash = done.crash; failures = up; store_fault_justified = done.store_fault_justified } in
      record {
        served = served_one ∷ [];
        few = omega arith;
        next = done.next;
        run = (after, done.next, (some, (goes, s.1, (unwritten, s.2.reported))), once, (refl, refl));
        held = done.held;
        well_formed = done.well_formed;
        crash = subst (λ es. ExchangesLead book before after m es done.next) (sym (append-nil (exchanged s.0 response))) done.crash;
        failures = up;
        store_fault_justified = λ t i e. elim i [ inl is ↦ done.store_fault_justified (subst (λ (t : ServedRequest). ReportsFailure t.handling) is e) | inr none ↦ absurd none ];
        account = subst (λ es. HasAccount json_texts m (map (λ e. e.0) es) (map (λ e. e.1) es) done.next) (sym (append-nil (exchanged s.0 response))) done.account;
      }

  pub one_served : (before after : B) (input : List ℕ) (left old new : Option (List ℕ)) (unwritten : List ℕ) → left ≡ Some input → 0 < length input → GoesToRoute input
      → CountsUp (book.failed before) (book.failed after) → IsServed book before after left old new unwritten → HasServed site book before after 1
  one_served before after input left old new unwritten is some goes up s =
      served_once before after input old new unwritten some goes up (subst (λ l. IsServed book before after l old new unwritten) is s)

  -- one was, or nothing was done
  pub one_done : (before after : B) (input : List ℕ) (left old new : Option (List ℕ)) (Same : Type 0) → left ≡ Some input → 0 < length input → GoesToRoute input
      → CountsUp (book.failed before) (book.failed after) → ((after ≡ before) × Same) ⊎ ((unwritten : List ℕ) × IsServed book before after left old new unwritten) → HasServed site book before after 1
  one_done before after input left old new Same is some goes up (inl same) = none_done before after 1 same.0
  one_done before after input left old new Same is some goes up (inr s) = one_served before after input left old new s.0 is some goes up s.1

  -- a query was begun
  begun_once : (before after : B) (input : List ℕ) (instance : PlanInstance) → 0 < length input → GoesToRoute input → CountsUp (book.failed before) (book.failed after)
      → IsBegun book before after (Some input) instance → HasServed site book before after 1
  begun_once before after input instance some goes up b clean_disk m held well_formed =
      let done = b.run clean_disk m held well_formed in
      let served_one : ServedRequest = record { input = input; handling = begun b.body b.query instance; answer = [] } in
      let once : IsServedOnce book before after m (begun b.body b.query instance) m =
      record { step = (refl, done.1); clean_disk = clean_disk; held = done.0; crash = (refl, b.keeps.crash clean_disk m held); failures = up; store_fault_justified = λ none. absurd none } in
      record {
        served = served_one ∷ [];
        few = omega arith;
        next = m;
        run = (after, m, (some, (goes, b.parsed, b.asks, refl)), once, (refl, refl));
        held = done.0;
        well_formed = well_formed;
        crash = (refl, b.keeps.crash clean_disk m held);
        failures = up;
        store_fault_justified = λ t i e. elim i [ inl is ↦ absurd (subst (λ (t : ServedRequest). ReportsFailure t.handling) is e) | inr none ↦ absurd none ];
        account = account_same json_texts m m refl;
      }

  pub one_begun : (before after : B) (input : List ℕ) (left : Option (List ℕ)) (instance : PlanInstance) → left ≡ Some input → 0 < length input → GoesToRoute input
      → CountsUp (book.failed before) (book.failed after) → IsBegun book before after left instance → HasServed site book before after 1
  one_begun before after input left instance is some goes up b = begun_once before after input instance some goes up (subst (λ l. IsBegun book before after l instance) is b)

  -- a backup was made or not, and this came of it
  pub one_copied : (here : B) (input answer : List ℕ) (outcome : Result ℕ Refusal) → 0 < length input → IsBackupAnswer site input answer outcome → HasServed site book here here 1
  one_copied here input answer outcome some is clean_disk m held well_formed =
      let served_one : ServedRequest = record { input = input; handling = copied is.0.1.0 outcome; answer = answer } in
      record {
        served = served_one ∷ [];
        few = omega arith;
        next = m;
        run = (here, m, (some, (is.0.0, is.0.1.1, is.1)), once_same here m served_one.handling refl clean_disk held refl (λ none. none), (refl, refl));
        held = held;
        well_formed = well_formed;
        crash = (refl, λ left it. it);
        failures = inl refl;
        store_fault_justified = λ t i e. elim i [ inl is ↦ absurd (subst (λ (t : ServedRequest). ReportsFailure t.handling) is e) | inr none ↦ absurd none ];
        account = account_same json_texts m m refl;
      }

  pub copied_once : (before after : B) (input answer : List ℕ) (outcome : Result ℕ Refusal) → after ≡ before → 0 < length input → IsBackupAnswer site input answer outcome
      → HasServed site book before after 1
  copied_once before after input answer outcome same some is = subst (λ b. HasServed site book before b 1) (sym same) (one_copied before input answer outcome some is)

  -- what was made without a backup
  pub made-alone : (before after : B) (seen : Times) (received : List ℕ) (made : Made) → IsMadeOf site book before after received made → IsMadeMeanwhile site book before after seen seen received made
  made-alone before after seen received (Answer answer) is = inl (is, refl)
  made-alone before after seen received (PlanTask task) is = (is, refl)

  -- what was answered meanwhile was answered
  pub answered-then : (before after : B) (seen seeing : Times) (now : Instant) (received answer : List ℕ) → IsAnsweredThen site book before after seen seeing now received answer
      → IsAnswered site book before after received answer
  answered-then before after seen seeing now received answer (still, stands, between, inl alone, reports) = inl alone.0
  answered-then before after seen seeing now received answer (still, stands, between, inr (outcome, is, same, copies), reports) = inr (outcome, is, same)

  -- the site answered one by itself
  pub one_checked : (before after : B) (input : List ℕ) (r : Verdict) (entries : Option ℕ) → 0 < length input → HasVerdict site.guard input r → r ≢ Routed
      → IsCounted book before after entries → HasServed site book before after 1
  one_checked before after input r entries some rules other counted clean_disk m held well_formed =
      let holds : book.holds after m = counted.0.stays clean_disk m held in
      let served_one : ServedRequest = record { input = input; handling = checked r entries; answer = own_bytes site entries r } in
      let once : IsServedOnce book before after m (checked r entries) m =
      record {
        step = (refl, counted.1 clean_disk m held);
        clean_disk = clean_disk;
        held = holds;
        crash = (refl, counted.0.crash clean_disk m held);
        failures = counted.0.failures;
        store_fault_justified = λ none. absurd none;
      } in
      record {
        served = served_one ∷ [];
        few = omega arith;
        next = m;
        run = (after, m, (some, (rules, other, refl)), once, (refl, refl));
        held = holds;
        well_formed = well_formed;
        crash = (refl, counted.0.crash clean_disk m held);
        failures = counted.0.failures;
        store_fault_justified = λ t i e. elim i [ inl is ↦ absurd (subst (λ (t : ServedRequest). ReportsFailure t.handling) is e) | inr none ↦ absurd none ];
        account = account_same json_texts m m refl;
      }

  -- and more
  pub more_served : (before mid after : B) (n k : ℕ) → (book.has_clean_disk after → book.has_clean_disk mid) → HasServed site book before mid n → HasServed site book mid after k → HasServed site book before after (n + k)
  more_served before mid after n k back run step clean_disk m held well_formed =
      let first = run (back clean_disk) m held well_formed in
      let second = step clean_disk first.next first.held first.well_formed in
      record {
        served = first.served ++ second.served;
        few = omega (arith, length-append first.served second.served, first.few, second.few);
        next = second.next;
        run = served-append site book before mid after m first.next second.next first.served second.served first.run second.run;
        held = second.held;
        well_formed = second.well_formed;
        crash = subst (λ es. ExchangesLead book before after m es second.next) (sym (flat_map-append (λ (t : ServedRequest). exchange_of t.handling) first.served second.served))
            (leads_join json_texts book.stands (book.may_leave before) (book.may_leave mid) (book.may_leave after) m first.next second.next (exchanges first.served) (exchanges second.served) first.crash second.crash);
        failures = up_more (book.failed before) (book.failed mid) (book.failed after) first.failures second.failures;
        store_fault_justified = store_fault_justified-append (book.failed before) (book.failed mid) (book.failed after) first.served second.served first.failures second.failures first.store_fault_justified second.store_fault_justified;
        account = subst (λ es. HasAccount json_texts m (map (λ e. e.0) es) (map (λ e. e.1) es) second.next) (sym (flat_map-append (λ (t : ServedRequest). exchange_of t.handling) first.served second.served))
            (account_more json_texts m first.next second.next (exchanges first.served) (exchanges second.served) first.account second.account);
      }

  -- at most so many is at most more
  pub few_served : (before after : B) (n k : ℕ) → n ≤ k → HasServed site book before after n → HasServed site book before after k
  few_served before after n k within run clean_disk m held well_formed =
      let done = run clean_disk m held well_formed in
      record {
        served = done.served;
        few = omega (arith, done.few, within);
        next = done.next;
        run = done.run;
        held = done.held;
        well_formed = done.well_formed;
        crash = done.crash;
        failures = done.failures;
        store_fault_justified = done.store_fault_justified;
        account = done.account;
      }

  -- nothing was served, though a number fell
  pub stays : (here : B) (from to : ℕ) → to ≤ from → Advances site book here here from to
  stays here from to within = (0, omega (arith, within), none_served here 0)

  -- one was served at most, as a number fell by one
  pub one_advances : (before after : B) (from to : ℕ) → suc to ≤ from → HasServed site book before after 1 → Advances site book before after from to
  one_advances before after from to within one = (1, omega (arith, within), one)

  -- a number fell, and then another: the third falls by as much as both at least
  pub advances_more : (before mid after : B) (over under over2 under2 from to : ℕ) → over + over2 + to ≤ under + under2 + from → (book.has_clean_disk after → book.has_clean_disk mid)
      → Advances site book before mid over under → Advances site book mid after over2 under2 → Advances site book before after from to
  advances_more before mid after over under over2 under2 from to within back first second =
      (first.0 + second.0, omega (arith, within, first.1, second.1), more_served before mid after first.0 second.0 back first.2 second.2)

  pub advances_within : (before after : B) (over under from to : ℕ) → over + to ≤ under + from → Advances site book before after over under → Advances site book before after from to
  advances_within before after over under from to within run = (run.0, omega (arith, within, run.1), run.2)

  pub advanced : (before after : B) (from to limit : ℕ) → from ≤ limit → Advances site book before after from to → HasServed site book before after limit
  advanced before after from to limit within run = few_served before after run.0 limit (omega (arith, run.1, within)) run.2

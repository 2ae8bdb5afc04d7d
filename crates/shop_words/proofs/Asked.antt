-- Words that ask for nothing.
use Rattle.std.proofs.Common.{◌≡◌, ◌∙◌, ◌⊎◌, ℕ, List, [], Option, Some, None, codes, inl, inr, false, true, subst, sym, ap, refl}
use Rattle.std.specs.Prelude.{◌==◌, Bool, is_some, option_map, IfSome, MatchOption, slice_index, unwrap_or, if◌then◌else◌}
use Rattle.clap.specs.Words.{Row, Text, first_of, one_of}
use Rattle.cut_measure.specs.Codes.{code_of}
use Rattle.cut_measure.specs.declared.ranges.TheConstants.{MAX_KERF}
use Rattle.shop_words.specs.declared.words.OrderPlan.{OrderPlan}
use Rattle.shop_words.specs.declared.words.Serving.{Serving}
use Rattle.shop_words.specs.declared.words.Request.{Request}
use Rattle.shop_words.specs.declared.words.Request.TheVariants.{Replay, Plan, PlanLines, Orders, Serve, Ticket, Yield, History, Audit, Restore}
use Rattle.shop_words.specs.declared.words.Word.{Word}
use Rattle.shop_words.specs.declared.words.Word.TheVariants as word
use Rattle.shop_words.specs.declared.words.ImportAs.{ImportAs}
use Rattle.shop_words.specs.declared.words.TheConstants.{MAX_AFTER, MAX_CONNECTIONS}
use Rattle.shop_words.specs.CommandLine.{names_message, names_stock, AsAsked, HasNumber, IsLimit, IsNumber, IsWhole, IsWholeAsked, IsSingleAsked, IsImportAs, IsLinesAsked, MayHaveNumber, IsOrderPlan, IsOrdersAsked, IsPlanAsked, IsProblemAsked, IsAuditAsked, IsHistoryAsked, IsRestoreAsked, IsServeAsked, IsServing, IsTicketAsked, IsYieldAsked, IsCode, IsAsked, AsksFor, AsksNothing, word_text}

nothing : {X : Type 0} (found : Option X) (x : X) → found ≡ None → found ≡ Some x → ⊥
nothing found x none some = subst (λ (o : Option _). IfSome o (λ _. ⊥)) (sym (sym some ∙ none)) tt

pub some_is : {X : Type 0} (x y : X) → Some x ≡ Some y → x ≡ y
some_is x y e = subst (λ (o : Option _). IfSome o (λ z. x ≡ z)) e refl

-- there is one where there is one of what it is made to
pub some_mapped : {X Y : Type 0} (f : X → Y) (o : Option X) (p : Option Y) → option_map f o ≡ p → is_some o ≡ is_some p
some_mapped f None p is = ap is_some is
some_mapped f (Some x) p is = ap is_some is

-- the text that was found is no code
pub no_code_of : (found : Option Text) (text : Text) → Some text ≡ found → None ≡ code_of text → (code : List ℕ) → IsCode found code → ⊥
no_code_of None text is none code asked = asked
no_code_of (Some t) text is none code asked = nothing (code_of t) code (sym (none ∙ ap code_of (some_is text t is))) asked

pub no_code : (found : Option Text) → found ≡ None → (code : List ℕ) → IsCode found code → ⊥
no_code found none code asked = subst (λ f. IsCode f code) none asked

-- it is this code
pub the_code : (found : Option Text) (text : Text) (code : List ℕ) → Some text ≡ found → Some code ≡ code_of text → IsCode found code
the_code None text code is has = absurd (nothing None text refl (sym is))
the_code (Some t) text code is has = sym (has ∙ ap code_of (some_is text t is))

-- a text stands for one number
pub one_number : (found : Option Text) (m n : ℕ) → IsNumber found m → IsNumber found n → m ≡ n
one_number None m n is too = absurd is
one_number (Some text) m n is too = sym is.1 ∙ too.1

-- what is asked is asked in other words
pub as_asked : {X : Type 0} (found : Option X) (P Q : X → Type 0) → ((x : X) → P x → Q x) → ((x : X) → Q x → P x) → AsAsked found P → AsAsked found Q
as_asked None P Q there back none = λ x q. none x (back x q)
as_asked (Some x) P Q there back is = there x is

with_flag : {W A B : Type 0} → W → (W × A) ⊎ ((W → ⊥) × B) → A
with_flag flag (inl p) = p.1
with_flag flag (inr p) = absurd (p.0 flag)

without_flag : {W A B : Type 0} → (W → ⊥) → (W × A) ⊎ ((W → ⊥) × B) → B
without_flag none (inl p) = absurd (none p.0)
without_flag none (inr p) = p.1

module _ (rows : List Row) (path : Text) (kerf : ℕ) (file : first_of (codes "FILE") rows ≡ Some path) (number : HasNumber (codes "kerf") rows 0 MAX_KERF kerf) where
  -- what is asked of file and kerf is asked of these
  of_these : (P : Text → ℕ → Type 0) (t : Text) (k : ℕ) → first_of (codes "FILE") rows ≡ Some t → HasNumber (codes "kerf") rows 0 MAX_KERF k → P t k → P path kerf
  of_these P t k file_too number_too is =
      let same_path = some_is t path (sym file_too ∙ file) in
      let same_kerf = one_number (one_of (codes "kerf") rows) k kerf number_too.0 number.0 in
      subst (λ n. P path n) same_kerf (subst (λ u. P u k) same_path is)

  pub whole_asked : IsWhole rows → (found : Option Request) → AsAsked found (IsWholeAsked path kerf rows) → AsAsked found (IsProblemAsked rows)
  whole_asked whole found = as_asked found _ _
      (λ request is. (path, kerf, file, number, inl (whole, is)))
      (λ request asked. of_these (λ t k. IsWholeAsked t k rows request) asked.0 asked.1 asked.2 asked.3 (with_flag whole asked.4))

  pub single_asked : (IsWhole rows → ⊥) → (found : Option Request) → AsAsked found (IsSingleAsked path kerf rows) → AsAsked found (IsProblemAsked rows)
  single_asked none found = as_asked found _ _
      (λ request is. (path, kerf, file, number, inr (none, is)))
      (λ request asked. of_these (λ t k. IsSingleAsked t k rows request) asked.0 asked.1 asked.2 asked.3 (without_flag none asked.4))

-- a plan of an order file, or one of a problem file
with_stock : {A B : Type 0} (b : Bool) → b ≡ true → ((b ≡ true) × A) ⊎ ((b ≡ false) × B) → A
with_stock b is (inl p) = p.1
with_stock b is (inr p) = absurd (cc (sym p.0 ∙ is))

without_stock : {A B : Type 0} (b : Bool) → b ≡ false → ((b ≡ true) × A) ⊎ ((b ≡ false) × B) → B
without_stock b is (inl p) = absurd (cc (sym p.0 ∙ is))
without_stock b is (inr p) = p.1

pub lines_asked : (rows : List Row) → names_stock rows ≡ true → (found : Option Request) → AsAsked found (IsLinesAsked rows) → AsAsked found (IsPlanAsked rows)
lines_asked rows named found = as_asked found _ _ (λ request is. inl (named, is)) (λ request asked. with_stock (names_stock rows) named asked)

pub problem_asked : (rows : List Row) → names_stock rows ≡ false → (found : Option Request) → AsAsked found (IsProblemAsked rows) → AsAsked found (IsPlanAsked rows)
problem_asked rows named found = as_asked found _ _ (λ request is. inr (named, is)) (λ request asked. without_stock (names_stock rows) named asked)

-- no plan of an order file is asked for, and so no such request
pub no_lines : (rows : List Row) → ((plan : OrderPlan) → IsOrderPlan rows plan → ⊥) → (request : Request) → IsLinesAsked rows request → ⊥
no_lines rows none (PlanLines plan) asked = none plan asked
no_lines rows none _ asked = asked

-- nothing is served, and so no such request
pub no_serving : (rows : List Row) → ((serving : Serving) → IsServing rows serving → ⊥) → (request : Request) → IsServeAsked rows request → ⊥
no_serving rows none (Serve serving) asked = none serving asked
no_serving rows none _ asked = asked

-- the texts behind an option
pub texts_found : (found : Option (List Text)) (texts : List Text) → Some texts ≡ found → texts ≡ unwrap_or found []
texts_found found texts is = ap (λ o. unwrap_or o []) is

pub none_found : (found : Option (List Text)) → None ≡ found → [] ≡ unwrap_or found []
none_found found is = ap (λ o. unwrap_or o []) is

pub no_value : (name : Text) (rows : List Row) → first_of name rows ≡ None → (text : Text) → first_of name rows ≡ Some text → ⊥
no_value name rows none text some = nothing (first_of name rows) text none some

pub no_plan_file : (rows : List Row) → first_of (codes "FILE") rows ≡ None → (request : Request) → IsProblemAsked rows request → ⊥
no_plan_file rows none request asked = nothing (first_of (codes "FILE") rows) asked.0 none asked.2

pub no_orders_file : (rows : List Row) → first_of (codes "FILE") rows ≡ None → (request : Request) → IsOrdersAsked rows request → ⊥
no_orders_file rows none (Orders file shop None) asked = nothing (first_of (codes "FILE") rows) file.now none asked.0
no_orders_file rows none (Orders file shop (Some reported)) asked = nothing (first_of (codes "FILE") rows) file.now none asked.0
no_orders_file rows none _ asked = asked

-- some of the options are there, and no message is made of them
pub no_orders_message : (rows : List Row) → names_message rows ≡ true → ((reported : ImportAs) → IsImportAs rows reported → ⊥) → (request : Request) → IsOrdersAsked rows request → ⊥
no_orders_message rows some none (Orders file shop None) asked = absurd (cc (sym asked.2 ∙ some))
no_orders_message rows some none (Orders file shop (Some reported)) asked = none reported asked.2
no_orders_message rows some none _ asked = asked

-- the limit's number is out of range
pub no_limit : (rows : List Row) → is_some (first_of (codes "limit") rows) ≡ true → ((n : ℕ) → HasNumber (codes "limit") rows 1 MAX_CONNECTIONS n → ⊥) → (limit : Option ℕ) → IsLimit rows limit → ⊥
no_limit rows some none None asked = absurd (cc (sym asked.0 ∙ some))
no_limit rows some none (Some n) (inl has) = none n has
no_limit rows some none (Some n) (inr is) = absurd (cc (sym is.0 ∙ some))

pub no_ticket_store : (rows : List Row) → first_of (codes "store") rows ≡ None → (request : Request) → IsTicketAsked rows request → ⊥
no_ticket_store rows none (Ticket store job read_only) asked = nothing (first_of (codes "store") rows) store.now none asked.0
no_ticket_store rows none _ asked = asked

pub no_yield_store : (rows : List Row) → first_of (codes "store") rows ≡ None → (request : Request) → IsYieldAsked rows request → ⊥
no_yield_store rows none (Yield store material read_only) asked = nothing (first_of (codes "store") rows) store.now none asked.0
no_yield_store rows none _ asked = asked

pub no_yield_code : (rows : List Row) → ((code : List ℕ) → IsCode (first_of (codes "MATERIAL") rows) code → ⊥) → (request : Request) → IsYieldAsked rows request → ⊥
no_yield_code rows none (Yield store material read_only) asked = none material asked.1
no_yield_code rows none _ asked = asked

pub no_history_store : (rows : List Row) → first_of (codes "store") rows ≡ None → (request : Request) → IsHistoryAsked rows request → ⊥
no_history_store rows none (History store after read_only) asked = nothing (first_of (codes "store") rows) store.now none asked.0
no_history_store rows none _ asked = asked

-- the number behind which entries are asked for is out of range
pub no_history_after : (rows : List Row) → ((after : Option ℕ) → MayHaveNumber (codes "after") rows 0 MAX_AFTER after → ⊥) → (request : Request) → IsHistoryAsked rows request → ⊥
no_history_after rows none (History store after read_only) asked = none after asked.1
no_history_after rows none _ asked = asked

pub no_audit_store : (rows : List Row) → first_of (codes "store") rows ≡ None → (request : Request) → IsAuditAsked rows request → ⊥
no_audit_store rows none (Audit store read_only) asked = nothing (first_of (codes "store") rows) store.now none asked.0
no_audit_store rows none _ asked = asked

pub no_restore_store : (rows : List Row) → first_of (codes "store") rows ≡ None → (request : Request) → IsRestoreAsked rows request → ⊥
no_restore_store rows none (Restore store from) asked = nothing (first_of (codes "store") rows) store.now none asked.0
no_restore_store rows none _ asked = asked

pub no_restore_from : (rows : List Row) → first_of (codes "from") rows ≡ None → (request : Request) → IsRestoreAsked rows request → ⊥
no_restore_from rows none (Restore store from) asked = nothing (first_of (codes "from") rows) from.now none asked.1
no_restore_from rows none _ asked = asked

-- ---- the words of the commands differ: each has another first letter, or two of them another third one

word_at : Text → Word
word_at text =
    let first = slice_index text 0 in
    if first == 112 then word.Plan else (if first == 111 then word.Orders else (if first == 115 then word.Serve else (if first == 116 then word.Ticket
    else (if first == 121 then word.Yield else (if first == 104 then word.History else (if first == 97 then word.Audit
    else (if slice_index text 2 == 112 then word.Replay else word.Restore)))))))

word_at-text : (w : Word) → word_at (word_text w) ≡ w
unfolding word_at
word_at-text word.Replay = refl
word_at-text _ = refl

one_word : (v w : Word) → word_text v ≡ word_text w → v ≡ w
one_word v w same = sym (word_at-text v) ∙ ap word_at same ∙ word_at-text w

-- what is asked under a command's name is asked of that command
pub asked_of : (found : Option (Text × List Row)) (name : Text) (rows : List Row) → Some (name, rows) ≡ found → (w : Word) → name ≡ word_text w
    → (request : Option Request) → MatchOption request ((r : Request) → IsAsked w rows r → ⊥) (IsAsked w rows) → MatchOption request (AsksNothing found) (AsksFor found)
asked_of found name rows is w named None none =
    subst AsksNothing is (λ r asked. none r (subst (λ v. IsAsked v rows r) (one_word asked.0 w (sym asked.1 ∙ named)) asked.2))
asked_of found name rows is w named (Some r) asked = subst (λ f. AsksFor f r) is (w, named, asked)

-- under another name nothing is asked
pub asked_of_none : (found : Option (Text × List Row)) (name : Text) (rows : List Row) → Some (name, rows) ≡ found → ((w : Word) → name ≡ word_text w → ⊥) → AsksNothing found
asked_of_none found name rows is none = subst AsksNothing is (λ r asked. none asked.0 asked.1)

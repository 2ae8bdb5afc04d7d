-- When two contents are the same.
use Rattle.std.specs.Prelude.{◌≡◌, Bool, true, false, ◌&&◌, ◌==◌, nat_eq}
use Rattle.std.specs.Prelude.{T, refl, Option, Some, None}
use Rattle.std.specs.Option.{option_eq}
use Rattle.std.proofs.Common.{ap, sym, subst, ◌∙◌}
use Rattle.std.specs.Bool.{Decides}
use Rattle.std.specs.Cmp.{IsPartialEquivalence, unsigned_Decides, booleans_Decides, decided}
use Rattle.std.specs.Bool.{beq}
use Rattle.std.specs.Cmp.Lexicographic.{pointwise, pointwise_decides, bytes_decides}
use Rattle.std.proofs.lemmas.Bool.Decides.{Decides-and, Decides-like}
use Rattle.std.specs.declared.cmp.Ordering.{Ordering}
use Rattle.std.specs.FinMap.{FinMap, entries, same_entries_map}
use Rattle.std.specs.FinSet.{FinSet, items, contains-items, same_set}
use Rattle.std.specs.Cmp.Lexicographic.{nat_list_cmp_total}
use Rattle.std.specs.List.{list_any}
use Rattle.std.specs.Ordering.{eq_by_cmp}
use Rattle.cut_measure.specs.Codes.{code_cmp}
use Rattle.cut_measure.specs.Measures.{CutParams}
use Rattle.cut_measure.specs.declared.sizes.Kind.{Kind}
use Rattle.cut_measure.specs.declared.sizes.Kind.TheVariants.{Bar, Sheet}
use Rattle.shop_records.specs.declared.records.Material.{Material}
use Rattle.shop_records.specs.declared.records.Job.{Job}
use Rattle.shop_records.specs.declared.records.JobState.{JobState}
use Rattle.shop_records.specs.declared.records.JobState.TheVariants as job_state
use Rattle.shop_records.specs.declared.records.JobHalt.{JobHalt}
use Rattle.shop_records.specs.declared.records.JobBegin.{JobBegin}
use Rattle.shop_records.specs.declared.notes.OrderNote.{OrderNote}
use Rattle.cut_tree.specs.declared.halts.Halt.{Halt}
use Rattle.cut_tree.specs.declared.halts.Halt.TheVariants.{First, Listed}
use Rattle.shop_records.specs.declared.records.Demand.{Demand}
use Rattle.shop_records.specs.declared.texts.MessageId.{MessageId}
use Rattle.shop_records.specs.declared.texts.Kept.{Kept}
use Rattle.shop_records.specs.declared.imports.Form.{Form}
use Rattle.shop_records.specs.declared.imports.Form.TheVariants.{Csv, Cgcut}
use Rattle.shop_records.specs.declared.imports.ImportRow.{ImportRow}
use Rattle.shop_records.specs.Content.{Content}
use Rattle.shop_records.specs.Same.{same_name, same_message_id}
use Rattle.shop_records.specs.contracts.records.MaterialPartialEq.TheImpl as material_eq
use Rattle.cut_measure.specs.contracts.sizes.KindPartialEq.TheImpl as kind_eq
use Rattle.shop_records.specs.contracts.records.JobPartialEq.TheImpl as job_eq
use Rattle.shop_records.specs.contracts.records.JobStatePartialEq.TheImpl as job_state_eq
use Rattle.shop_records.specs.contracts.records.DemandPartialEq.TheImpl as demand_eq
use Rattle.shop_records.specs.contracts.records.JobBeginPartialEq.TheImpl as begin_eq
use Rattle.shop_records.specs.contracts.notes.OrderNotePartialEq.TheImpl as note_eq
use Rattle.cut_tree.specs.SamePatterns.{same_pattern_decides}
use Rattle.shop_records.specs.contracts.texts.KeptPartialEq.TheImpl as kept_eq
use Rattle.shop_records.specs.contracts.imports.FormPartialEq.TheImpl as form_eq
use Rattle.shop_records.specs.contracts.imports.ImportRowPartialEq.TheImpl as import_eq
use Rattle.shop_records.specs.Journal.{word_name}
use Rattle.shop_records.specs.declared.journal.Entry.{Entry}
use Rattle.shop_records.specs.declared.journal.Word.{Word}
use Rattle.shop_records.proofs.WordNames.{one_word}
use Rattle.shop_rows.specs.Keys.{codes_exact}
use Rattle.shop_rows.specs.SameParts.{name_decides, part_decides, same_part, size_decides}

-- ---- tests, as `==` makes them

abbrev pub same_material : Material → Material → Bool
same_material = material_eq.ghosts.eq

abbrev pub same_job : Job → Job → Bool
same_job = job_eq.ghosts.eq

abbrev pub same_demand : Demand → Demand → Bool
same_demand = demand_eq.ghosts.eq

abbrev pub same_begin : JobBegin → JobBegin → Bool
same_begin = begin_eq.ghosts.eq

abbrev pub same_note : OrderNote → OrderNote → Bool
same_note = note_eq.ghosts.eq

-- which cuts were made, and which one went wrong
abbrev pub same_cuts : Halt → Halt → Bool
same_cuts (First cuts lost) (First others other) = cuts == others && beq lost other
same_cuts (First cuts lost) (Listed others other) = false
same_cuts (Listed cuts lost) (First others other) = false
same_cuts (Listed cuts lost) (Listed others other) = pointwise nat_eq cuts others && option_eq nat_eq lost other

abbrev pub same_halt : JobHalt → JobHalt → Bool
same_halt a b = a.job == b.job && (same_cuts a.halt b.halt && option_eq nat_eq a.rest b.rest)

abbrev pub same_kept : Kept → Kept → Bool
same_kept = kept_eq.ghosts.eq

abbrev pub same_import : ImportRow → ImportRow → Bool
same_import = import_eq.ghosts.eq

-- words by their names
abbrev pub same_word : Word → Word → Bool
same_word v w = pointwise nat_eq (word_name v) (word_name w)

abbrev pub same_entry : Entry → Entry → Bool
same_entry a b =
    a.number == b.number
    && (same_message_id a.message_id b.message_id
    && (a.at == b.at && (same_word a.word b.word && (a.act == b.act && (a.job == b.job && (option_eq (pointwise nat_eq) a.order b.order && option_eq same_name a.part b.part))))))

-- whether two maps have the same entries
abbrev pub same_entries : {K X : Type 0} {R : K → K → Ordering} → (K → K → Bool) → (X → X → Bool) → FinMap R X → FinMap R X → Bool
same_entries E F m n = pointwise (λ e f. E e.0 f.0 && F e.1 f.1) (entries m) (entries n)

-- whether two sets have the same members
abbrev pub same_codes : FinSet code_cmp → FinSet code_cmp → Bool
same_codes s t = pointwise (pointwise nat_eq) (items s) (items t)

abbrev pub same_content : Content → Content → Bool
same_content m n =
    same_entries (pointwise nat_eq) same_material m.materials n.materials
    && (same_entries same_name same_part m.parts n.parts
    && (same_entries nat_eq same_job m.jobs n.jobs
    && (same_entries nat_eq same_halt m.halts n.halts
    && (same_entries nat_eq same_begin m.begun n.begun
    && (same_codes m.orders n.orders
    && (same_entries (pointwise nat_eq) same_note m.notes n.notes
    && (same_entries nat_eq same_demand m.demands n.demands && (same_entries same_message_id same_kept m.kept n.kept
    && (same_entries (pointwise nat_eq) same_import m.imports n.imports
    && (same_entries nat_eq same_entry m.entries n.entries && (m.last_act == n.last_act && m.last_demand == n.last_demand)))))))))))

-- ---- they tell contents apart

pub maps_decide : {K X : Type 0} {R : K → K → Ordering} {E : K → K → Bool} {F : X → X → Bool} → ((a b : K) → Decides (E a b) (a ≡ b)) → ((a b : X) → Decides (F a b) (a ≡ b)) → (m n : FinMap R X)
    → Decides (same_entries E F m n) (m ≡ n)
maps_decide keys values m n =
    Decides-like _ (same_entries_map m n) (ap entries)
    (pointwise_decides (λ e f. Decides-like _ (λ p i. (p.0 i, p.1 i)) (λ p. (ap (λ g. g.0) p, ap (λ g. g.1) p)) (Decides-and _ _ (keys e.0 f.0) (values e.1 f.1))) (entries m) (entries n))

one_set : (s t : FinSet code_cmp) → items s ≡ items t → s ≡ t
one_set s t e =
    same_set nat_list_cmp_total codes_exact s t
    (λ code. contains-items s code ∙ ap (list_any (eq_by_cmp code_cmp code)) e ∙ sym (contains-items t code))

pub codes_decide : (s t : FinSet code_cmp) → Decides (same_codes s t) (s ≡ t)
codes_decide s t = Decides-like _ (one_set s t) (ap items) (pointwise_decides bytes_decides (items s) (items t))

no : {A : Type 0} → false ≡ true → A
no e = absurd (subst T (sym e) tt)

one_kind : (a b : Kind) → kind_eq.ghosts.eq a b ≡ true → a ≡ b
one_kind Bar Bar e = refl
one_kind Bar Sheet e = no e
one_kind Sheet Bar e = no e
one_kind Sheet Sheet e = refl

own_kind : (a : Kind) → kind_eq.ghosts.eq a a ≡ true
own_kind Bar = refl
own_kind Sheet = refl

kind_decides : (a b : Kind) → Decides (kind_eq.ghosts.eq a b) (a ≡ b)
kind_decides a b = (one_kind a b, λ e. subst (λ k. kind_eq.ghosts.eq a k ≡ true) e (own_kind a))

params_decide : (a b : CutParams) → Decides (nat_eq a.kerf b.kerf && (nat_eq a.min_long b.min_long && nat_eq a.min_short b.min_short)) (a ≡ b)
params_decide a b =
    Decides-like _ (λ p i. record { kerf = p.0 i; min_long = p.1.0 i; min_short = p.1.1 i }) (λ p. (ap (λ r. r.kerf) p, (ap (λ r. r.min_long) p, ap (λ r. r.min_short) p)))
    (Decides-and _ _ (unsigned_Decides a.kerf b.kerf) (Decides-and _ _ (unsigned_Decides a.min_long b.min_long) (unsigned_Decides a.min_short b.min_short)))

pub material_decides : (a b : Material) → Decides (same_material a b) (a ≡ b)
material_decides a b =
    Decides-like _ (λ p i. record { code = p.0 i; kind = p.1.0 i; limits = p.1.1 i }) (λ p. (ap (λ m. m.code) p, (ap (λ m. m.kind) p, ap (λ m. m.limits) p)))
    (Decides-and _ _ (bytes_decides a.code b.code) (Decides-and _ _ (kind_decides a.kind b.kind) (params_decide a.limits b.limits)))

abbrev same_job_state : JobState → JobState → Bool
same_job_state = job_state_eq.ghosts.eq

one_job_state : (a b : JobState) → same_job_state a b ≡ true → a ≡ b
one_job_state job_state.Waiting job_state.Waiting e = refl
one_job_state job_state.Done job_state.Done e = refl
one_job_state job_state.Broken job_state.Broken e = refl
one_job_state job_state.Released job_state.Released e = refl
one_job_state job_state.Undone job_state.Undone e = refl
one_job_state _ _ e = no e

own_job_state : (a : JobState) → same_job_state a a ≡ true
own_job_state job_state.Waiting = refl
own_job_state _ = refl

job_state_decides : (a b : JobState) → Decides (same_job_state a b) (a ≡ b)
job_state_decides a b = (one_job_state a b, λ e. subst (λ k. same_job_state a k ≡ true) e (own_job_state a))

pub job_decides : (a b : Job) → Decides (same_job a b) (a ≡ b)
job_decides a b =
    Decides-like _ (λ p i. record { act = p.0 i; part = p.1.0 i; kerf = p.1.1.0 i; plan = p.1.1.1.0 i; state = p.1.1.1.1 i })
    (λ p. (ap (λ j. j.act) p, (ap (λ j. j.part) p, (ap (λ j. j.kerf) p, (ap (λ j. j.plan) p, ap (λ j. j.state) p)))))
    (Decides-and _ _ (unsigned_Decides a.act b.act)
    (Decides-and _ _ (name_decides a.part b.part)
    (Decides-and _ _ (unsigned_Decides a.kerf b.kerf) (Decides-and _ _ (same_pattern_decides a.plan b.plan) (job_state_decides a.state b.state)))))

pub demand_decides : (a b : Demand) → Decides (same_demand a b) (a ≡ b)
demand_decides a b =
    Decides-like _
    (λ p i.
    record {
      number = p.0 i;
      order = p.1.0 i;
      line = p.1.1.0 i;
      material = p.1.1.1.0 i;
      size = p.1.1.1.1.0 i;
      may_turn = p.1.1.1.1.1.0 i;
      worth = p.1.1.1.1.1.1.0 i;
      wanted = p.1.1.1.1.1.1.1.0 i;
      reserved = p.1.1.1.1.1.1.1.1.0 i;
      made = p.1.1.1.1.1.1.1.1.1 i;
    })
    (λ p. (
      ap (λ d. d.number) p,
      (
        ap (λ d. d.order) p,
        (
          ap (λ d. d.line) p,
          (ap (λ d. d.material) p, (ap (λ d. d.size) p, (ap (λ d. d.may_turn) p, (ap (λ d. d.worth) p, (ap (λ d. d.wanted) p, (ap (λ d. d.reserved) p, ap (λ d. d.made) p)))))),
        ),
      ),
    ))
    (Decides-and _ _ (unsigned_Decides a.number b.number)
    (Decides-and _ _ (bytes_decides a.order b.order)
    (Decides-and _ _ (unsigned_Decides a.line b.line)
    (Decides-and _ _ (bytes_decides a.material b.material)
    (Decides-and _ _ (size_decides a.size b.size)
    (Decides-and _ _ (booleans_Decides a.may_turn b.may_turn)
    (Decides-and _ _ (unsigned_Decides a.worth b.worth)
    (Decides-and _ _ (unsigned_Decides a.wanted b.wanted) (Decides-and _ _ (unsigned_Decides a.reserved b.reserved) (unsigned_Decides a.made b.made))))))))))

pub message_id_decides : (a b : MessageId) → Decides (same_message_id a b) (a ≡ b)
message_id_decides a b =
    Decides-like _ (λ p i. record { terminal = p.0 i; number = p.1 i }) (λ p. (ap (λ n. n.terminal) p, ap (λ n. n.number) p)) (Decides-and _ _ (unsigned_Decides a.terminal b.terminal) (unsigned_Decides a.number b.number))

pub kept_decides : (a b : Kept) → Decides (same_kept a b) (a ≡ b)
kept_decides a b =
    Decides-like _ (λ p i. record { command = p.0 i; reply = p.1 i }) (λ p. (ap (λ n. n.command) p, ap (λ n. n.reply) p)) (Decides-and _ _ (bytes_decides a.command b.command) (bytes_decides a.reply b.reply))

pub same_kept_laws : IsPartialEquivalence same_kept
same_kept_laws = let is = decided same_kept kept_decides in record { symm = is.symm; trans = λ a b c e f. is.congr a b c e ∙ f }

abbrev same_form : Form → Form → Bool
same_form = form_eq.ghosts.eq

one_form : (a b : Form) → same_form a b ≡ true → a ≡ b
one_form Csv Csv e = refl
one_form Csv (Cgcut b) e = no e
one_form (Cgcut a) Csv e = no e
one_form (Cgcut a) (Cgcut b) e = ap Cgcut ((bytes_decides a b).0 e)

own_form : (a : Form) → same_form a a ≡ true
own_form Csv = refl
own_form (Cgcut a) = (bytes_decides a a).1 refl

form_decides : (a b : Form) → Decides (same_form a b) (a ≡ b)
form_decides a b = (one_form a b, λ e. subst (λ k. same_form a k ≡ true) e (own_form a))

pub import_decides : (a b : ImportRow) → Decides (same_import a b) (a ≡ b)
import_decides a b =
    Decides-like _ (λ p i. record { order = p.0 i; form = p.1.0 i; text = p.1.1.0 i; reply = p.1.1.1 i }) (λ p. (ap (λ r. r.order) p, (ap (λ r. r.form) p, (ap (λ r. r.text) p, ap (λ r. r.reply) p))))
    (Decides-and _ _ (bytes_decides a.order b.order) (Decides-and _ _ (form_decides a.form b.form) (Decides-and _ _ (bytes_decides a.text b.text) (bytes_decides a.reply b.reply))))

words_decide : (v w : Word) → Decides (same_word v w) (v ≡ w)
words_decide v w = Decides-like _ (one_word v w) (ap word_name) (bytes_decides (word_name v) (word_name w))

options_decide : {X : Type 0} {E : X → X → Bool} → ((a b : X) → Decides (E a b) (a ≡ b)) → (c d : Option X) → Decides (option_eq E c d) (c ≡ d)
options_decide each None None = (λ e. refl, λ e. refl)
options_decide each None (Some b) = (λ e. no e, λ e. absurd (cc))
options_decide each (Some a) None = (λ e. no e, λ e. absurd (cc))
options_decide each (Some a) (Some b) = Decides-like _ (ap Some) (λ e. cc) (each a b)

cuts_decide : (a b : Halt) → Decides (same_cuts a b) (a ≡ b)
cuts_decide (First cuts lost) (First others other) =
    Decides-like _ (λ p i. First (p.0 i) (p.1 i)) (λ e. (cc, cc)) (Decides-and _ _ (unsigned_Decides cuts others) (booleans_Decides lost other))
cuts_decide (First cuts lost) (Listed others other) = (λ e. no e, λ e. absurd (cc))
cuts_decide (Listed cuts lost) (First others other) = (λ e. no e, λ e. absurd (cc))
cuts_decide (Listed cuts lost) (Listed others other) =
    Decides-like _ (λ p i. Listed (p.0 i) (p.1 i)) (λ e. (cc, cc)) (Decides-and _ _ (bytes_decides cuts others) (options_decide unsigned_Decides lost other))

pub halt_decides : (a b : JobHalt) → Decides (same_halt a b) (a ≡ b)
halt_decides a b =
    Decides-like _ (λ p i. record { job = p.0 i; halt = p.1.0 i; rest = p.1.1 i }) (λ p. (ap (λ r. r.job) p, (ap (λ r. r.halt) p, ap (λ r. r.rest) p)))
    (Decides-and _ _ (unsigned_Decides a.job b.job) (Decides-and _ _ (cuts_decide a.halt b.halt) (options_decide unsigned_Decides a.rest b.rest)))

pub begin_decides : (a b : JobBegin) → Decides (same_begin a b) (a ≡ b)
begin_decides a b =
    Decides-like _ (λ p i. record { job = p.0 i; terminal = p.1 i }) (λ p. (ap (λ r. r.job) p, ap (λ r. r.terminal) p)) (Decides-and _ _ (unsigned_Decides a.job b.job) (unsigned_Decides a.terminal b.terminal))

pub note_decides : (a b : OrderNote) → Decides (same_note a b) (a ≡ b)
note_decides a b =
    Decides-like _ (λ p i. record { order = p.0 i; due = p.1.0 i; text = p.1.1 i }) (λ p. (ap (λ r. r.order) p, (ap (λ r. r.due) p, ap (λ r. r.text) p)))
    (Decides-and _ _ (bytes_decides a.order b.order) (Decides-and _ _ (unsigned_Decides a.due b.due) (bytes_decides a.text b.text)))

pub entry_decides : (a b : Entry) → Decides (same_entry a b) (a ≡ b)
entry_decides a b =
    Decides-like _
    (λ p i. record { number = p.0 i; message_id = p.1.0 i; at = p.1.1.0 i; word = p.1.1.1.0 i; act = p.1.1.1.1.0 i; job = p.1.1.1.1.1.0 i; order = p.1.1.1.1.1.1.0 i; part = p.1.1.1.1.1.1.1 i })
    (λ p. (ap (λ e. e.number) p, (ap (λ e. e.message_id) p, (ap (λ e. e.at) p, (ap (λ e. e.word) p, (ap (λ e. e.act) p, (ap (λ e. e.job) p, (ap (λ e. e.order) p, ap (λ e. e.part) p))))))))
    (Decides-and _ _ (unsigned_Decides a.number b.number)
    (Decides-and _ _ (message_id_decides a.message_id b.message_id)
    (Decides-and _ _ (unsigned_Decides a.at b.at)
    (Decides-and _ _ (words_decide a.word b.word)
    (Decides-and _ _ (unsigned_Decides a.act b.act)
    (Decides-and _ _ (unsigned_Decides a.job b.job) (Decides-and _ _ (options_decide bytes_decides a.order b.order) (options_decide name_decides a.part b.part))))))))

pub content_decides : (m n : Content) → Decides (same_content m n) (m ≡ n)
content_decides m n =
    Decides-like _
    (λ p i.
    record {
      materials = p.0 i;
      parts = p.1.0 i;
      jobs = p.1.1.0 i;
      halts = p.1.1.1.0 i;
      begun = p.1.1.1.1.0 i;
      orders = p.1.1.1.1.1.0 i;
      notes = p.1.1.1.1.1.1.0 i;
      demands = p.1.1.1.1.1.1.1.0 i;
      kept = p.1.1.1.1.1.1.1.1.0 i;
      imports = p.1.1.1.1.1.1.1.1.1.0 i;
      entries = p.1.1.1.1.1.1.1.1.1.1.0 i;
      last_act = p.1.1.1.1.1.1.1.1.1.1.1.0 i;
      last_demand = p.1.1.1.1.1.1.1.1.1.1.1.1 i;
    })
    (λ p. (
      ap (λ c. c.materials) p,
      (
        ap (λ c. c.parts) p,
        (
          ap (λ c. c.jobs) p,
          (
            ap (λ c. c.halts) p,
            (
              ap (λ c. c.begun) p,
              (ap (λ c. c.orders) p, (ap (λ c. c.notes) p, (ap (λ c. c.demands) p, (ap (λ c. c.kept) p, (ap (λ c. c.imports) p, (ap (λ c. c.entries) p, (ap (λ c. c.last_act) p, ap (λ c. c.last_demand) p))))))),
            ),
          ),
        ),
      ),
    ))
    (Decides-and _ _ (maps_decide bytes_decides material_decides m.materials n.materials)
    (Decides-and _ _ (maps_decide name_decides part_decides m.parts n.parts)
    (Decides-and _ _ (maps_decide unsigned_Decides job_decides m.jobs n.jobs)
    (Decides-and _ _ (maps_decide unsigned_Decides halt_decides m.halts n.halts)
    (Decides-and _ _ (maps_decide unsigned_Decides begin_decides m.begun n.begun)
    (Decides-and _ _ (codes_decide m.orders n.orders)
    (Decides-and _ _ (maps_decide bytes_decides note_decides m.notes n.notes)
    (Decides-and _ _ (maps_decide unsigned_Decides demand_decides m.demands n.demands)
    (Decides-and _ _ (maps_decide message_id_decides kept_decides m.kept n.kept)
    (Decides-and _ _ (maps_decide bytes_decides import_decides m.imports n.imports)
    (Decides-and _ _ (maps_decide unsigned_Decides entry_decides m.entries n.entries) (Decides-and _ _ (unsigned_Decides m.last_act n.last_act) (unsigned_Decides m.last_demand n.last_demand)))))))))))))

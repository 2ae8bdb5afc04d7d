-- A content after an import.
use Rattle.std.proofs.Common.{◌≡◌, ℕ, ◌+◌, List, [], ◌∷◌, Bool, true, false, refl, sym, subst, arith, inl, inr}
use Rattle.std.specs.Prelude.{Option, Some, None, IfSome, MatchOption, IsTrue, ◌⊎◌, not}
use Rattle.cut_measure.specs.Codes.{is_code}
use Rattle.cut_measure.specs.Measures.{Size, is_size}
use Rattle.shop_files.specs.declared.orders.OrderLine.{OrderLine}
use Rattle.shop_files.specs.declared.problems.Piece.{Piece}
use Rattle.shop_records.specs.declared.records.Material.{Material}
use Rattle.shop_records.specs.declared.imports.Form.{Form}
use Rattle.shop_records.specs.declared.imports.Form.TheVariants.{Csv, Cgcut}
use Rattle.shop_records.specs.declared.imports.ImportRow.{ImportRow}
use Rattle.shop_records.specs.declared.changes.Change.{Change}
use Rattle.shop_records.specs.declared.messages.Message.{Message}
use Rattle.shop_records.specs.declared.messages.Reply.{Reply}
use Rattle.shop_records.specs.declared.refusals.Refusal.TheVariants.{OrderExists}
use Rattle.shop_records.specs.Messages.{Texts, IsMade, message_id_of}
use Rattle.shop_records.specs.Readings.{Reading, unread, Plan, Lines, Problem, Again}
use Rattle.shop_records.specs.Content.{Content, material_at, has_order, import_at, kept_at, totals_of, changed}
use Rattle.shop_machine.specs.Decisions.{first_of, no_change}
use Rattle.shop_machine.specs.Receiving.{receive_refusal, receive_change}
use Rattle.shop_machine.specs.Ordering.{lines_refusal}
use Rattle.shop_machine.specs.Importing.{IsRepeat, IsImportReading, problem_lines, unit_refusal, problem_refusal, import_refusal, unread_refusal, lines_change, problem_change, ImportMakes}
use Rattle.shop_records.specs.Keeping.{StoresReply}
use Rattle.shop_machine.specs.Machine.{keeping, nothing, Orders, Receives, import_effects}
use Rattle.shop_records.specs.WellFormed.{Fits}
use Rattle.shop_records.proofs.Basics.{none_at}
use Rattle.shop_machine.proofs.Agreeing.{NoFault, either, other, nothing as none}
use Rattle.shop_machine.proofs.Allowed.{or_none}
use Rattle.shop_machine.proofs.Grown.{IsStock, with_messages, same_stock, nothing_fits}
use Rattle.shop_machine.proofs.OrderingStep.{IsOrder, order_of, order_stock, order_fits, lines_agree, order_agrees}
use Rattle.shop_machine.proofs.ReceivingStep.{IsReceipt, receipt_of, receive_stock, receive_fits, receive_agrees}

module _ (texts : Texts) (m : Content) (order : List ℕ) where
  -- ---- what is known of an import that isn't refused

  -- it came before
  pub record IsAgain (form : Form) (text : List ℕ) (read : Reading) (change : Change) : Type 0 where
    pub answer : Reply
    pub made : IsMade answer
    pub done : import_effects order form read ≡ nothing ∷ []
    pub is : change ≡ no_change answer

  -- it is of an order file
  pub record IsOfLines (form : Form) (text : List ℕ) (read : Reading) (change : Change) : Type 0 where
    pub lines : List OrderLine
    pub ordered : IsOrder (has_order m order) (material_at m) lines (m.last_demand + 1)
    pub done : import_effects order form read ≡ Orders order lines ∷ []
    pub is : change ≡ lines_change order text lines (m.last_demand + 1)

  -- it is of a problem
  pub record IsOfProblem (form : Form) (text : List ℕ) (read : Reading) (change : Change) : Type 0 where
    pub material : List ℕ
    pub size : Size
    pub lines : List OrderLine
    pub ordered : IsOrder (has_order m order) (material_at m) lines (m.last_demand + 1)
    pub receipt : IsReceipt (material_at m material) (totals_of m material) (m.last_act + 1) size.w size.h 1
    pub done : import_effects order form read ≡ Orders order lines ∷ Receives material order size 1 ∷ []
    pub is : change ≡ problem_change order material text size lines (totals_of m material) (m.last_act + 1) (m.last_demand + 1)

  abbrev pub IsAccepted : Form → List ℕ → Reading → Change → Type 0
  IsAccepted form text read change = IsAgain form text read change ⊎ (IsOfLines form text read change ⊎ IsOfProblem form text read change)

  abbrev Refused : Form → Reading → Type 0
  Refused form read = import_refusal (has_order m order) (material_at m) (totals_of m) (m.last_act + 1) (m.last_demand + 1) form read ≡ None

  abbrev Made : Form → List ℕ → Reading → Change → Type 0
  Made form text read change = ImportMakes order form text (totals_of m) (m.last_act + 1) (m.last_demand + 1) read change

  made_before : (form : Form) (text : List ℕ) (answer : Reply) (found : Option ImportRow)
      → MatchOption found ⊥ (λ row. IsRepeat form text row × StoresReply texts row (Some answer)) → IsMade answer
  made_before form text answer None h = absurd h
  made_before form text answer (Some row) h = h.1.0

  of_problem : (material text : List ℕ) (size : Size) (pieces : List Piece) (change : Change) → Refused (Cgcut material) (Problem size pieces)
      → Made (Cgcut material) text (Problem size pieces) change → IsOfProblem (Cgcut material) text (Problem size pieces) change
  of_problem material text size pieces change allowed makes =
      let lines = problem_lines material pieces in
      let a = or_none (first_of ((has_order m order, OrderExists) ∷ [])) _ allowed in
      let b = or_none (unit_refusal (material_at m material) size) _ a.1 in
      let c = or_none (lines_refusal (material_at m) 0 lines) _ b.1 in
      let d = or_none (receive_refusal (material_at m material) (totals_of m material) (m.last_act + 1) size.w size.h 1) _ c.1 in
      record {
        material = material;
        size = size;
        lines = lines;
        ordered = order_of (has_order m order) (material_at m) lines (m.last_demand + 1) d.1;
        receipt = receipt_of (material_at m material) (totals_of m material) (m.last_act + 1) size.w size.h 1 d.0;
        done = refl;
        is = makes;
      }

  pub accepted : (form : Form) (text : List ℕ) (read : Reading) (change : Change) → IsImportReading texts (import_at m order) form text read
      → Refused form read → Made form text read change → IsAccepted form text read change
  accepted form text (Again None) change reads allowed makes = absurd makes
  accepted form text (Again (Some answer)) change reads allowed makes =
      inl (record { answer = answer; made = made_before form text answer (import_at m order) reads; done = refl; is = makes })
  accepted Csv text (Lines lines) change reads allowed makes =
      inr (inl (record { lines = lines; ordered = order_of (has_order m order) (material_at m) lines (m.last_demand + 1) allowed; done = refl; is = makes }))
  accepted (Cgcut material) text (Lines lines) change reads allowed makes = absurd makes
  accepted (Cgcut material) text (Problem size pieces) change reads allowed makes = inr (inr (of_problem material text size pieces change allowed makes))
  accepted Csv text (Problem size pieces) change reads allowed makes = absurd makes
  accepted form text unread change reads allowed makes = cc
  accepted form text (Plan plan) change reads allowed makes = cc

  -- ---- the content after it

  -- the unit of a problem is there, and its order isn't yet
  abbrev pub after_receipt : Size → List ℕ → Content
  after_receipt size material = with_messages m.kept m.imports (changed m (receive_change material order size (m.last_act + 1) 1 (totals_of m material)))

  pub import_stock : (message : Message) (form : Form) (text : List ℕ) (read : Reading) (change : Change) → IsStock m → IsAccepted form text read change
      → IsStock (changed m (keeping texts message change))
  import_stock message form text read change stock (inl a) = subst (λ (c : Change). IsStock (changed m (keeping texts message c))) (sym a.is) (same_stock m _ _ stock)
  import_stock message form text read change stock (inr (inl a)) =
      subst (λ (c : Change). IsStock (changed m (keeping texts message c))) (sym a.is) (order_stock m stock order a.lines a.ordered _ _)
  import_stock message form text read change stock (inr (inr a)) =
      subst (λ (c : Change). IsStock (changed m (keeping texts message c))) (sym a.is)
      (order_stock (after_receipt a.size a.material) (receive_stock m stock a.material order a.size.w a.size.h 1 a.receipt m.kept m.imports) order a.lines a.ordered _ _)

  pub import_fits : (message : Message) (form : Form) (text : List ℕ) (read : Reading) (change : Change) → IsStock m
      → ((row : ImportRow) → import_at m order ≡ Some row → has_order m order ≡ true) → IsAccepted form text read change
      → kept_at m (message_id_of message) ≡ None → Fits m (keeping texts message change)
  import_fits message form text read change stock used (inl a) new =
      subst (λ (c : Change). Fits m (keeping texts message c)) (sym a.is) (nothing_fits m texts message a.answer new)
  import_fits message form text read change stock used (inr (inl a)) new =
      let o = order_fits m stock order a.lines a.ordered texts message new in
      subst (λ (c : Change). Fits m (keeping texts message c)) (sym a.is)
      (record {
        material = o.material;
        parts = o.parts;
        rising = o.rising;
        moved = o.moved;
        undone = o.undone;
        apart = o.apart;
        halt = o.halt;
        begun = o.begun;
        extended = o.extended;
        note = o.note;
        job = o.job;
        order = o.order;
        demands = o.demands;
        wanted = o.wanted;
        once = o.once;
        lines = o.lines;
        totals = o.totals;
        sums = o.sums;
        act = o.act;
        demand = o.demand;
        import = (none_at (import_at m order) (λ row is. let yes = used row is in let no = a.ordered.unused in cc), refl);
        kept = new;
        entry = tt;
      })
  import_fits message form text read change stock used (inr (inr a)) new =
      let o = order_fits m stock order a.lines a.ordered texts message new in
      let r = receive_fits m stock a.material order a.size.w a.size.h 1 a.receipt texts message new in
      subst (λ (c : Change). Fits m (keeping texts message c)) (sym a.is)
      (record {
        material = o.material;
        parts = r.parts;
        rising = r.rising;
        moved = o.moved;
        undone = o.undone;
        apart = o.apart;
        halt = o.halt;
        begun = o.begun;
        extended = o.extended;
        note = o.note;
        job = o.job;
        order = o.order;
        demands = o.demands;
        wanted = o.wanted;
        once = o.once;
        lines = o.lines;
        totals = r.totals;
        sums = r.sums;
        act = r.act;
        demand = o.demand;
        import = (none_at (import_at m order) (λ row is. let yes = used row is in let no = a.ordered.unused in cc), refl);
        kept = new;
        entry = tt;
      })

  -- an import's row is of the order that is new
  pub import_order : (form : Form) (text : List ℕ) (read : Reading) (change : Change) → IsAccepted form text read change → IfSome change.import (λ row. change.order ≡ Some row.order)
  import_order form text read change (inl a) = subst (λ (c : Change). IfSome c.import (λ row. c.order ≡ Some row.order)) (sym a.is) tt
  import_order form text read change (inr (inl a)) = subst (λ (c : Change). IfSome c.import (λ row. c.order ≡ Some row.order)) (sym a.is) refl
  import_order form text read change (inr (inr a)) = subst (λ (c : Change). IfSome c.import (λ row. c.order ≡ Some row.order)) (sym a.is) refl

  -- its reply is one that an accepted message can get
  pub import_reported : (form : Form) (text : List ℕ) (read : Reading) (change : Change) → IsAccepted form text read change → IsTrue (is_code order) → IsMade change.reply
  import_reported form text read change (inl a) is = subst (λ (c : Change). IsMade c.reply) (sym a.is) a.made
  import_reported form text read change (inr (inl a)) is =
      let some = a.ordered.some in
      let few = a.ordered.few in
      let numbers = a.ordered.numbers in
      subst (λ (c : Change). IsMade c.reply) (sym a.is) (omega arith, omega (arith, few), omega (arith, some, numbers), is)
  import_reported form text read change (inr (inr a)) is =
      let some = a.ordered.some in
      let few = a.ordered.few in
      let numbers = a.ordered.numbers in
      let number = a.receipt.number in
      subst (λ (c : Change). IsMade c.reply) (sym a.is) (omega (arith, number), omega (arith, few), omega (arith, some, numbers), is)

  -- ---- its refusals

  reports_one : (form : Form) (text : List ℕ) (found : Option ImportRow) → ((row : ImportRow) → found ≡ Some row → (answer : Reply) × StoresReply texts row (Some answer))
      → MatchOption found ⊥ (λ row. IsRepeat form text row × StoresReply texts row None) → ⊥
  reports_one form text None one h = absurd h
  reports_one form text (Some row) one h = let it = one row refl in h.1 it.0 it.1.0 it.1.1

  problem_agrees : (material : List ℕ) (size : Size) (lines : List OrderLine) → IsStock m
      → NoFault (problem_refusal (has_order m order) (material_at m) (material_at m material) (totals_of m material) (m.last_act + 1) (m.last_demand + 1) size lines)
  problem_agrees material size lines stock =
      let all = stock.in_range.adds_up material in
      either _ _ (other (has_order m order) _ _ (λ e. cc) none)
      (either _ _ (unit_agrees (material_at m material) size)
      (either _ _ (lines_agree (material_at m) 0 lines)
      (either _ _ (receive_agrees (material_at m material) (totals_of m material) (m.last_act + 1) size.w size.h 1 (omega (arith, all))) (order_agrees (has_order m order) (material_at m) lines (m.last_demand + 1)))))
    where
      unit_agrees : (known : Option Material) (size : Size) → NoFault (unit_refusal known size)
      unit_agrees None size = λ e. cc
      unit_agrees (Some row) size = other (not (is_size row.kind size.w size.h)) _ _ (λ e. cc) none

  unread_agrees : (used : Bool) → NoFault (Some (unread_refusal used))
  unread_agrees true = λ e. cc
  unread_agrees false = λ e. cc

  pub import_agrees : IsStock m → ((row : ImportRow) → import_at m order ≡ Some row → (answer : Reply) × StoresReply texts row (Some answer))
      → (form : Form) (text : List ℕ) (read : Reading) → IsImportReading texts (import_at m order) form text read
      → NoFault (import_refusal (has_order m order) (material_at m) (totals_of m) (m.last_act + 1) (m.last_demand + 1) form read)
  import_agrees stock one form text (Again None) reads = absurd (reports_one form text (import_at m order) one reads)
  import_agrees stock one form text (Again (Some answer)) reads = none
  import_agrees stock one form text (Lines lines) reads = order_agrees (has_order m order) (material_at m) lines (m.last_demand + 1)
  import_agrees stock one (Cgcut material) text (Problem size pieces) reads = problem_agrees material size (problem_lines material pieces) stock
  import_agrees stock one Csv text (Problem size pieces) reads = unread_agrees (has_order m order)
  import_agrees stock one form text unread reads = unread_agrees (has_order m order)
  import_agrees stock one form text (Plan plan) reads = unread_agrees (has_order m order)

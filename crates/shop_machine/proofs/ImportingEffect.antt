-- What an import does to what a content follows.
use Rattle.std.proofs.Common.{refl, ◌≡◌, ℕ, ◌+◌, List, [], ◌∷◌, sym, subst, arith, inl, inr}
use Rattle.std.specs.Prelude.{None}
use Rattle.shop_records.specs.declared.imports.Form.{Form}
use Rattle.shop_records.specs.declared.changes.Change.{Change}
use Rattle.shop_records.specs.declared.messages.Message.{Message}
use Rattle.shop_records.specs.declared.messages.Reply.{Reply}
use Rattle.shop_records.specs.Messages.{Texts}
use Rattle.shop_records.specs.Readings.{Reading}
use Rattle.shop_records.specs.Content.{Content, material_at, has_order, import_at, totals_of}
use Rattle.shop_machine.specs.Decisions.{no_change}
use Rattle.shop_machine.specs.Importing.{IsImportReading, import_refusal, ImportMakes}
use Rattle.shop_records.specs.WellFormed.{IsWellFormed}
use Rattle.shop_machine.specs.Machine.{Effect, nothing, Orders, Receives, import_effects}
use Rattle.shop_machine.specs.History.{acts_of}
use Rattle.shop_machine.proofs.Accounts.{Follows, row_later}
use Rattle.shop_machine.proofs.Steps.{AfterAll}
use Rattle.shop_machine.proofs.OrderingStep.{by_order}
use Rattle.shop_machine.proofs.ReceivingEffect.{by_receipt}
use Rattle.shop_machine.proofs.ImportingStep.{IsAccepted, accepted, after_receipt}

module _ (texts : Texts) (message : Message) (earlier : List Effect) (old : Content) (well_formed : IsWellFormed texts old) (f : Follows earlier old) where
  abbrev Next : List Effect → Change → Type 0
  Next = AfterAll texts message earlier old well_formed f

  by_again : (answer : Reply) → Next (nothing ∷ []) (no_change answer)
  by_again answer = record {
    acts = (let e : old.last_act ≡ acts_of earlier = f.acts in omega arith);
    numbers = f.numbers;
    lines = f.lines;
    params = f.params;
    rows = λ n p k. row_later nothing earlier p (λ job x y is. refl) (f.rows n p k);
    jobs = f.jobs;
    wholes = f.wholes;
    cells = f.cells;
    over = f.over;
  }

  by_accepted : (order : List ℕ) (form : Form) (text : List ℕ) (read : Reading) (change : Change) → IsAccepted texts old order form text read change
      → Next (import_effects order form read) change
  by_accepted order form text read change (inl a) = subst (λ d. Next d change) (sym a.done) (subst (Next (nothing ∷ [])) (sym a.is) (by_again a.answer))
  by_accepted order form text read change (inr (inl a)) =
      subst (λ d. Next d change) (sym a.done) (subst (Next (Orders order a.lines ∷ [])) (sym a.is) (by_order earlier old f _ _ order a.lines))
  by_accepted order form text read change (inr (inr a)) =
      let received = by_receipt earlier old well_formed.in_range f old.kept old.imports a.material order a.size.w a.size.h 1 in
      let both = Orders order a.lines ∷ Receives a.material order a.size 1 ∷ [] in
      subst (λ d. Next d change) (sym a.done)
      (subst (Next both) (sym a.is)
      (by_order (Receives a.material order a.size 1 ∷ earlier)
      (after_receipt texts old order a.size a.material) received _ _ order a.lines))

  pub by_import : (order : List ℕ) (form : Form) (text : List ℕ) (read : Reading) (change : Change) → IsImportReading texts (import_at old order) form text read
      → import_refusal (has_order old order) (material_at old) (totals_of old) (old.last_act + 1) (old.last_demand + 1) form read ≡ None
      → ImportMakes order form text (totals_of old) (old.last_act + 1) (old.last_demand + 1) read change → Next (import_effects order form read) change
  by_import order form text read change reads allowed makes = by_accepted order form text read change (accepted texts old order form text read change reads allowed makes)

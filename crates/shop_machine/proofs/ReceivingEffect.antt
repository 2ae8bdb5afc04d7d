-- What a receipt does to what a content follows.
use Rattle.std.proofs.Common.{◌∙◌, true≢false, ◌≡◌, ℕ, ◌+◌, ◌<◌, ◌≤◌, List, ◌∷◌, map, refl, sym, ap, subst, arith, inl, inr}
use Rattle.std.specs.Prelude.{Some}
use Rattle.std.specs.FinMap.{FinMap, get}
use Rattle.cut_measure.specs.Names.{Name, name_cmp}
use Rattle.cut_measure.specs.Measures.{Size, below}
use Rattle.shop_records.specs.declared.records.Part.{Part}
use Rattle.shop_records.specs.declared.records.State.TheVariants.{Standing}
use Rattle.cut_measure.specs.Codes.{code_cmp}
use Rattle.shop_records.specs.declared.texts.Kept.{Kept}
use Rattle.shop_records.specs.declared.imports.ImportRow.{ImportRow}
use Rattle.shop_records.specs.declared.changes.Change.{Change}
use Rattle.shop_records.specs.Content.{Content, message_id_cmp, totals_of, changed}
use Rattle.shop_machine.specs.Receiving.{receive_change, unit_part}
use Rattle.shop_records.specs.WellFormed.{IsInRange}
use Rattle.shop_machine.specs.Machine.{Effect, Receives}
use Rattle.shop_machine.specs.History.{ReceivedUnit, acts_of, units_of, owner_of, is_gone, HasOwner}
use Rattle.shop_records.proofs.Basics.{in_append, in_first, in_map, map_in}
use Rattle.shop_machine.proofs.Cells.{after_receipt, received_cases, found_unit, kept_before, still_owned, new_owned}
use Rattle.shop_machine.proofs.Grown.{with_messages}
use Rattle.shop_machine.proofs.Accounts.{IsRow, IsWhole, Follows, unit_of, unit_acts, if_yes, if_no, never_cut, row_later}

module _ (earlier : List Effect) (old : Content) (range : IsInRange old) (f : Follows earlier old) (kept : FinMap message_id_cmp Kept) (imports : FinMap code_cmp ImportRow) where
  abbrev Next : Effect → Change → Type 0
  Next done change = Follows (done ∷ earlier) (with_messages kept imports (changed old change))

  module _ (material batch : List ℕ) (w h count : ℕ) where
    abbrev size : Size
    size = record { w = w; h = h }

    abbrev received : ℕ → ReceivedUnit
    received i = unit_of material batch size (acts_of earlier + 1) i

    older : (n : Name) (p : Part) → get old.parts n ≡ Some p → (n.act ≡ acts_of earlier + 1 → ⊥) × (p.root.act ≡ acts_of earlier + 1 → ⊥)
    older n p k = (
      (λ e. let a : n.act ≤ old.last_act = range.acts n p k in let b : old.last_act ≡ acts_of earlier = f.acts in absurd (omega arith)),
      (λ e.
          let r : IsRow earlier p = f.rows n p k in
          let a : r.unit.name.act ≤ acts_of earlier = unit_acts earlier r.unit r.received in
          let b : r.unit.name.act ≡ p.root.act = ap (λ (v : Name). v.act) r.root in
          absurd (omega arith)),
    )

    abbrev new_parts : FinMap name_cmp Part
    new_parts = after_receipt old.parts material batch size (acts_of earlier + 1) count older

    by_units : Next (Receives material batch size count) (receive_change material batch size (acts_of earlier + 1) count (totals_of old material))
    by_units = record {
      acts = refl;
      numbers = f.numbers;
      lines = f.lines;
      params = f.params;
      rows = λ n p k. elim (received_cases old.parts material batch size (acts_of earlier + 1) count older n p k) [
        | inl g ↦ subst (IsRow (Receives material batch size count ∷ earlier)) (sym g.2) (record {
          unit = received g.0;
          received = in_first (received g.0) (map received (below count)) (units_of earlier) (map_in received (below count) g.0 g.1);
          root = refl;
          material = refl;
          across = omega arith;
          down = omega arith;
          cut = never_cut (Receives material batch size count ∷ earlier) (unit_part material batch size (acts_of earlier + 1) g.0) refl;
        })
        | inr g ↦ row_later (Receives material batch size count) earlier p (λ job x y is. refl) (f.rows n p g)
      ];
      jobs = f.jobs;
      wholes = λ unit i. elim (in_append unit (map received (below count)) (units_of earlier) i) [
        | inl k ↦ (
            let g = in_map received (below count) unit k in
            subst (IsWhole new_parts) (sym g.2) (record {
              row = unit_part material batch size (acts_of earlier + 1) g.0;
              kept = found_unit old.parts material batch size (acts_of earlier + 1) count older g.0 g.1;
              root = refl;
              x = refl;
              y = refl;
              size = refl;
            }))
        | inr k ↦ (
            let u : IsWhole old.parts unit = f.wholes unit k in
            record { row = u.row; kept = kept_before old.parts material batch size (acts_of earlier + 1) count older unit.name u.row u.kept; root = u.root; x = u.x; y = u.y; size = u.size })
      ];
      cells = λ unit i x y across down.
          elim (in_append unit (map received (below count)) (units_of earlier) i) [
            | inl k ↦ (
                let g = in_map received (below count) unit k in
                let u : ReceivedUnit = received g.0 in
                let a : x < w = subst (λ (v : ReceivedUnit). x < v.size.w) g.2 across in
                let b : y < h = subst (λ (v : ReceivedUnit). y < v.size.h) g.2 down in
                let new : HasOwner new_parts (owner_of (Receives material batch size count ∷ earlier) u.name x y) u.name x y =
                new_owned old.parts material batch size (acts_of earlier + 1) count older g.0 (owner_of (Receives material batch size count ∷ earlier) u.name x y) x y g.1 a b
                (if_yes (acts_of earlier + 1) (acts_of earlier + 1) (Some (record { state = Standing; name = u.name; size = size; x = x; y = y })) (owner_of earlier u.name x y) refl) in
                subst (λ (v : ReceivedUnit). HasOwner new_parts (owner_of (Receives material batch size count ∷ earlier) v.name x y) v.name x y) (sym g.2) new)
            | inr k ↦ (
                let a : unit.name.act ≤ acts_of earlier = unit_acts earlier unit k in
                let apart : unit.name.act ≡ acts_of earlier + 1 → ⊥ = λ e. absurd (omega arith) in
                still_owned old.parts material batch size (acts_of earlier + 1) count older (owner_of earlier unit.name x y)
                (owner_of (Receives material batch size count ∷ earlier) unit.name x y) unit.name x y apart
                (if_no unit.name.act (acts_of earlier + 1) (Some (record { state = Standing; name = unit.name; size = size; x = x; y = y })) (owner_of earlier unit.name x y) apart)
                (f.cells unit k x y across down))
          ];
      over = λ n p job k cut. elim (received_cases old.parts material batch size (acts_of earlier + 1) count older n p k) [
        | inl g ↦ absurd (true≢false (ap is_gone (sym cut ∙ ap (λ (q : Part). q.state) g.2)))
        | inr g ↦ f.over n p job g cut
      ];
    }

    pub by_receipt : Next (Receives material batch size count) (receive_change material batch size (old.last_act + 1) count (totals_of old material))
    by_receipt = subst (λ n. Next (Receives material batch size count) (receive_change material batch size (n + 1) count (totals_of old material))) (sym f.acts) by_units

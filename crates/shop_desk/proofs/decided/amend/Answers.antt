use Rattle.std.proofs.Common.{◌≡◌, ℕ, Option, Some, None, refl, sym, ap}
use Rattle.std.specs.Prelude.{MatchOption}
use Rattle.shop_records.specs.declared.records.Demand.{Demand}
use Rattle.shop_records.specs.declared.changes.Change.{Change}
use Rattle.shop_records.specs.declared.messages.Command.TheVariants.{Amend}
use Rattle.shop_records.specs.Readings.{unread}
use Rattle.shop_records.specs.Content.{Content, demand_at}
use Rattle.shop_machine.specs.Amending.{amend_refusal, amend_change}
use Rattle.shop_machine.specs.Machine.{refusal_of, Makes}
use Rattle.shop_forms.specs.Forms.{json_texts}
use Rattle.shop_desk.proofs.Deciding.{decided_by}
use Rattle.shop_desk.proofs.decided.amend.Goals as goal

-- the row of a demand that is amended
module _ (m : Content) (demand wanted : ℕ) (row : Option Demand) (is_row : row ≡ demand_at m demand) where
  same_amend : refusal_of m (Amend demand wanted) unread ≡ amend_refusal row wanted
  same_amend = ap (λ r. amend_refusal r wanted) (sym is_row)

  abbrev Amended : Change → Type 0
  Amended change = MatchOption row ⊥ (λ r. change ≡ amend_change r wanted)

  amend_by : (change : Change) → Amended change → Makes m (Amend demand wanted) unread change
  amend_by change it = by row is_row it
    where
      by : (row : Option Demand) → row ≡ demand_at m demand → MatchOption row ⊥ (λ r. change ≡ amend_change r wanted) → Makes m (Amend demand wanted) unread change
      by None a it = absurd it
      by (Some r) a it = (r, sym a, it)

pub returns-clause-decision : goal.returns-clause-decision
returns-clause-decision g c =
    λ clean_disk m held well_formed.
    let is_row = c.in_ok-row.ensures.row clean_disk m held in
    decided_by json_texts m (Amend c.args.demand c.args.wanted) unread refl (g.B.Book.failed c.args.book.now) (g.B.Book.failed c.demand.new.self) _ (same_amend m c.args.demand c.args.wanted c.in_ok-row.row is_row)
    (Amended m c.args.demand c.args.wanted c.in_ok-row.row is_row)
    (amend_by m c.args.demand c.args.wanted c.in_ok-row.row is_row)
    c.decide_amend.result c.decide_amend.ensures.decision

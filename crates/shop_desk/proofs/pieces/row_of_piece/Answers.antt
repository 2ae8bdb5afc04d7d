use Rattle.std.proofs.Common.{ℕ, Option, ap, ◌∙◌}
use Rattle.std.specs.Prelude.{option_map}
use Rattle.shop_records.specs.declared.records.Demand.{Demand}
use Rattle.shop_records.specs.declared.journal.Entry.{Entry}
use Rattle.shop_records.specs.Content.{of_found}
use Rattle.shop_records.specs.Lists.{demand_for, end_entry}
use Rattle.shop_answers.specs.Listing.{reported_piece}
use Rattle.shop_desk.proofs.pieces.row_of_piece.Goals as goal

pub returns-clause-row : goal.returns-clause-row
returns-clause-row g c =
    λ clean_disk m held.
    c.row_with.ensures
    ∙ ap (λ (o : Option Demand). option_map (λ (d : Demand). reported_piece c.args.part.now d c.ended-at.result) o) (c.in_ok-demand.ensures.row clean_disk m held)
    ∙ ap (λ (at : ℕ). option_map (λ (d : Demand). reported_piece c.args.part.now d at) (demand_for m c.args.part.now))
    (c.ended-at.ensures.time clean_disk m (c.in_ok-demand.ensures.keeps.stays clean_disk m held))
    ∙ ap (λ (n : ℕ). option_map (λ (d : Demand). reported_piece c.args.part.now d (of_found (λ (entry : Entry). entry.at) (end_entry m n))) (demand_for m c.args.part.now)) c.act.ensures.value

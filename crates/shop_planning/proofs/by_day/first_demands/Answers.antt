use Rattle.std.proofs.Common.{◌∙◌, ap, subst}
use Rattle.std.specs.Prelude.{filter, map}
use Rattle.shop_planning.specs.declared.by_day.Ranked.{Ranked}
use Rattle.shop_planning.specs.Asked.{with_row}
use Rattle.shop_planning.specs.ByDay.{IsLast, is_taken, ranks_in}
use Rattle.shop_planning.proofs.DayRanks.{taken_by_day}
use Rattle.shop_planning.proofs.by_day.first_demands.Goals as goal

pub returns-clause-found : goal.returns-clause-found
returns-clause-found g c =
    λ clean_disk m held.
    c.in_ok-found.ensures
    ∙ ap (λ l. map (λ (t : Ranked). with_row t.row) (filter (λ (t : Ranked). is_taken c.in_ok-last.last t.rank) l)) c.deref-2.ensures.value
    ∙ taken_by_day m c.args.rows.now c.in_ok-ranks.ranks.items c.in_ok-last.last (c.in_ok-ranks.ensures.ranks clean_disk m held) (subst (λ l. IsLast c.in_ok-last.last (ranks_in l)) c.deref.ensures.value c.in_ok-last.ensures)

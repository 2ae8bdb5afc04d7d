-- A connection that sees what it saw holds the books of an earlier version still.
use Rattle.std.proofs.Common.{◌≡◌, sym, ap, subst, ◌∙◌}
use Rattle.sqlite.specs.Effect.{Database, IsDatabase}
use Rattle.sqlite.specs.State.{State, HasCleanDisk}
use Rattle.shop_statements.specs.Earlier.{HoldsEarlier, HoldsSecond, ShowsEarlier, ShowsSecond, StandsEarlier, StandsSecond}
use Rattle.shop_statements.specs.Shown.{Books}
use Rattle.shop_tables.specs.Adopting.{IsAsBefore}

pub shows_earlier_along : (old new : State) (b : Books) → old.now ≡ new.now → ShowsEarlier old b → ShowsEarlier new b
shows_earlier_along old new b same h = record {
  schema = sym (ap (λ (d : Database). d.schema) same) ∙ h.schema;
  sound = subst IsDatabase same h.sound;
  stands = subst (λ (d : Database). StandsEarlier d.trees b.content b.totals) same h.stands;
  keyed = h.keyed;
  uses = h.uses;
}

pub earlier_stays : (old new : State) (b : Books) → (HasCleanDisk new → HasCleanDisk old) → IsAsBefore old new → HoldsEarlier old b → HoldsEarlier new b
earlier_stays old new b earlier same was clean up =
    let is = same clean up in record { shows = shows_earlier_along old new b (sym is.0) (was (earlier clean) is.2).shows; committed = is.1 }

pub shows_second_along : (old new : State) (b : Books) → old.now ≡ new.now → ShowsSecond old b → ShowsSecond new b
shows_second_along old new b same h = record {
  schema = sym (ap (λ (d : Database). d.schema) same) ∙ h.schema;
  sound = subst IsDatabase same h.sound;
  stands = subst (λ (d : Database). StandsSecond d.trees b.content b.totals) same h.stands;
  keyed = h.keyed;
  uses = h.uses;
}

pub second_stays : (old new : State) (b : Books) → (HasCleanDisk new → HasCleanDisk old) → IsAsBefore old new → HoldsSecond old b → HoldsSecond new b
second_stays old new b earlier same was clean up =
    let is = same clean up in record { shows = shows_second_along old new b (sym is.0) (was (earlier clean) is.2).shows; committed = is.1 }

-- An older version that is brought on beside tables of others, after readings that leave all as it was.
use Rattle.std.proofs.Common.{◌≡◌, ◌∙◌, IsTrue, false, sym, subst, arith}
use Rattle.sqlite_trees.specs.Tree.{Trees}
use Rattle.sqlite.specs.Does.{lacks_sequence}
use Rattle.sqlite.specs.Effect.{Database}
use Rattle.sqlite.specs.State.{State, HasCleanDisk, Survives}
use Rattle.sqlite.proofs.StateLemmas.{survives_then, survives_weaker}
use Rattle.shop_statements.specs.Shown.{Leaves}
use Rattle.shop_tables.specs.Adopting.{HoldsMade, IsAsBefore, StandsMade}
use Rattle.shop_tables.specs.Renewing.{HasEarlierTables, SeesEarlier}
use Rattle.shop_tables.specs.RowsShown.{SeesCommit}

module _ (old mid : State) (leaves : Leaves old mid) (settled : SeesCommit old) where
  pub left_as_before : IsAsBefore old mid
  left_as_before clean up = let l = leaves.as_was clean up in let s = settled l.was_open in (l.now s, l.committed s, l.was_open)

  pub sees_still : SeesEarlier old → SeesEarlier mid
  sees_still sees clean up =
      let l = left_as_before clean up in
      let before : HasCleanDisk old = let s = leaves.survives.clean in omega (arith, s, clean) in
      subst (λ (d : Database). HasEarlierTables d.schema × (lacks_sequence d.schema ≡ false)) (sym l.0) (sees before l.2)

  pub undone_then : (new : State) → (HasCleanDisk new → HasCleanDisk mid) → IsAsBefore mid new → IsAsBefore old new
  undone_then new late undone clean up = let u = undone clean up in let l = left_as_before (late clean) u.2 in (u.0 ∙ l.0, u.1, l.2)

  module _ (IsMade : Database → Database → Type 0) where
    -- the connection was open, and the trees are those of a database to which its own was brought
    abbrev StandsOn : State → Trees → Type 0
    StandsOn s db = IsTrue s.is_open × StandsMade IsMade s.now db

    pub left_survives : Survives old mid (StandsOn old)
    left_survives = survives_weaker old mid _ _ (λ _ db none. absurd none) leaves.survives

    module _ (new : State) where
      pub renewed_then : (HasCleanDisk new → HasCleanDisk mid) → HoldsMade IsMade mid new → HoldsMade IsMade old new
      renewed_then late h = record {
        was_open = λ clean. (left_as_before (late clean) (h.was_open clean)).2;
        seen = λ clean up. let s = h.seen clean up in (subst (λ (d : Database). IsMade d new.now) (left_as_before (late clean) (h.was_open clean)).0 s.0, s.1);
        after = λ clean db left. subst (λ (d : Database). StandsMade IsMade d db) (left_as_before (late clean) (h.was_open clean)).0 (h.after clean db left);
      }

      pub crash_then : Survives mid new (StandsOn mid) → Survives old new (StandsOn old)
      crash_then s = survives_then old mid new (λ _. ⊥) (StandsOn mid) (StandsOn old) (λ _ db none. absurd none)
          (λ clean db stands.
          let late : HasCleanDisk mid = let e = s.clean in omega (arith, e, clean) in
          let l = left_as_before late stands.0 in
          (l.2, subst (λ (d : Database). StandsMade IsMade d db) l.0 stands.1)) leaves.survives s

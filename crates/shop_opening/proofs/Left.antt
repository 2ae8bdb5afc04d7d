-- An image that a stop left shows what may be left.
use Rattle.std.proofs.Common.{◌⊎◌, IsTrue, List, inl, inr, refl}
use Rattle.std.proofs.Math.Logic.{∥∥₁_map}
use Rattle.sqlite_disk.specs.declared.Disk.{Ghosts}
use Rattle.sqlite_store.specs.declared.store.FileStore.{FileStore}
use Rattle.sqlite_trees.specs.Tree.{Trees}
use Rattle.sqlite_wal.specs.Recovery.{Image}
use Rattle.sqlite_wal.proofs.LogLemmas.{SeenMayStay}
use Rattle.sqlite.proofs.Theorems.{opens_again}
use Rattle.sqlite.specs.Files.{file_state, HoldsDatabase}
use Rattle.sqlite.specs.Held.{Held}
use Rattle.sqlite.specs.State.{HasCleanDisk}
use Rattle.shop_records.specs.Content.{Content}
use Rattle.shop_records.specs.declared.messages.Message.{Message}
use Rattle.shop_records.specs.declared.messages.Reply.{Reply}
use Rattle.shop_tables.specs.Held.{HoldsContent, IsSettledAt, LeavesOnly, StandsFor}
use Rattle.shop_store.proofs.Commits.{settled_leaves}
use Rattle.shop_desk.specs.Handled.{Leads}
use Rattle.shop_forms.specs.Forms.{json_texts}
use Rattle.shop_opening.specs.Openings.{LeavesShown, ShowsContent, ShowsIn}
use Rattle.shop_opening.specs.Stops.{IsAfter, IsLeftOf, WasRefused}
use Rattle.shop_opening.proofs.After.{StandsAfter, stands_after}

module _ {D : Type 0} {g : Ghosts D} (last : Held (FileStore D g)) (image : Image) (left : IsLeftOf last image) where
  -- the image holds a database that may be left
  holds : (P : Trees → Type 0) → ((db : Trees) → (file_state last).may_leave db → P db) → ∥ ((db : Trees) × HoldsDatabase image db × P db) ∥₁
  holds P knows =
      ∥∥₁_map (opens_again left.taken left.numbered left.sound image left.may) (λ x.
      let r : (db : Trees) × HoldsDatabase image db × P db = (x.0, x.2, knows x.0 (left.less x.0 x.1)) in r)

  pub shown_left : (m : Content) → HasCleanDisk (file_state last) → LeavesShown (file_state last) m → ∥ ShowsContent image m ∥₁
  shown_left m clean leaves = ∥∥₁_map (holds (λ db. ShowsIn db m) (leaves clean)) (λ x. let r : ShowsContent image m = inl (x.0, x.1, x.2) in r)

  pub only_left : (m : Content) → HasCleanDisk (file_state last) → LeavesOnly (file_state last) m → ∥ ShowsContent image m ∥₁
  only_left m clean leaves = shown_left m clean (λ c db may. inl (leaves c db may))

  pub held_left : SeenMayStay g → (m : Content) → HasCleanDisk (file_state last) → IsTrue (file_state last).is_open → HoldsContent (file_state last) m → ∥ ShowsContent image m ∥₁
  held_left stays m clean up was =
      let at : IsSettledAt (file_state last) m = record { lines = was.lines; totals = was.totals; uses = was.uses; sums = was.sums; trail = was.trail; settled = was.holds clean up } in
      only_left m clean (settled_leaves last m stays up at)

  pub after_left : (old next : Content) (messages : List Message) (answers : List Reply) (before : Trees → Type 0) → ((db : Trees) → before db → StandsFor db old) → Leads json_texts StandsFor before old messages answers next (file_state last).may_leave
      → ∥ ((found : Content) × IsAfter (WasRefused messages answers) next found × ShowsContent image found) ∥₁
  after_left old next messages answers before was leads =
      let start = λ (db : Trees) (may : before db). let r : StandsAfter StandsFor (λ _. ⊥) old db = record { found = old; after = inl refl; left_stands = was db may } in r in
      ∥∥₁_map (holds (StandsAfter StandsFor (λ m. ⊥ ⊎ WasRefused messages answers m) next) (stands_after StandsFor messages answers before (file_state last).may_leave (λ _. ⊥) old next start leads)) (λ x.
      let b = x.2 in
      let r : (found : Content) × IsAfter (WasRefused messages answers) next found × ShowsContent image found = (
        b.found,
        elim b.after [
          | inl is ↦ inl is
          | inr more ↦ inr (record { message = more.message; was = elim more.was [ inl none ↦ absurd none | inr was ↦ was ]; other = more.other; step = more.step })
        ],
        inl (x.0, x.1, inl b.left_stands),
      ) in r)

-- When two parts are the same.
use Rattle.std.specs.Prelude.{◌≡◌, Bool, true, false, ◌&&◌, nat_eq}
use Rattle.std.specs.Prelude.{T, refl}
use Rattle.std.proofs.Common.{ap, sym, subst}
use Rattle.std.specs.Bool.{Decides}
use Rattle.std.specs.Cmp.{unsigned_Decides}
use Rattle.std.specs.Cmp.Lexicographic.{bytes_decides}
use Rattle.std.proofs.lemmas.Bool.Decides.{Decides-and, Decides-like}
use Rattle.cut_measure.specs.Measures.{Size}
use Rattle.cut_measure.specs.Names.{Name}
use Rattle.shop_records.specs.declared.records.Part.{Part}
use Rattle.shop_records.specs.declared.records.State.{State}
use Rattle.shop_records.specs.declared.records.State.TheVariants as state
use Rattle.shop_records.specs.Same.{same_name}
use Rattle.shop_records.specs.contracts.records.StatePartialEq.TheImpl as state_eq
use Rattle.shop_records.specs.contracts.records.PartPartialEq.TheImpl as part_eq

-- as `==` tests it
abbrev pub same_part : Part → Part → Bool
same_part = part_eq.ghosts.eq

no : {A : Type 0} → false ≡ true → A
no e = absurd (subst T (sym e) tt)

abbrev same_state : State → State → Bool
same_state = state_eq.ghosts.eq

one_state : (a b : State) → same_state a b ≡ true → a ≡ b
one_state state.Standing state.Standing e = refl
one_state (state.Reserved a) (state.Reserved b) e = ap state.Reserved ((unsigned_Decides a b).0 e)
one_state (state.Cut a) (state.Cut b) e = ap state.Cut ((unsigned_Decides a b).0 e)
one_state (state.Piece a) (state.Piece b) e = ap state.Piece ((unsigned_Decides a b).0 e)
one_state state.Kerf state.Kerf e = refl
one_state state.Scrap state.Scrap e = refl
one_state state.Returned state.Returned e = refl
one_state (state.Undone a) (state.Undone b) e = ap state.Undone ((unsigned_Decides a b).0 e)
one_state _ _ e = no e

own_state : (a : State) → same_state a a ≡ true
own_state (state.Reserved a) = (unsigned_Decides a a).1 refl
own_state (state.Cut a) = (unsigned_Decides a a).1 refl
own_state (state.Piece a) = (unsigned_Decides a a).1 refl
own_state (state.Undone a) = (unsigned_Decides a a).1 refl
own_state _ = refl

state_decides : (a b : State) → Decides (same_state a b) (a ≡ b)
state_decides a b = (one_state a b, λ e. subst (λ k. same_state a k ≡ true) e (own_state a))

pub size_decides : (a b : Size) → Decides (nat_eq a.w b.w && nat_eq a.h b.h) (a ≡ b)
size_decides a b =
    Decides-like _ (λ p i. record { w = p.0 i; h = p.1 i }) (λ p. (ap (λ s. s.w) p, ap (λ s. s.h) p)) (Decides-and _ _ (unsigned_Decides a.w b.w) (unsigned_Decides a.h b.h))

pub name_decides : (a b : Name) → Decides (same_name a b) (a ≡ b)
name_decides a b =
    Decides-like _ (λ p i. record { act = p.0 i; node = p.1 i }) (λ p. (ap (λ n. n.act) p, ap (λ n. n.node) p)) (Decides-and _ _ (unsigned_Decides a.act b.act) (unsigned_Decides a.node b.node))

pub part_decides : (a b : Part) → Decides (same_part a b) (a ≡ b)
part_decides a b =
    Decides-like _
    (λ p i. record { name = p.0 i; material = p.1.0 i; batch = p.1.1.0 i; root = p.1.1.1.0 i; x = p.1.1.1.1.0 i; y = p.1.1.1.1.1.0 i; size = p.1.1.1.1.1.1.0 i; state = p.1.1.1.1.1.1.1 i })
    (λ p. (ap (λ r. r.name) p, (ap (λ r. r.material) p, (ap (λ r. r.batch) p, (ap (λ r. r.root) p, (ap (λ r. r.x) p, (ap (λ r. r.y) p, (ap (λ r. r.size) p, ap (λ r. r.state) p))))))))
    (Decides-and _ _ (name_decides a.name b.name)
    (Decides-and _ _ (bytes_decides a.material b.material)
    (Decides-and _ _ (bytes_decides a.batch b.batch)
    (Decides-and _ _ (name_decides a.root b.root)
    (Decides-and _ _ (unsigned_Decides a.x b.x) (Decides-and _ _ (unsigned_Decides a.y b.y) (Decides-and _ _ (size_decides a.size b.size) (state_decides a.state b.state))))))))

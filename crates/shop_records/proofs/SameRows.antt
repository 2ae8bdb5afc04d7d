-- Parts that pass the test of equality are equal.
use Rattle.std.proofs.Common.{◌≡◌, ℕ, zero, suc, List, [], ◌∷◌, true, refl, sym, ap, ◌∙◌, nat_eq, true≢false}
use Rattle.std.proofs.lemmas.Bool.{and_parts, eqb-true}
use Rattle.cut_measure.specs.Codes.{code_cmp}
use Rattle.cut_measure.specs.Names.{Name}
use Rattle.shop_records.specs.declared.records.Part.{Part}
use Rattle.shop_records.specs.declared.records.State.{State}
use Rattle.shop_records.specs.declared.records.State.TheVariants as state
use Rattle.shop_records.specs.Columns.{state_word, state_of}
use Rattle.shop_records.specs.Same.{same_name, same_code}
use Rattle.shop_records.specs.SameRows.{word_number, same_state, same_size, same_origin, same_place, same_part, same_parts}
use Rattle.shop_records.proofs.Basics.{names_equal, codes_same}
use Rattle.shop_records.proofs.Puts.{equal}

-- the state of a word and a number
abbrev state_from : (word number : ℕ) → State
state_from zero n = state.Standing
state_from (suc zero) n = state.Reserved n
state_from (suc (suc zero)) n = state.Cut n
state_from (suc (suc (suc zero))) n = state.Piece n
state_from (suc (suc (suc (suc zero)))) n = state.Kerf
state_from (suc (suc (suc (suc (suc zero))))) n = state.Scrap
state_from (suc (suc (suc (suc (suc (suc zero)))))) n = state.Returned
state_from (suc (suc (suc (suc (suc (suc (suc w))))))) n = state.Undone n

from_own : (s : State) → state_from (word_number (state_word s)) (state_of s) ≡ s
from_own state.Standing = refl
from_own _ = refl

pub states_equal : (a b : State) → same_state a b ≡ true → a ≡ b
states_equal a b e =
    let both = and_parts (nat_eq (word_number (state_word a)) (word_number (state_word b))) (nat_eq (state_of a) (state_of b)) e in
    sym (from_own a)
    ∙ ap (λ w. state_from w (state_of a)) (eqb-true (word_number (state_word a)) (word_number (state_word b)) both.0)
    ∙ ap (state_from (word_number (state_word b))) (eqb-true (state_of a) (state_of b) both.1) ∙ from_own b

names_from : (a b : Name) → same_name a b ≡ true → a ≡ b
names_from a b e =
    let both = and_parts (nat_eq a.act b.act) (nat_eq a.node b.node) e in
    names_equal a b (eqb-true a.act b.act both.0) (eqb-true a.node b.node both.1)

codes_from : (a b : List ℕ) → same_code a b ≡ true → a ≡ b
codes_from a b e = codes_same a b (equal (code_cmp a b) e)

pub part_equal : (a b : Part) → same_part a b ≡ true → a ≡ b
part_equal a b e =
    let h = and_parts _ (same_state a.state b.state) e in
    let of = and_parts (same_origin a b) (same_place a b) h.0 in
    let z = and_parts _ (same_size a.size b.size) of.1 in
    let sides = and_parts (nat_eq a.size.w b.size.w) (nat_eq a.size.h b.size.h) z.1 in
    let xy = and_parts (nat_eq a.x b.x) (nat_eq a.y b.y) z.0 in
    let r = and_parts _ (same_name a.root b.root) of.0 in
    let c = and_parts _ (same_code a.batch b.batch) r.0 in
    let m = and_parts (same_name a.name b.name) (same_code a.material b.material) c.0 in
    λ i. record {
      name = names_from a.name b.name m.0 i;
      material = codes_from a.material b.material m.1 i;
      batch = codes_from a.batch b.batch c.1 i;
      root = names_from a.root b.root r.1 i;
      x = eqb-true a.x b.x xy.0 i;
      y = eqb-true a.y b.y xy.1 i;
      size = record { w = eqb-true a.size.w b.size.w sides.0 i; h = eqb-true a.size.h b.size.h sides.1 i };
      state = states_equal a.state b.state h.1 i;
    }

pub parts_equal : (xs ys : List Part) → same_parts xs ys ≡ true → xs ≡ ys
parts_equal [] [] e = refl
parts_equal [] (y ∷ ys) e = absurd (true≢false (sym e))
parts_equal (x ∷ xs) [] e = absurd (true≢false (sym e))
parts_equal (x ∷ xs) (y ∷ ys) e =
    let both = and_parts (same_part x y) (same_parts xs ys) e in
    λ i. part_equal x y both.0 i ∷ parts_equal xs ys both.1 i

-- A cutting pattern: a tree on a unit's size, under a saw's kerf. A plan is seen as one.
use Rattle.std.specs.Prelude.{ℕ, Bool, true, false, ◌≡◌, ◌≤◌, List, [], ◌∷◌, ◌++◌, refl}
use Rattle.std.specs.Coded.{Coded, code_by, coded×, coded_ℕ, coded_bool, coded_list}
use Rattle.std.proofs.Common.{ap, sym, ◌∙◌, append_assoc}
use Rattle.std.proofs.lemmas.List.{append-nil}
use Rattle.cut_measure.specs.declared.ranges.TheConstants.{MAX_HEIGHT, MAX_KERF, MAX_NUMBERS, MAX_WIDTH}
use Rattle.cut_tree.specs.declared.token.TheConstants.{MAX_CUTS}
use Rattle.cut_measure.specs.declared.sizes.Axis.{Axis}
use Rattle.cut_measure.specs.declared.sizes.Axis.TheVariants.{X, Y}
use Rattle.cut_tree.specs.Tree.{Tree, Piece, Rest, Trim, Cut, IsShaped, cut_count}

pub record Pattern : Type 0 where
  pub tree : Tree
  pub w : ℕ
  pub h : ℕ
  pub kerf : ℕ

-- the pieces' demands have numbers that a demand may have
abbrev pub HasDemands : Tree → Type 0
HasDemands (Piece demand turned) = (1 ≤ demand) × (demand ≤ MAX_NUMBERS)
HasDemands Rest = Unit {0}
HasDemands (Trim axis a first) = HasDemands first
HasDemands (Cut axis a first second) = HasDemands first × HasDemands second

-- what each plan keeps: its tree follows the rule of cuts on its size, with at most 255 cuts
pub record IsPlan (p : Pattern) : Type 0 where
  pub shaped : IsShaped p.tree p.w p.h p.kerf
  pub few_cuts : cut_count p.tree ≤ MAX_CUTS
  pub demands : HasDemands p.tree
  pub some_width : 1 ≤ p.w
  pub width_in_range : p.w ≤ MAX_WIDTH
  pub some_height : 1 ≤ p.h
  pub height_in_range : p.h ≤ MAX_HEIGHT
  pub narrow : p.kerf ≤ MAX_KERF

-- How a proof tells trees apart: a tree's nodes in order, each as two marks, a third one and a number.
abbrev pub Mark : Type 0
Mark = Bool × (Bool × (Bool × ℕ))

abbrev pub axis_bit : Axis → Bool
axis_bit X = false
axis_bit Y = true

abbrev pub bit_axis : Bool → Axis
bit_axis false = X
bit_axis true = Y

abbrev pub marks : Tree → List Mark
marks (Piece demand turned) = (false, (false, (turned, demand))) ∷ []
marks Rest = (false, (true, (false, 0))) ∷ []
marks (Trim axis a first) = (true, (false, (axis_bit axis, a))) ∷ marks first
marks (Cut axis a first second) = (true, (true, (axis_bit axis, a))) ∷ (marks first ++ marks second)

abbrev pub put_mark : Bool → Bool → Bool → ℕ → List Tree → List Tree
put_mark false false turned demand ts = Piece demand turned ∷ ts
put_mark false true b n ts = Rest ∷ ts
put_mark true false b a [] = []
put_mark true false b a (t ∷ ts) = Trim (bit_axis b) a t ∷ ts
put_mark true true b a [] = []
put_mark true true b a (t ∷ []) = []
put_mark true true b a (t ∷ u ∷ ts) = Cut (bit_axis b) a t u ∷ ts

-- the trees that marks stand for, read from the last mark on
abbrev pub trees : List Mark → List Tree
trees [] = []
trees (m ∷ ms) = put_mark m.0 m.1.0 m.1.1.0 m.1.1.1 (trees ms)

abbrev pub first_tree : List Tree → Tree
first_tree [] = Rest
first_tree (t ∷ ts) = t

pub bit_axis-axis_bit : (axis : Axis) → bit_axis (axis_bit axis) ≡ axis
bit_axis-axis_bit X = refl
bit_axis-axis_bit Y = refl

pub trees-marks : (t : Tree) (ms : List Mark) → trees (marks t ++ ms) ≡ t ∷ trees ms
trees-marks (Piece d turned) ms = refl
trees-marks Rest ms = refl
trees-marks (Trim axis a first) ms =
    ap (λ ts. put_mark true false (axis_bit axis) a ts) (trees-marks first ms)
    ∙ ap (λ x. Trim x a first ∷ trees ms) (bit_axis-axis_bit axis)
trees-marks (Cut axis a first second) ms =
    ap (λ l. put_mark true true (axis_bit axis) a (trees l)) (append_assoc (marks first) (marks second) ms)
    ∙ ap (λ ts. put_mark true true (axis_bit axis) a ts) (trees-marks first (marks second ++ ms) ∙ ap (λ ts. first ∷ ts) (trees-marks second ms))
    ∙ ap (λ x. Cut x a first second ∷ trees ms) (bit_axis-axis_bit axis)

pub first_tree-marks : (t : Tree) → first_tree (trees (marks t)) ≡ t
first_tree-marks t = ap (λ l. first_tree (trees l)) (sym (append-nil (marks t))) ∙ ap first_tree (trees-marks t [])

abbrev pub pattern_code : Coded Pattern
pattern_code =
    code_by (List Mark × (ℕ × (ℕ × ℕ)))
    (coded× (coded_list (coded× coded_bool (coded× coded_bool (coded× coded_bool coded_ℕ)))) (coded× coded_ℕ (coded× coded_ℕ coded_ℕ)))
    (λ p. (marks p.tree, (p.w, (p.h, p.kerf))))
    (λ c. record { tree = first_tree (trees c.0); w = c.1.0; h = c.1.1.0; kerf = c.1.1.1 })
    (λ p. ap (λ t. (let q : Pattern = record { tree = t; w = p.w; h = p.h; kerf = p.kerf } in q)) (first_tree-marks p.tree))

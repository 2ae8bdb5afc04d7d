-- The lines of a plan's nodes, one after another.
use Rattle.std.proofs.Common.{◌≡◌, ℕ, zero, suc, ◌+◌, ◌<◌, List, ◌++◌, length, get_or, refl, sym, ap, subst, ◌∙◌, append_assoc, arith, add-one, inl, inr}
use Rattle.std.specs.Prelude.{Option, Some, None, MatchOption, slice_get, option_map, ◌⊎◌}
use Rattle.std.proofs.lemmas.Option.{slice_get-map, slice_get-get_or}
use Rattle.std.proofs.lemmas.Bool.{cases_order}
use Rattle.std.proofs.lemmas.List.{length-map}
use Rattle.std.proofs.lemmas.List.Elements.{All-get_or}
use Rattle.cut_measure.specs.declared.sizes.Kind.{Kind}
use Rattle.cut_tree.specs.Patterns.{Pattern}
use Rattle.cut_tree.specs.declared.steps.Step.{Step}
use Rattle.cut_tree.specs.Tree.{Tree, node_count}
use Rattle.cut_tree.specs.Stepping.{AreSteps, step_at}
use Rattle.shop_text.specs.declared.tickets.FoundNode.{FoundNode}
use Rattle.shop_records.specs.declared.records.Demand.{Demand}
use Rattle.shop_records.specs.declared.refusals.Refusal.{Refusal}
use Rattle.shop_text.specs.Tickets.{AreNodesFound, IsUnreported, both, demand_for, line_of, lines_below, node_line, step_of, steps_in}

both_none : (a : Option (List ℕ)) → both a None ≡ None
both_none None = refl
both_none (Some lines) = refl

next_none : (line : ℕ → Option (List ℕ)) (i n : ℕ) → ((i < n) → lines_below line n ≡ None) → i < suc n → line i ≡ None → both (lines_below line n) (line n) ≡ None
next_none line i n earlier lt none = by (cases_order i n)
  where
    by : (i ≡ n) ⊎ ((i < n) ⊎ (n < i)) → both (lines_below line n) (line n) ≡ None
    by (inl same) = ap (both (lines_below line n)) (ap line (sym same) ∙ none) ∙ both_none (lines_below line n)
    by (inr (inl below)) = ap (λ lines. both lines (line n)) (earlier below)
    by (inr (inr above)) = absurd (omega arith)

-- where one line isn't there, neither are those up to a later one
pub none_below : (line : ℕ → Option (List ℕ)) (i n : ℕ) → i < n → line i ≡ None → lines_below line n ≡ None
none_below line i zero lt none = absurd (omega arith)
none_below line i (suc n) lt none = next_none line i n (λ below. none_below line i n below none) lt none

joined : (start old new : List ℕ) (a b : Option (List ℕ)) → MatchOption a ⊥ (λ lines. old ≡ start ++ lines) → MatchOption b ⊥ (λ line. new ≡ old ++ line)
    → MatchOption (both a b) ⊥ (λ lines. new ≡ start ++ lines)
joined start old new None b before more = absurd before
joined start old new (Some lines) None before more = absurd more
joined start old new (Some lines) (Some line) before more = more ∙ ap (λ x. x ++ line) before ∙ append_assoc start lines line

-- a line more
pub line_added : (line : ℕ → Option (List ℕ)) (n : ℕ) (start old new : List ℕ) → MatchOption (lines_below line n) ⊥ (λ lines. old ≡ start ++ lines)
    → MatchOption (line n) ⊥ (λ l. new ≡ old ++ l) → MatchOption (lines_below line (n + 1)) ⊥ (λ lines. new ≡ start ++ lines)
line_added line n start old new before more = rw (add-one n) (joined start old new (lines_below line n) (line n) before more)

some_step : (found : Option Step) (a b : Step) → found ≡ Some a → found ≡ Some b → a ≡ b
some_step found a b p q = cc

-- the node of a number has its step
pub step_is : (tree : Tree) (w h kerf : ℕ) (nodes : List FoundNode) (i : ℕ) (d : FoundNode) → AreSteps tree w h kerf (steps_in nodes) → i < length nodes
    → (get_or nodes i d).step ≡ step_at tree 0 0 w h kerf i i
step_is tree w h kerf nodes i d steps lt =
    let long : length (steps_in nodes) ≡ length nodes = length-map nodes (λ (n : FoundNode). n.step) in
    let here : slice_get (steps_in nodes) i ≡ Some (get_or nodes i d).step =
    slice_get-map (λ (n : FoundNode). n.step) nodes i ∙ ap (option_map (λ (n : FoundNode). n.step)) (slice_get-get_or nodes i d lt) in
    some_step _ _ _ here (steps.each i (omega (arith, long, steps.count)))

-- the line of a found node is that of its number
pub line_is : (kind : Kind) (at : ℕ → Option Demand) (plan : Pattern) (nodes : List FoundNode) (i : ℕ) (r : FoundNode) → AreSteps plan.tree plan.w plan.h plan.kerf (steps_in nodes) → AreNodesFound at nodes
    → i < length nodes → r ≡ get_or nodes i r → node_line kind r.step r.demand ≡ line_of kind at plan i
line_is kind at plan nodes i r steps found lt is =
    let step : r.step ≡ step_of plan i = ap (λ (n : FoundNode). n.step) is ∙ step_is plan.tree plan.w plan.h plan.kerf nodes i r steps lt in
    let row : r.demand ≡ demand_for at r.step.what =
    subst (λ (n : FoundNode). n.demand ≡ demand_for at n.step.what) (sym is) (All-get_or (λ (n : FoundNode). n.demand ≡ demand_for at n.step.what) nodes i r lt found) in
    ap (node_line kind r.step) row ∙ ap (λ (s : Step). node_line kind s (demand_for at s.what)) step

-- there are as many nodes as were found
pub within : (plan : Pattern) (nodes : List FoundNode) → AreSteps plan.tree plan.w plan.h plan.kerf (steps_in nodes) → length nodes ≡ node_count plan.tree
within plan nodes steps = sym (length-map nodes (λ (n : FoundNode). n.step)) ∙ steps.count

-- where one line isn't there, the lines aren't
pub stopped : (refusal : Refusal) (line said : Option (List ℕ)) → (line ≡ None → said ≡ None) → IsUnreported refusal line → IsUnreported refusal said
stopped refusal line said none (inl memory) = inl memory
stopped refusal line said none (inr wrong) = inr (wrong.0, none wrong.1)

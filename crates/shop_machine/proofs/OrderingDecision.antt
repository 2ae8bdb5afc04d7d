-- Demands that are numbered one after another.
use Rattle.std.proofs.Common.{◌≡◌, ℕ, suc, ◌+◌, ◌<◌, List, [], ◌∷◌, ◌++◌, length, take, get_or, ap, ◌∙◌, arith}
use Rattle.std.proofs.lemmas.List.{map-append, take_more, length-map, length-take-le}
use Rattle.shop_files.specs.declared.orders.OrderLine.{OrderLine}
use Rattle.shop_machine.specs.declared.ordering.FoundLine.{FoundLine}
use Rattle.shop_machine.specs.Ordering.{new_demand, new_demands, lines_in}

pub new_demands-push : (order : List ℕ) (first : ℕ) (lines : List OrderLine) (line : OrderLine)
    → new_demands order first (lines ++ line ∷ []) ≡ new_demands order first lines ++ new_demand order (first + length lines) line ∷ []
new_demands-push order first [] line = ap (λ n. new_demand order n line ∷ []) (omega arith)
new_demands-push order first (l ∷ lines) line =
    ap (λ rows. new_demand order first l ∷ rows) (new_demands-push order (suc first) lines line
    ∙ ap (λ n. new_demands order (suc first) lines ++ new_demand order n line ∷ []) (omega arith))

pub new_demands_more : (order : List ℕ) (first : ℕ) (found : List FoundLine) (i : ℕ) (d : FoundLine) → i < length found
    → new_demands order first (lines_in (take (i + 1) found)) ≡ new_demands order first (lines_in (take i found)) ++ new_demand order (first + i) (get_or found i d).line ∷ []
new_demands_more order first found i d within =
    ap (λ fs. new_demands order first (lines_in fs)) (take_more found i d within)
    ∙ ap (new_demands order first) (map-append (λ (f : FoundLine). f.line) (take i found) (get_or found i d ∷ []))
    ∙ new_demands-push order first (lines_in (take i found)) (get_or found i d).line
    ∙ ap (λ n. new_demands order first (lines_in (take i found)) ++ new_demand order n (get_or found i d).line ∷ [])
    (ap (λ n. first + n) (length-map (take i found) (λ (f : FoundLine). f.line) ∙ length-take-le i found (omega arith)))

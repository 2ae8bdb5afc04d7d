use Rattle.std.proofs.Common.{◌≡◌, ℕ, ◌++◌}
use Rattle.std.specs.Prelude.{Option, MatchOption, string_bytes}
use Rattle.shop_records.specs.declared.records.Demand.{Demand}
use Rattle.shop_text.specs.Tickets.{AreNodesFound, line_of, lines_below}
use Rattle.shop_text.proofs.tickets.push_lines.Given as goal

-- the lines so far stand after the text
abbrev pub invariant-loop-node : goal.invariant-loop-node
invariant-loop-node l = (at : ℕ → Option Demand) → AreNodesFound at l.nodes
    → MatchOption (lines_below (line_of l.kind at l.plan) l.node-index) ⊥ (λ lines. string_bytes l.text ≡ string_bytes l.fn.text ++ lines)

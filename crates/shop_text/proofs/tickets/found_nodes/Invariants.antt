use Rattle.std.proofs.Common.{◌≡◌, take}
use Rattle.shop_records.specs.Content.{Content, demand_at}
use Rattle.shop_book.specs.Kept.{Unchanged}
use Rattle.shop_text.specs.Tickets.{AreNodesFound, steps_in}
use Rattle.shop_text.proofs.tickets.found_nodes.Given as goal

abbrev pub invariant-loop-step : goal.invariant-loop-step
invariant-loop-step g l =
    record {
      keeps : Unchanged g.B.Book (λ before after. after ≡ before) l.fn.book l.book;
      steps : steps_in l.nodes.items ≡ take l.step-index l.step-items;
      found : g.B.Book.has_clean_disk l.book → (m : Content) → g.B.Book.holds l.fn.book m → AreNodesFound (demand_at m) l.nodes.items;
    }

use Rattle.std.proofs.Common.{◌≡◌, take}
use Rattle.shop_answers.proofs.listing.reported_rows.Given as goal

abbrev pub invariant-loop-row : goal.invariant-loop-row
invariant-loop-row g l = l.reported ≡ take l.row-index l.row-items

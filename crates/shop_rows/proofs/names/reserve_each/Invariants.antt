use Rattle.std.proofs.Common.{◌≡◌, ◌≤◌, ℕ, List, take}
use Rattle.shop_rows.specs.Open.{names_of, spare_of, AreInOrder, HaveSpareNames}
use Rattle.shop_rows.proofs.names.reserve_each.Given as goal

abbrev pub invariant-loop-part : goal.invariant-loop-part
invariant-loop-part l =
    record {
      names : (code : List ℕ) → names_of code l.lists.items ≡ names_of code l.fn.lists.items;
      order : AreInOrder l.lists.items;
      spare : HaveSpareNames l.count (take l.part-index l.parts) l.lists.items;
      more : (code : List ℕ) → spare_of code l.fn.lists.items ≤ spare_of code l.lists.items;
    }

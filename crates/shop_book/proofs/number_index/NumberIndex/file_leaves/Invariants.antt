use Rattle.std.proofs.Common.{take}
use Rattle.std.specs.Prelude.{IsTrue}
use Rattle.cut_tree.specs.declared.leaves.Leaf.{Leaf}
use Rattle.shop_records.specs.Elements.{IsIn}
use Rattle.shop_book.specs.Filing.{is_filed_for, StaysFiled}
use Rattle.shop_book.proofs.number_index.NumberIndex.file_leaves.Given as goal

abbrev pub invariant-loop-leaf : goal.invariant-loop-leaf
invariant-loop-leaf l =
    record {
      filed : (leaf : Leaf) → IsIn leaf (take l.leaf-index l.leaves) → IsTrue (is_filed_for l.self leaf.demand l.job);
      stays : StaysFiled l.fn.self l.self;
    }

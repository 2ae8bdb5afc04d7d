use Rattle.std.proofs.Math.Logic.{∥∥₁_map}
use Rattle.sqlite.specs.Files.{file_state}
use Rattle.shop_opening.proofs.Left.{after_left, held_left, only_left, shown_left}
use Rattle.shop_opening.proofs.stops.stopped_stores_are_found.Goals as goal

pub returns : goal.returns
returns g c = record {
  only = λ last m clean leaves image left. only_left last image left m clean leaves;
  held = λ last m clean up was image left. held_left last image left g.met.D.Disk.seen_may_stay m clean up was;
  refused = λ last m clean leaves image left. shown_left last image left m clean leaves;
  after = λ first last old next messages answers clean leaves leads image left. after_left last image left old next messages answers (file_state first).may_leave (leaves clean) leads;
  again = λ image m shown next it ledger failures opened. ∥∥₁_map shown (λ s. opened.holds m s);
}

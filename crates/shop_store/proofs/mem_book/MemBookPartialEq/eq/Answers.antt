use Rattle.std.proofs.lemmas.Bool.Decides.{same_from_decides}
use Rattle.shop_book.specs.Equal.{content_decides}
use Rattle.shop_store.specs.MemBooks.{content_of, same_books}
use Rattle.shop_store.proofs.mem_book.MemBookPartialEq.eq.Goals as goal

pub returns-clause-test : goal.returns-clause-test
returns-clause-test c =
    same_from_decides c.has_content_of.result (same_books c.args.self.now c.args.other.now) c.has_content_of.ensures (content_decides (content_of c.args.self.now) (content_of c.args.other.now))

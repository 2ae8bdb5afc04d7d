use Rattle.std.proofs.Common.{◌≡◌, ◌++◌, false, List, filter}
use Rattle.sqlite.specs.Held.{state}
use Rattle.shop_statements.specs.Earlier.{OnBooksEither}
use Rattle.shop_statements.specs.Shown.{Leaves}
use Rattle.shop_book.specs.Ledgers.{content_in}
use Rattle.shop_store.specs.Loading.{FitInTurn, with_each}
use Rattle.shop_store.proofs.Chunks.{from}
use Rattle.shop_store.proofs.numbered.load_numbered.Given as goal

abbrev pub invariant-chunks : goal.invariant-chunks
invariant-chunks g l =
    record {
      leaves : Leaves (state g.S.Store l.fn.conn) (state g.S.Store l.conn);
      mode : l.fn.conn.in_transaction ≡ false → l.conn.in_transaction ≡ false;
      read : OnBooksEither (state g.S.Store l.fn.conn) (state g.S.Store l.conn) (λ b. FitInTurn g.T.Loadable.fits g.T.Loadable.put (g.T.Numbered.all b.content) (content_in l.fn.ledger)
          → (loaded : List g.row.T.Denot) × (g.T.Numbered.all b.content ≡ loaded ++ filter (from g.T.Numbered.number l.from) (g.T.Numbered.all b.content)) × (content_in l.ledger ≡ with_each g.T.Loadable.put loaded (content_in l.fn.ledger)));
    }

use Rattle.std.proofs.Common.{◌≡◌, ◌++◌, [], refl, sym, ◌∙◌, arith, filter, take}
use Rattle.sqlite.specs.Held.{state}
use Rattle.sqlite.specs.State.{HasCleanDisk}
use Rattle.shop_statements.proofs.Reading.{leaves_then}
use Rattle.shop_book.specs.Ledgers.{content_in}
use Rattle.shop_store.specs.Loading.{IsChunk}
use Rattle.shop_store.specs.declared.numbered.Chunk.TheVariants as chunk
use Rattle.shop_store.proofs.Checked.{leaves_itself}
use Rattle.shop_store.proofs.Chunks.{all_are_put, chunk_fits, chunk_is_put, from, from_0, next_chunk}
use Rattle.shop_store.proofs.HeldEither.{stays_either}
use Rattle.shop_store.proofs.numbered.load_numbered.Goals as goal

pub chunks-init : goal.chunks-init
chunks-init g c = record {
  leaves = leaves_itself (state g.S.Store c.args.conn.now);
  mode = λ out. out;
  read = λ clean b was fit. ([], sym (from_0 g.T.Numbered.number (g.T.Numbered.all b.content)), refl);
}

pub returns-in-End-clause-loaded : goal.returns-in-End-clause-loaded
returns-in-End-clause-loaded g c clean b was fit =
    let before : HasCleanDisk (state g.S.Store c.chunks.conn) = let l = c.rows_from.ensures.leaves.survives.clean in omega (arith, l, clean) in
    let it = c.chunks.invariant.read before b was fit in
    let all = g.T.Numbered.all b.content in
    let values = take 1000 (filter (from g.T.Numbered.number c.chunks.from) all) in
    let rows = c.deref.ensures.value ∙ c.in_ok-rows.ensures.rows clean b (stays_either (state g.S.Store c.args.conn.now) (state g.S.Store c.chunks.conn) b c.chunks.invariant.leaves was) in
    let read = c.in_ok-load_chunk.ensures values rows (chunk_fits g.T.Numbered.number g.T.Loadable.put g.T.Loadable.fits all it.0 c.chunks.from 1000 (content_in c.args.ledger.now) (content_in c.chunks.ledger) it.1 it.2 fit) in
    let none : values ≡ [] = (rw c.in-End.is at read).0 in
    (refl, all_are_put g.T.Numbered.number g.T.Loadable.put g.T.Loadable.fits all it.0 c.chunks.from 1000 (content_in c.args.ledger.now) (content_in c.chunks.ledger) it.1 it.2 (content_in c.load_chunk.new.ledger) (omega arith) none read.1)

pub returns-in-Stranger-clause-loaded : goal.returns-in-Stranger-clause-loaded
returns-in-Stranger-clause-loaded g c clean b was fit =
    let before : HasCleanDisk (state g.S.Store c.chunks.conn) = let l = c.rows_from.ensures.leaves.survives.clean in omega (arith, l, clean) in
    let it = c.chunks.invariant.read before b was fit in
    let all = g.T.Numbered.all b.content in
    let values = take 1000 (filter (from g.T.Numbered.number c.chunks.from) all) in
    let rows = c.deref.ensures.value ∙ c.in_ok-rows.ensures.rows clean b (stays_either (state g.S.Store c.args.conn.now) (state g.S.Store c.chunks.conn) b c.chunks.invariant.leaves was) in
    let read = c.in_ok-load_chunk.ensures values rows (chunk_fits g.T.Numbered.number g.T.Loadable.put g.T.Loadable.fits all it.0 c.chunks.from 1000 (content_in c.args.ledger.now) (content_in c.chunks.ledger) it.1 it.2 fit) in
    absurd ((rw c.in-Stranger.is at read).0)

pub chunks-preserved : goal.chunks-preserved
chunks-preserved g c = record {
  leaves = leaves_then _ _ _ c.chunks.invariant.leaves c.rows_from.ensures.leaves;
  mode = λ out. c.rows_from.ensures.mode (c.chunks.invariant.mode out);
  read = λ clean b was fit.
      let before : HasCleanDisk (state g.S.Store c.chunks.conn) = let l = c.rows_from.ensures.leaves.survives.clean in omega (arith, l, clean) in
      let it = c.chunks.invariant.read before b was fit in
      let held = stays_either (state g.S.Store c.args.conn.now) (state g.S.Store c.chunks.conn) b c.chunks.invariant.leaves was in
      let all = g.T.Numbered.all b.content in
      let values = take 1000 (filter (from g.T.Numbered.number c.chunks.from) all) in
      let rows = c.deref.ensures.value ∙ c.in_ok-rows.ensures.rows clean b held in
      let read = c.in_ok-load_chunk.ensures values rows (chunk_fits g.T.Numbered.number g.T.Loadable.put g.T.Loadable.fits all it.0 c.chunks.from 1000 (content_in c.args.ledger.now) (content_in c.chunks.ledger) it.1 it.2 fit) in
      let last : IsChunk g.T.Numbered.number values (chunk.From c.in-From.next) = (rw c.in-From.is at read).0 in (
        it.0 ++ values,
        next_chunk g.T.Numbered.number all it.0 c.chunks.from 1000 c.in-From.next last.0 last.1 (c.in_ok-rows.ensures.rising clean b held) it.1 last.2 last.3,
        chunk_is_put g.T.Numbered.number g.T.Loadable.put g.T.Loadable.fits all it.0 c.chunks.from 1000 (content_in c.args.ledger.now) (content_in c.chunks.ledger) it.1 it.2 (content_in c.load_chunk.new.ledger) read.1,
      );
}

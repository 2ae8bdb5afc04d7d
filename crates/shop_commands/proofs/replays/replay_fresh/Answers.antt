use Rattle.std.proofs.Common.{[], Err, inl, inr, ap, ◌∙◌, arith}
use Rattle.shop_desk.specs.Faults.{StoreFailed}
use Rattle.shop_records.specs.Content.{fresh}
use Rattle.shop_store.proofs.InMemory.{mem_book, mem_clean, mem_holds}
use Rattle.shop_wire.proofs.Fresh.{from_fresh}
use Rattle.shop_commands.proofs.Replayed.{stopped}
use Rattle.shop_commands.specs.Sinks.{change_of}
use Rattle.shop_commands.specs.Sources.{source_change}
use Rattle.shop_commands.proofs.replays.replay_fresh.Goals as goal

-- no failure was counted
never : StoreFailed 0 0 → ⊥
never (inl rose) = omega (arith, rose)
never (inr is) = omega (arith, is)

pub returns-in-Ok-clause-ok : goal.returns-in-Ok-clause-ok
returns-in-Ok-clause-ok g c =
    let p = c.in-Ok.ensures.ok in
    (p.0, p.1, from_fresh mem_book c.new-book.result c.replay.new.book (mem_clean c.replay.new.book) (mem_holds c.new-book.result fresh c.new-book.ensures.texts c.new-book.ensures.rows) never (g.W.Sink.held c.args.sink.now) (g.W.Sink.held c.replay.new.sink) p.0 [] p.3)

pub returns-clause-err : goal.returns-clause-err
returns-clause-err g c =
    let p = c.in-Err.ensures.err in
    let replayed = from_fresh mem_book c.new-book.result c.replay.new.book (mem_clean c.replay.new.book) (mem_holds c.new-book.result fresh c.new-book.ensures.texts c.new-book.ensures.rows) never (g.W.Sink.held c.args.sink.now) (g.W.Sink.held c.replay.new.sink) p.0 p.3 p.5 in
    stopped (source_change g.S.Source c.args.source.now c.replay.new.source) (change_of g.W.Sink c.args.sink.now c.replay.new.sink) c.in-Err.fault c.from.result c.from.ensures
    p.0 p.1 p.2 p.3 p.4 replayed (λ is. c.replay.ensures.read (c.in-Err.is ∙ ap Err is)) (λ is. c.replay.ensures.write (c.in-Err.is ∙ ap Err is))

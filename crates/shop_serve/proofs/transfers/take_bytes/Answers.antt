use Rattle.std.proofs.Common.{◌∙◌, ◌<◌, ◌++◌, inl, inr, subst, sym, ap, length, arith}
use Rattle.shop_request.proofs.After.{read_more, read_none}
use Rattle.shop_request.specs.Reading.{IsHeadIn}
use Rattle.shop_request.specs.Parses.{IsDetermined, IsUnfinished}
use Rattle.shop_serve.specs.Clients.{AwaitsMore}
use Rattle.shop_serve.proofs.Awaiting.{awaits-on}
use Rattle.shop_serve.proofs.transfers.take_bytes.Goals as goal

pub returns-in-End-clause-head : goal.returns-in-End-clause-head
returns-in-End-clause-head g c whole = subst (λ received. IsHeadIn received c.read.result) c.deref.ensures.value c.read.ensures

pub returns-in-End-clause-over : goal.returns-in-End-clause-over
returns-in-End-clause-over g c over =
    let end = c.take_piece.ensures.end c.in-End.is in
    inr (
      read_none (g.C.Connection.remaining c.args.stream.now) (g.C.Connection.remaining c.loop-stream.stream) (g.C.Connection.remaining c.take_piece.new.stream)
          c.args.received.now.items c.loop-stream.received.items c.take_piece.new.received.items c.loop-stream.invariant.read end.0 end.2,
      inl (sym c.deref-in-End.ensures.value ∙ c.at_end.ensures.none over, end.1),
    )

pub is_whole-requires : goal.is_whole-requires
is_whole-requires g c =
    subst (λ received. IsHeadIn received c.read-in-loop-stream.result) (sym c.deref-in-loop-stream-2.ensures.value)
    (subst (λ received. IsHeadIn received c.read-in-loop-stream.result) c.deref-in-loop-stream.ensures.value c.read-in-loop-stream.ensures)

pub least_bytes-requires : goal.least_bytes-requires
least_bytes-requires g c =
    subst (λ received. IsHeadIn received c.read-in-loop-stream.result) (sym c.deref-in-loop-stream-3.ensures.value)
    (subst (λ received. IsHeadIn received c.read-in-loop-stream.result) c.deref-in-loop-stream.ensures.value c.read-in-loop-stream.ensures)

pub returns-then-is_whole-clause-head : goal.returns-then-is_whole-clause-head
returns-then-is_whole-clause-head g c whole = subst (λ received. IsHeadIn received c.read-in-loop-stream.result) c.deref-in-loop-stream.ensures.value c.read-in-loop-stream.ensures

pub returns-then-is_whole-clause-whole : goal.returns-then-is_whole-clause-whole
returns-then-is_whole-clause-whole g c whole = inl (subst IsDetermined c.deref-in-loop-stream-2.ensures.value (c.is_whole.ensures.determined c.if-is_whole.true))

pub returns-then-is_whole-clause-bytes : goal.returns-then-is_whole-clause-bytes
returns-then-is_whole-clause-bytes g c over known =
    let p = c.take_piece.ensures.more c.in-More.is in
    read_more (g.C.Connection.remaining c.args.stream.now) (g.C.Connection.remaining c.loop-stream.stream) (g.C.Connection.remaining c.take_piece.new.stream)
    c.args.received.now.items c.loop-stream.received.items c.take_piece.new.received.items p.0 c.loop-stream.invariant.read p.2 p.3

pub loop-stream-preserved-then-len-needed : goal.loop-stream-preserved-then-len-needed
loop-stream-preserved-then-len-needed g c =
    let so_far = c.loop-stream.invariant in
    let p = c.take_piece.ensures.more c.in-More.is in
    record {
      read = read_more (g.C.Connection.remaining c.args.stream.now) (g.C.Connection.remaining c.loop-stream.stream) (g.C.Connection.remaining c.take_piece.new.stream)
          c.args.received.now.items c.loop-stream.received.items c.take_piece.new.received.items p.0 so_far.read p.2 p.3;
      waits = λ waits. subst (λ received. AwaitsMore received c.loop-stream.needed) (sym p.2)
          (awaits-on c.loop-stream.received.items p.0 c.loop-stream.needed (omega (arith, c.if-len-needed.true, ap length p.2)) (so_far.waits waits));
      kept = c.take_piece.ensures.kept ∙ so_far.kept;
    }

pub loop-stream-preserved : goal.loop-stream-preserved
loop-stream-preserved g c =
    let so_far = c.loop-stream.invariant in
    let p = c.take_piece.ensures.more c.in-More.is in
    record {
      read = read_more (g.C.Connection.remaining c.args.stream.now) (g.C.Connection.remaining c.loop-stream.stream) (g.C.Connection.remaining c.take_piece.new.stream)
          c.args.received.now.items c.loop-stream.received.items c.take_piece.new.received.items p.0 so_far.read p.2 p.3;
      waits = λ waits. record {
        here = subst IsUnfinished c.deref-in-loop-stream-2.ensures.value (c.is_whole.ensures.waits c.if-is_whole.false);
        later = λ more few. subst (λ received. IsUnfinished (received ++ more)) c.deref-in-loop-stream-3.ensures.value
            (c.least_bytes.ensures.waits more (subst (λ received. length (received ++ more) < c.least_bytes.result) (sym c.deref-in-loop-stream-3.ensures.value) few));
      };
      kept = c.take_piece.ensures.kept ∙ so_far.kept;
    }

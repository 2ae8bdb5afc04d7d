use Rattle.std.proofs.Common.{[], ◌++◌, ap, subst, sym, Ok}
use Rattle.std.proofs.KnownBytes.{Appends-nil, Appends-trans, Consumes-nil, Consumes-trans}
use Rattle.std.specs.Io.KnownBytes.{Appends}
use Rattle.shop_backup.proofs.Steps.{all_copied}
use Rattle.shop_backup.proofs.backing.copy_all.Goals as goal

pub loop-init : goal.loop-init
loop-init g c = ([], Consumes-nil (g.S.Source.left c.args.source.now), Appends-nil (g.W.Sink.held c.args.sink.now))

pub loop-preserved : goal.loop-preserved
loop-preserved g c =
    let so_far = c.loop.invariant in
    let more = c.in_ok-copy_piece.ensures.more (ap Ok c.if-not-branch.false) in (
      so_far.0 ++ more.0,
      Consumes-trans (g.S.Source.left c.args.source.now) (g.S.Source.left c.loop.source) (g.S.Source.left c.copy_piece.new.source) so_far.0 more.0 so_far.1 more.1,
      Appends-trans (g.W.Sink.held c.args.sink.now) (g.W.Sink.held c.loop.sink) (g.W.Sink.held c.copy_piece.new.sink) so_far.0 more.0 so_far.2 more.2,
    )

pub returns-then-not-branch : goal.returns-then-not-branch
returns-then-not-branch g c =
    let so_far = c.loop.invariant in
    let end = c.in_ok-copy_piece.ensures.end (ap Ok c.if-not-branch.true) in
    all_copied (g.S.Source.left c.args.source.now) (g.S.Source.left c.loop.source) (g.S.Source.left c.copy_piece.new.source) (g.W.Sink.held c.args.sink.now) (g.W.Sink.held c.copy_piece.new.sink)
    so_far.0 so_far.1 end.0 end.1 (subst (λ held. Appends (g.W.Sink.held c.args.sink.now) held so_far.0) (sym end.2) so_far.2)

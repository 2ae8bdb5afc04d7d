use Rattle.std.proofs.Common.{arith, ◌-◌, take, drop}
use Rattle.std.proofs.lemmas.List.{length-take}
use Rattle.shop_wire.specs.Lines.{pending}
use Rattle.shop_wire.proofs.Parts.{no_feed, no_feed_whole, split_at_feed, pending_none}
use Rattle.shop_wire.proofs.reader.LineReader.take_part.Goals as goal

pub returns-in_ok-append_kept-in-Some-clause-fed : goal.returns-in_ok-append_kept-in-Some-clause-fed
returns-in_ok-append_kept-in-Some-clause-fed c =
    let self = c.args.self.now in
    let rest = pending self.buffer self.start self.end in
    λ _. (
      take c.in-Some.at rest,
      no_feed rest c.in-Some.at c.in-Some.ensures.0.before,
      split_at_feed self.buffer self.start self.end c.in-Some.at c.in-Some.ensures.0.high (omega (arith, c.in-Some.ensures.0.high, length-take (self.end - self.start) (drop self.start self.buffer))) c.in-Some.ensures.1,
      c.in_ok-append_kept-in-Some.ensures,
    )

pub returns-in_ok-append_kept-in-None-clause-open : goal.returns-in_ok-append_kept-in-None-clause-open
returns-in_ok-append_kept-in-None-clause-open c =
    let self = c.args.self.now in
    λ _. (no_feed_whole (pending self.buffer self.start self.end) c.in-None.ensures, pending_none self.buffer self.end, c.in_ok-append_kept-in-None.ensures)

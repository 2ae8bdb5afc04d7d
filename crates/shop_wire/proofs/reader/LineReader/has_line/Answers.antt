use Rattle.shop_wire.specs.Lines.{pending}
use Rattle.shop_wire.proofs.Parts.{has_feed, no_feed_whole}
use Rattle.shop_wire.proofs.reader.LineReader.has_line.Goals as goal

pub returns-in-Some-clause-whole : goal.returns-in-Some-clause-whole
returns-in-Some-clause-whole c =
    let self = c.args.self.now in
    λ _ free. has_feed (pending self.buffer self.start self.end) c.in-Some.field-0 c.in-Some.ensures.0.high c.in-Some.ensures.1 free

pub returns-in-None-clause-part : goal.returns-in-None-clause-part
returns-in-None-clause-part c =
    let self = c.args.self.now in
    λ _. no_feed_whole (pending self.buffer self.start self.end) c.in-None.ensures

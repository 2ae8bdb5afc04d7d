use Rattle.std.proofs.Common.{◌≡◌, ◌+◌, ◌*◌, ◌≤◌, List, ℕ, length, true, false}
use Rattle.std.specs.Io.KnownBytes.{IsAtEnd, prepend_known}
use Rattle.shop_desk.specs.Faults.{CountsUp}
use Rattle.shop_wire.specs.Lines.{pending}
use Rattle.shop_wire.specs.declared.limits.TheConstants.{BUFFER_SIZE}
use Rattle.shop_wire.specs.Replays.{IsReplayed}
use Rattle.shop_wire.specs.Streams.{CountTogether, TookBytes, most_reads, work}
use Rattle.shop_wire.proofs.Replayed.{HasRead}
use Rattle.shop_wire.proofs.replays.answer_lines.Given as goal

abbrev pub invariant-loop-line : goal.invariant-loop-line
invariant-loop-line g l =
    (lines : List (List ℕ))
    × HasRead (g.S.Source.left l.fn.source) (prepend_known (pending l.reader.buffer l.reader.start l.reader.end) (g.S.Source.left l.source)) lines
    × (l.count ≡ length lines)
    × IsReplayed g.B.Book l.fn.book l.book (g.W.Sink.held l.fn.sink) (g.W.Sink.held l.sink) lines l.held.items
    × (g.B.Book.has_clean_disk l.book → g.B.Book.has_clean_disk l.fn.book)
    × CountsUp (g.B.Book.failed l.fn.book) (g.B.Book.failed l.book)
    × (l.reader.reads ≤ most_reads)
    × (l.reader.ended ≡ true → IsAtEnd (g.S.Source.left l.source))
    × (l.reader.ended ≡ false → TookBytes 0 (g.S.Source.left l.fn.source) l.reader.reads (g.S.Source.left l.source))
    × CountTogether 0 (g.S.Source.reads l.fn.source) l.reader.reads (g.S.Source.reads l.source)
    × (g.S.Source.failed l.source ≡ g.S.Source.failed l.fn.source)
    × (g.W.Sink.failed l.sink ≡ g.W.Sink.failed l.fn.sink)
    × (l.count + work l.reader.reads (pending l.reader.buffer l.reader.start l.reader.end) ≤ most_reads * (BUFFER_SIZE + 1))

abbrev pub decreases-loop-line : goal.decreases-loop-line
decreases-loop-line g l = work l.reader.reads (pending l.reader.buffer l.reader.start l.reader.end)

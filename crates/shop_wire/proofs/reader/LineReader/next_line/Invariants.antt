use Rattle.std.proofs.Common.{◌≡◌, ◌+◌, ◌-◌, ◌≤◌, List, ℕ, length, true, false}
use Rattle.std.specs.Io.KnownBytes.{IsAtEnd, prepend_known}
use Rattle.shop_wire.specs.Lines.{pending}
use Rattle.shop_wire.specs.Streams.{CountTogether, TookBytes, most_reads, work}
use Rattle.shop_wire.proofs.Reading.{IsReading}
use Rattle.shop_wire.proofs.reader.LineReader.next_line.Given as goal

abbrev pub invariant-loop-fed : goal.invariant-loop-fed
invariant-loop-fed g l =
    (got : List ℕ)
    × IsReading (prepend_known (pending l.fn.self.buffer l.fn.self.start l.fn.self.end) (g.S.Source.left l.fn.source)) (prepend_known (pending l.self.buffer l.self.start l.self.end) (g.S.Source.left l.source)) l.line.items got
    × (l.self.reads ≤ most_reads)
    × (l.self.ended ≡ true → IsAtEnd (g.S.Source.left l.source))
    × (l.self.ended ≡ false → (l.fn.self.ended ≡ false) × TookBytes l.fn.self.reads (g.S.Source.left l.fn.source) l.self.reads (g.S.Source.left l.source))
    × CountTogether l.fn.self.reads (g.S.Source.reads l.fn.source) l.self.reads (g.S.Source.reads l.source)
    × (g.S.Source.failed l.source ≡ g.S.Source.failed l.fn.source)
    × (work l.self.reads (pending l.self.buffer l.self.start l.self.end) + length got ≤ work l.fn.self.reads (pending l.fn.self.buffer l.fn.self.start l.fn.self.end))
    × (length l.line.items ≤ 131073)

abbrev pub decreases-loop-fed : goal.decreases-loop-fed
decreases-loop-fed g l = most_reads - l.self.reads

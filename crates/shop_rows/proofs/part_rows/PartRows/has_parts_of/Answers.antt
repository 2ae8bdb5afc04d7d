use Rattle.std.proofs.Common.{◌<◌, length, sym, arith, true≢false}
use Rattle.std.proofs.lemmas.List.{length-map}
use Rattle.shop_rows.specs.PartRows.{part_of, parts_in}
use Rattle.shop_rows.proofs.Packed.{alike, apart, more_same, one_part}
use Rattle.shop_rows.proofs.part_rows.PartRows.has_parts_of.Goals as goal

pub returns-then-ne : goal.returns-then-ne
returns-then-ne c =
    let its = c.args.other.now in
    let len = length-map its.rows.items (part_of its.origins.items) in
    let within : c.loop-i.i < length (parts_in its) = omega (arith, len, c.len.ensures, c.len-2.ensures, c.len-i-end.ensures, c.if-len.false, c.loop-i-test.true) in (
      λ e. absurd (true≢false (sym e)),
      λ same. absurd (apart c.part_at.result c.part_at-in-loop-i.result c.ne.result c.ne.ensures c.if-ne.true
          (one_part (parts_in c.args.self.now) (parts_in its) c.loop-i.i c.part_at.result c.part_at-in-loop-i.result within c.part_at.ensures c.part_at-in-loop-i.ensures same)),
    )

pub loop-i-preserved : goal.loop-i-preserved
loop-i-preserved c =
    let mine = c.args.self.now in
    let its = c.args.other.now in
    let len = length-map its.rows.items (part_of its.origins.items) in
    let own = length-map mine.rows.items (part_of mine.origins.items) in
    let inside : c.loop-i.i < length (parts_in its) = omega (arith, len, c.len.ensures, c.len-2.ensures, c.len-i-end.ensures, c.if-len.false, c.loop-i-test.true) in
    let within : c.loop-i.i < length (parts_in mine) = omega (arith, own, c.len-i-end.ensures, c.loop-i-test.true) in
    more_same (parts_in mine) (parts_in its) c.loop-i.i c.part_at.result c.part_at-in-loop-i.result within inside c.part_at.ensures c.part_at-in-loop-i.ensures c.loop-i.invariant
    (alike c.part_at.result c.part_at-in-loop-i.result c.ne.result c.ne.ensures c.if-ne.false)

use Rattle.std.proofs.Common.{◌≡◌, ◌≢◌, ◌-◌, map, get_or, true, false, sym, ◌∙◌, inl, inr, arith}
use Rattle.std.proofs.lemmas.Bool.{cases_lt}
use Rattle.cut_sheets.proofs.JoinedRows.{joined_first, joined_raised, joined_skipped, joined_offered, joined_all}
use Rattle.cut_wants.proofs.NumberRows.{same_length}
use Rattle.cut_sheets.proofs.row.join_row.Goals as goal
use Rattle.cut_sheets.proofs.row.join_row.Goals.{then-raise_place, else-raise_place}

pub loop-part-init : goal.loop-part-init
loop-part-init g c = joined_first _ _ c.requires.small

pub offer_from-requires-clause-small : goal.offer_from-requires-clause-small
offer_from-requires-clause-small g c =
    let f = g.T.Number.value in
    let old = same_length f c.loop-part.row in
    let first = same_length f c.args.row.now in
    let new = same_length f c.raise_place.new.row in
    (joined_raised g.T.Number.limit (map f c.args.row.now) (map f c.loop-part.row) (map f c.raise_place.new.row) c.loop-part.part c.loop-part.invariant
    (omega arith) (omega (arith, first)) (omega (arith, old, new)) c.raise_place.ensures.at c.raise_place.ensures.others).small

pub loop-part-preserved : goal.loop-part-preserved
loop-part-preserved g c =
    let f = g.T.Number.value in
    let old = same_length f c.loop-part.row in
    let first = same_length f c.args.row.now in
    let new = same_length f c.raise_place.new.row in
    let raised = joined_raised g.T.Number.limit (map f c.args.row.now) (map f c.loop-part.row) (map f c.raise_place.new.row) c.loop-part.part c.loop-part.invariant
    (omega arith) (omega (arith, first)) (omega (arith, old, new)) c.raise_place.ensures.at c.raise_place.ensures.others in
    let near : c.loop-part.part - 1 ≢ c.loop-part.part = omega arith in
    elim c.if-raise_place.branch [
      | then-raise_place w ↦ rw w.row-is (joined_offered g.T.Number.limit (map f c.args.row.now) (map f c.raise_place.new.row) (map f w.offer_from.new.row) c.loop-part.part raised
          (omega arith) (omega (arith, first)) (omega (arith, same_length f w.offer_from.new.row, new))
          (omega (arith, c.raise_place.ensures.more.0 w.if-raise_place.true, c.raise_place.ensures.at, c.raise_place.ensures.others (c.loop-part.part - 1) near)) w.offer_from.ensures)
      | else-raise_place w ↦ rw w.row-is (joined_skipped g.T.Number.limit (map f c.args.row.now) (map f c.raise_place.new.row) c.loop-part.part raised
          (elim (cases_lt (get_or (map f c.loop-part.row) (c.loop-part.part - 1) 0) (get_or (map f c.loop-part.row) c.loop-part.part 0)) [
            | inl lt ↦ absurd (let e : true ≡ false = sym (c.raise_place.ensures.more.1 lt) ∙ w.if-raise_place.false in cc)
            | inr ge ↦ omega (arith, c.raise_place.ensures.at, c.raise_place.ensures.others (c.loop-part.part - 1) near)
          ]))
    ]

pub returns : goal.returns
returns g c = joined_all g.T.Number.limit _ _ c.loop-part.part (omega (arith, same_length g.T.Number.value c.args.row.now)) c.loop-part.invariant

use Rattle.std.proofs.Common.{◌≡◌, ◌+◌, ◌-◌, map, get_or, ap, ◌∙◌, arith}
use Rattle.std.proofs.lemmas.List.{length-take-le, map-append, get_or_append_left}
use Rattle.cut_wants.proofs.NumberRows.{same_length}
use Rattle.cut_sheets.proofs.OfferedRows.{offered_row, part_fits, take_at, next_at}
use Rattle.cut_sheets.proofs.row.offer_from.Goals as goal

pub offer_sums-requires-clause-fits : goal.offer_sums-requires-clause-fits
offer_sums-requires-clause-fits g c = λ p lt.
    let f = g.T.Number.value in
    let len = length-take-le c.min-reach.result c.split_at_mut-parts.result.1.now (omega (arith, c.split_at_mut-parts.ensures.back_len)) in
    let prefix = same_length f c.split_at_mut-parts.result.0.now in
    let at = next_at f c.split_at_mut-parts.result.0.now (c.min-reach.result + 1 - 1) p (omega (arith, len)) in
    let whole : get_or (map f c.args.row.now) (1 + p) 0 ≡ get_or (map f c.split_at_mut-parts.result.0.now) (1 + p) 0 =
    ap (λ xs. get_or (map f xs) (1 + p) 0) c.split_at_mut-parts.ensures.value
    ∙ ap (λ xs. get_or xs (1 + p) 0) (map-append f c.split_at_mut-parts.result.0.now c.split_at_mut-parts.result.1.now)
    ∙ get_or_append_left (map f c.split_at_mut-parts.result.0.now) (map f c.split_at_mut-parts.result.1.now) 0 (1 + p) (omega (arith, prefix, len, c.split_at_mut-parts.ensures.front_len)) in
    omega (arith, at, whole, part_fits f c.args.row.now g.T.Number.limit c.args.part p c.index-row-part.result c.requires.small (omega (arith, len)) c.index-row-part.is (omega (arith, len)))

pub returns : goal.returns
returns g c =
    let f = g.T.Number.value in
    let len = length-take-le c.min-reach.result c.split_at_mut-parts.result.1.now (omega (arith, c.split_at_mut-parts.ensures.back_len)) in
    offered_row f c.args.row.now c.split_at_mut-parts.result.0.now c.split_at_mut-parts.result.1.now c.offer_sums.new.places c.args.part c.min-reach.result
    c.index-row-part.result c.split_at_mut-parts.ensures.value (omega (arith, c.split_at_mut-parts.ensures.front_len)) (omega (arith, c.split_at_mut-parts.ensures.back_len)) c.index-row-part.is (omega (arith, len))
    (λ p lt. omega (
      arith,
      c.offer_sums.ensures p (omega (arith, len)),
      take_at f c.split_at_mut-parts.result.1.now c.min-reach.result p lt,
      next_at f c.split_at_mut-parts.result.0.now (c.min-reach.result + 1 - 1) p (omega arith),
    ))

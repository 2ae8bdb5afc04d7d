use Rattle.std.proofs.Common.{◌≡◌, ◌+◌, ◌-◌, ◌<◌, ◌∷◌, [], List, length, drop, subst, suc, ap, sym, ◌∙◌, arith, add-one}
use Rattle.std.proofs.Math.Seq.{drop-cons, drop-length}
use Rattle.cut_measure.specs.Names.{name_cmp}
use Rattle.shop_records.specs.declared.records.Part.{Part}
use Rattle.shop_records.specs.Content.{with_parts}
use Rattle.shop_rows.specs.Rows.{entries_of, map_of}
use Rattle.shop_rows.specs.Keys.{part_key, names_total}
use Rattle.shop_rows.specs.PartRows.{parts_in}
use Rattle.shop_book.specs.Tallies.{HaveSpareCapacity}
use Rattle.shop_book.proofs.Held.{put_is_insert}
use Rattle.shop_book.proofs.Tallied.{spares_one}
use Rattle.shop_book.proofs.memory_parts.put_one_by_one.Goals as goal

pub put_part-requires-clause-spares : goal.put_part-requires-clause-spares
put_part-requires-clause-spares c =
    let rows = c.args.rows.now in
    spares_one (length rows - c.loop-part.part-index) c.loop-part.part-index rows c.part-item.result c.loop-part.parts c.loop-part.totals c.loop-part.lists.items
    (omega (arith, c.loop-part-test.true)) c.loop-part-test.true c.part-item.is c.loop-part.invariant.spares

pub loop-part-preserved : goal.loop-part-preserved
loop-part-preserved c =
    let rows = c.args.rows.now in
    let at = c.loop-part.part-index in
    let part = c.part-item.result in
    let within : at < length rows = c.loop-part-test.true in
    let next : drop at rows ≡ part ∷ drop (at + 1) rows =
    drop-cons rows at part within ∙ ap (λ (p : Part). p ∷ drop (suc at) rows) (sym c.part-item.is) ∙ ap (λ n. part ∷ drop n rows) (sym (add-one at)) in
    let left : length rows - at ≡ (length rows - (at + 1)) + 1 = omega (arith, within) in
    record {
      known = c.put_part.ensures.known;
      tally = c.put_part.ensures.tally;
      spares = c.put_part.ensures.spares (length rows - (at + 1)) rows (subst (λ n. HaveSpareCapacity n rows c.loop-part.parts c.loop-part.totals c.loop-part.lists.items) left c.loop-part.invariant.spares);
      further = λ count more spares.
          c.put_part.ensures.spares (length rows - (at + 1) + count) more
          (subst (λ n. HaveSpareCapacity n more c.loop-part.parts c.loop-part.totals c.loop-part.lists.items) (let e : length rows - at + count ≡ length rows - (at + 1) + count + 1 = omega (arith, within) in e) (c.loop-part.invariant.further count more spares));
      rest = ap (with_parts (drop (at + 1) rows))
          (put_is_insert name_cmp names_total part.name part (entries_of part_key name_cmp (parts_in c.loop-part.parts)) (entries_of part_key name_cmp (parts_in c.put_part.new.parts)) c.loop-part.invariant.tally.rising c.put_part.ensures.put)
          ∙ ap (λ (ps : List Part). with_parts ps (map_of part_key name_cmp (parts_in c.loop-part.parts))) (sym next) ∙ c.loop-part.invariant.rest;
    }

pub returns : goal.returns
returns c =
    let rows = c.args.rows.now in
    let end : c.loop-part.part-index ≡ length rows = omega arith in
    let none : drop c.loop-part.part-index rows ≡ [] = ap (λ n. drop n rows) end ∙ drop-length rows in
    record {
      put = sym (ap (λ (ps : List Part). with_parts ps (map_of part_key name_cmp (parts_in c.loop-part.parts))) none) ∙ c.loop-part.invariant.rest;
      known = c.loop-part.invariant.known;
      tally = c.loop-part.invariant.tally;
      spares = λ count more spares.
          subst (λ n. HaveSpareCapacity n more c.loop-part.parts c.loop-part.totals c.loop-part.lists.items) (let e : length rows - c.loop-part.part-index + count ≡ count = omega (arith, end) in e) (c.loop-part.invariant.further count more spares);
    }

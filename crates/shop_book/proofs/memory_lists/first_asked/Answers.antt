use Rattle.std.proofs.Common.{◌≡◌, ◌+◌, ◌++◌, ℕ, Option, length, drop, get_or, take, sym, ap, ◌∙◌, arith}
use Rattle.std.specs.Option.{option_to_list}
use Rattle.std.proofs.lemmas.List.{get_or_default, length-append}
use Rattle.std.specs.Prelude.{filter, filter_map}
use Rattle.std.specs.Ordering.{nat_cmp}
use Rattle.shop_records.specs.declared.records.Demand.{Demand}
use Rattle.shop_records.specs.Lists.{is_asked_for}
use Rattle.shop_rows.specs.Keys.{demand_key}
use Rattle.shop_rows.specs.Rows.{row_at}
use Rattle.shop_book.proofs.Handed.{one_passes, passed_more, passed_rest, take_prefix}
use Rattle.shop_book.proofs.memory_lists.first_asked.Goals as goal

pub returns-then-most-as_slice : goal.returns-then-most-as_slice
returns-then-most-as_slice c =
    let test = λ (demand : Demand). is_asked_for c.args.asked.now demand.material in
    let at = λ (key : ℕ). row_at demand_key nat_cmp key c.args.demands.now in
    let keys = c.args.keys.now in
    let i = c.loop-key.key-index in
    let same : length c.as_slice.result.now ≡ length c.loop-key.rows = ap length c.as_slice.ensures in
    let full : c.args.most ≡ length c.loop-key.rows = omega (arith, same, c.if-most-as_slice.true, c.loop-key.invariant.1) in
    sym (ap (take c.args.most) (passed_rest at test keys i ∙ ap (λ rows. rows ++ filter test (filter_map at (drop i keys))) (sym c.loop-key.invariant.0))
    ∙ take_prefix c.args.most c.loop-key.rows (filter test (filter_map at (drop i keys))) full)

pub loop-key-preserved : goal.loop-key-preserved
loop-key-preserved c =
    let test = λ (demand : Demand). is_asked_for c.args.asked.now demand.material in
    let at = λ (key : ℕ). row_at demand_key nat_cmp key c.args.demands.now in
    let keys = c.args.keys.now in
    let i = c.loop-key.key-index in
    let key = get_or keys i 0 in
    let pushed : c.push_asked.new.rows ≡ c.loop-key.rows ++ filter test (option_to_list (at key)) =
    c.in_ok-push_asked.ensures ∙ ap (λ (found : Option Demand). c.loop-key.rows ++ filter test (option_to_list found)) c.find.ensures.row in
    let more : length c.push_asked.new.rows ≡ length c.loop-key.rows + length (filter test (option_to_list (at key))) =
    ap length pushed ∙ length-append c.loop-key.rows (filter test (option_to_list (at key))) in
    let one = one_passes test (at key) in
    let same : length c.as_slice.result.now ≡ length c.loop-key.rows = ap length c.as_slice.ensures in (
      pushed ∙ ap (λ rows. rows ++ filter test (option_to_list (at key))) c.loop-key.invariant.0
          ∙ sym (passed_more at test keys i key c.loop-key-test.true (get_or_default keys i 0 key c.loop-key-test.true)),
      omega (arith, more, one, same, c.if-most-as_slice.false),
    )

use Rattle.std.proofs.Common.{true≢false, sym, ◌∙◌, arith, rules}
use Rattle.shop_tables.proofs.AllTotals.{row_is, one_more, apart, all_read, uncoded}
use Rattle.shop_tables.proofs.listing.read_all.Goals as goal

pub returns-then-not-may_be_totals : goal.returns-then-not-may_be_totals
returns-then-not-may_be_totals c cs es codes rows = (
  tt,
  λ _. uncoded c.args.codes.now c.args.rows.now cs es codes rows c.loop-i.i c.loop-i-test.true c.if-codes-rows.false
      (λ coded. absurd (true≢false (sym (c.may_be_totals.ensures _ coded (row_is c.args.codes.now c.args.rows.now cs es codes rows c.loop-i.i c.loop-i-test.true c.if-codes-rows.false c.index-rows-i.result c.index-rows-i.is)) ∙ c.if-not-may_be_totals.true))),
)

pub returns-then-not-has_word : goal.returns-then-not-has_word
returns-then-not-has_word c cs es codes rows = (
  tt,
  λ _ _. apart c.args.codes.now c.args.rows.now cs es codes rows c.loop-i.i c.loop-i-test.true c.if-codes-rows.false c.index-codes-i.result c.in_ok-totals.totals c.index-codes-i.is
      (c.in_ok-totals.ensures _ (row_is c.args.codes.now c.args.rows.now cs es codes rows c.loop-i.i c.loop-i-test.true c.if-codes-rows.false c.index-rows-i.result c.index-rows-i.is))
      (λ has. absurd (true≢false (sym ((rw c.as_str.ensures.value at c.has_word.ensures).1 has) ∙ c.if-not-has_word.true))),
)

pub loop-i-preserved : goal.loop-i-preserved
loop-i-preserved c cs es codes rows =
    let was = c.loop-i.invariant cs es codes rows in
    let more = one_more c.args.codes.now c.args.rows.now cs es codes rows c.loop-i.i c.loop-i-test.true c.if-codes-rows.false c.index-codes-i.result c.in_ok-totals.totals c.index-codes-i.is
    (c.in_ok-totals.ensures _ (row_is c.args.codes.now c.args.rows.now cs es codes rows c.loop-i.i c.loop-i-test.true c.if-codes-rows.false c.index-rows-i.result c.index-rows-i.is))
    c.loop-i.list.items ((rw c.as_str.ensures.value at c.has_word.ensures).0 c.if-not-has_word.false) was.0 was.1 in
    (search rules ∙ more.0, more.1)

pub returns : goal.returns
returns c cs es codes rows =
    let was = c.loop-i.invariant cs es codes rows in
    (all_read c.args.codes.now c.args.rows.now cs es codes rows c.loop-i.i c.loop-i.list.items (omega (arith, c.loop-i-test.false)) c.if-codes-rows.false was.0 was.1, λ none. absurd (cc))

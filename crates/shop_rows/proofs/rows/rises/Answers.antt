use Rattle.std.proofs.Common.{◌≡◌, ◌+◌, ◌<◌, ◌-◌, get_or, ap, subst, sym, ◌∙◌, arith, add-one}
use Rattle.std.proofs.lemmas.List.{get_or_default}
use Rattle.std.specs.declared.cmp.Ordering.TheVariants.{Less}
use Rattle.shop_rows.proofs.Places.{met, no_rise, rise_by_steps}
use Rattle.shop_rows.proofs.rows.rises.Goals as goal
use Rattle.shop_rows.proofs.rows.rises.Goals.{in-Less, in_default}

pub returns : goal.returns
returns g c =
    let rows = c.args.rows.now in
    sym (met _ (rise_by_steps g.R.KeyedRow.key_of g.R.Key.RowKey.cmp g.met.R.Key.RowKey.total g.met.R.Key.RowKey.exact rows (λ k d within.
    let before : k + 1 < c.loop-i.i = omega arith in
    subst (λ n. g.R.Key.RowKey.cmp (g.R.KeyedRow.key_of (get_or rows k d)) (g.R.KeyedRow.key_of (get_or rows n d)) ≡ Less) (add-one k) (c.loop-i.invariant.1 k d before))))

pub returns-then-not-matches : goal.returns-then-not-matches
returns-then-not-matches g c =
    let rows = c.args.rows.now in
    let i = c.loop-i.i in
    let x = c.index-rows-i.result in
    let key_of = g.R.KeyedRow.key_of in
    let cmp = g.R.Key.RowKey.cmp in
    let next : c.index-rows-i-in-loop-i.result ≡ get_or rows i x = c.index-rows-i-in-loop-i.is ∙ get_or_default rows i c.index-rows-i-in-loop-i.result x c.loop-i-test.true in
    sym (no_rise key_of cmp g.met.R.Key.RowKey.total g.met.R.Key.RowKey.exact rows (i - 1) i x (omega (arith, c.loop-i.invariant.0)) c.loop-i-test.true (λ less. elim c.match-matches.branch [
      | in-Less w ↦ absurd (cc)
      | in_default w ↦
          w.in_default.not-Less (c.compare.ensures ∙ ap (λ k. cmp (key_of x) k) (c.key.ensures ∙ ap key_of next) ∙ ap (λ y. cmp (key_of y) (key_of (get_or rows i x))) c.index-rows-i.is ∙ less)
    ]))

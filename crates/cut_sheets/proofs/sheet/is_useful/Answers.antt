use Rattle.std.proofs.Common.{◌≡◌, ◌<◌, ◌-◌, length, map, get_or, true, false, Bool, not, ap, ◌∙◌, refl, subst, arith}
use Rattle.cut_wants.specs.Best.{IsBestOf}
use Rattle.std.proofs.lemmas.Grind.{same_number_lists}
use Rattle.cut_wants.proofs.NumberRows.{same_length}
use Rattle.cut_sheets.proofs.BestWorths.{best_same}
use Rattle.cut_sheets.proofs.SheetTables.{row_best, row_len}
use Rattle.cut_sheets.proofs.sheet.is_useful.Goals as goal

pub returns-else-rows-eq0-clause-no : goal.returns-else-rows-eq0-clause-no
returns-else-rows-eq0-clause-no g c = λ no_more w v wp b.
    let f = g.T.Number.value in
    let same : map f c.deref.result.now ≡ map f c.args.row.now = c.is_same.ensures.0 (yes c.is_same.result no_more) in
    let below = row_best f c.args.wants.now c.args.places c.args.rows.now _ _ _ c.requires.table c.index-rows-rows.is c.deref.ensures.value (omega arith) w wp in
    let e : get_or (map f c.deref.result.now) w 0 ≡ v = ap (λ xs. get_or xs w 0) same ∙ best_same c.args.wants.now w (length c.args.rows.now) _ v (c.requires.row.best w wp) b in
    subst (λ n. IsBestOf c.args.wants.now 0 w (length c.args.rows.now - 1) n) e below
  where
    yes : (b : Bool) → not b ≡ false → b ≡ true
    yes true is = refl
    yes false is = absurd (let e : true ≡ false = is in cc)

pub returns-else-rows-eq0-clause-yes : goal.returns-else-rows-eq0-clause-yes
returns-else-rows-eq0-clause-yes g c = λ more some all.
    let f = g.T.Number.value in
    let last = same_length f c.deref.result.now in
    let len = row_len f c.args.wants.now c.args.places c.args.rows.now _ _ c.requires.table c.index-rows-rows.is (omega arith) in
    let items = ap length c.deref.ensures.value in
    let same : map f c.deref.result.now ≡ map f c.args.row.now = same_number_lists _ _ (omega (arith, last, len, items, c.requires.row.len)) (λ w wl.
    let wp : w < c.args.places = omega (arith, last, len, items) in
    best_same c.args.wants.now w (length c.args.rows.now - 1) _ _
    (row_best f c.args.wants.now c.args.places c.args.rows.now _ _ _ c.requires.table c.index-rows-rows.is c.deref.ensures.value (omega arith) w wp)
    (all w _ wp (c.requires.row.best w wp))) in
    never c.is_same.result (c.is_same.ensures.1 same) more
  where
    never : (b : Bool) → b ≡ true → not b ≡ true → ⊥
    never true is other = let e : false ≡ true = other in cc
    never false is other = let e : false ≡ true = is in cc

use Rattle.std.proofs.Common.{◌≡◌, ◌∙◌, pos, [], ◌∷◌, Some, None, refl, sym, arith, true≢false}
use Rattle.sqlite_value.specs.declared.value.Value.TheVariants.{Int}
use Rattle.sqlite.specs.Held.{state}
use Rattle.shop_tables.proofs.InvalidRows.{shown_in}
use Rattle.shop_tables.proofs.Taken.{version_named}
use Rattle.shop_tables.proofs.adopting.adopt_version.Goals as goal

pub returns-clause-three : goal.returns-clause-three
returns-clause-three g c three is clean b was = absurd (let e : None ≡ Some (Int (pos 3) ∷ []) = rw c.in-None.is at (c.in_ok-row.ensures.row clean b was 3 refl) in cc)

pub returns-clause-two : goal.returns-clause-two
returns-clause-two g c two is clean b was = absurd (let e : None ≡ Some (Int (pos 2) ∷ []) = rw c.in-None.is at (c.in_ok-row.ensures.second clean b was 2 refl) in cc)

pub returns-clause-one : goal.returns-clause-one
returns-clause-one g c one is clean b was = absurd (let e : None ≡ Some (Int (pos 1) ∷ []) = rw c.in-None.is at (c.in_ok-row.ensures.earlier clean b was 1 refl) in cc)

pub returns-in-Some-clause-three : goal.returns-in-Some-clause-three
returns-in-Some-clause-three g c three is clean b was =
    let given : Some c.in-Some.row ≡ Some (Int (pos 3) ∷ []) = rw c.in-Some.is at (c.in_ok-row.ensures.row clean b was 3 refl) in
    let row : c.in-Some.row ≡ Int (pos 3) ∷ [] = cc in
    absurd (true≢false (sym (c.has_number.ensures.known 3 (omega (arith, three)) (omega (arith, three)) (shown_in _ _ row 0 (Int (pos 3)) (omega arith) refl)) ∙ c.if-has_number.false))

pub returns-in-Some-clause-two : goal.returns-in-Some-clause-two
returns-in-Some-clause-two g c two is clean b was =
    let given : Some c.in-Some.row ≡ Some (Int (pos 2) ∷ []) = rw c.in-Some.is at (c.in_ok-row.ensures.second clean b was 2 refl) in
    let row : c.in-Some.row ≡ Int (pos 2) ∷ [] = cc in
    absurd (true≢false (sym (c.has_number.ensures.known 2 (omega (arith, two)) (omega (arith, two)) (shown_in _ _ row 0 (Int (pos 2)) (omega arith) refl)) ∙ c.if-has_number.false))

pub returns-in-Some-clause-one : goal.returns-in-Some-clause-one
returns-in-Some-clause-one g c one is clean b was =
    let given : Some c.in-Some.row ≡ Some (Int (pos 1) ∷ []) = rw c.in-Some.is at (c.in_ok-row.ensures.earlier clean b was 1 refl) in
    let row : c.in-Some.row ≡ Int (pos 1) ∷ [] = cc in
    absurd (true≢false (sym (c.has_number.ensures.known 1 (omega (arith, one)) (omega (arith, one)) (shown_in _ _ row 0 (Int (pos 1)) (omega arith) refl)) ∙ c.if-has_number.false))

pub returns-then-has_number-clause-named : goal.returns-then-has_number-clause-named
returns-then-has_number-clause-named g c which clean =
    version_named (state g.S.Store c.args.conn.now) c.in-Some.row c.args.version (rw c.in-Some.is at (c.in_ok-row.ensures.stands clean which)) (c.has_number.ensures.shown c.if-has_number.true)

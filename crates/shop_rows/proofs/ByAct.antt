-- Rows by the acts that they are named after.
use Rattle.std.proofs.Common.{◌≡◌, ℕ, zero, suc, ◌<◌, ◌≤◌, Bool, true, false, List, [], ◌∷◌, length, map, get_or, leb, ltb, nat_eq, cond, refl, sym, ap, ◌∙◌, arith}
use Rattle.std.specs.Prelude.{filter, ◌&&◌, ◌==◌, nat_lt}
use Rattle.std.specs.List.{list_all}
use Rattle.std.proofs.lemmas.Bool.{and_parts, eqb-true, eq-eqb, le-leb, leb-false, leb-true, lt-ltb, ltb-true}
use Rattle.std.specs.declared.cmp.Ordering.{Ordering}
use Rattle.std.specs.declared.cmp.Ordering.TheVariants.{Less, Equal, Greater}
use Rattle.std.specs.Ordering.{nat_cmp, ordering_then}
use Rattle.std.specs.Cmp.{ranked}
use Rattle.cut_measure.specs.Names.{Name, name_cmp}
use Rattle.shop_records.specs.declared.records.Part.{Part}
use Rattle.shop_rows.specs.PartRows.{part_of, AreBelow}
use Rattle.shop_rows.specs.declared.part_rows.Origin.{Origin}
use Rattle.shop_rows.specs.declared.part_rows.PartRow.{PartRow}

-- names rise by their acts
acts_rise : (a b : Name) → name_cmp a b ≡ Less → a.act ≤ b.act
acts_rise a b e = by (nat_cmp a.act b.act) refl e
  where
    by : (o : Ordering) → nat_cmp a.act b.act ≡ o → ordering_then o (nat_cmp a.node b.node) ≡ Less → a.act ≤ b.act
    by Less is e = let l : a.act < b.act = ranked a.act b.act Less (sym is) in omega (arith, l)
    by Equal is e = let l : a.act ≡ b.act = ranked a.act b.act Equal (sym is) in omega (arith, l)
    by Greater is e = cc

-- what comes before a name of an earlier act, or of no later one, is so too
pub before_act : (act : ℕ) (a b : Name) → name_cmp a b ≡ Less → ltb b.act act ≡ true → ltb a.act act ≡ true
before_act act a b e passes = let le = acts_rise a b e in let less = ltb-true b.act act passes in lt-ltb a.act act (omega (arith, le, less))

pub upto_acts : (act : ℕ) (a b : Name) → name_cmp a b ≡ Less → leb b.act act ≡ true → leb a.act act ≡ true
upto_acts act a b e passes = let le = acts_rise a b e in let most = leb-true b.act act passes in le-leb a.act act (omega (arith, le, most))

-- neither earlier nor later
pub both_ways : (act n : ℕ) → (leb act n && leb n act) ≡ (n == act)
both_ways act n = by (leb act n) (leb n act) (nat_eq n act) refl refl refl
  where
    by : (a b c : Bool) → leb act n ≡ a → leb n act ≡ b → nat_eq n act ≡ c → (a && b) ≡ c
    by true true true e f g = refl
    by true true false e f g =
        let least = leb-true act n e in
        let most = leb-true n act f in
        sym (eq-eqb n act (let s : n ≡ act = omega arith in s)) ∙ g
    by true false true e f g = let same = eqb-true n act g in let more = leb-false n act f in absurd (omega arith)
    by true false false e f g = refl
    by false true true e f g = let same = eqb-true n act g in let more = leb-false act n e in absurd (omega arith)
    by false true false e f g = refl
    by false false true e f g = let same = eqb-true n act g in let more = leb-false act n e in absurd (omega arith)
    by false false false e f g = refl

-- ---- rows with their parts

pub known_passed : (n : ℕ) (p : PartRow → Bool) (rows : List PartRow) → AreBelow n rows → AreBelow n (filter p rows)
known_passed n p [] known = refl
known_passed n p (row ∷ rows) known =
    let t = and_parts (nat_lt row.origin n) (list_all (λ (r : PartRow). nat_lt r.origin n) rows) known in
    by t.0 (known_passed n p rows t.1) (p row)
  where
    by : nat_lt row.origin n ≡ true → AreBelow n (filter p rows) → (b : Bool) → AreBelow n (cond b (row ∷ filter p rows) (filter p rows))
    by first rest true = ap (λ b. b && list_all (λ (r : PartRow). nat_lt r.origin n) (filter p rows)) first ∙ rest
    by first rest false = rest

pub known_at : (n : ℕ) (rows : List PartRow) (i : ℕ) (d : PartRow) → AreBelow n rows → i < length rows → (get_or rows i d).origin < n
known_at n [] i d known within = absurd (omega arith)
known_at n (row ∷ rows) zero d known within = ltb-true row.origin n (and_parts (nat_lt row.origin n) (list_all (λ (r : PartRow). nat_lt r.origin n) rows) known).0
known_at n (row ∷ rows) (suc i) d known within =
    known_at n rows i d (and_parts (nat_lt row.origin n) (list_all (λ (r : PartRow). nat_lt r.origin n) rows) known).1 (omega (arith, within))

pub parts_passed : (origins : List Origin) (act : ℕ) (rows : List PartRow)
    → map (part_of origins) (filter (λ (row : PartRow). row.name.act == act) rows) ≡ filter (λ (part : Part). part.name.act == act) (map (part_of origins) rows)
parts_passed origins act [] = refl
parts_passed origins act (row ∷ rows) = by (parts_passed origins act rows) (row.name.act == act)
  where
    by : map (part_of origins) (filter (λ (row : PartRow). row.name.act == act) rows) ≡ filter (λ (part : Part). part.name.act == act) (map (part_of origins) rows)
        → (b : Bool) → map (part_of origins) (cond b (row ∷ filter (λ (row : PartRow). row.name.act == act) rows) (filter (λ (row : PartRow). row.name.act == act) rows))
        ≡ cond b (part_of origins row ∷ filter (λ (part : Part). part.name.act == act) (map (part_of origins) rows)) (filter (λ (part : Part). part.name.act == act) (map (part_of origins) rows))
    by rest true = ap (λ ps. part_of origins row ∷ ps) rest
    by rest false = rest

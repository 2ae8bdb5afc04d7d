use Rattle.std.proofs.Common.{lit<, ◌≡◌, ℕ, ◌^◌, ◌<◌, ◌≤◌, List, length, sym, ◌∙◌, arith}
use Rattle.std.specs.Prelude.{Option, Some, None, IfSome}
use Rattle.std.specs.Option.{SomeIff}
use Rattle.std.specs.Str.Parse.{AllDigits, digits_value}
use Rattle.std.proofs.lemmas.Bool.{eqb-false}
use Rattle.std.proofs.lemmas.Int.Digits.{digits_value-lt}
use Rattle.std.proofs.Math.Nat.{pow-le-pow_right}
use Rattle.cut_measure.specs.Lengths.{IsWholeMillimetres}
use Rattle.cut_measure.proofs.lengths.read_whole.Goals as goal

below : (ds : List ℕ) → length ds ≤ 6 → AllDigits 10 ds → digits_value 10 ds < 1000000
below ds short all = let most : 10 ^ length ds ≤ 10 ^ 6 = pow-le-pow_right (lit< tt) short in omega (arith, digits_value-lt 10 ds all, most)

whole : (r : Option ℕ) (ds : List ℕ) → 1 ≤ length ds → length ds ≤ 6 → SomeIff r (AllDigits 10 ds × (digits_value 10 ds < 2 ^ 32)) (digits_value 10 ds) →
    SomeIff r (IsWholeMillimetres ds) (digits_value 10 ds)
whole None ds some short h = λ is. h (is.2, omega (arith, below ds short is.2))
whole (Some n) ds some short h = ((some, short, h.0.0), h.1)

few : (r : Option ℕ) (ds : List ℕ) → length ds ≤ 6 → SomeIff r (AllDigits 10 ds × (digits_value 10 ds < 2 ^ 32)) (digits_value 10 ds) → IfSome r (λ n. n ≤ 999999)
few None ds short h = tt
few (Some n) ds short h = omega (arith, below ds short h.0.0, h.1)

pub returns-clause-whole : goal.returns-clause-whole
returns-clause-whole c =
    let some : length c.args.digits.now ≡ 0 → ⊥ = eqb-false (length c.args.digits.now) 0 (sym c.is_empty.ensures ∙ c.if-is_empty.false) in
    whole c.digits_value_of.result c.args.digits.now (omega (arith, some)) c.if-digits-gt6.false c.digits_value_of.ensures

pub returns-clause-few : goal.returns-clause-few
returns-clause-few c = few c.digits_value_of.result c.args.digits.now c.if-digits-gt6.false c.digits_value_of.ensures

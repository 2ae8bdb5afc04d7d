use Rattle.std.proofs.Common.{◌≡◌, ◌<◌, ◌≤◌, ◌^◌, ℕ, Option, Some, None, sym, refl, subst, rules, arith}
use Rattle.std.specs.Prelude.{IfSome}
use Rattle.std.specs.Str.Parse.{IsNumeral, digits_value, without_leading_plus}
use Rattle.clap.specs.Words.{Text, found_of, one_text}
use Rattle.clap.proofs.WalkLemmas.{one_text-rows}
use Rattle.shop_words.specs.CommandLine.{IsNumber}
use Rattle.shop_words.proofs.Asked.{one_number}
use Rattle.shop_words.proofs.values.number_of.Goals as goal

is_number : (found : Option Text) (n : ℕ) → (found ≡ None → Some n ≡ None)
    → ((text : Text) → found ≡ Some text → (IsNumeral 10 (without_leading_plus text) × (digits_value 10 (without_leading_plus text) < 2 ^ 32)) × (n ≡ digits_value 10 (without_leading_plus text)))
    → IsNumber found n
is_number None n none value = absurd (subst (λ (o : Option ℕ). IfSome o (λ _. ⊥)) (sym (none refl)) tt)
is_number (Some text) n none value = let read = value text refl in (read.0.0, sym read.1)

no_number : (found : Option Text)
    → ((text : Text) → found ≡ Some text → IsNumeral 10 (without_leading_plus text) × (digits_value 10 (without_leading_plus text) < 2 ^ 32) → ⊥)
    → (n : ℕ) → n < 2 ^ 32 → IsNumber found n → ⊥
no_number None unread n small is = is
no_number (Some text) unread n small is = unread text refl (is.0, (let same : digits_value 10 (without_leading_plus text) ≡ n = is.1 in omega (arith, same, small)))

pub returns-in_err-number : goal.returns-in_err-number
returns-in_err-number c =
    let found = found_of c.args.matches.now in
    let name = c.args.name.now in
    rw c.from_residual.ensures (λ n asked. no_number (one_text found name) (λ text e digits. (c.in_err-number.ensures.value text e).1.0 digits) n
    (let few : n ≤ c.args.most = asked.2 in omega (arith, few, c.ranges.most.fits)) (subst (λ text. IsNumber text n) (sym (one_text-rows found name)) asked.0))

pub returns-then-number-least : goal.returns-then-number-least
returns-then-number-least c = λ n asked.
    let found = found_of c.args.matches.now in
    let name = c.args.name.now in
    let number = c.in_ok-number.number in
    let under : number < c.args.least = search rules in
    let read = is_number (one_text found name) number c.in_ok-number.ensures.none (λ text e. (c.in_ok-number.ensures.value text e).0) in
    let same = one_number (one_text found name) number n read (subst (λ text. IsNumber text n) (sym (one_text-rows found name)) asked.0) in
    let many : c.args.least ≤ n = asked.1 in
    absurd (omega (arith, many, under, same))

pub returns-then-number-most : goal.returns-then-number-most
returns-then-number-most c = λ n asked.
    let found = found_of c.args.matches.now in
    let name = c.args.name.now in
    let number = c.in_ok-number.number in
    let over : c.args.most < number = search rules in
    let read = is_number (one_text found name) number c.in_ok-number.ensures.none (λ text e. (c.in_ok-number.ensures.value text e).0) in
    let same = one_number (one_text found name) number n read (subst (λ text. IsNumber text n) (sym (one_text-rows found name)) asked.0) in
    let few : n ≤ c.args.most = asked.2 in
    absurd (omega (arith, few, over, same))

pub returns : goal.returns
returns c =
    let found = found_of c.args.matches.now in
    let name = c.args.name.now in
    let number = c.in_ok-number.number in
    let read = is_number (one_text found name) number c.in_ok-number.ensures.none (λ text e. (c.in_ok-number.ensures.value text e).0) in
    (subst (λ text. IsNumber text number) (one_text-rows found name) read, search rules, search rules)

use Rattle.std.proofs.Common.{ℕ, List, length-drop, ◌≡◌, ◌∙◌, ◌≤◌, ◌-◌, [], Some, Ok, true, ap, sym, subst, refl, arith, take, drop, length, ◌++◌, append-nil}
use Rattle.std.specs.Prelude.{slice_range}
use Rattle.std.proofs.lemmas.List.{length-take}
use Rattle.httparse.specs.Spans.{IsRequestAt}
use Rattle.shop_request.specs.Reading.{parsed_head_at}
use Rattle.shop_request.specs.Requests.{asking}
use Rattle.shop_request.specs.Routes.{path_of, takes_body}
use Rattle.shop_request.proofs.After.{found_judged, read_nothing, rest_whole, parse_of_part, parse_of_body, parse_of_short}
use Rattle.shop_request.proofs.Determined.{as_it_is}
use Rattle.shop_request.proofs.requests.asked_for.Goals as goal

-- the first bytes after the head
body_is : (n : ℕ) (part rest body : List ℕ) → body ≡ slice_range part 0 n → part ≡ rest → body ≡ take n rest
body_is n part rest body is same = let none : n - 0 ≡ n = omega arith in is ∙ ap (λ k. take k part) none ∙ ap (take n) same

pub returns-then-not-takes_body-clause-determined : goal.returns-then-not-takes_body-clause-determined
returns-then-not-takes_body-clause-determined c enough more =
    let received = c.args.received.now in
    let is = c.requires.head in
    let j = found_judged received c.args.headers.now c.args.spans.now (Ok c.args.asked) c.requires.some c.requires.slots is in
    parse_of_part j (Some (received ++ more)) (Some more) refl (parsed_head_at (path_of is.1.0.target) c.args.asked) refl (sym c.takes_body.ensures ∙ c.if-not-takes_body.true) c.part_at.result.now
    (c.part_at.ensures is.1.0 (subst (λ b. IsRequestAt b c.args.headers.now c.args.spans.now is.1.0) (sym c.prefix_of.ensures) is.1.1))

pub returns-then-not-takes_body-clause-parsed : goal.returns-then-not-takes_body-clause-parsed
returns-then-not-takes_body-clause-parsed c =
    let received = c.args.received.now in
    let is = c.requires.head in
    let j = found_judged received c.args.headers.now c.args.spans.now (Ok c.args.asked) c.requires.some c.requires.slots is in
    as_it_is received (asking c.args.asked.route c.part_at.result.now) (λ more. parse_of_part j (Some (received ++ more)) (Some more) refl (parsed_head_at (path_of is.1.0.target) c.args.asked) refl (sym c.takes_body.ensures ∙ c.if-not-takes_body.true) c.part_at.result.now
    (c.part_at.ensures is.1.0 (subst (λ b. IsRequestAt b c.args.headers.now c.args.spans.now is.1.0) (sym c.prefix_of.ensures) is.1.1)))

pub slice_bounds-get-start : goal.slice_bounds-get-start
slice_bounds-get-start c = let within : c.args.spans.now.len ≤ length c.args.received.now = omega (arith, c.requires.head.0.section.len_fits, length-take 8192 c.args.received.now) in within

pub slice_bounds-get-count : goal.slice_bounds-get-count
slice_bounds-get-count c = omega (arith, c.requires.head.0.section.len_fits, length-take 8192 c.args.received.now)

pub returns-in-Some-clause-determined : goal.returns-in-Some-clause-determined
returns-in-Some-clause-determined c enough more =
    let received = c.args.received.now in
    let is = c.requires.head in
    let j = found_judged received c.args.headers.now c.args.spans.now (Ok c.args.asked) c.requires.some c.requires.slots is in
    let body : takes_body c.args.asked.route ≡ true = sym c.takes_body.ensures ∙ c.if-not-takes_body.false in
    let spans = c.args.spans.now in
    let n = c.args.asked.length in
    let whole = rest_whole spans.len received in
    let found = c.in-Some.ensures.lookup.0 in
    let long : n ≤ length received - spans.len = omega (arith, found.1, ap length whole, length-drop {A = ℕ} spans.len received) in
    let is_body : c.in-Some.body.now ≡ take n (drop spans.len received) = body_is n (take (length received - spans.len) (drop spans.len received)) (drop spans.len received) c.in-Some.body.now found.2 whole in
    parse_of_body j (Some (received ++ more)) (Some more) (Some more) refl (parsed_head_at (path_of is.1.0.target) c.args.asked) refl body received (read_nothing (Some more) received) long c.in-Some.body.now is_body

pub returns-in-Some-clause-parsed : goal.returns-in-Some-clause-parsed
returns-in-Some-clause-parsed c =
    let received = c.args.received.now in
    let is = c.requires.head in
    let j = found_judged received c.args.headers.now c.args.spans.now (Ok c.args.asked) c.requires.some c.requires.slots is in
    let body : takes_body c.args.asked.route ≡ true = sym c.takes_body.ensures ∙ c.if-not-takes_body.false in
    let spans = c.args.spans.now in
    let n = c.args.asked.length in
    let whole = rest_whole spans.len received in
    let found = c.in-Some.ensures.lookup.0 in
    let long : n ≤ length received - spans.len = omega (arith, found.1, ap length whole, length-drop {A = ℕ} spans.len received) in
    let is_body : c.in-Some.body.now ≡ take n (drop spans.len received) = body_is n (take (length received - spans.len) (drop spans.len received)) (drop spans.len received) c.in-Some.body.now found.2 whole in
    as_it_is received (asking c.args.asked.route c.in-Some.body.now)
    (λ more. parse_of_body j (Some (received ++ more)) (Some more) (Some more) refl (parsed_head_at (path_of is.1.0.target) c.args.asked) refl body received (read_nothing (Some more) received) long c.in-Some.body.now is_body)

pub returns-in-None-clause-parsed : goal.returns-in-None-clause-parsed
returns-in-None-clause-parsed c =
    let received = c.args.received.now in
    let is = c.requires.head in
    let j = found_judged received c.args.headers.now c.args.spans.now (Ok c.args.asked) c.requires.some c.requires.slots is in
    let body : takes_body c.args.asked.route ≡ true = sym c.takes_body.ensures ∙ c.if-not-takes_body.false in
    parse_of_short j (Some received) (Some []) (Some []) (sym (append-nil received)) (parsed_head_at (path_of is.1.0.target) c.args.asked) refl body received (read_nothing (Some []) received) (omega (arith, c.in-None.ensures)) refl

use Rattle.std.proofs.Common.{◌≡◌, ℕ, [], get_or, sym, ◌∙◌, arith, length, subst, refl}
use Rattle.std.proofs.lemmas.Option.{none-some}
use Rattle.csv.specs.Records.{fields_of}
use Rattle.shop_files.specs.Orders.{IsGood, FieldSays}
use Rattle.shop_files.specs.declared.orders.OrderLine.{OrderLine}
use Rattle.shop_files.proofs.Lines.{more, none_below, blank, bad_line, good_field, whole_line}
use Rattle.shop_files.proofs.orders.line_of.Goals as goal

pub returns-in_default-code_in-clause-err : goal.returns-in_default-code_in-clause-err
returns-in_default-code_in-clause-err c =
    let fields = fields_of c.args.record.now in
    let P = λ (j : ℕ). IsGood j (get_or fields j []) in
    let seven : length fields ≡ 7 = c.if-not-is_seven.ensures.0 refl in
    let below-0 = none_below P in
    let below-1 = more P 0 below-0 (good_field fields 0 c.field_of.result.now c.field_of.ensures (record blank { line = c.in-Some.line }) c.in-Some.ensures) in
    bad_line fields seven 1 c.field_of-2.result.now c.field_of-2.ensures (omega arith) (λ line e. none-some line.material (c.in_default-code_in.ensures ∙ e)) below-1

pub returns-in_default-length_in-clause-err : goal.returns-in_default-length_in-clause-err
returns-in_default-length_in-clause-err c =
    let fields = fields_of c.args.record.now in
    let P = λ (j : ℕ). IsGood j (get_or fields j []) in
    let seven : length fields ≡ 7 = c.if-not-is_seven.ensures.0 refl in
    let below-0 = none_below P in
    let below-1 = more P 0 below-0 (good_field fields 0 c.field_of.result.now c.field_of.ensures (record blank { line = c.in-Some.line }) c.in-Some.ensures) in
    let below-2 = more P 1 below-1 (good_field fields 1 c.field_of-2.result.now c.field_of-2.ensures (record blank { material = c.in-Some-code_in.material }) (sym c.in-Some-code_in.ensures)) in
    bad_line fields seven 2 c.field_of-3.result.now c.field_of-3.ensures (omega arith) (λ line. c.in_default-length_in.ensures line.w) below-2

pub returns-in_default-length_in-2-clause-err : goal.returns-in_default-length_in-2-clause-err
returns-in_default-length_in-2-clause-err c =
    let fields = fields_of c.args.record.now in
    let P = λ (j : ℕ). IsGood j (get_or fields j []) in
    let seven : length fields ≡ 7 = c.if-not-is_seven.ensures.0 refl in
    let below-0 = none_below P in
    let below-1 = more P 0 below-0 (good_field fields 0 c.field_of.result.now c.field_of.ensures (record blank { line = c.in-Some.line }) c.in-Some.ensures) in
    let below-2 = more P 1 below-1 (good_field fields 1 c.field_of-2.result.now c.field_of-2.ensures (record blank { material = c.in-Some-code_in.material }) (sym c.in-Some-code_in.ensures)) in
    let below-3 = more P 2 below-2 (good_field fields 2 c.field_of-3.result.now c.field_of-3.ensures (record blank { w = c.in-Some-length_in.w }) c.in-Some-length_in.ensures) in
    bad_line fields seven 3 c.field_of-4.result.now c.field_of-4.ensures (omega arith) (λ line. c.in_default-length_in-2.ensures line.h) below-3

pub returns-in_default-turn_in-clause-err : goal.returns-in_default-turn_in-clause-err
returns-in_default-turn_in-clause-err c =
    let fields = fields_of c.args.record.now in
    let P = λ (j : ℕ). IsGood j (get_or fields j []) in
    let seven : length fields ≡ 7 = c.if-not-is_seven.ensures.0 refl in
    let below-0 = none_below P in
    let below-1 = more P 0 below-0 (good_field fields 0 c.field_of.result.now c.field_of.ensures (record blank { line = c.in-Some.line }) c.in-Some.ensures) in
    let below-2 = more P 1 below-1 (good_field fields 1 c.field_of-2.result.now c.field_of-2.ensures (record blank { material = c.in-Some-code_in.material }) (sym c.in-Some-code_in.ensures)) in
    let below-3 = more P 2 below-2 (good_field fields 2 c.field_of-3.result.now c.field_of-3.ensures (record blank { w = c.in-Some-length_in.w }) c.in-Some-length_in.ensures) in
    let below-4 = more P 3 below-3 (good_field fields 3 c.field_of-4.result.now c.field_of-4.ensures (record blank { h = c.in-Some-length_in-2.h }) c.in-Some-length_in-2.ensures) in
    bad_line fields seven 4 c.field_of-5.result.now c.field_of-5.ensures (omega arith) (λ line. c.in_default-turn_in.ensures line.turn) below-4

pub returns-in_default-number_in-clause-err : goal.returns-in_default-number_in-clause-err
returns-in_default-number_in-clause-err c =
    let fields = fields_of c.args.record.now in
    let P = λ (j : ℕ). IsGood j (get_or fields j []) in
    let seven : length fields ≡ 7 = c.if-not-is_seven.ensures.0 refl in
    let below-0 = none_below P in
    let below-1 = more P 0 below-0 (good_field fields 0 c.field_of.result.now c.field_of.ensures (record blank { line = c.in-Some.line }) c.in-Some.ensures) in
    let below-2 = more P 1 below-1 (good_field fields 1 c.field_of-2.result.now c.field_of-2.ensures (record blank { material = c.in-Some-code_in.material }) (sym c.in-Some-code_in.ensures)) in
    let below-3 = more P 2 below-2 (good_field fields 2 c.field_of-3.result.now c.field_of-3.ensures (record blank { w = c.in-Some-length_in.w }) c.in-Some-length_in.ensures) in
    let below-4 = more P 3 below-3 (good_field fields 3 c.field_of-4.result.now c.field_of-4.ensures (record blank { h = c.in-Some-length_in-2.h }) c.in-Some-length_in-2.ensures) in
    let below-5 = more P 4 below-4 (good_field fields 4 c.field_of-5.result.now c.field_of-5.ensures (record blank { turn = c.in-Some-turn_in.turn }) c.in-Some-turn_in.ensures) in
    bad_line fields seven 5 c.field_of-6.result.now c.field_of-6.ensures (omega arith) (λ line. c.in_default-number_in.ensures line.count) below-5

pub returns-in_default-number_in-2-clause-err : goal.returns-in_default-number_in-2-clause-err
returns-in_default-number_in-2-clause-err c =
    let fields = fields_of c.args.record.now in
    let P = λ (j : ℕ). IsGood j (get_or fields j []) in
    let seven : length fields ≡ 7 = c.if-not-is_seven.ensures.0 refl in
    let below-0 = none_below P in
    let below-1 = more P 0 below-0 (good_field fields 0 c.field_of.result.now c.field_of.ensures (record blank { line = c.in-Some.line }) c.in-Some.ensures) in
    let below-2 = more P 1 below-1 (good_field fields 1 c.field_of-2.result.now c.field_of-2.ensures (record blank { material = c.in-Some-code_in.material }) (sym c.in-Some-code_in.ensures)) in
    let below-3 = more P 2 below-2 (good_field fields 2 c.field_of-3.result.now c.field_of-3.ensures (record blank { w = c.in-Some-length_in.w }) c.in-Some-length_in.ensures) in
    let below-4 = more P 3 below-3 (good_field fields 3 c.field_of-4.result.now c.field_of-4.ensures (record blank { h = c.in-Some-length_in-2.h }) c.in-Some-length_in-2.ensures) in
    let below-5 = more P 4 below-4 (good_field fields 4 c.field_of-5.result.now c.field_of-5.ensures (record blank { turn = c.in-Some-turn_in.turn }) c.in-Some-turn_in.ensures) in
    let below-6 = more P 5 below-5 (good_field fields 5 c.field_of-6.result.now c.field_of-6.ensures (record blank { count = c.in-Some-number_in.count }) c.in-Some-number_in.ensures) in
    bad_line fields seven 6 c.field_of-7.result.now c.field_of-7.ensures (omega arith) (λ line. c.in_default-number_in-2.ensures line.worth) below-6

pub returns-clause-ok : goal.returns-clause-ok
returns-clause-ok c =
    let fields = fields_of c.args.record.now in
    let seven : length fields ≡ 7 = c.if-not-is_seven.ensures.0 refl in
    let line : OrderLine = record { line = c.in-Some.line; material = c.in-Some-code_in.material; w = c.in-Some-length_in.w; h = c.in-Some-length_in-2.h; turn = c.in-Some-turn_in.turn; count = c.in-Some-number_in.count; worth = c.in-Some-number_in-2.worth } in
    let P = λ (j : ℕ). FieldSays line j (get_or fields j []) in
    let below-0 = none_below P in
    let below-1 = more P 0 below-0 (subst (FieldSays line 0) c.field_of.ensures c.in-Some.ensures) in
    let below-2 = more P 1 below-1 (subst (FieldSays line 1) c.field_of-2.ensures (sym c.in-Some-code_in.ensures)) in
    let below-3 = more P 2 below-2 (subst (FieldSays line 2) c.field_of-3.ensures c.in-Some-length_in.ensures) in
    let below-4 = more P 3 below-3 (subst (FieldSays line 3) c.field_of-4.ensures c.in-Some-length_in-2.ensures) in
    let below-5 = more P 4 below-4 (subst (FieldSays line 4) c.field_of-5.ensures c.in-Some-turn_in.ensures) in
    let below-6 = more P 5 below-5 (subst (FieldSays line 5) c.field_of-6.ensures c.in-Some-number_in.ensures) in
    let below-7 = more P 6 below-6 (subst (FieldSays line 6) c.field_of-7.ensures c.in-Some-number_in-2.ensures) in
    whole_line fields seven line below-7

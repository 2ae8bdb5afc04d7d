use Rattle.std.proofs.Common.{◌≡◌, ◌<◌, ◌∷◌, [], ◌++◌, length, sym, ◌∙◌, arith}
use Rattle.std.proofs.lemmas.Grind.{take_at_read}
use Rattle.shop_book.specs.Equal.{halt_decides}
use Rattle.shop_book.proofs.same_halts.are_same_halts.Goals as goal

pub loop-i-preserved : goal.loop-i-preserved
loop-i-preserved c =
    let i = c.loop-i.i in
    let xs = c.args.halts.now in
    let ys = c.args.others.now in
    let x = c.index-halts-i.result in
    let y = c.index-others-i.result in
    let same : x ≡ y = (halt_decides x y).0 (sym c.is_same_halt.ensures ∙ c.if-not-is_same_halt.false) in
    let inside : i < length ys = omega (arith, c.if-len-others.false, c.loop-i-test.true) in
    (take_at_read xs i x c.loop-i-test.true).1 ∙ (λ k. c.loop-i.invariant k ++ (sym c.index-halts-i.is ∙ same ∙ c.index-others-i.is) k ∷ []) ∙ sym (take_at_read ys i y inside).1

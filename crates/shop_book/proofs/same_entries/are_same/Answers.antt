use Rattle.std.proofs.Common.{◌≡◌, ◌<◌, ◌∷◌, [], ◌++◌, length, sym, ◌∙◌, arith}
use Rattle.std.proofs.lemmas.Grind.{take_at_read}
use Rattle.shop_book.specs.Equal.{entry_decides}
use Rattle.shop_book.proofs.same_entries.are_same.Goals as goal

pub loop-i-preserved : goal.loop-i-preserved
loop-i-preserved c =
    let i = c.loop-i.i in
    let xs = c.args.entries.now in
    let ys = c.args.others.now in
    let x = c.index-entries-i.result in
    let y = c.index-others-i.result in
    let same : x ≡ y = (entry_decides x y).0 (sym c.is_same.ensures ∙ c.if-not-is_same.false) in
    let inside : i < length ys = omega (arith, c.if-len-others.false, c.loop-i-test.true) in
    (take_at_read xs i x c.loop-i-test.true).1 ∙ (λ k. c.loop-i.invariant k ++ (sym c.index-entries-i.is ∙ same ∙ c.index-others-i.is) k ∷ []) ∙ sym (take_at_read ys i y inside).1

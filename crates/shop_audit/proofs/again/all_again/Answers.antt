use Rattle.std.proofs.Common.{◌≡◌, arith, refl, rules, subst}
use Rattle.std.specs.FinMap.{values}
use Rattle.std.proofs.lemmas.Result.{IfOk-weaker}
use Rattle.shop_forms.specs.Forms.{json_texts}
use Rattle.shop_audit.specs.Pages.{GoesOn}
use Rattle.shop_audit.specs.Whole.{HoldsPart}
use Rattle.shop_audit.proofs.Given.{nothing_yet}
use Rattle.shop_audit.proofs.Pages.{by_number, goes_then, here}
use Rattle.shop_audit.proofs.Steps.{looked}
use Rattle.shop_audit.proofs.again.all_again.Goals as goal

pub returns-then-entries-eq0-clause-given : goal.returns-then-entries-eq0-clause-given
returns-then-entries-eq0-clause-given g c clean m held clean_anew all =
    let none : 0 ≡ c.args.entries = search rules in
    subst (HoldsPart json_texts g.F.Book m c.args.anew.now) none (nothing_yet json_texts g.F.Book m c.args.anew.now c.requires)

pub loop-before-init : goal.loop-before-init
loop-before-init g c =
    record {
      given = λ same clean_anew clean m held w by. nothing_yet json_texts g.F.Book w c.args.anew.now c.requires;
      goes = λ same clean m held. here 0 0 (values m.entries) refl;
      most = omega arith;
      clean_disk = λ clean. clean;
      keeps = record { clean_disk = λ d. d; stays = λ d m h. h; crash = λ d m h left may. may; failures = tt };
    }

pub loop-before-preserved : goal.loop-before-preserved
loop-before-preserved g c =
    let before = c.loop-before.invariant in
    let page = c.in_ok-done.ensures in
    let kept = c.with_found-same.ensures in
    record {
      given = λ same clean_anew clean m held w by.
          page.given clean m (before.keeps.stays (page.keeps.clean_disk clean) m held) clean_anew w by
          (before.given (kept.kept same) (page.clean_disk clean_anew) (page.keeps.clean_disk clean) m held w by) (kept.found same);
      goes = λ same clean m held.
          goes_then 0 c.loop-before.before c.in_ok-done.number (values m.entries) (before.goes (kept.kept same) (page.keeps.clean_disk clean) m held)
          (page.numbers clean m (before.keeps.stays (page.keeps.clean_disk clean) m held) (kept.found same));
      most = page.on.1;
      clean_disk = λ clean. before.clean_disk (page.clean_disk clean);
      keeps = looked g.B.Book c.args.book.now c.loop-before.book c.next_again.new.book before.keeps page.keeps;
    }

pub returns-then-same-clause-given : goal.returns-then-same-clause-given
returns-then-same-clause-given g c clean m held clean_anew =
    let loop = c.loop-before.invariant in
    let last = c.all_same.ensures in
    let was = last.keeps.clean_disk clean in
    let end : c.loop-before.before ≡ c.args.entries = search rules in
    IfOk-weaker c.all_same.result _ _
    (λ all ends is.
    subst (HoldsPart json_texts g.F.Book m c.loop-before.anew) end
    (loop.given c.if-same.true clean_anew was m held m
    (by_number m c.args.entries (subst (λ n. GoesOn 0 n (values m.entries)) end (loop.goes c.if-same.true was m held)) (ends is))))
    (last.ends clean m (loop.keeps.stays was m held))

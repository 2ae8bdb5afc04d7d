use Rattle.std.proofs.Common.{◌≡◌, ◌≤◌, ◌+◌, ◌∙◌, ap, arith, length, refl, rules, subst}
use Rattle.std.proofs.lemmas.List.{take_all}
use Rattle.shop_audit.specs.Pages.{NumberedBehind}
use Rattle.shop_audit.proofs.Pages.{item_in, numbered_next}
use Rattle.shop_audit.proofs.Steps.{looked}
use Rattle.shop_audit.proofs.again.page_again.Goals as goal

pub loop-entry-init : goal.loop-entry-init
loop-entry-init g c =
    record {
      given = λ same clean_anew clean m held w alike there part. part;
      numbers = λ same. tt;
      number = omega arith;
      clean_disk = λ clean. clean;
      keeps = record { clean_disk = λ d. d; stays = λ d m h. h; crash = λ d m h left may. may; failures = tt };
    }

pub loop-entry-preserved : goal.loop-entry-preserved
loop-entry-preserved g c =
    let before = c.loop-entry.invariant in
    let one = c.in_ok-found.ensures in
    let page = c.args.page.now in
    let i = c.loop-entry.entry-index in
    let kept = c.with_found-same.ensures in
    let at : c.loop-entry.number ≡ c.args.before + i = before.number in
    record {
      given = λ same clean_anew clean m held w alike there part.
          one.given clean m (before.keeps.stays (one.keeps.clean_disk clean) m held) clean_anew w c.loop-entry.number alike (there _ (item_in page i c.entry-item.result c.loop-entry-test.true c.entry-item.is)) refl
          (before.given (kept.kept same) (one.clean_disk clean_anew) (one.keeps.clean_disk clean) m held w alike there part) (kept.found same);
      numbers = λ same.
          numbered_next c.args.before page i c.entry-item.result c.loop-entry-test.true c.entry-item.is (before.numbers (kept.kept same)) (one.number (kept.found same) ∙ ap (λ n. n + 1) at);
      number = omega (arith, at);
      clean_disk = λ clean. before.clean_disk (one.clean_disk clean);
      keeps = looked g.B.Book c.args.book.now c.loop-entry.book c.is_again.new.book before.keeps one.keeps;
    }

pub returns-clause-given : goal.returns-clause-given
returns-clause-given g c clean m held clean_anew w alike there part same =
    c.loop-entry.invariant.given (c.found_of.ensures same) clean_anew clean m held w alike there part

pub returns-clause-numbers : goal.returns-clause-numbers
returns-clause-numbers g c same =
    let page = c.args.page.now in
    let i = c.loop-entry.entry-index in
    let all : length page ≤ i = let h = c.loop-entry-test.false in omega (arith, h) in
    (subst (NumberedBehind c.args.before) (take_all i page all) (c.loop-entry.invariant.numbers (c.found_of.ensures same)), search rules)

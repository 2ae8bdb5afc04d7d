use Rattle.std.proofs.Common.{◌≡◌, [], ◌≤◌, ◌+◌, ◌++◌, List, arith, length, take, refl, sym, ap, subst, ◌∙◌}
use Rattle.std.specs.Prelude.{filter, ◌==◌}
use Rattle.std.proofs.lemmas.Bool.{and_parts}
use Rattle.std.proofs.lemmas.List.{append-nil, take_all}
use Rattle.shop_records.specs.Lists.{is_after, is_from}
use Rattle.shop_records.specs.declared.records.Part.{Part}
use Rattle.shop_rows.specs.PartRows.{parts_in}
use Rattle.shop_book.specs.Ledgers.{content_in}
use Rattle.shop_book.specs.Filing.{first_left}
use Rattle.shop_book.specs.Pieces.{is_asked}
use Rattle.shop_book.proofs.ReportedPieces.{all_left, is_left, none_left, taken_few, taken_full, reported_next}
use Rattle.shop_book.proofs.ledger.Ledger.asked_pieces.Goals as goal

pub loop-lines-init : goal.loop-lines-init
loop-lines-init c =
    let book = c.args.self.now in
    let asked = is_asked (content_in book) c.args.asked.now in
    let parts = parts_in book.parts in
    let most = c.args.asked.now.most in
    let from = first_left c.act_before-last.result in
    let none : length c.new-rows.result ≡ 0 = ap length c.new-rows.ensures in
    record {
      few = omega (arith, none);
      reported =
          ap (λ (rows : List Part). take most (rows ++ filter (is_left asked from) parts)) c.new-rows.ensures
          ∙ ap (take most)
          (all_left asked parts book.kept_up.tally.rising from
          (λ x there e. c.act_before-last.ensures x.name (and_parts (is_from (content_in book) c.args.asked.now.of x) (is_after c.args.asked.now.after x.name) e).1));
    }

pub returns-in_default : goal.returns-in_default
returns-in_default c =
    let book = c.args.self.now in
    let asked = is_asked (content_in book) c.args.asked.now in
    let parts = parts_in book.parts in
    let most = c.args.asked.now.most in
    let rows = c.loop-lines.rows in
    let from = first_left c.loop-lines.last in
    let ends : filter (is_left asked from) parts ≡ [] =
    none_left asked parts book.kept_up.tally.rising from
    (λ x there e left.
    c.in_default.ensures.none x.name.act left
    (record { part = x; among = there; from = (and_parts (is_from (content_in book) c.args.asked.now.of x) (is_after c.args.asked.now.after x.name) e).0; own = refl })) in
    sym (take_all most rows c.loop-lines.invariant.few) ∙ ap (take most) (sym (append-nil rows))
    ∙ ap (λ (left : List Part). take most (rows ++ left)) (sym ends) ∙ c.loop-lines.invariant.reported

pub loop-lines-preserved : goal.loop-lines-preserved
loop-lines-preserved c =
    let book = c.args.self.now in
    let asked = is_asked (content_in book) c.args.asked.now in
    let parts = parts_in book.parts in
    let most = c.args.asked.now.most in
    let rows = c.loop-lines.rows in
    let act = c.in-Some.act in
    let own = filter asked (filter (λ (part : Part). part.name.act == act) parts) in
    record {
      few = subst (λ (rs : List Part). length rs ≤ most) (sym c.in_ok-push_act.ensures) (taken_few most (rows ++ own));
      reported =
          ap (λ (rs : List Part). take most (rs ++ filter (is_left asked (act + 1)) parts)) c.in_ok-push_act.ensures
          ∙ reported_next asked parts book.kept_up.tally.rising most (first_left c.loop-lines.last) act rows c.in-Some.ensures.left
          (λ x there e left.
          c.in-Some.ensures.none x.name.act left
          (record { part = x; among = there; from = (and_parts (is_from (content_in book) c.args.asked.now.of x) (is_after c.args.asked.now.after x.name) e).0; own = refl }))
          ∙ c.loop-lines.invariant.reported;
    }

pub returns : goal.returns
returns c =
    let book = c.args.self.now in
    let asked = is_asked (content_in book) c.args.asked.now in
    let rows = c.loop-lines.rows in
    let same : length c.as_slice.result.now ≡ length rows = ap length c.as_slice.ensures in
    let full : length rows ≡ c.args.asked.now.most = omega (arith, same, c.loop-lines.invariant.few, c.loop-lines-test.false) in
    sym (taken_full c.args.asked.now.most rows (filter (is_left asked (first_left c.loop-lines.last)) (parts_in book.parts)) full) ∙ c.loop-lines.invariant.reported

use Rattle.std.proofs.Common.{◌<◌, ap, sym, rules, length, ◌∙◌, subst}
use Rattle.std.specs.Prelude.{All}
use Rattle.std.proofs.lemmas.List.{get_or_default, take_all}
use Rattle.std.proofs.lemmas.List.Elements.{All-more}
use Rattle.shop_records.specs.Messages.{refusal_in}
use Rattle.shop_opening.specs.Shops.{IsAccepted}
use Rattle.shop_opening.proofs.shops.first_refused.Goals as goal

pub returns-in-Some : goal.returns-in-Some
returns-in-Some c =
    let within : c.loop-i.i < length c.args.replies.now = search rules in
    record {
      at = c.loop-i.i;
      number = search rules;
      there = within;
      refused = λ d. ap refusal_in (get_or_default c.args.replies.now c.loop-i.i d _ within ∙ sym c.index-replies-i.is) ∙ sym c.in-Some.ensures;
      before = c.loop-i.invariant;
    }

pub loop-i-preserved : goal.loop-i-preserved
loop-i-preserved c = All-more IsAccepted c.args.replies.now c.loop-i.i c.index-replies-i.result c.loop-i-test.true c.loop-i.invariant (subst IsAccepted c.index-replies-i.is (sym c.refusal_of.ensures ∙ c.in-None.is))

pub returns : goal.returns
returns c = subst (All IsAccepted) (take_all c.loop-i.i c.args.replies.now (search rules)) c.loop-i.invariant

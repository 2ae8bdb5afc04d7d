use Rattle.std.proofs.Common.{◌≡◌, ◌∙◌, List, subst}
use Rattle.std.specs.Prelude.{All}
use Rattle.shop_desk.specs.Handled.{AreHandledAt, HasRun}
use Rattle.shop_records.specs.declared.messages.Message.{Message}
use Rattle.shop_records.specs.declared.messages.Reply.{Reply}
use Rattle.shop_forms.specs.Forms.{json_texts}
use Rattle.shop_opening.specs.Shops.{IsAccepted, IsFirstRefused, shop_messages}
use Rattle.shop_opening.proofs.shops.add_shop.Goals as goal

pub returns-in-None-clause-ok : goal.returns-in-None-clause-ok
returns-in-None-clause-ok g c =
    let replies = c.in_ok-replies.replies.items in
    let said : c.deref.result.now ≡ shop_messages c.args.entries.now = c.deref.ensures.value ∙ c.in_ok-messages.ensures in (
      replies,
      subst (All IsAccepted) c.deref-2.ensures.value c.in-None.ensures,
      λ clean_disk m held sound.
          subst (λ (ms : List Message). HasRun json_texts g.B.Book c.args.book.now c.run_at.new.book m ms replies) said (c.in_ok-replies.ensures.run clean_disk m held sound),
    )

pub returns-clause-err : goal.returns-clause-err
returns-clause-err g c =
    let replies = c.in_ok-replies.replies.items in
    let said : c.deref.result.now ≡ shop_messages c.args.entries.now = c.deref.ensures.value ∙ c.in_ok-messages.ensures in (
      replies,
      subst (λ (rs : List Reply). IsFirstRefused rs c.in-Some.refused) c.deref-2.ensures.value c.in-Some.ensures,
      λ clean_disk m held sound.
          subst (λ (ms : List Message). HasRun json_texts g.B.Book c.args.book.now c.run_at.new.book m ms replies) said (c.in_ok-replies.ensures.run clean_disk m held sound),
    )

pub returns-in-None-clause-timed : goal.returns-in-None-clause-timed
returns-in-None-clause-timed g c none =
    let said : c.deref.result.now ≡ shop_messages c.args.entries.now = c.deref.ensures.value ∙ c.in_ok-messages.ensures in
    (c.in_ok-replies.replies.items, subst (λ (ms : List Message). AreHandledAt json_texts c.args.at g.B.Book c.args.book.now ms c.in_ok-replies.replies.items c.run_at.new.book) said c.in_ok-replies.ensures.handled)

pub returns-clause-timed : goal.returns-clause-timed
returns-clause-timed g c none =
    let said : c.deref.result.now ≡ shop_messages c.args.entries.now = c.deref.ensures.value ∙ c.in_ok-messages.ensures in
    (c.in_ok-replies.replies.items, subst (λ (ms : List Message). AreHandledAt json_texts c.args.at g.B.Book c.args.book.now ms c.in_ok-replies.replies.items c.run_at.new.book) said c.in_ok-replies.ensures.handled)

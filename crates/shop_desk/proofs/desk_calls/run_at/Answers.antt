use Rattle.std.proofs.Common.{◌≡◌, ◌<◌, ◌+◌, ◌++◌, ◌∷◌, [], List, length, take, refl, sym, ap, subst, ◌∙◌, arith}
use Rattle.std.proofs.lemmas.List.{take_more}
use Rattle.std.proofs.Math.Seq.{take-length}
use Rattle.shop_records.specs.declared.messages.Message.{Message}
use Rattle.shop_records.specs.declared.messages.Reply.{Reply}
use Rattle.shop_forms.specs.Forms.{json_texts}
use Rattle.shop_desk.specs.Handled.{AreHandledAt}
use Rattle.shop_desk.proofs.Handling.{handled_more, handled_untimed, handled_clean_disk, handled_up, handled_run}
use Rattle.shop_desk.proofs.desk_calls.run_at.Goals as goal

pub loop-message-init : goal.loop-message-init
loop-message-init g c =
    record {
      count = omega (arith, c.in_ok-replies.ensures.len);
      spare = omega (arith, c.in_ok-replies.ensures.capacity);
      handled = subst (λ (rs : List Reply). AreHandledAt json_texts c.args.at g.B.Book c.args.book.now [] rs c.args.book.now) (sym c.in_ok-replies.ensures.items) refl;
    }

pub loop-message-preserved : goal.loop-message-preserved
loop-message-preserved g c =
    let at = c.loop-message.message-index in
    let messages = c.args.messages.now in
    let message = c.message-item.result in
    let within : at < length messages = c.loop-message-test.true in
    let taken : take (at + 1) messages ≡ take at messages ++ message ∷ [] =
    take_more messages at message within ∙ ap (λ x. take at messages ++ x ∷ []) (sym c.message-item.is) in
    record {
      count = omega (arith, c.in-Ok.ensures.len);
      spare = omega (arith, c.push.ensures.capacity);
      handled = subst (λ (ms : List Message). AreHandledAt json_texts c.args.at g.B.Book c.args.book.now ms c.push.new.self.items c.handle_at-reply.new.book) (sym taken)
          (subst (λ (rs : List Reply). AreHandledAt json_texts c.args.at g.B.Book c.args.book.now (take at messages ++ message ∷ []) rs c.handle_at-reply.new.book) (sym c.in-Ok.ensures.items)
          (handled_more json_texts c.args.at g.B.Book c.args.book.now c.loop-message.book c.handle_at-reply.new.book (take at messages) c.loop-message.replies.items message c.handle_at-reply.result
          c.loop-message.invariant.handled (record {
            handled = record {
              step = c.handle_at-reply.ensures.step;
              refused = c.handle_at-reply.ensures.refused;
              is_message = c.handle_at-reply.ensures.message;
              clean_disk = c.handle_at-reply.ensures.clean_disk;
              failures = c.handle_at-reply.ensures.failures;
              store_fault = c.handle_at-reply.ensures.store_fault;
            };
            timed = c.handle_at-reply.ensures.timed;
          })));
    }

pub returns-clause-handled : goal.returns-clause-handled
returns-clause-handled g c =
    let at = c.loop-message.message-index in
    let messages = c.args.messages.now in
    let end : at ≡ length messages = omega arith in
    let whole : take at messages ≡ messages = ap (λ n. take n messages) end ∙ take-length messages in
    subst (λ (ms : List Message). AreHandledAt json_texts c.args.at g.B.Book c.args.book.now ms c.loop-message.replies.items c.loop-message.book) whole c.loop-message.invariant.handled

pub returns-clause-run : goal.returns-clause-run
returns-clause-run g c = handled_run json_texts g.B.Book c.args.book.now c.loop-message.book c.args.messages.now c.loop-message.replies.items
    (handled_untimed json_texts c.args.at g.B.Book c.args.book.now c.loop-message.book c.args.messages.now c.loop-message.replies.items (returns-clause-handled g c))

pub returns-clause-clean_disk : goal.returns-clause-clean_disk
returns-clause-clean_disk g c = handled_clean_disk json_texts g.B.Book c.args.book.now c.loop-message.book c.args.messages.now c.loop-message.replies.items
    (handled_untimed json_texts c.args.at g.B.Book c.args.book.now c.loop-message.book c.args.messages.now c.loop-message.replies.items (returns-clause-handled g c))

pub returns-clause-failures : goal.returns-clause-failures
returns-clause-failures g c = handled_up json_texts g.B.Book c.args.book.now c.loop-message.book c.args.messages.now c.loop-message.replies.items
    (handled_untimed json_texts c.args.at g.B.Book c.args.book.now c.loop-message.book c.args.messages.now c.loop-message.replies.items (returns-clause-handled g c))

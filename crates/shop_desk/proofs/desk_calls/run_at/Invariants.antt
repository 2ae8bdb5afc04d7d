use Rattle.std.proofs.Common.{◌≡◌, ◌≤◌, length, take, vec_len, vec_capacity}
use Rattle.shop_forms.specs.Forms.{json_texts}
use Rattle.shop_desk.specs.Handled.{AreHandledAt}
use Rattle.shop_desk.proofs.desk_calls.run_at.Given as goal

abbrev pub invariant-loop-message : goal.invariant-loop-message
invariant-loop-message g l =
    record {
      count : vec_len l.replies ≡ l.message-index;
      spare : length l.messages ≤ vec_capacity l.replies;
      handled : AreHandledAt json_texts l.fn.at g.B.Book l.fn.book (take l.message-index l.messages) l.replies.items l.book;
    }

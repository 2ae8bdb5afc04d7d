use Rattle.std.proofs.Common.{inr}
use Rattle.shop_commands.proofs.stored.serve_book.Goals as goal

pub returns-in-Ok-clause-ok : goal.returns-in-Ok-clause-ok
returns-in-Ok-clause-ok g c =
    record {
      mid = c.add_entries.new.book;
      shop = c.in_ok-add_entries.ensures.ok;
      reported = c.in_ok-listener.ensures.ok;
      counted = c.kept_count.new.self;
      count = c.kept_count.result;
      keeps = c.kept_count.ensures.keeps;
      dated = c.last_entry-last.new.self;
      last = c.last_entry-last.result;
      dates = c.last_entry-last.ensures.keeps;
      served = c.in-Ok.ensures.ok;
    }

pub returns-clause-err : goal.returns-clause-err
returns-clause-err g c =
    inr (inr (inr (record {
      mid = c.add_entries.new.book;
      shop = c.in_ok-add_entries.ensures.ok;
      reported = c.in_ok-listener.ensures.ok;
      counted = c.kept_count.new.self;
      count = c.kept_count.result;
      keeps = c.kept_count.ensures.keeps;
      dated = c.last_entry-last.new.self;
      last = c.last_entry-last.result;
      dates = c.last_entry-last.ensures.keeps;
      left = c.in-Err.ensures.err;
    })))

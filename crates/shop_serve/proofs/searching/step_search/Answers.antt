use Rattle.std.proofs.Common.{inl, refl, arith}
use Rattle.shop_serve.specs.Clients.{unanswered}
use Rattle.shop_serve.proofs.ServedRequests.{stays}
use Rattle.shop_serve.proofs.searching.step_search.Goals as goal

pub returns-in_default-clause-steps_search : goal.returns-in_default-clause-steps_search
returns-in_default-clause-steps_search g c = inl (c.next_task.ensures.none c.in_default.is, refl, refl, refl)

pub returns-in_default-clause-run : goal.returns-in_default-clause-run
returns-in_default-clause-run g c = stays c.args.site.now g.B.Book c.args.book.now (unanswered c.args.clients.now) (unanswered c.args.clients.now) (omega arith)

pub returns-in-GoesOn-clause-run : goal.returns-in-GoesOn-clause-run
returns-in-GoesOn-clause-run g c = stays c.args.site.now g.B.Book c.args.book.now (unanswered c.args.clients.now) (unanswered c.step_search_at.new.clients) c.step_search_at.ensures.fewer

pub returns-in-NoMemory-clause-run : goal.returns-in-NoMemory-clause-run
returns-in-NoMemory-clause-run g c = stays c.args.site.now g.B.Book c.args.book.now (unanswered c.args.clients.now) (unanswered c.step_search_at.new.clients) c.step_search_at.ensures.fewer

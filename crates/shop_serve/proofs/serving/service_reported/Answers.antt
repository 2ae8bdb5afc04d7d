use Rattle.std.proofs.Common.{sym, subst, arith}
use Rattle.std.proofs.lemmas.List.{drop_more}
use Rattle.shop_serve.specs.Clients.{AreServiced, unanswered}
use Rattle.shop_serve.proofs.ServedRequests.{stays, advances_more}
use Rattle.shop_serve.proofs.serving.service_reported.Goals as goal

pub loop-key-init : goal.loop-key-init
loop-key-init g c =
    record {
      each = λ clients book seeing run. run;
      run = stays c.args.site.now g.B.Book c.args.book.now (unanswered c.args.clients.now) (unanswered c.args.clients.now) (omega arith);
      clean_disk = λ clean_disk. clean_disk;
    }

pub loop-key-preserved : goal.loop-key-preserved
loop-key-preserved g c =
    let so_far = c.loop-key.invariant in
    let more = c.service_at.ensures in
    record {
      each = λ clients book seeing run.
          so_far.each clients book seeing (subst (λ keys. AreServiced g.C.Connection c.args.site.now g.B.Book keys c.loop-key.clients clients c.loop-key.book book (g.K.ServerClock.times c.loop-key.clock) seeing)
          (sym (drop_more c.args.keys.now c.loop-key.key-index 0 (omega (arith, c.loop-key-test.true))))
          (c.service_at.result, c.service_at.new.clients, c.service_at.new.book, g.K.ServerClock.times c.service_at.new.clock, more.at, run));
      run = advances_more c.args.site.now g.B.Book c.args.book.now c.loop-key.book c.service_at.new.book (unanswered c.args.clients.now) (unanswered c.loop-key.clients)
          (unanswered c.loop-key.clients) (unanswered c.service_at.new.clients) (unanswered c.args.clients.now) (unanswered c.service_at.new.clients) (omega arith) more.clean_disk so_far.run more.run;
      clean_disk = λ clean_disk. so_far.clean_disk (more.clean_disk clean_disk);
    }

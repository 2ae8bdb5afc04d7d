use Rattle.std.proofs.Common.{◌<◌, List, None, Option, Some, arith, subst}
use Rattle.shop_records.specs.declared.journal.Entry.{Entry}
use Rattle.shop_book.specs.FiledEntries.{IsNamedIn, IsUnderAny}
use Rattle.shop_book.specs.Filing.{PassesNone}
use Rattle.shop_book.proofs.EntriesFiled.{skips_all, skips_to}
use Rattle.shop_book.proofs.number_index.NumberIndex.next_about.Goals as goal

pub returns-in-Some : goal.returns-in-Some
returns-in-Some c = λ entries filed.
    let early : c.args.after < 4294967295 = let h = c.if-after-ge-LAST_NUMBER.false in omega (arith, h) in
    skips_to c.args.self.now c.args.about.now c.args.acts.now c.args.after entries filed early c.in-Some.number c.in-Some.ensures.named c.in-Some.ensures.worked

pub returns-in-None : goal.returns-in-None
returns-in-None c = λ entries filed.
    let early : c.args.after < 4294967295 = let h = c.if-after-ge-LAST_NUMBER.false in omega (arith, h) in
    skips_all c.args.self.now c.args.about.now c.args.acts.now c.args.after entries filed early c.in-None.ensures.named c.in-None.ensures.worked

use Rattle.std.proofs.Common.{◌≢◌, IfOk, Ok, true≢false, refl, ap, sym, ◌∙◌, subst, arith}
use Rattle.std.specs.FinMap.{values}
use Rattle.std.proofs.lemmas.Result.{IfOk-weaker}
use Rattle.sqlite.specs.Held.{state}
use Rattle.sqlite.specs.State.{HasCleanDisk}
use Rattle.shop_tables.specs.Changing.{HasSums}
use Rattle.shop_tables.specs.Visiting.{gone_through}
use Rattle.shop_tables.specs.declared.visiting.VisitEnd.TheVariants.{Invalid}
use Rattle.shop_book.specs.Ledgers.{content_in}
use Rattle.shop_store.specs.Checking.{AreSumsIn}
use Rattle.shop_store.specs.Loading.{IsLoaded, loading_in, put_part, with_each}
use Rattle.shop_store.proofs.Checked.{leaves_itself}
use Rattle.shop_store.proofs.Counting.{stopped_at}
use Rattle.shop_store.proofs.HeldEither.{either}
use Rattle.shop_store.proofs.LoadedParts.{IsVisitOf, adder_visit, all_put, held_visit, loaded_as, sums_are, sums_are_not}
use Rattle.shop_store.proofs.loading_parts.load_parts.Goals as goal

pub returns-in_err-loader-clause-leaves : goal.returns-in_err-loader-clause-leaves
returns-in_err-loader-clause-leaves g c = leaves_itself (state g.S.Store c.args.conn.now)

pub returns-in-All-clause-loaded : goal.returns-in-All-clause-loaded
returns-in-All-clause-loaded g c clean b was list =
    let old = c.in_ok-loader.loader in
    let new = c.visit_all_parts.new.visitor in
    let parts = values b.content.parts in
    let visited = gone_through c.visit_all_parts.result in
    let went = ap gone_through (c.in_ok-visit_all_parts.was ∙ ap Ok c.in-All.is) in
    let visit : IsVisitOf parts old visited new = held_visit (state g.S.Store c.args.conn.now) (state g.S.Store c.visit_all_parts.new.conn) b old new visited clean was c.visit_all_parts.ensures.visit c.visit_all_parts.ensures.second c.visit_all_parts.ensures.earlier in
    let put = all_put parts old new visited went visit in
    let added = adder_visit parts old new visited visit (λ off. absurd (true≢false (sym put.0 ∙ off))) in
    let none = c.in_ok-loader.ensures.none in
    let there = c.in_ok-loader.ensures.there in
    IfOk-weaker c.conclude.result _ _
    (loaded_as (AreSumsIn new.adder.sums.items c.args.totals.now) (HasSums b) (loading_in new) (with_each put_part parts (content_in c.args.ledger)) (sums_are b c.args.totals.now old.adder new.adder visited list none there went added)
    (sums_are_not b c.args.totals.now old.adder new.adder visited list none there went added) (put.1 ∙ ap (with_each put_part parts) c.in_ok-loader.ensures.loading))
    c.conclude.ensures

pub returns-in-Stopped-clause-loaded : goal.returns-in-Stopped-clause-loaded
returns-in-Stopped-clause-loaded g c clean b was list =
    let old = c.in_ok-loader.loader in
    let new = c.visit_all_parts.new.visitor in
    let parts = values b.content.parts in
    let visited = gone_through c.visit_all_parts.result in
    let went = ap gone_through (c.in_ok-visit_all_parts.was ∙ ap Ok c.in-Stopped.is) in
    let visit : IsVisitOf parts old visited new = held_visit (state g.S.Store c.args.conn.now) (state g.S.Store c.visit_all_parts.new.conn) b old new visited clean was c.visit_all_parts.ensures.visit c.visit_all_parts.ensures.second c.visit_all_parts.ensures.earlier in
    let none = c.in_ok-loader.ensures.none in
    let there = c.in_ok-loader.ensures.there in
    IfOk-weaker c.stopped.result _ _
    (λ loaded it.
    subst (IsLoaded (HasSums b) (with_each put_part parts (content_in c.args.ledger))) (sym it.0)
    (λ has. absurd (true≢false (sym ((stopped_at b c.args.totals.now old.adder new.adder visited list c.in_ok-loader.ensures.narrow none there went (adder_visit parts old new visited visit (λ _. it.1))).1 has)))))
    c.stopped.ensures

pub returns-in_ok-part_key_at-in-Invalid-clause-loaded : goal.returns-in_ok-part_key_at-in-Invalid-clause-loaded
returns-in_ok-part_key_at-in-Invalid-clause-loaded g c clean b was list =
    let borrowed = c.visit_all_parts.ensures in
    let before : HasCleanDisk (state g.S.Store c.visit_all_parts.new.conn) = let l = c.part_key_at.ensures.leaves.survives.clean in omega (arith, l, clean) in
    let never : IfOk c.visit_all_parts.result (λ how. how ≢ Invalid) = either was (borrowed.invalid before b) (borrowed.second_invalid before b) (borrowed.earlier_invalid before b) in
    absurd (subst (λ r. IfOk r (λ how. how ≢ Invalid)) (c.in_ok-visit_all_parts.was ∙ ap Ok c.in-Invalid.is) never refl)

use Rattle.std.proofs.Common.{◌≡◌, Some, None, inl, ap, ◌∙◌, arith}
use Rattle.std.specs.FinMap.{values}
use Rattle.sqlite.specs.Held.{state}
use Rattle.sqlite.specs.State.{HasCleanDisk}
use Rattle.shop_statements.proofs.Reading.{leaves_then}
use Rattle.shop_book.specs.Ledgers.{content_in}
use Rattle.shop_store.specs.Loading.{put_begun, put_note, with_each}
use Rattle.shop_store.proofs.Loads.{all_fit, said_loaded}
use Rattle.shop_store.proofs.loading.load_said.Goals as goal

pub returns-clause-loaded : goal.returns-clause-loaded
returns-clause-loaded g c clean b was no_begun no_notes =
    let after_begun : HasCleanDisk (state g.S.Store c.load_numbered.new.conn) = let l = c.load_notes.ensures.leaves.survives.clean in omega (arith, l, clean) in
    let begun = c.in_ok-row.ensures.loaded after_begun b (inl was) (all_fit put_begun (values b.content.begun) _) in
    let notes = c.in_ok-row-2.ensures.loaded clean b (c.load_numbered.ensures.leaves.stays b was) in (
      tt,
      notes.1 ∙ ap (with_each put_note (values b.content.notes)) begun.1 ∙ said_loaded b.content notes.2 (content_in c.args.ledger) no_begun no_notes,
    )

pub returns-in-Some-clause-loaded : goal.returns-in-Some-clause-loaded
returns-in-Some-clause-loaded g c clean b was no_begun no_notes =
    let begun = c.in_ok-row.ensures.loaded clean b (inl was) (all_fit put_begun (values b.content.begun) _) in
    absurd (let none : Some c.in-Some.row ≡ None = rw c.in-Some.is at begun.0 in cc)

pub returns-in-Some-2-clause-loaded : goal.returns-in-Some-2-clause-loaded
returns-in-Some-2-clause-loaded g c clean b was no_begun no_notes =
    let notes = c.in_ok-row-2.ensures.loaded clean b (c.load_numbered.ensures.leaves.stays b was) in
    absurd (let none : Some c.in-Some-2.row ≡ None = rw c.in-Some-2.is at notes.0 in cc)

pub returns-clause-leaves : goal.returns-clause-leaves
returns-clause-leaves g c = leaves_then _ _ _ c.load_numbered.ensures.leaves c.load_notes.ensures.leaves

-- Every history gives a well-formed content, and what is accepted on a well-formed content fits it.
use Rattle.std.proofs.Common.{◌≡◌, ◌≢◌, ◌+◌, ◌≤◌, List, [], ◌∷◌, map, refl, sym, ap, subst, ◌∙◌, arith, inl, inr, length, ℕ, true, false}
use Rattle.std.proofs.Math.Nat.{le-max_right}
use Rattle.std.specs.Prelude.{Option, Some, None, length, IsSome, IfSome, ◌⊎◌, max}
use Rattle.std.specs.Option.{option_map}
use Rattle.std.specs.FinSet as set
use Rattle.std.specs.FinMap.{get, insert, entries, get-empty, len-entries, len-empty, empty, values, nat_cmp-IsAntisymmetric}
use Rattle.std.specs.Cmp.{nat_cmp_total}
use Rattle.std.specs.Ordering.{nat_cmp, is_eq}
use Rattle.cut_measure.specs.Codes.{code_cmp}
use Rattle.cut_measure.specs.Names.{Name, IsName, name_cmp}
use Rattle.cut_tree.specs.declared.halts.Stop.TheVariants as stop
use Rattle.cut_tree.specs.Stops.{halted}
use Rattle.shop_records.specs.declared.records.TheConstants.{MAX_RECEIVED}
use Rattle.shop_records.specs.declared.records.Material.{Material}
use Rattle.shop_records.specs.declared.imports.ImportRow.{ImportRow}
use Rattle.shop_records.specs.declared.records.Part.{Part}
use Rattle.shop_records.specs.declared.records.Job.{Job}
use Rattle.shop_records.specs.declared.records.JobBegin.{JobBegin}
use Rattle.shop_records.specs.declared.notes.OrderNote.{OrderNote}
use Rattle.shop_records.specs.declared.records.State.TheVariants as state
use Rattle.shop_records.specs.declared.changes.Change.{Change}
use Rattle.shop_records.specs.declared.messages.Command.{Command}
use Rattle.shop_records.specs.declared.messages.Command.TheVariants.{AddMaterial, Receive, AddOrder, Reserve, Done, Break, Release, Scrap, GiveBack, Import, Amend, Undo, Note, Extend, Begin}
use Rattle.shop_records.specs.declared.messages.Message.{Message}
use Rattle.shop_records.specs.declared.messages.Reply.TheVariants as reply
use Rattle.shop_records.specs.declared.refusals.Refusal.TheVariants.{StoreFault}
use Rattle.shop_records.specs.declared.texts.MessageId.{MessageId}
use Rattle.shop_records.specs.declared.texts.Kept.{Kept}
use Rattle.shop_records.specs.declared.journal.Entry.{Entry as EntryRow}
use Rattle.shop_records.specs.Messages.{Texts, IsMessage, IsMade, message_id_of, IsNumber, IsCommand}
use Rattle.shop_records.specs.Readings.{Reading, plan_in}
use Rattle.shop_records.specs.Content.{Content, fresh, message_id_cmp, material_at, totals_in, AddsUp, has_order, job_at, begun_at, note_at, demands_of, of_found, kept_at, import_at, with_job, with_begun, with_note, with_order, with_import, with_entry, entry_count, last_time, changed, part_at, demand_at, material_of, totals_of, totals_for}
use Rattle.shop_machine.specs.Adding.{material_change}
use Rattle.shop_machine.specs.Machine.{Reads, refusal_of, Makes, entry_of, keeping, keeping_at, Effect, effects}
use Rattle.shop_machine.specs.History.{Entry, Gives, MayForget}
use Rattle.shop_records.specs.Notes.{is_note}
use Rattle.shop_records.specs.WellFormed.{IsWellFormed, Fits, IsKept, IsImport, IsBegun, IsNoted}
use Rattle.shop_records.proofs.Basics.{codes_total, codes_same, key_cases, get_same, get_other}
use Rattle.shop_machine.proofs.ImportingStep.{IsAccepted, accepted, import_stock, import_fits, import_reported, import_order, import_agrees}
use Rattle.shop_records.proofs.LinesKept.{order_kept, order_there}
use Rattle.shop_records.proofs.Puts.{not_both, found_one, still_there, is_known, message_ids_total, message_ids_exact}
use Rattle.shop_machine.proofs.OrderingStep.{order_of, order_stock, order_fits, order_agrees, by_order}
use Rattle.shop_machine.proofs.EndingStep.{job_waits, end_stock, end_fits, release_stock, release_fits, so_far, end_reported, end_agrees}
use Rattle.shop_machine.proofs.ReceivingStep.{receive_stock, receive_fits, receipt, receive_agrees}
use Rattle.shop_machine.proofs.ReservingStep.{reserve_stock, reserve_fits, reading, fitting, reserve_agrees}
use Rattle.shop_machine.proofs.RetiringStep.{scrap_stands, returned_stands, state_stock, state_fits, scrap_agrees, return_agrees, held_for, scraps, gives_back}
use Rattle.shop_machine.proofs.AmendingStep.{amend_in_limit, amend_stock, amend_fits, amend_agrees, amends}
use Rattle.shop_machine.proofs.ExtendingStep.{extended_of, extend_stock, extend_fits, extend_agrees, by_lines}
use Rattle.shop_machine.proofs.SayingStep.{said_stock, may_be_said, is_there, note_fits, begin_fits, note_agrees, begin_agrees, by_note, by_begin}
use Rattle.shop_machine.proofs.Undoable.{undoable}
use Rattle.shop_machine.proofs.UndoingStep.{undo_stock, undo_fits, undo_agrees}
use Rattle.shop_machine.proofs.UndoingEffect.{undoes}
use Rattle.shop_machine.proofs.Accounts.{Follows}
use Rattle.shop_machine.proofs.Steps.{AfterAll}
use Rattle.shop_machine.proofs.ReceivingEffect.{by_receipt}
use Rattle.shop_machine.proofs.ImportingEffect.{by_import}
use Rattle.shop_machine.proofs.ReservingEffect.{reserves}
use Rattle.shop_machine.proofs.EndingEffect.{ends, breaks, releases}
use Rattle.shop_machine.proofs.Grown.{IsStock, stock_of, same_stock, with_messages}
use Rattle.shop_machine.proofs.Entered.{entries_stay, no_entries_at, none_yet, entries_after, well_formed_entries, well_formed_forgotten}
use Rattle.shop_machine.proofs.AddingStep.{material_stock, material_fits, material_agrees, made_material, by_material}

-- ---- by cases on the command

fits_by : (texts : Texts) (message : Message) (m : Content) (stock : IsStock m) (used : (code : List ℕ) (row : ImportRow) → import_at m code ≡ Some row → has_order m code ≡ true) (command : Command) (read : Reading) (change : Change) → Reads texts m command read
    → refusal_of m command read ≡ None → Makes m command read change → kept_at m (message_id_of message) ≡ None → Fits m (keeping texts message change)
fits_by texts message m stock used (AddMaterial material kind kerf min_long min_short) read change reads allowed makes new =
    subst (λ (c : Change). Fits m (keeping texts message c)) (sym makes) (material_fits texts message m material kind _ stock (material_at m material) refl new)
fits_by texts message m stock used (Receive material batch w h count) read change reads allowed makes new =
    subst (λ (c : Change). Fits m (keeping texts message c)) (sym makes)
    (receive_fits m stock material batch w h count (receipt m material batch w h count read allowed) texts message new)
fits_by texts message m stock used (AddOrder order lines) read change reads allowed makes new =
    subst (λ (c : Change). Fits m (keeping texts message c)) (sym makes)
    (order_fits m stock order lines (order_of (has_order m order) (material_at m) lines (m.last_demand + 1) allowed) texts message new)
fits_by texts message m stock used (Reserve part text) read change reads allowed makes new =
    subst (λ (c : Change). Fits m (keeping texts message c)) (sym makes.4.is)
    (reserve_fits m stock part text makes.0 makes.1 makes.2 (reading texts m part text read makes.1 makes.3 reads) (fitting m part text read makes.0 makes.1 makes.2 makes.3 allowed)
    makes.4.rows makes.4.recounted texts message new)
fits_by texts message m stock used (Done number) read change reads allowed makes new =
    subst (λ (c : Change). Fits m (keeping texts message c)) (sym makes.4.is)
    (end_fits m stock number makes.0 makes.1 makes.2 makes.3 (job_waits m stop.All number makes.0 makes.3.found allowed) stop.All makes.4.laid makes.4.is_laid
    makes.4.rows makes.4.recounted texts message new)
fits_by texts message m stock used (Break number halt rest) read change reads allowed makes new =
    subst (λ (c : Change). Fits m (keeping texts message c)) (sym makes.4.is)
    (end_fits m stock number makes.0 makes.1 makes.2 makes.3 (job_waits m (halted halt rest) number makes.0 makes.3.found allowed) (halted halt rest) makes.4.laid makes.4.is_laid
    makes.4.rows makes.4.recounted texts message new)
fits_by texts message m stock used (Release number) read change reads allowed makes new =
    subst (λ (c : Change). Fits m (keeping texts message c)) (sym makes.4.is)
    (release_fits m stock number makes.0 makes.1 makes.2 makes.3 (job_waits m stop.All number makes.0 makes.3.found allowed) makes.4.rows makes.4.recounted texts message new)
fits_by texts message m stock used (Scrap part) read change reads allowed makes new =
    subst (λ (c : Change). Fits m (keeping texts message c)) (sym makes.2)
    (state_fits m stock part makes.0 makes.1 (scrap_stands (part_at m part) makes.0 (totals_for m (part_at m part)) makes.1 allowed) state.Scrap refl (λ number. refl) texts message (reply.Scrap makes.0.name) new)
fits_by texts message m stock used (GiveBack part) read change reads allowed makes new =
    subst (λ (c : Change). Fits m (keeping texts message c)) (sym makes.2)
    (state_fits m stock part makes.0 makes.1 (returned_stands (part_at m part) makes.0 (totals_for m (part_at m part)) makes.1 allowed) state.Returned refl (λ number. refl) texts message (reply.GiveBack makes.0.name) new)
fits_by texts message m stock used (Import order form text) read change reads allowed makes new =
    import_fits texts m order message form text read change stock (used order) (accepted texts m order form text read change reads allowed makes) new
fits_by texts message m stock used (Amend demand wanted) read change reads allowed makes new =
    subst (λ (c : Change). Fits m (keeping texts message c)) (sym makes.2)
    (amend_fits m stock demand makes.0 makes.1 wanted (amend_in_limit (demand_at m demand) makes.0 wanted makes.1 allowed) texts message new)
fits_by texts message m stock used (Undo number) read change reads allowed makes new =
    subst (λ (c : Change). Fits m (keeping texts message c)) (sym makes.4.is)
    (undo_fits m stock makes.0 makes.1 makes.2 makes.4.end (undoable m stock number makes.0 makes.1 makes.2 makes.3 makes.4.end makes.4.ended allowed) makes.4.rows makes.4.recounted texts message new)
fits_by texts message m stock used (Note order due text) read change reads allowed makes new =
    subst (λ (c : Change). Fits m (keeping texts message c)) (sym makes)
    (note_fits m texts message new order due text (may_be_said (has_order m order) due text allowed).0)
fits_by texts message m stock used (Extend order lines) read change reads allowed makes new =
    subst (λ (c : Change). Fits m (keeping texts message c)) (sym makes)
    (extend_fits m stock order lines (extended_of m stock order lines allowed) texts message new)
fits_by texts message m stock used (Begin number) read change reads allowed makes new =
    subst (λ (c : Change). Fits m (keeping texts message c)) (sym makes)
    (begin_fits m texts message new number (begun_at m number) (is_there (job_at m number) allowed))

stock_by : (texts : Texts) (message : Message) (m : Content) (stock : IsStock m) (command : Command) (read : Reading) (change : Change) → Reads texts m command read
    → refusal_of m command read ≡ None → Makes m command read change → IsCommand command → IsStock (changed m (keeping texts message change))
stock_by texts message m stock (AddMaterial material kind kerf min_long min_short) read change reads allowed makes is =
    subst (λ (c : Change). IsStock (changed m (keeping texts message c))) (sym makes) (material_stock texts message m material kind _ (material_at m material) refl allowed stock)
stock_by texts message m stock (Receive material batch w h count) read change reads allowed makes is =
    subst (λ (c : Change). IsStock (changed m (keeping texts message c))) (sym makes)
    (receive_stock m stock material batch w h count (receipt m material batch w h count read allowed) _ _)
stock_by texts message m stock (AddOrder order lines) read change reads allowed makes is =
    subst (λ (c : Change). IsStock (changed m (keeping texts message c))) (sym makes)
    (order_stock m stock order lines (order_of (has_order m order) (material_at m) lines (m.last_demand + 1) allowed) _ _)
stock_by texts message m stock (Reserve part text) read change reads allowed makes is =
    subst (λ (c : Change). IsStock (changed m (keeping texts message c))) (sym makes.4.is)
    (reserve_stock m stock part text makes.0 makes.1 makes.2 (reading texts m part text read makes.1 makes.3 reads) (fitting m part text read makes.0 makes.1 makes.2 makes.3 allowed)
    makes.4.rows makes.4.recounted texts message is.0)
stock_by texts message m stock (Done number) read change reads allowed makes is =
    subst (λ (c : Change). IsStock (changed m (keeping texts message c))) (sym makes.4.is)
    (end_stock m stock number makes.0 makes.1 makes.2 makes.3 (job_waits m stop.All number makes.0 makes.3.found allowed) stop.All makes.4.laid makes.4.is_laid
    makes.4.rows makes.4.recounted texts message)
stock_by texts message m stock (Break number halt rest) read change reads allowed makes is =
    subst (λ (c : Change). IsStock (changed m (keeping texts message c))) (sym makes.4.is)
    (end_stock m stock number makes.0 makes.1 makes.2 makes.3 (job_waits m (halted halt rest) number makes.0 makes.3.found allowed) (halted halt rest) makes.4.laid makes.4.is_laid
    makes.4.rows makes.4.recounted texts message)
stock_by texts message m stock (Release number) read change reads allowed makes is =
    subst (λ (c : Change). IsStock (changed m (keeping texts message c))) (sym makes.4.is)
    (release_stock m stock number makes.0 makes.1 makes.2 makes.3 (job_waits m stop.All number makes.0 makes.3.found allowed) makes.4.rows makes.4.recounted texts message)
stock_by texts message m stock (Scrap part) read change reads allowed makes is =
    subst (λ (c : Change). IsStock (changed m (keeping texts message c))) (sym makes.2)
    (state_stock m stock part makes.0 makes.1 (scrap_stands (part_at m part) makes.0 (totals_for m (part_at m part)) makes.1 allowed) state.Scrap refl (λ number. refl) texts message (reply.Scrap makes.0.name))
stock_by texts message m stock (GiveBack part) read change reads allowed makes is =
    subst (λ (c : Change). IsStock (changed m (keeping texts message c))) (sym makes.2)
    (state_stock m stock part makes.0 makes.1 (returned_stands (part_at m part) makes.0 (totals_for m (part_at m part)) makes.1 allowed) state.Returned refl (λ number. refl) texts message (reply.GiveBack makes.0.name))
stock_by texts message m stock (Import order form text) read change reads allowed makes is =
    import_stock texts m order message form text read change stock (accepted texts m order form text read change reads allowed makes)
stock_by texts message m stock (Amend demand wanted) read change reads allowed makes is =
    subst (λ (c : Change). IsStock (changed m (keeping texts message c))) (sym makes.2)
    (amend_stock m stock demand makes.0 makes.1 wanted (amend_in_limit (demand_at m demand) makes.0 wanted makes.1 allowed) texts message)
stock_by texts message m stock (Undo number) read change reads allowed makes is =
    subst (λ (c : Change). IsStock (changed m (keeping texts message c))) (sym makes.4.is)
    (undo_stock m stock makes.0 makes.1 makes.2 makes.4.end (undoable m stock number makes.0 makes.1 makes.2 makes.3 makes.4.end makes.4.ended allowed) makes.4.rows makes.4.recounted texts message)
stock_by texts message m stock (Note order due text) read change reads allowed makes is =
    subst (λ (c : Change). IsStock (changed m (keeping texts message c))) (sym makes) (said_stock (with_messages _ _ m) _ _ (same_stock m _ _ stock))
stock_by texts message m stock (Extend order lines) read change reads allowed makes is =
    subst (λ (c : Change). IsStock (changed m (keeping texts message c))) (sym makes) (extend_stock m stock order lines (extended_of m stock order lines allowed) _ _)
stock_by texts message m stock (Begin number) read change reads allowed makes is =
    subst (λ (c : Change). IsStock (changed m (keeping texts message c))) (sym makes) (said_stock (with_messages _ _ m) _ _ (same_stock m _ _ stock))

-- each terminal that has begun a job has a number
abbrev AreTerminals : Content → Type 0
AreTerminals m = (number : ℕ) (row : JobBegin) → begun_at m number ≡ Some row → IsNumber row.terminal

terminal_before : (o : Option JobBegin) → ((row : JobBegin) → o ≡ Some row → IsNumber row.terminal) → IsNumber (of_found (λ (row : JobBegin). row.terminal) o)
terminal_before None is = omega arith
terminal_before (Some row) is = is row refl

-- the reply to what is accepted is one that an accepted message can get
reported_by : (texts : Texts) (m : Content) (stock : IsStock m) (terminals : AreTerminals m) (command : Command) (read : Reading) (change : Change) → Reads texts m command read → refusal_of m command read ≡ None
    → Makes m command read change → IsCommand command → IsMade change.reply
reported_by texts m stock terminals (AddMaterial material kind kerf min_long min_short) read change reads allowed makes is =
    subst (λ (c : Change). IsMade c.reply) (sym makes) (made_material (material_at m material) material kind _ is.0)
reported_by texts m stock terminals (Receive material batch w h count) read change reads allowed makes is =
    let number = (receipt m material batch w h count read allowed).number in
    subst (λ (c : Change). IsMade c.reply) (sym makes) (omega (arith, number), is.4)
reported_by texts m stock terminals (AddOrder order lines) read change reads allowed makes is =
    let ordered = order_of (has_order m order) (material_at m) lines (m.last_demand + 1) allowed in
    let some = ordered.some in
    let few = ordered.few in
    let numbers = ordered.numbers in
    subst (λ (c : Change). IsMade c.reply) (sym makes) (omega (arith, few), omega (arith, some, numbers), is.0)
reported_by texts m stock terminals (Reserve part text) read change reads allowed makes is =
    let few = (reading texts m part text read makes.1 makes.3 reads).few_cuts in
    let number = (fitting m part text read makes.0 makes.1 makes.2 makes.3 allowed).number in
    subst (λ (c : Change). IsMade c.reply) (sym makes.4.is) (omega (arith, few), omega (arith, number))
reported_by texts m stock terminals (Done number) read change reads allowed makes is =
    subst (λ (c : Change). IsMade c.reply) (sym makes.4.is)
    (end_reported m stock number makes.0 makes.1 makes.2 makes.3 (job_waits m stop.All number makes.0 makes.3.found allowed) stop.All makes.4.laid makes.4.is_laid)
reported_by texts m stock terminals (Break number halt rest) read change reads allowed makes is =
    subst (λ (c : Change). IsMade c.reply) (sym makes.4.is)
    (end_reported m stock number makes.0 makes.1 makes.2 makes.3 (job_waits m (halted halt rest) number makes.0 makes.3.found allowed) (halted halt rest) makes.4.laid makes.4.is_laid)
reported_by texts m stock terminals (Release number) read change reads allowed makes is =
    let waits = job_waits m stop.All number makes.0 makes.3.found allowed in
    let le = so_far m stock number makes.0 makes.1 makes.2 makes.3 waits in
    let last = stock.in_range.last in
    subst (λ (c : Change). IsMade c.reply) (sym makes.4.is) (omega (arith, le, last))
reported_by texts m stock terminals (Scrap part) read change reads allowed makes is =
    subst (λ (c : Change). IsMade c.reply) (sym makes.2) (subst IsName (sym (stock.parts part makes.0 makes.1).named) is)
reported_by texts m stock terminals (GiveBack part) read change reads allowed makes is =
    subst (λ (c : Change). IsMade c.reply) (sym makes.2) (subst IsName (sym (stock.parts part makes.0 makes.1).named) is)
reported_by texts m stock terminals (Import order form text) read change reads allowed makes is =
    import_reported texts m order form text read change (accepted texts m order form text read change reads allowed makes) is.0
reported_by texts m stock terminals (Amend demand wanted) read change reads allowed makes is =
    subst (λ (c : Change). IsMade c.reply) (sym makes.2) (subst IsNumber (sym (stock.demands demand makes.0 makes.1).numbered) is.0, is.1)
reported_by texts m stock terminals (Undo number) read change reads allowed makes is =
    let j = stock.jobs number makes.0 makes.3.found in
    subst (λ (c : Change). IsMade c.reply) (sym makes.4.is) (subst IsNumber (sym j.numbered) is, j.called)
reported_by texts m stock terminals (Note order due text) read change reads allowed makes is = subst (λ (c : Change). IsMade c.reply) (sym makes) is.0
reported_by texts m stock terminals (Extend order lines) read change reads allowed makes is =
    let extended = extended_of m stock order lines allowed in
    let some = extended.more.some in
    let few = extended.few in
    let numbers = extended.more.numbers in
    subst (λ (c : Change). IsMade c.reply) (sym makes) (omega (arith, few), omega (arith, some, numbers), is.0)
reported_by texts m stock terminals (Begin number) read change reads allowed makes is =
    subst (λ (c : Change). IsMade c.reply) (sym makes) (terminal_before (begun_at m number) (terminals number), is)

-- an import is kept with the order that it makes
abbrev IsOrdered : Change → Type 0
IsOrdered change = IfSome change.import (λ row. change.order ≡ Some row.order)

ordered_by : (texts : Texts) (m : Content) (command : Command) (read : Reading) (change : Change) → Reads texts m command read → refusal_of m command read ≡ None
    → Makes m command read change → IsOrdered change
ordered_by texts m (AddMaterial material kind kerf min_long min_short) read change reads allowed makes = subst IsOrdered (sym makes) (by (material_at m material))
  where
    by : (known : Option Material) → IsOrdered (material_change known material kind (record { kerf = kerf; min_long = min_long; min_short = min_short }))
    by None = tt
    by (Some row) = tt
ordered_by texts m (Receive material batch w h count) read change reads allowed makes = subst IsOrdered (sym makes) tt
ordered_by texts m (AddOrder order lines) read change reads allowed makes = subst IsOrdered (sym makes) tt
ordered_by texts m (Reserve part text) read change reads allowed makes = subst IsOrdered (sym makes.4.is) tt
ordered_by texts m (Done number) read change reads allowed makes = subst IsOrdered (sym makes.4.is) tt
ordered_by texts m (Break number halt rest) read change reads allowed makes = subst IsOrdered (sym makes.4.is) tt
ordered_by texts m (Release number) read change reads allowed makes = subst IsOrdered (sym makes.4.is) tt
ordered_by texts m (Scrap part) read change reads allowed makes = subst IsOrdered (sym makes.2) tt
ordered_by texts m (GiveBack part) read change reads allowed makes = subst IsOrdered (sym makes.2) tt
ordered_by texts m (Import order form text) read change reads allowed makes =
    import_order texts m order form text read change (accepted texts m order form text read change reads allowed makes)
ordered_by texts m (Amend demand wanted) read change reads allowed makes = subst IsOrdered (sym makes.2) tt
ordered_by texts m (Undo number) read change reads allowed makes = subst IsOrdered (sym makes.4.is) tt
ordered_by texts m (Note order due text) read change reads allowed makes = subst IsOrdered (sym makes) tt
ordered_by texts m (Extend order lines) read change reads allowed makes = subst IsOrdered (sym makes) tt
ordered_by texts m (Begin number) read change reads allowed makes = subst IsOrdered (sym makes) tt

-- a job that is begun is there, and what is said of an order may be said of one that is there
pub record IsSaid (m : Content) (change : Change) : Type 0 where
  pub begun : IfSome change.begun (λ row. IsSome (job_at m row.job))
  pub note : IfSome change.note (λ row. (has_order m row.order ≡ true) × (is_note row.due row.text ≡ true))

said_by : (texts : Texts) (m : Content) (command : Command) (read : Reading) (change : Change) → Reads texts m command read → refusal_of m command read ≡ None
    → Makes m command read change → IsSaid m change
said_by texts m (AddMaterial material kind kerf min_long min_short) read change reads allowed makes = subst (IsSaid m) (sym makes) (by (material_at m material))
  where
    by : (known : Option Material) → IsSaid m (material_change known material kind (record { kerf = kerf; min_long = min_long; min_short = min_short }))
    by None = record { begun = tt; note = tt }
    by (Some row) = record { begun = tt; note = tt }
said_by texts m (Receive material batch w h count) read change reads allowed makes = subst (IsSaid m) (sym makes) (record { begun = tt; note = tt })
said_by texts m (AddOrder order lines) read change reads allowed makes = subst (IsSaid m) (sym makes) (record { begun = tt; note = tt })
said_by texts m (Reserve part text) read change reads allowed makes = subst (IsSaid m) (sym makes.4.is) (record { begun = tt; note = tt })
said_by texts m (Done number) read change reads allowed makes = subst (IsSaid m) (sym makes.4.is) (record { begun = tt; note = tt })
said_by texts m (Break number halt rest) read change reads allowed makes = subst (IsSaid m) (sym makes.4.is) (record { begun = tt; note = tt })
said_by texts m (Release number) read change reads allowed makes = subst (IsSaid m) (sym makes.4.is) (record { begun = tt; note = tt })
said_by texts m (Scrap part) read change reads allowed makes = subst (IsSaid m) (sym makes.2) (record { begun = tt; note = tt })
said_by texts m (GiveBack part) read change reads allowed makes = subst (IsSaid m) (sym makes.2) (record { begun = tt; note = tt })
said_by texts m (Import order form text) read change reads allowed makes = by (accepted texts m order form text read change reads allowed makes)
  where
    by : IsAccepted texts m order form text read change → IsSaid m change
    by (inl a) = subst (IsSaid m) (sym a.is) (record { begun = tt; note = tt })
    by (inr (inl a)) = subst (IsSaid m) (sym a.is) (record { begun = tt; note = tt })
    by (inr (inr a)) = subst (IsSaid m) (sym a.is) (record { begun = tt; note = tt })
said_by texts m (Amend demand wanted) read change reads allowed makes = subst (IsSaid m) (sym makes.2) (record { begun = tt; note = tt })
said_by texts m (Undo number) read change reads allowed makes = subst (IsSaid m) (sym makes.4.is) (record { begun = tt; note = tt })
said_by texts m (Note order due text) read change reads allowed makes = subst (IsSaid m) (sym makes) (record { begun = tt; note = may_be_said (has_order m order) due text allowed })
said_by texts m (Extend order lines) read change reads allowed makes = subst (IsSaid m) (sym makes) (record { begun = tt; note = tt })
said_by texts m (Begin number) read change reads allowed makes = subst (IsSaid m) (sym makes) (record { begun = is_there (job_at m number) allowed; note = tt })

-- a command's change writes no entry yet
abbrev IsUnentered : Change → Type 0
IsUnentered change = change.entry ≡ None

unentered_by : (texts : Texts) (m : Content) (command : Command) (read : Reading) (change : Change) → Reads texts m command read → refusal_of m command read ≡ None
    → Makes m command read change → IsUnentered change
unentered_by texts m (AddMaterial material kind kerf min_long min_short) read change reads allowed makes = subst IsUnentered (sym makes) (by (material_at m material))
  where
    by : (known : Option Material) → IsUnentered (material_change known material kind (record { kerf = kerf; min_long = min_long; min_short = min_short }))
    by None = refl
    by (Some row) = refl
unentered_by texts m (Receive material batch w h count) read change reads allowed makes = subst IsUnentered (sym makes) refl
unentered_by texts m (AddOrder order lines) read change reads allowed makes = subst IsUnentered (sym makes) refl
unentered_by texts m (Reserve part text) read change reads allowed makes = subst IsUnentered (sym makes.4.is) refl
unentered_by texts m (Done number) read change reads allowed makes = subst IsUnentered (sym makes.4.is) refl
unentered_by texts m (Break number halt rest) read change reads allowed makes = subst IsUnentered (sym makes.4.is) refl
unentered_by texts m (Release number) read change reads allowed makes = subst IsUnentered (sym makes.4.is) refl
unentered_by texts m (Scrap part) read change reads allowed makes = subst IsUnentered (sym makes.2) refl
unentered_by texts m (GiveBack part) read change reads allowed makes = subst IsUnentered (sym makes.2) refl
unentered_by texts m (Import order form text) read change reads allowed makes = by (accepted texts m order form text read change reads allowed makes)
  where
    by : IsAccepted texts m order form text read change → IsUnentered change
    by (inl a) = subst IsUnentered (sym a.is) refl
    by (inr (inl a)) = subst IsUnentered (sym a.is) refl
    by (inr (inr a)) = subst IsUnentered (sym a.is) refl
unentered_by texts m (Amend demand wanted) read change reads allowed makes = subst IsUnentered (sym makes.2) refl
unentered_by texts m (Undo number) read change reads allowed makes = subst IsUnentered (sym makes.4.is) refl
unentered_by texts m (Note order due text) read change reads allowed makes = subst IsUnentered (sym makes) refl
unentered_by texts m (Extend order lines) read change reads allowed makes = subst IsUnentered (sym makes) refl
unentered_by texts m (Begin number) read change reads allowed makes = subst IsUnentered (sym makes) refl

agrees_by : (texts : Texts) (m : Content) (well_formed : IsWellFormed texts m) (stock : IsStock m) (command : Command) (read : Reading) → Reads texts m command read → refusal_of m command read ≢ Some StoreFault
agrees_by texts m well_formed stock (AddMaterial material kind kerf min_long min_short) read reads = material_agrees (material_at m material) kind _
agrees_by texts m well_formed stock (Receive material batch w h count) read reads =
    let all = stock.in_range.adds_up material in
    receive_agrees (material_at m material) (totals_of m material) _ w h count (omega (arith, all))
agrees_by texts m well_formed stock (AddOrder order lines) read reads = order_agrees _ (material_at m) lines _
agrees_by texts m well_formed stock (Reserve part text) read reads =
    reserve_agrees (part_at m part) (material_of m (part_at m part)) (plan_in read) (demand_at m) (m.last_act + 1)
    (λ p there. subst (λ o. IsSome (material_of m o)) (sym there) (stock.parts part p there).known)
agrees_by texts m well_formed stock (Done number) read reads = end_agrees m stock stop.All number
agrees_by texts m well_formed stock (Break number halt rest) read reads = end_agrees m stock (halted halt rest) number
agrees_by texts m well_formed stock (Release number) read reads = end_agrees m stock stop.All number
agrees_by texts m well_formed stock (Scrap part) read reads = scrap_agrees (part_at m part) (totals_for m (part_at m part)) (held_for m stock part)
agrees_by texts m well_formed stock (GiveBack part) read reads = return_agrees (part_at m part) (totals_for m (part_at m part)) (held_for m stock part)
agrees_by texts m well_formed stock (Import order form text) read reads = import_agrees texts m order stock (λ row is. let i = well_formed.imports order row is in (i.answer, i.reports)) form text read reads
agrees_by texts m well_formed stock (Amend demand wanted) read reads = amend_agrees (demand_at m demand) wanted
agrees_by texts m well_formed stock (Undo number) read reads = undo_agrees m stock number
agrees_by texts m well_formed stock (Note order due text) read reads = note_agrees (has_order m order) due text
agrees_by texts m well_formed stock (Extend order lines) read reads = extend_agrees _ (material_at m) (demands_of m order) lines _
agrees_by texts m well_formed stock (Begin number) read reads = begin_agrees (job_at m number)

-- what it does is an account of the content that it leaves
module _ (texts : Texts) (message : Message) (earlier : List Effect) (old : Content) (well_formed : IsWellFormed texts old) (f : Follows earlier old) where
  abbrev Then : Command → Reading → Change → Type 0
  Then command read change = AfterAll texts message earlier old well_formed f (effects command read) change

  pub by_message : (command : Command) (read : Reading) (change : Change) → Reads texts old command read → refusal_of old command read ≡ None → Makes old command read change → Then command read change
  by_message (AddMaterial material kind kerf min_long min_short) read change reads allowed makes =
      subst (Then (AddMaterial material kind kerf min_long min_short) read) (sym makes)
      (by_material texts message earlier old well_formed f material kind kerf min_long min_short allowed)
  by_message (Receive material batch w h count) read change reads allowed makes =
      subst (Then (Receive material batch w h count) read) (sym makes) (by_receipt earlier old well_formed.in_range f _ _ material batch w h count)
  by_message (AddOrder order lines) read change reads allowed makes =
      subst (Then (AddOrder order lines) read) (sym makes) (by_order earlier old f _ _ order lines)
  by_message (Reserve part text) read change reads allowed makes = reserves texts message earlier old well_formed f part text read change makes.0 makes.1 makes.2 makes.3 reads makes.4
  by_message (Done done) read change reads allowed makes = ends texts message earlier old well_formed f done read change makes.0 makes.1 makes.2 allowed makes.3 makes.4
  by_message (Break done halt rest) read change reads allowed makes = breaks texts message earlier old well_formed f done halt rest read change makes.0 makes.1 makes.2 allowed makes.3 makes.4
  by_message (Release released) read change reads allowed makes = releases texts message earlier old well_formed f released read change makes.0 makes.1 makes.2 allowed makes.3 makes.4
  by_message (Scrap part) read change reads allowed makes = scraps texts message earlier old well_formed f part read change makes.0 allowed makes.1 makes.2
  by_message (GiveBack part) read change reads allowed makes = gives_back texts message earlier old well_formed f part read change makes.0 allowed makes.1 makes.2
  by_message (Import order form text) read change reads allowed makes = by_import texts message earlier old well_formed f order form text read change reads allowed makes
  by_message (Amend demand wanted) read change reads allowed makes = amends texts message earlier old well_formed f demand wanted read change makes.0 makes.1 makes.2
  by_message (Undo undone) read change reads allowed makes = undoes texts message earlier old well_formed f undone read change makes.0 makes.1 makes.2 allowed makes.3 makes.4
  by_message (Note order due text) read change reads allowed makes = subst (Then (Note order due text) read) (sym makes) (by_note texts message earlier old well_formed f order due text)
  by_message (Extend order lines) read change reads allowed makes = subst (Then (Extend order lines) read) (sym makes) (by_lines earlier old f _ _ order lines)
  by_message (Begin begun) read change reads allowed makes =
      subst (Then (Begin begun) read) (sym makes) (by_begin texts message earlier old well_formed f begun (begun_at old begun))

-- ---- what is kept

pub kept_after : (texts : Texts) (m : Content) (message : Message) (change : Change) → IsMessage message → IsMade change.reply
    → ((message_id : MessageId) (row : Kept) → kept_at m message_id ≡ Some row → IsKept texts message_id row)
    → (message_id : MessageId) (row : Kept) → kept_at (changed m (keeping texts message change)) message_id ≡ Some row → IsKept texts message_id row
kept_after texts m message change is_message reported old message_id row is =
    elim (found_one message_ids_total message_ids_exact m.kept (message_id_of message) (record { command = texts.of_message message; reply = texts.of_reply change.reply }) message_id row is) [
      | inl q ↦
          record {
            message = message;
            answer = change.reply;
            is_message = is_message;
            of_message_id = sym q.0;
            keeps = record { made = reported; command = ap (λ (row : Kept). row.command) q.1; reply = ap (λ (row : Kept). row.reply) q.1 };
          }
      | inr q ↦ old message_id row q.1
    ]

pub imports_after : (texts : Texts) (m : Content) (message : Message) (change : Change) → IsMade change.reply → IsOrdered change
    → ((code : List ℕ) (row : ImportRow) → import_at m code ≡ Some row → IsImport texts m code row)
    → (code : List ℕ) (row : ImportRow) → import_at (changed m (keeping texts message change)) code ≡ Some row → IsImport texts (changed m (keeping texts message change)) code row
imports_after texts m message change reported ordered old = by change.import refl ordered
  where
    after : Content
    after = changed m (keeping texts message change)

    reported_row : ImportRow → ImportRow
    reported_row row = record row { reply = texts.of_reply change.reply }

    earlier : (code : List ℕ) (row : ImportRow) → import_at m code ≡ Some row → IsImport texts after code row
    earlier code row is =
        let i = old code row is in
        record { ordered = order_kept m change.order code i.ordered; answer = i.answer; reports = i.reports }

    by : (o : Option ImportRow) → change.import ≡ o → IfSome o (λ row. change.order ≡ Some row.order)
        → (code : List ℕ) (row : ImportRow) → get (with_import (option_map reported_row o) m.imports) code ≡ Some row → IsImport texts after code row
    by None e of code row is = earlier code row is
    by (Some new) e of code row is =
        elim (found_one codes_total codes_same m.imports new.order (reported_row new) code row is) [
          | inl q ↦
              record {
                ordered = ap (λ o. set.contains (with_order o m.orders) code) (of ∙ ap Some (sym q.0)) ∙ order_there m code;
                answer = change.reply;
                reports = (reported, ap (λ (r : ImportRow). r.reply) q.1);
              }
          | inr q ↦ earlier code row q.1
        ]

-- each message ID that was kept is kept
pub kept_more : (texts : Texts) (m : Content) (message : Message) (change : Change) (message_id : MessageId) → IsSome (kept_at m message_id) → IsSome (kept_at (changed m (keeping texts message change)) message_id)
kept_more texts m message change message_id is = by (key_cases message_ids_total message_ids_exact message_id (message_id_of message))
  where
    row : Kept
    row = record { command = texts.of_message message; reply = texts.of_reply change.reply }

    by : ((message_id ≡ message_id_of message) × (is_eq (message_id_cmp message_id (message_id_of message)) ≡ true)) ⊎ ((message_id ≡ message_id_of message → ⊥) × (is_eq (message_id_cmp message_id (message_id_of message)) ≡ false))
        → IsSome (get (insert m.kept (message_id_of message) row) message_id)
    by (inl y) = is_known (get (insert m.kept (message_id_of message) row) message_id) row (ap (get (insert m.kept (message_id_of message) row)) y.0 ∙ get_same message_ids_total message_ids_exact m.kept (message_id_of message) row)
    by (inr n) = subst (λ (o : Option Kept). IsSome o) (sym (get_other message_ids_total message_ids_exact m.kept (message_id_of message) row message_id n.0)) is

-- the message's own message ID is kept
pub kept_now : (texts : Texts) (m : Content) (message : Message) (change : Change) → IsSome (kept_at (changed m (keeping texts message change)) (message_id_of message))
kept_now texts m message change =
    is_known (kept_at (changed m (keeping texts message change)) (message_id_of message)) (record { command = texts.of_message message; reply = texts.of_reply change.reply })
    (get_same message_ids_total message_ids_exact m.kept (message_id_of message) (record { command = texts.of_message message; reply = texts.of_reply change.reply }))

-- ---- what is said

-- jobs that were there are there
pub jobs_more : (m : Content) (job : Option Job) (number : ℕ) → IsSome (job_at m number) → IsSome (get (with_job job m.jobs) number)
jobs_more m None number h = h
jobs_more m (Some job) number h =
    elim (key_cases nat_cmp_total nat_cmp-IsAntisymmetric number job.act) [
      | inl y ↦ is_known (get (insert m.jobs job.act job) number) job (ap (get (insert m.jobs job.act job)) y.0 ∙ get_same nat_cmp_total nat_cmp-IsAntisymmetric m.jobs job.act job)
      | inr n ↦ subst (λ (o : Option Job). IsSome o) (sym (get_other nat_cmp_total nat_cmp-IsAntisymmetric m.jobs job.act job number n.0)) h
    ]

pub begun_after : (texts : Texts) (m : Content) (message : Message) (change : Change) → IsMessage message → IfSome change.begun (λ row. IsSome (job_at m row.job))
    → ((number : ℕ) (row : JobBegin) → begun_at m number ≡ Some row → IsBegun m.jobs number row)
    → (number : ℕ) (row : JobBegin) → begun_at (changed m (keeping texts message change)) number ≡ Some row → IsBegun (with_job change.job m.jobs) number row
begun_after texts m message change is_message there old = by change.begun there
  where
    begun_row : JobBegin → JobBegin
    begun_row row = record row { terminal = message.terminal }

    earlier : (number : ℕ) (row : JobBegin) → begun_at m number ≡ Some row → IsBegun (with_job change.job m.jobs) number row
    earlier number row is =
        let b = old number row is in
        record { of = b.of; found = jobs_more m change.job number b.found; terminal = b.terminal }

    by : (o : Option JobBegin) → IfSome o (λ row. IsSome (job_at m row.job))
        → (number : ℕ) (row : JobBegin) → get (with_begun (option_map begun_row o) m.begun) number ≡ Some row → IsBegun (with_job change.job m.jobs) number row
    by None there number row is = earlier number row is
    by (Some new) there number row is =
        elim (found_one nat_cmp_total nat_cmp-IsAntisymmetric m.begun new.job (begun_row new) number row is) [
          | inl q ↦
              record {
                of = ap (λ (r : JobBegin). r.job) q.1 ∙ sym q.0;
                found = jobs_more m change.job number (subst (λ n. IsSome (job_at m n)) (sym q.0) there);
                terminal = subst (λ (r : JobBegin). IsNumber r.terminal) (sym q.1) is_message.terminal;
              }
          | inr q ↦ earlier number row q.1
        ]

pub notes_after : (texts : Texts) (m : Content) (message : Message) (change : Change) → IfSome change.note (λ row. (has_order m row.order ≡ true) × (is_note row.due row.text ≡ true))
    → ((code : List ℕ) (row : OrderNote) → note_at m code ≡ Some row → IsNoted m.orders code row)
    → (code : List ℕ) (row : OrderNote) → note_at (changed m (keeping texts message change)) code ≡ Some row → IsNoted (with_order change.order m.orders) code row
notes_after texts m message change may old = by change.note may
  where
    earlier : (code : List ℕ) (row : OrderNote) → note_at m code ≡ Some row → IsNoted (with_order change.order m.orders) code row
    earlier code row is =
        let n = old code row is in
        record { of = n.of; ordered = order_kept m change.order code n.ordered; good = n.good }

    by : (o : Option OrderNote) → IfSome o (λ row. (has_order m row.order ≡ true) × (is_note row.due row.text ≡ true))
        → (code : List ℕ) (row : OrderNote) → get (with_note o m.notes) code ≡ Some row → IsNoted (with_order change.order m.orders) code row
    by None may code row is = earlier code row is
    by (Some new) may code row is =
        elim (found_one codes_total codes_same m.notes new.order new code row is) [
          | inl q ↦
              record {
                of = ap (λ (r : OrderNote). r.order) q.1 ∙ sym q.0;
                ordered = order_kept m change.order code (ap (has_order m) q.0 ∙ may.0);
                good = subst (λ (r : OrderNote). is_note r.due r.text ≡ true) (sym q.1) may.1;
              }
          | inr q ↦ earlier code row q.1
        ]

-- ---- accepted changes

-- what is accepted on a well-formed content fits it
pub fits_accepted : (texts : Texts) (m : Content) (message : Message) (read : Reading) (change : Change) → IsWellFormed texts m → Reads texts m message.command read
    → refusal_of m message.command read ≡ None → Makes m message.command read change → kept_at m (message_id_of message) ≡ None → Fits m (keeping texts message change)
fits_accepted texts m message read change well_formed reads allowed makes new =
    fits_by texts message m (stock_of texts m well_formed) (λ code row is. (well_formed.imports code row is).ordered) message.command read change reads allowed makes new

-- its reply is one that an accepted message can get
pub reports_accepted : (texts : Texts) (m : Content) (message : Message) (read : Reading) (change : Change) → IsWellFormed texts m → Reads texts m message.command read
    → refusal_of m message.command read ≡ None → Makes m message.command read change → IsMessage message → IsMade change.reply
reports_accepted texts m message read change well_formed reads allowed makes is =
    reported_by texts m (stock_of texts m well_formed) (λ number row there. (well_formed.begun number row there).terminal) message.command read change reads allowed makes is.command

-- what was kept of an import stays
pub import_kept : (m : Content) (change : Change) → Fits m change → (code : List ℕ) (row : ImportRow) → import_at m code ≡ Some row → import_at (changed m change) code ≡ Some row
import_kept m change fits code row is = by change.import fits.import
  where
    by : (o : Option ImportRow) → IfSome o (λ new. (import_at m new.order ≡ None) × (change.order ≡ Some new.order)) → get (with_import o m.imports) code ≡ Some row
    by None none = is
    by (Some new) none = still_there codes_total codes_same m.imports new.order new code row none.0 is

pub imports_kept : (texts : Texts) (m : Content) (message : Message) (read : Reading) (change : Change) → IsWellFormed texts m → Reads texts m message.command read
    → refusal_of m message.command read ≡ None → Makes m message.command read change → kept_at m (message_id_of message) ≡ None → (code : List ℕ) (row : ImportRow) → import_at m code ≡ Some row
    → import_at (changed m (keeping texts message change)) code ≡ Some row
imports_kept texts m message read change well_formed reads allowed makes new =
    import_kept m (keeping texts message change) (fits_accepted texts m message read change well_formed reads allowed makes new)

-- it leaves a well-formed content
pub well_formed_after : (texts : Texts) (m : Content) (message : Message) (read : Reading) (change : Change) → IsWellFormed texts m → Reads texts m message.command read
    → refusal_of m message.command read ≡ None → Makes m message.command read change → IsMessage message → IsWellFormed texts (changed m (keeping texts message change))
well_formed_after texts m message read change well_formed reads allowed makes is =
    let stock = stock_by texts message m (stock_of texts m well_formed) message.command read change reads allowed makes is.command in
    let reported = reports_accepted texts m message read change well_formed reads allowed makes is in
    let said = said_by texts m message.command read change reads allowed makes in
    record {
      in_range = stock.in_range;
      materials = stock.materials;
      parts = stock.parts;
      jobs = stock.jobs;
      halts = stock.halts;
      begun = begun_after texts m message change is said.begun well_formed.begun;
      notes = notes_after texts m message change said.note well_formed.notes;
      demands = stock.demands;
      lines = stock.lines;
      kept = kept_after texts m message change is reported well_formed.kept;
      imports = imports_after texts m message change reported (ordered_by texts m message.command read change reads allowed makes) well_formed.imports;
      entries = entries_stay m (changed m (keeping texts message change))
          (ap (λ (entry : Option EntryRow). with_entry entry m.entries) (unentered_by texts m message.command read change reads allowed makes))
          (kept_more texts m message change) well_formed.entries;
    }

-- ---- accepted changes with their entries

-- the entry of an accepted message
abbrev entry_at_time : (at : ℕ) → Content → Message → Change → EntryRow
entry_at_time at m message change = entry_of (entry_count m + 1) (max at (last_time m)) message change

-- what is accepted on a well-formed content fits it with its entry
pub fits_entered : (texts : Texts) (m : Content) (message : Message) (read : Reading) (change : Change) (at : ℕ) → IsWellFormed texts m → Reads texts m message.command read
    → refusal_of m message.command read ≡ None → Makes m message.command read change → kept_at m (message_id_of message) ≡ None → Fits m (keeping_at texts at m message change)
fits_entered texts m message read change at well_formed reads allowed makes new =
    let fits = fits_accepted texts m message read change well_formed reads allowed makes new in
    record {
      material = fits.material;
      parts = fits.parts;
      rising = fits.rising;
      moved = fits.moved;
      undone = fits.undone;
      apart = fits.apart;
      job = fits.job;
      halt = fits.halt;
      begun = fits.begun;
      order = fits.order;
      extended = fits.extended;
      note = fits.note;
      demands = fits.demands;
      wanted = fits.wanted;
      once = fits.once;
      lines = fits.lines;
      totals = fits.totals;
      sums = fits.sums;
      act = fits.act;
      demand = fits.demand;
      import = fits.import;
      kept = fits.kept;
      entry = record {
        next = refl;
        new = none_yet m well_formed.entries (entry_at_time at m message change) refl;
        later = le-max_right at (last_time m);
        of = refl;
      };
    }

-- and leaves a well-formed content
pub well_formed_entered : (texts : Texts) (m : Content) (message : Message) (read : Reading) (change : Change) (at : ℕ) → IsWellFormed texts m → Reads texts m message.command read
    → refusal_of m message.command read ≡ None → Makes m message.command read change → IsMessage message → IsWellFormed texts (changed m (keeping_at texts at m message change))
well_formed_entered texts m message read change at well_formed reads allowed makes is =
    let entry : EntryRow = entry_at_time at m message change in
    let after : Content = changed m (keeping_at texts at m message change) in
    well_formed_entries texts (changed m (keeping texts message change)) (insert m.entries entry.number entry) (well_formed_after texts m message read change well_formed reads allowed makes is)
    (entries_after m well_formed.entries entry refl after refl (le-max_right at (last_time m)) (kept_more texts m message change) (kept_now texts m message change))

-- its rows don't contradict each other
pub agrees : (texts : Texts) (m : Content) (message : Message) (read : Reading) → IsWellFormed texts m → Reads texts m message.command read
    → refusal_of m message.command read ≢ Some StoreFault
agrees texts m message read well_formed reads = agrees_by texts m well_formed (stock_of texts m well_formed) message.command read reads

-- ---- the start

no_parts : entries (empty {X = Part} {R = name_cmp}) ≡ []
no_parts = by (entries (empty {X = Part} {R = name_cmp})) (sym (len-entries (empty {X = Part} {R = name_cmp})) ∙ len-empty name_cmp Part)
  where
    by : (es : List (Name × Part)) → length es ≡ 0 → es ≡ []
    by [] e = refl
    by (e ∷ es) f = absurd (omega arith)

no_values : values (fresh.parts) ≡ []
no_values = ap (map (λ (e : Name × Part). e.1)) no_parts

pub fresh_well_formed : (texts : Texts) → IsWellFormed texts fresh
fresh_well_formed texts = record {
  in_range = record {
    acts = λ name part is. absurd (not_both _ part (get-empty name_cmp name) is);
    last = omega arith;
    last_demand = omega arith;
    received = λ code. subst (λ (ps : List Part). (totals_in code ps).received ≤ MAX_RECEIVED) (sym no_values) (omega arith);
    adds_up = λ code. subst (λ (ps : List Part). AddsUp (totals_in code ps)) (sym no_values) refl;
  };
  materials = λ code material is. absurd (not_both _ material (get-empty code_cmp code) is);
  parts = λ name part is. absurd (not_both _ part (get-empty name_cmp name) is);
  jobs = λ number job is. absurd (not_both _ job (get-empty nat_cmp number) is);
  halts = λ number row is. absurd (not_both _ row (get-empty nat_cmp number) is);
  begun = λ number row is. absurd (not_both _ row (get-empty nat_cmp number) is);
  notes = λ code row is. absurd (not_both _ row (get-empty code_cmp code) is);
  demands = λ number demand is. absurd (not_both _ demand (get-empty nat_cmp number) is);
  lines = λ a b one other is is_too orders lines. absurd (not_both _ one (get-empty nat_cmp a) is);
  kept = λ message_id row is. absurd (not_both _ row (get-empty message_id_cmp message_id) is);
  imports = λ code row is. absurd (not_both _ row (get-empty code_cmp code) is);
  entries = no_entries_at fresh refl;
}

-- ---- histories

-- a content that may have forgotten its entries is well-formed
pub well_formed_left : (texts : Texts) (left content : Content) → MayForget left content → IsWellFormed texts left → IsWellFormed texts content
well_formed_left texts left content (inl same) well_formed = subst (IsWellFormed texts) (sym same) well_formed
well_formed_left texts left content (inr same) well_formed = subst (IsWellFormed texts) (sym same) (well_formed_forgotten texts left well_formed)

-- every history gives a well-formed content
pub gives_well_formed : (texts : Texts) (history : List Entry) (content : Content) → Gives texts history content → IsWellFormed texts content
gives_well_formed texts [] content given = subst (IsWellFormed texts) (sym given) (fresh_well_formed texts)
gives_well_formed texts (entry ∷ earlier) content (before, answer, given, is_message, new, left, accepts, forgets) =
    well_formed_left texts left content forgets (subst (IsWellFormed texts) (sym accepts.becomes)
    (well_formed_entered texts before entry.message entry.read accepts.change accepts.at (gives_well_formed texts earlier before given) accepts.reads accepts.allowed accepts.makes is_message))

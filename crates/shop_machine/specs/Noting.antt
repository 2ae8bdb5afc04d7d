-- Noting: what is said of an order.
use Rattle.std.specs.Prelude.{ℕ, List, [], ◌∷◌, Bool, not, Option, Some}
use Rattle.shop_records.specs.declared.changes.Change.{Change}
use Rattle.shop_records.specs.declared.refusals.Refusal.{Refusal}
use Rattle.shop_records.specs.declared.refusals.Refusal.TheVariants.{NoOrder, BadNote}
use Rattle.shop_records.specs.declared.messages.Reply.TheVariants as reply
use Rattle.shop_records.specs.Notes.{is_note}
use Rattle.shop_machine.specs.Decisions.{first_of, no_change}

-- the order isn't known, or this can't be said of one
abbrev pub note_refusal : (known : Bool) → (due : ℕ) → (text : List ℕ) → Option Refusal
note_refusal known due text = first_of ((not known, NoOrder) ∷ (not (is_note due text), BadNote) ∷ [])

-- this is said of the order from now on
abbrev pub note_change : (order : List ℕ) → (due : ℕ) → (text : List ℕ) → Change
note_change order due text = record (no_change (reply.Note order)) { note = Some (record { order = order; due = due; text = text }) }

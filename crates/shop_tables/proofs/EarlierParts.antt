-- The parts that a visitor was handed of tables of version 1.
use Rattle.std.proofs.Common.{◌≡◌, Bool, [], Result, IfOk}
use Rattle.std.specs.FinMap.{values}
use Rattle.sqlite_trees.specs.declared.store.Store.{Ghosts}
use Rattle.sqlite.specs.Held.{Held, state}
use Rattle.sqlite.specs.State.{HasCleanDisk}
use Rattle.shop_records.specs.Visits.{IsVisit}
use Rattle.shop_records.specs.declared.records.Part.{Part}
use Rattle.shop_statements.specs.Earlier.{HoldsEarlier, OnBooksEarlier, ShowsEarlier, earlier_schema}
use Rattle.shop_tables.specs.Visiting.{IsBorrowed, gone_through}
use Rattle.shop_statements.specs.Shown.{Books}
use Rattle.shop_statements.specs.declared.faults.TableFault.{TableFault}
use Rattle.shop_tables.specs.declared.visiting.VisitEnd.{VisitEnd}
use Rattle.shop_tables.specs.declared.visiting.VisitEnd.TheVariants as borrowed
use Rattle.shop_tables.proofs.EarlierRows.{earlier_parts_is, sees_earlier}
use Rattle.shop_tables.proofs.Listed.{all_there_of, first_there_of, none_stranger_of, not_invalid_by, visited_by}
use Rattle.shop_tables.proofs.ListTexts.{all_parts_text}

module _ {S : Type 0} (g : Ghosts S) (old new : Held S) (before : HasCleanDisk (state g new) → HasCleanDisk (state g old)) {V : Type 0} (looks : V → Part → Bool → V → Type 0) (was now : V) where
  -- the books were held, on a disk that was clean
  abbrev Was : Books → Type 0
  Was b = HasCleanDisk (state g old) × HoldsEarlier (state g old) b

  by_held : (r : Result VisitEnd TableFault) → IsBorrowed g all_parts_text [] old looks new was r now → IsVisit looks {Fault = TableFault} (λ what. HasCleanDisk (state g new) → (b : Books) → Was b → what (values b.content.parts)) was (gone_through r) now
  by_held = visited_by g all_parts_text [] (λ b. values b.content.parts) ShowsEarlier (λ s t b has. all_there_of s earlier_schema has.schema _ earlier_parts_is b.content has.keyed has.stands.parts t)
      (λ s b has. first_there_of s earlier_schema has.schema _ earlier_parts_is b.content has.keyed has.stands.parts) old new Was (λ b w mid held. sees_earlier g all_parts_text [] old b w.0 w.1 mid held) looks was now

  pub visited_earlier : (r : Result VisitEnd TableFault) → IsBorrowed g all_parts_text [] old looks new was r now → IsVisit looks {Fault = TableFault} (λ what. OnBooksEarlier (state g old) (state g new) (λ b. what (values b.content.parts))) was (gone_through r) now
  visited_earlier r borrowed = let v = by_held r borrowed in record { parts = v.parts; on = v.on; visitor = v.visitor; answer = v.answer; begins = λ clean b held. v.begins clean b (before clean, held) }

  pub not_invalid_earlier : (r : Result VisitEnd TableFault) → IsBorrowed g all_parts_text [] old looks new was r now → OnBooksEarlier (state g old) (state g new) (λ b. IfOk r (λ how. ¬ (how ≡ borrowed.Invalid)))
  not_invalid_earlier r it clean b held =
      not_invalid_by g all_parts_text [] (λ b. values b.content.parts) ShowsEarlier (λ s t b has. all_there_of s earlier_schema has.schema _ earlier_parts_is b.content has.keyed has.stands.parts t)
      (λ s b has. first_there_of s earlier_schema has.schema _ earlier_parts_is b.content has.keyed has.stands.parts) old new Was (λ b w mid held. sees_earlier g all_parts_text [] old b w.0 w.1 mid held) looks was now r it
      (λ s b has. none_stranger_of s earlier_schema has.schema _ earlier_parts_is b.content has.keyed has.stands.parts) clean b (before clean, held)

-- Parts that are taken in turn.
use Rattle.std.proofs.Common.{◌≡◌, List, [], ◌∷◌, ◌++◌, Bool, true, false, Ok, refl, sym, ap, subst, ◌∙◌, append-nil}
use Rattle.std.proofs.lemmas.List.{append_assoc}
use Rattle.shop_records.specs.declared.records.Part.{Part}
use Rattle.shop_records.specs.Content.{rack_rows}
use Rattle.shop_records.specs.Columns.{is_whole}
use Rattle.shop_records.specs.Visits.{GoesOn, HasSeen, IsVisit}
use Rattle.shop_book.specs.declared.books.BookFault.{BookFault}
use Rattle.shop_desk.specs.declared.racks.RackTaker.{RackTaker}
use Rattle.shop_desk.specs.Racks.{TakesRack}

one_more : (part : Part) (parts : List Part) → rack_rows (part ∷ []) ++ rack_rows parts ≡ rack_rows (part ∷ parts)
one_more part parts = by (is_whole part) refl
  where
    by : (b : Bool) → is_whole part ≡ b → rack_rows (part ∷ []) ++ rack_rows parts ≡ rack_rows (part ∷ parts)
    by true e = rw e refl
    by false e = rw e refl

pub taken : (parts : List Part) (old new : RackTaker) → GoesOn TakesRack parts old new → new.parts ≡ old.parts ++ rack_rows parts
taken [] old new is = ap (λ (t : RackTaker). t.parts) (sym is) ∙ sym (append-nil old.parts)
taken (part ∷ parts) old new goes =
    taken parts goes.0 new goes.2 ∙ ap (λ rows. rows ++ rack_rows parts) goes.1 ∙ append_assoc old.parts (rack_rows (part ∷ [])) (rack_rows parts)
    ∙ ap (λ rows. old.parts ++ rows) (one_more part parts)

-- a visit that came to the end of a list took it all
pub rack_taken : (list : List Part) (says : (List Part → Type 0) → Type 0) (reported : Bool) (old new : RackTaker) → reported ≡ true → ((what : List Part → Type 0) → says what → what list)
    → IsVisit TakesRack {Fault = BookFault} says old (Ok reported) new → old.parts ≡ [] → new.parts ≡ rack_rows list
rack_taken list says reported old new went reads visit empty =
    let goes : GoesOn TakesRack visit.parts old new = subst (λ b. HasSeen TakesRack visit.parts b old new) (sym visit.answer ∙ went) visit.visitor in
    let begins = reads _ visit.begins in
    let whole : list ≡ visit.parts = begins.1 ∙ ap (λ rest. visit.parts ++ rest) (begins.2 went) ∙ append-nil visit.parts in
    taken visit.parts old new goes ∙ ap (λ rows. rows ++ rack_rows visit.parts) empty ∙ ap rack_rows (sym whole)

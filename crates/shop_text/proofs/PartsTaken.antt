-- The lines of parts that are taken in turn, and the report that they end in.
use Rattle.std.proofs.Common.{◌≡◌, ℕ, List, [], ◌∷◌, ◌++◌, Bool, true, sym, ap, subst, ◌∙◌, append-nil, append_assoc}
use Rattle.std.specs.Prelude.{Some, Ok, codes, string_bytes}
use Rattle.std.specs.List.{flat_map}
use Rattle.shop_records.specs.declared.records.Part.{Part}
use Rattle.shop_records.specs.declared.records.Material.{Material}
use Rattle.shop_records.specs.declared.records.Totals.{Totals}
use Rattle.shop_records.specs.Content.{Content, material_at, totals_of, parts_of}
use Rattle.shop_records.specs.Visits.{GoesOn, HasSeen, IsVisit}
use Rattle.shop_book.specs.declared.books.BookFault.{BookFault}
use Rattle.shop_text.specs.declared.yields.PartLines.{PartLines}
use Rattle.shop_text.specs.Yields.{TakesLine, part_line, yield_head, yield_found, yield_of}

taken : (parts : List Part) (old new : PartLines) → GoesOn TakesLine parts old new → string_bytes new.text ≡ string_bytes old.text ++ flat_map (part_line old.kind) parts
taken [] old new is = ap (λ (t : PartLines). string_bytes t.text) (sym is) ∙ sym (append-nil (string_bytes old.text))
taken (part ∷ parts) old new goes =
    taken parts goes.0 new goes.2 ∙ ap (λ k. string_bytes goes.0.text ++ flat_map (part_line k) parts) goes.1.0
    ∙ ap (λ b. b ++ flat_map (part_line old.kind) parts) goes.1.1 ∙ append_assoc (string_bytes old.text) (part_line old.kind part) (flat_map (part_line old.kind) parts)

-- a visit that came to the end of a list took it all
pub lines_taken : (list : List Part) (says : (List Part → Type 0) → Type 0) (reported : Bool) (old new : PartLines) → reported ≡ true → ((what : List Part → Type 0) → says what → what list)
    → IsVisit TakesLine {Fault = BookFault} says old (Ok reported) new → string_bytes new.text ≡ string_bytes old.text ++ flat_map (part_line old.kind) list
lines_taken list says reported old new went reads visit =
    let goes : GoesOn TakesLine visit.parts old new = subst (λ b. HasSeen TakesLine visit.parts b old new) (sym visit.answer ∙ went) visit.visitor in
    let begins = reads _ visit.begins in
    let whole : list ≡ visit.parts = begins.1 ∙ ap (λ rest. visit.parts ++ rest) (begins.2 went) ∙ append-nil visit.parts in
    taken visit.parts old new goes ∙ ap (λ parts. string_bytes old.text ++ flat_map (part_line old.kind) parts) (sym whole)

-- a report, line by line
pub reported : (m : Content) (code : List ℕ) (material : Material) (totals : Totals) (empty head parts whole : List ℕ) → Some material ≡ material_at m code → totals ≡ totals_of m code
    → empty ≡ [] → head ≡ empty ++ yield_head code material.kind totals → parts ≡ head ++ flat_map (part_line material.kind) (parts_of m code) → whole ≡ parts ++ codes "end\n"
    → yield_of m code ≡ Ok whole
reported m code material totals empty head parts whole row sums none first lines last =
    ap (yield_found m code) (sym row)
    ∙ ap Ok (sym (last ∙ ap (λ t. t ++ codes "end\n") (lines ∙ ap (λ t. t ++ flat_map (part_line material.kind) (parts_of m code))
    (first ∙ ap (λ t. t ++ yield_head code material.kind totals) none ∙ ap (yield_head code material.kind) sums))))

-- The plans that are reported, and what is missing, one after another.
use Rattle.std.proofs.Common.{◌≡◌, ◌⊎◌, ◌∙◌, ℕ, ◌+◌, ◌<◌, ◌≤◌, List, [], ◌∷◌, ◌++◌, Bool, true, false, ap, drop, get_or, inl, inr, length, refl, sym, take, append_assoc}
use Rattle.std.specs.Prelude.{◌==◌, if◌then◌else◌, option_map, slice_get, Some, None}
use Rattle.std.specs.List.{cons_option}
use Rattle.std.proofs.lemmas.List.{append-nil, drop_all, drop_more, take_more}
use Rattle.cut_wants.specs.declared.wants.Want.{Want}
use Rattle.cut_bound.specs.declared.planned.PlannedUnit.{PlannedUnit}
use Rattle.cut_bound.specs.declared.stock.StockSize.{StockSize}
use Rattle.cut_bound.specs.Solutions.{units_at}
use Rattle.cut_bound.specs.Planned.{solution_of}
use Rattle.shop_plans.specs.declared.answers.MissingPieces.{MissingPieces}
use Rattle.shop_planning.specs.declared.instance.StockPart.{StockPart}
use Rattle.shop_planning.specs.declared.response.Entry.{Entry}
use Rattle.shop_planning.specs.Answers.{missing_rows}
use Rattle.shop_planning.specs.Entries.{entries_from, entry_of}

module _ (sizes : List StockSize) (ranked : List StockPart) (shares : List PlannedUnit) (i : ℕ) (u : PlannedUnit) (within : i < length shares) (is : u ≡ get_or shares i u) where
  abbrev rest : ℕ → List Entry
  rest k = entries_from sizes ranked (take k shares) (drop k shares)

  abbrev before : ℕ
  before = units_at (solution_of (take i shares)) u.place

  at : rest i ≡ cons_option (option_map (entry_of ranked before u) (slice_get sizes u.place)) (rest (i + 1))
  at =
      ap (entries_from sizes ranked (take i shares)) (drop_more shares i u within ∙ ap (λ (v : PlannedUnit). v ∷ drop (i + 1) shares) (sym is))
      ∙ ap (λ l. cons_option (option_map (entry_of ranked before u) (slice_get sizes u.place)) (entries_from sizes ranked l (drop (i + 1) shares)))
      (sym (take_more shares i u within ∙ ap (λ (v : PlannedUnit). take i shares ++ v ∷ []) (sym is)))

  pub entry_next : (s : StockSize) (list all : List Entry) → slice_get sizes u.place ≡ Some s → list ++ rest i ≡ all → (list ++ entry_of ranked before u s ∷ []) ++ rest (i + 1) ≡ all
  entry_next s list all there so =
      append_assoc list (entry_of ranked before u s ∷ []) (rest (i + 1))
      ∙ ap (λ o. list ++ cons_option (option_map (entry_of ranked before u) o) (rest (i + 1))) (sym there) ∙ ap (λ l. list ++ l) (sym at) ∙ so

  pub entry_none : (list all : List Entry) → slice_get sizes u.place ≡ None → list ++ rest i ≡ all → list ++ rest (i + 1) ≡ all
  entry_none list all there so =
      ap (λ o. list ++ cons_option (option_map (entry_of ranked before u) o) (rest (i + 1))) (sym there) ∙ ap (λ l. list ++ l) (sym at) ∙ so

-- ---- what is missing

module _ (wants : List Want) (numbers : List ℕ) (i : ℕ) (x : Want) (n : ℕ) (in_wants : i < length wants) (is_x : x ≡ get_or wants i x) (in_numbers : i < length numbers) (is_n : n ≡ get_or numbers i n) where
  abbrev left : ℕ → List MissingPieces
  left k = missing_rows (drop k wants) (drop k numbers)

  missing_at : (b : Bool) → (n == 0) ≡ b → left i ≡ (if b then left (i + 1) else (let row : MissingPieces = record { demand = x.demand; pieces = n } in row ∷ left (i + 1)))
  missing_at b test =
      ap (λ l. missing_rows l (drop i numbers)) (drop_more wants i x in_wants ∙ ap (λ (y : Want). y ∷ drop (i + 1) wants) (sym is_x))
      ∙ ap (missing_rows (x ∷ drop (i + 1) wants)) (drop_more numbers i n in_numbers ∙ ap (λ m. m ∷ drop (i + 1) numbers) (sym is_n))
      ∙ ap (λ t. if t then left (i + 1) else (let row : MissingPieces = record { demand = x.demand; pieces = n } in row ∷ left (i + 1))) test

  pub none_missing : (rows all : List MissingPieces) → (n == 0) ≡ true → rows ++ left i ≡ all → rows ++ left (i + 1) ≡ all
  none_missing rows all test so = ap (λ l. rows ++ l) (sym (missing_at true test)) ∙ so

  pub some_missing : (rows all : List MissingPieces) → (n == 0) ≡ false → rows ++ left i ≡ all
      → (rows ++ (let row : MissingPieces = record { demand = x.demand; pieces = n } in row ∷ [])) ++ left (i + 1) ≡ all
  some_missing rows all test so =
      append_assoc rows (let row : MissingPieces = record { demand = x.demand; pieces = n } in row ∷ []) (left (i + 1)) ∙ ap (λ l. rows ++ l) (sym (missing_at false test)) ∙ so

no_numbers : (wants : List Want) → missing_rows wants [] ≡ []
no_numbers [] = refl
no_numbers (x ∷ xs) = refl

pub missing_end : (wants : List Want) (numbers : List ℕ) (i : ℕ) (rows all : List MissingPieces) → (length wants ≤ i) ⊎ (length numbers ≤ i)
    → rows ++ missing_rows (drop i wants) (drop i numbers) ≡ all → rows ≡ all
missing_end wants numbers i rows all past so =
    elim past [
      | inl p ↦ sym (append-nil rows) ∙ ap (λ l. rows ++ missing_rows l (drop i numbers)) (sym (drop_all i wants p)) ∙ so
      | inr p ↦
          sym (append-nil rows) ∙ ap (λ l. rows ++ l) (sym (no_numbers (drop i wants))) ∙ ap (λ l. rows ++ missing_rows (drop i wants) l) (sym (drop_all i numbers p)) ∙ so
    ]

-- Parts that are added up, and totals that are their sums.
use Rattle.std.proofs.Common.{◌≡◌, ℕ, ◌+◌, ◌<◌, ◌≤◌, ◌^◌, Bool, true, false, cond, ◌&&◌, List, [], ◌∷◌, ◌++◌, length, map, take, get_or, Option, Some, None, is_some, Ok, Result, inl, inr, refl, sym, ap, subst, ◌∙◌, arith, append-nil, IsTrue}
use Rattle.std.specs.Prelude.{unwrap_or, IfOk, T}
use Rattle.std.specs.Bool.{Decides}
use Rattle.std.specs.FinMap.{entries, entries_sorted, find, get, get-entries, is_sorted, values}
use Rattle.std.specs.FinMap.Entries.{below_all}
use Rattle.std.specs.Cmp.{tied_itself}
use Rattle.std.specs.declared.cmp.Ordering.TheVariants.{Equal}
use Rattle.std.specs.Cmp.Lexicographic.{nat_list_cmp_total}
use Rattle.std.specs.Ordering.{eq_by_cmp, is_eq}
use Rattle.std.proofs.lemmas.List.{take_more}
use Rattle.std.proofs.lemmas.List.Sums.{sum_by-append, sum_by-cons, sum_by_push}
use Rattle.cut_measure.specs.Codes.{code_cmp}
use Rattle.shop_records.specs.Content.{cells_in, no_totals, totals_of}
use Rattle.shop_records.specs.Visits.{GoesOn, HasSeen, IsVisit}
use Rattle.shop_records.specs.declared.changes.MaterialTotals.{MaterialTotals}
use Rattle.shop_records.specs.declared.records.Column.{Column}
use Rattle.shop_records.specs.declared.records.Column.TheVariants.{Received, Stock, Rack, Pieces, Kerf, Scrap, Returned}
use Rattle.shop_records.specs.declared.records.Part.{Part}
use Rattle.shop_records.specs.declared.records.Totals.{Totals}
use Rattle.shop_tables.specs.Changing.{HasSums}
use Rattle.shop_tables.specs.Listing.{HaveTotals, named}
use Rattle.shop_statements.specs.Shown.{Books}
use Rattle.shop_statements.specs.declared.faults.TableFault.{TableFault}
use Rattle.shop_store.specs.Checking.{AddsPart, AreNarrow, AreSumsIn, IsListOf, are_totals_for}
use Rattle.shop_rows.specs.Adding.{has_sums}
use Rattle.shop_rows.specs.Rows.{row_at, IsPut}
use Rattle.shop_rows.specs.Sums.{cells_for, found_sum, sum_at, sums_key, total_in, totals_from}
use Rattle.shop_store.specs.declared.adders.PartAdder.{PartAdder}
use Rattle.shop_rows.specs.declared.sums.Sums.{Sums}
use Rattle.shop_statements.proofs.Finding.{code_total, code_same}
use Rattle.shop_statements.proofs.Maps.{none_found}
use Rattle.shop_rows.proofs.Counting.{put_there}
use Rattle.shop_rows.proofs.Summed.{counted_own, same_code}

swapped : (a b c : Bool) → cond a true (cond b true c) ≡ cond b true (cond a true c)
swapped true true c = refl
swapped true false c = refl
swapped false b c = refl

pub one_more_for : (code : List ℕ) (rows : List MaterialTotals) (row : MaterialTotals) → are_totals_for code (rows ++ row ∷ []) ≡ cond (eq_by_cmp code_cmp code row.material) true (are_totals_for code rows)
one_more_for code [] row = refl
one_more_for code (r ∷ rows) row =
    ap (cond (eq_by_cmp code_cmp code r.material) true) (one_more_for code rows row)
    ∙ swapped (eq_by_cmp code_cmp code r.material) (eq_by_cmp code_cmp code row.material) (are_totals_for code rows)

-- ---- totals that 64 bits hold

pub push_narrow : (rows : List MaterialTotals) (row : MaterialTotals) → AreNarrow rows → ((column : Column) → total_in column row.totals < 2 ^ 64) → AreNarrow (rows ++ row ∷ [])
push_narrow [] row h is = (is, tt)
push_narrow (r ∷ rows) row h is = (h.0, push_narrow rows row h.1 is)

pub more_narrow : (rows : List MaterialTotals) (i : ℕ) (row : MaterialTotals) → i < length rows → row ≡ get_or rows i row → AreNarrow (take i rows) → ((column : Column) → total_in column row.totals < 2 ^ 64) → AreNarrow (take (i + 1) rows)
more_narrow rows i row inside is so_far here = subst AreNarrow (sym (take_more rows i row inside ∙ ap (λ (r : MaterialTotals). take i rows ++ r ∷ []) (sym is))) (push_narrow (take i rows) row so_far here)

-- ---- totals that are sums

pub push_sums : (sums : List Sums) (rows : List MaterialTotals) (row : MaterialTotals) → AreSumsIn sums rows → totals_from row.material sums ≡ row.totals → AreSumsIn sums (rows ++ row ∷ [])
push_sums sums [] row h is = (is, tt)
push_sums sums (r ∷ rows) row h is = (h.0, push_sums sums rows row h.1 is)

pub sums_of_last : (sums : List Sums) (rows : List MaterialTotals) (i : ℕ) (row : MaterialTotals) → i < length rows → AreSumsIn sums rows → row ≡ get_or rows i row → totals_from row.material sums ≡ row.totals
sums_of_last sums [] i row inside h is = absurd (omega arith)
sums_of_last sums (r ∷ rows) Rattle.std.proofs.Common.zero row inside h is = subst (λ (x : MaterialTotals). totals_from x.material sums ≡ x.totals) (sym is) h.0
sums_of_last sums (r ∷ rows) (Rattle.std.proofs.Common.suc i) row inside h is = sums_of_last sums rows i row (omega arith) h.1 is

pub more_sums : (sums : List Sums) (rows : List MaterialTotals) (i : ℕ) (row : MaterialTotals) → i < length rows → row ≡ get_or rows i row → AreSumsIn sums (take i rows) → totals_from row.material sums ≡ row.totals → AreSumsIn sums (take (i + 1) rows)
more_sums sums rows i row inside is so_far here =
    subst (AreSumsIn sums) (sym (take_more rows i row inside ∙ ap (λ (r : MaterialTotals). take i rows ++ r ∷ []) (sym is))) (push_sums sums (take i rows) row so_far here)

pub there_after : (code : List ℕ) (sums : Sums) (old new : List Sums) (rows : List MaterialTotals) (i : ℕ) (row : MaterialTotals) → IsPut sums_key code_cmp sums old new → sums.code ≡ row.material → i < length rows → row ≡ get_or rows i row
    → has_sums code old ≡ are_totals_for code (take i rows) → has_sums code new ≡ are_totals_for code (take (i + 1) rows)
there_after code sums old new rows i row is_put own inside is was =
    put_there code sums old new is_put ∙ (λ k. cond (eq_by_cmp code_cmp code (own k)) true (was k)) ∙ sym (one_more_for code (take i rows) row)
    ∙ ap (are_totals_for code) (sym (take_more rows i row inside ∙ ap (λ (r : MaterialTotals). take i rows ++ r ∷ []) (sym is)))

-- ---- parts one after another

pub added_up : (parts : List Part) (old new : PartAdder) → GoesOn AddsPart parts old new
    → ((column : Column) (code : List ℕ) → sum_at column code new.sums.items ≡ sum_at column code old.sums.items + cells_in column code parts) × ((code : List ℕ) → has_sums code new.sums.items ≡ has_sums code old.sums.items)
added_up [] old new is = (λ column code. let e = ap (λ (a : PartAdder). sum_at column code a.sums.items) (sym is) in omega (arith, e), λ code. ap (λ (a : PartAdder). has_sums code a.sums.items) (sym is))
added_up (part ∷ parts) old new goes =
    let more = added_up parts goes.0 new goes.2 in (
      λ column code.
          let later = more.0 column code in
          let first = goes.1.adds column code in
          let cells = sum_by-cons (cells_for column code) part parts in
          omega (arith, later, first, cells),
      λ code. more.1 code ∙ goes.1.there code,
    )

-- ---- the books' totals

found_for : (code : List ℕ) (es : List (List ℕ × Totals)) → are_totals_for code (map named es) ≡ is_some (find code_cmp code es)
found_for code [] = refl
found_for code (e ∷ es) = elim (eq_by_cmp code_cmp code e.0) as (λ b. cond b true (are_totals_for code (map named es)) ≡ is_some (cond b (Some e.1) (find code_cmp code es))) [ true ↦ refl | false ↦ found_for code es ]

its_sums : (sums : List Sums) (code : List ℕ) (t : Totals) (es : List (List ℕ × Totals)) → AreSumsIn sums (map named es) → find code_cmp code es ≡ Some t → totals_from code sums ≡ t
its_sums sums code t [] h is = absurd (cc)
its_sums sums code t (e ∷ es) h is = by_code (its_sums sums code t es h.1) (eq_by_cmp code_cmp code e.0) refl is
  where
    by_code : (find code_cmp code es ≡ Some t → totals_from code sums ≡ t) → (b : Bool) → eq_by_cmp code_cmp code e.0 ≡ b → cond b (Some e.1) (find code_cmp code es) ≡ Some t → totals_from code sums ≡ t
    by_code later true here found = ap (λ c. totals_from c sums) (same_code code e.0 here) ∙ h.0 ∙ (let x : e.1 ≡ t = cc in x)
    by_code later false here found = later found

two : (x y : Bool) → T (x && y) → T x × T y
two true y h = (tt, h)
two false y h = absurd h

tied : (code : List ℕ) → code_cmp code code ≡ Equal
tied code = tied_itself nat_list_cmp_total code

at_head : (e : List ℕ × Totals) (es : List (List ℕ × Totals)) → find code_cmp e.0 (e ∷ es) ≡ Some e.1
at_head e es = ap (λ b. cond b (Some e.1) (find code_cmp e.0 es)) (ap is_eq (tied e.0))

-- what is found after an entry is found with it
in_prefix : (e : List ℕ × Totals) (es : List (List ℕ × Totals)) → T (below_all code_cmp e.0 es) → (code : List ℕ) (t : Totals) → find code_cmp code es ≡ Some t → find code_cmp code (e ∷ es) ≡ Some t
in_prefix e es below code t is = by_code (eq_by_cmp code_cmp code e.0) refl
  where
    by_code : (b : Bool) → eq_by_cmp code_cmp code e.0 ≡ b → cond b (Some e.1) (find code_cmp code es) ≡ Some t
    by_code true here =
        let tie : code_cmp e.0 code ≡ Equal = subst (λ c. code_cmp e.0 c ≡ Equal) (sym (same_code code e.0 here)) (tied e.0) in
        absurd (let n : None ≡ Some t = sym (none_found Totals code_total code_same code e.0 es tie below) ∙ is in cc)
    by_code false here = is

module _ (b : Books) (sums : List Sums) (counted : (column : Column) (code : List ℕ) → sum_at column code sums ≡ cells_in column code (values b.content.parts)) where
  all_columns : (code : List ℕ) → totals_from code sums ≡ totals_of b.content code
  all_columns code = λ i.
      record {
        received = counted Received code i;
        stock = counted Stock code i;
        rack = counted Rack code i;
        pieces = counted Pieces code i;
        kerf = counted Kerf code i;
        scrap = counted Scrap code i;
        returned = counted Returned code i;
      }

  nothing : (code : List ℕ) (o : Option Sums) → row_at sums_key code_cmp code sums ≡ o → is_some o ≡ false → totals_from code sums ≡ no_totals
  nothing code None is none = λ i.
      record {
        received = found_sum Received (is i);
        stock = found_sum Stock (is i);
        rack = found_sum Rack (is i);
        pieces = found_sum Pieces (is i);
        kerf = found_sum Kerf (is i);
        scrap = found_sum Scrap (is i);
        returned = found_sum Returned (is i);
      }
  nothing code (Some x) is none = absurd (cc)

  module _ (there : (code : List ℕ) → has_sums code sums ≡ are_totals_for code (map named (entries b.totals))) where
    one_code : AreSumsIn sums (map named (entries b.totals)) → (code : List ℕ) (o : Option Totals) → get b.totals code ≡ o → unwrap_or o no_totals ≡ totals_of b.content code
    one_code are code (Some t) is = sym (its_sums sums code t (entries b.totals) are (sym (get-entries b.totals code) ∙ is)) ∙ all_columns code
    one_code are code None is =
        sym (nothing code (row_at sums_key code_cmp code sums) refl (there code ∙ found_for code (entries b.totals) ∙ ap is_some (sym (get-entries b.totals code) ∙ is))) ∙ all_columns code

    pub have : HaveTotals b → AreSumsIn sums (map named (entries b.totals)) → HasSums b
    have known are = record { there = known; sums = λ code. one_code are code (get b.totals code) refl }

  pub conversely : HasSums b → AreSumsIn sums (map named (entries b.totals))
  conversely has = every (entries b.totals) (entries_sorted b.totals) (λ code t is. all_columns code ∙ sym (has.sums code) ∙ ap (λ o. unwrap_or o no_totals) (get-entries b.totals code ∙ is))
    where
      every : (es : List (List ℕ × Totals)) → T (is_sorted code_cmp es) → ((code : List ℕ) (t : Totals) → find code_cmp code es ≡ Some t → totals_from code sums ≡ t) → AreSumsIn sums (map named es)
      every [] up h = tt
      every (e ∷ es) up h =
          let parts = two (below_all code_cmp e.0 es) (is_sorted code_cmp es) up in
          (h e.0 e.1 (at_head e es), every es parts.1 (λ code t is. h code t (in_prefix e es parts.0 code t is)))

-- ---- what the pass reports

abbrev Reported : Books → Bool → Type 0
Reported b good = Decides good (HasSums b)

-- all parts were added to sums of nothing
pub added_all : (b : Books) (list : List MaterialTotals) (old new : PartAdder) (visited : Result Bool TableFault) (good : Bool) → IsListOf b list → ((column : Column) (code : List ℕ) → sum_at column code old.sums.items ≡ 0)
    → ((code : List ℕ) → has_sums code old.sums.items ≡ are_totals_for code list) → visited ≡ Ok true
    → (visit : IsVisit AddsPart (λ what. what (values b.content.parts)) old visited new) → Decides good (AreSumsIn new.sums.items list) → Reported b good
added_all b list old new visited good all none there went visit reported =
    let on : visit.on ≡ true = sym (subst (λ r. IfOk r (λ t. t ≡ visit.on)) went visit.answer) in
    let goes : GoesOn AddsPart visit.parts old new = subst (λ o. HasSeen AddsPart visit.parts o old new) on visit.visitor in
    let begins = subst (λ r. (rest : List Part) × (values b.content.parts ≡ visit.parts ++ rest) × IfOk r (λ t. IsTrue t → rest ≡ [])) went visit.begins in
    let whole : visit.parts ≡ values b.content.parts = sym (begins.1 ∙ ap (λ rest. visit.parts ++ rest) (begins.2 refl) ∙ append-nil visit.parts) in
    let sums = added_up visit.parts old new goes in
    let counted : (column : Column) (code : List ℕ) → sum_at column code new.sums.items ≡ cells_in column code (values b.content.parts) = λ column code.
    (let more = sums.0 column code in let nothing_yet = none column code in let same = ap (cells_in column code) whole in omega (arith, more, nothing_yet, same)) in
    let names : (code : List ℕ) → has_sums code new.sums.items ≡ are_totals_for code (map named (entries b.totals)) = λ code. sums.1 code ∙ there code ∙ ap (are_totals_for code) all.1 in (
      λ yes. have b new.sums.items counted names all.0 (subst (AreSumsIn new.sums.items) all.1 (reported.0 yes)),
      λ has. reported.1 (subst (AreSumsIn new.sums.items) (sym all.1) (conversely b new.sums.items counted has)),
    )

held_in : (m : Rattle.shop_records.specs.Content.Content) (code : List ℕ) (t : Totals) → t ≡ totals_of m code → (column : Column) → total_in column t ≡ cells_in column code (values m.parts)
held_in m code t e Received = ap (λ (t : Totals). t.received) e
held_in m code t e Stock = ap (λ (t : Totals). t.stock) e
held_in m code t e Rack = ap (λ (t : Totals). t.rack) e
held_in m code t e Pieces = ap (λ (t : Totals). t.pieces) e
held_in m code t e Kerf = ap (λ (t : Totals). t.kerf) e
held_in m code t e Scrap = ap (λ (t : Totals). t.scrap) e
held_in m code t e Returned = ap (λ (t : Totals). t.returned) e

none_in : (column : Column) → total_in column no_totals ≡ 0
none_in column = elim column as (λ x. total_in x no_totals ≡ 0) [ Received ↦ refl | Stock ↦ refl | Rack ↦ refl | Pieces ↦ refl | Kerf ↦ refl | Scrap ↦ refl | Returned ↦ refl ]

-- the cells of the first parts and of the next
among : (column : Column) (code : List ℕ) (part : Part) (before rest : List Part) → cells_in column code before + cells_for column code part ≤ cells_in column code ((before ++ part ∷ []) ++ rest)
among column code part before rest = omega (arith, sum_by-append (cells_for column code) (before ++ part ∷ []) rest, sum_by_push (cells_for column code) before part)

nothing_there : (o : Option Totals) → is_some o ≡ false → unwrap_or o no_totals ≡ no_totals
nothing_there None e = refl
nothing_there (Some t) e = absurd (cc)

narrow_found : (es : List (List ℕ × Totals)) → AreNarrow (map named es) → (code : List ℕ) (column : Column) → total_in column (unwrap_or (find code_cmp code es) no_totals) < 2 ^ 64
narrow_found [] all code column = omega (arith, none_in column)
narrow_found (e ∷ es) all code column =
    elim (eq_by_cmp code_cmp code e.0) as (λ b. total_in column (unwrap_or (cond b (Some e.1) (find code_cmp code es)) no_totals) < 2 ^ 64) [ true ↦ all.0 column | false ↦ narrow_found es all.1 code column ]

-- the pass stopped at a part
pub stopped_at : (b : Books) (list : List MaterialTotals) (old new : PartAdder) (visited : Result Bool TableFault) → IsListOf b list → AreNarrow list → ((column : Column) (code : List ℕ) → sum_at column code old.sums.items ≡ 0)
    → ((code : List ℕ) → has_sums code old.sums.items ≡ are_totals_for code list) → visited ≡ Ok false
    → (visit : IsVisit AddsPart (λ what. what (values b.content.parts)) old visited new) → Reported b false
stopped_at b list old new visited all narrow none there went visit =
    let off : visit.on ≡ false = sym (subst (λ r. IfOk r (λ t. t ≡ visit.on)) went visit.answer) in
    let stops : HasSeen AddsPart visit.parts false old new = subst (λ o. HasSeen AddsPart visit.parts o old new) off visit.visitor in
    let before = stops.0 in
    let last = stops.1 in
    let code = last.material in
    let begins = subst (λ r. (rest : List Part) × (values b.content.parts ≡ visit.parts ++ rest) × IfOk r (λ t. IsTrue t → rest ≡ [])) went visit.begins in
    let whole : values b.content.parts ≡ (before ++ last ∷ []) ++ begins.0 = begins.1 ∙ ap (λ ps. ps ++ begins.0) stops.3 in
    let so_far = added_up before old stops.2 stops.4 in (
      λ h. absurd (cc),
      λ has. absurd (elim stops.5 [
        | inl lost ↦
            let names : is_some (get b.totals code) ≡ false = ap is_some (get-entries b.totals code) ∙ sym (found_for code (entries b.totals)) ∙ sym (so_far.1 code ∙ there code ∙ ap (are_totals_for code) all.1) ∙ lost.none in
            let column = lost.counted.0 in
            let held = held_in b.content code no_totals (sym (nothing_there (get b.totals code) names) ∙ has.sums code) column in
            let nothing = none_in column in
            let here = among column code last before begins.0 in
            let same = ap (cells_in column code) whole in
            let own = counted_own column last in
            let some = lost.counted.1 in
            omega (arith, held, nothing, here, same, own, some)
        | inr over ↦
            let column = over.column in
            let held = held_in b.content code (unwrap_or (get b.totals code) no_totals) (has.sums code) column in
            let narrow_one = narrow_found (entries b.totals) (subst AreNarrow all.1 narrow) code column in
            let found = ap (λ o. total_in column (unwrap_or o no_totals)) (get-entries b.totals code) in
            let here = among column code last before begins.0 in
            let same = ap (cells_in column code) whole in
            let own = counted_own column last in
            let sums = so_far.0 column code in
            let nothing = none column code in
            let large = over.large in
            omega (arith, held, narrow_one, found, here, same, own, sums, nothing, large)
      ]),
    )

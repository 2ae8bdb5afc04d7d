-- Totals of parts as sums: what was received, and what became of it.
use Rattle.std.proofs.Common.{◌≡◌, ℕ, ◌+◌, ◌*◌, List, [], ◌∷◌, Bool, true, false, refl, sym, ◌∙◌, arith}
use Rattle.std.specs.Prelude.{sum_by, ◌&&◌, not, if◌then◌else◌}
use Rattle.std.specs.Ordering.{is_eq}
use Rattle.std.proofs.lemmas.List.Sums.{sum_by-cons}
use Rattle.cut_measure.specs.Codes.{code_cmp}
use Rattle.shop_records.specs.declared.records.Part.{Part}
use Rattle.shop_records.specs.declared.records.State.{State}
use Rattle.shop_records.specs.declared.records.State.TheVariants as state
use Rattle.shop_records.specs.declared.records.Column.{Column}
use Rattle.shop_records.specs.declared.records.Column.TheVariants.{Received, Stock, Rack, Pieces, Kerf, Scrap, Returned}
use Rattle.shop_records.specs.Columns.{is_whole, is_there, is_piece, is_kerf, is_scrap, is_returned}
use Rattle.shop_records.specs.Content.{counts_for, cells_in, totals_in, AddsUp}

abbrev pub cells_as : Column → List ℕ → Part → ℕ
cells_as column code part = if counts_for column code part then part.size.w * part.size.h else 0

-- anything but cut into parts
abbrev pub is_uncut : State → Bool
is_uncut (state.Cut job) = false
is_uncut (state.Undone job) = false
is_uncut _ = true

-- the cells of a part of the material that isn't cut into parts
abbrev pub cells_left : List ℕ → Part → ℕ
cells_left code part = if is_eq (code_cmp part.material code) && is_uncut part.state then part.size.w * part.size.h else 0

-- a part in one of the six columns
one_of : (of whole : Bool) (s : State) (n : ℕ)
    → (if of && (is_there s && whole) then n else 0) + (if of && (is_there s && not whole) then n else 0) + (if of && is_piece s then n else 0)
    + (if of && is_kerf s then n else 0) + (if of && is_scrap s then n else 0) + (if of && is_returned s then n else 0) ≡ (if of && is_uncut s then n else 0)
one_of false whole s n = refl
one_of true true state.Standing n = omega arith
one_of true false state.Standing n = omega arith
one_of true true (state.Reserved job) n = omega arith
one_of true false (state.Reserved job) n = omega arith
one_of true whole (state.Cut job) n = omega arith
one_of true whole (state.Piece demand) n = omega arith
one_of true whole state.Kerf n = omega arith
one_of true whole state.Scrap n = omega arith
one_of true whole state.Returned n = omega arith
one_of true whole (state.Undone job) n = omega arith

in_one : (code : List ℕ) (part : Part)
    → cells_as Stock code part + cells_as Rack code part + cells_as Pieces code part + cells_as Kerf code part + cells_as Scrap code part + cells_as Returned code part ≡ cells_left code part
in_one code part = one_of (is_eq (code_cmp part.material code)) (is_whole part) part.state (part.size.w * part.size.h)

six_sums : (code : List ℕ) (parts : List Part)
    → cells_in Stock code parts + cells_in Rack code parts + cells_in Pieces code parts + cells_in Kerf code parts + cells_in Scrap code parts + cells_in Returned code parts
    ≡ sum_by (cells_left code) parts
six_sums code [] = refl
six_sums code (p ∷ ps) =
    let s = sum_by-cons (cells_as Stock code) p ps in
    let r = sum_by-cons (cells_as Rack code) p ps in
    let q = sum_by-cons (cells_as Pieces code) p ps in
    let k = sum_by-cons (cells_as Kerf code) p ps in
    let x = sum_by-cons (cells_as Scrap code) p ps in
    let y = sum_by-cons (cells_as Returned code) p ps in
    let l = sum_by-cons (cells_left code) p ps in
    let one = in_one code p in
    let rest = six_sums code ps in
    omega (arith, s, r, q, k, x, y, l, one, rest)

pub adds_up : (code : List ℕ) (parts : List Part) → sum_by (cells_as Received code) parts ≡ sum_by (cells_left code) parts → AddsUp (totals_in code parts)
adds_up code parts e = e ∙ sym (six_sums code parts)

pub adds_up_so : (code : List ℕ) (parts : List Part) → AddsUp (totals_in code parts) → sum_by (cells_as Received code) parts ≡ sum_by (cells_left code) parts
adds_up_so code parts e = e ∙ six_sums code parts

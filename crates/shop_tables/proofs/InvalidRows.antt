-- What the columns of the rows of parts and of totals have.
use Rattle.std.proofs.Common.{◌≡◌, ◌<◌, ◌≤◌, ℕ, zero, suc, Bool, true, false, List, length, refl, sym, subst, arith}
use Rattle.sqlite_value.specs.declared.value.Value.{Value}
use Rattle.sqlite_value.specs.Order.{Row, column}
use Rattle.cut_measure.specs.declared.sizes.Kind.{Kind}
use Rattle.cut_measure.specs.declared.sizes.Kind.TheVariants.{Bar, Sheet}
use Rattle.shop_records.specs.declared.records.JobState.{JobState}
use Rattle.shop_records.specs.declared.records.JobState.TheVariants.{Waiting}
use Rattle.shop_records.specs.declared.records.Totals.{Totals}
use Rattle.shop_statements.specs.Rows.{job_state_number, kind_number, turn_number}
use Rattle.shop_tables.specs.Listing.{listed_row}
use Rattle.shop_tables.specs.Invalid.{HasCounts, HasValue}

totals_counts : (e : List ℕ × Totals) → HasCounts (listed_row e) 0 7
totals_counts e zero low high = (e.1.received, (omega arith, refl))
totals_counts e (suc zero) low high = (e.1.stock, (omega arith, refl))
totals_counts e (suc (suc zero)) low high = (e.1.rack, (omega arith, refl))
totals_counts e (suc (suc (suc zero))) low high = (e.1.pieces, (omega arith, refl))
totals_counts e (suc (suc (suc (suc zero)))) low high = (e.1.kerf, (omega arith, refl))
totals_counts e (suc (suc (suc (suc (suc zero))))) low high = (e.1.scrap, (omega arith, refl))
totals_counts e (suc (suc (suc (suc (suc (suc zero)))))) low high = (e.1.returned, (omega arith, refl))
totals_counts e (suc (suc (suc (suc (suc (suc (suc at))))))) low high = absurd (omega (arith, high))

pub totals_at : (row : Row) (e : List ℕ × Totals) → row ≡ listed_row e → HasCounts row 0 7
totals_at row e is = subst (λ r. HasCounts r 0 7) (sym is) (totals_counts e)

-- a row has what the row that it is has
pub shown_in : (row known : Row) → row ≡ known → (at : ℕ) (value : Value) → at < length known → column known at ≡ value → HasValue row at value
shown_in row known is at value inside has = subst (λ r. HasValue r at value) (sym is) (inside, has)

-- ---- numbers of turns, kinds and states

pub turn_small : (turn : Bool) → turn_number turn ≤ 1
turn_small true = omega arith
turn_small false = omega arith

pub kind_small : (kind : Kind) → kind_number kind ≤ 1
kind_small Bar = omega arith
kind_small Sheet = omega arith

pub job_state_small : (s : JobState) → job_state_number s ≤ 4
job_state_small Waiting = omega arith
job_state_small _ = omega arith

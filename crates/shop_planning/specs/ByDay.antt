-- How demands are taken by the day on which their order is due.
use Rattle.std.specs.Prelude.{◌≡◌, ◌<◌, ◌+◌, ◌-◌, ◌*◌, ◌==◌, ℕ, nat_le, nat_lt, Bool, true, List, All, count_by, if◌then◌else◌, map, Option, Some, None}
use Rattle.cut_bound.specs.declared.limits.TheConstants.{MAX_ORDER_WANTS}
use Rattle.shop_records.specs.declared.records.Demand.{Demand}
use Rattle.shop_records.specs.Content.{Content}
use Rattle.shop_records.specs.Lists.{due_of}
use Rattle.shop_planning.specs.declared.by_day.Ranked.{Ranked}

-- one number for both: days rise, none is last, and of one day numbers rise
abbrev pub rank_by : (day number : ℕ) → ℕ
rank_by day number = (if day == 0 then 4294967295 else day - 1) * 4294967296 + number

abbrev pub rank_of : Content → Demand → ℕ
rank_of content demand = rank_by (due_of content demand.order) demand.number

abbrev pub with_rank : Content → Demand → Ranked
with_rank content demand = record { row = demand; rank = rank_of content demand }

-- both numbers have 32 bits
abbrev pub HasRank : Content → Demand → Type 0
HasRank content demand = (due_of content demand.order < 4294967296) × (demand.number < 4294967296)

-- these demands, each with its rank
abbrev pub HaveRanks : Content → List Demand → List Ranked → Type 0
HaveRanks content rows ranks = (ranks ≡ map (with_rank content) rows) × All (HasRank content) rows

abbrev pub ranks_in : List Ranked → List ℕ
ranks_in ranks = map (λ (row : Ranked). row.rank) ranks

-- all are taken, or those up to the last
abbrev pub is_taken : Option ℕ → ℕ → Bool
is_taken None rank = true
is_taken (Some last) rank = nat_le rank last

-- up to the last are those that fewer than 100 of the ranks come before
abbrev pub IsLast : Option ℕ → List ℕ → Type 0
IsLast last ranks = (rank : ℕ) → is_taken last rank ≡ nat_lt (count_by (λ other. nat_lt other rank) ranks) MAX_ORDER_WANTS

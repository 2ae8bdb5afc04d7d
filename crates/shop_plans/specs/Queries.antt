-- The `plans` query of all that is open of a material: what a JSON value stands for.
use Rattle.std.specs.Prelude.{ℕ, ◌+◌, ◌&&◌, Bool, true, List, [], nat_le, if◌then◌else◌, Option, Some, None, is_some, option_map, option_and_then, unwrap_or, codes, bytes_eq}
use Rattle.cut_measure.specs.Names.{Name, spelled_name}
use Rattle.serde_json.specs.Data.{Data}
use Rattle.serde_json.specs.Find.{get, as_str}
use Rattle.shop_forms.specs.Fields.{number_at, number_of, code_at, word_at, elements_at, all_of, row}
use Rattle.shop_plans.specs.declared.limits.TheConstants.{MIN_STAGES, MAX_CALLS, MAX_STAGES, UNIT_COST, DEFAULT_CALLS, DEFAULT_REMNANT}
use Rattle.shop_plans.specs.declared.queries.BuySize.{BuySize}
use Rattle.shop_plans.specs.declared.queries.PlansQuery.{PlansQuery}

-- ---- keys that may be missing

-- 1 where the key is there
abbrev pub there : List ℕ → Data → ℕ
there key d = if is_some (get key d) then 1 else 0

-- `ask`, `material`, and those of the other keys that are there
abbrev pub keys_there : Data → ℕ
keys_there d =
    2 + there (codes "buy") d + there (codes "calls") d + there (codes "demands") d + there (codes "parts") d
    + there (codes "remnant") d + there (codes "stages") d + there (codes "step") d

-- what a value stands for where its key is there, and nothing, which is no fault, where it is missing
abbrev pub given : {T : Type 0} → (List ℕ → Data → Option T) → List ℕ → Data → Option (Option T)
given read key d = if is_some (get key d) then option_map Some (read key d) else Some None

-- a number of this range, and this one where the key is missing
abbrev pub within : (least most n : ℕ) → Option ℕ
within least most n = if nat_le least n && nat_le n most then Some n else None

abbrev pub number_within : (least most missing : ℕ) → List ℕ → Data → Option ℕ
number_within least most missing key d = option_and_then (λ n. within least most (unwrap_or n missing)) (given number_at key d)

-- ---- lists

-- the rows of the list at a key
abbrev pub rows_in : {T : Type 0} → (Data → Option T) → List ℕ → Data → Option (List T)
rows_in read key d = option_and_then (all_of read) (elements_at key d)

-- the part's name that a value spells
abbrev pub name_of : Data → Option Name
name_of d = option_and_then spelled_name (as_str d)

abbrev pub size_fields : Data → Option BuySize
size_fields d = option_and_then (λ h. option_map (λ w. record { h = h; w = w }) (number_at (codes "w") d)) (number_at (codes "h") d)

-- sides of a unit that may be bought: an object of these two keys
abbrev pub size_of : Data → Option BuySize
size_of d = row 2 size_fields d

-- ---- the query

abbrev pub demands_of : Data → Option (Option (List ℕ))
demands_of d = given (rows_in number_of) (codes "demands") d

abbrev pub parts_of : Data → Option (Option (List Name))
parts_of d = given (rows_in name_of) (codes "parts") d

abbrev pub buy_of : Data → Option (List BuySize)
buy_of d = option_map (λ sizes. unwrap_or sizes []) (given (rows_in size_of) (codes "buy") d)

abbrev pub remnant_of : Data → Option ℕ
remnant_of d = number_within 1 UNIT_COST DEFAULT_REMNANT (codes "remnant") d

abbrev pub step_of : Data → Option (Option ℕ)
step_of d = given number_at (codes "step") d

abbrev pub calls_of : Data → Option ℕ
calls_of d = number_within 1 MAX_CALLS DEFAULT_CALLS (codes "calls") d

-- a limit of stages, if there is one, is 2 to 255
abbrev pub is_stage_limit : Option ℕ → Bool
is_stage_limit None = true
is_stage_limit (Some most) = nat_le MIN_STAGES most && nat_le most MAX_STAGES

abbrev pub stages_of : Data → Option (Option ℕ)
stages_of d = option_and_then (λ stages. if is_stage_limit stages then Some stages else None) (given number_at (codes "stages") d)

abbrev pub plans_fields : Data → Option PlansQuery
plans_fields d =
    option_and_then (λ material. option_and_then (λ remnant. option_and_then (λ step. option_and_then (λ calls.
    option_and_then (λ stages. option_and_then (λ demands. option_and_then (λ parts. option_map (λ buy.
    record { material = material; demands = demands; parts = parts; buy = buy; remnant = remnant; step = step; calls = calls; stages = stages })
    (buy_of d)) (parts_of d)) (demands_of d)) (stages_of d)) (calls_of d)) (step_of d)) (remnant_of d)) (code_at (codes "material") d)

-- an object has each key once, so where it has so many keys, it has these and no other
abbrev pub plans_query_of : Data → Option PlansQuery
plans_query_of d =
    option_and_then (λ word. if bytes_eq word (codes "plans") then row (keys_there d) plans_fields d else None)
    (word_at (codes "ask") (codes "do") d)

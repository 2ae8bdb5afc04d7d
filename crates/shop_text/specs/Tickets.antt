-- The ticket of a job.
use Rattle.std.specs.Prelude.{◌≡◌, ℕ, zero, suc, List, [], ◌∷◌, ◌++◌, length, codes, Bool, true, false, All, map, count_by, Option, Some, None, Result, Ok, Err, option_map, MatchOption, ◌⊎◌, string_bytes}
use Rattle.std.specs.declared.string.String.{String}
use Rattle.std.specs.Fmt.{decimal}
use Rattle.cut_measure.specs.Lengths.{mm_text}
use Rattle.cut_measure.specs.declared.sizes.Kind.{Kind}
use Rattle.cut_measure.specs.declared.sizes.Axis.{Axis}
use Rattle.cut_tree.specs.declared.token.Token.{Token}
use Rattle.cut_tree.specs.declared.token.Token.TheVariants as token
use Rattle.cut_tree.specs.declared.steps.Step.{Step}
use Rattle.cut_tree.specs.Tree.{node_count, cut_count}
use Rattle.cut_tree.specs.Patterns.{Pattern}
use Rattle.cut_tree.specs.Spelling.{axis_letter}
use Rattle.cut_tree.specs.Stepping.{step_at}
use Rattle.cut_tree.specs.Leaves.{leaves_of}
use Rattle.shop_records.specs.declared.records.Material.{Material}
use Rattle.shop_records.specs.declared.records.Part.{Part}
use Rattle.shop_records.specs.declared.records.Job.{Job}
use Rattle.shop_records.specs.declared.records.JobState.{JobState}
use Rattle.shop_records.specs.declared.records.JobState.TheVariants.{Waiting, Done, Broken, Released, Undone}
use Rattle.shop_records.specs.declared.records.Demand.{Demand}
use Rattle.shop_records.specs.declared.refusals.Refusal.{Refusal}
use Rattle.shop_records.specs.declared.refusals.Refusal.TheVariants.{NoJob, NoMemory, StoreFault}
use Rattle.shop_records.specs.Columns.{is_piece}
use Rattle.shop_records.specs.Content.{Content, job_at, part_at, material_of, demand_at, parts_named}
use Rattle.shop_text.specs.declared.tickets.FoundNode.{FoundNode}
use Rattle.shop_text.specs.Printing.{to_the_right, size_text, place_text, part_start}

abbrev pub job_state_text : JobState → List ℕ
job_state_text Waiting = codes "waiting"
job_state_text Done = codes "done"
job_state_text Broken = codes "broken"
job_state_text Released = codes "released"
job_state_text Undone = codes "undone"

-- where a node's rectangle lies in the part that is cut, and its sides
abbrev pub location_text : Kind → Step → List ℕ
location_text kind step = codes " at " ++ place_text kind step.x step.y ++ codes " of " ++ size_text kind step.w step.h

-- whose a piece is
abbrev pub demand_text : Demand → List ℕ
demand_text demand = codes " demand " ++ decimal demand.number ++ codes " " ++ demand.order ++ codes " line " ++ decimal demand.line

abbrev pub turn_text : Bool → List ℕ
turn_text true = codes " turned"
turn_text false = []

-- the row of a piece's demand, where a function finds it
abbrev pub demand_for : (ℕ → Option Demand) → Token → Option Demand
demand_for at (token.Cut axis place) = None
demand_for at (token.Piece demand turned) = at demand
demand_for at token.Rest = None

abbrev pub cut_text : Kind → Step → Axis → ℕ → List ℕ
cut_text kind step axis place = codes "cut " ++ axis_letter axis ∷ [] ++ codes " " ++ mm_text place ++ location_text kind step

abbrev pub piece_text : Kind → Step → Bool → Demand → List ℕ
piece_text kind step turned row = codes "piece" ++ location_text kind step ++ demand_text row ++ turn_text turned

abbrev pub rest_text : Kind → Step → List ℕ
rest_text kind step = codes "rest" ++ location_text kind step

-- what is done at a node; of a piece whose demand isn't there nothing is said
abbrev pub node_text : Kind → Step → Token → Option Demand → Option (List ℕ)
node_text kind step (token.Cut axis place) found = Some (cut_text kind step axis place)
node_text kind step (token.Piece demand turned) None = None
node_text kind step (token.Piece demand turned) (Some row) = Some (piece_text kind step turned row)
node_text kind step token.Rest found = Some (rest_text kind step)

-- a node's line: its number in 4 places, and what is done
abbrev pub node_line : Kind → Step → Option Demand → Option (List ℕ)
node_line kind step found = option_map (λ what. to_the_right 4 (decimal step.node) ++ codes " " ++ what ++ codes "\n") (node_text kind step step.what found)

-- one after the other, where both are there
abbrev pub both : Option (List ℕ) → Option (List ℕ) → Option (List ℕ)
both None next = None
both (Some lines) None = None
both (Some lines) (Some line) = Some (lines ++ line)

-- the lines with numbers below n, in order
abbrev pub lines_below : (ℕ → Option (List ℕ)) → ℕ → Option (List ℕ)
lines_below line zero = Some []
lines_below line (suc n) = both (lines_below line n) (line n)

-- the step of a plan's node
abbrev pub step_of : Pattern → ℕ → Step
step_of plan n = step_at plan.tree 0 0 plan.w plan.h plan.kerf n n

-- the line of a plan's node, its demand being that which a function finds
abbrev pub line_of : Kind → (ℕ → Option Demand) → Pattern → ℕ → Option (List ℕ)
line_of kind at plan n = node_line kind (step_of plan n) (demand_for at (step_of plan n).what)

-- the lines of a plan's nodes
abbrev pub node_lines : Kind → (ℕ → Option Demand) → Pattern → Option (List ℕ)
node_lines kind at plan = lines_below (line_of kind at plan) (node_count plan.tree)

abbrev pub job_line : Job → List ℕ
job_line job = codes "job " ++ decimal job.act ++ codes " " ++ job_state_text job.state ++ codes "\n"

-- the part that is cut
abbrev pub unit_line : Job → Part → Material → List ℕ
unit_line job part material =
    part_start part.name ++ part.material ++ codes " " ++ size_text material.kind part.size.w part.size.h ++ codes " kerf " ++ mm_text job.kerf ++ codes "\n"

-- how many of these parts are pieces
abbrev pub piece_count : List Part → ℕ
piece_count parts = count_by (λ (part : Part). is_piece part.state) parts

-- a count, where the job's plan was not cut to its end, or what was cut was taken back
abbrev pub where_ended : JobState → ℕ → Option ℕ
where_ended Waiting n = None
where_ended Done n = None
where_ended Broken n = Some n
where_ended Released n = None
where_ended Undone n = Some n

-- how many pieces were made of a job that was broken or undone
abbrev pub made_of : Content → Job → Option ℕ
made_of m job = where_ended job.state (piece_count (parts_named m job.act))

-- the line that reports it
abbrev pub made_line : Option ℕ → List ℕ
made_line None = []
made_line (Some n) = codes "made " ++ decimal n ++ codes " pieces\n"

-- the last line
abbrev pub ticket_end : Pattern → List ℕ
ticket_end plan = codes "cuts " ++ decimal (cut_count plan.tree) ++ codes " pieces " ++ decimal (length (leaves_of plan.tree plan.w plan.h plan.kerf)) ++ codes "\n"

-- the ticket of a job on a part of a material, of which so many pieces were made, where the rows of its pieces' demands are there
abbrev pub ticket_with : Job → Part → Material → Option ℕ → (ℕ → Option Demand) → Option (List ℕ)
ticket_with job part material made at =
    option_map (λ lines. job_line job ++ unit_line job part material ++ lines ++ made_line made ++ ticket_end job.plan) (node_lines material.kind at job.plan)

-- a text, or rows contradict each other
abbrev pub or_contradiction : Option (List ℕ) → Result (List ℕ) Refusal
or_contradiction None = Err StoreFault
or_contradiction (Some text) = Ok text

abbrev pub ticket_on_part : Content → Job → Option Part → Option Material → Option (List ℕ)
ticket_on_part m job None material = None
ticket_on_part m job (Some part) None = None
ticket_on_part m job (Some part) (Some material) = ticket_with job part material (made_of m job) (demand_at m)

abbrev pub ticket_found : Content → Option Job → Result (List ℕ) Refusal
ticket_found m None = Err NoJob
ticket_found m (Some job) = or_contradiction (ticket_on_part m job (part_at m job.part) (material_of m (part_at m job.part)))

-- The ticket of a job that is there. Where the job's part, its material or a piece's demand isn't, rows contradict each other.
abbrev pub ticket_of : Content → ℕ → Result (List ℕ) Refusal
ticket_of m number = ticket_found m (job_at m number)

-- ---- what was found

-- the steps of the nodes
abbrev pub steps_in : List FoundNode → List Step
steps_in nodes = map (λ (n : FoundNode). n.step) nodes

-- the rows of the pieces' demands are those that the function finds
abbrev pub AreNodesFound : (ℕ → Option Demand) → List FoundNode → Type 0
AreNodesFound at nodes = All (λ (n : FoundNode). n.demand ≡ demand_for at n.step.what) nodes

-- memory ran out, or there is nothing to report
abbrev pub IsUnreported : Refusal → Option (List ℕ) → Type 0
IsUnreported refusal said = (refusal ≡ NoMemory) ⊎ ((refusal ≡ StoreFault) × (said ≡ None))

-- what has to be reported was appended
abbrev pub AddsLine : List ℕ → List ℕ → Result (Unit {0}) Refusal → Option (List ℕ) → Type 0
AddsLine old new (Ok x) said = MatchOption said ⊥ (λ line. new ≡ old ++ line)
AddsLine old new (Err refusal) said = IsUnreported refusal said

-- what has to be reported is the text
abbrev pub IsTicketMade : {Z : Type 0} → Result (String Z) Refusal → Option (List ℕ) → Type 0
IsTicketMade (Ok text) said = said ≡ Some (string_bytes text)
IsTicketMade (Err refusal) said = IsUnreported refusal said

-- What the machine answers to a query.
use Rattle.std.specs.Prelude.{◌≡◌, ◌≢◌, ℕ, List, Option, Some, None}
use Rattle.shop_records.specs.declared.records.Material.{Material}
use Rattle.shop_records.specs.declared.records.Part.{Part}
use Rattle.shop_records.specs.declared.records.Demand.{Demand}
use Rattle.shop_records.specs.declared.records.Totals.{Totals}
use Rattle.shop_records.specs.declared.messages.Query.{Query}
use Rattle.shop_records.specs.declared.messages.Query.TheVariants as query
use Rattle.shop_records.specs.declared.refusals.Refusal.TheVariants.{NoMaterial, NoDemand, NoPart, NoMemory, StoreFault}
use Rattle.shop_records.specs.declared.messages.Reply.{Reply}
use Rattle.shop_records.specs.declared.messages.Reply.TheVariants as reply
use Rattle.shop_records.specs.Columns.{state_word, state_of}
use Rattle.shop_records.specs.Content.{Content, material_at, part_at, has_order, demand_at, entry_count, last_time, totals_of, parts_of, rack_rows, material_of}
use Rattle.shop_answers.specs.Planning.{IsPlanAnswer, IsBoundAnswer}
use Rattle.shop_records.specs.Lists.{materials_of, parts_after, open_demands, waiting_jobs, job_numbers, orders_after, first_time, entries_behind, entries_about, reported_entries, pieces_after}
use Rattle.shop_answers.specs.Listing.{is_known, job_with_part, reported_parts, reported_demands, reported_jobs, reported_job, IsOrdersAnswer, IsLinesAnswer, IsTerminalAnswer, reported_history, subject_refusal, reported_story, source_refusal, reported_pieces, IsStepsAnswer}

abbrev pub totals_reply : Option Material → List ℕ → Totals → Reply
totals_reply None material t = reply.Refused NoMaterial
totals_reply (Some m) material t = reply.Totals material t.received t.stock t.rack t.pieces t.kerf t.scrap t.returned

abbrev pub reported_rack : Option Material → List ℕ → List Part → Reply
reported_rack None material parts = reply.Refused NoMaterial
reported_rack (Some m) material parts = reply.Rack material (rack_rows parts)

abbrev pub reported_part : Option Part → Reply
reported_part None = reply.Refused NoPart
reported_part (Some part) =
    reply.Trace part.batch part.size.h (state_of part.state) part.name part.root (state_word part.state) part.size.w part.x part.y

abbrev pub reported_demand : Option Demand → Reply
reported_demand None = reply.Refused NoDemand
reported_demand (Some d) = reply.Demand d.number d.line d.made d.material d.order d.reserved d.wanted

-- what may be answered to a query: to a plan and a bound any that the planners may give
abbrev pub IsAnswer : Content → Query → Reply → Type 0
IsAnswer content (query.Totals material) answer = answer ≡ totals_reply (material_at content material) material (totals_of content material)
IsAnswer content (query.Rack material) answer = answer ≡ reported_rack (material_at content material) material (parts_of content material)
IsAnswer content (query.Trace part) answer = answer ≡ reported_part (part_at content part)
IsAnswer content (query.Demand demand) answer = answer ≡ reported_demand (demand_at content demand)
IsAnswer content (query.Plan part demands step) answer =
    IsPlanAnswer (part_at content part) (material_of content (part_at content part)) (demand_at content) demands step answer
IsAnswer content (query.Bound material w h demands step) answer =
    IsBoundAnswer (material_at content material) material (record { w = w; h = h }) (demand_at content) demands step answer
IsAnswer content query.Materials answer = answer ≡ reply.Materials (materials_of content)
IsAnswer content (query.Parts material after) answer = answer ≡ reported_parts (material_at content material) material (parts_after content material after)
IsAnswer content (query.Demands after material) answer = answer ≡ reported_demands content (is_known content material) (open_demands content after material)
IsAnswer content (query.Jobs after) answer = answer ≡ reported_jobs content (job_numbers (waiting_jobs content after))
IsAnswer content (query.Job job) answer = answer ≡ reported_job content (job_with_part content job)
IsAnswer content (query.Terminal terminal) answer = IsTerminalAnswer content terminal answer
IsAnswer content (query.Orders after) answer = IsOrdersAnswer content (orders_after content after) answer
IsAnswer content (query.Lines order) answer = IsLinesAnswer content order (has_order content order) answer
IsAnswer content query.Shop answer = answer ≡ reply.Shop (first_time content) (entry_count content) (last_time content)
IsAnswer content (query.History after) answer = answer ≡ reported_history (reported_entries content (entries_behind content after))
IsAnswer content (query.Story about after) answer =
    answer ≡ reported_story (subject_refusal content about) (reported_entries content (entries_about content about after))
IsAnswer content (query.Pieces from after) answer = answer ≡ reported_pieces content (source_refusal content from) (pieces_after content from after)
IsAnswer content (query.Steps job) answer = IsStepsAnswer content (job_with_part content job) answer

-- the same, memory and the store aside; a query changes nothing
abbrev pub Answers : Content → Query → Reply → Type 0
Answers content asked answer = answer ≢ reply.Refused NoMemory → answer ≢ reply.Refused StoreFault → IsAnswer content asked answer

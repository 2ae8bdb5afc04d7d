-- What each writing makes of the books.
use Rattle.std.specs.Prelude.{ℕ, List}
use Rattle.std.specs.FinMap.{insert, remove}
use Rattle.std.specs.FinSet as set
use Rattle.shop_records.specs.declared.records.Material.{Material}
use Rattle.shop_records.specs.declared.records.Part.{Part}
use Rattle.shop_records.specs.declared.records.Job.{Job}
use Rattle.shop_records.specs.declared.records.JobHalt.{JobHalt}
use Rattle.shop_records.specs.declared.records.JobBegin.{JobBegin}
use Rattle.shop_records.specs.declared.notes.OrderNote.{OrderNote}
use Rattle.shop_records.specs.declared.records.Demand.{Demand}
use Rattle.shop_records.specs.declared.records.Totals.{Totals}
use Rattle.shop_records.specs.declared.imports.ImportRow.{ImportRow}
use Rattle.shop_records.specs.declared.texts.KeptMessage.{KeptMessage}
use Rattle.shop_records.specs.declared.journal.Entry.{Entry}
use Rattle.shop_statements.specs.declared.uses.JobOrder.{JobOrder}
use Rattle.shop_statements.specs.Shown.{Books}

abbrev pub with_material : Material → Books → Books
with_material material b = record b { content = record b.content { materials = insert b.content.materials material.code material } }

-- a new part, or one in another state
abbrev pub with_part : Part → Books → Books
with_part part b = record b { content = record b.content { parts = insert b.content.parts part.name part } }

-- a new job, or one in another state
abbrev pub with_job : Job → Books → Books
with_job job b = record b { content = record b.content { jobs = insert b.content.jobs job.act job } }

-- where the work on a job halted
abbrev pub with_halt : JobHalt → Books → Books
with_halt row b = record b { content = record b.content { halts = insert b.content.halts row.job row } }

-- the terminal that has begun a job, the first or another one
abbrev pub with_begun : JobBegin → Books → Books
with_begun row b = record b { content = record b.content { begun = insert b.content.begun row.job row } }

abbrev pub without_begun : ℕ → Books → Books
without_begun job b = record b { content = record b.content { begun = remove b.content.begun job } }

abbrev pub with_order : List ℕ → Books → Books
with_order code b = record b { content = record b.content { orders = set.insert b.content.orders code } }

-- what is said of an order, the first or something else
abbrev pub with_note : OrderNote → Books → Books
with_note row b = record b { content = record b.content { notes = insert b.content.notes row.order row } }

abbrev pub without_note : List ℕ → Books → Books
without_note order b = record b { content = record b.content { notes = remove b.content.notes order } }

-- a new demand, or one with other counts
abbrev pub with_demand : Demand → Books → Books
with_demand demand b = record b { content = record b.content { demands = insert b.content.demands demand.number demand } }

abbrev pub with_kept : KeptMessage → Books → Books
with_kept message b = record b { content = record b.content { kept = insert b.content.kept message.message_id message.kept } }

abbrev pub with_import : ImportRow → Books → Books
with_import row b = record b { content = record b.content { imports = insert b.content.imports row.order row } }

abbrev pub with_entry : Entry → Books → Books
with_entry entry b = record b { content = record b.content { entries = insert b.content.entries entry.number entry } }

-- an order of which a job's plan has a piece
abbrev pub with_use : JobOrder → Books → Books
with_use x b = record b { uses = insert b.uses x tt }

-- the totals of a material, new or other ones
abbrev pub with_totals : List ℕ → Totals → Books → Books
with_totals material totals b = record b { totals = insert b.totals material totals }

abbrev pub with_last_act : ℕ → Books → Books
with_last_act act b = record b { content = record b.content { last_act = act } }

abbrev pub with_last_demand : ℕ → Books → Books
with_last_demand demand b = record b { content = record b.content { last_demand = demand } }

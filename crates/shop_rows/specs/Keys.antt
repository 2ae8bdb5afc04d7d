-- The keys of rows.
use Rattle.std.specs.Prelude.{ℕ, List}
use Rattle.std.proofs.Common.{ap}
use Rattle.std.proofs.lemmas.Map.Lookups.{exact_pairs, exact_unsigned}
use Rattle.std.specs.Ordering.{nat_cmp}
use Rattle.std.specs.FinMap.{IsAntisymmetric, slice_cmp-IsAntisymmetric, nat_cmp-IsAntisymmetric}
use Rattle.std.specs.Cmp.{IsTotalOrder, on_total, then_total, nat_cmp_total}
use Rattle.cut_measure.specs.Codes.{code_cmp}
use Rattle.cut_measure.specs.Names.{Name, name_cmp}
use Rattle.shop_records.specs.declared.records.Material.{Material}
use Rattle.shop_records.specs.declared.records.Part.{Part}
use Rattle.shop_records.specs.declared.records.Job.{Job}
use Rattle.shop_records.specs.declared.records.JobHalt.{JobHalt}
use Rattle.shop_records.specs.declared.records.JobBegin.{JobBegin}
use Rattle.shop_records.specs.declared.notes.OrderNote.{OrderNote}
use Rattle.shop_records.specs.declared.records.Demand.{Demand}
use Rattle.shop_records.specs.declared.imports.ImportRow.{ImportRow}
use Rattle.shop_records.specs.declared.journal.Entry.{Entry}

abbrev pub material_key : Material → List ℕ
material_key m = m.code

abbrev pub part_key : Part → Name
part_key p = p.name

abbrev pub job_key : Job → ℕ
job_key j = j.act

abbrev pub halt_key : JobHalt → ℕ
halt_key row = row.job

abbrev pub begin_key : JobBegin → ℕ
begin_key row = row.job

abbrev pub note_key : OrderNote → List ℕ
note_key row = row.order

abbrev pub demand_key : Demand → ℕ
demand_key d = d.number

abbrev pub import_key : ImportRow → List ℕ
import_key row = row.order

abbrev pub entry_key : Entry → ℕ
entry_key entry = entry.number

pub codes_exact : IsAntisymmetric code_cmp
codes_exact = slice_cmp-IsAntisymmetric nat_cmp-IsAntisymmetric

pub names_total : IsTotalOrder name_cmp
names_total = then_total (on_total (λ n. n.act) nat_cmp_total) (on_total (λ n. n.node) nat_cmp_total)

-- only equal names tie
pub names_exact : IsAntisymmetric name_cmp
names_exact a b h = ap (λ (p : ℕ × ℕ). record { act = p.0; node = p.1 }) (exact_pairs nat_cmp nat_cmp exact_unsigned exact_unsigned (a.act, a.node) (b.act, b.node) h)

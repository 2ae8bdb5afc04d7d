-- A shop in which nothing was done yet has no row of totals, no part and no entry.
use Rattle.std.proofs.Common.{is_some, unwrap_or, map, refl, sym, ap, ◌∙◌}
use Rattle.std.specs.FinMap.{get-empty}
use Rattle.cut_measure.specs.Codes.{code_cmp}
use Rattle.cut_measure.specs.Names.{Name, name_cmp}
use Rattle.shop_records.specs.Content.{totals_in, no_totals}
use Rattle.shop_records.specs.declared.records.Part.{Part}
use Rattle.shop_tables.specs.Changing.{HasSums, HasTrail}
use Rattle.shop_statements.specs.Shown.{fresh_books}
use Rattle.shop_tables.proofs.Fitting.{no_trail}
use Rattle.shop_tables.proofs.Lays.{no_entries}

pub fresh_sums : HasSums fresh_books
fresh_sums = record {
  there = λ code. ap is_some (get-empty code_cmp code) ∙ sym (ap is_some (get-empty code_cmp code));
  sums = λ code. ap (λ found. unwrap_or found no_totals) (get-empty code_cmp code) ∙ sym (ap (λ es. totals_in code (map (λ (e : Name × Part). e.1) es)) (no_entries name_cmp Part));
}

pub fresh_trail : HasTrail fresh_books
fresh_trail = no_trail fresh_books refl refl

-- Contents with the same entries, the same long texts and the same rows are the same.
use Rattle.std.proofs.Common.{◌≡◌, ℕ, refl, ◌∙◌}
use Rattle.std.specs.Cmp.{nat_cmp_total}
use Rattle.std.specs.FinMap.{len, nat_cmp-IsAntisymmetric}
use Rattle.shop_records.specs.Content.{Content}
use Rattle.shop_records.specs.Messages.{Texts}
use Rattle.shop_records.proofs.Basics.{codes_same, codes_total}
use Rattle.shop_records.proofs.Puts.{message_ids_exact, message_ids_total}
use Rattle.shop_book.specs.Ledgers.{bare}
use Rattle.shop_audit.specs.Compared.{HaveSameTexts}
use Rattle.shop_audit.specs.Whole.{IsGiven, IsWithin}
use Rattle.shop_audit.proofs.Counts.{kept_many}
use Rattle.shop_audit.proofs.Halts.{halts_same}
use Rattle.shop_audit.proofs.Within.{Within, as_many_within}

module _ (texts : Texts) (m c : Content) (count : ℕ) (same : HaveSameTexts m c count) (given : IsGiven texts c) (within : IsWithin c m) where
  entries_same : m.entries ≡ c.entries
  entries_same = as_many_within nat_cmp_total nat_cmp-IsAntisymmetric count c.entries m.entries same.many.other same.many.one within.entries

  many : len c.kept ≡ count
  many = kept_many texts given.history c given.gives ∙ same.many.other

  kept_same : m.kept ≡ c.kept
  kept_same = as_many_within message_ids_total message_ids_exact count c.kept m.kept many (same.many.kept ∙ many) within.kept

  imports_within : Within c.imports m.imports
  imports_within code row is = same.imports code (given.well_formed.imports code row is).ordered ∙ is

  imports_same : m.imports ≡ c.imports
  imports_same = as_many_within codes_total codes_same (len c.imports) c.imports m.imports refl same.many.imports imports_within

  pub same_content : bare m ≡ bare c → m ≡ c
  same_content e i =
      record {
        materials = (e i).materials;
        parts = (e i).parts;
        jobs = (e i).jobs;
        halts = halts_same texts m c given.well_formed same.many.halts same.halts i;
        begun = (e i).begun;
        orders = (e i).orders;
        notes = (e i).notes;
        demands = (e i).demands;
        kept = kept_same i;
        imports = imports_same i;
        entries = entries_same i;
        last_act = (e i).last_act;
        last_demand = (e i).last_demand;
      }

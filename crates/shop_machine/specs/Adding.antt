-- Adding a material.
use Rattle.std.specs.Prelude.{ℕ, ◌&&◌, ◌==◌, List, [], ◌∷◌, Bool, false, not, Option, Some, None}
use Rattle.cut_measure.specs.declared.sizes.Kind.{Kind}
use Rattle.cut_measure.specs.Measures.{CutParams, are_params}
use Rattle.shop_records.specs.declared.records.Material.{Material}
use Rattle.shop_records.specs.declared.changes.Change.{Change}
use Rattle.shop_records.specs.declared.refusals.Refusal.{Refusal}
use Rattle.shop_records.specs.declared.refusals.Refusal.TheVariants.{MaterialExists, BadMaterial}
use Rattle.shop_records.specs.declared.messages.Reply.TheVariants as reply
use Rattle.shop_records.specs.Same.{same_kind}
use Rattle.shop_records.specs.Content.{no_totals}
use Rattle.shop_machine.specs.Decisions.{first_of, no_change}

abbrev pub same_params : CutParams → CutParams → Bool
same_params a b = (a.kerf == b.kerf) && (a.min_long == b.min_long) && (a.min_short == b.min_short)

-- known with other values
abbrev pub is_other : Option Material → Kind → CutParams → Bool
is_other None kind params = false
is_other (Some m) kind params = not (same_kind m.kind kind && same_params m.limits params)

abbrev pub material_refusal : Option Material → Kind → CutParams → Option Refusal
material_refusal known kind params =
    first_of ((not (are_params kind params.kerf params.min_long params.min_short), BadMaterial) ∷ (is_other known kind params, MaterialExists) ∷ [])

-- a new material is put, with a row of zeros, and one that is known with equal values stays
abbrev pub material_change : Option Material → List ℕ → Kind → CutParams → Change
material_change None code kind params =
    record (no_change (reply.AddMaterial code)) {
      material = Some (record { code = code; kind = kind; limits = params });
      totals = Some (record { material = code; totals = no_totals });
    }
material_change (Some m) code kind params = no_change (reply.AddMaterial code)

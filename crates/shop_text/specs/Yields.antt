-- The yield report of a material.
use Rattle.std.specs.Prelude.{◌≡◌, ℕ, ◌-◌, ◌*◌, ◌/◌, ◌==◌, List, [], ◌++◌, codes, Bool, true, false, Option, Some, None, Result, Ok, Err, if◌then◌else◌, string_bytes, ⊤}
use Rattle.std.specs.Fmt.{decimal}
use Rattle.std.specs.List.{flat_map}
use Rattle.cut_measure.specs.Lengths.{mm_text}
use Rattle.cut_measure.specs.declared.sizes.Kind.{Kind}
use Rattle.cut_measure.specs.declared.sizes.Kind.TheVariants.{Bar, Sheet}
use Rattle.shop_records.specs.declared.records.Material.{Material}
use Rattle.shop_records.specs.declared.records.Part.{Part}
use Rattle.shop_records.specs.declared.records.State.{State}
use Rattle.shop_records.specs.declared.records.State.TheVariants.{Standing, Reserved}
use Rattle.shop_records.specs.declared.records.Totals.{Totals}
use Rattle.shop_records.specs.declared.refusals.Refusal.{Refusal}
use Rattle.shop_records.specs.declared.refusals.Refusal.TheVariants.{NoMaterial}
use Rattle.shop_records.specs.Content.{Content, material_at, totals_of, parts_of}
use Rattle.shop_text.specs.declared.yields.PartLines.{PartLines}
use Rattle.shop_text.specs.Printing.{to_the_right, size_text, part_start}

abbrev pub kind_text : Kind → List ℕ
kind_text Bar = codes "bar"
kind_text Sheet = codes "sheet"

-- a word of 8 places, and its number in 17
abbrev pub total_line : List ℕ → ℕ → List ℕ
total_line word n = word ++ to_the_right 17 (decimal n) ++ codes "\n"

abbrev pub total_lines : Totals → List ℕ
total_lines t =
    total_line (codes "received") t.received ++ total_line (codes "stock   ") t.stock ++ total_line (codes "rack    ") t.rack ++ total_line (codes "pieces  ") t.pieces
    ++ total_line (codes "kerf    ") t.kerf ++ total_line (codes "scrap   ") t.scrap ++ total_line (codes "returned") t.returned

-- how many of a thousand cells that were received and not returned became pieces; 0 where there are none
abbrev pub per_mille : Totals → ℕ
per_mille t = if t.received - t.returned == 0 then 0 else t.pieces * 1000 / (t.received - t.returned)

-- what a part that stands is printed as
abbrev pub standing_text : State → List ℕ
standing_text Standing = codes "standing"
standing_text (Reserved job) = codes "reserved " ++ decimal job
standing_text _ = []

abbrev pub line_end : State → List ℕ
line_end state = codes " " ++ standing_text state ++ codes "\n"

abbrev pub part_line : Kind → Part → List ℕ
part_line kind part = part_start part.name ++ size_text kind part.size.w part.size.h ++ line_end part.state

-- the lines in front of the parts
abbrev pub yield_head : List ℕ → Kind → Totals → List ℕ
yield_head code kind totals =
    codes "yield " ++ code ++ codes " " ++ kind_text kind ++ codes "\n" ++ total_lines totals ++ codes "yield " ++ mm_text (per_mille totals) ++ codes " %\n"

-- the report of a material of this kind with these totals and these parts
abbrev pub yield_text : List ℕ → Kind → Totals → List Part → List ℕ
yield_text code kind totals parts = yield_head code kind totals ++ flat_map (part_line kind) parts ++ codes "end\n"

abbrev pub yield_found : Content → List ℕ → Option Material → Result (List ℕ) Refusal
yield_found m code None = Err NoMaterial
yield_found m code (Some material) = Ok (yield_text code material.kind (totals_of m code) (parts_of m code))

-- the report of a material that is there, with the parts that stand
abbrev pub yield_of : Content → List ℕ → Result (List ℕ) Refusal
yield_of m code = yield_found m code (material_at m code)

-- a part's line is appended, or memory runs out
abbrev pub TakesLine : PartLines → Part → Bool → PartLines → Type 0
TakesLine old part true new = (new.kind ≡ old.kind) × (string_bytes new.text ≡ string_bytes old.text ++ part_line old.kind part)
TakesLine old part false new = ⊤

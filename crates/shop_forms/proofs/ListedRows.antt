-- Rows of lists as values and as text: numbers, the lines of an order, parts on the rack, and what lists report about.
use Rattle.std.proofs.Common.{◌≡◌, ℕ, suc, ◌<◌, ◌≤◌, ◌^◌, List, map, Some, refl, arith, codes}
use Rattle.std.specs.Prelude.{All, max}
use Rattle.std.proofs.Math.Nat.{max-le}
use Rattle.json.proofs.Printed.Decimals.{IsNumber-decimal}
use Rattle.json.specs.Tree.{ItemsHaveNumbers, HasNumbers, items_depth}
use Rattle.serde_json.specs.Data.{Data, boolean, number, string, unsigned}
use Rattle.serde_json.specs.Find.{get}
use Rattle.serde_json.specs.Read.{of_json, of_items}
use Rattle.serde_json.specs.View.{items_of}
use Rattle.serde_json.specs.Written.{outline, items_outline}
use Rattle.serde_json.proofs.Numbers.{number_of-decimal}
use Rattle.shop_files.specs.declared.orders.OrderLine.{OrderLine}
use Rattle.shop_records.specs.declared.records.DemandRow.{DemandRow}
use Rattle.shop_records.specs.declared.records.JobRow.{JobRow}
use Rattle.shop_records.specs.declared.records.Material.{Material}
use Rattle.shop_records.specs.declared.records.OrderRow.{OrderRow}
use Rattle.shop_records.specs.declared.records.Part.{Part}
use Rattle.shop_records.specs.declared.records.RackRow.{RackRow}
use Rattle.shop_records.specs.declared.pieces.PieceRow.{PieceRow}
use Rattle.shop_records.specs.declared.pieces.StepRow.{StepRow}
use Rattle.shop_records.specs.Columns.{state_of}
use Rattle.shop_records.specs.Messages.{IsLine, IsNumber}
use Rattle.shop_forms.specs.Fields.{number_of, numbers_at}
use Rattle.shop_forms.specs.Forms.{line_fields, line_of, lines_at, line_data, lines_data, list_data, material_data, part_data, demand_row_data, job_row_data, order_row_data, piece_data, rack_row_data, step_data}
use Rattle.shop_forms.specs.Reported.{HasWideSides, HasWideLimits, HasWidePart, HasWideDemand, HasWideJob, HasWideOrder, HasWidePiece, HasWideStep, cut_place, demand_cut}
use Rattle.shop_forms.proofs.FieldFacts.{small_is, number_there, code_there, flag_there}
use Rattle.shop_forms.proofs.Lists.{rows_numbers, rows_shallow, rows_json, rows_there}

wide : (n : ℕ) → n < 2 ^ 32 → n < 2 ^ 64
wide n h = omega arith

-- ---- numbers

abbrev pub cut_data : ℕ → Data
cut_data cut = number (unsigned cut)

pub cuts_there : (key : List ℕ) (d : Data) (cuts : List ℕ) → get key d ≡ Some (list_data cuts) → All IsNumber cuts → numbers_at key d ≡ Some cuts
cuts_there key d cuts is h = rows_there cut_data IsNumber number_of small_is key d cuts is h

pub cuts_numbers : (cuts : List ℕ) → All IsNumber cuts → ItemsHaveNumbers (items_outline (items_of (map cut_data cuts)))
cuts_numbers cuts h = rows_numbers cut_data IsNumber (λ c small. IsNumber-decimal c (wide c small)) cuts h

pub cuts_shallow : (cuts : List ℕ) → items_depth (items_outline (items_of (map cut_data cuts))) ≤ 1
cuts_shallow cuts = rows_shallow cut_data IsNumber (λ c. omega arith) cuts

pub cuts_json : (cuts : List ℕ) → All IsNumber cuts → of_items (items_outline (items_of (map cut_data cuts))) ≡ Some (items_of (map cut_data cuts))
cuts_json cuts h = rows_json cut_data IsNumber (λ c small. rw (number_of-decimal c (wide c small)) refl) cuts h

-- ---- the lines of an order

read_line : (d : Data) (l : OrderLine)
    → get (codes "line") d ≡ Some (number (unsigned l.line)) → get (codes "material") d ≡ Some (string l.material) → get (codes "w") d ≡ Some (number (unsigned l.w))
    → get (codes "h") d ≡ Some (number (unsigned l.h)) → get (codes "turn") d ≡ Some (boolean l.turn) → get (codes "count") d ≡ Some (number (unsigned l.count))
    → get (codes "worth") d ≡ Some (number (unsigned l.worth)) → IsLine l → line_fields d ≡ Some l
read_line d l a b c e f g k h =
    rw (
      number_there (codes "line") d l.line a h.line,
      code_there (codes "material") d l.material b h.material,
      number_there (codes "w") d l.w c h.w,
      number_there (codes "h") d l.h e h.h,
      flag_there (codes "turn") d l.turn f,
      number_there (codes "count") d l.count g h.count,
      number_there (codes "worth") d l.worth k h.worth,
    ) refl

line_back : (l : OrderLine) → IsLine l → line_of (line_data l) ≡ Some l
line_back l h = read_line (line_data l) l refl refl refl refl refl refl refl h

pub lines_there : (key : List ℕ) (d : Data) (ls : List OrderLine) → get key d ≡ Some (lines_data ls) → All IsLine ls → lines_at key d ≡ Some ls
lines_there key d ls is h = rows_there line_data IsLine line_of line_back key d ls is h

line_numbers : (l : OrderLine) → IsLine l → HasNumbers (outline (line_data l))
line_numbers l h = (
  IsNumber-decimal l.count (wide l.count h.count),
  (IsNumber-decimal l.h (wide l.h h.h), (IsNumber-decimal l.line (wide l.line h.line), (tt, (tt, (IsNumber-decimal l.w (wide l.w h.w), (IsNumber-decimal l.worth (wide l.worth h.worth), tt)))))),
)

pub lines_numbers : (ls : List OrderLine) → All IsLine ls → ItemsHaveNumbers (items_outline (items_of (map line_data ls)))
lines_numbers ls h = rows_numbers line_data IsLine line_numbers ls h

pub lines_shallow : (ls : List OrderLine) → items_depth (items_outline (items_of (map line_data ls))) ≤ 1
lines_shallow ls = rows_shallow line_data IsLine (λ l. omega arith) ls

line_json : (l : OrderLine) → IsLine l → of_json (outline (line_data l)) ≡ Some (line_data l)
line_json l h =
    rw (number_of-decimal l.count (wide l.count h.count), number_of-decimal l.h (wide l.h h.h), number_of-decimal l.line (wide l.line h.line), number_of-decimal l.w (wide l.w h.w), number_of-decimal l.worth (wide l.worth h.worth)) refl

pub lines_json : (ls : List OrderLine) → All IsLine ls → of_items (items_outline (items_of (map line_data ls))) ≡ Some (items_of (map line_data ls))
lines_json ls h = rows_json line_data IsLine line_json ls h

-- ---- parts on the rack

rack_row_numbers : (row : RackRow) → HasWideSides row → HasNumbers (outline (rack_row_data row))
rack_row_numbers row h = (IsNumber-decimal row.h h.0, (tt, (tt, (IsNumber-decimal row.w h.1, tt))))

rack_row_json : (row : RackRow) → HasWideSides row → of_json (outline (rack_row_data row)) ≡ Some (rack_row_data row)
rack_row_json row h = rw (number_of-decimal row.h h.0, number_of-decimal row.w h.1) refl

pub rack_numbers : (parts : List RackRow) → All HasWideSides parts → ItemsHaveNumbers (items_outline (items_of (map rack_row_data parts)))
rack_numbers parts h = rows_numbers rack_row_data HasWideSides rack_row_numbers parts h

pub rack_shallow : (parts : List RackRow) → items_depth (items_outline (items_of (map rack_row_data parts))) ≤ 1
rack_shallow parts = rows_shallow rack_row_data HasWideSides (λ row. omega arith) parts

pub rack_json : (parts : List RackRow) → All HasWideSides parts → of_items (items_outline (items_of (map rack_row_data parts))) ≡ Some (items_of (map rack_row_data parts))
rack_json parts h = rows_json rack_row_data HasWideSides rack_row_json parts h

-- ---- materials

material_numbers : (m : Material) → HasWideLimits m → HasNumbers (outline (material_data m))
material_numbers m h = (IsNumber-decimal m.limits.kerf h.0, (tt, (tt, (IsNumber-decimal m.limits.min_long h.1, (IsNumber-decimal m.limits.min_short h.2, tt)))))

material_json : (m : Material) → HasWideLimits m → of_json (outline (material_data m)) ≡ Some (material_data m)
material_json m h =
    rw (number_of-decimal m.limits.kerf h.0, number_of-decimal m.limits.min_long h.1, number_of-decimal m.limits.min_short h.2) refl

pub materials_numbers : (ms : List Material) → All HasWideLimits ms → ItemsHaveNumbers (items_outline (items_of (map material_data ms)))
materials_numbers ms h = rows_numbers material_data HasWideLimits material_numbers ms h

pub materials_shallow : (ms : List Material) → items_depth (items_outline (items_of (map material_data ms))) ≤ 1
materials_shallow ms = rows_shallow material_data HasWideLimits (λ m. omega arith) ms

pub materials_json : (ms : List Material) → All HasWideLimits ms → of_items (items_outline (items_of (map material_data ms))) ≡ Some (items_of (map material_data ms))
materials_json ms h = rows_json material_data HasWideLimits material_json ms h

-- ---- parts

part_numbers : (p : Part) → HasWidePart p → HasNumbers (outline (part_data p))
part_numbers p h =
    (tt, (IsNumber-decimal p.size.h h.0, (IsNumber-decimal (state_of p.state) h.1, (tt, (tt, (tt, (IsNumber-decimal p.size.w h.2, tt)))))))

part_json : (p : Part) → HasWidePart p → of_json (outline (part_data p)) ≡ Some (part_data p)
part_json p h = rw (number_of-decimal p.size.h h.0, number_of-decimal (state_of p.state) h.1, number_of-decimal p.size.w h.2) refl

pub parts_numbers : (ps : List Part) → All HasWidePart ps → ItemsHaveNumbers (items_outline (items_of (map part_data ps)))
parts_numbers ps h = rows_numbers part_data HasWidePart part_numbers ps h

pub parts_shallow : (ps : List Part) → items_depth (items_outline (items_of (map part_data ps))) ≤ 1
parts_shallow ps = rows_shallow part_data HasWidePart (λ p. omega arith) ps

pub parts_json : (ps : List Part) → All HasWidePart ps → of_items (items_outline (items_of (map part_data ps))) ≡ Some (items_of (map part_data ps))
parts_json ps h = rows_json part_data HasWidePart part_json ps h

-- ---- demands

demand_numbers : (row : DemandRow) → HasWideDemand row → HasNumbers (outline (demand_row_data row))
demand_numbers row h =
    let d = row.demand in (
      IsNumber-decimal d.number h.0,
      (
        IsNumber-decimal row.due h.1,
        (
          IsNumber-decimal d.size.h h.2,
          (
            IsNumber-decimal d.line h.3,
            (
              IsNumber-decimal d.made h.4,
              (tt, (tt, (IsNumber-decimal d.reserved h.5, (tt, (IsNumber-decimal d.size.w h.6, (IsNumber-decimal d.wanted h.7, (IsNumber-decimal d.worth h.8, tt))))))),
            ),
          ),
        ),
      ),
    )

demand_json : (row : DemandRow) → HasWideDemand row → of_json (outline (demand_row_data row)) ≡ Some (demand_row_data row)
demand_json row h =
    let d = row.demand in
    rw (number_of-decimal d.number h.0, number_of-decimal row.due h.1, number_of-decimal d.size.h h.2, number_of-decimal d.line h.3, number_of-decimal d.made h.4, number_of-decimal d.reserved h.5, number_of-decimal d.size.w h.6, number_of-decimal d.wanted h.7, number_of-decimal d.worth h.8) refl

pub demands_numbers : (ds : List DemandRow) → All HasWideDemand ds → ItemsHaveNumbers (items_outline (items_of (map demand_row_data ds)))
demands_numbers ds h = rows_numbers demand_row_data HasWideDemand demand_numbers ds h

pub demands_shallow : (ds : List DemandRow) → items_depth (items_outline (items_of (map demand_row_data ds))) ≤ 1
demands_shallow ds = rows_shallow demand_row_data HasWideDemand (λ d. omega arith) ds

pub demands_json : (ds : List DemandRow) → All HasWideDemand ds → of_items (items_outline (items_of (map demand_row_data ds))) ≡ Some (items_of (map demand_row_data ds))
demands_json ds h = rows_json demand_row_data HasWideDemand demand_json ds h

-- ---- waiting jobs

job_numbers : (j : JobRow) → HasWideJob j → HasNumbers (outline (job_row_data j))
job_numbers j h = (IsNumber-decimal j.begun h.0, (IsNumber-decimal j.cuts h.1, (IsNumber-decimal j.due h.2, (IsNumber-decimal j.h h.3, (IsNumber-decimal j.job h.4, (tt, (tt, (IsNumber-decimal j.w h.5, tt))))))))

job_json : (j : JobRow) → HasWideJob j → of_json (outline (job_row_data j)) ≡ Some (job_row_data j)
job_json j h =
    rw (number_of-decimal j.begun h.0, number_of-decimal j.cuts h.1, number_of-decimal j.due h.2, number_of-decimal j.h h.3, number_of-decimal j.job h.4, number_of-decimal j.w h.5) refl

pub jobs_numbers : (js : List JobRow) → All HasWideJob js → ItemsHaveNumbers (items_outline (items_of (map job_row_data js)))
jobs_numbers js h = rows_numbers job_row_data HasWideJob job_numbers js h

pub jobs_shallow : (js : List JobRow) → items_depth (items_outline (items_of (map job_row_data js))) ≤ 1
jobs_shallow js = rows_shallow job_row_data HasWideJob (λ j. omega arith) js

pub jobs_json : (js : List JobRow) → All HasWideJob js → of_items (items_outline (items_of (map job_row_data js))) ≡ Some (items_of (map job_row_data js))
jobs_json js h = rows_json job_row_data HasWideJob job_json js h

-- ---- orders

order_numbers : (o : OrderRow) → HasWideOrder o → HasNumbers (outline (order_row_data o))
order_numbers o h =
    (IsNumber-decimal o.due h.0, (IsNumber-decimal o.lines h.1, (IsNumber-decimal o.made h.2, (tt, (IsNumber-decimal o.reserved h.3, (tt, (IsNumber-decimal o.wanted h.4, tt)))))))

order_json : (o : OrderRow) → HasWideOrder o → of_json (outline (order_row_data o)) ≡ Some (order_row_data o)
order_json o h =
    rw (number_of-decimal o.due h.0, number_of-decimal o.lines h.1, number_of-decimal o.made h.2, number_of-decimal o.reserved h.3, number_of-decimal o.wanted h.4) refl

pub orders_numbers : (os : List OrderRow) → All HasWideOrder os → ItemsHaveNumbers (items_outline (items_of (map order_row_data os)))
orders_numbers os h = rows_numbers order_row_data HasWideOrder order_numbers os h

pub orders_shallow : (os : List OrderRow) → items_depth (items_outline (items_of (map order_row_data os))) ≤ 1
orders_shallow os = rows_shallow order_row_data HasWideOrder (λ o. omega arith) os

pub orders_json : (os : List OrderRow) → All HasWideOrder os → of_items (items_outline (items_of (map order_row_data os))) ≡ Some (items_of (map order_row_data os))
orders_json os h = rows_json order_row_data HasWideOrder order_json os h

-- ---- pieces

piece_numbers : (p : PieceRow) → HasWidePiece p → HasNumbers (outline (piece_data p))
piece_numbers p h =
    (IsNumber-decimal p.at h.0, (tt, (IsNumber-decimal p.demand h.1, (IsNumber-decimal p.h h.2, (IsNumber-decimal p.line h.3, (tt, (tt, (tt, (tt, (IsNumber-decimal p.w h.4, tt))))))))))

piece_json : (p : PieceRow) → HasWidePiece p → of_json (outline (piece_data p)) ≡ Some (piece_data p)
piece_json p h =
    rw (number_of-decimal p.at h.0, number_of-decimal p.demand h.1, number_of-decimal p.h h.2, number_of-decimal p.line h.3, number_of-decimal p.w h.4) refl

pub pieces_numbers : (ps : List PieceRow) → All HasWidePiece ps → ItemsHaveNumbers (items_outline (items_of (map piece_data ps)))
pieces_numbers ps h = rows_numbers piece_data HasWidePiece piece_numbers ps h

pub pieces_shallow : (ps : List PieceRow) → items_depth (items_outline (items_of (map piece_data ps))) ≤ 1
pieces_shallow ps = rows_shallow piece_data HasWidePiece (λ p. omega arith) ps

pub pieces_json : (ps : List PieceRow) → All HasWidePiece ps → of_items (items_outline (items_of (map piece_data ps))) ≡ Some (items_of (map piece_data ps))
pieces_json ps h = rows_json piece_data HasWidePiece piece_json ps h

-- ---- nodes of a plan

step_numbers : (r : StepRow) → HasWideStep r → HasNumbers (outline (step_data r))
step_numbers r h = (
  IsNumber-decimal (demand_cut r.step.what) h.0,
  (
    IsNumber-decimal r.step.h h.1,
    (
      IsNumber-decimal r.line h.2,
      (
        IsNumber-decimal r.step.node h.3,
        (tt, (tt, (IsNumber-decimal (cut_place r.step.what) h.4, (tt, (tt, (IsNumber-decimal r.step.w h.5, (tt, (IsNumber-decimal r.step.x h.6, (IsNumber-decimal r.step.y h.7, tt))))))))),
      ),
    ),
  ),
)

step_json : (r : StepRow) → HasWideStep r → of_json (outline (step_data r)) ≡ Some (step_data r)
step_json r h =
    rw (number_of-decimal (demand_cut r.step.what) h.0, number_of-decimal r.step.h h.1, number_of-decimal r.line h.2, number_of-decimal r.step.node h.3, number_of-decimal (cut_place r.step.what) h.4, number_of-decimal r.step.w h.5, number_of-decimal r.step.x h.6, number_of-decimal r.step.y h.7) refl

pub steps_numbers : (rs : List StepRow) → All HasWideStep rs → ItemsHaveNumbers (items_outline (items_of (map step_data rs)))
steps_numbers rs h = rows_numbers step_data HasWideStep step_numbers rs h

pub steps_shallow : (rs : List StepRow) → items_depth (items_outline (items_of (map step_data rs))) ≤ 1
steps_shallow rs = rows_shallow step_data HasWideStep (λ r. omega arith) rs

pub steps_json : (rs : List StepRow) → All HasWideStep rs → of_items (items_outline (items_of (map step_data rs))) ≡ Some (items_of (map step_data rs))
steps_json rs h = rows_json step_data HasWideStep step_json rs h

-- ---- how deep their replies are

-- an object with a list of objects first, and so many members after it
pub shallow_first_of_two : (n : ℕ) → n ≤ 1 → suc (max (suc n) (max 0 0)) ≤ 127
shallow_first_of_two n h = let e : max (suc n) (max 0 0) ≤ 126 = max-le (omega (arith, h)) (omega arith) in omega (arith, e)

pub shallow_first_of_three : (n : ℕ) → n ≤ 1 → suc (max (suc n) (max 0 (max 0 0))) ≤ 127
shallow_first_of_three n h = let e : max (suc n) (max 0 (max 0 0)) ≤ 126 = max-le (omega (arith, h)) (omega arith) in omega (arith, e)

-- an object with three members and then a list of objects
pub shallow_fourth : (n : ℕ) → n ≤ 1 → suc (max 0 (max 0 (max 0 (max (suc n) 0)))) ≤ 127
shallow_fourth n h =
    let e : max 0 (max 0 (max 0 (max (suc n) 0))) ≤ 126 = max-le (omega arith) (max-le (omega arith) (max-le (omega arith) (max-le (omega (arith, h)) (omega arith)))) in omega (arith, e)

-- one with six members and then a list of objects
pub shallow_seventh : (n : ℕ) → n ≤ 1 → suc (max 0 (max 0 (max 0 (max 0 (max 0 (max 0 (max (suc n) 0))))))) ≤ 127
shallow_seventh n h =
    let inner : max 0 (max 0 (max 0 (max (suc n) 0))) ≤ 126 = max-le (omega arith) (max-le (omega arith) (max-le (omega arith) (max-le (omega (arith, h)) (omega arith)))) in
    let e : max 0 (max 0 (max 0 (max 0 (max 0 (max 0 (max (suc n) 0)))))) ≤ 126 = max-le (omega arith) (max-le (omega arith) (max-le (omega arith) inner)) in omega (arith, e)

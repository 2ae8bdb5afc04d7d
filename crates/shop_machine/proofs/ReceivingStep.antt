-- A content after units were received.
use Rattle.std.proofs.Common.{◌≡◌, ℕ, zero, suc, ◌+◌, ◌*◌, ◌≤◌, ◌<◌, inl, inr, List, [], ◌∷◌, ◌++◌, length, Bool, true, false, refl, sym, ap, subst, ◌∙◌, arith}
use Rattle.std.specs.Prelude.{Some, None, IsSome, ◌⊎◌, sum_by, ◌&&◌, ◌==◌, if◌then◌else◌, Option, nat_le, nat_lt, not}
use Rattle.std.specs.declared.cmp.Ordering.TheVariants.{Less}
use Rattle.std.specs.Ordering.{is_eq}
use Rattle.std.specs.FinMap.{FinMap, values}
use Rattle.std.proofs.lemmas.List.{length-map}
use Rattle.std.proofs.lemmas.List.Sums.{sum_by-cons}
use Rattle.std.proofs.lemmas.List.Elements.{All-nil}
use Rattle.std.proofs.lemmas.Bool.{eq-eqb, and_parts, not-false, leb-true, le-leb, ltb-false}
use Rattle.cut_measure.proofs.Cells.{length-below}
use Rattle.cut_measure.specs.Codes.{code_cmp}
use Rattle.cut_measure.specs.Names.{Name, name_cmp}
use Rattle.cut_measure.specs.Measures.{Size, below, is_size}
use Rattle.cut_measure.specs.declared.ranges.TheConstants.{MAX_NUMBERS}
use Rattle.cut_measure.specs.declared.sizes.Kind.TheVariants.{Bar}
use Rattle.shop_records.specs.declared.records.TheConstants.{MAX_RECEIVED}
use Rattle.shop_machine.specs.declared.receiving.TheConstants.{MAX_RECEIVED_UNITS}
use Rattle.shop_records.specs.declared.records.Material.{Material}
use Rattle.shop_records.specs.declared.records.Part.{Part}
use Rattle.shop_records.specs.declared.records.Demand.{Demand}
use Rattle.shop_records.specs.declared.records.Column.{Column}
use Rattle.shop_records.specs.declared.records.Column.TheVariants.{Received, Stock, Rack, Pieces, Kerf, Scrap, Returned}
use Rattle.shop_records.specs.declared.records.Totals.{Totals}
use Rattle.shop_records.specs.declared.texts.Kept.{Kept}
use Rattle.shop_records.specs.declared.imports.ImportRow.{ImportRow}
use Rattle.shop_records.specs.declared.messages.Message.{Message}
use Rattle.shop_records.specs.declared.refusals.Refusal.TheVariants.{BadSize, BadCount, TooMuch, NumbersSpent}
use Rattle.shop_records.specs.declared.messages.Command.TheVariants.{Receive}
use Rattle.shop_records.specs.Messages.{Texts, message_id_of}
use Rattle.shop_records.specs.Same.{same_name}
use Rattle.shop_records.specs.Columns.{is_piece_for, is_counted}
use Rattle.shop_records.specs.Content.{Content, message_id_cmp, material_at, part_at, kept_at, changed, cells_in, totals_in, totals_of, AddsUp}
use Rattle.shop_machine.specs.Receiving.{unit_part, unit_parts, receive_change, receive_refusal, received_totals}
use Rattle.shop_machine.specs.Machine.{keeping, refusal_of}
use Rattle.shop_records.specs.Elements.{IsIn}
use Rattle.shop_records.specs.WellFormed.{IsPlaced, IsNewPart, Fits, made_in, with_totals}
use Rattle.shop_records.specs.Readings.{Reading}
use Rattle.shop_records.proofs.Basics.{in_map, in_append, codes_same, same_some, put_cases, earlier_node}
use Rattle.shop_records.proofs.Puts.{Pairwise, all_from, pairs_from, pairs_more, map_pairs, sum_as, is_known, equal, put_other, sum_parts}
use Rattle.shop_machine.proofs.Allowed.{none_of, IsSized, sized, flat}
use Rattle.shop_machine.proofs.AddedUp.{cells_as, cells_left, adds_up, adds_up_so}
use Rattle.shop_machine.proofs.Grown.{with_messages, IsStock, IsStill, Grows, placed_more, job_more, none_later, demand_more, no_message_ids}
use Rattle.shop_machine.proofs.Tallied.{own, same_totals, same_sums}
use Rattle.shop_machine.proofs.Agreeing.{NoFault, other, no_such}

-- ---- what is known of a receipt that isn't refused

pub record IsReceipt (known : Option Material) (totals : Totals) (act w h count : ℕ) : Type 0 where
  pub material : Material
  pub is_known : known ≡ Some material
  pub size : IsSized w h
  pub one_high : material.kind ≡ Bar → h ≡ 1
  pub few : count ≤ MAX_RECEIVED_UNITS
  pub in_limit : totals.received + w * h * count ≤ MAX_RECEIVED
  pub number : act ≤ MAX_NUMBERS

pub receipt_of : (known : Option Material) (totals : Totals) (act w h count : ℕ) → receive_refusal known totals act w h count ≡ None → IsReceipt known totals act w h count
receipt_of None totals act w h count e = cc
receipt_of (Some m) totals act w h count e =
    let size = none_of (not (is_size m.kind w h)) BadSize _ e in
    let number = none_of (not (nat_le 1 count && nat_le count MAX_RECEIVED_UNITS)) BadCount _ size.1 in
    let in_limit = none_of (nat_lt MAX_RECEIVED (totals.received + w * h * count)) TooMuch _ number.1 in
    let last = none_of (nat_lt MAX_NUMBERS act) NumbersSpent _ in_limit.1 in
    record {
      material = m;
      is_known = refl;
      size = sized m.kind w h (not-false (is_size m.kind w h) size.0);
      one_high = flat m.kind w h (not-false (is_size m.kind w h) size.0);
      few = leb-true count MAX_RECEIVED_UNITS (and_parts (nat_le 1 count) (nat_le count MAX_RECEIVED_UNITS) (not-false (nat_le 1 count && nat_le count MAX_RECEIVED_UNITS) number.0)).1;
      in_limit = ltb-false MAX_RECEIVED (totals.received + w * h * count) in_limit.0;
      number = ltb-false MAX_NUMBERS act last.0;
    }

pub receipt : (m : Content) (material batch : List ℕ) (w h count : ℕ) (read : Reading) → refusal_of m (Receive material batch w h count) read ≡ None
    → IsReceipt (material_at m material) (totals_of m material) (m.last_act + 1) w h count
receipt m material batch w h count read allowed = receipt_of (material_at m material) (totals_of m material) (m.last_act + 1) w h count allowed

-- ---- numbers below n

in_below : (n i : ℕ) → IsIn i (below n) → i < n
in_below zero i h = absurd h
in_below (suc n) i h =
    elim (in_append i (below n) (n ∷ []) h) [
      | inl p ↦ let less = in_below n i p in omega (arith, less)
      | inr q ↦ elim q [ inl e ↦ omega (arith, e) | inr none ↦ absurd none ]
    ]

append_pairs : {X : Type 0} (R : X → X → Type 0) (xs : List X) (y : X) → Pairwise R xs → ((x : X) → IsIn x xs → R x y) → Pairwise R (xs ++ y ∷ [])
append_pairs R [] y p h = (λ z i. absurd i, tt)
append_pairs {X} R (x ∷ xs) y p h = (by, append_pairs R xs y p.1 (λ z i. h z (inr i)))
  where
    by : (z : X) → IsIn z (xs ++ y ∷ []) → R x z
    by z i =
        elim (in_append z xs (y ∷ []) i) [
          | inl q ↦ p.0 z q
          | inr q ↦ elim q [ inl e ↦ subst (R x) (sym e) (h x (inl refl)) | inr none ↦ absurd none ]
        ]

below_rises : (n : ℕ) → Pairwise (λ (a b : ℕ). a < b) (below n)
below_rises zero = tt
below_rises (suc n) = append_pairs (λ (a b : ℕ). a < b) (below n) n (below_rises n) (λ i h. in_below n i h)

-- ---- the content after a receipt

same_self : (name : Name) → same_name name name ≡ true
same_self name = ap (λ b. b && (name.node == name.node)) (eq-eqb name.act name.act refl) ∙ eq-eqb name.node name.node refl

module _ (m : Content) (stock : IsStock m) (material batch : List ℕ) (w h count : ℕ)
    (receipt : IsReceipt (material_at m material) (totals_of m material) (m.last_act + 1) w h count) where
  abbrev size : Size
  size = record { w = w; h = h }

  abbrev act : ℕ
  act = m.last_act + 1

  abbrev units : List Part
  units = unit_parts material batch size act count

  -- a unit's number, and the unit
  unit_in : (x : Part) → IsIn x units → (i : ℕ) × (x ≡ unit_part material batch size act i)
  unit_in x i = let r = in_map (unit_part material batch size act) (below count) x i in (r.0, r.2)

  unit_act : (x : Part) → IsIn x units → x.name.act ≡ act
  unit_act x i = ap (λ (p : Part). p.name.act) (unit_in x i).1

  unit_new : (x : Part) → IsIn x units → part_at m x.name ≡ None
  unit_new x i = let e = unit_act x i in none_later m stock.in_range x.name (omega (arith, e))

  units_rise : Pairwise (λ (a b : Part). name_cmp a.name b.name ≡ Less) units
  units_rise =
      map_pairs (λ (a b : Part). name_cmp a.name b.name ≡ Less) (unit_part material batch size act) (below count)
      (pairs_more (λ (a b : ℕ). a < b) _ (λ a b less. earlier_node (record { act = act; node = a }) (record { act = act; node = b }) refl less) (below count) (below_rises count))

  units_apart : Pairwise (λ (a b : Part). a.name ≡ b.name → ⊥) units
  units_apart =
      map_pairs (λ (a b : Part). a.name ≡ b.name → ⊥) (unit_part material batch size act) (below count)
      (pairs_more (λ (a b : ℕ). a < b) _ (λ a b less e. let same : a ≡ b = ap (λ (n : Name). n.node) e in omega (arith, less, same)) (below count) (below_rises count))

  module _ (kept : FinMap message_id_cmp Kept) (imports : FinMap code_cmp ImportRow) where
    abbrev after : Content
    after = with_messages kept imports (changed m (receive_change material batch size act count (totals_of m material)))

    sum_after : (f : Part → ℕ) → sum_by f (values after.parts) ≡ sum_by f (values m.parts) + sum_by f units
    sum_after f =
        sum_parts f units m.parts units_apart unit_new

    -- each unit has the same number
    sum_units : (f : Part → ℕ) (c : ℕ) → ((i : ℕ) → f (unit_part material batch size act i) ≡ c) → sum_by f units ≡ count * c
    sum_units f c same =
        sum_as f (λ x. c) units (λ x i. let r = unit_in x i in ap f r.1 ∙ same r.0) ∙ sum_constant c units
        ∙ ap (λ n. n * c) (length-map (below count) (unit_part material batch size act) ∙ length-below count)
      where
        sum_constant : (c : ℕ) (xs : List Part) → sum_by (λ x. c) xs ≡ length xs * c
        sum_constant c [] = omega arith
        sum_constant c (x ∷ xs) = let rest = sum_constant c xs in omega (arith, sum_by-cons (λ x. c) x xs, rest)

    found_after : (name : Name) (p : Part) → part_at after name ≡ Some p → (IsIn p units × (p.name ≡ name)) ⊎ (part_at m name ≡ Some p)
    found_after name p is =
        elim (put_cases units m.parts name) [
          | inl q ↦
              let same : q.0 ≡ p = same_some q.0 p (sym q.3 ∙ is) in
              inl (subst (λ (x : Part). IsIn x units) same q.1, ap (λ (x : Part). x.name) (sym same) ∙ q.2)
          | inr q ↦ inr (sym q.1 ∙ is)
        ]

    other_after : (name : Name) → (name.act ≡ act → ⊥) → part_at after name ≡ part_at m name
    other_after name other =
        put_other units m.parts name (λ x i e. other (ap (λ (n : Name). n.act) (sym e) ∙ unit_act x i))

    still_after : (name : Name) (p : Part) → part_at m name ≡ Some p → IsStill after name p
    still_after name p is = (p.state, other_after name (λ e. let old = stock.in_range.acts name p is in omega (arith, old, e)) ∙ is)

    grows : Grows m after
    grows = record { materials = λ code x is. is; parts = still_after; demands = λ number some. some; orders = λ code is. is; acts = omega arith }

    unit_received : (code : List ℕ) (b : Bool) → is_eq (code_cmp material code) ≡ b → (i : ℕ) → cells_as Received code (unit_part material batch size act i) ≡ (if b then w * h else 0)
    unit_received code b e i =
        ap (λ t. if t && same_name (record { act = act; node = i }) (record { act = act; node = i }) then w * h else 0) e
        ∙ ap (λ t. if b && t then w * h else 0) (same_self (record { act = act; node = i })) ∙ by b
      where
        by : (b : Bool) → ◌≡◌ {A = ℕ} (if b && true then w * h else 0) (if b then w * h else 0)
        by true = refl
        by false = refl

    unit_left : (code : List ℕ) (b : Bool) → is_eq (code_cmp material code) ≡ b → (i : ℕ) → cells_left code (unit_part material batch size act i) ≡ (if b then w * h else 0)
    unit_left code b e i = ap (λ t. if t && true then w * h else 0) e ∙ by b
      where
        by : (b : Bool) → ◌≡◌ {A = ℕ} (if b && true then w * h else 0) (if b then w * h else 0)
        by true = refl
        by false = refl

    received_by : (code : List ℕ) (b : Bool) → is_eq (code_cmp material code) ≡ b → cells_in Received code (values after.parts) ≤ MAX_RECEIVED
    received_by code true e =
        let same : material ≡ code = codes_same material code (equal (code_cmp material code) e) in
        let before : (totals_of m code).received ≡ (totals_of m material).received = ap (λ c. (totals_of m c).received) (sym same) in
        let sum = sum_after (cells_as Received code) in
        let new = sum_units (cells_as Received code) (w * h) (unit_received code true e) in
        within (cells_in Received code (values after.parts)) (totals_of m code).received (totals_of m material).received (sum_by (cells_as Received code) units) (w * h) count sum before new receipt.in_limit
      where
        within : (n r s p q c : ℕ) → n ≡ r + p → r ≡ s → p ≡ c * q → s + q * c ≤ MAX_RECEIVED → n ≤ MAX_RECEIVED
        within n r s p q c a b d e = omega (arith, a, b, d, e)
    received_by code false e =
        let sum = sum_after (cells_as Received code) in
        let new = sum_units (cells_as Received code) 0 (unit_received code false e) in
        let old = stock.in_range.received code in
        omega (arith, sum, new, old)

    adds_up_after : (code : List ℕ) → AddsUp (totals_in code (values after.parts))
    adds_up_after code =
        let b = is_eq (code_cmp material code) in
        let r = sum_after (cells_as Received code) in
        let l = sum_after (cells_left code) in
        let rn = sum_units (cells_as Received code) (if b then w * h else 0) (unit_received code b refl) in
        let ln = sum_units (cells_left code) (if b then w * h else 0) (unit_left code b refl) in
        let old = adds_up_so code (values m.parts) (stock.in_range.adds_up code) in
        adds_up code (values after.parts) (r ∙ ap (λ n. n + sum_by (cells_as Received code) units) old ∙ ap (λ n. sum_by (cells_left code) (values m.parts) + n) (rn ∙ sym ln) ∙ sym l)

    made_after : (number : ℕ) → made_in number after ≡ made_in number m
    made_after number =
        let sum = sum_after (λ (p : Part). if is_piece_for number p.state then 1 else 0) in
        let none = sum_units (λ (p : Part). if is_piece_for number p.state then 1 else 0) 0 (λ i. refl) in
        omega (arith, sum, none)

    unit_placed : (name : Name) (p : Part) → IsIn p units → p.name ≡ name → IsPlaced after name p
    unit_placed name p i e =
        let r = unit_in p i in
        subst (IsPlaced after name) (sym r.1)
        (record {
          named = sym (ap (λ (x : Part). x.name) r.1) ∙ e;
          rooted = omega arith;
          known = is_known (material_at m material) receipt.material receipt.is_known;
          some_width = receipt.size.some_width;
          some_height = receipt.size.some_height;
          right = let less = receipt.size.width in omega (arith, less);
          bottom = let less = receipt.size.height in omega (arith, less);
          flat = λ x is bar. receipt.one_high (ap (λ (y : Material). y.kind) (same_some receipt.material x (sym receipt.is_known ∙ is)) ∙ bar);
          asked = λ number never. absurd (let no : false ≡ true = never in cc);
        })

    pub receive_stock : IsStock after
    receive_stock = record {
      in_range = record {
        acts = λ name p is.
            elim (found_after name p is) [
              | inl q ↦ let one = unit_act p q.0 in let named = ap (λ (n : Name). n.act) q.1 in omega (arith, one, named)
              | inr q ↦ let old = stock.in_range.acts name p q in omega (arith, old)
            ];
        last = receipt.number;
        last_demand = stock.in_range.last_demand;
        received = λ code. received_by code (is_eq (code_cmp material code)) refl;
        adds_up = adds_up_after;
      };
      materials = stock.materials;
      parts = λ name p is.
          elim (found_after name p is) [
            | inl q ↦ unit_placed name p q.0 q.1
            | inr q ↦ placed_more m after grows name p (stock.parts name p q)
          ];
      jobs = λ number j is.
          let old = stock.jobs number j is in
          let named = old.numbered in
          let so_far = old.so_far in
          job_more m after grows number j
          (λ w.
          let older = w.older in
          record {
            same = other_after j.part (λ e. omega (arith, older, named, so_far, e));
            none_yet = λ node. other_after (record { act = j.act; node = node }) (λ e. omega (arith, named, so_far, e)) ∙ w.none_yet node;
          }) old;
      halts = stock.halts;
      demands = λ number d is.
          let old = stock.demands number d is in
          demand_more m after grows (omega arith) number d old
          (record { few = old.counted.few; reserved = old.counted.reserved; made = old.counted.made ∙ sym (made_after number) });
      lines = stock.lines;
    }

    -- whether a unit is counted in a column
    abbrev of_units : Column → Bool
    of_units Received = true
    of_units Stock = true
    of_units _ = false

    unit_counted : (c : Column) (i : ℕ) → is_counted c (unit_part material batch size act i) ≡ of_units c
    unit_counted Received i = same_self (record { act = act; node = i })
    unit_counted Stock i = same_self (record { act = act; node = i })
    unit_counted Rack i = ap not (same_self (record { act = act; node = i }))
    unit_counted Pieces i = refl
    unit_counted Kerf i = refl
    unit_counted Scrap i = refl
    unit_counted Returned i = refl

    column_after : (c : Column) (code : List ℕ) (b : Bool) → is_eq (code_cmp material code) ≡ b
        → cells_in c code (values after.parts) ≡ cells_in c code (values m.parts) + count * (if b && of_units c then w * h else 0)
    column_after c code b e =
        let sum = sum_after (cells_as c code) in
        let units = sum_units (cells_as c code) (if b && of_units c then w * h else 0)
        (λ i. ap (λ t. if t && is_counted c (unit_part material batch size act i) then w * h else 0) e ∙ ap (λ t. if b && t then w * h else 0) (unit_counted c i)) in
        sum ∙ ap (λ n. cells_in c code (values m.parts) + n) units

    stays : (c : Column) (code : List ℕ) → is_eq (code_cmp material code) ≡ false → cells_in c code (values after.parts) ≡ cells_in c code (values m.parts)
    stays c code e = let sum = column_after c code false e in omega (arith, sum)

    gains : (c : Column) → of_units c ≡ true → cells_in c material (values after.parts) ≡ cells_in c material (values m.parts) + w * h * count
    gains c e =
        more (cells_in c material (values after.parts)) (cells_in c material (values m.parts)) (w * h) count
        (column_after c material true (own material) ∙ ap (λ b. cells_in c material (values m.parts) + count * (if b then w * h else 0)) e)
      where
        more : (n r q c : ℕ) → n ≡ r + c * q → n ≡ r + q * c
        more n r q c a = omega (arith, a)

    keeps : (c : Column) → of_units c ≡ false → cells_in c material (values after.parts) ≡ cells_in c material (values m.parts)
    keeps c e =
        let sum = column_after c material true (own material) ∙ ap (λ b. cells_in c material (values m.parts) + count * (if b then w * h else 0)) e in
        omega (arith, sum)

    sums_after : (code : List ℕ)
        → totals_of after code ≡ with_totals (Some (record { material = material; totals = received_totals (w * h * count) (totals_of m material) })) code (totals_of m code)
    sums_after code = by (is_eq (code_cmp material code)) refl
      where
        by : (b : Bool) → is_eq (code_cmp material code) ≡ b
            → totals_of after code ≡ (if is_eq (code_cmp material code) then received_totals (w * h * count) (totals_of m material) else totals_of m code)
        by true e =
            ap (totals_of after) (sym (codes_same material code (equal (code_cmp material code) e)))
            ∙ same_totals (totals_of after material) (received_totals (w * h * count) (totals_of m material)) (gains Received refl) (gains Stock refl) (keeps Rack refl) (keeps Pieces refl)
            (keeps Kerf refl) (keeps Scrap refl) (keeps Returned refl)
            ∙ sym (ap (λ b. if b then received_totals (w * h * count) (totals_of m material) else totals_of m code) e)
        by false e =
            same_sums code (values after.parts) (values m.parts) (λ c. stays c code e)
            ∙ sym (ap (λ b. if b then received_totals (w * h * count) (totals_of m material) else totals_of m code) e)

  pub receive_fits : (texts : Texts) (message : Message) → kept_at m (message_id_of message) ≡ None → Fits m (keeping texts message (receive_change material batch size act count (totals_of m material)))
  receive_fits texts message new = record {
    material = tt;
    parts = all_from (IsNewPart m) units
        (λ x i. record {
          new = unit_new x i;
          known = subst (λ (p : Part). IsSome (material_at m p.material)) (sym (unit_in x i).1) (is_known (material_at m material) receipt.material receipt.is_known);
        });
    rising = pairs_from (λ (a b : Part). name_cmp a.name b.name ≡ Less) units units_rise;
    moved = tt;
    undone = All-nil _;
    apart = no_message_ids (λ (a b : Part). name_cmp a.name b.name ≡ Less);
    halt = tt;
    begun = tt;
    extended = tt;
    note = tt;
    job = tt;
    order = tt;
    demands = All-nil _;
    wanted = All-nil _;
    once = no_message_ids (λ (a b : Demand). a.number ≡ b.number → ⊥);
    lines = tt;
    totals = is_known (material_at m material) receipt.material receipt.is_known;
    sums = sums_after m.kept m.imports;
    act = (omega arith, receipt.number);
    demand = tt;
    import = tt;
    kept = new;
    entry = tt;
  }

-- ---- its refusals

pub receive_agrees : (known : Option Material) (totals : Totals) (act w h count : ℕ) → totals.stock ≤ totals.received → NoFault (receive_refusal known totals act w h count)
receive_agrees None totals act w h count le = λ e. cc
receive_agrees (Some m) totals act w h count le =
    other (not (is_size m.kind w h)) _ _ (λ e. cc)
    (other (not (nat_le 1 count && nat_le count MAX_RECEIVED_UNITS)) _ _ (λ e. cc)
    (other (nat_lt MAX_RECEIVED (totals.received + w * h * count)) _ _ (λ e. cc)
    (other (nat_lt MAX_NUMBERS act) _ _ (λ e. cc) (no_such (nat_le totals.stock totals.received) (le-leb totals.stock totals.received le)))))

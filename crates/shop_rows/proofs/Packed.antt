-- Parts whose rows give the numbers of their origins.
use Rattle.std.proofs.Common.{◌≡◌, ℕ, zero, suc, ◌+◌, ◌-◌, ◌<◌, ◌≤◌, Bool, true, false, List, [], ◌∷◌, ◌++◌, length, map, take, get_or, refl, sym, ap, subst, ◌∙◌, add-one, arith, true≢false}
use Rattle.std.specs.Prelude.{All, None, Some, ◌&&◌, nat_lt, not, vec_len, vec_capacity}
use Rattle.std.specs.List.{insert_slice, list_all, slice_get}
use Rattle.std.specs.Option.{option_map}
use Rattle.std.proofs.lemmas.Bool.{ltb-true, lt-ltb}
use Rattle.std.proofs.lemmas.List.{append-nil, append_assoc, get_or_append_left, get_or_default, length-append, length-map, length-take-le, map-append}
use Rattle.std.proofs.Math.Seq.{take-suc}
use Rattle.std.proofs.lemmas.List.Folds.{list_all-append}
use Rattle.cut_measure.specs.Names.{Name, name_cmp}
use Rattle.shop_records.specs.declared.records.Part.{Part}
use Rattle.shop_rows.specs.Keys.{part_key}
use Rattle.shop_rows.specs.PartRows.{no_origin, part_of, parts_in, row_key, AreBelow, AreAppended, AreKnown, HasCapacity, IsNumbered, TakesNumber}
use Rattle.shop_rows.specs.SameParts.{part_decides, same_part}
use Rattle.shop_rows.specs.Rows.{entries_of, put_each, rise, row_at, ArePut, IsPut, IsRun}
use Rattle.shop_rows.specs.declared.part_rows.Origin.{Origin}
use Rattle.shop_rows.specs.declared.part_rows.PartRow.{PartRow}
use Rattle.shop_rows.specs.declared.part_rows.PartRows.{PartRows}
use Rattle.shop_rows.proofs.Mapped.{all-inserted, all-put, all_put-map, found-passes, inserted-map, keys-map, put-map, rise-map, row_at-map}
use Rattle.shop_rows.proofs.Summed.{both}

-- ---- more origins

pub below_more : (m n : ℕ) (rows : List PartRow) → m ≤ n → AreBelow m rows → AreBelow n rows
below_more m n [] more known = refl
below_more m n (row ∷ rows) more known =
    let t = both (nat_lt row.origin m) (list_all (λ r. nat_lt r.origin m) rows) known in
    let less = ltb-true row.origin m t.0 in
    ap (λ b. b && list_all (λ r. nat_lt r.origin n) rows) (lt-ltb row.origin n (omega arith)) ∙ below_more m n rows more t.1

-- rows whose numbers are known stand for the same parts, whatever origins come
pub same_parts : (origins more : List Origin) (rows : List PartRow) → AreBelow (length origins) rows → map (part_of (origins ++ more)) rows ≡ map (part_of origins) rows
same_parts origins more [] known = refl
same_parts origins more (row ∷ rows) known =
    let t = both (nat_lt row.origin (length origins)) (list_all (λ r. nat_lt r.origin (length origins)) rows) known in
    let less = ltb-true row.origin (length origins) t.0 in
    let same = get_or_append_left origins more no_origin row.origin less in
    λ i. record { name = row.name; material = (same i).material; batch = (same i).batch; root = row.root; x = row.x; y = row.y; size = row.size; state = row.state } ∷ same_parts origins more rows t.1 i

-- ---- the rows and their parts

pub rise-parts : (parts : PartRows) → rise part_key name_cmp (parts_in parts) ≡ rise row_key name_cmp parts.rows.items
rise-parts parts = rise-map row_key part_key name_cmp (part_of parts.origins.items) (λ row. refl) parts.rows.items

pub found-parts : (name : Name) (parts : PartRows) → row_at part_key name_cmp name (parts_in parts) ≡ option_map (part_of parts.origins.items) (row_at row_key name_cmp name parts.rows.items)
found-parts name parts = row_at-map row_key part_key name_cmp (part_of parts.origins.items) (λ row. refl) name parts.rows.items

-- a row that is found has the number of an origin
pub known-found : (name : Name) (row : PartRow) (parts : PartRows) → AreKnown parts → row_at row_key name_cmp name parts.rows.items ≡ Some row → row.origin < length parts.origins.items
known-found name row parts known found =
    ltb-true row.origin (length parts.origins.items) (found-passes (λ r. nat_lt r.origin (length parts.origins.items)) row_key name_cmp name row parts.rows.items known found)

-- the number that stands there is the part's
pub no_new : (part : Part) (number recent : ℕ) (parts : PartRows) → IsNumbered part number parts.origins.items → TakesNumber part number parts (record { rows = parts.rows; origins = parts.origins; recent = recent })
no_new part number recent parts is = record {
  rows = refl;
  more = ([], sym (append-nil parts.origins.items));
  origin = is;
  len = omega arith;
  capacity = omega arith;
}

-- ---- a part is put

module _ (part : Part) (number : ℕ) (old mid : PartRows) (takes : TakesNumber part number old mid) (known : AreKnown old) where
  same_rows : mid.rows.items ≡ old.rows.items
  same_rows = ap (λ rows. rows.items) takes.rows

  -- more origins change no part
  pub same_mid : parts_in mid ≡ parts_in old
  same_mid =
      (λ i. map (part_of (takes.more.1 i)) (same_rows i)) ∙ same_parts old.origins.items takes.more.0 old.rows.items known

  more_origins : length old.origins.items ≤ length mid.origins.items
  more_origins = let more = ap length takes.more.1 ∙ length-append old.origins.items takes.more.0 in omega (arith, more)

  pub known_mid : AreKnown mid
  known_mid = below_more (length old.origins.items) (length mid.origins.items) mid.rows.items more_origins (subst (AreBelow (length old.origins.items)) (sym same_rows) known)

  module _ (row : PartRow) (numbered : row.origin ≡ number) (is : part_of mid.origins.items row ≡ part) (new : List PartRow) (is_put : IsPut row_key name_cmp row mid.rows.items new) where
    pub part_put : IsPut part_key name_cmp part (parts_in old) (map (part_of mid.origins.items) new)
    part_put =
        let mapped = put-map row_key part_key name_cmp (part_of mid.origins.items) (λ r. refl) row mid.rows.items new is_put in
        subst (λ parts. IsPut part_key name_cmp part parts (map (part_of mid.origins.items) new)) same_mid
        (subst (λ p. IsPut part_key name_cmp p (parts_in mid) (map (part_of mid.origins.items) new)) is mapped)

    pub known_put : AreBelow (length mid.origins.items) new
    known_put =
        let less : row.origin < length mid.origins.items = subst (λ n. n < length mid.origins.items) (sym numbered) takes.origin.within in
        all-put (λ r. nat_lt r.origin (length mid.origins.items)) row_key name_cmp row mid.rows.items new (lt-ltb row.origin (length mid.origins.items) less) known_mid is_put

-- ---- parts are appended

next_part : (parts : List Part) (i : ℕ) (part : Part) → i < length parts → part ≡ get_or parts i part → take (i + 1) parts ≡ take i parts ++ part ∷ []
next_part parts i part within is = ap (λ n. take n parts) (add-one i) ∙ take-suc parts i part within ∙ ap (λ p. take i parts ++ p ∷ []) (sym is)

pub spare_less : (m n : ℕ) (parts : PartRows) → n ≤ m → HasCapacity m parts → HasCapacity n parts
spare_less m n parts le spare =
    record { rows = let h = spare.rows in omega (arith, h, le); origins = let h = spare.origins in omega (arith, h, le); numbers = let h = spare.numbers in omega (arith, h, le) }

pub none_appended : (parts : PartRows) → AreAppended [] parts parts
none_appended parts = record {
  more = [];
  back = [];
  origins = sym (append-nil parts.origins.items);
  rows = sym (append-nil parts.rows.items);
  parts = refl;
  known = refl;
  spare = λ count spare. subst (λ n. HasCapacity n parts) (no_more count) spare;
}
  where
    no_more : (n : ℕ) → 0 + n ≡ n
    no_more n = omega arith

-- these and then others
pub appended_then : (first second : List Part) (old mid new : PartRows) → AreAppended first old mid → AreAppended second mid new → AreAppended (first ++ second) old new
appended_then first second old mid new a b = record {
  more = a.more ++ b.more;
  back = a.back ++ b.back;
  origins = b.origins ∙ ap (λ os. os ++ b.more) a.origins ∙ append_assoc old.origins.items a.more b.more;
  rows = b.rows ∙ ap (λ rows. rows ++ b.back) a.rows ∙ append_assoc old.rows.items a.back b.back;
  parts =
      map-append (part_of new.origins.items) a.back b.back
      ∙ (λ i. map (part_of (b.origins i)) a.back ++ b.parts i)
      ∙ ap (λ parts. parts ++ second) (same_parts mid.origins.items b.more a.back a.known ∙ a.parts);
  known =
      let more = ap length b.origins ∙ length-append mid.origins.items b.more in
      list_all-append (λ r. nat_lt r.origin (length new.origins.items)) a.back b.back
      ∙ (λ i. below_more (length mid.origins.items) (length new.origins.items) a.back (omega (arith, more)) a.known i && b.known i);
  spare = λ count spare. b.spare count (a.spare (length second + count) (subst (λ n. HasCapacity n old) (ap (λ n. n + count) (length-append first second) ∙ together (length first) (length second) count) spare));
}
  where
    together : (x y z : ℕ) → x + y + z ≡ x + (y + z)
    together x y z = omega arith

-- those so far, and one more
pub appended_next : (added : List Part) (i : ℕ) (part : Part) (old mid new : PartRows) → i < length added → part ≡ get_or added i part → AreAppended (take i added) old mid → AreAppended (part ∷ []) mid new
    → AreAppended (take (i + 1) added) old new
appended_next added i part old mid new within is a b =
    subst (λ parts. AreAppended parts old new) (sym (next_part added i part within is))
    (appended_then (take i added) (part ∷ []) old mid new a b)

-- there is room for it
pub spare_next : (added : List Part) (i : ℕ) (old mid : PartRows) → i < length added → HasCapacity (length added) old → AreAppended (take i added) old mid → HasCapacity 1 mid
spare_next added i old mid within spare a =
    let len = length-take-le i added (omega arith) in
    let all : length added ≡ length (take i added) + (length added - i) = omega (arith, len, within) in
    spare_less (length added - i) 1 mid (omega arith) (a.spare (length added - i) (subst (λ n. HasCapacity n old) all spare))

-- a row of the part after all others
pub one_appended : (part : Part) (number : ℕ) (old mid new : PartRows) (row : PartRow) → TakesNumber part number old mid → row.origin ≡ number → part_of mid.origins.items row ≡ part
    → new.origins ≡ mid.origins → new.rows.items ≡ mid.rows.items ++ row ∷ [] → vec_len new.rows ≡ vec_len mid.rows + 1 → vec_capacity mid.rows ≤ vec_capacity new.rows → AreAppended (part ∷ []) old new
one_appended part number old mid new row takes numbered is same pushed len capacity = record {
  more = takes.more.0;
  back = row ∷ [];
  origins = ap (λ os. os.items) same ∙ takes.more.1;
  rows = pushed ∙ ap (λ rows. rows.items ++ row ∷ []) takes.rows;
  parts = ap (λ os. part_of os.items row ∷ []) same ∙ ap (λ p. p ∷ []) is;
  known =
      let less : row.origin < length mid.origins.items = subst (λ n. n < length mid.origins.items) (sym numbered) takes.origin.within in
      ap (λ os. nat_lt row.origin (length os.items) && true) same ∙ ap (λ b. b && true) (lt-ltb row.origin (length mid.origins.items) less);
  spare = λ count spare.
      let rows_len = ap vec_len takes.rows in
      let rows_capacity = ap vec_capacity takes.rows in
      let origins_len = ap vec_len same in
      let origins_capacity = ap vec_capacity same in
      let more = takes.len in
      let kept = takes.capacity in
      let r = spare.rows in
      let o = spare.origins in
      let n = spare.numbers in
      record {
        rows = omega (arith, rows_len, rows_capacity, len, capacity, r);
        origins = omega (arith, origins_len, origins_capacity, more, kept, o);
        numbers = omega (arith, origins_len, more, n);
      };
}

-- ---- a run of parts

module _ (added : List Part) (old mid : PartRows) (appended : AreAppended added old mid) (known : AreKnown old) where
  abbrev f : PartRow → Part
  f = part_of mid.origins.items

  same_old : map f old.rows.items ≡ parts_in old
  same_old = ap (λ os. map (part_of os) old.rows.items) appended.origins ∙ same_parts old.origins.items appended.more old.rows.items known

  -- the rows of a run are one
  pub run_back : (from to : Name) → IsRun part_key name_cmp from to added → IsRun row_key name_cmp from to appended.back
  run_back from to run =
      let keys : map part_key added ≡ map row_key appended.back = ap (map part_key) (sym appended.parts) ∙ keys-map row_key part_key name_cmp f (λ r. refl) appended.back in
      let len : length added ≡ length appended.back = ap length (sym appended.parts) ∙ length-map appended.back f in
      record {
        rising = sym (rise-map row_key part_key name_cmp f (λ r. refl) appended.back) ∙ ap (rise part_key name_cmp) appended.parts ∙ run.rising;
        begins = ap (λ ks. slice_get ks 0) (sym keys) ∙ run.begins;
        ends = (λ i. slice_get (sym keys i) (sym len i - 1)) ∙ run.ends;
      }

  module _ (i : ℕ) (new : List PartRow) (moved : new ≡ insert_slice old.rows.items i appended.back) where
    pub run_inserted : map f new ≡ insert_slice (parts_in old) i added
    run_inserted = ap (map f) moved ∙ inserted-map f old.rows.items appended.back i ∙ (λ j. insert_slice (same_old j) i (appended.parts j))

    pub run_are_put : ArePut row_key name_cmp appended.back old.rows.items (insert_slice old.rows.items i appended.back) → ArePut part_key name_cmp added (parts_in old) (map f new)
    run_are_put are =
        let mapped = all_put-map row_key part_key name_cmp f (λ r. refl) appended.back old.rows.items (insert_slice old.rows.items i appended.back) are in
        ap (λ rows. entries_of part_key name_cmp (map f rows)) moved ∙ mapped ∙ (λ j. put_each part_key name_cmp (appended.parts j) (entries_of part_key name_cmp (same_old j)))

    pub run_known : AreBelow (length mid.origins.items) new
    run_known =
        let more = ap length appended.origins ∙ length-append old.origins.items appended.more in
        subst (AreBelow (length mid.origins.items)) (sym moved)
        (all-inserted (λ r. nat_lt r.origin (length mid.origins.items)) old.rows.items appended.back i (below_more (length old.origins.items) (length mid.origins.items) old.rows.items (omega (arith, more)) known) appended.known)

  -- no part has the name of another
  pub run_absent : All (λ row. row_at row_key name_cmp row.name old.rows.items ≡ None) appended.back → All (λ part. row_at part_key name_cmp part.name (parts_in old) ≡ None) added
  run_absent absent =
      subst (λ parts. All (λ part. row_at part_key name_cmp part.name (parts_in old) ≡ None) parts) appended.parts (each appended.back absent)
    where
      each : (rows : List PartRow) → All (λ row. row_at row_key name_cmp row.name old.rows.items ≡ None) rows → All (λ part. row_at part_key name_cmp part.name (parts_in old) ≡ None) (map f rows)
      each [] h k d within = absurd (omega arith)
      each (row ∷ rows) h zero d within = found-parts row.name old ∙ ap (option_map (part_of old.origins.items)) (h 0 row (omega arith))
      each (row ∷ rows) h (suc k) d within = each rows (λ n r lt. h (suc n) r (omega arith)) k d (omega arith)

-- ---- parts at their places

pub one_part : (parts others : List Part) (i : ℕ) (part other : Part) → i < length others → part ≡ get_or parts i part → other ≡ get_or others i other → parts ≡ others → part ≡ other
one_part parts others i part other within is its same = is ∙ ap (λ ps. get_or ps i part) same ∙ get_or_default others i part other within ∙ sym its

pub more_same : (parts others : List Part) (i : ℕ) (part other : Part) → i < length parts → i < length others → part ≡ get_or parts i part → other ≡ get_or others i other
    → take i parts ≡ take i others → part ≡ other → take (i + 1) parts ≡ take (i + 1) others
more_same parts others i part other within inside is its so same =
    next_part parts i part within is ∙ (λ j. so j ++ same j ∷ []) ∙ sym (next_part others i other inside its)

-- parts that `!=` tells apart
pub apart : (part other : Part) (test : Bool) → test ≡ not (same_part part other) → test ≡ true → part ≡ other → ⊥
apart part other test is so same = true≢false (sym so ∙ is ∙ ap not ((part_decides part other).1 same))

pub alike : (part other : Part) (test : Bool) → test ≡ not (same_part part other) → test ≡ false → part ≡ other
alike part other test is so = (part_decides part other).0 (by_test (same_part part other) (sym so ∙ is))
  where
    by_test : (b : Bool) → false ≡ not b → b ≡ true
    by_test true e = refl
    by_test false e = absurd (true≢false (sym e))

-- ---- where parts would rise together

-- a row of a part, whatever its origin
abbrev pub bare : Part → PartRow
bare part = record { origin = 0; name = part.name; root = part.root; x = part.x; y = part.y; size = part.size; state = part.state }

abbrev self : Name → Name
self name = name

keys_bare : (added : List Part) → map row_key (map bare added) ≡ map part_key added
keys_bare added = keys-map part_key row_key name_cmp bare (λ p. refl) added

-- their rows are a run
pub run_bare : (from to : Name) (added : List Part) → IsRun part_key name_cmp from to added → IsRun row_key name_cmp from to (map bare added)
run_bare from to added run = record {
  rising = rise-map part_key row_key name_cmp bare (λ p. refl) added ∙ run.rising;
  begins = ap (λ ks. slice_get ks 0) (keys_bare added) ∙ run.begins;
  ends = (λ j. slice_get (keys_bare added j) (length-map added bare j - 1)) ∙ run.ends;
}

-- and rise among the others where the parts do
pub rise_bare : (parts : PartRows) (added : List Part) (i : ℕ) → rise row_key name_cmp (insert_slice parts.rows.items i (map bare added)) ≡ rise part_key name_cmp (insert_slice (parts_in parts) i added)
rise_bare parts added i =
    let keys : map row_key parts.rows.items ≡ map part_key (parts_in parts) = sym (keys-map row_key part_key name_cmp (part_of parts.origins.items) (λ r. refl) parts.rows.items) in
    sym (rise-map row_key self name_cmp row_key (λ r. refl) (insert_slice parts.rows.items i (map bare added)))
    ∙ ap (rise self name_cmp) (inserted-map row_key parts.rows.items (map bare added) i ∙ (λ j. insert_slice (keys j) i (keys_bare added j)) ∙ sym (inserted-map part_key (parts_in parts) added i))
    ∙ rise-map part_key self name_cmp part_key (λ p. refl) (insert_slice (parts_in parts) i added)

-- Keys of acts in sets, and what is filed of the parts of a ledger.
use Rattle.std.proofs.Common.{◌≡◌, ℕ, ◌+◌, ◌<◌, ◌≤◌, arith, Bool, true, false, List, [], ◌∷◌, ◌++◌, length, take, get_or, cond, inl, inr, refl, sym, ap, subst, ◌∙◌, true≢false}
use Rattle.std.specs.Prelude.{◌⊎◌, IsTrue, Option, Some, None, option_map, unwrap_or}
use Rattle.std.specs.BTreeSet.{BTreeSet, contains}
use Rattle.std.specs.BTreeMap.Range.{IsFromStart}
use Rattle.std.specs.Cmp.{IsTotalOrder, nat_cmp_is, nat_cmp_total, ranked, tied_itself}
use Rattle.std.specs.FinMap.{FinMap, IsAntisymmetric, get, get-insert, insert, nat_cmp-IsAntisymmetric}
use Rattle.std.specs.Option.{IsSomeAnd, option_to_list}
use Rattle.std.specs.Ordering.{eq_by_cmp, is_gt, nat_cmp, ordering_reverse, ordering_then}
use Rattle.std.specs.declared.cmp.Ordering.{Ordering}
use Rattle.std.specs.declared.cmp.Ordering.TheVariants.{Less, Equal, Greater}
use Rattle.std.specs.declared.ops.Bound.{Bound}
use Rattle.std.proofs.lemmas.Bool.{and_parts, eqb-true}
use Rattle.cut_measure.specs.Names.{Name, name_cmp}
use Rattle.shop_records.specs.Columns.{is_piece, state_of}
use Rattle.shop_records.specs.Content.{Content, demand_at, with_moved, with_parts}
use Rattle.shop_records.specs.Elements.{IsIn}
use Rattle.shop_records.specs.Same.{same_code, same_name}
use Rattle.shop_records.specs.declared.pieces.PieceSource.{PieceSource}
use Rattle.shop_records.specs.declared.pieces.PieceSource.TheVariants as source
use Rattle.shop_records.specs.declared.records.Demand.{Demand}
use Rattle.shop_records.specs.declared.records.Part.{Part}
use Rattle.shop_rows.specs.Keys.{part_key, demand_key, names_total, names_exact, codes_exact}
use Rattle.shop_rows.specs.Rows.{map_of, rise, row_at}
use Rattle.shop_rows.proofs.ByLine.{found_in, in_found, next_row}
use Rattle.shop_rows.proofs.Listed.{tie}
use Rattle.shop_rows.proofs.Named.{row_key}
use Rattle.shop_book.specs.Filing.{first_left, is_filed_for, is_filed_in, is_filed_of, start_after, IsLeast, PassesNone, StaysFiled}
use Rattle.shop_book.specs.Pieces.{AreFiled, HaveLinesOf, IsFiled, IsFiledForOrder, MadePiece}
use Rattle.shop_book.specs.declared.number_index.NumberIndex.{NumberIndex}
use Rattle.shop_book.proofs.Held.{get-rows}

-- ---- keys by what they are filed under, and then by act

no_greater : (a b : ℕ) → is_gt (nat_cmp a b) ≡ false → a ≤ b
no_greater a b h = by (nat_cmp a b) refl h
  where
    by : (r : Ordering) → nat_cmp a b ≡ r → is_gt r ≡ false → a ≤ b
    by Less e f = let lt : a < b = ranked a b Less (sym e) in omega (arith, lt)
    by Equal e f = let same : a ≡ b = ranked a b Equal (sym e) in omega (arith, same)
    by Greater e f = absurd (true≢false f)

not_greater : (a b : ℕ) → a ≤ b → is_gt (nat_cmp a b) ≡ false
not_greater a b le = by (nat_cmp a b) refl
  where
    by : (r : Ordering) → nat_cmp a b ≡ r → is_gt (nat_cmp a b) ≡ false
    by Less e = ap is_gt e
    by Equal e = ap is_gt e
    by Greater e = absurd (let more : b < a = ranked a b Greater (sym e) in omega (arith, le, more))

module _ {K S : Type 0} (of : K → S) (act : K → ℕ) (cmp : S → S → Ordering) (o : IsTotalOrder cmp) (exact : IsAntisymmetric cmp) where
  abbrev key_cmp : K → K → Ordering
  key_cmp a b = ordering_then (cmp (of a) (of b)) (nat_cmp (act a) (act b))

  -- what lies between two keys that are filed under the same is filed under it too
  between : (a k q : K) → of a ≡ of q → is_gt (key_cmp a k) ≡ false → is_gt (key_cmp k q) ≡ false → of k ≡ of a
  between a k q same lower upper = by (cmp (of a) (of k)) refl
    where
      by : (r : Ordering) → cmp (of a) (of k) ≡ r → of k ≡ of a
      by Less e =
          let turned : cmp (of k) (of q) ≡ Greater = ap (cmp (of k)) (sym same) ∙ o.antisymm (of k) (of a) ∙ ap ordering_reverse e in
          absurd (true≢false (sym (ap (λ r. is_gt (ordering_then r (nat_cmp (act k) (act q)))) turned) ∙ upper))
      by Equal e = sym (exact (of a) (of k) e)
      by Greater e = absurd (true≢false (sym (ap (λ r. is_gt (ordering_then r (nat_cmp (act a) (act k)))) e) ∙ lower))

  -- and of such keys the acts decide
  by_act : (a k : K) → of a ≡ of k → key_cmp a k ≡ nat_cmp (act a) (act k)
  by_act a k same =
      let tied : cmp (of a) (of k) ≡ Equal = ap (cmp (of a)) (sym same) ∙ tied_itself o (of a) in
      ap (λ r. ordering_then r (nat_cmp (act a) (act k))) tied

  module _ (s : S) (at : ℕ → K) (of_at : (n : ℕ) → of (at n) ≡ s) (act_at : (n : ℕ) → act (at n) ≡ n) where
    -- what is left comes after the start
    from_start : (last : Option ℕ) (n : ℕ) → first_left last ≤ n → IsFromStart key_cmp (start_after at last) (at n)
    from_start None n left =
        ap is_gt (by_act (at 0) (at n) (of_at 0 ∙ sym (of_at n)))
        ∙ not_greater (act (at 0)) (act (at n)) (let zero : act (at 0) ≡ 0 = act_at 0 in omega (arith, zero))
    from_start (Some last) n left =
        by_act (at last) (at n) (of_at last ∙ sym (of_at n))
        ∙ sym (nat_cmp_is (act (at last)) (act (at n)) Less (let a : act (at last) ≡ last = act_at last in let b : act (at n) ≡ n = act_at n in let less : act (at last) < act (at n) = omega (arith, a, b, left) in less))

    -- and a key after the start is of an act that is left
    is_left : (last : Option ℕ) (k : K) → of k ≡ s → IsFromStart key_cmp (start_after at last) k → first_left last ≤ act k
    is_left None k same inside = omega arith
    is_left (Some last) k same inside =
        let less : nat_cmp (act (at last)) (act k) ≡ Less = sym (by_act (at last) k (of_at last ∙ sym same)) ∙ inside in
        let lt : act (at last) < act k = ranked (act (at last)) (act k) Less (sym less) in
        let a : act (at last) ≡ last = act_at last in
        omega (arith, lt, a)

    -- the key at the start
    lowest : (last : Option ℕ) (k : K) → IsFromStart key_cmp (start_after at last) k → (a : K) × (of a ≡ s) × (is_gt (key_cmp a k) ≡ false)
    lowest None k inside = (at 0, of_at 0, inside)
    lowest (Some last) k inside = (at last, of_at last, ap is_gt inside)

    module _ (set : BTreeSet K) (last : Option ℕ) (start : Bound K) (begins : start ≡ start_after at last) where
      from_here : (found : Option K) → IsLeast key_cmp start set found → IsLeast key_cmp (start_after at last) set found
      from_here found is = subst (λ (b : Bound K). IsLeast key_cmp b set found) begins is

      -- the least key of the same has the first act, under another one or at the end there is none
      pub passes_hit : (k : K) → IsLeast key_cmp start set (Some k) → of k ≡ s → PassesNone (λ n. IsTrue (contains key_cmp set (at n))) last (Some (act k))
      passes_hit k found same =
          let is = from_here (Some k) found in
          record {
            left = is_left last k same is.inside;
            none = λ n left there.
                let le : is_gt (nat_cmp (act k) (act (at n))) ≡ false = sym (ap is_gt (by_act k (at n) (same ∙ sym (of_at n)))) ∙ is.least (at n) (from_start last n left) there in
                subst (λ m. act k ≤ m) (act_at n) (no_greater (act k) (act (at n)) le);
          }

      pub passes_other : (k : K) → IsLeast key_cmp start set (Some k) → (of k ≡ s → ⊥) → PassesNone (λ n. IsTrue (contains key_cmp set (at n))) last None
      passes_other k found other =
          let is = from_here (Some k) found in
          record {
            left = tt;
            none = λ n left there.
                let low = lowest last k is.inside in
                other (between low.0 k (at n) (low.1 ∙ sym (of_at n)) low.2 (is.least (at n) (from_start last n left) there) ∙ low.1);
          }

      pub passes_end : (found : Option ℕ) → found ≡ None → IsLeast key_cmp start set None → PassesNone (λ n. IsTrue (contains key_cmp set (at n))) last found
      passes_end found none ends =
          let is = from_here None ends in
          subst (PassesNone (λ n. IsTrue (contains key_cmp set (at n))) last) (sym none) (record {
            left = tt;
            none = λ n left there. is.least (at n) (from_start last n left) there;
          })

-- ---- what is filed

pub stays_itself : (index : NumberIndex) → StaysFiled index index
stays_itself index = record { numbers = λ under number filed. filed; codes = λ under number filed. filed; names = λ under number filed. filed }

pub stays_then : (a b c : NumberIndex) → StaysFiled a b → StaysFiled b c → StaysFiled a c
stays_then a b c one two = record {
  numbers = λ under number filed. two.numbers under number (one.numbers under number filed);
  codes = λ under number filed. two.codes under number (one.codes under number filed);
  names = λ under number filed. two.names under number (one.names under number filed);
}

-- what is in two lists is in one of them
in_either : {X : Type 0} (x : X) (xs ys : List X) → IsIn x (xs ++ ys) → IsIn x xs ⊎ IsIn x ys
in_either x [] ys i = inr i
in_either x (y ∷ xs) ys (inl e) = inl (inl e)
in_either x (y ∷ xs) ys (inr i) = elim (in_either x xs ys i) [ inl j ↦ inl (inr j) | inr j ↦ inr j ]

pub in_next : {X : Type 0} (rows : List X) (i : ℕ) (row x : X) → i < length rows → row ≡ get_or rows i row → IsIn x (take (i + 1) rows) → IsIn x (take i rows) ⊎ IsIn x (row ∷ [])
in_next rows i row x within is there = in_either x (take i rows) (row ∷ []) (subst (IsIn x) (next_row rows i row within is) there)

pub filed_stay : (old new : NumberIndex) (parts : List Part) → StaysFiled old new → AreFiled old parts → AreFiled new parts
filed_stay old new parts stays are part there piece =
    let f = are part there piece in
    record {
      demand = stays.numbers (state_of part.state) part.name.act f.demand;
      batch = stays.codes part.batch part.name.act f.batch;
      unit = stays.names part.root part.name.act f.unit;
    }

pub filed_more : (index : NumberIndex) (parts : List Part) (i : ℕ) (part : Part) → i < length parts → part ≡ get_or parts i part → AreFiled index (take i parts) → AreFiled index (part ∷ []) → AreFiled index (take (i + 1) parts)
filed_more index parts i part within is before own other there piece =
    elim (in_next parts i part other within is there) [ inl j ↦ before other j piece | inr j ↦ own other j piece ]

pub no_piece_filed : (index : NumberIndex) (part : Part) → is_piece part.state ≡ false → AreFiled index (part ∷ [])
no_piece_filed index part none other (inl e) piece = absurd (true≢false (sym piece ∙ ap (λ (p : Part). is_piece p.state) e ∙ none))
no_piece_filed index part none other (inr i) piece = absurd i

pub piece_filed : (index : NumberIndex) (part : Part) → IsFiled index part → AreFiled index (part ∷ [])
piece_filed index part filed other (inl e) piece = subst (IsFiled index) (sym e) filed
piece_filed index part filed other (inr i) piece = absurd i

-- ---- parts that are put

one_put : (row : Part) (m : FinMap name_cmp Part) (name : Name) (part : Part) → get (insert m row.name row) name ≡ Some part → (part ≡ row) ⊎ (get m name ≡ Some part)
one_put row m name part e = by (eq_by_cmp name_cmp name row.name) (sym (get-insert names_total m row.name row name) ∙ e)
  where
    by : (b : Bool) → cond b (Some row) (get m name) ≡ Some part → (part ≡ row) ⊎ (get m name ≡ Some part)
    by true f = let same : part ≡ row = cc in inl same
    by false f = inr f

each_put : (rows : List Part) (m : FinMap name_cmp Part) (name : Name) (part : Part) → get (with_parts rows m) name ≡ Some part → IsIn part rows ⊎ (get m name ≡ Some part)
each_put [] m name part e = inr e
each_put (row ∷ rows) m name part e =
    elim (each_put rows (insert m row.name row) name part e)
    [ inl i ↦ inl (inr i) | inr f ↦ elim (one_put row m name part f) [ inl same ↦ inl (inl same) | inr old ↦ inr old ] ]

moved_put : (moved : Option Part) (m : FinMap name_cmp Part) (name : Name) (part : Part) → get (with_moved moved m) name ≡ Some part → IsIn part (option_to_list moved) ⊎ (get m name ≡ Some part)
moved_put None m name part e = inr e
moved_put (Some row) m name part e = elim (one_put row m name part e) [ inl same ↦ inl (inl same) | inr old ↦ inr old ]

module _ (index : NumberIndex) (old new rows undone : List Part) (moved : Option Part) (up : rise part_key name_cmp old ≡ true) (up_new : rise part_key name_cmp new ≡ true) where
  pub filed_after : map_of part_key name_cmp new ≡ with_parts rows (with_parts undone (with_moved moved (map_of part_key name_cmp old)))
      → AreFiled index old → AreFiled index rows → AreFiled index undone → AreFiled index (option_to_list moved) → AreFiled index new
  filed_after put was own gone turned part there piece = by_rows (each_put rows (with_parts undone (with_moved moved kept)) part.name part found)
    where
      kept : FinMap name_cmp Part
      kept = map_of part_key name_cmp old

      found : get (with_parts rows (with_parts undone (with_moved moved kept))) part.name ≡ Some part
      found =
          ap (λ (m : FinMap name_cmp Part). get m part.name) (sym put) ∙ sym (get-rows part_key name_cmp new part.name up_new)
          ∙ in_found part_key name_cmp names_total names_exact new up_new part there

      by_old : get kept part.name ≡ Some part → IsFiled index part
      by_old e = was part (found_in part_key name_cmp names_total names_exact part.name old part (get-rows part_key name_cmp old part.name up ∙ e)) piece

      by_moved : IsIn part (option_to_list moved) ⊎ (get kept part.name ≡ Some part) → IsFiled index part
      by_moved (inl i) = turned part i piece
      by_moved (inr e) = by_old e

      by_undone : IsIn part undone ⊎ (get (with_moved moved kept) part.name ≡ Some part) → IsFiled index part
      by_undone (inl i) = gone part i piece
      by_undone (inr e) = by_moved (moved_put moved kept part.name part e)

      by_rows : IsIn part rows ⊎ (get (with_parts undone (with_moved moved kept)) part.name ≡ Some part) → IsFiled index part
      by_rows (inl i) = own part i piece
      by_rows (inr e) = by_undone (each_put undone (with_moved moved kept) part.name part e)

-- ---- acts of an order's demands

module _ (index : NumberIndex) (rows : List Demand) (order : List ℕ) (last : Option ℕ) where
  pub no_lines_yet : PassesNone (IsFiledForOrder index [] order) last None
  no_lines_yet = record { left = tt; none = λ act left filed. filed.among }

  pub line_more : (i : ℕ) (row : Demand) (first result : Option ℕ) → i < length rows → row ≡ get_or rows i row → PassesNone (IsFiledForOrder index (take i rows) order) last first
      → ((act : ℕ) → IsSomeAnd first (λ x. x ≤ act) → IsSomeAnd result (λ x. x ≤ act))
      → (row.order ≡ order → (act : ℕ) → first_left last ≤ act → IsTrue (is_filed_for index row.number act) → IsSomeAnd result (λ x. x ≤ act))
      → (act : ℕ) → first_left last ≤ act → IsFiledForOrder index (take (i + 1) rows) order act → IsSomeAnd result (λ x. x ≤ act)
  line_more i row first result within is before later own act left filed = by (in_next rows i row filed.row within is filed.among)
    where
      by : IsIn filed.row (take i rows) ⊎ IsIn filed.row (row ∷ []) → IsSomeAnd result (λ x. x ≤ act)
      by (inl j) = later act (before.none act left (record { row = filed.row; among = j; own = filed.own; filed = filed.filed }))
      by (inr (inl e)) =
          own (ap (λ (r : Demand). r.order) (sym e) ∙ filed.own) act left (subst (λ (r : Demand). IsTrue (is_filed_for index r.number act)) e filed.filed)
      by (inr (inr j)) = absurd j

-- ---- acts that made pieces are filed

pub one_order : (of : PieceSource) (a b : List ℕ) → of ≡ source.Order a → of ≡ source.Order b → a ≡ b
one_order of a b e f = cc

pub passes_fewer : (P Q : ℕ → Type 0) (last found : Option ℕ) → ((act : ℕ) → Q act → P act) → PassesNone P last found → PassesNone Q last found
passes_fewer P Q last found more passes = record { left = passes.left; none = λ act left has. passes.none act left (more act has) }

pub one_code : (a b : List ℕ) → same_code a b ≡ true → a ≡ b
one_code a b same = codes_exact a b (tie _ same)

pub one_name : (a b : Name) → same_name a b ≡ true → a ≡ b
one_name a b same =
    let parts = and_parts _ _ same in
    let act : a.act ≡ b.act = eqb-true a.act b.act parts.0 in
    let node : a.node ≡ b.node = eqb-true a.node b.node parts.1 in
    λ i. record { act = act i; node = node i }

module _ (index : NumberIndex) (content : Content) (parts : List Part) (filed : AreFiled index parts) where
  pub batch_made : (batch : List ℕ) (act : ℕ) → MadePiece content parts (source.Batch batch) act → IsTrue (is_filed_of index batch act)
  batch_made batch act made =
      let both = and_parts _ _ made.from in
      let f = filed made.part made.among both.0 in
      subst (λ n. IsTrue (is_filed_of index batch n)) made.own
      (subst (λ (b : List ℕ). IsTrue (is_filed_of index b made.part.name.act)) (one_code made.part.batch batch both.1) f.batch)

  pub unit_made : (unit : Name) (act : ℕ) → MadePiece content parts (source.Unit unit) act → IsTrue (is_filed_in index unit act)
  unit_made unit act made =
      let both = and_parts _ _ made.from in
      let f = filed made.part made.among both.0 in
      subst (λ n. IsTrue (is_filed_in index unit n)) made.own
      (subst (λ (u : Name). IsTrue (is_filed_in index u made.part.name.act)) (one_name made.part.root unit both.1) f.unit)

  module _ (demands rows : List Demand) (up : rise demand_key nat_cmp demands ≡ true) (held : map_of demand_key nat_cmp demands ≡ content.demands) (order : List ℕ) (lines : HaveLinesOf (source.Order order) demands rows) where
    pub order_made : (act : ℕ) → MadePiece content parts (source.Order order) act → IsFiledForOrder index rows order act
    order_made act made = by (is_piece made.part.state) refl made.from
      where
        number : ℕ
        number = state_of made.part.state

        is_own : Option Demand → Bool
        is_own found = unwrap_or (option_map (λ (demand : Demand). same_code demand.order order) found) false

        there : (row : Demand) → demand_at content number ≡ Some row → row_at demand_key nat_cmp number demands ≡ Some row
        there row e = get-rows demand_key nat_cmp demands number up ∙ ap (λ (m : FinMap nat_cmp Demand). get m number) held ∙ e

        with_row : is_piece made.part.state ≡ true → (found : Option Demand) → demand_at content number ≡ found → is_own found ≡ true → IsFiledForOrder index rows order act
        with_row piece None e own = absurd (true≢false (sym own))
        with_row piece (Some row) e own =
            let is : row.number ≡ number = row_key demand_key nat_cmp nat_cmp_total nat_cmp-IsAntisymmetric number demands row (there row e) in
            let ours : row.order ≡ order = one_code row.order order own in
            let f = filed made.part made.among piece in
            record {
              row = row;
              among = lines order row refl (found_in demand_key nat_cmp nat_cmp_total nat_cmp-IsAntisymmetric number demands row (there row e)) ours;
              own = ours;
              filed =
                  subst (λ n. IsTrue (is_filed_for index row.number n)) made.own
                  (subst (λ n. IsTrue (is_filed_for index n made.part.name.act)) (sym is) f.demand);
            }

        by : (b : Bool) → is_piece made.part.state ≡ b → is_own (cond b (demand_at content number) None) ≡ true → IsFiledForOrder index rows order act
        by true piece own = with_row piece (demand_at content number) refl own
        by false piece own = absurd (true≢false (sym own))

-- A plan for a part of the stock, of wants that are open demands, reserves it.
use Rattle.std.proofs.Common.{◌≡◌, ℕ, ◌≤◌, List, [], ◌∷◌, length, Bool, true, false, refl, sym, ap, subst, ◌∙◌, arith, eq-eqb}
use Rattle.std.specs.Prelude.{Some, None, All, not, ◌==◌, ◌&&◌, if◌then◌else◌}
use Rattle.std.specs.List.{AllByRecursion}
use Rattle.std.specs.Option.{option_or}
use Rattle.std.specs.Cmp.Derive.{both_true}
use Rattle.std.proofs.lemmas.List.Elements.{All-contains, All-weaker, recursion_from_All}
use Rattle.cut_measure.specs.Measures.{Size}
use Rattle.cut_measure.specs.declared.ranges.TheConstants.{MAX_NUMBERS}
use Rattle.cut_measure.specs.declared.sizes.Kind.{Kind}
use Rattle.cut_measure.specs.declared.sizes.Kind.TheVariants.{Bar, Sheet}
use Rattle.cut_tree.specs.declared.leaves.Leaf.{Leaf}
use Rattle.cut_tree.specs.Patterns.{Pattern, IsPlan}
use Rattle.cut_tree.specs.Spelling.{text_of}
use Rattle.cut_tree.proofs.ListedLeaves.{all_listed}
use Rattle.cut_tree.proofs.ReadBack.{spells_itself}
use Rattle.cut_wants.specs.declared.wants.Want.{Want}
use Rattle.cut_wants.specs.Legal.{HasSides, IsWantedPiece, Legal}
use Rattle.cut_plan.specs.Proposals.{AreDemands}
use Rattle.cut_plan.proofs.SheetPlans.{demands_of, shaped_of}
use Rattle.cut_bound.specs.Planned.{IsPlanFor}
use Rattle.cut_bound.proofs.ListedPlans.{leaves_counted}
use Rattle.shop_records.specs.declared.records.Material.{Material}
use Rattle.shop_records.specs.declared.refusals.Refusal.TheVariants.{WrongMaterial, WrongSize}
use Rattle.shop_records.specs.Content.{Content, demand_at, material_at}
use Rattle.shop_records.specs.Messages.{Texts}
use Rattle.shop_records.specs.Same.{same_code}
use Rattle.shop_records.specs.WellFormed.{IsWellFormed}
use Rattle.shop_records.proofs.Basics.{codes_same}
use Rattle.shop_records.proofs.Puts.{equal}
use Rattle.shop_answers.specs.Planning.{planned_size}
use Rattle.shop_machine.specs.Decisions.{first_of}
use Rattle.shop_machine.specs.Recounts.{plan_leaves}
use Rattle.shop_machine.specs.Reserving.{IsReading, fits_demand, leaf_refusal, leaves_refusal}
use Rattle.shop_machine.proofs.Allowed.{narrow}
use Rattle.shop_planning.specs.declared.instance.StockPart.{StockPart}
use Rattle.shop_bookings.proofs.Asked.{IsWantOf, IsPartOf}

-- a leaf with a want's sides has those of its demand
fits_by : (x : Want) (turned : Bool) (w h : ℕ) → HasSides x turned w h
    → (if turned then x.may_turn && w == x.size.h && h == x.size.w else w == x.size.w && h == x.size.h) ≡ true
fits_by x true w h has =
    both_true (both_true has.0 (eq-eqb w x.size.h (sym has.1))) (eq-eqb h x.size.w (sym has.2))
fits_by x false w h has = both_true (eq-eqb w x.size.w (sym has.0)) (eq-eqb h x.size.h (sym has.1))

-- the sides by which a part is planned are its own
flat_size : (kind : Kind) (size : Size) → (kind ≡ Bar → size.h ≡ 1) → ((planned_size kind size).w ≡ size.w) × ((planned_size kind size).h ≡ size.h)
flat_size Bar size flat = (refl, sym (flat refl))
flat_size Sheet size flat = (refl, refl)

same_codes : (a b : List ℕ) → same_code a b ≡ true → a ≡ b
same_codes a b e = codes_same a b (equal _ e)

module _ (texts : Texts) (m : Content) (well_formed : IsWellFormed texts m) (code : List ℕ) (material : Material) (known : material_at m code ≡ Some material)
    (wants : List Want) (are : All (IsWantOf m code) wants) where
  numbered : AreDemands wants
  numbered =
      All-weaker (IsWantOf m code) (λ (x : Want). (1 ≤ x.demand) × (x.demand ≤ MAX_NUMBERS)) (λ x w.
      let d = well_formed.demands x.demand w.demand w.found in
      let last = well_formed.in_range.last_demand in
      let so_far = d.so_far in
      (d.least, omega (arith, last, so_far))) wants are

  module _ (part : StockPart) (is : IsPartOf m code material.kind part) (size : Size) (wide : part.size.w ≡ size.w) (high : part.size.h ≡ size.h)
      (plan : Pattern) (suits : IsPlanFor wants material.limits.kerf size plan) where
    here : is.row.material ≡ code
    here = same_codes is.row.material code is.of

    pub its : material_at m is.row.material ≡ Some material
    its = ap (material_at m) here ∙ known

    pub as_wide : plan.w ≡ is.row.size.w
    as_wide =
        suits.wide ∙ sym wide ∙ ap (λ (s : Size). s.w) is.size
        ∙ (flat_size material.kind is.row.size (λ bar. (well_formed.parts part.name is.row is.found).flat material its bar)).0

    pub as_high : plan.h ≡ is.row.size.h
    as_high =
        suits.high ∙ sym high ∙ ap (λ (s : Size). s.h) is.size
        ∙ (flat_size material.kind is.row.size (λ bar. (well_formed.parts part.name is.row is.found).flat material its bar)).1

    legal : Legal wants plan.kerf plan.tree plan.w plan.h
    legal =
        subst (λ w. Legal wants plan.kerf plan.tree w plan.h) (sym suits.wide) (subst (λ h. Legal wants plan.kerf plan.tree size.w h) (sym suits.high)
        (subst (λ k. Legal wants k plan.tree size.w size.h) (sym suits.sawn) suits.legal))

    pub is_plan : IsPlan plan
    is_plan =
        let placed = well_formed.parts part.name is.row is.found in
        let width = as_wide in
        let height = as_high in
        let kerf = suits.sawn in
        let some_width = placed.some_width in
        let some_height = placed.some_height in
        let right = placed.right in
        let bottom = placed.bottom in
        let ruled = (well_formed.materials code material known).ruled in
        let thin = narrow material.kind material.limits.kerf material.limits.min_long material.limits.min_short ruled in
        record {
          shaped = shaped_of wants plan.kerf plan.tree plan.w plan.h legal;
          few_cuts = suits.few_cuts;
          demands = demands_of wants plan.kerf plan.tree plan.w plan.h numbered legal;
          some_width = omega (arith, some_width, width);
          width_in_range = omega (arith, right, width);
          some_height = omega (arith, some_height, height);
          height_in_range = omega (arith, bottom, height);
          narrow = omega (arith, thin, kerf);
        }

    abbrev pub reading : IsReading m part.name (text_of plan.tree) plan
    reading = record {
      row = is.row;
      found = is.found;
      stands = is.free;
      material = material;
      known = its;
      width = as_wide;
      height = as_high;
      kerf = suits.sawn;
      spelled = spells_itself plan is_plan;
      few_cuts = suits.few_cuts;
    }

    pub some_piece : 1 ≤ length (plan_leaves plan)
    some_piece =
        let some = suits.some_piece in
        omega (arith, some, leaves_counted plan.tree plan.w plan.h plan.kerf)

    leaf_taken : (leaf : Leaf) → IsWantedPiece wants leaf.demand leaf.turned leaf.w leaf.h → leaf_refusal is.row.material leaf (demand_at m leaf.demand) ≡ None
    leaf_taken leaf piece =
        let x = piece.0 in
        let want = All-contains (IsWantOf m code) wants x are piece.1 in
        let found : demand_at m leaf.demand ≡ Some want.demand = ap (demand_at m) (sym piece.2) ∙ want.found in
        let of : same_code want.demand.material is.row.material ≡ true = subst (λ c. same_code want.demand.material c ≡ true) (sym here) want.of in
        let fits : fits_demand leaf want.demand ≡ true =
        subst (λ (s : Size). (if leaf.turned then want.demand.may_turn && leaf.w == s.h && leaf.h == s.w else leaf.w == s.w && leaf.h == s.h) ≡ true) want.size
        (subst (λ b. (if leaf.turned then b && leaf.w == x.size.h && leaf.h == x.size.w else leaf.w == x.size.w && leaf.h == x.size.h) ≡ true) want.turns
        (fits_by x leaf.turned leaf.w leaf.h piece.3)) in
        ap (leaf_refusal is.row.material leaf) found
        ∙ ap (λ b. first_of ((not b, WrongMaterial) ∷ (not (fits_demand leaf want.demand), WrongSize) ∷ [])) of
        ∙ ap (λ b. first_of ((false, WrongMaterial) ∷ (not b, WrongSize) ∷ [])) fits

    leaves_taken : (leaves : List Leaf) → AllByRecursion (λ (l : Leaf). IsWantedPiece wants l.demand l.turned l.w l.h) leaves
        → leaves_refusal (demand_at m) is.row.material leaves ≡ None
    leaves_taken [] all = refl
    leaves_taken (leaf ∷ leaves) all =
        ap (λ o. option_or o (leaves_refusal (demand_at m) is.row.material leaves)) (leaf_taken leaf all.0) ∙ leaves_taken leaves all.1

    pub taken : leaves_refusal (demand_at m) is.row.material (plan_leaves plan) ≡ None
    taken =
        leaves_taken (plan_leaves plan)
        (recursion_from_All (λ (l : Leaf). IsWantedPiece wants l.demand l.turned l.w l.h) (plan_leaves plan)
        (all_listed (IsWantedPiece wants) plan.tree plan.w plan.h plan.kerf legal))

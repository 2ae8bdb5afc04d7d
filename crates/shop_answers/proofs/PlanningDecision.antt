-- What is answered from rows that were found is what is answered over the content.
use Rattle.std.proofs.Common.{◌≡◌, ℕ, List, [], ◌∷◌, Bool, true, false, refl, sym, ap, subst, ◌∙◌}
use Rattle.std.specs.Prelude.{Option, Some, None, Result, Ok, Err, filter_map, if◌then◌else◌, not, MatchOption}
use Rattle.std.specs.List.{AllByRecursion, cons_option}
use Rattle.std.specs.Option.{option_or}
use Rattle.std.proofs.lemmas.List.Elements.{recursion_from_All}
use Rattle.cut_measure.specs.declared.sizes.Kind.{Kind}
use Rattle.cut_measure.specs.Measures.{Size, is_size, size_of}
use Rattle.cut_wants.specs.declared.wants.Want.{Want}
use Rattle.shop_records.specs.declared.records.Material.{Material}
use Rattle.shop_records.specs.declared.records.Part.{Part}
use Rattle.shop_records.specs.declared.records.Demand.{Demand}
use Rattle.shop_answers.specs.declared.planning.FoundDemand.{FoundDemand}
use Rattle.shop_records.specs.declared.refusals.Refusal.{Refusal}
use Rattle.shop_records.specs.declared.refusals.Refusal.TheVariants.{NoMaterial, NotStanding, BadSize, BadWant}
use Rattle.shop_records.specs.declared.messages.Reply.{Reply}
use Rattle.shop_records.specs.declared.messages.Reply.TheVariants.{Refused}
use Rattle.shop_records.specs.Columns.{is_free}
use Rattle.shop_machine.specs.Decisions.{first_of}
use Rattle.shop_answers.specs.Planning.{demands_refusal, numbers_refusal, want_of, wants_of, planned_size, planning_refusal, bound_refusal, IsPlanned, IsBounded, IsPlanAnswer, IsBoundAnswer, numbers_in, AreFound, AreAsked, ReportsReply}

-- ---- the demands of a query

same_by : (at : ℕ → Option Demand) (fs : List FoundDemand) → AllByRecursion (λ (f : FoundDemand). f.demand ≡ at f.number) fs
    → filter_map (λ (f : FoundDemand). want_of f.number f.demand) fs ≡ wants_of at (numbers_in fs)
same_by at [] h = refl
same_by at (f ∷ fs) h =
    ap (λ o. cons_option (want_of f.number o) (filter_map (λ (g : FoundDemand). want_of g.number g.demand) fs)) h.0
    ∙ ap (cons_option (want_of f.number (at f.number))) (same_by at fs h.1)

pub asked_ok : (at : ℕ → Option Demand) (material numbers : List ℕ) (demands : Option (List FoundDemand)) (found first second : List FoundDemand) (wants : List Want)
    → demands ≡ Some found → first ≡ found → second ≡ found → (AreFound at first → None ≡ demands_refusal at material (numbers_in first))
    → wants ≡ filter_map (λ (f : FoundDemand). want_of f.number f.demand) second → AreAsked at numbers demands
    → (numbers_refusal at material numbers ≡ None) × (wants ≡ wants_of at numbers)
asked_ok at material numbers demands found first second wants is one two allowed made asked =
    let rows : AreAsked at numbers (Some found) = subst (AreAsked at numbers) is asked in
    let none : AreFound at found → None ≡ demands_refusal at material (numbers_in found) = subst (λ (fs : List FoundDemand). AreFound at fs → None ≡ demands_refusal at material (numbers_in fs)) one allowed in (
      ap (λ b. option_or (first_of ((b, BadWant) ∷ [])) (demands_refusal at material numbers)) rows.0
          ∙ ap (demands_refusal at material) (sym rows.1) ∙ sym (none rows.2),
      made ∙ ap (filter_map (λ (f : FoundDemand). want_of f.number f.demand)) two
          ∙ same_by at found (recursion_from_All (λ (f : FoundDemand). f.demand ≡ at f.number) found rows.2) ∙ ap (wants_of at) rows.1,
    )

-- ---- what is reported

pub reports_more : (P Q : Reply → Type 0) → ((answer : Reply) → P answer → Q answer) → (result : Result Reply Refusal) → ReportsReply P result → ReportsReply Q result
reports_more P Q more (Ok answer) it = more answer it
reports_more P Q more (Err refusal) it = λ other. more (Refused refusal) (it other)

pub planned_answer : (found : Option Part) (known : Option Material) (part : Part) (material : Material) (at : ℕ → Option Demand) (numbers : List ℕ) (step : ℕ) (wants : List Want)
    → found ≡ Some part → known ≡ Some material → is_free part.state ≡ true → numbers_refusal at part.material numbers ≡ None → wants ≡ wants_of at numbers
    → (answer : Reply) → IsPlanned material.kind (planned_size material.kind part.size) material.limits.kerf step wants answer → IsPlanAnswer found known at numbers step answer
planned_answer found known part material at numbers step wants here there free allowed same answer it =
    let none : planning_refusal (Some part) (Some material) at numbers ≡ None =
    ap (λ b. option_or (first_of ((not b, NotStanding) ∷ (false, NoMaterial) ∷ [])) (numbers_refusal at part.material numbers)) free ∙ allowed
    in
    rw (here, there) (
    subst (λ (o : Option Refusal). MatchOption o (IsPlanned material.kind (planned_size material.kind part.size) material.limits.kerf step (wants_of at numbers) answer) (λ refusal. answer ≡ Refused refusal))
    (sym none)
    (subst (λ ws. IsPlanned material.kind (planned_size material.kind part.size) material.limits.kerf step ws answer) same it)
    )

-- ---- bounds

pub sized : (kind : Kind) (w h : ℕ) (size : Size) → Some size ≡ size_of kind w h → (is_size kind w h ≡ true) × (size ≡ record { w = w; h = h })
sized kind w h size is = by (is_size kind w h) refl is
  where
    by : (b : Bool) → is_size kind w h ≡ b → Some size ≡ (if b then Some (let e : Size = record { w = w; h = h } in e) else None) → (is_size kind w h ≡ true) × (size ≡ record { w = w; h = h })
    by true e is = (e, cc)
    by false e is = cc

module _ (known : Option Material) (code : List ℕ) (w h : ℕ) (size : Size) (material : Material) (at : ℕ → Option Demand) (numbers : List ℕ) (step : ℕ)
    (there : known ≡ Some material) (is : Some size ≡ size_of material.kind w h) where
  first_refusal : bound_refusal (Some material) code (record { w = w; h = h }) at numbers ≡ numbers_refusal at code numbers
  first_refusal =
      ap (λ b. option_or (first_of ((not b, BadSize) ∷ [])) (numbers_refusal at code numbers)) (sized material.kind w h size is).0

  answer_by : (o : Option Refusal) (answer : Reply) → numbers_refusal at code numbers ≡ o
      → MatchOption o (IsBounded material.kind (record { w = w; h = h }) material.limits.kerf step (wants_of at numbers) answer) (λ refusal. answer ≡ Refused refusal)
      → IsBoundAnswer known code (record { w = w; h = h }) at numbers step answer
  answer_by o answer e it =
      rw there (
      subst (λ (o : Option Refusal). MatchOption o (IsBounded material.kind (record { w = w; h = h }) material.limits.kerf step (wants_of at numbers) answer) (λ refusal. answer ≡ Refused refusal))
      (sym (first_refusal ∙ e)) it
      )

  pub bounded_answer : (wants : List Want) → numbers_refusal at code numbers ≡ None → wants ≡ wants_of at numbers
      → (answer : Reply) → IsBounded material.kind size material.limits.kerf step wants answer → IsBoundAnswer known code (record { w = w; h = h }) at numbers step answer
  bounded_answer wants allowed same answer it =
      answer_by None answer allowed
      (subst (λ (e : Size). IsBounded material.kind e material.limits.kerf step (wants_of at numbers) answer) (sized material.kind w h size is).1
      (subst (λ ws. IsBounded material.kind size material.limits.kerf step ws answer) same it))

  pub refused_answer : (refusal : Refusal) → numbers_refusal at code numbers ≡ Some refusal → IsBoundAnswer known code (record { w = w; h = h }) at numbers step (Refused refusal)
  refused_answer refusal refused = answer_by (Some refusal) (Refused refusal) refused refl

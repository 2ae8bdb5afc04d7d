-- What a change that fits is row by row.
use Rattle.std.proofs.Common.{◌≡◌, ◌≤◌, ◌+◌, ◌⊎◌, ◌||◌, ◌++◌, ℕ, true, false, true≢false, List, [], ◌∷◌, IsSome, inl, inr, refl, sym, ap, subst, ◌∙◌, cond, arith}
use Rattle.std.specs.Prelude.{nat_eq, ◌≢◌, not, Bool, Option, Some, None, IfSome, All, MatchOption, is_some, unwrap_or, if◌then◌else◌}
use Rattle.std.specs.declared.cmp.Ordering.TheVariants.{Less}
use Rattle.std.specs.Ordering.{eq_by_cmp, nat_cmp}
use Rattle.std.specs.Cmp.{nat_cmp_total, tied_itself}
use Rattle.std.specs.Cmp.Lexicographic.{nat_list_eq_equiv, pointwise}
use Rattle.std.specs.FinMap.{FinMap, empty, get, get-empty, insert, get-insert, len, len-insert, nat_cmp-IsAntisymmetric}
use Rattle.cut_measure.specs.Codes.{code_cmp}
use Rattle.cut_measure.specs.Names.{Name, name_cmp}
use Rattle.shop_records.specs.Content as content
use Rattle.shop_records.specs.Content.{Content, material_at, part_at, demand_at, entry_at, import_at, in_state, totals_of, no_totals}
use Rattle.shop_records.specs.Elements.{IsIn}
use Rattle.shop_records.specs.WellFormed.{Fits, TotalsFit, with_totals, IsNewPart, IsMovedPart, IsNewJob, IsMovedJob, IsNewDemand, IsMovedDemand, IsNewEntry}
use Rattle.shop_records.specs.declared.changes.Change.{Change}
use Rattle.shop_records.specs.declared.changes.MaterialTotals.{MaterialTotals}
use Rattle.shop_records.specs.declared.imports.ImportRow.{ImportRow}
use Rattle.shop_records.specs.declared.texts.Kept.{Kept}
use Rattle.shop_records.specs.declared.records.Job.{Job}
use Rattle.shop_records.specs.declared.records.Material.{Material}
use Rattle.shop_records.specs.declared.records.Part.{Part}
use Rattle.shop_records.specs.declared.records.Demand.{Demand}
use Rattle.shop_records.proofs.Basics.{names_total, names_same, codes_total, codes_same, none_some, same_some, key_cases, tied, untied, get_other, all_in}
use Rattle.shop_records.proofs.Puts.{Pairwise, pairs_in, pairs_more}
use Rattle.shop_records.specs.declared.journal.Entry.{Entry}
use Rattle.shop_statements.specs.declared.uses.JobOrder.{JobOrder}
use Rattle.shop_statements.specs.Rows.{use_cmp}
use Rattle.shop_statements.proofs.Finding.{use_total, use_same}
use Rattle.shop_statements.specs.Shown.{Books}
use Rattle.shop_statements.specs.Changes.{with_part, with_demand, with_use}
use Rattle.shop_tables.specs.Changing.{HasSums, HasTrail, AreDemandsFit, AreInTurn, IsOver, recounted, with_row, with_change, AreNewUses, is_ordered, new_uses, put_uses, uses_of, uses_of_job}

-- ---- rows that are put one after another

-- rows that each find what they need, under different keys, find it in turn
module _ {X : Type 0} (Needs : X → Books → Type 0) (with_one : X → Books → Books) (Apart : X → X → Type 0) (stays : (x y : X) (b : Books) → Apart x y → Needs y b → Needs y (with_one x b)) where
  pub in_turn : (rows : List X) (b : Books) → ((x : X) → IsIn x rows → Needs x b) → Pairwise Apart rows → AreInTurn Needs with_one rows b
  in_turn [] b each apart = tt
  in_turn (x ∷ rows) b each apart = (each x (inl refl), in_turn rows (with_one x b) (λ y i. stays x y b (apart.0 y i) (each y (inr i))) apart.1)

less_apart : (a b : Name) → name_cmp a b ≡ Less → a ≢ b
less_apart a b less e = let tie : name_cmp b b ≡ Less = subst (λ n. name_cmp n b ≡ Less) e less in let own = tied_itself names_total b in cc

-- where a part moves, the names without a part are the same
moved_new : (moved : Option Part) (m : Content) → IfSome moved (IsMovedPart m) → (name : Name) → part_at m name ≡ None → get (content.with_moved moved m.parts) name ≡ None
moved_new None m fits name new = new
moved_new (Some part) m fits name new =
    get_other names_total names_same m.parts part.name part name (λ e. none_some _ (sym new ∙ ap (get m.parts) e ∙ fits.found)) ∙ new

-- and where parts are undone
undone_new : (m : Content) (undone : List Part) → ((x : Part) → IsIn x undone → IsMovedPart m x) → (name : Name) → part_at m name ≡ None → (rows : FinMap name_cmp Part) → get rows name ≡ None → get (content.with_parts undone rows) name ≡ None
undone_new m [] each name new rows none = none
undone_new m (part ∷ more) each name new rows none =
    let was = each part (inl refl) in
    undone_new m more (λ x i. each x (inr i)) name new (insert rows part.name part)
    (get_other names_total names_same rows part.name part name (λ e. none_some _ (sym new ∙ ap (get m.parts) e ∙ was.found)) ∙ none)

-- a part that is there is there in another state where it is the one that moved
over_moved : (moved : Option Part) (m : Content) → IfSome moved (IsMovedPart m) → (rows : FinMap name_cmp Part) (x : Part) → rows ≡ content.with_moved moved m.parts → IsMovedPart m x → IsOver rows x.name (in_state x.state) x
over_moved None m fits rows x same was = record { before = was.before; found = ap (λ r. get r x.name) same ∙ was.found; is = was.is }
over_moved (Some part) m fits rows x same was = elim (key_cases names_total names_same x.name part.name) [
  | inl is ↦
      let found : get (insert m.parts part.name part) x.name ≡ Some part = get-insert names_total m.parts part.name part x.name ∙ ap (λ c. cond c (Some part) (get m.parts x.name)) is.1 in
      let one : was.before ≡ fits.before = same_some was.before fits.before (sym was.found ∙ ap (get m.parts) is.0 ∙ fits.found) in
      record { before = part; found = ap (λ r. get r x.name) same ∙ found; is = was.is ∙ ap (in_state x.state) one ∙ ap (in_state x.state) (sym fits.is) }
  | inr other ↦ record { before = was.before; found = ap (λ r. get r x.name) same ∙ get_other names_total names_same m.parts part.name part x.name other.0 ∙ was.found; is = was.is }
]

module _ (m : Content) (change : Change) (fits : Fits m change) where
  -- a part that is undone is there, whether it is the one that moved or not
  pub undone_fits : (b : Books) → b.content.parts ≡ content.with_moved change.moved m.parts → AreInTurn (λ part n. IsOver n.content.parts part.name (in_state part.state) part) with_part change.undone b
  undone_fits b same =
      in_turn (λ part n. IsOver n.content.parts part.name (in_state part.state) part) with_part (λ x y. x.name ≢ y.name)
      (λ x y n apart was. record { before = was.before; found = get_other names_total names_same n.content.parts x.name x y.name (λ e. apart (sym e)) ∙ was.found; is = was.is }) change.undone b
      (λ part i. over_moved change.moved m fits.moved b.content.parts part same (all_in (IsMovedPart m) change.undone fits.undone part i))
      (pairs_more _ _ (λ x y. less_apart x.name y.name) change.undone (pairs_in _ change.undone fits.apart))

  pub parts_new : (b : Books) → b.content.parts ≡ content.with_parts change.undone (content.with_moved change.moved m.parts) → AreInTurn (λ part n. part_at n.content part.name ≡ None) with_part change.parts b
  parts_new b same =
      in_turn (λ part n. part_at n.content part.name ≡ None) with_part (λ x y. x.name ≢ y.name)
      (λ x y n apart new. get_other names_total names_same n.content.parts x.name x y.name (λ e. apart (sym e)) ∙ new) change.parts b
      (λ part i.
      let new = (all_in (IsNewPart m) change.parts fits.parts part i).new in
      ap (λ rows. get rows part.name) same
      ∙ undone_new m change.undone (λ x j. all_in (IsMovedPart m) change.undone fits.undone x j) part.name new (content.with_moved change.moved m.parts) (moved_new change.moved m fits.moved part.name new))
      (pairs_more _ _ (λ x y. less_apart x.name y.name) change.parts (pairs_in _ change.parts fits.rising))

  pub moved_fits : (b : Books) → b.content.parts ≡ m.parts → IfSome change.moved (λ part. IsOver b.content.parts part.name (in_state part.state) part)
  moved_fits b same = by change.moved fits.moved
    where
      by : (moved : Option Part) → IfSome moved (IsMovedPart m) → IfSome moved (λ part. IsOver b.content.parts part.name (in_state part.state) part)
      by None h = tt
      by (Some part) h = record { before = h.before; found = ap (λ rows. get rows part.name) same ∙ h.found; is = h.is }

  pub demands_fit : (b : Books) → b.content.demands ≡ m.demands → AreDemandsFit (content.lines_for change) change.demands b
  demands_fit b same = by (content.lines_for change) fits.demands
    where
      apart : Pairwise (λ x y. x.number ≢ y.number) change.demands
      apart = pairs_in _ change.demands fits.once

      other : (x y : Demand) (n : Books) → x.number ≢ y.number → get (insert n.content.demands x.number x) y.number ≡ get n.content.demands y.number
      other x y n apart = get_other nat_cmp_total nat_cmp-IsAntisymmetric n.content.demands x.number x y.number (λ e. apart (sym e))

      by : (order : Option (List ℕ)) → MatchOption order (All (IsMovedDemand m) change.demands) (λ code. All (IsNewDemand m code) change.demands) → AreDemandsFit order change.demands b
      by None all = in_turn (λ demand n. IsOver n.content.demands demand.number (recounted demand) demand) with_demand (λ x y. x.number ≢ y.number)
          (λ x y n apart was. record { before = was.before; found = other x y n apart ∙ was.found; is = was.is }) change.demands b
          (λ x i. let was = all_in (IsMovedDemand m) change.demands all x i in record { before = was.before; found = ap (λ rows. get rows x.number) same ∙ was.found; is = was.is }) apart
      by (Some code) all = in_turn (λ demand n. demand_at n.content demand.number ≡ None) with_demand (λ x y. x.number ≢ y.number)
          (λ x y n apart new. other x y n apart ∙ new) change.demands b
          (λ x i. ap (λ rows. get rows x.number) same ∙ (all_in (IsNewDemand m code) change.demands all x i).new) apart

-- ---- totals

either : {X Y : Type 0} (c : Bool) (x : X) (y : Y) (p : Option X) (q : Option Y) → is_some p ≡ is_some q → is_some (cond c (Some x) p) ≡ is_some (cond c (Some y) q)
either true x y p q same = refl
either false x y p q same = same

there_then : (b : Books) (material : Option Material) (row : Option MaterialTotals) → HasSums b → TotalsFit b.content material row → (code : List ℕ)
    → is_some (get (with_row row b.totals) code) ≡ is_some (get (content.with_material material b.content.materials) code)
there_then b None None has fits code = has.there code
there_then b None (Some row) has fits code = elim (key_cases codes_total codes_same code row.material) [
  | inl is ↦ ap is_some (get-insert codes_total b.totals row.material row.totals code ∙ ap (λ c. cond c (Some row.totals) (get b.totals code)) is.1) ∙ sym (ap (λ c. is_some (material_at b.content c)) is.0 ∙ fits)
  | inr other ↦ ap is_some (get-insert codes_total b.totals row.material row.totals code ∙ ap (λ c. cond c (Some row.totals) (get b.totals code)) other.1) ∙ has.there code
]
there_then b (Some material) None has fits code = absurd fits
there_then b (Some material) (Some row) has fits code =
    ap is_some (get-insert codes_total b.totals row.material row.totals code) ∙ ap (λ k. is_some (cond (eq_by_cmp code_cmp code k) (Some row.totals) (get b.totals code))) fits
    ∙ either (eq_by_cmp code_cmp code material.code) row.totals material (get b.totals code) (material_at b.content code) (has.there code)
    ∙ sym (ap is_some (get-insert codes_total b.content.materials material.code material code))

sums_then : (b : Books) (row : Option MaterialTotals) → HasSums b → (code : List ℕ) → unwrap_or (get (with_row row b.totals) code) no_totals ≡ with_totals row code (totals_of b.content code)
sums_then b None has code = has.sums code
sums_then b (Some row) has code = elim (key_cases codes_total codes_same code row.material) [
  | inl is ↦ ap (λ o. unwrap_or o no_totals) (get-insert codes_total b.totals row.material row.totals code ∙ ap (λ c. cond c (Some row.totals) (get b.totals code)) is.1)
      ∙ sym (ap (λ (c : Bool). if c then row.totals else totals_of b.content code) (tied codes_total codes_same row.material code (sym is.0)))
  | inr other ↦ ap (λ o. unwrap_or o no_totals) (get-insert codes_total b.totals row.material row.totals code ∙ ap (λ c. cond c (Some row.totals) (get b.totals code)) other.1)
      ∙ has.sums code ∙ sym (ap (λ (c : Bool). if c then row.totals else totals_of b.content code) (untied codes_total codes_same row.material code (λ e. other.0 (sym e))))
]

-- ---- the orders of jobs

in_uses : (job : ℕ) (demands : List Demand) (x : JobOrder) → IsIn x (uses_of job demands) → x.job ≡ job
in_uses job [] x i = absurd i
in_uses job (demand ∷ more) x i =
    elim (is_ordered demand.order more) as (λ (c : Bool). IsIn x (if c then uses_of job more else uses_of job more ++ record { job = job; order = demand.order } ∷ []) → x.job ≡ job) [
      | true ↦ λ there. in_uses job more x there
      | false ↦ λ there. last (uses_of job more) (in_uses job more x) there
    ] i
  where
    last : (xs : List JobOrder) → (IsIn x xs → x.job ≡ job) → IsIn x (xs ++ record { job = job; order = demand.order } ∷ []) → x.job ≡ job
    last [] each (inl is) = ap (λ (u : JobOrder). u.job) is
    last [] each (inr none) = absurd none
    last (y ∷ ys) each (inl is) = each (inl is)
    last (y ∷ ys) each (inr later) = last ys (λ there. each (inr there)) later

-- what holds of each order of a job that was there, and of each new one, holds of all
put_all_uses : (P : JobOrder → Type 0) (xs : List JobOrder) (uses : FinMap use_cmp (Unit {0})) → ((x : JobOrder) → IsSome (get uses x) → P x) → ((x : JobOrder) → IsIn x xs → P x) → (x : JobOrder) → IsSome (get (put_uses xs uses) x) → P x
put_all_uses P [] uses old new x there = old x there
put_all_uses P (y ∷ more) uses old new x there =
    put_all_uses P more (insert uses y tt)
    (λ z found. elim (key_cases use_total use_same z y) [
      | inl is ↦ subst P (sym is.0) (new y (inl refl))
      | inr other ↦ old z (subst IsSome (get-insert use_total uses y tt z ∙ ap (λ c. cond c (Some tt) (get uses z)) other.1) found)
    ]) (λ z i. new z (inr i)) x there

job_stays : (jobs : FinMap nat_cmp Job) (job : Option Job) (n : ℕ) → IsSome (get jobs n) → IsSome (get (content.with_job job jobs) n)
job_stays jobs None n there = there
job_stays jobs (Some job) n there =
    subst IsSome (sym (get-insert nat_cmp_total jobs job.act job n)) (either_some (eq_by_cmp nat_cmp n job.act) (get jobs n) there)
  where
    either_some : (c : Bool) (found : Option Job) → IsSome found → IsSome (cond c (Some job) found)
    either_some true found there = refl
    either_some false found there = there

uses_then : (jobs : FinMap nat_cmp Job) (uses : FinMap use_cmp (Unit {0})) (job : Option Job) (act : Option ℕ) (demands : List Demand) → ((x : JobOrder) → IsSome (get uses x) → IsSome (get jobs x.job))
    → (x : JobOrder) → IsSome (get (put_uses (uses_of_job job act demands) uses) x) → IsSome (get (content.with_job job jobs) x.job)
uses_then jobs uses None act demands has x there = has x there
uses_then jobs uses (Some job) None demands has x there = job_stays jobs (Some job) x.job (has x there)
uses_then jobs uses (Some job) (Some act) demands has x there =
    put_all_uses (λ x. IsSome (get (insert jobs job.act job) x.job)) (uses_of job.act demands) uses (λ x there. job_stays jobs (Some job) x.job (has x there))
    (λ x i. subst (λ n. IsSome (get (insert jobs job.act job) n)) (sym (in_uses job.act demands x i))
    (subst IsSome (sym (get-insert nat_cmp_total jobs job.act job job.act ∙ ap (λ c. cond c (Some job) (get jobs job.act)) (tied nat_cmp_total nat_cmp-IsAntisymmetric job.act job.act refl))) refl)) x there

-- ---- what a change keeps

-- a change that fits keeps the totals the sums
pub sums_kept : (b : Books) (change : Change) → HasSums b → Fits b.content change → HasSums (with_change change b)
sums_kept b change has fits = record {
  there = there_then b change.material change.totals has fits.totals;
  sums = λ code. sums_then b change.totals has code ∙ sym (fits.sums code);
}

entries_then : (rows : FinMap nat_cmp Entry) (entry : Option Entry) → ((number : ℕ) → IsSome (get rows number) → (1 ≤ number) × (number ≤ len rows)) → IfSome entry (λ e. (e.number ≡ len rows + 1) × (get rows e.number ≡ None))
    → (number : ℕ) → IsSome (get (content.with_entry entry rows) number) → (1 ≤ number) × (number ≤ len (content.with_entry entry rows))
entries_then rows None has fits number there = has number there
entries_then rows (Some e) has fits number there =
    let more : len (insert rows e.number e) ≡ len rows + 1 = len-insert nat_cmp_total rows e.number e ∙ rw fits.1 refl in
    elim (key_cases nat_cmp_total nat_cmp-IsAntisymmetric number e.number) [
      | inl is ↦ let same = is.0 in let next = fits.0 in (omega (arith, same, next), omega (arith, same, next, more))
      | inr other ↦
          let was = has number (subst IsSome (get-insert nat_cmp_total rows e.number e number ∙ ap (λ c. cond c (Some e) (get rows number)) other.1) there) in
          (was.0, let low = was.1 in omega (arith, low, more))
    ]

-- and that the entries have no gap, and that the orders of jobs are of jobs that are there
pub trail_kept : (b : Books) (change : Change) → HasTrail b → Fits b.content change → HasTrail (with_change change b)
trail_kept b change has fits = record {
  numbers = entries_then b.content.entries change.entry has.numbers (by change.entry fits.entry);
  uses = uses_then b.content.jobs b.uses change.job change.act change.demands has.uses;
}
  where
    by : (entry : Option Entry) → IfSome entry (IsNewEntry b.content change.kept) → IfSome entry (λ e. (e.number ≡ len b.content.entries + 1) × (get b.content.entries e.number ≡ None))
    by None h = tt
    by (Some e) h = (h.next, h.new)

-- where there is no entry and no order of a job
pub no_trail : (b : Books) → b.content.entries ≡ empty → b.uses ≡ empty → HasTrail b
no_trail b none unused = record {
  numbers = λ number there. absurd (let e = subst IsSome (ap (λ rows. get rows number) none ∙ get-empty nat_cmp number) there in cc);
  uses = λ x there. absurd (let e = subst IsSome (ap (λ rows. get rows x) unused ∙ get-empty use_cmp x) there in cc);
}

-- the totals of a new material are new, and others are there
totals_there : (b : Books) (material : Option Material) (row : Option MaterialTotals) → HasSums b → IfSome material (λ x. material_at b.content x.code ≡ None) → TotalsFit b.content material row
    → IfSome row (λ r. is_some (get b.totals r.material) ≡ not (is_some material))
totals_there b None None has new fits = tt
totals_there b None (Some row) has new fits = has.there row.material ∙ fits
totals_there b (Some material) None has new fits = tt
totals_there b (Some material) (Some row) has new fits = has.there row.material ∙ ap (λ k. is_some (material_at b.content k)) fits ∙ ap is_some new

pub totals_fit : (b : Books) (change : Change) → HasSums b → Fits b.content change → IfSome change.totals (λ row. is_some (get b.totals row.material) ≡ not (is_some change.material))
totals_fit b change has fits = totals_there b change.material change.totals has fits.material fits.totals

-- ---- a job, whatever messages are kept and entries are there

pub job_fits : (m : Content) (kept : FinMap content.message_id_cmp Kept) (entries : FinMap nat_cmp Entry) (job : Option Job) (act : Option ℕ) → IfSome job (λ j. MatchOption act (IsMovedJob m j) (λ number. IsNewJob m number j))
    → IfSome job (λ j. MatchOption act (IsMovedJob (record m { kept = kept; entries = entries }) j) (λ number. IsNewJob (record m { kept = kept; entries = entries }) number j))
job_fits m kept entries None act fits = tt
job_fits m kept entries (Some job) None fits = record { before = fits.before; found = fits.found; is = fits.is; part = fits.part }
job_fits m kept entries (Some job) (Some act) fits = record {
  numbered = fits.numbered;
  new = fits.new;
  on = record { row = fits.on.row; found = fits.on.found; material = fits.on.material; known = fits.on.known; width = fits.on.width; height = fits.on.height; kerf = fits.on.kerf };
  kerf = fits.kerf;
}

-- ---- orders of a new job

apart_uses : (job : ℕ) (demands : List Demand) → Pairwise (λ x y. x ≢ y) (uses_of job demands)
apart_uses job [] = tt
apart_uses job (demand ∷ more) =
    elim (is_ordered demand.order more) as (λ (c : Bool). is_ordered demand.order more ≡ c → Pairwise (λ x y. x ≢ y) (if c then uses_of job more else uses_of job more ++ record { job = job; order = demand.order } ∷ [])) [
      | true ↦ λ is. apart_uses job more
      | false ↦ λ is. with_last (uses_of job more) (record { job = job; order = demand.order }) (apart_uses job more) (λ x i same. other_orders more is x i (ap (λ (u : JobOrder). u.order) same))
    ] refl
  where
    pushed : (xs : List JobOrder) (y x : JobOrder) → IsIn x (xs ++ y ∷ []) → IsIn x xs ⊎ (x ≡ y)
    pushed [] y x (inl is) = inr is
    pushed [] y x (inr none) = absurd none
    pushed (z ∷ zs) y x (inl is) = inl (inl is)
    pushed (z ∷ zs) y x (inr later) = elim (pushed zs y x later) [ inl i ↦ inl (inr i) | inr is ↦ inr is ]

    with_last : (xs : List JobOrder) (y : JobOrder) → Pairwise (λ a b. a ≢ b) xs → ((x : JobOrder) → IsIn x xs → x ≢ y) → Pairwise (λ a b. a ≢ b) (xs ++ y ∷ [])
    with_last [] y apart far = (λ x none. absurd none, tt)
    with_last (x ∷ xs) y apart far =
        (λ z i. elim (pushed xs y z i) [ inl there ↦ apart.0 z there | inr is ↦ λ same. far x (inl refl) (same ∙ is) ], with_last xs y apart.1 (λ z i. far z (inr i)))

    neither : (a b : Bool) → (a || b) ≡ false → (a ≡ false) × (b ≡ false)
    neither true b h = absurd (true≢false h)
    neither false b h = (refl, h)

    other_orders : (rows : List Demand) → is_ordered demand.order rows ≡ false → (x : JobOrder) → IsIn x (uses_of job rows) → x.order ≢ demand.order
    other_orders [] is x i = absurd i
    other_orders (d ∷ rows) is x i = let two = neither _ _ is in
        elim (is_ordered d.order rows) as (λ (c : Bool). IsIn x (if c then uses_of job rows else uses_of job rows ++ record { job = job; order = d.order } ∷ []) → x.order ≢ demand.order) [
          | true ↦ λ there. other_orders rows two.1 x there
          | false ↦ λ there. elim (pushed (uses_of job rows) (record { job = job; order = d.order }) x there) [
            | inl before ↦ other_orders rows two.1 x before
            | inr same ↦ λ e. absurd (true≢false (sym (subst (λ y. pointwise nat_eq d.order y ≡ true) (sym (ap (λ (u : JobOrder). u.order) same) ∙ e) (nat_list_eq_equiv.refl d.order)) ∙ two.0))
          ]
        ] i

none_is : {X : Type 0} (found : Option X) → (IsSome found → ⊥) → found ≡ None
none_is None never = refl
none_is (Some x) never = absurd (never refl)

-- the orders of a new job are new
pub uses_new : (b : Books) (change : Change) → HasTrail b → Fits b.content change → (n : Books) → n.uses ≡ b.uses → AreNewUses (new_uses change) n
uses_new b change has fits n same = by change.job change.act fits.job
  where
    by : (job : Option Job) (act : Option ℕ) → IfSome job (λ j. MatchOption act (IsMovedJob b.content j) (λ number. IsNewJob b.content number j)) → AreNewUses (uses_of_job job act change.demands) n
    by None act h = tt
    by (Some job) None h = tt
    by (Some job) (Some act) h =
        in_turn (λ x m. get m.uses x ≡ None) with_use (λ x y. x ≢ y)
        (λ x y m apart new. get_other use_total use_same m.uses x tt y (λ e. apart (sym e)) ∙ new) (uses_of job.act change.demands) n
        (λ x i. ap (λ rows. get rows x) same ∙ none_is _ (λ there. none_there x (in_uses job.act change.demands x i) (has.uses x there) h.new)) (apart_uses job.act change.demands)
      where
        none_there : (x : JobOrder) → x.job ≡ job.act → IsSome (get b.content.jobs x.job) → get b.content.jobs job.act ≡ None → ⊥
        none_there x is there none = let e = subst IsSome (ap (get b.content.jobs) is ∙ none) there in cc

-- ---- an entry

pub entry_new : (m : Content) (change : Change) → Fits m change → IfSome change.entry (λ row. entry_at m row.number ≡ None)
entry_new m change fits = by change.entry fits.entry
  where
    by : (entry : Option Entry) → IfSome entry (IsNewEntry m change.kept) → IfSome entry (λ row. entry_at m row.number ≡ None)
    by None h = tt
    by (Some row) h = h.new

-- ---- an import

pub import_new : (m : Content) (change : Change) → Fits m change → IfSome change.import (λ row. import_at m row.order ≡ None)
import_new m change fits = by change.import fits.import
  where
    by : (import : Option ImportRow) → IfSome import (λ row. (import_at m row.order ≡ None) × (change.order ≡ Some row.order)) → IfSome import (λ row. import_at m row.order ≡ None)
    by None h = tt
    by (Some row) h = h.0

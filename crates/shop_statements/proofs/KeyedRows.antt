-- Each row stands under its own key, and parts and codes are values, after one is new or another.
use Rattle.std.proofs.Common.{◌≡◌, ℕ, true, List, Some, None, IsTrue, refl, sym, ap, subst, ◌∙◌}
use Rattle.std.proofs.lemmas.Bool.{cases_Bool}
use Rattle.std.proofs.Common.{inl, inr, ◌⊎◌}
use Rattle.std.specs.declared.cmp.Ordering.{Ordering}
use Rattle.std.specs.declared.cmp.Ordering.TheVariants.{Less, Equal, Greater}
use Rattle.std.specs.Ordering.{eq_by_cmp, is_eq}
use Rattle.std.specs.Cmp.{IsTotalOrder, nat_cmp_total}
use Rattle.std.specs.Ordering.{nat_cmp}
use Rattle.std.specs.FinMap.{FinMap, IsAntisymmetric, get, insert, get-insert, remove, get-remove, nat_cmp-IsAntisymmetric}
use Rattle.std.specs.Prelude.{Bool, cond, false}
use Rattle.cut_measure.specs.Codes.{code_cmp, is_code}
use Rattle.cut_measure.specs.Names.{Name}
use Rattle.shop_records.specs.Content.{Content, material_at, part_at}
use Rattle.shop_records.specs.declared.records.Material.{Material}
use Rattle.shop_records.specs.declared.records.Part.{Part}
use Rattle.shop_records.specs.declared.records.Job.{Job}
use Rattle.shop_records.specs.declared.records.JobHalt.{JobHalt}
use Rattle.shop_records.specs.declared.records.JobBegin.{JobBegin}
use Rattle.shop_records.specs.declared.notes.OrderNote.{OrderNote}
use Rattle.shop_records.specs.declared.records.Demand.{Demand}
use Rattle.shop_records.specs.declared.imports.ImportRow.{ImportRow}
use Rattle.shop_records.specs.declared.journal.Entry.{Entry}
use Rattle.shop_statements.specs.Rows.{IsKeyed, IsOwnJob}
use Rattle.shop_statements.specs.Halts.{IsHaltValue}
use Rattle.shop_statements.specs.Values.{IsEntryValue, IsPartValue}
use Rattle.shop_statements.proofs.Finding.{code_total, code_same, name_total, name_same}

some_same : {X : Type 0} (x y : X) → Some x ≡ Some y → x ≡ y
some_same x y h = cc

tied : (r : Ordering) → is_eq r ≡ true → r ≡ Equal
tied Less h = absurd (cc)
tied Equal h = refl
tied Greater h = absurd (cc)

module _ {K X : Type 0} {R : K → K → Ordering} (o : IsTotalOrder R) (same : IsAntisymmetric R) where
  -- what is found after an insert is the new one, or what was found before
  found_then : (m : FinMap R X) (k q : K) (x y : X) → get (insert m k x) q ≡ Some y → ((q ≡ k) × (y ≡ x)) ⊎ (get m q ≡ Some y)
  found_then m k q x y h = elim (cases_Bool (eq_by_cmp R q k)) [
    | inl is ↦ inl (same q k (tied _ is), sym (some_same x y (rw is at (sym (get-insert o m k x q) ∙ h))))
    | inr other ↦ inr (rw other at (sym (get-insert o m k x q) ∙ h))
  ]

  -- what holds of each, also of the new one, holds of each after it
  pub each_then : (P : K → X → Type 0) (m : FinMap R X) (k : K) (x : X) → ((q : K) (y : X) → get m q ≡ Some y → P q y) → P k x → (q : K) (y : X) → get (insert m k x) q ≡ Some y → P q y
  each_then P m k x all one q y h = elim (found_then m k q x y h) [
    | inl new ↦ subst (λ p. P p y) (sym new.0) (subst (P k) (sym new.1) one)
    | inr old ↦ all q y old
  ]

  -- another key's row is found as before
  pub found_still : (m : FinMap R X) (k q : K) (x y : X) → get m k ≡ None → get m q ≡ Some y → get (insert m k x) q ≡ Some y
  found_still m k q x y fresh h = elim (cases_Bool (eq_by_cmp R q k)) [
    | inl is ↦ absurd (let e : None ≡ Some y = sym fresh ∙ ap (get m) (sym (same q k (tied _ is))) ∙ h in cc)
    | inr other ↦ get-insert o m k x q ∙ rw other h
  ]

  -- where a row is replaced by one that keeps this of it, each found row has one that keeps it
  pub found_like : (Like : X → X → Type 0) → ((y : X) → Like y y) → (m : FinMap R X) (k q : K) (x d y : X) → get m k ≡ Some d → Like d x → get m q ≡ Some y → (z : X) × (get (insert m k x) q ≡ Some z) × Like y z
  found_like Like itself m k q x d y there like h = elim (cases_Bool (eq_by_cmp R q k)) [
    | inl is ↦ (x, get-insert o m k x q ∙ rw is refl, subst (λ w. Like w x) (some_same d y (sym there ∙ ap (get m) (sym (same q k (tied _ is))) ∙ h)) like)
    | inr other ↦ (y, get-insert o m k x q ∙ rw other h, itself y)
  ]

  -- and of each that is left where one is taken out
  pub each_left : (P : K → X → Type 0) (m : FinMap R X) (k : K) → ((q : K) (y : X) → get m q ≡ Some y → P q y) → (q : K) (y : X) → get (remove m k) q ≡ Some y → P q y
  each_left P m k all q y h = by (eq_by_cmp R q k) (sym (get-remove o m k q) ∙ h)
    where
      by : (b : Bool) → cond b None (get m q) ≡ Some y → P q y
      by true e = absurd (cc)
      by false e = all q y e

-- of one size and material
abbrev pub SameCut : Part → Part → Type 0
SameCut p q = (q.size ≡ p.size) × (q.material ≡ p.material)

job_still : (m n : Content) → ((q : Name) (p : Part) → part_at m q ≡ Some p → (z : Part) × (part_at n q ≡ Some z) × SameCut p z) → ((code : List ℕ) (x : Material) → material_at m code ≡ Some x → material_at n code ≡ Some x)
    → (number : ℕ) (job : Job) → IsOwnJob m number job → IsOwnJob n number job
job_still m n parts materials number job own =
    let on = own.on in
    let part = parts job.part on.row on.found in
    record {
      numbered = own.numbered;
      kerf = own.kerf;
      plan = own.plan;
      on = record {
        row = part.0;
        found = part.1;
        material = on.material;
        known = ap (material_at n) part.2.1 ∙ materials on.row.material on.material on.known;
        width = on.width ∙ ap (λ s. s.w) (sym part.2.0);
        height = on.height ∙ ap (λ s. s.h) (sym part.2.0);
        kerf = on.kerf;
      };
    }

itself : (p : Part) → SameCut p p
itself p = (refl, refl)

module _ (m : Content) (keyed : IsKeyed m) where
  pub with_material_keyed : (x : Material) → IsTrue (is_code x.code) → get m.materials x.code ≡ None → IsKeyed (record m { materials = insert m.materials x.code x })
  with_material_keyed x coded fresh = record {
    materials = each_then code_total code_same (λ code y. y.code ≡ code) m.materials x.code x keyed.materials refl;
    parts = keyed.parts;
    jobs = λ number job there. job_still m (record m { materials = insert m.materials x.code x }) (λ q p found. (p, found, itself p)) (λ code y. found_still code_total code_same m.materials x.code code x y fresh) number job (keyed.jobs number job there);
    halts = keyed.halts;
    begun = keyed.begun;
    notes = keyed.notes;
    demands = keyed.demands;
    imports = keyed.imports;
    entries = keyed.entries;
    codes = each_then code_total code_same (λ code y. IsTrue (is_code code)) m.materials x.code x keyed.codes coded;
    values = keyed.values;
    noted = keyed.noted;
    halted = keyed.halted;
  }

  pub with_part_keyed : (x : Part) → IsPartValue x → get m.parts x.name ≡ None → IsKeyed (record m { parts = insert m.parts x.name x })
  with_part_keyed x value fresh = record {
    materials = keyed.materials;
    parts = each_then name_total name_same (λ name y. y.name ≡ name) m.parts x.name x keyed.parts refl;
    jobs = λ number job there. job_still m (record m { parts = insert m.parts x.name x }) (λ q p found. (p, found_still name_total name_same m.parts x.name q x p fresh found, itself p)) (λ code y found. found) number job (keyed.jobs number job there);
    halts = keyed.halts;
    begun = keyed.begun;
    notes = keyed.notes;
    demands = keyed.demands;
    imports = keyed.imports;
    entries = keyed.entries;
    codes = keyed.codes;
    values = each_then name_total name_same (λ name y. IsPartValue y) m.parts x.name x keyed.values value;
    noted = keyed.noted;
    halted = keyed.halted;
  }

  pub with_moved_keyed : (x d : Part) → IsPartValue x → get m.parts x.name ≡ Some d → SameCut d x → IsKeyed (record m { parts = insert m.parts x.name x })
  with_moved_keyed x d value was like = record {
    materials = keyed.materials;
    parts = each_then name_total name_same (λ name y. y.name ≡ name) m.parts x.name x keyed.parts refl;
    jobs = λ number job there. job_still m (record m { parts = insert m.parts x.name x }) (λ q p found. found_like name_total name_same SameCut itself m.parts x.name q x d p was like found) (λ code y found. found) number job (keyed.jobs number job there);
    halts = keyed.halts;
    begun = keyed.begun;
    notes = keyed.notes;
    demands = keyed.demands;
    imports = keyed.imports;
    entries = keyed.entries;
    codes = keyed.codes;
    values = each_then name_total name_same (λ name y. IsPartValue y) m.parts x.name x keyed.values value;
    noted = keyed.noted;
    halted = keyed.halted;
  }

  pub with_job_keyed : (x : Job) → IsOwnJob m x.act x → IsKeyed (record m { jobs = insert m.jobs x.act x })
  with_job_keyed x own = record {
    materials = keyed.materials;
    parts = keyed.parts;
    jobs = λ number job there. job_still m (record m { jobs = insert m.jobs x.act x }) (λ q p found. (p, found, itself p)) (λ code y found. found) number job (each_then nat_cmp_total nat_cmp-IsAntisymmetric (IsOwnJob m) m.jobs x.act x keyed.jobs own number job there);
    halts = keyed.halts;
    begun = keyed.begun;
    notes = keyed.notes;
    demands = keyed.demands;
    imports = keyed.imports;
    entries = keyed.entries;
    codes = keyed.codes;
    values = keyed.values;
    noted = keyed.noted;
    halted = keyed.halted;
  }

  pub with_demand_keyed : (x : Demand) → IsKeyed (record m { demands = insert m.demands x.number x })
  with_demand_keyed x = record {
    materials = keyed.materials;
    parts = keyed.parts;
    jobs = λ number job there. job_still m (record m { demands = insert m.demands x.number x }) (λ q p found. (p, found, itself p)) (λ code y found. found) number job (keyed.jobs number job there);
    halts = keyed.halts;
    begun = keyed.begun;
    notes = keyed.notes;
    demands = each_then nat_cmp_total nat_cmp-IsAntisymmetric (λ number y. y.number ≡ number) m.demands x.number x keyed.demands refl;
    imports = keyed.imports;
    entries = keyed.entries;
    codes = keyed.codes;
    values = keyed.values;
    noted = keyed.noted;
    halted = keyed.halted;
  }

  pub with_import_keyed : (x : ImportRow) → IsKeyed (record m { imports = insert m.imports x.order x })
  with_import_keyed x = record {
    materials = keyed.materials;
    parts = keyed.parts;
    jobs = λ number job there. job_still m (record m { imports = insert m.imports x.order x }) (λ q p found. (p, found, itself p)) (λ code y found. found) number job (keyed.jobs number job there);
    halts = keyed.halts;
    begun = keyed.begun;
    notes = keyed.notes;
    demands = keyed.demands;
    imports = each_then code_total code_same (λ code y. y.order ≡ code) m.imports x.order x keyed.imports refl;
    entries = keyed.entries;
    codes = keyed.codes;
    values = keyed.values;
    noted = keyed.noted;
    halted = keyed.halted;
  }

  pub with_entry_keyed : (x : Entry) → IsEntryValue x → IsKeyed (record m { entries = insert m.entries x.number x })
  with_entry_keyed x value = record {
    materials = keyed.materials;
    parts = keyed.parts;
    jobs = λ number job there. job_still m (record m { entries = insert m.entries x.number x }) (λ q p found. (p, found, itself p)) (λ code y found. found) number job (keyed.jobs number job there);
    halts = keyed.halts;
    begun = keyed.begun;
    notes = keyed.notes;
    demands = keyed.demands;
    imports = keyed.imports;
    entries = each_then nat_cmp_total nat_cmp-IsAntisymmetric (λ number y. y.number ≡ number) m.entries x.number x keyed.entries refl;
    codes = keyed.codes;
    values = keyed.values;
    noted = each_then nat_cmp_total nat_cmp-IsAntisymmetric (λ number y. IsEntryValue y) m.entries x.number x keyed.noted value;
    halted = keyed.halted;
  }

  pub with_notes_keyed : (rows : FinMap code_cmp OrderNote) → ((order : List ℕ) (row : OrderNote) → get rows order ≡ Some row → row.order ≡ order) → IsKeyed (record m { notes = rows })
  with_notes_keyed rows own = record {
    materials = keyed.materials;
    parts = keyed.parts;
    jobs = λ number job there. job_still m (record m { notes = rows }) (λ q p found. (p, found, itself p)) (λ code y found. found) number job (keyed.jobs number job there);
    halts = keyed.halts;
    begun = keyed.begun;
    notes = own;
    demands = keyed.demands;
    imports = keyed.imports;
    entries = keyed.entries;
    codes = keyed.codes;
    values = keyed.values;
    noted = keyed.noted;
    halted = keyed.halted;
  }

  pub with_begun_keyed : (rows : FinMap nat_cmp JobBegin) → ((number : ℕ) (row : JobBegin) → get rows number ≡ Some row → row.job ≡ number) → IsKeyed (record m { begun = rows })
  with_begun_keyed rows own = record {
    materials = keyed.materials;
    parts = keyed.parts;
    jobs = λ number job there. job_still m (record m { begun = rows }) (λ q p found. (p, found, itself p)) (λ code y found. found) number job (keyed.jobs number job there);
    halts = keyed.halts;
    begun = own;
    notes = keyed.notes;
    demands = keyed.demands;
    imports = keyed.imports;
    entries = keyed.entries;
    codes = keyed.codes;
    values = keyed.values;
    noted = keyed.noted;
    halted = keyed.halted;
  }

  pub with_halts_keyed : (rows : FinMap nat_cmp JobHalt) → ((number : ℕ) (row : JobHalt) → get rows number ≡ Some row → row.job ≡ number) → ((number : ℕ) (row : JobHalt) → get rows number ≡ Some row → IsHaltValue row) → IsKeyed (record m { halts = rows })
  with_halts_keyed rows own value = record {
    materials = keyed.materials;
    parts = keyed.parts;
    jobs = λ number job there. job_still m (record m { halts = rows }) (λ q p found. (p, found, itself p)) (λ code y found. found) number job (keyed.jobs number job there);
    halts = own;
    begun = keyed.begun;
    notes = keyed.notes;
    demands = keyed.demands;
    imports = keyed.imports;
    entries = keyed.entries;
    codes = keyed.codes;
    values = keyed.values;
    noted = keyed.noted;
    halted = value;
  }

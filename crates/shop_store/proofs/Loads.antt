-- The values of the tables, put one after another, are the content.
use Rattle.std.proofs.Common.{◌≡◌, ℕ, Bool, true, false, ◌||◌, List, [], ◌∷◌, map, refl, sym, ap, ◌∙◌}
use Rattle.std.specs.List.{AllByRecursion, list_any}
use Rattle.std.specs.Ordering.{eq_by_cmp, nat_cmp}
use Rattle.std.specs.Cmp.{nat_cmp_total}
use Rattle.std.specs.Cmp.Lexicographic.{nat_list_cmp_total}
use Rattle.std.specs.FinMap.{empty, entries, get, nat_cmp-IsAntisymmetric, values}
use Rattle.std.specs.FinSet as set
use Rattle.std.specs.FinSet.{contains, contains-empty, contains-from_list, contains-insert, same_set}
use Rattle.cut_measure.specs.Codes.{code_cmp}
use Rattle.shop_records.specs.Content.{Content, fresh, with_demands, with_parts}
use Rattle.shop_records.specs.Lists.{order_codes}
use Rattle.shop_records.specs.declared.records.Demand.{Demand}
use Rattle.shop_records.specs.declared.records.Job.{Job}
use Rattle.shop_records.specs.declared.records.JobBegin.{JobBegin}
use Rattle.shop_records.specs.declared.notes.OrderNote.{OrderNote}
use Rattle.shop_records.specs.declared.records.Material.{Material}
use Rattle.shop_records.specs.declared.records.Part.{Part}
use Rattle.shop_statements.specs.Earlier.{HasNoneLater}
use Rattle.shop_statements.specs.Rows.{IsKeyed, IsOwnJob}
use Rattle.shop_tables.proofs.Firsts.{each_entry}
use Rattle.shop_rows.specs.Keys.{begin_key, codes_exact, job_key, material_key, note_key}
use Rattle.shop_rows.specs.Rows.{with_rows}
use Rattle.shop_book.specs.Ledgers.{bare}
use Rattle.shop_book.specs.Memory.{orders_in}
use Rattle.shop_book.proofs.Loaded.{HasOwnKeys, loaded_content, parts_loaded, with_values}
use Rattle.shop_store.specs.Loading.{AnyFits, FitInTurn, JobFits, put_begun, put_demand, put_job, put_material, put_note, put_order, put_part, unsaid, with_each, with_said, with_work}

-- ---- one table

pub each_material : (xs : List Material) (m : Content) → with_each put_material xs m ≡ record m { materials = with_rows material_key code_cmp xs m.materials }
each_material [] m = refl
each_material (x ∷ xs) m = each_material xs (put_material x m)

pub each_part : (xs : List Part) (m : Content) → with_each put_part xs m ≡ record m { parts = with_parts xs m.parts }
each_part [] m = refl
each_part (x ∷ xs) m = each_part xs (put_part x m)

each_job : (xs : List Job) (m : Content) → with_each put_job xs m ≡ record m { jobs = with_rows job_key nat_cmp xs m.jobs }
each_job [] m = refl
each_job (x ∷ xs) m = each_job xs (put_job x m)

each_begun : (xs : List JobBegin) (m : Content) → with_each put_begun xs m ≡ record m { begun = with_rows begin_key nat_cmp xs m.begun }
each_begun [] m = refl
each_begun (x ∷ xs) m = each_begun xs (put_begun x m)

each_note : (xs : List OrderNote) (m : Content) → with_each put_note xs m ≡ record m { notes = with_rows note_key code_cmp xs m.notes }
each_note [] m = refl
each_note (x ∷ xs) m = each_note xs (put_note x m)

each_demand : (xs : List Demand) (m : Content) → with_each put_demand xs m ≡ record m { demands = with_demands xs m.demands }
each_demand [] m = refl
each_demand (x ∷ xs) m = each_demand xs (put_demand x m)

abbrev inserted : List (List ℕ) → set.FinSet code_cmp → set.FinSet code_cmp
inserted [] orders = orders
inserted (code ∷ codes) orders = inserted codes (set.insert orders code)

each_order : (codes : List (List ℕ)) (m : Content) → with_each put_order codes m ≡ record m { orders = inserted codes m.orders }
each_order [] m = refl
each_order (code ∷ codes) m = each_order codes (put_order code m)

or_later : (a b c : Bool) → (a || (b || c)) ≡ ((b || a) || c)
or_later true true c = refl
or_later true false c = refl
or_later false b c = ap (λ x. x || c) (or_false b)
  where
    or_false : (x : Bool) → x ≡ (x || false)
    or_false true = refl
    or_false false = refl

has_inserted : (codes : List (List ℕ)) (orders : set.FinSet code_cmp) (q : List ℕ) → contains (inserted codes orders) q ≡ (list_any (eq_by_cmp code_cmp q) codes || contains orders q)
has_inserted [] orders q = refl
has_inserted (code ∷ codes) orders q = has_inserted codes (set.insert orders code) q ∙ ap (λ b. list_any (eq_by_cmp code_cmp q) codes || b) (contains-insert nat_list_cmp_total orders code q) ∙ any_later (list_any (eq_by_cmp code_cmp q) codes) (eq_by_cmp code_cmp q code)
  where
    any_later : (a b : Bool) → (a || (b || contains orders q)) ≡ ((b || a) || contains orders q)
    any_later a b = or_later a b (contains orders q)

none_more : (b : Bool) → (b || false) ≡ b
none_more true = refl
none_more false = refl

-- codes that are put into the empty set are the set of them
all_orders : (codes : List (List ℕ)) → inserted codes set.empty ≡ orders_in codes
all_orders codes =
    same_set nat_list_cmp_total codes_exact _ _
    (λ q. has_inserted codes set.empty q ∙ ap (λ b. list_any (eq_by_cmp code_cmp q) codes || b) (contains-empty code_cmp q) ∙ none_more _ ∙ sym (contains-from_list nat_list_cmp_total codes q))

-- ---- what is known of each

pub all_fit : {X : Type 0} (put : X → Content → Content) (xs : List X) (m : Content) → FitInTurn AnyFits put xs m
all_fit put [] m = tt
all_fit put (x ∷ xs) m = (tt, all_fit put xs (put x m))

module _ (of : Content) (keyed : IsKeyed of) where
  pub own_keys : HasOwnKeys of
  own_keys = record { materials = keyed.materials; parts = keyed.parts; jobs = λ number job found. (keyed.jobs number job found).numbered; begun = keyed.begun; notes = keyed.notes; demands = keyed.demands }

  moved : (m : Content) → m.materials ≡ of.materials → m.parts ≡ of.parts → (job : Job) → IsOwnJob of job.act job → IsOwnJob m job.act job
  moved m materials parts job own = record {
    numbered = refl;
    kerf = own.kerf;
    plan = own.plan;
    on = record {
      row = own.on.row;
      found = ap (λ ps. get ps job.part) parts ∙ own.on.found;
      material = own.on.material;
      known = ap (λ ms. get ms own.on.row.material) materials ∙ own.on.known;
      width = own.on.width;
      height = own.on.height;
      kerf = own.on.kerf;
    };
  }

  in_turn : (jobs : List Job) → AllByRecursion (λ (job : Job). IsOwnJob of job.act job) jobs → (m : Content) → m.materials ≡ of.materials → m.parts ≡ of.parts → FitInTurn JobFits put_job jobs m
  in_turn [] all m materials parts = tt
  in_turn (job ∷ jobs) all m materials parts = (moved m materials parts job all.0, in_turn jobs all.1 (put_job job m) materials parts)

  own_jobs : (es : List (ℕ × Job)) → AllByRecursion (λ (e : ℕ × Job). IsOwnJob of e.0 e.1) es → AllByRecursion (λ (job : Job). IsOwnJob of job.act job) (map (λ (e : ℕ × Job). e.1) es)
  own_jobs [] all = tt
  own_jobs (e ∷ es) all = (record { numbered = refl; kerf = all.0.kerf; plan = all.0.plan; on = all.0.on }, own_jobs es all.1)

  pub jobs_fit : (m : Content) → m.materials ≡ of.materials → m.parts ≡ of.parts → FitInTurn JobFits put_job (values of.jobs) m
  jobs_fit m = in_turn (values of.jobs) (own_jobs (entries of.jobs) (each_entry nat_cmp_total nat_cmp-IsAntisymmetric of.jobs (λ (e : ℕ × Job). IsOwnJob of e.0 e.1) keyed.jobs)) m

  -- ---- all tables

  abbrev pub stock_loaded : Content
  stock_loaded = with_each put_part (values of.parts) (with_each put_material (values of.materials) fresh)

  stock_is : stock_loaded ≡ record fresh { materials = with_rows material_key code_cmp (values of.materials) empty; parts = with_parts (values of.parts) empty }
  stock_is = ap (with_each put_part (values of.parts)) (each_material (values of.materials) fresh) ∙ each_part (values of.parts) (record fresh { materials = with_rows material_key code_cmp (values of.materials) empty })

  pub stock_materials : stock_loaded.materials ≡ of.materials
  stock_materials = ap (λ (m : Content). m.materials) stock_is ∙ with_values code_cmp nat_list_cmp_total codes_exact material_key of.materials keyed.materials

  pub stock_parts : stock_loaded.parts ≡ of.parts
  stock_parts = ap (λ (m : Content). m.parts) stock_is ∙ parts_loaded of.parts keyed.parts

  work_is : (m : Content) → with_work of m
      ≡ record m { jobs = with_rows job_key nat_cmp (values of.jobs) m.jobs; orders = inserted (order_codes of) m.orders; demands = with_demands (values of.demands) m.demands; last_act = of.last_act; last_demand = of.last_demand }
  work_is m =
      let jobs : Content = record m { jobs = with_rows job_key nat_cmp (values of.jobs) m.jobs } in
      let orders : Content = record jobs { orders = inserted (order_codes of) m.orders } in
      ap (λ (c : Content). record c { last_act = of.last_act; last_demand = of.last_demand })
      (ap (λ (c : Content). with_each put_demand (values of.demands) (with_each put_order (order_codes of) c)) (each_job (values of.jobs) m) ∙ ap (with_each put_demand (values of.demands)) (each_order (order_codes of) jobs) ∙ each_demand (values of.demands) orders)

  -- the begun jobs and what is said of orders, put into a content that has none
  pub said_loaded : (m : Content) → m.begun ≡ empty → m.notes ≡ empty → with_each put_note (values of.notes) (with_each put_begun (values of.begun) m) ≡ with_said of m
  said_loaded m no_begun no_notes =
      let begun : with_rows begin_key nat_cmp (values of.begun) m.begun ≡ of.begun =
      ap (with_rows begin_key nat_cmp (values of.begun)) no_begun ∙ with_values nat_cmp nat_cmp_total nat_cmp-IsAntisymmetric begin_key of.begun keyed.begun in
      let notes : with_rows note_key code_cmp (values of.notes) m.notes ≡ of.notes =
      ap (with_rows note_key code_cmp (values of.notes)) no_notes ∙ with_values code_cmp nat_list_cmp_total codes_exact note_key of.notes keyed.notes in
      ap (with_each put_note (values of.notes)) (each_begun (values of.begun) m) ∙ each_note (values of.notes) (record m { begun = with_rows begin_key nat_cmp (values of.begun) m.begun })
      ∙ (λ i. record m { begun = begun i; notes = notes i })

  pub all_loaded : with_work of stock_loaded ≡ unsaid (bare of)
  all_loaded =
      ap (with_work of) stock_is ∙ work_is (record fresh { materials = with_rows material_key code_cmp (values of.materials) empty; parts = with_parts (values of.parts) empty })
      ∙ ap (λ orders. record {
        materials = with_rows material_key code_cmp (values of.materials) empty;
        parts = with_parts (values of.parts) empty;
        jobs = with_rows job_key nat_cmp (values of.jobs) empty;
        halts = empty;
        begun = empty;
        orders = orders;
        notes = empty;
        demands = with_demands (values of.demands) empty;
        kept = empty;
        imports = empty;
        entries = empty;
        last_act = of.last_act;
        last_demand = of.last_demand;
      }) (all_orders (order_codes of))
      ∙ ap unsaid (loaded_content of own_keys)

-- where nothing is said, nothing is left out
pub said_none : (m : Content) → HasNoneLater m → unsaid (bare m) ≡ bare m
said_none m later = λ i. record (bare m) { begun = sym later.begun i; notes = sym later.notes i }

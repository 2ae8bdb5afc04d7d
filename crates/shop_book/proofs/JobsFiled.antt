-- Rows of which something stays when one is put, and jobs in an index.
use Rattle.std.proofs.Common.{◌≡◌, ℕ, ◌+◌, ◌≤◌, arith, Bool, true, false, List, [], ◌∷◌, cond, inl, inr, refl, sym, ap, subst, ◌∙◌, true≢false}
use Rattle.std.specs.Prelude.{◌⊎◌, ◌||◌, ◌==◌, IsTrue, Option, Some, None, nat_le, option_map, unwrap_or}
use Rattle.std.specs.Cmp.{nat_cmp_total}
use Rattle.std.specs.FinMap.{nat_cmp-IsAntisymmetric}
use Rattle.std.specs.FinMap.Entries.{find, find-put}
use Rattle.std.specs.List.{list_any}
use Rattle.std.specs.Option.{option_to_list}
use Rattle.std.specs.Ordering.{is_eq, nat_cmp}
use Rattle.std.proofs.lemmas.Bool.{eqb-true, leb-false, leb-true}
use Rattle.cut_measure.specs.Names.{Name}
use Rattle.cut_tree.specs.declared.leaves.Leaf.{Leaf}
use Rattle.cut_tree.specs.Leaves.{leaves_of}
use Rattle.cut_tree.specs.Tree.{count_of}
use Rattle.cut_tree.proofs.LeafCounts.{counted}
use Rattle.shop_records.proofs.Puts.{counted_in}
use Rattle.shop_records.specs.Elements.{IsIn}
use Rattle.shop_records.specs.Same.{same_name}
use Rattle.shop_records.specs.declared.records.Job.{Job}
use Rattle.shop_rows.specs.Keys.{job_key}
use Rattle.shop_rows.specs.Rows.{entries_of, rise, row_at, ArePut}
use Rattle.shop_rows.proofs.ByLine.{found_in, in_found}
use Rattle.shop_rows.proofs.Named.{row_key}
use Rattle.shop_book.specs.FiledJobs.{AreJobsFiled, IsJobFiled}
use Rattle.shop_book.specs.Filing.{is_filed_for, is_filed_in, StaysFiled}
use Rattle.shop_book.specs.Stories.{has_piece_among, has_piece_in, is_on_in}
use Rattle.shop_book.specs.declared.number_index.NumberIndex.{NumberIndex}
use Rattle.shop_book.proofs.Filed.{one_name}

-- ---- rows after one was put

module _ {X : Type 0} (key : X → ℕ) (P : X → Type 0) (old new : List X) (up : rise key nat_cmp new ≡ true) where
  -- what holds of each that was there and of the one that was put holds of each
  pub each_after : (row : Option X) → ArePut key nat_cmp (option_to_list row) old new → ((x : X) → IsIn x old → P x) → ((x : X) → IsIn x (option_to_list row) → P x) → (x : X) → IsIn x new → P x
  each_after None put was own x there =
      was x (found_in key nat_cmp nat_cmp_total nat_cmp-IsAntisymmetric (key x) old x (ap (find nat_cmp (key x)) (sym put) ∙ in_found key nat_cmp nat_cmp_total nat_cmp-IsAntisymmetric new up x there))
  each_after (Some row) put was own x there = by (is_eq (nat_cmp (key x) (key row))) (sym (ap (find nat_cmp (key x)) put ∙ find-put nat_cmp nat_cmp_total (key x) (key row) row (entries_of key nat_cmp old)) ∙ in_found key nat_cmp nat_cmp_total nat_cmp-IsAntisymmetric new up x there)
    where
      by : (b : Bool) → cond b (Some row) (row_at key nat_cmp (key x) old) ≡ Some x → P x
      by true is = let same : x ≡ row = cc in own x (inl same)
      by false is = was x (found_in key nat_cmp nat_cmp_total nat_cmp-IsAntisymmetric (key x) old x is)

-- ---- jobs that are filed

pub jobs_stay : (old new : NumberIndex) (jobs : List Job) → StaysFiled old new → AreJobsFiled old jobs → AreJobsFiled new jobs
jobs_stay old new jobs stays are job there =
    let f = are job there in
    record { part = stays.names job.part job.act f.part; pieces = λ demand some. stays.numbers demand job.act (f.pieces demand some) }

pub job_filed : (index : NumberIndex) (job : Job) → IsJobFiled index job → AreJobsFiled index (job ∷ [])
job_filed index job filed other (inl e) = subst (IsJobFiled index) (sym e) filed
job_filed index job filed other (inr i) = absurd i

-- under the demands of its leaves is under those of which its plan has a piece
pub pieces_filed : (index : NumberIndex) (job : Job) → ((leaf : Leaf) → IsIn leaf (leaves_of job.plan.tree job.plan.w job.plan.h job.plan.kerf) → IsTrue (is_filed_for index leaf.demand job.act))
    → (demand : ℕ) → 1 ≤ count_of job.plan.tree demand → IsTrue (is_filed_for index demand job.act)
pieces_filed index job filed demand some =
    let leaves = leaves_of job.plan.tree job.plan.w job.plan.h job.plan.kerf in
    let e : count_of job.plan.tree demand ≡ _ = counted job.plan.tree job.plan.w job.plan.h job.plan.kerf demand in
    let r = counted_in (λ (l : Leaf). l.demand == demand) leaves (subst (λ n. 1 ≤ n) e some) in
    subst (λ n. IsTrue (is_filed_for index n job.act)) (eqb-true r.0.demand demand r.2) (filed r.0 r.1)

-- ---- jobs that are found

pub either : (a b : Bool) → (a || b) ≡ true → (a ≡ true) ⊎ (b ≡ true)
either true b e = inl refl
either false b e = inr e

any_of : {X : Type 0} (p : X → Bool) (xs : List X) → list_any p xs ≡ true → (x : X) × IsIn x xs × (p x ≡ true)
any_of p [] e = absurd (true≢false (sym e))
any_of {X} p (x ∷ xs) e = by (any_of p xs) (either (p x) (list_any p xs) e)
  where
    by : (list_any p xs ≡ true → (y : X) × IsIn y xs × (p y ≡ true)) → (p x ≡ true) ⊎ (list_any p xs ≡ true) → (y : X) × IsIn y (x ∷ xs) × (p y ≡ true)
    by rest (inl h) = (x, inl refl, h)
    by rest (inr h) = let r = rest h in (r.0, inr r.1, r.2)

module _ (works : NumberIndex) (jobs : List Job) (filed : AreJobsFiled works jobs) (number : ℕ) where
  found_filed : (job : Job) → row_at job_key nat_cmp number jobs ≡ Some job → IsJobFiled works job × (job.act ≡ number)
  found_filed job is =
      (filed job (found_in job_key nat_cmp nat_cmp_total nat_cmp-IsAntisymmetric number jobs job is), row_key job_key nat_cmp nat_cmp_total nat_cmp-IsAntisymmetric number jobs job is)

  -- a job whose plan has a piece of one of these demands is filed under one of them
  pub piece_is_filed : (numbers : List ℕ) → has_piece_in jobs number numbers ≡ true → (demand : ℕ) × IsIn demand numbers × IsTrue (is_filed_for works demand number)
  piece_is_filed numbers e = by (row_at job_key nat_cmp number jobs) refl e
    where
      by : (found : Option Job) → row_at job_key nat_cmp number jobs ≡ found → unwrap_or (option_map (has_piece_among numbers) found) false ≡ true → (demand : ℕ) × IsIn demand numbers × IsTrue (is_filed_for works demand number)
      by None is e = absurd (true≢false (sym e))
      by (Some job) is e =
          let f = found_filed job is in
          let r = any_of (λ n. nat_le 1 (count_of job.plan.tree n)) numbers e in
          (r.0, r.1, subst (λ n. IsTrue (is_filed_for works r.0 n)) f.1 (f.0.pieces r.0 (leb-true 1 (count_of job.plan.tree r.0) r.2)))

  -- and a job on a part under that
  pub part_is_filed : (name : Name) → is_on_in jobs number name ≡ true → IsTrue (is_filed_in works name number)
  part_is_filed name e = by (row_at job_key nat_cmp number jobs) refl e
    where
      by : (found : Option Job) → row_at job_key nat_cmp number jobs ≡ found → unwrap_or (option_map (λ (job : Job). same_name name job.part) found) false ≡ true → IsTrue (is_filed_in works name number)
      by None is e = absurd (true≢false (sym e))
      by (Some job) is e =
          let f = found_filed job is in
          subst (λ n. IsTrue (is_filed_in works name n)) f.1 (subst (λ (p : Name). IsTrue (is_filed_in works p job.act)) (sym (one_name name job.part e)) f.0.part)

-- ---- all that are filed, in turn

-- each number of which this holds is among those that were found, or left
abbrev pub AreFound : (ℕ → Type 0) → List ℕ → (left : ℕ) → Type 0
AreFound has rows left = (number : ℕ) → has number → IsIn number rows ⊎ (left ≤ number)

pub found_more : (has : ℕ → Type 0) (old new : List ℕ) (left next : ℕ) → AreFound has old left → ((number : ℕ) → IsIn number old → IsIn number new) → IsIn next new → ((number : ℕ) → left ≤ number → has number → next ≤ number)
    → AreFound has new (next + 1)
found_more has old new left next were stay own none number filed = by (were number filed)
  where
    by_le : (b : Bool) → nat_le (next + 1) number ≡ b → next ≤ number → IsIn number new ⊎ (next + 1 ≤ number)
    by_le true e le = inr (leb-true (next + 1) number e)
    by_le false e le = let more = leb-false (next + 1) number e in let same : next ≡ number = omega (arith, le, more) in inl (subst (λ n. IsIn n new) same own)

    by : IsIn number old ⊎ (left ≤ number) → IsIn number new ⊎ (next + 1 ≤ number)
    by (inl i) = inl (stay number i)
    by (inr le) = by_le (nat_le (next + 1) number) refl (none number le filed)

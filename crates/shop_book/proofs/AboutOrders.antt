-- The demands of an order, and the jobs whose plans have pieces of them.
use Rattle.std.proofs.Common.{◌≡◌, ℕ, Bool, true, false, List, [], ◌∷◌, map, refl, sym, ap, ◌∙◌}
use Rattle.std.specs.Prelude.{◌&&◌, ◌||◌, Option, Some, None, cond, filter, nat_le, option_map, unwrap_or}
use Rattle.std.specs.FinMap.{get, values}
use Rattle.std.specs.List.{list_any}
use Rattle.std.specs.Ordering.{nat_cmp}
use Rattle.cut_measure.specs.Names.{Name}
use Rattle.cut_tree.specs.Tree.{count_of}
use Rattle.shop_records.specs.Content.{Content, job_at}
use Rattle.shop_records.specs.Lists.{has_piece_of}
use Rattle.shop_records.specs.Same.{same_code, same_name}
use Rattle.shop_records.specs.declared.records.Demand.{Demand}
use Rattle.shop_records.specs.declared.records.Job.{Job}
use Rattle.shop_rows.specs.Keys.{job_key}
use Rattle.shop_rows.specs.Rows.{map_of, rise, row_at}
use Rattle.shop_book.specs.Stories.{has_piece_among, has_piece_in, is_on_in, is_of_order, numbers_of}
use Rattle.shop_book.proofs.Held.{get-rows}

module _ {X Y : Type 0} (p : X → Bool) (f : X → Y) (q : Y → Bool) where
  -- one of those that pass passes another test
  any_among : (xs : List X) → list_any (λ x. p x && q (f x)) xs ≡ list_any q (map f (filter p xs))
  any_among [] = refl
  any_among (x ∷ xs) =
      elim (p x) as (λ b. ((b && q (f x)) || list_any (λ x. p x && q (f x)) xs) ≡ list_any q (map f (cond b (x ∷ filter p xs) (filter p xs)))) [
        | true ↦ ap (λ r. q (f x) || r) (any_among xs)
        | false ↦ any_among xs
      ]

-- the plan of a job has a piece of an order exactly where it has one of one of its demands
pub piece_among : (demands : List Demand) (order : List ℕ) (job : Job)
    → list_any (λ (demand : Demand). same_code demand.order order && nat_le 1 (count_of job.plan.tree demand.number)) demands ≡ has_piece_among (numbers_of order demands) job
piece_among demands order job = any_among (is_of_order order) (λ (demand : Demand). demand.number) (λ number. nat_le 1 (count_of job.plan.tree number)) demands

alike : {X : Type 0} (f g : X → Bool) → ((x : X) → f x ≡ g x) → (o : Option X) → unwrap_or (option_map f o) false ≡ unwrap_or (option_map g o) false
alike f g same None = refl
alike f g same (Some x) = same x

module _ (jobs : List Job) (up : rise job_key nat_cmp jobs ≡ true) (number : ℕ) where
  pub piece_in : (content : Content) → content.jobs ≡ map_of job_key nat_cmp jobs → (order : List ℕ) (numbers : List ℕ) → numbers ≡ numbers_of order (values content.demands)
      → has_piece_in jobs number numbers ≡ unwrap_or (option_map (has_piece_of content order) (job_at content number)) false
  piece_in content are order numbers is =
      ap (has_piece_in jobs number) is
      ∙ sym (alike (has_piece_of content order) (has_piece_among (numbers_of order (values content.demands))) (piece_among (values content.demands) order) (row_at job_key nat_cmp number jobs))
      ∙ ap (λ (found : Option Job). unwrap_or (option_map (has_piece_of content order) found) false) (get-rows job_key nat_cmp jobs number up ∙ ap (λ js. get js number) (sym are))

  pub on_in : (content : Content) → content.jobs ≡ map_of job_key nat_cmp jobs → (name : Name)
      → is_on_in jobs number name ≡ unwrap_or (option_map (λ (job : Job). same_name name job.part) (job_at content number)) false
  on_in content are name = ap (λ (found : Option Job). unwrap_or (option_map (λ (job : Job). same_name name job.part) found) false) (get-rows job_key nat_cmp jobs number up ∙ ap (λ js. get js number) (sym are))

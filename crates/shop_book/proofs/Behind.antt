-- The entries behind one, of a map in which they rise by their numbers.
use Rattle.std.proofs.Common.{◌≡◌, ℕ, zero, suc, true, List, [], ◌∷◌, ◌++◌, length, take, drop, refl, sym, ap, ◌∙◌}
use Rattle.std.proofs.lemmas.List.{append_assoc, take-append-drop}
use Rattle.std.specs.FinMap.{values}
use Rattle.std.specs.Ordering.{nat_cmp}
use Rattle.shop_records.specs.Content.{Content}
use Rattle.shop_records.specs.Lists.{entries_behind}
use Rattle.shop_records.specs.declared.journal.Entry.{Entry}
use Rattle.shop_rows.specs.Keys.{entry_key}
use Rattle.shop_rows.specs.Rows.{rise}
use Rattle.shop_rows.proofs.Behind.{behind_next}

drop_first : {X : Type 0} (n : ℕ) (xs : List X) → drop (length (take n xs)) xs ≡ drop n xs
drop_first zero [] = refl
drop_first zero (x ∷ xs) = refl
drop_first (suc n) [] = refl
drop_first (suc n) (x ∷ xs) = drop_first n xs

-- behind the last of the first ones are those after them
pub behind_first : (m : Content) → rise entry_key nat_cmp (values m.entries) ≡ true → (after most : ℕ) (rows : List Entry) → rows ≡ take most (entries_behind m after)
    → (before : List Entry) (last : Entry) → rows ≡ before ++ last ∷ [] → entries_behind m last.number ≡ drop (length rows) (entries_behind m after)
behind_first m up after most rows are before last is =
    let all = entries_behind m after in
    behind_next entry_key after (values m.entries) up before last (drop most all)
    (sym (take-append-drop most all) ∙ ap (λ firsts. firsts ++ drop most all) (sym are ∙ is) ∙ append_assoc before (last ∷ []) (drop most all))
    ∙ sym (ap (λ firsts. drop (length firsts) all) are ∙ drop_first most all)

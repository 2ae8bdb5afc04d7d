use Rattle.std.proofs.Common.{rules, ◌≡◌, sym, subst, List, [], ◌∷◌}
use denote.Param.Members.{Mut, Called}
use Rattle.std.specs.Fn.{ReturnsEach}
use Rattle.shop_rows.proofs.rows.place_near.Goals as goal

each : {F X R : Type 0} (g : Mut F X R) (P : X → R → Type 0) (f : F) → ((a : X) (r : R) (f' : F) → Called g f a r f' → P a r × (f' ≡ f)) → (xs : List X) → ReturnsEach g P f xs
each g P f h [] = tt
each g P f h (a ∷ xs) = λ r f' called. let m = h a r f' called in (m.0, subst (λ f''. ReturnsEach g P f'' xs) (sym m.1) (each g P f h xs))

pub returns-clause-position : goal.returns-clause-position
returns-clause-position g c = c.binary_search_by.ensures.position (λ row. g.R.Key.RowKey.cmp (g.R.KeyedRow.key_of row) c.args.key) (record { at = each _ _ _ (λ a r f' called. (search rules, search rules)) })

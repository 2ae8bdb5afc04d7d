use Rattle.std.proofs.Common.{[], ◌∷◌, inl, refl, sym, subst}
use Rattle.shop_records.specs.Elements.{IsIn}
use Rattle.shop_records.proofs.Basics.{in_later}
use Rattle.shop_book.proofs.number_index.NumberIndex.acts_of_part.Goals as goal

pub returns-clause-made : goal.returns-clause-made
returns-clause-made c =
    let act = c.act.result in
    c.push_in.ensures.stay c.args.name.act (subst (λ n. IsIn n c.push.new.self) c.act.ensures.value (subst (IsIn act) (sym c.in_ok-push.ensures.ok) (in_later act c.new-acts.result (act ∷ []) (inl refl))))

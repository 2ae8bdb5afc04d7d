use Rattle.std.proofs.Common.{ℕ, [], ◌∷◌, inl, sym, refl, subst}
use Rattle.std.specs.Prelude.{IsTrue}
use Rattle.shop_records.specs.Elements.{IsIn}
use Rattle.shop_records.proofs.Basics.{in_first, in_later}
use Rattle.shop_book.specs.Filing.{first_left, is_filed_in}
use Rattle.shop_book.proofs.JobsFiled.{found_more}
use Rattle.shop_book.proofs.number_index.NumberIndex.push_in.Goals as goal

pub returns-in_err-push-clause-stay : goal.returns-in_err-push-clause-stay
returns-in_err-push-clause-stay c = λ number there. subst (IsIn number) (sym c.in_err-push.ensures.err) (c.loop-number.invariant.stay number there)

pub loop-number-preserved : goal.loop-number-preserved
loop-number-preserved c =
    let rows = c.loop-number.rows in
    let next = c.in-Some.number in
    let stay : (number : ℕ) → IsIn number rows → IsIn number c.push.new.self = λ number there. subst (IsIn number) (sym c.in_ok-push.ensures.ok) (in_first number rows (next ∷ []) there) in
    record {
      found =
          found_more (λ number. IsTrue (is_filed_in c.args.self.now c.args.under number)) rows c.push.new.self (first_left c.loop-number.last) next c.loop-number.invariant.found stay
          (subst (IsIn next) (sym c.in_ok-push.ensures.ok) (in_later next rows (next ∷ []) (inl refl))) c.in-Some.ensures.none;
      stay = λ number there. stay number (c.loop-number.invariant.stay number there);
    }

use Rattle.std.proofs.Common.{◌≡◌, ◌∙◌, ◌↔◌, Option, Some, None, codes, false, rules, subst, sym, ap}
use Rattle.std.specs.Prelude.{Bool, IfSome, IsTrue}
use Rattle.clap.specs.Words.{Text, found_of}
use Rattle.clap.proofs.WalkLemmas.{first_value-rows}
use Rattle.shop_words.proofs.Asked.{some_is}
use Rattle.shop_words.proofs.values.has_flag.Goals as goal

-- the text that was found is another one or this
found_is : (found : Option Text) (text flag : Text) → Some text ≡ found → (b : Bool) → (IsTrue b ↔ (text ≡ flag)) → IsTrue b ↔ (found ≡ Some flag)
found_is found text flag is b same = (λ yes. sym is ∙ ap (λ t. Some t) (same.0 yes), λ has. same.1 (some_is text flag (is ∙ has)))

found_none : (found : Option Text) (flag : Text) → None ≡ found → IsTrue false ↔ (found ≡ Some flag)
found_none found flag none = (λ no. absurd (cc no), λ has. absurd (subst (λ (o : Option Text). IfSome o (λ _. ⊥)) (none ∙ has) tt))

pub returns-in-Some : goal.returns-in-Some
returns-in-Some c =
    let found = found_of c.args.matches.now in
    let same : IsTrue c.eq.result ↔ (c.in-Some.value.now ≡ codes "true") = search rules in
    found_is _ _ _ (c.in-Some.ensures ∙ first_value-rows found c.args.name.now) c.eq.result same

pub returns-in-None : goal.returns-in-None
returns-in-None c = found_none _ _ (c.in-None.ensures ∙ first_value-rows (found_of c.args.matches.now) c.args.name.now)

use Rattle.std.proofs.Common.{◌≡◌, ◌<◌, ◌+◌, ◌++◌, ◌∙◌, ℕ, suc, List, [], ◌∷◌, length, drop, get_or, ap, ap₂, sym, arith}
use Rattle.std.proofs.lemmas.List.{append_assoc}
use Rattle.std.proofs.Math.Seq.{drop-cons}
use Rattle.shop_files.specs.declared.shops.MaterialEntry.{MaterialEntry}
use Rattle.shop_records.specs.declared.messages.Message.{Message}
use Rattle.shop_opening.specs.Shops.{message_of, messages_from}
use Rattle.shop_opening.proofs.shops.messages_of.Goals as goal

-- the message of the next entry goes after those before it
more : (items later : List Message) (entries : List MaterialEntry) (number i : ℕ) (d : MaterialEntry) → i < length entries
    → later ≡ items ++ message_of number (get_or entries i d) ∷ []
    → later ++ messages_from (number + 1) (drop (i + 1) entries) ≡ items ++ messages_from number (drop i entries)
more items later entries number i d within is =
    let next : number + 1 ≡ suc number = omega arith in
    let after : i + 1 ≡ suc i = omega arith in
    ap₂ (λ a b. later ++ messages_from a (drop b entries)) next after ∙
    ap (λ l. l ++ messages_from (suc number) (drop (suc i) entries)) is
    ∙ append_assoc items (message_of number (get_or entries i d) ∷ []) (messages_from (suc number) (drop (suc i) entries))
    ∙ ap (λ l. items ++ messages_from number l) (sym (drop-cons entries i d within))

pub loop-entry-preserved : goal.loop-entry-preserved
loop-entry-preserved c =
    let at = c.loop-entry.entry-index in
    let is = c.in_ok-push.ensures.items ∙ ap (λ m. c.loop-entry.messages.items ++ m ∷ []) (c.message_of.ensures ∙ ap (message_of c.loop-entry.number) c.entry-item.is) in
    (more c.loop-entry.messages.items c.push.new.self.items c.args.entries.now c.loop-entry.number at _ c.loop-entry-test.true is ∙ c.loop-entry.invariant.0, omega (arith, c.loop-entry.invariant.1))

pub overflow_add-number : goal.overflow_add-number
overflow_add-number c = omega (arith, c.requires, c.loop-entry.invariant.1, c.loop-entry-test.true)

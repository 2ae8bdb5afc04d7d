-- The names of words differ.
use Rattle.std.proofs.Common.{◌≡◌, ℕ, List, refl, sym, ap, ◌∙◌}
use Rattle.std.specs.Prelude.{cond, get_or, nat_eq}
use Rattle.shop_records.specs.declared.journal.Word.{Word}
use Rattle.shop_records.specs.declared.journal.Word.TheVariants as word
use Rattle.shop_records.specs.Journal.{word_name}

-- the word of a name: its first letter decides it, or its second or third
word_back : List ℕ → Word
word_back text =
    let first = get_or text 0 0 in
    let third = get_or text 2 0 in
    cond (nat_eq first 109) word.Material
    (cond (nat_eq first 111) word.Order
    (cond (nat_eq first 100) word.Done
    (cond (nat_eq first 98) (cond (nat_eq (get_or text 1 0) 101) word.Begin word.Break)
    (cond (nat_eq first 117) word.Undo
    (cond (nat_eq first 110) word.Note
    (cond (nat_eq first 101) word.Extend
    (cond (nat_eq first 105) word.Import
    (cond (nat_eq first 97) word.Amend
    (cond (nat_eq (get_or text 1 0) 99) word.Scrap
    (cond (nat_eq third 99) word.Receive
    (cond (nat_eq third 115) word.Reserve
    (cond (nat_eq third 108) word.Release word.Return))))))))))))

back_again : (w : Word) → word_back (word_name w) ≡ w
unfolding word_back
back_again word.Material = refl
back_again _ = refl

pub one_word : (v w : Word) → word_name v ≡ word_name w → v ≡ w
one_word v w e = sym (back_again v) ∙ ap word_back e ∙ back_again w

use Rattle.std.proofs.Common.{◌∙◌, length, ap, sym}
use Rattle.std.specs.Borrow.{Bor}
use Rattle.std.proofs.lemmas.List.{length-map}
use Rattle.clap.specs.Words.{Text, all_of, found_of, rows_of}
use Rattle.clap.proofs.WalkLemmas.{raw_values-rows}
use Rattle.shop_words.proofs.Asked.{texts_found, none_found}
use Rattle.shop_words.proofs.values.times_given.Goals as goal

pub returns-in-Some : goal.returns-in-Some
returns-in-Some c =
    let found = found_of c.args.matches.now in
    let name = c.args.name.now in
    let texts = texts_found (all_of name (rows_of found)) _ (c.in-Some.ensures ∙ raw_values-rows found name) in
    sym (length-map c.in-Some.texts.now (λ (t : Bor Text). t.now)) ∙ ap length texts

pub returns-in-None : goal.returns-in-None
returns-in-None c =
    let found = found_of c.args.matches.now in
    let name = c.args.name.now in
    ap length (none_found (all_of name (rows_of found)) (c.in-None.ensures ∙ raw_values-rows found name))

use Rattle.std.proofs.Common.{◌∙◌, ap, codes}
use Rattle.clap.specs.Words.{all_of, found_of, rows_of}
use Rattle.clap.proofs.WalkLemmas.{raw_values-rows}
use Rattle.shop_words.specs.CommandLine.{bad_origin}
use Rattle.shop_words.proofs.Asked.{texts_found, none_found}
use Rattle.shop_words.proofs.served.bad_origin.Goals as goal

pub returns-in-Some : goal.returns-in-Some
returns-in-Some c =
    let found = found_of c.args.serve.now in
    let texts = texts_found (all_of (codes "origin") (rows_of found)) _ (c.in-Some.ensures ∙ raw_values-rows found (codes "origin")) in
    c.first_bad.ensures ∙ ap bad_origin texts

pub returns-in-None : goal.returns-in-None
returns-in-None c =
    let found = found_of c.args.serve.now in
    ap bad_origin (none_found (all_of (codes "origin") (rows_of found)) (c.in-None.ensures ∙ raw_values-rows found (codes "origin")))

use Rattle.std.proofs.Common.{◌∙◌, codes, sym}
use Rattle.clap.specs.Words.{first_of, found_of, rows_of}
use Rattle.clap.proofs.WalkLemmas.{first_value-rows}
use Rattle.shop_words.proofs.Asked.{no_yield_store, no_yield_code, no_code, no_code_of, the_code}
use Rattle.shop_words.proofs.stored.yield_request.Goals as goal

pub returns-in_err-store : goal.returns-in_err-store
returns-in_err-store c =
    let found = found_of c.args.report.now in
    rw c.from_residual.ensures (no_yield_store (rows_of found) (sym (c.in_err-store.ensures ∙ first_value-rows found (codes "store"))))

pub returns-in_err-get_str : goal.returns-in_err-get_str
returns-in_err-get_str c =
    let found = found_of c.args.report.now in
    let none = sym (c.in_err-get_str.ensures ∙ first_value-rows found (codes "MATERIAL")) in
    rw c.from_residual-in_err-get_str.ensures (no_yield_code (rows_of found) (no_code (first_of (codes "MATERIAL") (rows_of found)) none))

pub returns-in_err-material : goal.returns-in_err-material
returns-in_err-material c =
    let found = found_of c.args.report.now in
    let text = c.in_ok-get_str.ensures ∙ first_value-rows found (codes "MATERIAL") in
    rw c.from_residual-in_err-material.ensures (no_yield_code (rows_of found) (no_code_of (first_of (codes "MATERIAL") (rows_of found)) _ text c.in_err-material.ensures))

pub returns : goal.returns
returns c =
    let found = found_of c.args.report.now in (
      sym (c.in_ok-store.ensures ∙ first_value-rows found (codes "store")),
      the_code (first_of (codes "MATERIAL") (rows_of found)) _ c.in_ok-material.material (c.in_ok-get_str.ensures ∙ first_value-rows found (codes "MATERIAL")) c.in_ok-material.ensures,
      c.has_flag-read_only.ensures,
    )

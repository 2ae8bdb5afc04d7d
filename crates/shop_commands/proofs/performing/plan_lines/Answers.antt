use Rattle.std.proofs.Common.{ℕ, List, subst, sym}
use Rattle.std.specs.Prelude.{OnOk}
use Rattle.shop_files.specs.declared.limits.TheConstants.{MAX_TEXT_LEN}
use Rattle.shop_commands.specs.Plans.{IsFileLines, IsFileLinesFault}
use Rattle.shop_commands.specs.Sinks.{Adds, AddsPrefix, change_of}
use Rattle.shop_commands.proofs.Unwritten.{half_written, written}
use Rattle.shop_commands.proofs.performing.plan_lines.Goals as goal

pub returns-clause-err : goal.returns-clause-err
returns-clause-err g c =
    let out = change_of g.W.Sink c.args.sink.now c.write_text.new.sink in
    let holds = g.R.Reads.holds c.args.rt.now in
    let held = holds c.args.asked.now.file.now MAX_TEXT_LEN in
    let made = λ (bytes : List ℕ). IsFileLines holds bytes c.args.asked.now in
    let stops = λ (bytes : List ℕ). IsFileLinesFault holds bytes c.args.asked.now in
    half_written holds c.args.asked.now.file.now made _ _ out (subst held (sym c.deref.ensures.value) c.in_ok-bytes.ensures.ok) c.in_ok-lines.ensures.ok stops
    (subst (AddsPrefix out) c.as_str.ensures.value c.write_text.ensures.prefix) c.write_text.result c.write_text.ensures.err

pub returns-clause-ok : goal.returns-clause-ok
returns-clause-ok g c =
    let out = change_of g.W.Sink c.args.sink.now c.write_text.new.sink in
    let holds = g.R.Reads.holds c.args.rt.now in
    let held = holds c.args.asked.now.file.now MAX_TEXT_LEN in
    let made = λ (bytes : List ℕ). IsFileLines holds bytes c.args.asked.now in
    written holds c.args.asked.now.file.now made _ _ out (subst held (sym c.deref.ensures.value) c.in_ok-bytes.ensures.ok) c.in_ok-lines.ensures.ok c.write_text.result
    (subst (λ (text : List ℕ). OnOk c.write_text.result (Adds out text)) c.as_str.ensures.value c.write_text.ensures.ok)

use Rattle.std.proofs.Common.{◌≡◌, length, take, refl, sym, ap, subst, ◌∙◌, arith}
use Rattle.std.proofs.Math.Seq.{take-length}
use Rattle.shop_records.specs.Lists.{reported_entries}
use Rattle.shop_desk.specs.ReportedEntries.{ShowsMore, ShowsOrHides, Hides}
use Rattle.shop_desk.proofs.ReportedEntries.{IsSoFar, none_so_far, shown_so_far, reported_more, reports_over, reports_all}
use Rattle.shop_desk.proofs.history.reported_rows.Goals as goal

pub loop-row-init : goal.loop-row-init
loop-row-init g c =
    record {
      keeps = record { clean_disk = λ x. x; stays = λ x m h. h; crash = λ x m h left may. may; failures = refl };
      so_far = subst (λ es. IsSoFar es 0) (sym c.new.ensures) none_so_far;
      rows = λ clean_disk m held. c.new.ensures;
    }

pub loop-row-preserved : goal.loop-row-preserved
loop-row-preserved g c =
    let before = c.loop-row.invariant.keeps in
    let one = c.in_ok-found.ensures.keeps in
    let old = c.loop-row.shown in
    let new = c.hides.new.self in
    let found = c.in_ok-found.found in
    let shows : ShowsMore old found new = subst (λ h. ShowsOrHides old found h new) c.if-hidden.false c.in_ok-hidden.ensures in
    record {
      keeps = record {
        clean_disk = λ clean_disk. before.clean_disk (one.clean_disk clean_disk);
        stays = λ clean_disk m held. one.stays clean_disk m (before.stays (one.clean_disk clean_disk) m held);
        crash = λ clean_disk m held left may. before.crash (one.clean_disk clean_disk) m held left (one.crash clean_disk m (before.stays (one.clean_disk clean_disk) m held) left may);
        failures = one.failures ∙ before.failures;
      };
      so_far = shown_so_far old found new c.loop-row.invariant.so_far shows;
      rows = λ clean_disk m held.
          reported_more m c.args.rows.now c.loop-row.row-index c.row-item.result found old new c.loop-row-test.true c.row-item.is
          (c.in_ok-found.ensures.reported clean_disk m (before.stays (one.clean_disk clean_disk) m held))
          (c.loop-row.invariant.rows (one.clean_disk clean_disk) m held) shows;
    }

pub returns-then-hidden-clause-reported : goal.returns-then-hidden-clause-reported
returns-then-hidden-clause-reported g c =
    λ clean_disk m held.
    let before = c.loop-row.invariant.keeps in
    let one = c.in_ok-found.ensures.keeps in
    let old = c.loop-row.shown in
    let new = c.hides.new.self in
    let found = c.in_ok-found.found in
    let hides : Hides old found new = subst (λ h. ShowsOrHides old found h new) c.if-hidden.true c.in_ok-hidden.ensures in
    reports_over m c.args.rows.now c.loop-row.row-index c.row-item.result found old new c.loop-row-test.true c.row-item.is
    (c.in_ok-found.ensures.reported clean_disk m (before.stays (one.clean_disk clean_disk) m held)) c.loop-row.invariant.so_far
    (c.loop-row.invariant.rows (one.clean_disk clean_disk) m held) hides

pub returns-clause-reported : goal.returns-clause-reported
returns-clause-reported g c =
    λ clean_disk m held.
    let rows = c.args.rows.now in
    let at = c.loop-row.row-index in
    let end : at ≡ length rows = omega arith in
    let whole : take at rows ≡ rows = ap (λ n. take n rows) end ∙ take-length rows in
    reports_all m rows c.loop-row.shown.entries c.loop-row.shown.bytes c.loop-row.invariant.so_far (c.loop-row.invariant.rows clean_disk m held ∙ ap (reported_entries m) whole)

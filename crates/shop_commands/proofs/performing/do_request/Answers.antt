use Rattle.std.proofs.lemmas.Result.{IfErr-weaker, on_ok_weaker}
use Rattle.shop_commands.proofs.StageLimits.{stage_limit}
use Rattle.shop_commands.proofs.performing.do_request.Goals as goal

pub returns-in-Plan-clause-err : goal.returns-in-Plan-clause-err
returns-in-Plan-clause-err g c = rw c.in-Plan.is c.plan.ensures.err

pub plan_order-requires-clause-limit : goal.plan_order-requires-clause-limit
plan_order-requires-clause-limit g c = stage_limit _ (rw c.in-PlanOrder.is at c.requires).1

pub plan_lines-requires : goal.plan_lines-requires
plan_lines-requires g c = stage_limit _ (rw c.in-PlanLines.is at c.requires)

pub returns-in-PlanOrder-clause-ok : goal.returns-in-PlanOrder-clause-ok
returns-in-PlanOrder-clause-ok g c = rw c.in-PlanOrder.is c.plan_order.ensures.ok

pub returns-in-PlanOrder-clause-err : goal.returns-in-PlanOrder-clause-err
returns-in-PlanOrder-clause-err g c = rw c.in-PlanOrder.is c.plan_order.ensures.err

pub returns-in-PlanLines-clause-ok : goal.returns-in-PlanLines-clause-ok
returns-in-PlanLines-clause-ok g c = rw c.in-PlanLines.is c.plan_lines.ensures.ok

pub returns-in-PlanLines-clause-err : goal.returns-in-PlanLines-clause-err
returns-in-PlanLines-clause-err g c = rw c.in-PlanLines.is c.plan_lines.ensures.err

pub returns-in-Orders-clause-err : goal.returns-in-Orders-clause-err
returns-in-Orders-clause-err g c = rw c.in-Orders.is c.check_orders.ensures.err

pub returns-in-Serve-clause-ok : goal.returns-in-Serve-clause-ok
returns-in-Serve-clause-ok g c = rw c.in-Serve.is (on_ok_weaker c.serve.result (λ done. (c.address_of.result, c.address_of.ensures, done)) c.serve.ensures.ok)

pub returns-in-Serve-clause-err : goal.returns-in-Serve-clause-err
returns-in-Serve-clause-err g c = rw c.in-Serve.is (IfErr-weaker c.serve.result _ _ (λ f stopped. (c.address_of.result, c.address_of.ensures, stopped)) c.serve.ensures.err)

pub returns-in-Ticket-default-default-true-clause-ok : goal.returns-in-Ticket-default-default-true-clause-ok
returns-in-Ticket-default-default-true-clause-ok g c =
    let i = c.in-Ticket-default-default-true in
    rw (i.is, ← i.read_only-is, i.read_only-test) c.print_stored.ensures.ok

pub returns-in-Ticket-default-default-true-clause-err : goal.returns-in-Ticket-default-default-true-clause-err
returns-in-Ticket-default-default-true-clause-err g c =
    let i = c.in-Ticket-default-default-true in
    rw (i.is, ← i.read_only-is, i.read_only-test) c.print_stored.ensures.err

pub returns-in-Ticket-default-default-false-clause-ok : goal.returns-in-Ticket-default-default-false-clause-ok
returns-in-Ticket-default-default-false-clause-ok g c =
    let i = c.in-Ticket-default-default-false in
    rw (i.is, ← i.read_only-is, i.read_only-test) c.print_stored-in-Ticket-default-default-false.ensures.ok

pub returns-in-Ticket-default-default-false-clause-err : goal.returns-in-Ticket-default-default-false-clause-err
returns-in-Ticket-default-default-false-clause-err g c =
    let i = c.in-Ticket-default-default-false in
    rw (i.is, ← i.read_only-is, i.read_only-test) c.print_stored-in-Ticket-default-default-false.ensures.err

pub returns-in-Yield-default-default-true-clause-ok : goal.returns-in-Yield-default-default-true-clause-ok
returns-in-Yield-default-default-true-clause-ok g c =
    let i = c.in-Yield-default-default-true in
    rw (i.is, ← i.read_only-is, i.read_only-test) c.print_stored-in-Yield-default-default-true.ensures.ok

pub returns-in-Yield-default-default-true-clause-err : goal.returns-in-Yield-default-default-true-clause-err
returns-in-Yield-default-default-true-clause-err g c =
    let i = c.in-Yield-default-default-true in
    rw (i.is, ← i.read_only-is, i.read_only-test) c.print_stored-in-Yield-default-default-true.ensures.err

pub returns-in-Yield-default-default-false-clause-ok : goal.returns-in-Yield-default-default-false-clause-ok
returns-in-Yield-default-default-false-clause-ok g c =
    let i = c.in-Yield-default-default-false in
    rw (i.is, ← i.read_only-is, i.read_only-test) c.print_stored-in-Yield-default-default-false.ensures.ok

pub returns-in-Yield-default-default-false-clause-err : goal.returns-in-Yield-default-default-false-clause-err
returns-in-Yield-default-default-false-clause-err g c =
    let i = c.in-Yield-default-default-false in
    rw (i.is, ← i.read_only-is, i.read_only-test) c.print_stored-in-Yield-default-default-false.ensures.err

pub returns-in-Restore-clause-ok : goal.returns-in-Restore-clause-ok
returns-in-Restore-clause-ok g c = rw c.in-Restore.is c.restore.ensures.ok

pub returns-in-Restore-clause-err : goal.returns-in-Restore-clause-err
returns-in-Restore-clause-err g c = rw c.in-Restore.is c.restore.ensures.err

pub returns-in-Audit-clause-ok : goal.returns-in-Audit-clause-ok
returns-in-Audit-clause-ok g c = rw c.in-Audit.is c.audit_store.ensures.ok

pub returns-in-Audit-clause-err : goal.returns-in-Audit-clause-err
returns-in-Audit-clause-err g c = rw c.in-Audit.is c.audit_store.ensures.err

use Rattle.std.proofs.Common.{◌∙◌, ap, map, take, sym, subst}
use Rattle.httparse.specs.Spans.{header_bytes, span_bytes}
use Rattle.shop_request.specs.Guards.{HasVerdict, checked_parts}
use Rattle.shop_request.proofs.Guarding.{whole_verdict}
use Rattle.shop_request.proofs.guards.Guard.check_whole.Goals as goal

pub returns : goal.returns
returns c =
    let guard = c.args.self.now in
    let headers = c.args.headers.now in
    let spans = c.args.spans.now in
    let of = c.requires.head in
    subst (HasVerdict guard c.args.received.now) (sym c.check_parts.ensures)
    (subst
    (λ b. HasVerdict guard c.args.received.now (checked_parts guard c.of.result.now c.target_text.result.now spans.version (map (header_bytes b) (take spans.headers headers))))
    (sym c.prefix_of-prefix.ensures)
    (whole_verdict guard c.args.received.now headers spans of.0 c.requires.slots of.1 c.of.result.now c.target_text.result.now
    (c.of.ensures ∙ ap (λ b. span_bytes b spans.method) c.prefix_of-prefix.ensures)
    (c.target_text.ensures ∙ c.of-2.ensures ∙ ap (λ b. span_bytes b spans.path) c.prefix_of-prefix.ensures)))

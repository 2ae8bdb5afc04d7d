use Rattle.std.proofs.Common.{◌≡◌, ◌∙◌, ◌-◌, ◌+◌, ◌++◌, ℕ, length, take, drop, sym, ap, subst, arith, length-drop, take-add}
use Rattle.std.specs.Io.KnownBytes.{Appends}
use Rattle.std.proofs.KnownBytes.{Appends-trans}
use Rattle.shop_request.proofs.After.{rest_whole}
use Rattle.shop_serve.proofs.transfers.hand_over.Goals as goal

pub loop-sent-preserved : goal.loop-sent-preserved
loop-sent-preserved g c =
    let answer = c.args.answer.now in
    let sent = c.loop-sent.sent in
    let count = c.in-Ok.count in
    let whole : take (length answer - sent) (drop sent answer) ≡ drop sent answer = rest_whole sent answer in
    let more : take sent answer ++ take count (take (length answer - sent) (drop sent answer)) ≡ take (sent + count) answer =
    ap (λ l. take sent answer ++ take count l) whole ∙ sym (take-add sent count answer) in
    record {
      within = omega (arith, c.loop-sent.invariant.within, c.in-Ok.ensures.within, ap length whole, length-drop {A = ℕ} sent answer);
      bytes = λ before so_far.
          subst (Appends before (g.C.Connection.contents c.write_some.new.self)) more
          (Appends-trans before (g.C.Connection.contents c.loop-sent.stream) (g.C.Connection.contents c.write_some.new.self) (take sent answer)
          (take count (take (length answer - sent) (drop sent answer))) (c.loop-sent.invariant.bytes before so_far) c.in-Ok.ensures.bytes);
    }

use Rattle.std.proofs.Common.{◌≡◌, ◌++◌, ◌-◌, List, ℕ, length, take, drop, ap, sym, ◌∙◌, append_assoc, length-drop}
use Rattle.std.proofs.Math.Seq.{take-length}
use Rattle.std.proofs.lemmas.List.{take-append-drop}
use Rattle.std.proofs.KnownBytes.{Appends-trans}
use Rattle.shop_streams.proofs.writer.write_all.Goals as goal

rest_whole : (n : ℕ) (text : List ℕ) → take (length text - n) (drop n text) ≡ drop n text
rest_whole n text = ap (λ m. take m (drop n text)) (sym (length-drop {A = ℕ} n text)) ∙ take-length (drop n text)

went_on : (n : ℕ) (done rest bytes : List ℕ) → done ++ rest ≡ bytes → (done ++ take n rest) ++ take (length rest - n) (drop n rest) ≡ bytes
went_on n done rest bytes is =
    append_assoc done (take n rest) _ ∙ ap (λ more. done ++ (take n rest ++ more)) (rest_whole n rest) ∙ ap (λ all. done ++ all) (take-append-drop n rest) ∙ is

pub loop-rest-preserved : goal.loop-rest-preserved
loop-rest-preserved g c =
    let rest = c.loop-rest.rest.now in
    let done = c.loop-rest.invariant.0 in (
      done ++ take c.in_ok-count.count rest,
      Appends-trans (g.W.Sink.held c.args.sink.now) (g.W.Sink.held c.loop-rest.sink) (g.W.Sink.held c.write.new.self) done (take c.in_ok-count.count rest) c.loop-rest.invariant.1 c.in_ok-count.ensures.bytes,
      went_on c.in_ok-count.count done rest c.args.bytes.now c.loop-rest.invariant.2,
      c.in_ok-count.ensures.failures ∙ c.loop-rest.invariant.3,
    )

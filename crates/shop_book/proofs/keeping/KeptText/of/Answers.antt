use Rattle.std.proofs.Common.{List, ℕ, ◌++◌, ap, ◌∙◌}
use Rattle.std.proofs.lemmas.Str.{IsCharBoundary-at_seam, IsUtf8-from_is_utf8}
use Rattle.std.specs.Str.{is_utf8}
use Rattle.std.specs.String.{string_bytes}
use Rattle.shop_book.proofs.keeping.KeptText.of.Goals as goal

pub invariant_of-result : goal.invariant_of-result
invariant_of-result c =
    let command = c.as_str-command.result.now in
    let reply = c.as_str-reply.result.now in
    IsCharBoundary-at_seam (string_bytes c.push_str-2.new.self) command reply
    (c.in_ok-push_str-2.ensures.bytes ∙ ap (λ (bytes : List ℕ). bytes ++ reply) (c.in_ok-push_str.ensures.bytes ∙ ap (λ (bytes : List ℕ). bytes ++ command) c.in_ok-text.ensures.bytes))
    (IsUtf8-from_is_utf8 reply (ap is_utf8 c.as_str-reply.ensures.value ∙ c.as_str-reply.ensures.utf8))

use Rattle.std.proofs.Common.{◌≡◌, ◌∙◌, ◌++◌, ◌∷◌, [], List, ℕ, codes, ap, sym, arith, refl, append-nil}
use Rattle.std.specs.Fmt.{decimal}
use Rattle.std.proofs.lemmas.Fmt.{decimal_digit}
use Rattle.std.proofs.lemmas.Result.{IfOk-weaker}
use Rattle.shop_request.specs.declared.faults.RequestFault.TheVariants as faults
use Rattle.shop_wire.specs.AnswerBytes.{answer_bytes, fault_answer}
use Rattle.shop_serve.proofs.answers.own_answer.Goals as goal

-- the answer to another method than the page's, with its length
with_length : List ℕ → List ℕ
with_length digits = codes "HTTP/1.1 405 Method Not Allowed\r\nAllow: GET\r\nContent-Length: " ++ digits ++ codes "\r\nConnection: close\r\n\r\n"

zero_digit : decimal 0 ≡ 48 ∷ []
zero_digit = decimal_digit 0 (omega arith)

written_out : codes "HTTP/1.1 405 Method Not Allowed\r\nAllow: GET\r\nContent-Length: 0\r\nConnection: close\r\n\r\n" ≡ with_length (48 ∷ [])
unfolding with_length
written_out = refl

in_parts : with_length (decimal 0) ≡ answer_bytes (fault_answer faults.OnlyGet)
unfolding with_length answer_bytes
in_parts = sym (append-nil (with_length (decimal 0)))

-- the same of a route that isn't there
with_none : List ℕ → List ℕ
with_none digits = codes "HTTP/1.1 404 Not Found\r\nContent-Length: " ++ digits ++ codes "\r\nConnection: close\r\n\r\n"

none_out : codes "HTTP/1.1 404 Not Found\r\nContent-Length: 0\r\nConnection: close\r\n\r\n" ≡ with_none (48 ∷ [])
unfolding with_none
none_out = refl

none_in_parts : with_none (decimal 0) ≡ answer_bytes (fault_answer faults.NotFound)
unfolding with_none answer_bytes
none_in_parts = sym (append-nil (with_none (decimal 0)))

pub returns-in-NoBackups : goal.returns-in-NoBackups
returns-in-NoBackups c = rw c.in-NoBackups.is (IfOk-weaker c.from_slice-in-NoBackups.result _ _ (λ r h. h ∙ none_out ∙ ap with_none (sym zero_digit) ∙ none_in_parts) c.from_slice-in-NoBackups.ensures.items)

pub returns-in-OnlyGet : goal.returns-in-OnlyGet
returns-in-OnlyGet c = rw c.in-OnlyGet.is (IfOk-weaker c.from_slice-in-OnlyGet.result _ _ (λ r h. h ∙ written_out ∙ ap with_length (sym zero_digit) ∙ in_parts) c.from_slice-in-OnlyGet.ensures.items)

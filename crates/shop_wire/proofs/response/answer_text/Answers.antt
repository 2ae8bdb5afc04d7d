use Rattle.std.proofs.Common.{◌≡◌, ◌++◌, ap, ◌∙◌, length}
use Rattle.std.specs.Prelude.{codes, decimal, string_bytes}
use Rattle.http.specs.StatusCode.{code_digits}
use Rattle.shop_wire.specs.AnswerBytes.{answer_bytes, phrase, head_line_end}
use Rattle.shop_wire.proofs.response.answer_text.Goals as goal

pub returns : goal.returns
unfolding answer_bytes
returns c =
    let start = codes "HTTP/1.1 " in
    let digits = code_digits c.args.number in
    let s1 : string_bytes c.push_str.new.self ≡ start = c.in_ok-push_str.ensures.bytes ∙ ap (λ l. l ++ start) c.in_ok-text.ensures.bytes in
    let s2 : string_bytes c.push_str-2.new.self ≡ start ++ digits =
    c.in_ok-push_str-2.ensures.bytes ∙ ap (λ l. l ++ c.as_str.result.now) s1 ∙ ap (λ l. start ++ l) (c.as_str.ensures ∙ ap code_digits c.status.ensures) in
    let s3 : string_bytes c.push_str-3.new.self ≡ start ++ digits ++ codes " " = c.in_ok-push_str-3.ensures.bytes ∙ ap (λ l. l ++ codes " ") s2 in
    let s4 : string_bytes c.push_str-4.new.self ≡ start ++ digits ++ codes " " ++ phrase c.args.number =
    c.in_ok-push_str-4.ensures.bytes ∙ ap (λ l. l ++ c.phrase.result.now) s3 ∙ ap (λ l. start ++ digits ++ codes " " ++ l) c.phrase.ensures in
    let s5 : string_bytes c.push_str-5.new.self ≡ start ++ digits ++ codes " " ++ phrase c.args.number ++ head_line_end = c.in_ok-push_str-5.ensures.bytes ∙ ap (λ l. l ++ head_line_end) s4 in
    let s6 : string_bytes c.push_str-6.new.self ≡ start ++ digits ++ codes " " ++ phrase c.args.number ++ head_line_end ++ c.args.fields.now = c.in_ok-push_str-6.ensures.bytes ∙ ap (λ l. l ++ c.args.fields.now) s5 in
    let s7 : string_bytes c.push_str-7.new.self ≡ start ++ digits ++ codes " " ++ phrase c.args.number ++ head_line_end ++ c.args.fields.now ++ codes "Content-Length: " = c.in_ok-push_str-7.ensures.bytes ∙ ap (λ l. l ++ codes "Content-Length: ") s6 in
    let head = start ++ digits ++ codes " " ++ phrase c.args.number ++ head_line_end ++ c.args.fields.now ++ codes "Content-Length: " in
    let s8 : string_bytes c.push_str-8.new.self ≡ head ++ decimal (length c.args.body.now) =
    c.in_ok-push_str-8.ensures.bytes ∙ ap (λ l. l ++ c.as_str-2.result.now) s7 ∙ ap (λ l. head ++ l) (c.as_str-2.ensures.value ∙ c.in_ok-length.ensures) in
    let last = head_line_end ++ codes "Connection: close" ++ head_line_end ++ head_line_end in
    let s9 : string_bytes c.push_str-9.new.self ≡ head ++ decimal (length c.args.body.now) ++ last = c.in_ok-push_str-9.ensures.bytes ∙ ap (λ l. l ++ last) s8 in
    c.in_ok-push_str-10.ensures.bytes ∙ ap (λ l. l ++ c.args.body.now) s9

-- What stands after a head.
use Rattle.std.proofs.Common.{◌≡◌, Bool, true, false, ℕ, zero, suc, ◌-◌, ◌<◌, ◌≤◌, List, [], ◌∷◌, ◌++◌, length, take, drop, Option, Some, None, Result, Ok, Err, inl, inr, refl, sym, ap, subst, ◌∙◌, arith, append_assoc, append-nil, length-append, length-drop}
use Rattle.std.specs.Prelude.{◌⊎◌, IfSome, if◌then◌else◌}
use Rattle.std.proofs.Math.Seq.{take-length}
use Rattle.std.proofs.lemmas.Bool.{lt-ltb, le-ltb}
use Rattle.std.proofs.lemmas.List.{length-take, length-map, take-append-le}
use Rattle.std.specs.Io.KnownBytes.{Consumes, IsAtEnd}
use Rattle.std.proofs.KnownBytes.{Consumes-trans, Consumes-nil}
use Rattle.httparse.specs.declared.spans.HeaderSpan.{HeaderSpan}
use Rattle.httparse.specs.declared.spans.RequestSpans.{RequestSpans}
use Rattle.httparse.specs.Grammar.{RequestHead, print_request}
use Rattle.httparse.specs.Spans.{IsRequestWithin, IsRequestAt, header_bytes, name_and_value}
use Rattle.shop_request.specs.declared.faults.RequestFault.{RequestFault}
use Rattle.shop_request.specs.declared.faults.RequestFault.TheVariants.{BadRequest}
use Rattle.shop_request.specs.Heads.{prefix, ParsedHead, judged, BeginsWith, HasHead}
use Rattle.shop_request.specs.Reading.{IsAsked, IsReadOn, parsed_heads}
use Rattle.shop_request.specs.declared.judging.Asked.{Asked}
use Rattle.shop_request.specs.Requests.{ParseResult, faulty, asking, silent, ParsesTo, on_parsed_head, with_body}
use Rattle.shop_request.specs.Routes.{path_of, takes_body}
use Rattle.shop_request.proofs.Prefix.{begins}

-- ---- more bytes

pub read_nothing : (left : Option (List ℕ)) (received : List ℕ) → IsReadOn left left received received
read_nothing left received = ([], sym (append-nil received), Consumes-nil left)

pub read_more : (old mid new : Option (List ℕ)) (received received' received'' piece : List ℕ) → IsReadOn old mid received received' → received'' ≡ received' ++ piece → Consumes mid new piece → IsReadOn old new received received''
read_more old mid new received received' received'' piece on is taken =
    (on.0 ++ piece, is ∙ ap (λ l. l ++ piece) on.1 ∙ append_assoc received on.0 piece, Consumes-trans old mid new on.0 piece on.2 taken)

pub read_none : (old mid new : Option (List ℕ)) (received received' received'' : List ℕ) → IsReadOn old mid received received' → received'' ≡ received' → Consumes mid new [] → IsReadOn old new received received''
read_none old mid new received received' received'' on is taken = read_more old mid new received received' received'' [] on (is ∙ sym (append-nil received')) taken

drop-append : (n : ℕ) (p m : List ℕ) → n ≤ length p → drop n (p ++ m) ≡ drop n p ++ m
drop-append zero p m within = refl
drop-append (suc n) [] m within = absurd (omega arith)
drop-append (suc n) (b ∷ p) m within = drop-append n p m (omega arith)

pub rest_whole : (n : ℕ) (text : List ℕ) → take (length text - n) (drop n text) ≡ drop n text
rest_whole n text = ap (λ m. take m (drop n text)) (sym (length-drop {A = ℕ} n text)) ∙ take-length (drop n text)

pub silence : (old : Option (List ℕ)) → IsAtEnd old → IfSome old (λ input. ParsesTo input silent)
silence None end = tt
silence (Some xs) end = inl (end, refl)

-- bytes that came, and all that there was
pub gathered : (old new : Option (List ℕ)) (received : List ℕ) (s : ParseResult) (A : Type 0) → Consumes old new received → ParsesTo received s → (A → (more : List ℕ) → ParsesTo (received ++ more) s) → A ⊎ IsAtEnd new → IfSome old (λ input. ParsesTo input s)
gathered None new received s A taken here determined why = tt
gathered (Some xs) None received s A taken here determined why = absurd taken
gathered (Some xs) (Some ys) received s A taken here determined (inl enough) = subst (λ l. ParsesTo l s) (sym taken) (determined enough ys)
gathered (Some xs) (Some ys) received s A taken here determined (inr end) = subst (λ l. ParsesTo l s) (sym (taken ∙ ap (λ l. received ++ l) end ∙ append-nil received)) here

pub bad_head : (old : Option (List ℕ)) (f : RequestFault) → IfSome old (λ input. (0 < length input) × HasHead input (Err f)) → IfSome old (λ input. ParsesTo input (faulty f))
bad_head None f h = tt
bad_head (Some xs) f h = inr (h.0, Err f, h.1, refl)

-- ---- a whole head

-- A whole head came, in these spans, and this is judged of it.
pub record IsJudged (received : List ℕ) (headers : List HeaderSpan) (spans : RequestSpans) (answer : Result ParsedHead RequestFault) : Type 0 where
  pub some : 0 < length received
  pub slots : length headers ≡ 64
  pub within : IsRequestWithin (prefix received) headers spans
  pub head : RequestHead
  pub at : IsRequestAt (prefix received) headers spans head
  pub said : judged head ≡ answer

-- it was found so
pub found_judged : (received : List ℕ) (headers : List HeaderSpan) (spans : RequestSpans) (asks : Result Asked RequestFault) → 0 < length received → length headers ≡ 64 → (is : IsAsked (prefix received) headers spans asks)
    → IsJudged received headers spans (parsed_heads (path_of is.1.0.target) asks)
found_judged received headers spans asks some slots is = record { some = some; slots = slots; within = is.0; head = is.1.0; at = is.1.1; said = sym is.1.2 }

module _ {received : List ℕ} {headers : List HeaderSpan} {spans : RequestSpans} {answer : Result ParsedHead RequestFault} (j : IsJudged received headers spans answer) where
  pub few : length j.head.fields ≤ 64
  few =
      omega (
        arith,
        j.slots,
        ap length j.at.fields,
        length-map (take spans.headers headers) (header_bytes (prefix received)),
        length-map j.head.fields name_and_value,
        length-take spans.headers headers,
      )

  len_fits : length (print_request j.head) ≤ length received
  len_fits = omega (arith, j.at.len, j.within.section.len_fits, length-take 8192 received)

  -- the parse of an input that goes on so after what came with its head
  core : (input m : List ℕ) (s : ParseResult) → input ≡ received ++ m → on_parsed_head answer (drop (length (print_request j.head)) received ++ m) ≡ s → ParsesTo input s
  core input m s is e =
      inr (
        omega (arith, ap length is, length-append received m, j.some),
        Ok j.head,
        subst (λ l. BeginsWith l j.head) (sym is) (begins received m j.head (drop spans.len (prefix received)) few j.at.reads),
        sym (ap (λ l. on_parsed_head (judged j.head) (drop (length (print_request j.head)) l)) is
            ∙ ap (on_parsed_head (judged j.head)) (drop-append (length (print_request j.head)) received m len_fits)
            ∙ ap (λ a. on_parsed_head a (drop (length (print_request j.head)) received ++ m)) j.said
            ∙ e),
      )

  pub parse_of_fault : (old mid : Option (List ℕ)) → Consumes old mid received → (f : RequestFault) → answer ≡ Err f → IfSome old (λ input. ParsesTo input (faulty f))
  parse_of_fault None mid taken f e = tt
  parse_of_fault (Some xs) None taken f e = absurd taken
  parse_of_fault (Some xs) (Some ys) taken f e = core xs ys (faulty f) taken (ap (λ a. on_parsed_head a (drop (length (print_request j.head)) received ++ ys)) e)

  pub parse_of_part : (old mid : Option (List ℕ)) → Consumes old mid received → (parsed_head : ParsedHead) → answer ≡ Ok parsed_head → takes_body parsed_head.route ≡ false → (part : List ℕ) → part ≡ parsed_head.part
      → IfSome old (λ input. ParsesTo input (asking parsed_head.route part))
  parse_of_part None mid taken parsed_head e no_body part is = tt
  parse_of_part (Some xs) None taken parsed_head e no_body part is = absurd taken
  parse_of_part (Some xs) (Some ys) taken parsed_head e no_body part is =
      let after = drop (length (print_request j.head)) received ++ ys in
      core xs ys (asking parsed_head.route part) taken
      (ap (λ a. on_parsed_head a after) e ∙ ap (λ (b : Bool). if b then with_body parsed_head.route parsed_head.length after else asking parsed_head.route parsed_head.part) no_body ∙ ap (asking parsed_head.route) (sym is))

  -- with a body, of which more bytes came
  module _ (old mid new : Option (List ℕ)) (taken : Consumes old mid received) (parsed_head : ParsedHead) (e : answer ≡ Ok parsed_head) (body : takes_body parsed_head.route ≡ true) (received' : List ℕ) (on : IsReadOn mid new received received') where
    -- what came after the head
    after_is : (ys : List ℕ) → drop (length (print_request j.head)) received ++ (on.0 ++ ys) ≡ drop spans.len received' ++ ys
    after_is ys =
        sym (append_assoc (drop (length (print_request j.head)) received) on.0 ys)
        ∙ ap (λ l. l ++ ys) (sym (drop-append (length (print_request j.head)) received on.0 len_fits) ∙ ap (drop (length (print_request j.head))) (sym on.1) ∙ ap (λ n. drop n received') (sym j.at.len))

    whole : (xs ys : List ℕ) → Consumes (Some xs) mid received → Consumes mid (Some ys) on.0 → xs ≡ received ++ (on.0 ++ ys)
    whole xs ys first second = Consumes-trans (Some xs) mid (Some ys) received on.0 first second ∙ append_assoc received on.0 ys

    reported : (ys : List ℕ) (s : ParseResult) → with_body parsed_head.route parsed_head.length (drop spans.len received' ++ ys) ≡ s → on_parsed_head answer (drop (length (print_request j.head)) received ++ (on.0 ++ ys)) ≡ s
    reported ys s is =
        let after = drop (length (print_request j.head)) received ++ (on.0 ++ ys) in
        ap (λ a. on_parsed_head a after) e ∙ ap (λ (b : Bool). if b then with_body parsed_head.route parsed_head.length after else asking parsed_head.route parsed_head.part) body ∙ ap (with_body parsed_head.route parsed_head.length) (after_is ys) ∙ is

    enough : (ys : List ℕ) → parsed_head.length ≤ length received' - spans.len → with_body parsed_head.route parsed_head.length (drop spans.len received' ++ ys) ≡ asking parsed_head.route (take parsed_head.length (drop spans.len received'))
    enough ys long =
        let d = drop spans.len received' in
        let l : parsed_head.length ≤ length d = omega (arith, long, length-drop spans.len received') in
        ap (λ (b : Bool). if b then faulty BadRequest else asking parsed_head.route (take parsed_head.length (d ++ ys))) (le-ltb (length (d ++ ys)) parsed_head.length (omega (arith, l, length-append d ys)))
        ∙ ap (asking parsed_head.route) (take-append-le parsed_head.length d ys l)

    too_few : (ys : List ℕ) → ys ≡ [] → length received' - spans.len < parsed_head.length → with_body parsed_head.route parsed_head.length (drop spans.len received' ++ ys) ≡ faulty BadRequest
    too_few ys end short =
        let d = drop spans.len received' in
        ap (λ (b : Bool). if b then faulty BadRequest else asking parsed_head.route (take parsed_head.length (d ++ ys))) (lt-ltb (length (d ++ ys)) parsed_head.length (omega (arith, short, length-drop spans.len received', length-append d ys, ap length end)))

  pub parse_of_body : (old mid new : Option (List ℕ)) → Consumes old mid received → (parsed_head : ParsedHead) → answer ≡ Ok parsed_head → takes_body parsed_head.route ≡ true → (received' : List ℕ) → IsReadOn mid new received received'
      → parsed_head.length ≤ length received' - spans.len → (body : List ℕ) → body ≡ take parsed_head.length (drop spans.len received') → IfSome old (λ input. ParsesTo input (asking parsed_head.route body))
  parse_of_body None mid new taken parsed_head e b received' on long body is = tt
  parse_of_body (Some xs) None new taken parsed_head e b received' on long body is = absurd taken
  parse_of_body (Some xs) (Some zs) None taken parsed_head e b received' on long body is = absurd on.2
  parse_of_body (Some xs) (Some zs) (Some ys) taken parsed_head e b received' on long body is =
      core xs (on.0 ++ ys) (asking parsed_head.route body) (whole (Some xs) (Some zs) (Some ys) taken parsed_head e b received' on xs ys taken on.2)
      (reported (Some xs) (Some zs) (Some ys) taken parsed_head e b received' on ys (asking parsed_head.route body) (enough (Some xs) (Some zs) (Some ys) taken parsed_head e b received' on ys long ∙ ap (asking parsed_head.route) (sym is)))

  pub parse_of_short : (old mid new : Option (List ℕ)) → Consumes old mid received → (parsed_head : ParsedHead) → answer ≡ Ok parsed_head → takes_body parsed_head.route ≡ true → (received' : List ℕ) → IsReadOn mid new received received'
      → length received' - spans.len < parsed_head.length → IsAtEnd new → IfSome old (λ input. ParsesTo input (faulty BadRequest))
  parse_of_short None mid new taken parsed_head e b received' on short end = tt
  parse_of_short (Some xs) None new taken parsed_head e b received' on short end = absurd taken
  parse_of_short (Some xs) (Some zs) None taken parsed_head e b received' on short end = absurd on.2
  parse_of_short (Some xs) (Some zs) (Some ys) taken parsed_head e b received' on short end =
      core xs (on.0 ++ ys) (faulty BadRequest) (whole (Some xs) (Some zs) (Some ys) taken parsed_head e b received' on xs ys taken on.2)
      (reported (Some xs) (Some zs) (Some ys) taken parsed_head e b received' on ys (faulty BadRequest) (too_few (Some xs) (Some zs) (Some ys) taken parsed_head e b received' on ys end short))

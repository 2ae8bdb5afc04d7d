-- Unfinished bytes can go on to have another parse.
use Rattle.std.proofs.Common.{◌≡◌, ◌∙◌, Bool, true, false, ℕ, ◌+◌, ◌<◌, ◌≤◌, List, [], ◌∷◌, ◌++◌, length, take, drop, Result, Ok, Err, inl, inr, refl, sym, ap, subst, arith, append_assoc, append-nil, length-append, length-drop}
use Rattle.std.specs.Prelude.{◌⊎◌, replicate, if◌then◌else◌, IsTrue, nat_lt}
use Rattle.std.specs.List.{flat_map}
use Rattle.std.proofs.Math.Seq.{take-append_seam}
use Rattle.std.proofs.lemmas.List.{length-replicate, length-take, take_all, take-append-drop, take-append-le}
use Rattle.std.proofs.lemmas.List.Concat.{flat_map-append}
use Rattle.std.proofs.lemmas.List.Elements.{All-replicate, All-append, All-cons, All-nil}
use Rattle.std.proofs.lemmas.Bool.{lt-ltb, le-ltb, cases_order}
use Rattle.httparse.specs.Grammar.{RequestHead, IsRequestHead, ReadsRequest, HasNoRequest, MayBecomeRequest, EndsInTarget, Field, IsField, LineEnd, lf, crlf, print_blank, print_version, print_end, print_field, print_request, is_token_byte, is_value_byte}
use Rattle.httparse.proofs.GrammarLemmas.{request_unique}
use Rattle.shop_request.specs.declared.faults.RequestFault.{RequestFault}
use Rattle.shop_request.specs.declared.faults.RequestFault.TheVariants.{BadRequest, NotFound, OnlyGet, OnlyPost, NoLength, LargeBody, LargeHead}
use Rattle.shop_request.specs.declared.routes.Route.{Route}
use Rattle.shop_request.specs.Heads.{prefix, ParsedHead, judged, HasHead}
use Rattle.shop_request.specs.Requests.{ParseResult, silent, faulty, asking, ParsesTo, on_head, on_parsed_head, with_body}
use Rattle.shop_request.specs.Routes.{takes_body}
use Rattle.shop_request.specs.Parses.{IsPartOfHead, IsDetermined, IsUnfinished, LacksBody, LacksLastByte, MayBeEither}
use Rattle.shop_request.proofs.Prefix.{begins}
use Rattle.shop_request.proofs.Determined.{unsettled}
use Rattle.shop_request.proofs.Uniqueness.{one_parse}

-- ---- nothing came

by_length : (b : Bool) (route : Route) (body : List ℕ) → (if b then faulty BadRequest else asking route body) ≡ silent → ⊥
by_length true route body e = absurd (cc e)
by_length false route body e = absurd (cc e)

parsed_head_speaks : (r : Result ParsedHead RequestFault) (after : List ℕ) → on_parsed_head r after ≡ silent → ⊥
parsed_head_speaks (Err f) after e = absurd (cc e)
parsed_head_speaks (Ok parsed_head) after e = by_route (takes_body parsed_head.route) e
  where
    by_route : (b : Bool) → (if b then with_body parsed_head.route parsed_head.length after else asking parsed_head.route parsed_head.part) ≡ silent → ⊥
    by_route false e = absurd (cc e)
    by_route true e = by_length (nat_lt (length after) parsed_head.length) parsed_head.route (take parsed_head.length after) e

head_speaks : (head : Result RequestHead RequestFault) (input : List ℕ) → on_head head input ≡ silent → ⊥
head_speaks (Err f) input e = absurd (cc e)
head_speaks (Ok h) input e = parsed_head_speaks (judged h) (drop (length (print_request h)) input) e

silent_and_not : (s : ParseResult) → ParsesTo [] s → ParsesTo (0 ∷ []) s → ⊥
silent_and_not s (inr here) later = absurd (omega (arith, here.0))
silent_and_not s (inl here) (inl later) = absurd (cc later.0)
silent_and_not s (inl here) (inr later) = head_speaks later.1 (0 ∷ []) (sym later.3 ∙ here.1)

nothing_is_open : IsDetermined [] → ⊥
nothing_is_open determined = silent_and_not determined.0 (determined.1 []) (determined.1 (0 ∷ []))

-- ---- a head without all of its body

body_is_open : (received : List ℕ) → 0 < length received → LacksBody received → IsDetermined received → ⊥
body_is_open received some l determined =
    let parsed_head = l.parsed_head in
    let size = length (print_request l.head) in
    let fill : List ℕ = replicate parsed_head.length 0 in
    let fits : size ≤ length received = omega (arith, ap length l.begins.reads.1, length-append (print_request l.head) l.begins.rest, length-take 8192 received) in
    unsettled received fill parsed_head.route (take parsed_head.length (drop size (received ++ fill)))
    (inr (some, Ok l.head, l.begins, sym (asked (drop size received) ∙ short (drop size received) (omega (arith, l.few, fits, length-drop size received)))))
    (inr (
      omega (arith, some, length-append received fill),
      Ok l.head,
      begins received fill l.head l.begins.rest l.begins.few l.begins.reads,
      sym (asked (drop size (received ++ fill))
          ∙ long (drop size (received ++ fill)) (omega (arith, fits, length-drop size (received ++ fill), length-append received fill, length-replicate {A = ℕ} parsed_head.length 0))),
    )) determined
  where
    asked : (after : List ℕ) → on_parsed_head (judged l.head) after ≡ with_body l.parsed_head.route l.parsed_head.length after
    asked after =
        ap (λ j. on_parsed_head j after) l.asks ∙ ap (λ (b : Bool). if b then with_body l.parsed_head.route l.parsed_head.length after else asking l.parsed_head.route l.parsed_head.part) l.body

    tested : (b : Bool) (after : List ℕ) → nat_lt (length after) l.parsed_head.length ≡ b
        → with_body l.parsed_head.route l.parsed_head.length after ≡ (if b then faulty BadRequest else asking l.parsed_head.route (take l.parsed_head.length after))
    tested b after e = ap (λ (b : Bool). if b then faulty BadRequest else asking l.parsed_head.route (take l.parsed_head.length after)) e

    short : (after : List ℕ) → length after < l.parsed_head.length → with_body l.parsed_head.route l.parsed_head.length after ≡ faulty BadRequest
    short after few = tested true after (lt-ltb (length after) l.parsed_head.length few)

    long : (after : List ℕ) → l.parsed_head.length ≤ length after → with_body l.parsed_head.route l.parsed_head.length after ≡ asking l.parsed_head.route (take l.parsed_head.length after)
    long after enough = tested false after (le-ltb (length after) l.parsed_head.length enough)

-- ---- a part of a head

-- what stands in front of the fields of a head, and with them
start : RequestHead → List ℕ
start h = print_blank h.blank ++ h.method ++ 32 ∷ h.target ++ 32 ∷ print_version h.minor ++ print_end h.line_end

stem : RequestHead → List ℕ
stem h = start h ++ flat_map print_field h.fields

with_fields : RequestHead → List Field → RequestHead
with_fields h more = record h { fields = h.fields ++ more }

print-stem : (h : RequestHead) → print_request h ≡ stem h ++ print_end h.last
unfolding print_request stem start
print-stem h = sym (append_assoc (start h) (flat_map print_field h.fields) (print_end h.last))

print-with : (h : RequestHead) (more : List Field) → print_request (with_fields h more) ≡ stem h ++ (flat_map print_field more ++ print_end h.last)
unfolding print_request stem start with_fields
print-with h more =
    let fields = flat_map print_field h.fields in
    let later = flat_map print_field more in
    ap (λ l. start h ++ (l ++ print_end h.last)) (flat_map-append print_field h.fields more)
    ∙ ap (λ l. start h ++ l) (append_assoc fields later (print_end h.last)) ∙ sym (append_assoc (start h) fields (later ++ print_end h.last))

-- a field of so many bytes
long_field : ℕ → Field
long_field n = record { name = 97 ∷ []; raw = replicate n 97; end = lf }

is_field : (n : ℕ) → IsField (long_field n)
unfolding long_field is_token_byte
is_field n =
    record {
      name = (omega arith, All-cons (λ b. IsTrue (is_token_byte b)) 97 [] refl (All-nil (λ b. IsTrue (is_token_byte b))));
      raw = All-replicate (λ b. IsTrue (is_value_byte b)) n 97 refl;
    }

field_is_long : (n : ℕ) → n ≤ length (print_field (long_field n))
unfolding long_field
field_is_long n = omega (arith, length-append {A = ℕ} (replicate n 97) (10 ∷ []), length-replicate {A = ℕ} n 97)

is_head : (h : RequestHead) (n : ℕ) → IsRequestHead h → IsRequestHead (with_fields h (long_field n ∷ []))
unfolding with_fields
is_head h n is =
    record {
      method = is.method;
      target = is.target;
      target_text = is.target_text;
      minor = is.minor;
      fields = All-append IsField h.fields (long_field n ∷ []) is.fields (All-cons IsField (long_field n) [] (is_field n) (All-nil IsField));
    }

-- what is left of a head that is longer than the prefix
not_in_prefix : (input : List ℕ) (h : RequestHead) → 8192 < length input → ReadsRequest input h [] → HasNoRequest (prefix input)
not_in_prefix input h long reads k rest begins =
    let later = drop 8192 input in
    let whole : input ≡ print_request k ++ (rest ++ later) =
    sym (take-append-drop 8192 input) ∙ ap (λ l. l ++ later) begins.1 ∙ append_assoc (print_request k) rest later in
    let none = (request_unique input k h (rest ++ later) [] (begins.0, whole) reads).1 in
    absurd (omega (arith, ap length none, length-append rest later, length-drop 8192 input, long))

-- and its parse isn't a bad head
not_bad : (input : List ℕ) (h : RequestHead) → 8192 < length input → ReadsRequest input h [] → ParsesTo input (faulty BadRequest) → ⊥
not_bad input h long reads (inl none) = absurd (omega (arith, long, ap length none.0))
not_bad input h long reads (inr parsed) = by_head parsed.1 parsed.2 parsed.3
  where
    by_head : (head : Result RequestHead RequestFault) → HasHead input head → faulty BadRequest ≡ on_head head input → ⊥
    by_head (Ok k) has e = not_in_prefix input h long reads k has.rest has.reads
    by_head (Err BadRequest) (inl never) e =
        never (drop 8192 input) h [] (subst (λ l. ReadsRequest l h []) (sym (take-append-drop 8192 input)) reads)
    by_head (Err BadRequest) (inr early) e = absurd (omega (arith, early.0, long))
    by_head (Err LargeHead) has e = absurd (cc e)
    by_head (Err NotFound) has e = absurd has
    by_head (Err OnlyGet) has e = absurd has
    by_head (Err OnlyPost) has e = absurd has
    by_head (Err NoLength) has e = absurd has
    by_head (Err LargeBody) has e = absurd has

end_is_short : (last : LineEnd) → length (print_end last) ≤ 2
end_is_short crlf = omega arith
end_is_short lf = omega arith

module _ (received : List ℕ) (some : 0 < length received) (part : IsPartOfHead received) (determined : IsDetermined received) where
  short : ParsesTo received (faulty BadRequest)
  short =
      inr (some, Err BadRequest, inr (part.few, part.none), refl)

  -- it goes on to be a head, by these bytes
  module _ (more : List ℕ) (h : RequestHead) (reads : ReadsRequest (received ++ more) h []) where
    whole : received ++ more ≡ stem h ++ print_end h.last
    whole = reads.1 ∙ append-nil (print_request h) ∙ print-stem h

    -- another field can come
    grown : length received ≤ length (stem h) → (n : ℕ) → 8192 < n → (input : List ℕ) × (later : List ℕ) × (input ≡ received ++ later) × (ParsesTo input (faulty BadRequest) → ⊥)
    grown within n long =
        let lines = flat_map print_field (long_field n ∷ []) ++ print_end h.last in
        let between = drop (length received) (stem h) in
        let begins_so : received ≡ take (length received) (stem h) =
        sym (take-append_seam received more) ∙ ap (take (length received)) whole ∙ take-append-le (length received) (stem h) (print_end h.last) within in
        let stem_is : received ++ between ≡ stem h = ap (λ l. l ++ between) begins_so ∙ take-append-drop (length received) (stem h) in
        let input = received ++ (between ++ lines) in
        let k = with_fields h (long_field n ∷ []) in
        let prints : input ≡ print_request k =
        sym (append_assoc received between lines) ∙ ap (λ l. l ++ lines) stem_is ∙ sym (print-with h (long_field n ∷ [])) in
        let is_long : 8192 < length input =
        omega (
          arith,
          long,
          length-append received (between ++ lines),
          length-append between lines,
          length-append (flat_map print_field (long_field n ∷ [])) (print_end h.last),
          length-append (print_field (long_field n)) [],
          field_is_long n,
        ) in
        (input, between ++ lines, refl, not_bad input k is_long (is_head h n reads.0, prints ∙ sym (append-nil (print_request k))))

    by_parse : (input later : List ℕ) → input ≡ received ++ later → (ParsesTo input (faulty BadRequest) → ⊥) → MayBeEither received
    by_parse input later is never = elim (one_parse received determined.0 (faulty BadRequest) (subst (λ l. ParsesTo l determined.0) (append-nil received) (determined.1 [])) short) [
      | inl bad ↦ absurd (never (subst (ParsesTo input) bad (subst (λ l. ParsesTo l determined.0) (sym is) (determined.1 later))))
      | inr either ↦ either.2
    ]

  last_byte : (more : List ℕ) (h : RequestHead) → ReadsRequest (received ++ more) h [] → length (stem h) < length received → LacksLastByte received
  last_byte [] h reads beyond = absurd (part.none h [] (subst (λ l. ReadsRequest l h []) (append-nil received) reads))
  last_byte (b ∷ []) h reads beyond = (b, h, reads)
  last_byte (b ∷ c ∷ more) h reads beyond =
      absurd (omega (
        arith,
        beyond,
        end_is_short h.last,
        ap length (whole (b ∷ c ∷ more) h reads),
        length-append received (b ∷ c ∷ more),
        length-append (stem h) (print_end h.last),
      ))

le-or-lt : (a b : ℕ) → (a ≤ b) ⊎ (b < a)
le-or-lt a b = elim (cases_order a b) [
  | inl same ↦ inl (omega (arith, same))
  | inr differ ↦ elim differ [ inl less ↦ inl (omega (arith, less)) | inr more ↦ inr more ]
]

part_is_open : (received : List ℕ) → 0 < length received → IsPartOfHead received → IsDetermined received → MayBeEither received ⊎ LacksLastByte received
part_is_open received some part determined = by_may part.may
  where
    by_place : (more : List ℕ) (h : RequestHead) → ReadsRequest (received ++ more) h [] → (length received ≤ length (stem h)) ⊎ (length (stem h) < length received) → MayBeEither received ⊎ LacksLastByte received
    by_place more h reads (inl within) =
        let g = grown received some part determined more h reads within (length received + 8193) (omega arith) in
        inl (by_parse received some part determined more h reads g.0 g.1 g.2 g.3)
    by_place more h reads (inr beyond) = inr (last_byte received some part determined more h reads beyond)

    by_may : MayBecomeRequest received → MayBeEither received ⊎ LacksLastByte received
    by_may (inr ends) = inl (inr (subst EndsInTarget (sym (take_all 8192 received (omega (arith, part.few)))) ends))
    by_may (inl may) = by_place may.0 may.1 may.2 (le-or-lt (length received) (length (stem may.1)))

-- unfinished bytes are determined only so
pub unfinished_is_open : (received : List ℕ) → IsUnfinished received → IsDetermined received → MayBeEither received ⊎ LacksLastByte received
unfinished_is_open [] unfinished determined = absurd (nothing_is_open determined)
unfinished_is_open (b ∷ received) (inl none) determined = absurd (cc none)
unfinished_is_open (b ∷ received) (inr (inl part)) determined = part_is_open (b ∷ received) (omega arith) part determined
unfinished_is_open (b ∷ received) (inr (inr lacks)) determined = absurd (body_is_open (b ∷ received) (omega arith) lacks determined)

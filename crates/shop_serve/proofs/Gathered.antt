-- What was reported and given, gathered from round to round.
use Rattle.std.proofs.Common.{◌≡◌, ◌∙◌, ℕ, ◌+◌, true, List, [], ◌∷◌, ◌++◌, length, refl, sym, ap, subst, arith, length-append}
use Rattle.std.proofs.lemmas.List.{append_assoc, append-nil}
use Rattle.std.proofs.lemmas.List.Concat.{flat_map-append}
use Rattle.std.specs.Prelude.{Option, Some, None}
use Rattle.std.specs.declared.time.Instant.{Instant}
use Rattle.slab.specs.Slab.{Slab}
use Rattle.shop_book.specs.declared.books.Book.{Ghosts}
use Rattle.shop_serve.specs.declared.connections.Connection.{Ghosts as ConnectionGhosts}
use Rattle.shop_serve.specs.declared.ports.Port.{Ghosts as PortGhosts}
use Rattle.shop_serve.specs.declared.clients.Client.{Client}
use Rattle.shop_serve.specs.declared.sites.Site.{Site}
use Rattle.shop_serve.specs.Rounds.{AreReceived, AreRounds, IsReceived, IsRound, Round, all_arrived, all_keys}
use Rattle.shop_serve.specs.Times.{Adds, Looks, Times}

module _ {X : Type 0} where
  pub adds-none : (a : Option (List X)) → Adds a a []
  adds-none None = tt
  adds-none (Some xs) = sym (append-nil xs)

  pub adds-more : (a b c : Option (List X)) (xs ys : List X) → Adds a b xs → Adds b c ys → Adds a c (xs ++ ys)
  adds-more None b c xs ys first second = tt
  adds-more (Some a) None c xs ys first second = absurd first
  adds-more (Some a) (Some b) None xs ys first second = absurd second
  adds-more (Some a) (Some b) (Some c) xs ys first second = second ∙ ap (λ l. l ++ ys) first ∙ append_assoc a xs ys

module _ {C : Type 0} {P : Type 0} (port : PortGhosts P C) where
  -- the connections that came, and that were received
  abbrev pub Arrived : Option (List C) → Option (List C) → ℕ → ℕ → Slab (Client C) → Slab (Client C) → (seen seeing : Times) → Type 0
  Arrived given giving from to old new seen seeing = (arrived : List C) × (to ≡ from + length arrived) × Adds given giving arrived × AreReceived port arrived old new seen seeing

  -- and whatever comes later
  abbrev pub ArrivedSoFar : Option (List C) → Option (List C) → ℕ → ℕ → Slab (Client C) → Slab (Client C) → (seen now : Times) → Type 0
  ArrivedSoFar given giving from to old mid seen now =
      (arrived : List C) × (to ≡ from + length arrived) × Adds given giving arrived
      × ((later : List C) (clients : Slab (Client C)) (seeing : Times) → AreReceived port later mid clients now seeing → AreReceived port (arrived ++ later) old clients seen seeing)

  pub arrived-none : (given : Option (List C)) (from : ℕ) (old : Slab (Client C)) (seen : Times) → ArrivedSoFar given given from from old old seen seen
  arrived-none given from old seen = ([], omega arith, adds-none given, λ later clients seeing run. run)

  pub arrived-all : (given giving last : Option (List C)) (from to : ℕ) (old new : Slab (Client C)) (seen seeing : Times) → Adds giving last []
      → ArrivedSoFar given giving from to old new seen seeing → Arrived given last from to old new seen seeing
  arrived-all given giving last from to old new seen seeing more s = (
    s.0,
    s.1,
    subst (Adds given last) (append-nil s.0) (adds-more given giving last s.0 [] s.2 more),
    subst (λ arrived. AreReceived port arrived old new seen seeing) (append-nil s.0) (s.3 [] new seeing (refl, refl)),
  )

  pub arrived-one : (given giving last : Option (List C)) (from to : ℕ) (old mid new : Slab (Client C)) (seen now seeing : Times) (stream : C) → Adds giving last (stream ∷ [])
      → IsReceived port stream mid new now seeing → ArrivedSoFar given giving from to old mid seen now → ArrivedSoFar given last from (to + 1) old new seen seeing
  arrived-one given giving last from to old mid new seen now seeing stream more received s = (
    s.0 ++ stream ∷ [],
    omega (arith, s.1, length-append s.0 (stream ∷ [])),
    adds-more given giving last s.0 (stream ∷ []) s.2 more,
    λ later clients ending run. subst (λ arrived. AreReceived port arrived old clients seen ending) (sym (append_assoc s.0 (stream ∷ []) later))
        (s.3 (stream ∷ later) clients ending (new, seeing, received, run)),
  )

module _ {C : Type 0} (connection : ConnectionGhosts C) (site : Site) {B : Type 0} (book : Ghosts B) {P : Type 0} (port : PortGhosts P C) where
  -- the rounds so far, and whatever comes later
  abbrev pub RoundsSoFar : Option (List ℕ) → Option (List ℕ) → Option (List C) → Option (List C) → ℕ → Slab (Client C) → Slab (Client C) → B → B → (seen now : Times) → Type 0
  RoundsSoFar reported response given giving count first mid before here seen now =
      (rounds : List (Round C)) × (count ≡ length (all_arrived rounds)) × Adds reported response (all_keys rounds) × Adds given giving (all_arrived rounds)
      × ((later : List (Round C)) (clients : Slab (Client C)) (after : B) (seeing : Times) → AreRounds connection site book port later mid clients here after now seeing
      → AreRounds connection site book port (rounds ++ later) first clients before after seen seeing)

  pub rounds-none : (reported : Option (List ℕ)) (given : Option (List C)) (first : Slab (Client C)) (before : B) (seen : Times) → RoundsSoFar reported reported given given 0 first first before before seen seen
  rounds-none reported given first before seen = ([], refl, adds-none reported, adds-none given, λ later clients after seeing run. run)

  pub rounds-all : (reported response : Option (List ℕ)) (given giving : Option (List C)) (count : ℕ) (first last : Slab (Client C)) (before after : B) (seen seeing : Times)
      → (s : RoundsSoFar reported response given giving count first last before after seen seeing) → AreRounds connection site book port s.0 first last before after seen seeing
  rounds-all reported response given giving count first last before after seen seeing s =
      subst (λ rounds. AreRounds connection site book port rounds first last before after seen seeing) (append-nil s.0) (s.4 [] last after seeing (refl, refl, refl))

  pub rounds-one : (reported response ends : Option (List ℕ)) (given giving last : Option (List C)) (count more : ℕ) (first mid new : Slab (Client C)) (before here after : B)
      (seen seeing looked ending : Times) (now : Instant) (keys : List ℕ) (arrived : List C) → Adds response ends keys → Adds giving last arrived → more ≡ count + length arrived
      → Looks seeing looked true → IsRound connection site book port (record { now = now; keys = keys; arrived = arrived }) mid new here after looked ending
      → RoundsSoFar reported response given giving count first mid before here seen seeing → RoundsSoFar reported ends given last more first new before after seen ending
  rounds-one reported response ends given giving last count more first mid new before here after seen seeing looked ending now keys arrived reported_more given_more counted looks round s =
      let r : Round C = record { now = now; keys = keys; arrived = arrived } in
      let all_keys_more = flat_map-append (λ (r : Round C). r.keys) s.0 (r ∷ []) ∙ ap (λ l. all_keys s.0 ++ l) (append-nil keys) in
      let all_arrived_more = flat_map-append (λ (r : Round C). r.arrived) s.0 (r ∷ []) ∙ ap (λ l. all_arrived s.0 ++ l) (append-nil arrived) in (
        s.0 ++ r ∷ [],
        omega (arith, s.1, counted, ap length all_arrived_more, length-append (all_arrived s.0) arrived),
        subst (Adds reported ends) (sym all_keys_more) (adds-more reported response ends (all_keys s.0) keys s.2 reported_more),
        subst (Adds given last) (sym all_arrived_more) (adds-more given giving last (all_arrived s.0) arrived s.3 given_more),
        λ later clients end last_seen run. subst (λ rounds. AreRounds connection site book port rounds first clients before end seen last_seen) (sym (append_assoc s.0 (r ∷ []) later))
            (s.4 (r ∷ later) clients end last_seen (new, after, ending, (looked, looks, round), run)),
      )

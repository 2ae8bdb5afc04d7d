-- On a well-formed content each job has its ticket.
use Rattle.std.proofs.Common.{◌≡◌, ◌≢◌, ℕ, zero, suc, ◌+◌, ◌-◌, ◌≤◌, List, Option, Some, None, Err, refl, sym, ap, subst, arith}
use Rattle.std.specs.Prelude.{Bool, IsSome, option_map, nat_lt, ◌==◌, if◌then◌else◌}
use Rattle.std.proofs.lemmas.Bool.{cond_both, eq-eqb}
use Rattle.cut_measure.specs.declared.sizes.Axis.TheVariants.{X, Y}
use Rattle.cut_measure.specs.declared.sizes.Kind.{Kind}
use Rattle.cut_tree.specs.declared.token.Token.{Token}
use Rattle.cut_tree.specs.declared.token.Token.TheVariants as token
use Rattle.cut_tree.specs.declared.steps.Step.{Step}
use Rattle.cut_tree.specs.Tree.{Tree, Piece, Rest, Trim, Cut, node_count, count_of}
use Rattle.cut_tree.specs.Patterns.{Pattern}
use Rattle.cut_tree.specs.Stepping.{step_at}
use Rattle.shop_records.specs.declared.records.Material.{Material}
use Rattle.shop_records.specs.declared.records.Job.{Job}
use Rattle.shop_records.specs.declared.records.Demand.{Demand}
use Rattle.shop_records.specs.declared.refusals.Refusal.TheVariants.{StoreFault}
use Rattle.shop_records.specs.Messages.{Texts}
use Rattle.shop_records.specs.Content.{Content, job_at, part_at, material_at, material_of, demand_at}
use Rattle.shop_records.specs.WellFormed.{IsOnPart, IsWellFormed}
use Rattle.shop_text.specs.Tickets.{both, demand_for, line_of, lines_below, node_lines, node_text, or_contradiction, step_of, ticket_found, ticket_of, ticket_on_part}
use Rattle.shop_text.specs.Yields.{yield_found, yield_of}

-- ---- the demand of a step that is a piece is counted

piece_demand : (a d : ℕ) (b turned : Bool) → token.Piece a b ≡ token.Piece d turned → a ≡ d
piece_demand a d b turned e = cc

one_piece : (a d : ℕ) (b turned : Bool) → token.Piece a b ≡ token.Piece d turned → 1 ≤ (if a == d then 1 else 0)
one_piece a d b turned e =
    let one : ◌≡◌ {A = ℕ} (if a == d then 1 else 0) 1 = ap {B = ℕ} (λ c. if c then 1 else 0) (eq-eqb a d (piece_demand a d b turned e)) in
    omega (arith, one)

step_counted : (t : Tree) (x y w h k n m d : ℕ) (turned : Bool) → (step_at t x y w h k n m).what ≡ token.Piece d turned → 1 ≤ count_of t d
step_counted (Piece a b) x y w h k zero m d turned e = one_piece a d b turned e
step_counted (Piece a b) x y w h k (suc n) m d turned e = one_piece a d b turned e
step_counted Rest x y w h k zero m d turned e = absurd (cc e)
step_counted Rest x y w h k (suc n) m d turned e = absurd (cc e)
step_counted (Trim axis a f) x y w h k zero m d turned e = absurd (cc e)
step_counted (Trim X a f) x y w h k (suc n) m d turned e = step_counted f x y a h k n m d turned e
step_counted (Trim Y a f) x y w h k (suc n) m d turned e = step_counted f x y w a k n m d turned e
step_counted (Cut axis a f s) x y w h k zero m d turned e = absurd (cc e)
step_counted (Cut X a f s) x y w h k (suc n) m d turned e =
    cond_both (nat_lt n (node_count f)) (step_at f x y a h k n m) (step_at s (x + a + k) y (w - a - k) h k (n - node_count f) m)
    (λ (r : Step). r.what ≡ token.Piece d turned → 1 ≤ count_of f d + count_of s d)
    (λ near is. let some = step_counted f x y a h k n m d turned is in omega (arith, some))
    (λ beyond is. let some = step_counted s (x + a + k) y (w - a - k) h k (n - node_count f) m d turned is in omega (arith, some))
    e
step_counted (Cut Y a f s) x y w h k (suc n) m d turned e =
    cond_both (nat_lt n (node_count f)) (step_at f x y w a k n m) (step_at s x (y + a + k) w (h - a - k) k (n - node_count f) m)
    (λ (r : Step). r.what ≡ token.Piece d turned → 1 ≤ count_of f d + count_of s d)
    (λ near is. let some = step_counted f x y w a k n m d turned is in omega (arith, some))
    (λ beyond is. let some = step_counted s x (y + a + k) w (h - a - k) k (n - node_count f) m d turned is in omega (arith, some))
    e

-- ---- the text is there

some_map : {X Y : Type 0} (f : X → Y) (o : Option X) → IsSome o → IsSome (option_map f o)
some_map f None some = absurd (cc some)
some_map f (Some x) some = refl

text_there : (kind : Kind) (step : Step) (at : ℕ → Option Demand) (what : Token) → ((d : ℕ) (turned : Bool) → what ≡ token.Piece d turned → IsSome (at d))
    → IsSome (node_text kind step what (demand_for at what))
text_there kind step at (token.Cut axis place) there = refl
text_there kind step at (token.Piece d turned) there = by (at d) (there d turned refl)
  where
    by : (o : Option Demand) → IsSome o → IsSome (node_text kind step (token.Piece d turned) o)
    by None some = absurd (cc some)
    by (Some row) some = refl
text_there kind step at token.Rest there = refl

both_there : (a b : Option (List ℕ)) → IsSome a → IsSome b → IsSome (both a b)
both_there None b some more = absurd (cc some)
both_there (Some lines) None some more = absurd (cc more)
both_there (Some lines) (Some line) some more = refl

lines_there : (line : ℕ → Option (List ℕ)) → ((n : ℕ) → IsSome (line n)) → (n : ℕ) → IsSome (lines_below line n)
lines_there line each zero = refl
lines_there line each (suc n) = both_there (lines_below line n) (line n) (lines_there line each n) (each n)

-- where the demand of each leaf is there, so is each node's line
nodes_there : (kind : Kind) (at : ℕ → Option Demand) (plan : Pattern) → ((d : ℕ) → 1 ≤ count_of plan.tree d → IsSome (at d)) → IsSome (node_lines kind at plan)
nodes_there kind at plan there = lines_there (line_of kind at plan) each (node_count plan.tree)
  where
    each : (n : ℕ) → IsSome (line_of kind at plan n)
    each n =
        let step = step_of plan n in
        some_map _ (node_text kind step step.what (demand_for at step.what))
        (text_there kind step at step.what (λ d turned is. there d (step_counted plan.tree 0 0 plan.w plan.h plan.kerf n n d turned is)))

ticket_there : (m : Content) (job : Job) → IsOnPart m job → ((d : ℕ) → 1 ≤ count_of job.plan.tree d → IsSome (demand_at m d))
    → IsSome (ticket_on_part m job (part_at m job.part) (material_of m (part_at m job.part)))
ticket_there m job on there =
    subst (λ o. IsSome (ticket_on_part m job o (material_of m o))) (sym on.found)
    (subst (λ (o : Option Material). IsSome (ticket_on_part m job (Some on.row) o)) (sym on.known)
    (some_map _ (node_lines on.material.kind (demand_at m) job.plan) (nodes_there on.material.kind (demand_at m) job.plan there)))

-- ---- so nothing contradicts itself

no_contradiction : (o : Option (List ℕ)) → IsSome o → or_contradiction o ≢ Err StoreFault
no_contradiction None some e = absurd (cc some)
no_contradiction (Some text) some e = cc e

pub ticket_reported : (texts : Texts) (m : Content) (number : ℕ) → IsWellFormed texts m → ticket_of m number ≢ Err StoreFault
ticket_reported texts m number well_formed = by (job_at m number) refl
  where
    by : (o : Option Job) → job_at m number ≡ o → ticket_found m o ≢ Err StoreFault
    by None is = λ e. cc e
    by (Some job) is =
        let row = well_formed.jobs number job is in
        no_contradiction (ticket_on_part m job (part_at m job.part) (material_of m (part_at m job.part))) (ticket_there m job row.on row.demands)

pub report_response : (m : Content) (code : List ℕ) → yield_of m code ≢ Err StoreFault
report_response m code = by (material_at m code)
  where
    by : (o : Option Material) → yield_found m code o ≢ Err StoreFault
    by None e = cc e
    by (Some material) e = cc e

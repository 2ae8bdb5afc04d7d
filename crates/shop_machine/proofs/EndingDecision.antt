-- A job's end from the rows that were found.
use Rattle.std.proofs.Common.{◌≡◌, ◌+◌, ◌≤◌, ◌<◌, ◌^◌, ℕ, Bool, true, false, List, map, get_or, All, [], ◌∷◌, sym, ap, subst, ◌∙◌, arith}
use Rattle.std.specs.Prelude.{Option, Some, None, not, IfSome, MatchOption}
use Rattle.cut_measure.specs.Measures.{CutParams}
use Rattle.cut_tree.specs.declared.lay.Row.{Row}
use Rattle.cut_tree.specs.declared.halts.Stop.{Stop}
use Rattle.cut_tree.specs.Tree.{Tree, count_of}
use Rattle.shop_records.specs.declared.changes.Change.{Change}
use Rattle.shop_records.specs.declared.messages.Reply.{Reply}
use Rattle.shop_records.specs.declared.records.State.TheVariants.{Cut}
use Rattle.shop_records.specs.declared.records.JobState.{JobState}
use Rattle.shop_records.specs.declared.records.Material.{Material}
use Rattle.shop_records.specs.declared.records.Job.{Job}
use Rattle.shop_records.specs.declared.records.JobHalt.{JobHalt}
use Rattle.shop_records.specs.declared.records.Part.{Part}
use Rattle.shop_records.specs.declared.records.Demand.{Demand}
use Rattle.shop_records.specs.declared.records.Totals.{Totals}
use Rattle.shop_machine.specs.Moving.{tally, moved_totals}
use Rattle.shop_records.specs.declared.refusals.Refusal.TheVariants.{StoreFault, BadCut, JobOver}
use Rattle.shop_records.specs.Columns.{is_waiting}
use Rattle.shop_machine.specs.Decisions.{first_of, no_change}
use Rattle.shop_machine.specs.Ending.{job_refusal, can_end, rests, row_part, ended_state, ended_reply, kept_halt, end_change}
use Rattle.shop_machine.specs.declared.recounts.FoundLeaf.{FoundLeaf}
use Rattle.shop_machine.specs.Recounts.{HasRow, CanBeMade, pieces_in}
use Rattle.shop_records.specs.Content.{in_state}

-- a waiting job, by whether its rows are there
pub job_test : (stop : Stop) (j : Job) (part : Part) (material : Material) (at : ℕ → Option Demand) (totals : Totals) (b : Bool) → is_waiting j.state ≡ true → can_end j.plan stop ≡ true
    → rests j (Some part) (Some material) at totals ≡ b → job_refusal stop (Some j) (Some part) (Some material) at totals ≡ first_of ((not b, StoreFault) ∷ [])
job_test stop j part material at totals b waits can there =
    ap (λ w. first_of ((not w, JobOver) ∷ (not (can_end j.plan stop), BadCut) ∷ (not (rests j (Some part) (Some material) at totals), StoreFault) ∷ [])) waits
    ∙ ap (λ c. first_of ((not c, BadCut) ∷ (not (rests j (Some part) (Some material) at totals), StoreFault) ∷ [])) can ∙ ap (λ r. first_of ((not r, StoreFault) ∷ [])) there

-- what holds of a job with the rows on which it rested, of the rows that were found
pub worked : (stop : Stop) (E : Job → Part → CutParams → Type 0) (found : Option Job) (on : Option Part) (of : Option Material) (at : ℕ → Option Demand) (totals : Totals) (j : Job) (part : Part) (params : CutParams)
    → found ≡ Some j → on ≡ Some part → IfSome of (λ m. m.limits ≡ params) → job_refusal stop found on of at totals ≡ None → E j part params
    → MatchOption found ⊥ (λ j. MatchOption on ⊥ (λ p. MatchOption of ⊥ (λ m. E j p m.limits)))
worked stop E found on None at totals j part params is_j is_p is_m allowed it = absurd (not_allowed found on j part is_j is_p allowed)
  where
    by : (b c : Bool) → first_of ((b, JobOver) ∷ (c, BadCut) ∷ (true, StoreFault) ∷ []) ≡ None → ⊥
    by true c e = cc
    by false true e = cc
    by false false e = cc

    not_allowed : (found : Option Job) (on : Option Part) (j : Job) (part : Part) → found ≡ Some j → on ≡ Some part → job_refusal stop found on None at totals ≡ None → ⊥
    not_allowed found on j part is_j is_p allowed =
        by (not (is_waiting j.state)) (not (can_end j.plan stop))
        (subst (λ (o : Option Part). job_refusal stop (Some j) o None at totals ≡ None) is_p (subst (λ (o : Option Job). job_refusal stop o on None at totals ≡ None) is_j allowed))
worked stop E found on (Some m) at totals j part params is_j is_p is_m allowed it =
    subst (λ (o : Option Job). MatchOption o ⊥ (λ j. MatchOption on ⊥ (λ p. E j p m.limits))) (sym is_j)
    (subst (λ (o : Option Part). MatchOption o ⊥ (λ p. E j p m.limits)) (sym is_p) (subst (λ (r : CutParams). E j part r) (sym is_m) it))

-- the change of a job that ended so, from its parts and their cells
pub end_made : (stop : Stop) (j : Job) (part : Part) (params : CutParams) (t : Totals) (laid : List Row) (rows : List Demand) (parts : List Part) (incoming moved : Totals) (answer : Reply) (state : JobState) (halt : Option JobHalt)
    (base : Change) → base ≡ no_change answer → state ≡ ended_state stop → halt ≡ kept_halt stop j.act → parts ≡ map (row_part part params j.act) laid → incoming ≡ tally (map (row_part part params j.act) laid)
    → moved ≡ moved_totals part incoming t → answer ≡ ended_reply stop j.act incoming
    → record base {
      parts = parts;
      moved = Some (in_state (Cut j.act) part);
      job = Some (record j { state = state });
      halt = halt;
      demands = rows;
      totals = Some (record { material = part.material; totals = moved });
    } ≡ end_change stop j part params t laid rows
end_made stop j part params t laid rows parts incoming moved answer state halt base e s h f c m g =
    let made = map (row_part part params j.act) laid in
    let reported : answer ≡ ended_reply stop j.act (tally made) = g ∙ ap (ended_reply stop j.act) c in
    let sums : moved ≡ moved_totals part (tally made) t = m ∙ ap (λ (incoming : Totals). moved_totals part incoming t) c in
    λ i.
    record (((e ∙ ap no_change reported) i)) {
      parts = f i;
      moved = Some (in_state (Cut j.act) part);
      job = Some (record j { state = s i });
      halt = h i;
      demands = rows;
      totals = Some (record { material = part.material; totals = sums i });
    }

-- where no more is laid than all pieces, what is laid can be made
pub in_limit_laid : (laid : List Row) (tree : Tree) (leaves : List FoundLeaf) → ((d : ℕ) → pieces_in d laid ≤ count_of tree d) → All (HasRow CanBeMade tree) leaves
    → All (HasRow (λ n demand. (n ≤ demand.reserved) × (demand.made + pieces_in demand.number laid < 2 ^ 32)) tree) leaves
in_limit_laid laid tree leaves few all k d within = by (get_or leaves k d) (get_or leaves k d).demand (all k d within)
  where
    by : (f : FoundLeaf) (o : Option Demand) → MatchOption o ⊥ (λ demand. (demand.number ≡ f.leaf.demand) × CanBeMade (count_of tree f.leaf.demand) demand)
        → MatchOption o ⊥ (λ demand. (demand.number ≡ f.leaf.demand) × ((count_of tree f.leaf.demand ≤ demand.reserved) × (demand.made + pieces_in demand.number laid < 2 ^ 32)))
    by f None has = absurd has
    by f (Some demand) has =
        let own : count_of tree demand.number ≡ count_of tree f.leaf.demand = ap (count_of tree) has.0 in
        let less = few demand.number in
        let in_limit : demand.made + count_of tree f.leaf.demand < 2 ^ 32 = has.1.1 in
        (has.0, (has.1.0, omega (arith, own, less, in_limit)))

-- what can be made can be freed
pub in_limit_freed : (tree : Tree) (leaves : List FoundLeaf) → All (HasRow CanBeMade tree) leaves → All (HasRow (λ n demand. n ≤ demand.reserved) tree) leaves
in_limit_freed tree leaves all k d within = by (get_or leaves k d) (get_or leaves k d).demand (all k d within)
  where
    by : (f : FoundLeaf) (o : Option Demand) → MatchOption o ⊥ (λ demand. (demand.number ≡ f.leaf.demand) × CanBeMade (count_of tree f.leaf.demand) demand)
        → MatchOption o ⊥ (λ demand. (demand.number ≡ f.leaf.demand) × (count_of tree f.leaf.demand ≤ demand.reserved))
    by f None has = absurd has
    by f (Some demand) has = (has.0, has.1.0)

-- What holds of each history and the content that it gives.
use Rattle.std.proofs.Common.{◌≡◌, ℕ, ◌+◌, ◌≤◌, ◌<◌, true≢false, List, [], ◌∷◌, ◌++◌, map, length, true, false, nat_eq, sym, ap, ◌∙◌, arith, inl, inr}
use Rattle.std.specs.Prelude.{Some, if◌then◌else◌, ◌&&◌}
use Rattle.std.specs.FinMap.{FinMap, get}
use Rattle.std.specs.Ordering.{nat_cmp}
use Rattle.cut_measure.specs.Names.{Name, name_cmp}
use Rattle.cut_measure.specs.Measures.{Size, below}
use Rattle.shop_records.specs.declared.records.Material.{Material}
use Rattle.shop_records.specs.declared.records.Part.{Part}
use Rattle.shop_records.specs.declared.records.State.{State}
use Rattle.shop_records.specs.declared.records.State.TheVariants.{Standing, Cut, Undone}
use Rattle.shop_records.specs.declared.records.Job.{Job}
use Rattle.shop_records.specs.Columns.{is_free, is_waiting}
use Rattle.shop_records.specs.Content.{Content, material_at, part_at, job_at, in_state}
use Rattle.shop_machine.specs.Machine.{Effect, Receives}
use Rattle.shop_machine.specs.History.{ReceivedUnit, acts_in, acts_of, units_in, units_of, material_by, unit_material, material_params, Reservation, job_of, Owner, stands_as, owner_before, is_gone, IsOwner, EachCellIsOwned, ordered_lines}
use Rattle.shop_records.specs.Elements.{IsIn}
use Rattle.shop_records.proofs.Basics.{nat_cases, name_cases, in_append, in_later, in_map}
use Rattle.shop_machine.proofs.OrderedLines.{AskFor}

-- ---- what effects say

-- before the end of a job, this part had the cell, and stood
pub record WasOwner (effects : List Effect) (job : ℕ) (p : Part) (x y : ℕ) : Type 0 where
  pub owner : Owner
  pub found : owner_before effects job p.root x y ≡ Some owner
  pub same : IsOwner owner x y (in_state Standing p)

-- before the end of the job that cut it, a part had each of its cells
abbrev pub HadItsCells : List Effect → Part → Type 0
HadItsCells effects p =
    (job x y : ℕ) → p.state ≡ Cut job → p.x ≤ x → x < p.x + p.size.w → p.y ≤ y → y < p.y + p.size.h → WasOwner effects job p x y

-- no part of a kind is cut
pub never_cut : (effects : List Effect) (p : Part) → is_gone p.state ≡ false → HadItsCells effects p
never_cut effects p whole job x y cut = absurd (true≢false (ap is_gone (sym cut) ∙ whole))

-- a part came from a received unit and lies inside it
pub record IsRow (effects : List Effect) (p : Part) : Type 0 where
  pub unit : ReceivedUnit
  pub received : IsIn unit (units_of effects)
  pub root : unit.name ≡ p.root
  pub material : unit.material ≡ p.material
  pub across : p.x + p.size.w ≤ unit.size.w
  pub down : p.y + p.size.h ≤ unit.size.h
  pub cut : HadItsCells effects p

-- the row of a unit under its own name, cut or not
pub record IsWhole (parts : FinMap name_cmp Part) (unit : ReceivedUnit) : Type 0 where
  pub row : Part
  pub kept : get parts unit.name ≡ Some row
  pub root : row.root ≡ unit.name
  pub x : row.x ≡ 0
  pub y : row.y ≡ 0
  pub size : row.size ≡ unit.size

abbrev pub reservation : Job → Reservation
reservation job = record { part = job.part; tree = job.plan.tree }

-- a job is there, and doesn't wait
pub record IsOver (jobs : FinMap nat_cmp Job) (number : ℕ) : Type 0 where
  pub job : Job
  pub found : get jobs number ≡ Some job
  pub over : is_waiting job.state ≡ false

-- the content's rows are what the effects say of them
pub record Follows (effects : List Effect) (content : Content) : Type 0 where
  pub acts : content.last_act ≡ acts_of effects
  pub numbers : content.last_demand ≡ length (ordered_lines effects)
  pub lines : AskFor (ordered_lines effects) content.demands
  pub params : (code : List ℕ) (m : Material) → material_at content code ≡ Some m → material_params effects code ≡ Some m.limits
  pub rows : (n : Name) (p : Part) → part_at content n ≡ Some p → IsRow effects p
  pub jobs : (number : ℕ) (job : Job) → job_at content number ≡ Some job → job_of effects number ≡ Some (reservation job)
  pub wholes : (unit : ReceivedUnit) → IsIn unit (units_of effects) → IsWhole content.parts unit
  pub cells : EachCellIsOwned effects content
  pub over : (n : Name) (p : Part) (job : ℕ) → part_at content n ≡ Some p → p.state ≡ Cut job → IsOver content.jobs job

-- ---- units

abbrev pub unit_of : List ℕ → List ℕ → Size → ℕ → ℕ → ReceivedUnit
unit_of material batch size act i = record { name = record { act = act; node = i }; material = material; batch = batch; size = size }

unit_acts_by : (earlier : List Effect) (done : Effect) → ((u : ReceivedUnit) → IsIn u (units_of earlier) → u.name.act ≤ acts_of earlier)
    → (u : ReceivedUnit) → IsIn u (units_in (acts_of earlier + 1) done ++ units_of earlier) → u.name.act ≤ acts_of earlier + acts_in done
unit_acts_by earlier (Receives material batch size count) before u i =
    elim (in_append u (map (unit_of material batch size (acts_of earlier + 1)) (below count)) (units_of earlier) i) [
      | inl k ↦ (
          let s = in_map (unit_of material batch size (acts_of earlier + 1)) (below count) u k in
          let e : u.name.act ≡ acts_of earlier + 1 = ap (λ (v : ReceivedUnit). v.name.act) s.2 in omega arith)
      | inr k ↦ (let h : u.name.act ≤ acts_of earlier = before u k in omega arith)
    ]
unit_acts_by earlier _ before u i = let h : u.name.act ≤ acts_of earlier = before u i in omega arith

pub unit_acts : (effects : List Effect) (u : ReceivedUnit) → IsIn u (units_of effects) → u.name.act ≤ acts_of effects
unit_acts [] u i = absurd i
unit_acts (done ∷ earlier) u i = unit_acts_by earlier done (unit_acts earlier) u i

pub if_yes : {X : Type 0} (m n : ℕ) (a b : X) → m ≡ n → (if nat_eq m n then a else b) ≡ a
if_yes m n a b e = elim (nat_cases m n) [ inl y ↦ ap (λ t. if t then a else b) y.1 | inr off ↦ absurd (off.0 e) ]

pub if_no : {X : Type 0} (m n : ℕ) (a b : X) → (m ≡ n → ⊥) → (if nat_eq m n then a else b) ≡ b
if_no m n a b e = elim (nat_cases m n) [ inl y ↦ absurd (e y.0) | inr off ↦ ap (λ t. if t then a else b) off.1 ]

unit_material_by : (earlier : List Effect) (done : Effect) → ((u : ReceivedUnit) → IsIn u (units_of earlier) → unit_material earlier u.name ≡ u.material)
    → (u : ReceivedUnit) → IsIn u (units_in (acts_of earlier + 1) done ++ units_of earlier)
    → material_by done (acts_of earlier + 1) u.name (unit_material earlier u.name) ≡ u.material
unit_material_by earlier (Receives material batch size count) before u i =
    elim (in_append u (map (unit_of material batch size (acts_of earlier + 1)) (below count)) (units_of earlier) i) [
      | inl k ↦ (
          let s = in_map (unit_of material batch size (acts_of earlier + 1)) (below count) u k in
          if_yes u.name.act (acts_of earlier + 1) material (unit_material earlier u.name) (ap (λ (v : ReceivedUnit). v.name.act) s.2) ∙ ap (λ (v : ReceivedUnit). v.material) (sym s.2))
      | inr k ↦ (
          let h : u.name.act ≤ acts_of earlier = unit_acts earlier u k in
          if_no u.name.act (acts_of earlier + 1) material (unit_material earlier u.name) (λ e. absurd (omega arith)) ∙ before u k)
    ]
unit_material_by earlier _ before u i = before u i

pub material_is : (effects : List Effect) (u : ReceivedUnit) → IsIn u (units_of effects) → unit_material effects u.name ≡ u.material
material_is [] u i = absurd i
material_is (done ∷ earlier) u i = unit_material_by earlier done (material_is earlier) u i

-- what is done doesn't end the job that cut a part
abbrev pub EndsNot : Effect → List Effect → Part → Type 0
EndsNot done earlier p =
    (job x y : ℕ) → p.state ≡ Cut job → owner_before (done ∷ earlier) job p.root x y ≡ owner_before earlier job p.root x y

pub row_later : (done : Effect) (earlier : List Effect) (p : Part) → EndsNot done earlier p → IsRow earlier p → IsRow (done ∷ earlier) p
row_later done earlier p ends_not r = record {
  unit = r.unit;
  received = in_later r.unit (units_in (acts_of earlier + 1) done) (units_of earlier) r.received;
  root = r.root;
  material = r.material;
  across = r.across;
  down = r.down;
  cut = λ job x y is left right top bottom.
      let was = r.cut job x y is left right top bottom in
      record { owner = was.owner; found = ends_not job x y is ∙ was.found; same = was.same };
}

pub row_restated : (effects : List Effect) (p : Part) (s : State) → is_gone s ≡ false → IsRow effects p → IsRow effects (in_state s p)
row_restated effects p s whole r = record {
  unit = r.unit;
  received = r.received;
  root = r.root;
  material = r.material;
  across = r.across;
  down = r.down;
  cut = never_cut effects (in_state s p) whole;
}

pub undone_cut : (a b : ℕ) → Undone a ≡ Cut b → ⊥
undone_cut a b e = cc

pub row_undone : (effects : List Effect) (p : Part) (job : ℕ) → IsRow effects p → IsRow effects (in_state (Undone job) p)
row_undone effects p job r = record {
  unit = r.unit;
  received = r.received;
  root = r.root;
  material = r.material;
  across = r.across;
  down = r.down;
  cut = λ by x y cut left right top bottom. absurd (undone_cut job by cut);
}

pub stands_yes : (p : Name) (w : Owner) → w.name ≡ p → w.state ≡ Standing → stands_as p w ≡ true
stands_yes p w e s =
    elim (name_cases w.name p) [
      | inl y ↦ ap (λ b. b && is_free w.state) y.1 ∙ ap is_free s
      | inr n ↦ absurd (n.0 e)
    ]

pub stands_no : (p : Name) (w : Owner) → (w.name ≡ p → ⊥) → stands_as p w ≡ false
stands_no p w e =
    elim (name_cases w.name p) [
      | inl y ↦ absurd (e y.0)
      | inr n ↦ ap (λ b. b && is_free w.state) n.1
    ]

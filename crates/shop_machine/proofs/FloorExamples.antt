-- Further lines, notes, begun jobs and undone ones on small examples.
use Rattle.std.proofs.Common.{◌≡◌, ℕ, List, [], ◌∷◌, true, false, refl}
use Rattle.std.specs.Prelude.{Option, Some, None, codes}
use Rattle.cut_measure.specs.declared.sizes.Kind.TheVariants.{Bar}
use Rattle.cut_tree.specs.declared.halts.Halt.TheVariants.{First}
use Rattle.cut_tree.specs.declared.halts.Stop.TheVariants as stop
use Rattle.cut_tree.specs.Tree.{Cut, Piece, Rest}
use Rattle.cut_tree.specs.Patterns.{Pattern}
use Rattle.cut_measure.specs.declared.sizes.Axis.TheVariants.{X}
use Rattle.shop_files.specs.declared.orders.OrderLine.{OrderLine}
use Rattle.shop_records.specs.declared.records.Material.{Material}
use Rattle.shop_records.specs.declared.records.Demand.{Demand}
use Rattle.shop_records.specs.declared.records.Job.{Job}
use Rattle.shop_records.specs.declared.records.JobState.{JobState}
use Rattle.shop_records.specs.declared.records.JobState.TheVariants as job
use Rattle.shop_records.specs.declared.refusals.Refusal.TheVariants.{NoMaterial, BadLine, NoOrder, BadNote, NoJob, JobOver}
use Rattle.shop_records.specs.declared.messages.Command.TheVariants.{AddMaterial, AddOrder, Note, Extend, Begin}
use Rattle.shop_records.specs.Readings.{unread}
use Rattle.shop_machine.specs.Noting.{note_refusal}
use Rattle.shop_machine.specs.Extending.{extend_refusal}
use Rattle.shop_machine.specs.Beginning.{begin_refusal}
use Rattle.shop_machine.specs.Ending.{can_end}
use Rattle.shop_machine.specs.Undoing.{stop_of}
use Rattle.shop_machine.specs.History.{Entry, effects_of, acts_of, ordered_lines, nth_line}

-- ---- further lines

abbrev bar_line : ℕ → ℕ → OrderLine
bar_line number w = record { line = number; material = codes "STEEL"; w = w; h = 1; count = 5; worth = 10; turn = false }

-- an order of one line, another one, a further line of the first, and words that ask for none
extended : List Entry
extended =
    record { message = record { terminal = 1; number = 6; command = Begin 1 }; read = unread }
    ∷ record { message = record { terminal = 1; number = 5; command = Note (codes "A-1") 20261203 (codes "edges ground") }; read = unread }
    ∷ record { message = record { terminal = 1; number = 4; command = Extend (codes "A-1") (bar_line 5 40 ∷ []) }; read = unread }
    ∷ record { message = record { terminal = 1; number = 3; command = AddOrder (codes "A-2") (bar_line 1 20 ∷ []) }; read = unread }
    ∷ record { message = record { terminal = 1; number = 2; command = AddOrder (codes "A-1") (bar_line 4 10 ∷ []) }; read = unread }
    ∷ record { message = record { terminal = 1; number = 1; command = AddMaterial (codes "STEEL") Bar 3 20 1 }; read = unread } ∷ []

no_act : acts_of (effects_of extended) ≡ 0
unfolding extended
no_act = refl

first_line : nth_line 1 (ordered_lines (effects_of extended)) ≡ Some (record { order = codes "A-1"; line = bar_line 4 10 })
unfolding extended
first_line = refl

line_of_the_other : nth_line 2 (ordered_lines (effects_of extended)) ≡ Some (record { order = codes "A-2"; line = bar_line 1 20 })
unfolding extended
line_of_the_other = refl

further_line : nth_line 3 (ordered_lines (effects_of extended)) ≡ Some (record { order = codes "A-1"; line = bar_line 5 40 })
unfolding extended
further_line = refl

no_more_lines : nth_line 4 (ordered_lines (effects_of extended)) ≡ None
unfolding extended
no_more_lines = refl

abbrev steel : List ℕ → Option Material
steel code = Some (record { code = codes "STEEL"; kind = Bar; limits = record { kerf = 3; min_long = 20; min_short = 1 } })

abbrev none_known : List ℕ → Option Material
none_known code = None

abbrev with_line : ℕ → Demand
with_line number =
    record { number = 7; order = codes "A-1"; line = number; material = codes "STEEL"; size = record { w = 20; h = 1 }; may_turn = false; worth = 10; wanted = 5; reserved = 0; made = 0 }

behind_the_last : extend_refusal true steel (with_line 4 ∷ with_line 2 ∷ []) (bar_line 5 40 ∷ []) 9 ≡ None
behind_the_last = refl

not_behind_the_last : extend_refusal true steel (with_line 4 ∷ with_line 2 ∷ []) (bar_line 4 40 ∷ []) 9 ≡ Some BadLine
not_behind_the_last = refl

no_line : extend_refusal true steel [] [] 9 ≡ Some BadLine
no_line = refl

of_no_order : extend_refusal false none_known [] [] 9 ≡ Some NoOrder
of_no_order = refl

of_no_material : extend_refusal true none_known [] (bar_line 1 40 ∷ []) 9 ≡ Some NoMaterial
of_no_material = refl

-- ---- notes

on_a_day : note_refusal true 20261203 [] ≡ None
on_a_day = refl

on_no_day : note_refusal true 20260229 [] ≡ Some BadNote
on_no_day = refl

note_of_no_order : note_refusal false 20260229 [] ≡ Some NoOrder
note_of_no_order = refl

-- ---- jobs

abbrev bar_plan : Pattern
bar_plan = record { tree = Cut X 40 (Piece 1 false) Rest; w = 100; h = 1; kerf = 3 }

abbrev a_job : JobState → Job
a_job s = record { act = 2; part = record { act = 1; node = 0 }; kerf = 3; plan = bar_plan; state = s }

waiting_begins : begin_refusal (Some (a_job job.Waiting)) ≡ None
waiting_begins = refl

undone_is_over : begin_refusal (Some (a_job job.Undone)) ≡ Some JobOver
undone_is_over = refl

no_job_begins : begin_refusal None ≡ Some NoJob
no_job_begins = refl

-- a rest needs a lost cut, and is some of the side that the cut was to divide
rest_of_the_lost : can_end bar_plan (stop.Saved (First 0 true) 99) ≡ true
rest_of_the_lost = refl

all_of_the_side : can_end bar_plan (stop.Saved (First 0 true) 100) ≡ false
all_of_the_side = refl

none_of_the_side : can_end bar_plan (stop.Saved (First 0 true) 0) ≡ false
none_of_the_side = refl

nothing_lost : can_end bar_plan (stop.Saved (First 1 false) 10) ≡ false
nothing_lost = refl

-- how the work on a job ended
was_done : stop_of (a_job job.Done) job.Done None ≡ Some stop.All
was_done = refl

was_broken : stop_of (a_job job.Broken) job.Broken (Some (record { job = 2; halt = First 0 true; rest = Some 30 })) ≡ Some (stop.Saved (First 0 true) 30)
was_broken = refl

-- of one that was broken before its halt was kept that isn't known, nor of one that is undone already
not_kept : stop_of (a_job job.Broken) job.Broken None ≡ None
not_kept = refl

undone_already : stop_of (a_job job.Undone) job.Undone None ≡ None
undone_already = refl

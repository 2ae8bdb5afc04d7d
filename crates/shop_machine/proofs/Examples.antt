-- The definitions on small examples: STEEL comes in bars, GLASS in sheets.
use Rattle.std.proofs.Common.{◌≡◌, ℕ, List, [], ◌∷◌, true, false, refl, arith}
use Rattle.std.specs.Prelude.{Option, Some, None, codes}
use Rattle.cut_measure.specs.Measures.{cells_of}
use Rattle.cut_measure.specs.declared.sizes.Kind.TheVariants.{Bar, Sheet}
use Rattle.cut_measure.specs.declared.sizes.Axis.TheVariants.{X, Y}
use Rattle.cut_measure.specs.Names.{Name}
use Rattle.cut_tree.specs.Tree.{Tree, Piece, Rest, Cut}
use Rattle.cut_tree.specs.Cells.{location_of}
use Rattle.cut_tree.specs.declared.halts.Halt.TheVariants.{First}
use Rattle.shop_records.specs.declared.records.State.{State}
use Rattle.shop_records.specs.declared.records.State.TheVariants as state
use Rattle.shop_records.specs.declared.records.Material.{Material}
use Rattle.shop_records.specs.declared.records.Demand.{Demand}
use Rattle.shop_records.specs.declared.refusals.Refusal.TheVariants.{NoMaterial, BadSize, BadCount, TooMuch, NumbersSpent, MaterialExists, BadMaterial, BadLine, NoDemand, TooMany}
use Rattle.shop_records.specs.declared.messages.Command.TheVariants.{AddMaterial, Receive, AddOrder, Reserve, Done, Break, Undo, Amend}
use Rattle.shop_files.specs.declared.orders.OrderLine.{OrderLine}
use Rattle.shop_records.specs.declared.records.Column.TheVariants as column
use Rattle.shop_records.specs.Readings.{unread, Plan}
use Rattle.shop_machine.specs.Receiving.{receive_refusal, received_totals}
use Rattle.shop_machine.specs.Adding.{material_refusal}
use Rattle.shop_machine.specs.Amending.{amend_refusal}
use Rattle.shop_machine.specs.History.{Entry, effects_of, Owner, acts_of, owner_of, cells_of_column, ordered_lines, nth_line, IsAccountOf}
use Rattle.shop_records.specs.Messages.{Texts}
use Rattle.shop_records.specs.Content.{Content, demand_at, no_totals}
use Rattle.shop_records.specs.declared.records.Totals.{Totals}
use Rattle.shop_records.specs.WellFormed.{reserved_in, made_in}

steel : Material
steel = record { code = codes "STEEL"; kind = Bar; limits = record { kerf = 3; min_long = 20; min_short = 1 } }

glass : Material
glass = record { code = codes "GLASS"; kind = Sheet; limits = record { kerf = 1; min_long = 5; min_short = 4 } }

-- the totals of units that all stand
abbrev had : ℕ → Totals
had n = received_totals n no_totals

-- sizes and counts at their limits
bar_in_range : receive_refusal (Some steel) (had 0) 1 200000 1 1 ≡ None
unfolding steel
bar_in_range = refl

bar_too_long : receive_refusal (Some steel) (had 0) 1 200001 1 1 ≡ Some BadSize
unfolding steel
bar_too_long = refl

sheet_in_range : receive_refusal (Some glass) (had 0) 1 1 60000 100 ≡ None
unfolding glass
sheet_in_range = refl

sheet_too_high : receive_refusal (Some glass) (had 0) 1 1 60001 1 ≡ Some BadSize
unfolding glass
sheet_too_high = refl

too_many : receive_refusal (Some steel) (had 0) 1 100 1 101 ≡ Some BadCount
unfolding steel
too_many = refl

none_counted : receive_refusal (Some steel) (had 0) 1 100 1 0 ≡ Some BadCount
unfolding steel
none_counted = refl

-- the last cell of a material, and the last act number
last_cell : receive_refusal (Some steel) (had 999999999999999) 1 1 1 1 ≡ None
unfolding steel
last_cell = refl

one_cell_over : receive_refusal (Some steel) (had 999999999999999) 1 1 1 2 ≡ Some TooMuch
unfolding steel
one_cell_over = refl

numbers_spent : receive_refusal (Some steel) (had 0) 2147483648 1 1 1 ≡ Some NumbersSpent
unfolding steel
numbers_spent = refl

unknown : receive_refusal None (had 0) 1 100 1 1 ≡ Some NoMaterial
unknown = refl

-- the order of the refusals
bad_before_known : material_refusal (Some steel) Bar (record { kerf = 201; min_long = 20; min_short = 1 }) ≡ Some BadMaterial
unfolding steel
bad_before_known = refl

known_with_others : material_refusal (Some steel) Bar (record { kerf = 4; min_long = 20; min_short = 1 }) ≡ Some MaterialExists
unfolding steel
known_with_others = refl

known_with_equals : material_refusal (Some steel) Bar (record { kerf = 3; min_long = 20; min_short = 1 }) ≡ None
unfolding steel
known_with_equals = refl

-- two bars of three cells: a receipt after the material was added
two_bars : List Entry
two_bars =
    record { message = record { terminal = 1; number = 2; command = Receive (codes "STEEL") (codes "B-1") 3 1 2 }; read = unread }
    ∷ record { message = record { terminal = 1; number = 1; command = AddMaterial (codes "STEEL") Bar 3 20 1 }; read = unread } ∷ []

one_act : acts_of (effects_of two_bars) ≡ 1
unfolding two_bars
one_act = refl

six_received : cells_of_column column.Received (effects_of two_bars) (codes "STEEL") ≡ 6
unfolding two_bars cells_of
six_received = refl

all_in_stock : cells_of_column column.Stock (effects_of two_bars) (codes "STEEL") ≡ 6
unfolding two_bars cells_of
all_in_stock = refl

none_on_the_rack : cells_of_column column.Rack (effects_of two_bars) (codes "STEEL") ≡ 0
unfolding two_bars cells_of
none_on_the_rack = refl

-- an order of one line, and then one of two: their demands are 1, 2 and 3
abbrev bar_line : ℕ → ℕ → OrderLine
bar_line number w = record { line = number; material = codes "STEEL"; w = w; h = 1; count = 5; worth = 10; turn = false }

two_orders : List Entry
two_orders =
    record { message = record { terminal = 1; number = 3; command = AddOrder (codes "A-2") (bar_line 1 20 ∷ bar_line 7 30 ∷ []) }; read = unread }
    ∷ record { message = record { terminal = 1; number = 2; command = AddOrder (codes "A-1") (bar_line 4 10 ∷ []) }; read = unread }
    ∷ record { message = record { terminal = 1; number = 1; command = AddMaterial (codes "STEEL") Bar 3 20 1 }; read = unread } ∷ []

no_act : acts_of (effects_of two_orders) ≡ 0
unfolding two_orders
no_act = refl

first_line : nth_line 1 (ordered_lines (effects_of two_orders)) ≡ Some (record { order = codes "A-1"; line = bar_line 4 10 })
unfolding two_orders
first_line = refl

second_line : nth_line 2 (ordered_lines (effects_of two_orders)) ≡ Some (record { order = codes "A-2"; line = bar_line 1 20 })
unfolding two_orders
second_line = refl

-- the second demand is amended, and then amended again: the last number counts, and the other lines stay
amended_twice : List Entry
amended_twice =
    record { message = record { terminal = 1; number = 5; command = Amend 2 0 }; read = unread }
    ∷ record { message = record { terminal = 1; number = 4; command = Amend 2 9 }; read = unread } ∷ two_orders

amended_line : nth_line 2 (ordered_lines (effects_of amended_twice)) ≡ Some (record { order = codes "A-2"; line = record (bar_line 1 20) { count = 0 } })
unfolding amended_twice two_orders
amended_line = refl

line_before_it : nth_line 1 (ordered_lines (effects_of amended_twice)) ≡ nth_line 1 (ordered_lines (effects_of two_orders))
unfolding amended_twice two_orders
line_before_it = refl

line_after_it : nth_line 3 (ordered_lines (effects_of amended_twice)) ≡ nth_line 3 (ordered_lines (effects_of two_orders))
unfolding amended_twice two_orders
line_after_it = refl

-- as many as are reserved and made may be wanted, and as many as a line may ask for
abbrev half_made : Demand
half_made = record { number = 1; order = codes "A-1"; line = 1; material = codes "STEEL"; size = record { w = 20; h = 1 }; may_turn = false; worth = 10; wanted = 5; reserved = 1; made = 2 }

enough_wanted : amend_refusal (Some half_made) 3 ≡ None
enough_wanted = refl

fewer_wanted : amend_refusal (Some half_made) 2 ≡ Some TooMany
fewer_wanted = refl

most_wanted : amend_refusal (Some half_made) 1000000 ≡ None
most_wanted = refl

more_wanted : amend_refusal (Some half_made) 1000001 ≡ Some BadLine
more_wanted = refl

of_no_demand : amend_refusal None 1000001 ≡ Some NoDemand
of_no_demand = refl

module _ (texts : Texts) (content : Content) (account : IsAccountOf texts two_orders content) where
  third_demand : demand_at content 3 ≡ Some (record {
    number = 3;
    order = codes "A-2";
    line = 7;
    material = codes "STEEL";
    size = record { w = 30; h = 1 };
    may_turn = false;
    worth = 10;
    wanted = 5;
    reserved = reserved_in 3 content;
    made = made_in 3 content;
  })
  unfolding two_orders
  third_demand = account.lines 3

  no_fourth_demand : demand_at content 4 ≡ None
  unfolding two_orders
  no_fourth_demand = account.lines 4

  no_demand_of_zero : demand_at content 0 ≡ None
  no_demand_of_zero = account.lines 0

  last_is_third : content.last_demand ≡ 3
  unfolding two_orders
  last_is_third = account.last_demand

  -- a machine that skips a number after each order has no account
  none_is_skipped : content.last_demand ≡ 5 → ⊥
  none_is_skipped e = let last = last_is_third in omega (arith, last, e)

-- Two pieces of a sheet of 10 by 8, and then one of what was left of it: whose its cells are.
sheet_tree : Tree
sheet_tree = Cut X 4 (Cut Y 3 (Piece 1 false) (Piece 2 false)) Rest

rest_tree : Tree
rest_tree = Cut Y 3 (Piece 3 false) Rest

two_pieces : List Entry
two_pieces =
    record { message = record { terminal = 1; number = 5; command = Done 2 }; read = unread }
    ∷ record { message = record { terminal = 1; number = 4; command = Reserve (record { act = 1; node = 0 }) (codes "x4 y3 p1 p2 r") }; read = Plan (record { tree = sheet_tree; w = 10; h = 8; kerf = 1 }) }
    ∷ record { message = record { terminal = 1; number = 3; command = AddOrder (codes "A-1") [] }; read = unread }
    ∷ record { message = record { terminal = 1; number = 2; command = Receive (codes "GLASS") (codes "B-1") 10 8 1 }; read = unread }
    ∷ record { message = record { terminal = 1; number = 1; command = AddMaterial (codes "GLASS") Sheet 1 5 4 }; read = unread } ∷ []

remnant_cut : List Entry
remnant_cut =
    record { message = record { terminal = 1; number = 8; command = Done 3 }; read = unread }
    ∷ record { message = record { terminal = 1; number = 7; command = Reserve (record { act = 2; node = 4 }) (codes "y3 p3 r") }; read = Plan (record { tree = rest_tree; w = 5; h = 8; kerf = 1 }) }
    ∷ two_pieces

abbrev sheet : Name
sheet = record { act = 1; node = 0 }

abbrev is_there : State → ℕ → ℕ → ℕ → ℕ → ℕ → ℕ → Option Owner
is_there state act node w h x y = Some (record { state = state; name = record { act = act; node = node }; size = record { w = w; h = h }; x = x; y = y })

first_piece : owner_of (effects_of two_pieces) sheet 3 2 ≡ is_there (state.Piece 1) 2 2 4 3 3 2
unfolding two_pieces sheet_tree location_of
first_piece = refl

upright_kerf : owner_of (effects_of two_pieces) sheet 4 7 ≡ is_there state.Kerf 2 0 1 8 0 7
unfolding two_pieces sheet_tree location_of
upright_kerf = refl

-- its short side is over the limit, and its long side too
kept_rest : owner_of (effects_of two_pieces) sheet 6 1 ≡ is_there state.Standing 2 4 5 8 1 1
unfolding two_pieces sheet_tree location_of
kept_rest = refl

piece_of_the_remnant : owner_of (effects_of remnant_cut) sheet 6 1 ≡ is_there (state.Piece 3) 3 1 5 3 1 1
unfolding remnant_cut two_pieces sheet_tree rest_tree location_of
piece_of_the_remnant = refl

-- sides that equal the limits are kept
rest_of_the_remnant : owner_of (effects_of remnant_cut) sheet 5 4 ≡ is_there state.Standing 3 2 5 4 0 0
unfolding remnant_cut two_pieces sheet_tree rest_tree location_of
rest_of_the_remnant = refl

-- what the first job made stays
still_a_piece : owner_of (effects_of remnant_cut) sheet 3 2 ≡ is_there (state.Piece 1) 2 2 4 3 3 2
unfolding remnant_cut two_pieces sheet_tree rest_tree location_of
still_a_piece = refl

-- The cut of the remnant is taken back, and then the sheet's: each time the cells are owned as before.
remnant_undone : List Entry
remnant_undone = record { message = record { terminal = 1; number = 9; command = Undo 3 }; read = unread } ∷ remnant_cut

both_undone : List Entry
both_undone = record { message = record { terminal = 1; number = 10; command = Undo 2 }; read = unread } ∷ remnant_undone

remnant_stands : owner_of (effects_of remnant_undone) sheet 6 1 ≡ is_there state.Standing 2 4 5 8 1 1
unfolding remnant_undone remnant_cut two_pieces sheet_tree rest_tree location_of
remnant_stands = refl

-- what the other job made stays
piece_stays : owner_of (effects_of remnant_undone) sheet 3 2 ≡ is_there (state.Piece 1) 2 2 4 3 3 2
unfolding remnant_undone remnant_cut two_pieces sheet_tree rest_tree location_of
piece_stays = refl

sheet_stands : owner_of (effects_of both_undone) sheet 6 1 ≡ is_there state.Standing 1 0 10 8 6 1
unfolding both_undone remnant_undone remnant_cut two_pieces sheet_tree rest_tree location_of
sheet_stands = refl

no_kerf_left : owner_of (effects_of both_undone) sheet 4 7 ≡ is_there state.Standing 1 0 10 8 4 7
unfolding both_undone remnant_undone remnant_cut two_pieces sheet_tree rest_tree location_of
no_kerf_left = refl

-- The first cut of the sheet goes wrong, and five columns are left: they stand under the next node, and what is before them
-- is lost.
first_cut_lost : Option ℕ → List Entry
first_cut_lost rest =
    record { message = record { terminal = 1; number = 5; command = Break 2 (First 0 true) rest }; read = unread }
    ∷ record { message = record { terminal = 1; number = 4; command = Reserve (record { act = 1; node = 0 }) (codes "x4 y3 p1 p2 r") }; read = Plan (record { tree = sheet_tree; w = 10; h = 8; kerf = 1 }) }
    ∷ record { message = record { terminal = 1; number = 2; command = Receive (codes "GLASS") (codes "B-1") 10 8 1 }; read = unread }
    ∷ record { message = record { terminal = 1; number = 1; command = AddMaterial (codes "GLASS") Sheet 1 5 4 }; read = unread } ∷ []

rest_is_kept : owner_of (effects_of (first_cut_lost (Some 5))) sheet 6 1 ≡ is_there state.Standing 2 1 5 8 1 1
unfolding first_cut_lost sheet_tree location_of
rest_is_kept = refl

last_lost_column : owner_of (effects_of (first_cut_lost (Some 5))) sheet 4 2 ≡ is_there state.Scrap 2 0 5 8 4 2
unfolding first_cut_lost sheet_tree location_of
last_lost_column = refl

-- without a rest all is lost
all_lost : owner_of (effects_of (first_cut_lost None)) sheet 6 1 ≡ is_there state.Scrap 2 0 10 8 6 1
unfolding first_cut_lost sheet_tree location_of
all_lost = refl

-- The routes, and which of them a target takes.
use Rattle.std.specs.Prelude.{ℕ, Bool, true, false, List, [], ◌∷◌, ◌==◌, Option, Result, Ok, Err, codes, option_map, length, drop}
use Rattle.std.specs.List.{before_first}
use Rattle.matchit.specs.Rows.{RowsOf}
use Rattle.matchit.specs.Order.{placed}
use Rattle.matchit.specs.Route.{Scan, parse_route}
use Rattle.matchit.specs.Router.{RouteOf, route_from}
use Rattle.matchit.specs.Seek.{first}
use Rattle.matchit.specs.declared.error.InsertError.{InsertError}
use Rattle.shop_request.specs.declared.routes.Route.{Route}
use Rattle.shop_request.specs.declared.routes.Route.TheVariants.{Message, Plan, Plans, Bound, Backup, Totals, Rack, Trace, Demand, Ticket, Yield, Materials, Parts, PartsAfter, Demands, DemandsOf, Orders, OrdersAfter, OrderLines, Jobs, Job, Terminal, Shop, History, OrderStory, JobStory, PartStory, OrderPieces, OrderPiecesAfter, BatchPieces, BatchPiecesAfter, UnitPieces, UnitPiecesAfter, Steps}

-- the text of each route
abbrev pub route_text : Route → List ℕ
route_text Message = codes "/message"
route_text Plan = codes "/plan"
route_text Plans = codes "/plans"
route_text Bound = codes "/bound"
route_text Backup = codes "/backup"
route_text Totals = codes "/totals/{material}"
route_text Rack = codes "/rack/{material}"
route_text Trace = codes "/trace/{act}/{node}"
route_text Demand = codes "/demand/{demand}"
route_text Ticket = codes "/ticket/{job}"
route_text Yield = codes "/yield/{material}"
route_text Materials = codes "/materials"
route_text Parts = codes "/parts/{material}"
route_text PartsAfter = codes "/parts/{material}/{act}/{node}"
route_text Demands = codes "/demands/{after}"
route_text DemandsOf = codes "/demands/{after}/{material}"
route_text Orders = codes "/orders"
route_text OrdersAfter = codes "/orders/{order}"
route_text OrderLines = codes "/order/{order}"
route_text Jobs = codes "/jobs/{after}"
route_text Job = codes "/job/{job}"
route_text Terminal = codes "/terminal/{terminal}"
route_text Shop = codes "/shop"
route_text History = codes "/history/{after}"
route_text OrderStory = codes "/story/order/{order}/{after}"
route_text JobStory = codes "/story/job/{job}/{after}"
route_text PartStory = codes "/story/part/{act}/{node}/{after}"
route_text OrderPieces = codes "/pieces/order/{order}"
route_text OrderPiecesAfter = codes "/pieces/order/{order}/{act}/{node}"
route_text BatchPieces = codes "/pieces/batch/{batch}"
route_text BatchPiecesAfter = codes "/pieces/batch/{batch}/{act}/{node}"
route_text UnitPieces = codes "/pieces/unit/{act}/{node}"
route_text UnitPiecesAfter = codes "/pieces/unit/{act}/{node}/{after_act}/{after_node}"
route_text Steps = codes "/steps/{job}"

-- the bytes in front of its first parameter
abbrev pub route_start : Route → List ℕ
route_start route = before_first (λ b. b == 123) (route_text route)

-- whether it takes a body
abbrev pub takes_body : Route → Bool
takes_body Message = true
takes_body Plan = true
takes_body Plans = true
takes_body Bound = true
takes_body Backup = true
takes_body _ = false

abbrev pub RouteRows : Type 0
RouteRows = RowsOf (RouteOf Route)

-- the rows with one more route
abbrev pub with_scan : Result Scan InsertError → Route → RouteRows → RouteRows
with_scan (Ok s) route rows = placed (s.pattern, route_from s route) rows
with_scan (Err e) route rows = rows

unfoldable pub with_route : Route → RouteRows → RouteRows
with_route route rows = with_scan (parse_route (route_text route)) route rows

-- the rows with these routes in turn
abbrev pub with_routes : List Route → RouteRows → RouteRows
with_routes [] rows = rows
with_routes (route ∷ more) rows = with_routes more (with_route route rows)

-- all routes, as `matchit` keeps them
unfoldable pub all_routes : RouteRows
all_routes =
    with_routes (Message ∷ Plan ∷ Plans ∷ Bound ∷ Backup ∷ Totals ∷ Rack ∷ Trace ∷ Demand ∷ Ticket ∷ Yield ∷ Materials ∷ Parts ∷ PartsAfter ∷ Demands
    ∷ DemandsOf ∷ Orders ∷ OrdersAfter ∷ OrderLines ∷ Jobs ∷ Job ∷ Terminal ∷ Shop ∷ History ∷ OrderStory ∷ JobStory ∷ PartStory
    ∷ OrderPieces ∷ OrderPiecesAfter ∷ BatchPieces ∷ BatchPiecesAfter ∷ UnitPieces ∷ UnitPiecesAfter ∷ Steps ∷ []) []

-- the target up to its first `?`
abbrev pub path_of : List ℕ → List ℕ
path_of target = before_first (λ b. b == 63) target

-- the route that a path takes, by `matchit`
abbrev pub route_of : List ℕ → Option Route
route_of path = option_map (λ r. r.value) (first all_routes path)

-- what the path says beside its route
abbrev pub part_of : Route → List ℕ → List ℕ
part_of route path = drop (length (route_start route)) path

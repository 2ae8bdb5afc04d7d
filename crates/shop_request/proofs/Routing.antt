-- A route that was added.
use Rattle.std.proofs.Common.{◌≡◌, ℕ, List, Result, Ok, Err, subst, inl, inr}
use Rattle.std.specs.Prelude.{OnOk}
use Rattle.matchit.specs.Route.{Scan, parse_route}
use Rattle.matchit.specs.Router.{InsertsRead}
use Rattle.matchit.specs.declared.error.InsertError.{InsertError}
use Rattle.shop_request.specs.declared.routes.Route.{Route}
use Rattle.shop_request.specs.Routes.{RouteRows, route_text, with_scan, with_route}

module _ (route : Route) (old new : RouteRows) where
  by_scan : (u : Unit {0}) (s : Result Scan InsertError) → InsertsRead s route old new (Ok u) → new ≡ with_scan s route old
  by_scan u (Ok s) h = h.1
  by_scan u (Err e) (same, inl bad) = absurd (cc bad)
  by_scan u (Err e) (same, inr bad) = absurd (cc bad)

  pub inserted : (text : List ℕ) (r : Result (Unit {0}) InsertError) → text ≡ route_text route → InsertsRead (parse_route text) route old new r → OnOk r (new ≡ with_route route old)
  unfolding with_route
  inserted text (Ok u) is h = by_scan u (parse_route (route_text route)) (subst (λ t. InsertsRead (parse_route t) route old new (Ok u)) is h)
  inserted text (Err e) is h = tt

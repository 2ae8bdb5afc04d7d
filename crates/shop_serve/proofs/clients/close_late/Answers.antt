use Rattle.std.proofs.Common.{◌≡◌, rules, refl}
use Rattle.shop_serve.specs.Clients.{is_unanswered}
use Rattle.shop_serve.proofs.Slots.{closes-late, late-fewer}
use Rattle.shop_serve.proofs.clients.close_late.Goals as goal

pub returns-clause-late : goal.returns-clause-late
returns-clause-late g c = closes-late _ c.args.now (λ f. f.0.now ≡ c.args.now) (λ f key shown keep left next at called. search rules) _ c.args.clients.now c.retain.new.self refl c.retain.ensures.retained

pub returns-clause-fewer : goal.returns-clause-fewer
returns-clause-fewer g c = late-fewer is_unanswered refl c.args.now c.args.clients.now c.retain.new.self
    (closes-late _ c.args.now (λ f. f.0.now ≡ c.args.now) (λ f key shown keep left next at called. search rules) _ c.args.clients.now c.retain.new.self refl c.retain.ensures.retained)

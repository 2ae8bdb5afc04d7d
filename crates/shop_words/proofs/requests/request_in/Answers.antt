use Rattle.shop_words.proofs.requests.request_in.Goals as goal

pub returns-in-Plan : goal.returns-in-Plan
returns-in-Plan c = rw c.in-Plan.is c.plan_request.ensures

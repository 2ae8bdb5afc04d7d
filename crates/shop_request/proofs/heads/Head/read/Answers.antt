use Rattle.std.proofs.Common.{subst}
use Rattle.shop_request.specs.Reading.{IsFound}
use Rattle.shop_request.proofs.heads.Head.read.Goals as goal

pub returns : goal.returns
returns c =
    record {
      slots = c.parse_prefix-parsed.auto.headers;
      found = subst (λ f. IsFound f c.parse_prefix-parsed.new.headers c.found_in-found.result) c.prefix_of-prefix.ensures c.found_in-found.ensures;
    }

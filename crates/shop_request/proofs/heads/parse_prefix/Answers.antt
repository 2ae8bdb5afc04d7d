use Rattle.std.proofs.Common.{ap, Err, length}
use Rattle.shop_request.proofs.Prefix.{refused_prefix}
use Rattle.shop_request.proofs.heads.parse_prefix.Goals as goal

pub returns-in-Err : goal.returns-in-Err
returns-in-Err c =
    refused_prefix c.args.prefix.now (length c.args.headers.now) c.requires c.in-Err.error c.head_fault.result c.head_fault.ensures c.in-Err.ensures.invalid (λ is. c.in-Err.ensures.too_many (ap Err is)) c.in-Err.ensures.no_room

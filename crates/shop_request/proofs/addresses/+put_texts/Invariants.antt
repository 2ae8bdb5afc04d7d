use Rattle.std.proofs.Common.{length}
use Rattle.shop_request.proofs.addresses.+put_texts.Given as goal

abbrev pub decreases-put_texts : goal.decreases-put_texts
decreases-put_texts l = length l.texts.now

-- The text that is printed of an answer.
use Rattle.std.proofs.Common.{◌≡◌}
use Rattle.json.specs.Print.{print}
use Rattle.json.specs.Tree.{json_tokens}
use Rattle.serde_json.specs.Written.{outline}
use Rattle.serde_json.proofs.Texts.{print-outline}
use Rattle.shop_plans.specs.declared.answers.PlansReply.{PlansReply}
use Rattle.shop_plans.specs.Reported.{plans_data, plans_text}

pub plans_text_printed : (reply : PlansReply) → print (json_tokens (outline (plans_data reply))) ≡ plans_text reply
unfolding plans_text
plans_text_printed reply = print-outline (plans_data reply)

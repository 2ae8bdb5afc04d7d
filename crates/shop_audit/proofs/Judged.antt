-- A content that is the same as one that a history gives is whole.
use Rattle.std.proofs.Common.{◌≡◌, subst, sym}
use Rattle.shop_records.specs.Messages.{Texts}
use Rattle.shop_records.specs.Content.{Content}
use Rattle.shop_machine.proofs.Newest.{all_entered}
use Rattle.shop_audit.specs.Whole.{IsGiven, IsWhole}

pub whole_of : (texts : Texts) (m c : Content) → IsGiven texts c → m ≡ c → IsWhole texts m
whole_of texts m c given same =
    subst (IsWhole texts) (sym same) (record { history = given.history; gives = given.gives; entries = all_entered texts given.history c given.gives })

-- The greatest message ID of a terminal, in the order of message IDs.
use Rattle.std.proofs.Common.{◌≡◌, ℕ, ◌<◌, ◌≤◌, arith, false, refl, sym, ap, ◌∙◌, true≢false}
use Rattle.std.specs.declared.cmp.Ordering.{Ordering}
use Rattle.std.specs.declared.cmp.Ordering.TheVariants.{Less, Equal, Greater}
use Rattle.std.specs.Ordering.{is_lt, nat_cmp, ordering_then}
use Rattle.std.specs.Cmp.{nat_cmp_is, ranked}
use Rattle.shop_records.specs.Content.{message_id_cmp}
use Rattle.shop_records.specs.declared.texts.MessageId.{MessageId}

-- of one terminal the message ID that isn't below another has no smaller number
pub no_less : (last message_id : MessageId) → last.terminal ≡ message_id.terminal → is_lt (message_id_cmp last message_id) ≡ false → message_id.number ≤ last.number
no_less last message_id same above =
    by_order (nat_cmp last.number message_id.number) refl (sym (ap (λ r. is_lt (ordering_then r (nat_cmp last.number message_id.number))) (sym (nat_cmp_is last.terminal message_id.terminal Equal same))) ∙ above)
  where
    by_order : (r : Ordering) → nat_cmp last.number message_id.number ≡ r → is_lt r ≡ false → message_id.number ≤ last.number
    by_order Less e fails = absurd (true≢false fails)
    by_order Equal e fails = let same : last.number ≡ message_id.number = ranked last.number message_id.number Equal (sym e) in omega arith
    by_order Greater e fails = let more : message_id.number < last.number = ranked last.number message_id.number Greater (sym e) in omega arith

-- a message ID of a smaller terminal is below
pub lower : (last message_id : MessageId) → last.terminal < message_id.terminal → message_id_cmp last message_id ≡ Less
lower last message_id lt = ap (λ r. ordering_then r (nat_cmp last.number message_id.number)) (sym (nat_cmp_is last.terminal message_id.terminal Less lt))

-- what is below the first message ID of a terminal is of a smaller one
pub below_first : (last : MessageId) (terminal : ℕ) → message_id_cmp last (record { terminal = terminal; number = 0 }) ≡ Less → last.terminal < terminal
below_first last terminal lt = by_order (nat_cmp last.terminal terminal) refl lt
  where
    by_order : (r : Ordering) → nat_cmp last.terminal terminal ≡ r → ordering_then r (nat_cmp last.number 0) ≡ Less → last.terminal < terminal
    by_order Less e _ = ranked last.terminal terminal Less (sym e)
    by_order Equal e is = absurd (let none : last.number < 0 = ranked last.number 0 Less (sym is) in omega arith)
    by_order Greater e is = absurd (true≢false (sym (ap is_lt is)))

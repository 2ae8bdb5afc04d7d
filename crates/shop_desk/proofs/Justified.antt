-- Failures that are counted over several replies.
use Rattle.std.proofs.Common.{◌≡◌, ℕ, ◌+◌, List, [], ◌∷◌, ◌++◌, Option, Some, None, inl, inr, refl, sym, subst, arith}
use Rattle.std.specs.Prelude.{Bool, true, false, nat_lt, if◌then◌else◌, MatchOption}
use Rattle.std.proofs.lemmas.Bool.Decides.{nat_tests}
use Rattle.shop_book.specs.declared.books.TheConstants.{MAX_FAILURES}
use Rattle.shop_book.specs.Failures.{one_more_failure}
use Rattle.shop_records.specs.declared.refusals.Refusal.{Refusal}
use Rattle.shop_records.specs.declared.refusals.Refusal.TheVariants.{StoreFault}
use Rattle.shop_records.specs.declared.messages.Reply.{Reply}
use Rattle.shop_records.specs.declared.messages.Reply.TheVariants.{Refused}
use Rattle.shop_records.specs.Messages.{refusal_in}
use Rattle.shop_desk.specs.Faults.{StoreFailed, ReportOfFailures, CountsUp, CountsRefusal, CountsReply, CountsOrContradicts}

pub up_same : (a b : ℕ) → b ≡ a → CountsUp a b
up_same a b is = inl is

up_one : (a b : ℕ) → b ≡ one_more_failure a → CountsUp a b
up_one a b is = by (nat_lt a MAX_FAILURES) refl is
  where
    by : (below : Bool) → nat_lt a MAX_FAILURES ≡ below → b ≡ (if below then a + 1 else MAX_FAILURES) → CountsUp a b
    by true e is = inr (inl (omega (arith, is), grind (arith, nat_tests)))
    by false e is = inr (inr is)

up_refusal : (a b : ℕ) (refusal : Refusal) → CountsRefusal refusal a b → CountsUp a b
up_refusal a b StoreFault is = up_one a b is
up_refusal a b _ is = inl is

-- what goes with a reply
pub up_reply : (a b : ℕ) (answer : Reply) → CountsReply answer a b → CountsUp a b
up_reply a b answer counts = by (refusal_in answer) counts
  where
    by : (o : Option Refusal) → MatchOption o (b ≡ a) (λ refusal. CountsRefusal refusal a b) → CountsUp a b
    by None is = inl is
    by (Some refusal) is = up_refusal a b refusal is

pub up_answer : (a b : ℕ) (answer : Reply) → CountsOrContradicts answer a b → CountsUp a b
up_answer a b answer (inl counts) = up_reply a b answer counts
up_answer a b answer (inr rows) = inl rows.1

pub up_more : (a b c : ℕ) → CountsUp a b → CountsUp b c → CountsUp a c
up_more a b c (inl is) next = subst (λ n. CountsUp n c) is next
up_more a b c (inr before) (inl is) = subst (CountsUp a) (sym is) (inr before)
up_more a b c (inr (inl p)) (inr (inl q)) = inr (inl (omega (arith, p.0, q.0), q.1))
up_more a b c (inr (inr is)) (inr (inl q)) = absurd (omega (arith, is, q.0, q.1))
up_more a b c (inr before) (inr (inr is)) = inr (inr is)

-- a store that failed first, or at last
pub failed_first : (a b c : ℕ) → StoreFailed a b → CountsUp b c → StoreFailed a c
failed_first a b c failed (inl is) = subst (StoreFailed a) (sym is) failed
failed_first a b c (inl rose) (inr (inl q)) = inl (omega (arith, rose, q.0))
failed_first a b c (inr is) (inr (inl q)) = absurd (omega (arith, is, q.0, q.1))
failed_first a b c failed (inr (inr is)) = inr is

pub failed_last : (a b c : ℕ) → CountsUp a b → StoreFailed b c → CountsUp b c → StoreFailed a c
failed_last a b c (inl is) failed next = subst (λ n. StoreFailed n c) is failed
failed_last a b c (inr (inl p)) (inl rose) next = inl (omega (arith, p.0, rose))
failed_last a b c (inr (inr is)) (inl rose) (inl same) = absurd (omega (arith, same, rose))
failed_last a b c (inr (inr is)) (inl rose) (inr (inl q)) = absurd (omega (arith, is, q.0, q.1))
failed_last a b c (inr (inr is)) (inl rose) (inr (inr end)) = inr end
failed_last a b c (inr before) (inr is) next = inr is

-- replies, and then more of them
pub report_more : (a b c : ℕ) (answers more : List Reply) → CountsUp a b → CountsUp b c → ReportOfFailures answers a b → ReportOfFailures more b c → ReportOfFailures (answers ++ more) a c
report_more a b c [] more up next first second is = failed_last a b c up (second is) next
report_more a b c (r ∷ rs) more up next first second (inl is) = failed_first a b c (first (inl is)) next
report_more a b c (r ∷ rs) more up next first second (inr is) = report_more a b c rs more up next (λ i. first (inr i)) second is

-- one reply
pub report_one : (a b : ℕ) (answer : Reply) → (answer ≡ Refused StoreFault → StoreFailed a b) → ReportOfFailures (answer ∷ []) a b
report_one a b answer store_fault_justified (inl is) = store_fault_justified (sym is)
report_one a b answer store_fault_justified (inr is) = absurd is

-- Where the work on jobs halted is the same in two contents, of which a history gave the one.
use Rattle.std.proofs.Common.{◌≡◌, ◌<◌, ◌+◌, ◌⊎◌, ℕ, Bool, true, false, ltb, refl, subst, sym, arith, inl, inr}
use Rattle.std.proofs.lemmas.Bool.{ltb-false, ltb-true}
use Rattle.std.specs.Cmp.{nat_cmp_total}
use Rattle.std.specs.FinMap.{len, nat_cmp-IsAntisymmetric}
use Rattle.shop_records.specs.Content.{Content}
use Rattle.shop_records.specs.Messages.{Texts}
use Rattle.shop_records.specs.WellFormed.{IsWellFormed}
use Rattle.shop_audit.specs.Compared.{HaltAlikeBelow, HaveSameHalts, IsHaltAlike}
use Rattle.shop_audit.proofs.Within.{Within, as_many_within}

below_or_same : (n k : ℕ) → n < k + 1 → (n < k) ⊎ (n ≡ k)
below_or_same n k less = by (ltb n k) refl
  where
    by : (b : Bool) → ltb n k ≡ b → (n < k) ⊎ (n ≡ k)
    by true e = inl (ltb-true n k e)
    by false e = let more = ltb-false n k e in inr (omega (arith, more, less))

-- so of one number more
pub one_more : (m c : Content) (k : ℕ) → HaltAlikeBelow m c k → IsHaltAlike m c k → HaltAlikeBelow m c (k + 1)
one_more m c k before one n least less =
    elim (below_or_same n k less) [
      | inl below ↦ before n least below
      | inr same ↦ subst (IsHaltAlike m c) (sym same) one
    ]

pub halts_same : (texts : Texts) (m c : Content) → IsWellFormed texts c → len m.halts ≡ len c.halts → HaveSameHalts m c → m.halts ≡ c.halts
halts_same texts m c well_formed many alike =
    let within : Within c.halts m.halts = λ number row is.
    let halted = well_formed.halts number row is in
    let job = well_formed.jobs number halted.job halted.found in
    let so_far = job.so_far in
    alike number job.least (omega (arith, so_far)) row is in
    as_many_within nat_cmp_total nat_cmp-IsAntisymmetric (len c.halts) c.halts m.halts refl many within

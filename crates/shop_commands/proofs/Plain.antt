-- After a fault's line stands one line.
use Rattle.std.proofs.Common.{◌≡◌, ◌++◌, ◌∙◌, ℕ, false, List, inl, inr, refl, sym, subst, ap₂}
use Rattle.std.specs.Prelude.{◌==◌, ◌||◌, codes, string_bytes}
use Rattle.std.proofs.lemmas.List.Folds.{list_any-append}
use Rattle.shop_files.specs.declared.problems.TextCause.{TextCause}
use Rattle.shop_files.specs.declared.problems.TextCause.TheVariants as text
use Rattle.shop_records.specs.declared.refusals.Refusal.{Refusal}
use Rattle.shop_records.specs.declared.refusals.Refusal.TheVariants as refusal
use Rattle.shop_advice.specs.Causes.{backup_text, file_text, store_text, version_text, shop_text}
use Rattle.shop_advice.specs.declared.causes.FileCause.{FileCause}
use Rattle.shop_advice.specs.declared.causes.FileCause.TheVariants as file
use Rattle.shop_advice.specs.declared.causes.StoreCause.{StoreCause}
use Rattle.shop_advice.specs.declared.causes.StoreCause.TheVariants as store
use Rattle.shop_advice.specs.declared.causes.VersionCause.{VersionCause}
use Rattle.shop_advice.specs.declared.causes.VersionCause.TheVariants as version
use Rattle.shop_advice.specs.declared.causes.BackupCause.{BackupCause}
use Rattle.shop_advice.specs.declared.causes.BackupCause.TheVariants as backup
use Rattle.shop_advice.specs.declared.causes.ShopCause.{ShopCause}
use Rattle.shop_advice.specs.declared.causes.ShopCause.TheVariants as shop
use Rattle.shop_serve.specs.declared.ports.PortCause.{PortCause}
use Rattle.shop_serve.specs.declared.ports.PortCause.TheVariants as port
use Rattle.shop_commands.specs.declared.advice.Advice.{Advice}
use Rattle.shop_commands.specs.declared.advice.Cause.{Cause}
use Rattle.shop_commands.specs.declared.advice.Cause.TheVariants as cause
use Rattle.shop_commands.specs.declared.faults.Fault.{Fault}
use Rattle.shop_commands.specs.Advice.{IsPlain, IsAdviceOf, FollowsFault, IsSecondLine, advice_line, is_order, no_memory_line, problem_text, refused_text, port_text, cause_text, joint}

-- ---- no text of a cause has a line feed

of_file : (c : FileCause) → IsPlain (file_text c)
of_file file.Missing = refl
of_file _ = refl

of_store : (c : StoreCause) → IsPlain (store_text c)
of_store store.NoFolder = refl
of_store _ = refl

of_version : (c : VersionCause) → IsPlain (version_text c)
of_version version.Newer = refl
of_version _ = refl

of_backup : (c : BackupCause) → IsPlain (backup_text c)
of_backup backup.NoFolder = refl
of_backup _ = refl

of_shop : (c : ShopCause) → IsPlain (shop_text c)
of_shop shop.Long = refl
of_shop _ = refl

of_problem : (c : TextCause) → IsPlain (problem_text c)
of_problem text.Long = refl
of_problem _ = refl

of_port : (c : PortCause) → IsPlain (port_text c)
of_port port.InUse = refl
of_port _ = refl

of_refusal : (c : Refusal) → IsPlain (refused_text c)
of_refusal refusal.BadMessage = refl
of_refusal _ = refl

of_cause : (c : Cause) → IsPlain (cause_text c)
of_cause (cause.File c) = of_file c
of_cause (cause.Problem c) = of_problem c
of_cause (cause.Shop c) = of_shop c
of_cause (cause.Refused r) = of_refusal r
of_cause (cause.Store c) = of_store c
of_cause (cause.Version c) = of_version c
of_cause (cause.Port c) = of_port c
of_cause (cause.Backup c) = of_backup c
of_cause _ = refl

-- nor has what stands before it
of_joint : (c : Cause) → IsPlain (joint c)
of_joint cause.Before = refl
of_joint _ = refl

-- ---- the line

joined : (xs ys : List ℕ) → IsPlain xs → IsPlain ys → IsPlain (xs ++ ys)
joined xs ys x y = list_any-append (λ b. b == 10) xs ys ∙ ap₂ (λ a b. a || b) x y

of_advice : (a : Advice) (fault : Fault) → IsAdviceOf fault a → IsSecondLine (advice_line a)
of_advice a fault of =
    let about = string_bytes a.about in
    let why = cause_text a.cause in
    let word = string_bytes a.word in
    let joint_of = joint a.cause in
    let named = joined about joint_of of.about (of_joint a.cause) in
    let reported = joined (about ++ joint_of) why named (of_cause a.cause) in
    (about ++ joint_of ++ why ++ word, joined (about ++ joint_of ++ why) word reported of.word, refl)

no_memory : IsSecondLine no_memory_line
no_memory = (codes "memory ran out; end other programs, or give this one more", refl, refl)

pub second : (fault : Fault) (line : List ℕ) → is_order fault ≡ false → FollowsFault fault line → IsSecondLine line
second fault line other (inl order) = absurd (cc (sym order.0 ∙ other))
second fault line other (inr (_, inl is)) = subst IsSecondLine (sym is) no_memory
second fault line other (inr (_, inr (a, of, is))) = subst IsSecondLine (sym is) (of_advice a fault of)

-- What the faults of the commands on a store come to.
use Rattle.std.proofs.Common.{◌≡◌, ℕ, suc, List, [], ◌∷◌, length, Option, Ok, Err, inl, inr, refl, ap, subst}
use Rattle.std.specs.Prelude.{Result, OnOk, IfErr}
use Rattle.shop_records.specs.Content.{Content}
use Rattle.shop_records.specs.declared.refusals.Refusal.{Refusal}
use Rattle.shop_opening.specs.Shops.{ShopFailed}
use Rattle.shop_opening.specs.declared.shops.AddFault.{AddFault}
use Rattle.shop_opening.specs.declared.shops.AddFault.TheVariants as add
use Rattle.shop_files.specs.declared.shops.MaterialEntry.{MaterialEntry}
use Rattle.shop_files.specs.Shops.{AreEntries}
use Rattle.shop_serve.specs.Serving.{IsUnserved, most_served}
use Rattle.shop_serve.specs.declared.sites.Site.{Site}
use Rattle.shop_serve.specs.declared.faults.ServeFault.{ServeFault}
use Rattle.shop_serve.specs.declared.faults.ServeFault.TheVariants as serve
use Rattle.shop_book.specs.declared.books.Book.{Ghosts}
use Rattle.shop_opening.specs.declared.stores.OpenFault.{OpenFault}
use Rattle.shop_text.specs.declared.printing.PrintFault.{PrintFault}
use Rattle.shop_text.specs.declared.printing.PrintFault.TheVariants as print
use Rattle.shop_commands.specs.declared.faults.Fault.{Fault}
use Rattle.shop_commands.specs.Faults.{add_fault, print_fault, serve_fault}
use Rattle.shop_commands.specs.Stored.{AddFailed, IsUnaccepted, IsTextDone, IsTextStopped, Prints}
use Rattle.shop_commands.specs.Sinks.{SinkChange}

-- what is said of a result that is known
pub of_ok : (A : Type 0) (result : Result (Unit {0}) Fault) → result ≡ Ok tt → OnOk result A → A
of_ok A result is said = subst (λ (r : Result _ Fault). OnOk r A) is said

pub of_err : (P : Fault → Type 0) (result : Result (Unit {0}) Fault) (fault : Fault) → result ≡ Err fault → IfErr result P → P fault
of_err P result fault is said = subst (λ (r : Result _ Fault). IfErr r P) is said

-- each entry is one of the list
pub entries_short : (list : List _) (entries : List MaterialEntry) → AreEntries list entries → length entries ≡ length list
entries_short [] [] are = refl
entries_short [] (e ∷ es) are = absurd are
entries_short (v ∷ vs) [] are = absurd are
entries_short (v ∷ vs) (e ∷ es) are = ap suc (entries_short vs es are.1)

module _ {B : Type 0} (book : Ghosts B) where
  pub unadded : (before after : B) (entries : List MaterialEntry) (fault : AddFault) (f : Fault) → f ≡ add_fault fault → ShopFailed book before after entries fault → AddFailed book before after entries f
  unadded before after entries add.NoMemory f is unshopped = inl (is, unshopped)
  unadded before after entries (add.Refused e) f is unshopped = inr (e, is, unshopped)

  pub unaccepted : (site : Site) (before after : B) (limit : Option ℕ) (fault : ServeFault) (f : Fault) → f ≡ serve_fault fault → IsUnserved site book before after (most_served limit) fault → IsUnaccepted book site before after limit f
  unaccepted site before after limit serve.NoMemory f is unserved = inl (is, unserved)
  unaccepted site before after limit serve.Port f is unserved = inr (inl is, unserved)
  unaccepted site before after limit serve.Moved f is unserved = inr (inr is, unserved)

  module _ (gives : Result B OpenFault → Type 0) (said : Content → Result (List ℕ) Refusal) (before after : B) (out : SinkChange) (given : gives (Ok before)) where
    pub text_done : (result : Result (Unit {0}) PrintFault) → Prints book before after said out result → result ≡ Ok tt → IsTextDone book gives said out
    text_done result prints is =
        let done = subst (Prints book before after said out) is prints in
        record { before = before; after = after; given = given; printed = done.printed; keeps = done.keeps }

    stopped : (fault : PrintFault) (f : Fault) → Prints book before after said out (Err fault) → f ≡ print_fault fault → IsTextStopped book gives said f out
    stopped (print.Refused r) f prints is =
        inr (inl (r, is, record { before = before; after = after; given = given; printed = prints.printed; keeps = prints.keeps }, prints.refused r refl))
    stopped print.Write f prints is =
        inr (inr (is, record { before = before; after = after; given = given; printed = prints.printed; keeps = prints.keeps }, prints.write refl))

    pub text_stopped : (result : Result (Unit {0}) PrintFault) → Prints book before after said out result → (fault : PrintFault) (f : Fault) → result ≡ Err fault
        → f ≡ print_fault fault → IsTextStopped book gives said f out
    text_stopped result prints fault f is reported = stopped fault f (subst (Prints book before after said out) is prints) reported

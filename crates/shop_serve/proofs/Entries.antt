-- How many entries a book has, as it is asked.
use Rattle.std.proofs.Common.{◌≡◌, ℕ, inl, refl, subst, sym}
use Rattle.std.specs.Prelude.{Option, None, Result, Ok, Err}
use Rattle.shop_book.specs.Failures.{CountsFailure}
use Rattle.shop_book.specs.Kept.{Unchanged}
use Rattle.shop_book.specs.declared.books.Book.{Ghosts}
use Rattle.shop_book.specs.declared.books.BookFault.{BookFault}
use Rattle.shop_book.specs.declared.books.BookFault.TheVariants.{NoMemory, Store, WrongVersion}
use Rattle.shop_desk.proofs.Justified.{up_reply}
use Rattle.shop_desk.specs.Faults.{CountsUp}
use Rattle.shop_records.specs.declared.messages.Reply.TheVariants.{Refused}
use Rattle.shop_records.specs.declared.refusals.Refusal.TheVariants.{StoreFault}
use Rattle.shop_serve.specs.Serving.{IsCounted}

-- a reading counts a failure at most
up_failure : {T : Type 0} (result : Result T BookFault) (a b : ℕ) → CountsFailure result a b → CountsUp a b
up_failure (Ok x) a b is = inl is
up_failure (Err NoMemory) a b is = inl is
up_failure (Err Store) a b is = up_reply a b (Refused StoreFault) is
up_failure (Err WrongVersion) a b is = absurd is

module _ {B : Type 0} (book : Ghosts B) where
  pub looked_at : {T : Type 0} (result : Result T BookFault) (before after : B) → Unchanged book (CountsFailure result) before after → Unchanged book CountsUp before after
  looked_at result before after keeps =
      record {
        clean_disk = keeps.clean_disk;
        stays = keeps.stays;
        crash = keeps.crash;
        failures = up_failure result (book.failed before) (book.failed after) keeps.failures;
      }

  -- it wasn't asked, or has no answer
  pub unasked : (here : B) → IsCounted book here here None
  unasked here = (
    record { clean_disk = λ clean. clean; stays = λ clean m held. held; crash = λ clean m held left it. it; failures = inl refl },
    λ clean m held. tt,
  )

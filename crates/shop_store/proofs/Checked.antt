-- What is known of a connection is known of it as the book's, or as the one that is handed back.
use Rattle.std.proofs.Common.{Ok, Err, Result, refl}
use Rattle.std.specs.Prelude.{IfOk, IfErr}
use Rattle.sqlite.specs.State.{State}
use Rattle.shop_statements.specs.Shown.{Leaves}
use Rattle.shop_statements.proofs.Steps.{within_itself}
use Rattle.shop_store.specs.SqlBooks.{EitherWay}
use Rattle.shop_book.specs.declared.books.BookFault.{BookFault}

module _ {B C : Type 0} (conn_of : B → C) (P : C → Type 0) where
  pub either_way : {Q : C → Type 0} → ((c : C) → P c → Q c) → (r : Result B (BookFault × C)) → EitherWay conn_of P r → EitherWay conn_of Q r
  either_way f (Ok book) h = f (conn_of book) h
  either_way f (Err back) h = f back.1 h

  pub if_book : {X Y : B → Type 0} → ((book : B) → P (conn_of book) → X book → Y book) → (r : Result B (BookFault × C)) → EitherWay conn_of P r → IfOk r X → IfOk r Y
  if_book f (Ok book) h x = f book h x
  if_book f (Err back) h x = tt

  pub if_back : {X Y : BookFault × C → Type 0} → ((back : BookFault × C) → P back.1 → X back → Y back) → (r : Result B (BookFault × C)) → EitherWay conn_of P r → IfErr r X → IfErr r Y
  if_back f (Ok book) h x = tt
  if_back f (Err back) h x = f back h x

-- no reading leaves all
pub leaves_itself : (s : State) → Leaves s s
leaves_itself s = record {
  stays = λ b was. was;
  as_was = λ clean up. record { was_open = up; now = λ _. refl; committed = λ settled. settled };
  survives = (within_itself s).survives;
}

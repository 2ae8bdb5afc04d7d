-- Books that are looked at again.
use Rattle.shop_book.specs.declared.books.Book.{Ghosts}
use Rattle.shop_audit.specs.Compared.{IsLookedAt}

-- a book that was looked at twice was looked at
pub looked : {B : Type 0} (book : Ghosts B) (a b c : B) → IsLookedAt book a b → IsLookedAt book b c → IsLookedAt book a c
looked book a b c p q =
    record {
      clean_disk = λ d. p.clean_disk (q.clean_disk d);
      stays = λ d m h. q.stays d m (p.stays (q.clean_disk d) m h);
      crash = λ d m h left l. p.crash (q.clean_disk d) m h left (q.crash d m (p.stays (q.clean_disk d) m h) left l);
      failures = tt;
    }

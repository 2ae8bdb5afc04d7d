use Rattle.std.proofs.Common.{refl}
use Rattle.std.proofs.Common.{◌≡◌, ◌++◌, List, [], IfOk, Ok, IsTrue, subst}
use Rattle.shop_records.specs.Content.{Content, parts_of}
use Rattle.shop_records.specs.declared.records.Part.{Part}
use Rattle.shop_book.specs.declared.books.BookFault.{BookFault}
use Rattle.shop_store.proofs.LedgerBooks.{counted}
use Rattle.shop_store.proofs.ledger_book.LedgerBookBook.visit_parts.Goals as goal

pub returns-clause-visit : goal.returns-clause-visit
returns-clause-visit g c =
    let v = c.visit_parts.ensures in
    record {
      parts = v.parts;
      on = v.on;
      visitor = v.visitor;
      answer = v.answer;
      begins = λ clean m was. subst (λ (x : Content). (rest : List Part) × (parts_of x c.args.material ≡ v.parts ++ rest) × IfOk {E = BookFault} (Ok c.visit_parts.result) (λ reported. IsTrue reported → rest ≡ [])) (was.1 clean) v.begins;
    }

pub returns-clause-keeps : goal.returns-clause-keeps
returns-clause-keeps g c = counted g.S.Storage _ _ _ refl refl refl

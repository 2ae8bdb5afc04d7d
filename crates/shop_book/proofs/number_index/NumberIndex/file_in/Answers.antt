use Rattle.shop_book.specs.Filing.{name_at}
use Rattle.shop_book.proofs.number_index.NumberIndex.file_in.Goals as goal

pub returns-clause-stays : goal.returns-clause-stays
returns-clause-stays c = record {
  numbers = λ under number filed. filed;
  codes = λ under number filed. filed;
  names = λ under number filed. c.add.ensures.stay (name_at under number) filed;
}

use Rattle.shop_book.specs.Filing.{number_at}
use Rattle.shop_book.proofs.number_index.NumberIndex.file_for.Goals as goal

pub returns-clause-stays : goal.returns-clause-stays
returns-clause-stays c = record {
  numbers = λ under number filed. c.add.ensures.stay (number_at under number) filed;
  codes = λ under number filed. filed;
  names = λ under number filed. filed;
}

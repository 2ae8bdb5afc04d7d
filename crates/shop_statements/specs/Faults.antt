-- Why the tables gave no answer.
use Rattle.sqlite.specs.declared.error.Error.{Error}
use Rattle.sqlite.specs.declared.error.Error.TheVariants.{SqliteFailure}
use Rattle.sqlite.specs.declared.error.ErrorCode.TheVariants.{OutOfMemory}
use Rattle.shop_statements.specs.declared.faults.TableFault.{TableFault}
use Rattle.shop_statements.specs.declared.faults.TableFault.TheVariants.{NoMemory, Store}

abbrev pub table_fault : Error → TableFault
table_fault (SqliteFailure OutOfMemory) = NoMemory
table_fault _ = Store

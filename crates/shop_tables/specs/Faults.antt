-- Why nothing was taken over.
use Rattle.shop_statements.specs.declared.faults.TableFault.{TableFault}
use Rattle.shop_statements.specs.declared.faults.TableFault.TheVariants.{NoMemory, Store}
use Rattle.shop_tables.specs.declared.adopting.AdoptFault.{AdoptFault}
use Rattle.shop_tables.specs.declared.adopting.AdoptFault.TheVariants as adopt

-- a fault of the tables as that of an adopt
abbrev pub adopt_fault_of : TableFault → AdoptFault
adopt_fault_of NoMemory = adopt.NoMemory
adopt_fault_of Store = adopt.Store

use Rattle.shop_files.proofs.FirstFaults.{no_shop_fault, one_orders_fault, one_problem_fault, one_shop_fault}
use Rattle.shop_files.proofs.OneOrder.{no_orders_fault}
use Rattle.shop_files.proofs.Whole.{spelled_not_faulty}
use Rattle.shop_files.proofs.laws.one_first_fault.Goals as goal

pub returns-clause-one_problem_fault : goal.returns-clause-one_problem_fault
returns-clause-one_problem_fault c = λ text m n a b no_a no_b f g. one_problem_fault text m n a b no_a no_b f g

pub returns-clause-spelled_problem : goal.returns-clause-spelled_problem
returns-clause-spelled_problem c = λ text size pieces offset cause is f. spelled_not_faulty text size pieces is offset cause f

pub returns-clause-one_orders_fault : goal.returns-clause-one_orders_fault
returns-clause-one_orders_fault c = λ text row field other place f g. one_orders_fault text row field other place f g

pub returns-clause-spelled_orders : goal.returns-clause-spelled_orders
returns-clause-spelled_orders c = λ text lines row field is f. no_orders_fault text lines is row field f

pub returns-clause-one_shop_fault : goal.returns-clause-one_shop_fault
returns-clause-one_shop_fault c = λ text a b no_a no_b f g. one_shop_fault text a b no_a no_b f g

pub returns-clause-spelled_shop : goal.returns-clause-spelled_shop
returns-clause-spelled_shop c = λ text entries fault is f. no_shop_fault text entries is fault f

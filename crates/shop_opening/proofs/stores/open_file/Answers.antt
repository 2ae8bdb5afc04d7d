use Rattle.sqlite_wal.specs.Files.{image_at}
use Rattle.shop_opening.proofs.Faults.{looked_refused}
use Rattle.shop_opening.proofs.stores.open_file.Goals as goal

pub returns-in-Err : goal.returns-in-Err
returns-in-Err g c = looked_refused _ (image_at g.S.Start) c.look_fault.result c.look_fault.ensures

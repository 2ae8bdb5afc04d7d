-- Bytes that wait for more, as more come.
use Rattle.std.proofs.Common.{ℕ, ◌<◌, List, ◌++◌, length, sym, ap, subst, arith}
use Rattle.std.proofs.lemmas.List.{append_assoc}
use Rattle.shop_request.specs.Parses.{IsUnfinished}
use Rattle.shop_serve.specs.Clients.{AwaitsMore}

pub awaits-on : (received piece : List ℕ) (needed : ℕ) → length (received ++ piece) < needed → AwaitsMore received needed → AwaitsMore (received ++ piece) needed
awaits-on received piece needed short awaits =
    record {
      here = awaits.later piece short;
      later = λ more few.
          let same = append_assoc received piece more in
          subst IsUnfinished (sym same) (awaits.later (piece ++ more) (omega (arith, few, ap length same)));
    }

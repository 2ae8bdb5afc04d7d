-- What is reported about backups that were to be taken away.
use Rattle.std.specs.Prelude.{ℕ, List, ◌++◌, codes, decimal}

-- one of this number stayed in a folder
abbrev pub stayed_note : ℕ → List ℕ → List ℕ
stayed_note number folder = codes "cutshop: backup " ++ (decimal number ++ (codes " in " ++ (folder ++ codes " wasn't taken away; look what is in it\n")))

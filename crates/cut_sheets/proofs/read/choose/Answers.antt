use Rattle.cut_sheets.proofs.BestWorths.{nothing_left, all_best}
use Rattle.cut_sheets.proofs.read.choose.Goals as goal

pub returns-in-None-find_cut_y : goal.returns-in-None-find_cut_y
returns-in-None-find_cut_y c =
    nothing_left _ _ _ _ c.requires.own (all_best _ _ _ _ _ c.requires.table c.requires.w c.requires.h) c.requires.best
    c.in-None.ensures.none c.in-None-find_cut_x.ensures.none c.in-None-find_cut_y.ensures.none

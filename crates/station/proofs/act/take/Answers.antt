-- `act::take` meets its contract: each part by its case.
use mathlib.Core.Path.{sym, ◌∙◌}
use Rattle.station.proofs.TakeLaws.{king_within, part_taken}
use Rattle.station.proofs.act.take.Goals as goal

pub take_king-requires : goal.take_king-requires
take_king-requires c =
    let h = c.requires in
    (h, king_within _ _ _ h (sym c.in-King.is ∙ c.part_of.ensures))

pub returns-in-Sender : goal.returns-in-Sender
returns-in-Sender c =
    let g = c.args in
    part_taken g.s g.row.now _ _ _ c.part_of.ensures c.in-Sender.is c.take_sender.ensures

pub returns-in-First : goal.returns-in-First
returns-in-First c =
    let g = c.args in
    part_taken g.s g.row.now _ _ _ c.part_of.ensures c.in-First.is c.take_first.ensures

pub returns-in-Second : goal.returns-in-Second
returns-in-Second c =
    let g = c.args in
    part_taken g.s g.row.now _ _ _ c.part_of.ensures c.in-Second.is c.take_second.ensures

pub returns-in-King : goal.returns-in-King
returns-in-King c =
    let g = c.args in
    part_taken g.s g.row.now _ _ _ c.part_of.ensures c.in-King.is c.take_king.ensures

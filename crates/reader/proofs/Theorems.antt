-- The theorems: each statement of specs/Theorems.antt, under its name, and the law that proves it. Assumes nothing.
use Rattle.reader.specs.Theorems.{OneFate, OutsideIgnored, BallotsStand, ElseSilence, UnmarkedSilent, JudgedEitherWay}
use Rattle.reader.proofs.FateLaws as fate
use Rattle.reader.proofs.OutsideLaws.{read_alike}
use Rattle.reader.proofs.TableLaws as table
use Rattle.reader.proofs.PromiseLaws.{either_way}

pub one_fate : OneFate
one_fate = fate.one_fate

pub outside_ignored : OutsideIgnored
outside_ignored = read_alike

pub ballots_stand : BallotsStand
ballots_stand = table.ballots_stand

pub else_silence : ElseSilence
else_silence = table.else_silence

pub unmarked_silent : UnmarkedSilent
unmarked_silent = table.unmarked_silent

pub judged_either_way : JudgedEitherWay
judged_either_way = either_way

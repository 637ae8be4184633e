-- The theorems: each statement of specs/Theorems.antt, under its name, and the law that proves it. Assumes nothing.
use Rattle.rules.specs.Theorems.{KeepsIsDecided, BrokeExactly, OneSet, OneValueIsEnough, BrokeLeast, OwnLogs}
use Rattle.rules.proofs.KeepsLaws.{decided}
use Rattle.rules.proofs.ValueLaws.{one_value}
use Rattle.rules.proofs.RunLaws as runs

pub keeps_is_decided : KeepsIsDecided
keeps_is_decided = decided

pub broke_exactly : BrokeExactly
broke_exactly = runs.exactly

pub one_set : OneSet
one_set = runs.one_set

pub one_value_is_enough : OneValueIsEnough
one_value_is_enough L i some = one_value L some i

pub broke_least : BrokeLeast
broke_least = runs.least

pub own_logs : OwnLogs
own_logs = runs.own_marks

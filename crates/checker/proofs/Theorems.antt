-- The theorems: each statement of specs/Theorems.antt, under its name, and the law that proves it. Assumes nothing.
use Rattle.checker.specs.Theorems.{OwnLogs, KeepsByCalls}
use Rattle.checker.proofs.AnswerLaws as answers
use Rattle.checker.proofs.CallLaws as laws

pub own_logs : OwnLogs
own_logs = answers.own_logs

pub keeps_by_calls : KeepsByCalls
keeps_by_calls = laws.keeps_by_calls

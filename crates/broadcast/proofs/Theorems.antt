-- The theorems: each statement of specs/Theorems.antt, under its name, and the law that proves it. Assumes nothing.
use Rattle.broadcast.specs.Theorems.{FirstCounts, FirstBallotsMakeN, BlanksCountForNeither, BallotsMakeN, BalanceHasGrade0, OneByMajority, Definition6, Definition6Alone, ExchangeEffect, ExchangeBytes, KingsWordLaw, LogBytesLaw, PartByRoundsLaw, SentByRoundsLaw, OutcomeBytesLaw, LastRoundLaw, LastRow, TableEffect, Demand3, UnflaggedAgree, EnoughUnflagged, EnoughFlags, EnoughShow, StationFollowsRun, StationsMakeRun, DoneAfterRows, ValueAtSender, GoodBallotsReadable, NoneMarkedNoneGarbled, CountByLog, CountAfterRows, CountWithoutEffectLaw}
use Rattle.line.specs.Ballot.{read_king}
use Rattle.broadcast.proofs.TallyLaws as tally
use Rattle.broadcast.proofs.TallyLaws.{first_bytes, firsts_make_n, blanks_for_neither, seconds_make_n, balance, obey_means, obey_king, obey_unreadable}
use Rattle.broadcast.proofs.ExchangeLaws.{graded_consensus}
use Rattle.broadcast.proofs.RoundLaws as round
use Rattle.broadcast.proofs.BroadcastLaws as whole
use Rattle.broadcast.proofs.BytesLaws.{log_size, log_at, graded_consensus_alone, two_threshold_bytes, exchange_ranges, outcome_ranges_of}
use Rattle.broadcast.proofs.PartLaws as part
use Rattle.broadcast.proofs.SaidLaws as said
use Rattle.broadcast.proofs.LastRoundLaws as last
use Rattle.broadcast.proofs.GarbledLaws as garbled
use Rattle.broadcast.proofs.EffectLaws.{same_exchange, same_effect}
use Rattle.broadcast.proofs.AssemblyLaws.{follows, make_run}

pub first_counts : FirstCounts
first_counts = first_bytes

pub first_ballots_make_n : FirstBallotsMakeN
first_ballots_make_n = firsts_make_n

pub blanks_count_for_neither : BlanksCountForNeither
blanks_count_for_neither = blanks_for_neither

pub ballots_make_n : BallotsMakeN
ballots_make_n = seconds_make_n

pub balance_has_grade_0 : BalanceHasGrade0
balance_has_grade_0 = balance

pub one_by_majority : OneByMajority
one_by_majority = tally.one_by_majority

pub definition_6 : Definition6
definition_6 = graded_consensus

pub definition_6_alone : Definition6Alone
definition_6_alone = graded_consensus_alone

pub exchange_bytes : ExchangeBytes
exchange_bytes = exchange_ranges

pub exchange_effect : ExchangeEffect
exchange_effect = same_exchange

pub kings_word : KingsWordLaw
kings_word g y b = record { readable = obey_king y b; unreadable = obey_unreadable y b; graded = (obey_means g y (read_king b)).1 }

pub log_bytes : LogBytesLaw
log_bytes R = record { size = log_size R; byte = log_at R }

pub part_by_rounds : PartByRoundsLaw
part_by_rounds = part.part_by_rounds

pub sent_by_rounds : SentByRoundsLaw
sent_by_rounds = said.sent_by_rounds

pub outcome_bytes : OutcomeBytesLaw
outcome_bytes = outcome_ranges_of

pub last_round : LastRoundLaw
last_round = last.last_round

pub last_row : LastRow
last_row = last.last_row_of

pub table_effect : TableEffect
table_effect = same_effect

pub good_ballots_readable : GoodBallotsReadable
good_ballots_readable = garbled.good_ballots_readable

pub none_marked_none_garbled : NoneMarkedNoneGarbled
none_marked_none_garbled = garbled.none_garbled

pub count_by_log : CountByLog
count_by_log = garbled.count_by_log

pub count_after_rows : CountAfterRows
count_after_rows = round.after_count

pub count_without_effect : CountWithoutEffectLaw
count_without_effect = round.count_without_effect

pub demand_3 : Demand3
demand_3 = two_threshold_bytes

pub unflagged_agree : UnflaggedAgree
unflagged_agree = whole.unflagged_agree

pub enough_unflagged : EnoughUnflagged
enough_unflagged = whole.enough_unflagged

pub enough_flags : EnoughFlags
enough_flags = whole.enough_flags

pub enough_show : EnoughShow
enough_show = whole.enough_show

pub station_follows_run : StationFollowsRun
station_follows_run = follows

pub stations_make_run : StationsMakeRun
stations_make_run = make_run

pub done_after_rows : DoneAfterRows
done_after_rows = round.done_after

pub value_at_sender : ValueAtSender
value_at_sender = round.value_without_effect

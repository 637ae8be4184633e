-- Every row of the five tables holds: by computation, from the definitions that the calls promise. Assumes nothing.
use mathlib.Core.Path.{refl}
use Rattle.line.specs.Count.{count}
use Rattle.line.specs.Line.{place}
use Rattle.line.specs.Marks.{marked, mark_beyond}
use Rattle.line.specs.Ballot.{bit_round, blank_round, read_sender, read_first, read_second, read_king, sender_value, first_value, second_value, king_value}
use Rattle.refusal.specs.Cause.{refused_if}
use Rattle.line.specs.Width.{bits, bit_of, part_of}
use Rattle.header.specs.Header.{outside, station_count, exceeded, thresholds, station_number, marks_within, exact_length, line_verdict, width, number_within, number_verdict}
use Rattle.broadcast.specs.Exchange.{tally, firsts, seconds, z_from, z_of, y_from, y_of, grade_of, flag_of, sends, first_row, z, second_row, y, grade}
use Rattle.broadcast.specs.Broadcast.{phases, first_round, obey, x_after, y_after, grade_after, value_of, final_grade, final_flag, z_after, part, speaks, spoken, said, sent}
use Rattle.broadcast.specs.Garbled.{reading, garbled_ballots, some_garbled, received, garbled_in, garbled_rounds}
use Rattle.broadcast.specs.Station.{at}
use Rattle.broadcast.specs.Bytes.{tabulate, setting, pick, outcome_byte, outcome_bytes, outcomes}
use Rattle.number.specs.Digits.{number_of, smaller, smallest, either, any, larger, largest}
use Rattle.number.specs.Numbers as number
use Rattle.layout.specs.Layout.{byte, two, four, header, first, records, start, round, from, to, ballot, next, bit, rest}
use Rattle.layout.specs.Chain.{is_record, after, reached}
use Rattle.judgement.specs.Judgement.{header_length, ill_formed, sheet_form, verdict_to_6, verdict_to_8, misplaced, record_form, unmarked_sender, same_place, taken_before, duplicate, record_verdict, records_verdict, sheet_verdict}
use Rattle.reader.specs.Reading.{place_of, filled}
use Rattle.layout.proofs.ChainLaws.{kind, walk, fate}
use Rattle.listing_lines.specs.Lines.{station_line, station_lines, verdict, lines}
use Rattle.text.specs.Decimal.{decimal}
use Rattle.selection.specs.Places.{bit_at, round_at, from_at, to_at, to_write, how_many, ranked, place_written}
use Rattle.record.specs.Bytes.{low, high, first_index, header_bytes, eight}
use Rattle.writer.specs.Sheet.{next_index, record_of, record_bytes, records_bytes, sheet}
use Rattle.normal_form.specs.Normal.{rewritten}
use Rattle.xorshift.specs.State as state
use Rattle.generator.specs.Tables as noise
use Rattle.generator.specs.Judgement.{seed_some, generate_verdict}
use Rattle.seeded.specs.Promise.{seed_run}
use Rattle.seeded.specs.Listings.{seed_lines}
use Rattle.cases.specs.Table.{All}
use Rattle.cases.specs.Cases.{cases}
use Rattle.cases.specs.Further.{further}
use Rattle.cases.specs.Numbers.{numbers}
use Rattle.cases.specs.Generated.{generated_runs}
use Rattle.cases.specs.Offers.{offered}
use Rattle.broadcast.specs.Station as automaton
use Rattle.state.specs.Judgement.{foreign_state, state_verdict, is_done, station_verdict, telling_verdict, taking_verdict}
use Rattle.station.specs.Automaton.{opened_station}
use Rattle.offer.specs.Offers.{following, next_ballot, with_ballot, same, comparing_verdict, accepting_verdict}

infixr 5 ◌then◌
◌then◌ : {A B : Type 0} → A → B → A × B
a then b = (a, b)

all_hold : All cases × All further × All numbers × All generated_runs × All offered
unfolding count place marked bit_round blank_round read_sender read_first read_second read_king sender_value first_value second_value king_value refused_if outside station_count exceeded thresholds station_number mark_beyond marks_within exact_length line_verdict width number_within number_verdict bits bit_of part_of number_of smaller smallest either any larger largest number.bit_run number.numbers number.grades number.flags number.counts number.stations number.gathered number.bit_outcomes number.number_outcomes tally firsts seconds z_from z_of y_from y_of grade_of flag_of sends first_row z second_row y grade phases first_round obey x_after y_after grade_after value_of final_grade final_flag z_after part speaks spoken said sent reading garbled_ballots some_garbled received garbled_in garbled_rounds at tabulate setting pick outcome_byte outcome_bytes outcomes byte two four header first records start round from to ballot next bit rest is_record after reached ill_formed sheet_form verdict_to_6 verdict_to_8 misplaced record_form unmarked_sender same_place taken_before duplicate record_verdict records_verdict sheet_verdict place_of filled kind walk fate station_line station_lines verdict lines decimal bit_at round_at from_at to_at to_write how_many ranked place_written low high first_index header_bytes eight next_index record_of record_bytes records_bytes sheet rewritten header_length state.shifted_left state.shifted_right state.xor_left state.xor_right state.next state.state_after noise.ballot noise.has_step noise.steps_before noise.byte_at noise.noise noise.generated seed_some generate_verdict seed_run seed_lines foreign_state state_verdict is_done station_verdict telling_verdict taking_verdict opened_station automaton.opened automaton.held automaton.told automaton.ballot automaton.next automaton.moved automaton.next_count automaton.taken automaton.advance following next_ballot with_ballot same comparing_verdict accepting_verdict
all_hold = (
  (fate _, refl)
      then (fate _, refl)
      then (fate _, refl)
      then (fate _, refl)
      then (fate _, refl)
      then (fate _, refl)
      then (fate _, refl)
      then (fate _, refl)
      then (fate _, refl)
      then (fate _, refl)
      then (fate _, refl)
      then (fate _, refl)
      then (fate _, refl)
      then (fate _, refl)
      then (fate _, refl)
      then (fate _, refl)
      then (fate _, refl)
      then tt,
  (fate _, refl)
      then (fate _, refl)
      then (fate _, refl)
      then (fate _, refl)
      then (fate _, refl)
      then (fate _, refl)
      then (fate _, refl)
      then (fate _, refl)
      then (fate _, refl)
      then (fate _, refl)
      then (fate _, refl)
      then (fate _, refl)
      then (fate _, refl)
      then (fate _, refl)
      then (fate _, refl)
      then (fate _, refl)
      then (fate _, refl)
      then (fate _, refl)
      then (fate _, refl)
      then (fate _, refl)
      then (fate _, refl)
      then (fate _, refl)
      then (fate _, refl)
      then (fate _, refl)
      then (fate _, refl)
      then (fate _, refl)
      then (fate _, refl)
      then (fate _, refl)
      then (fate _, refl)
      then (fate _, refl)
      then (fate _, refl)
      then (fate _, refl)
      then (fate _, refl)
      then (fate _, refl)
      then (fate _, refl)
      then (fate _, refl)
      then (fate _, refl)
      then (fate _, refl)
      then (fate _, refl)
      then (fate _, refl)
      then (fate _, refl)
      then (fate _, refl)
      then (fate _, refl)
      then (fate _, refl)
      then (fate _, refl)
      then (fate _, refl)
      then (fate _, refl)
      then tt,
  (fate _, refl)
      then (fate _, refl)
      then (fate _, refl)
      then (fate _, refl)
      then (fate _, refl)
      then (fate _, refl)
      then (fate _, refl)
      then (fate _, refl)
      then (fate _, refl)
      then (fate _, refl)
      then (fate _, refl)
      then (fate _, refl)
      then (fate _, refl)
      then (fate _, refl)
      then (fate _, refl)
      then (fate _, refl)
      then (fate _, refl)
      then (fate _, refl)
      then (fate _, refl)
      then (fate _, refl)
      then (fate _, refl)
      then (fate _, refl)
      then (fate _, refl)
      then (fate _, refl)
      then (fate _, refl)
      then (fate _, refl)
      then (fate _, refl)
      then (fate _, refl)
      then (fate _, refl)
      then (fate _, refl)
      then (fate _, refl)
      then (fate _, refl)
      then (fate _, refl)
      then (fate _, refl)
      then (fate _, refl)
      then tt,
  refl
      then refl
      then refl
      then refl
      then refl
      then refl
      then refl
      then refl
      then refl
      then refl
      then refl
      then refl
      then refl
      then refl
      then refl
      then tt,
  refl
      then refl
      then refl
      then refl
      then refl
      then refl
      then refl
      then refl
      then refl
      then refl
      then refl
      then refl
      then refl
      then refl
      then refl
      then refl
      then refl
      then refl
      then refl
      then refl
      then refl
      then tt,
)

pub cases_hold : All cases
cases_hold = all_hold.0

pub further_hold : All further
further_hold = all_hold.1

pub numbers_hold : All numbers
numbers_hold = all_hold.2

pub generated_runs_hold : All generated_runs
generated_runs_hold = all_hold.3

pub offers_hold : All offered
offers_hold = all_hold.4

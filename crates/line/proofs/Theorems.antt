-- The theorems: each statement of specs/Theorems.antt, under its name, and the law that proves it. Assumes nothing.
use Rattle.line.specs.Theorems.{FaultsAndGood, FaultsAreMarks, PlaceIs, PlaceStepsLaw, TableBound, TableReached, BeyondNone, BeyondSome, MarksAreLaw, MarksBack, GarbledWhereLaw, ValuesStayLaw}
use Rattle.line.proofs.LineLaws as line
use Rattle.line.proofs.MarksLaws as marks
use Rattle.line.proofs.BallotLaws as ballot

pub faults_and_good : FaultsAndGood
faults_and_good = marks.faults_and_good

pub faults_are_marks : FaultsAreMarks
faults_are_marks = marks.faults_are_marks

pub place_is : PlaceIs
place_is = line.place_is

pub place_steps : PlaceStepsLaw
place_steps = line.place_steps

pub table_bound : TableBound
table_bound = line.table_bound

pub table_reached : TableReached
table_reached = line.table_reached

pub beyond_none : BeyondNone
beyond_none = marks.beyond_none

pub beyond_some : BeyondSome
beyond_some = marks.beyond_some

pub marks_are : MarksAreLaw
marks_are n p = record { each = marks.marks_are n p; below = marks.marks_below n p }

pub marks_back : MarksBack
marks_back = marks.marks_back

pub garbled_where : GarbledWhereLaw
garbled_where b = record {
  sender = ballot.garbled_sender b;
  first = ballot.garbled_first b;
  second = ballot.garbled_second b;
  king = ballot.garbled_king b;
}

pub values_stay : ValuesStayLaw
values_stay y b = record {
  sender = ballot.sender_plain b;
  first = ballot.first_plain b;
  second = ballot.second_plain b;
  king = ballot.king_plain y b;
}

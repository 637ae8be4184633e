-- The causes of refusal by their numbers, and which of several is given (document 01, "Refused causes").
use Rattle.std.specs.Prelude.{ℕ, ◌+◌, ◌*◌, ◌%◌, ◌≡◌, Bool, List, [], ◌∷◌, if◌then◌else◌}
use Rattle.refusal.specs.declared.cause.Cause.{Cause}
use Rattle.refusal.specs.declared.cause.Cause.TheVariants.{SheetForm, StationCount, Thresholds, StationNumber, Value, MarkBeyond, StationState, Length, ChainLeaves, ChainRepeats, RecordForm, UnmarkedSender, Duplicate, TooManyRecords, Width, Seed, Offer}
use Rattle.std.specs.declared.result.Result.{Result}
use Rattle.std.specs.declared.result.Result.TheVariants.{Ok, Err}

-- what judging gives: nothing against it, or a cause
abbrev pub Verdict : Type 0
Verdict = Result (Unit {0}) Cause

-- nothing against it
abbrev pub no_cause : Verdict
no_cause = Ok tt

-- the table's column "Number"; from 14 on they are document 02's (request 1: "more than 4,096 records to write 14"; request 5: "w above 8 by 15"; request 7: "Seed zero is
-- refused by 16"; request 8: "An acceptance whose offer, whatever it holds, is not the one this station and row give is refused by 17")
abbrev pub number : Cause → ℕ
number SheetForm = 1
number StationCount = 2
number Thresholds = 3
number StationNumber = 4
number Value = 5
number MarkBeyond = 6
number StationState = 7
number Length = 8
number ChainLeaves = 9
number ChainRepeats = 10
number RecordForm = 11
number UnmarkedSender = 12
number Duplicate = 13
number TooManyRecords = 14
number Width = 15
number Seed = 16
number Offer = 17

-- an answer's number, whatever it gives where nothing is refused: the cause's, or 0
abbrev pub code : {A : Type 0} → Result A Cause → ℕ
code (Ok _) = 0
code (Err c) = number c

-- what a call answers that gives a value where nothing is refused
abbrev pub answered : {A : Type 0} → Verdict → A → Result A Cause
answered (Ok _) value = Ok value
answered (Err c) value = Err c

-- what every call that judges promises: its answer, and document 01's number of it
pub record Judged (verdict answer : Verdict) : Type 0 where
  pub answer_is : answer ≡ verdict
  pub number_is : code answer ≡ code verdict

-- refused by the cause c if the test holds: "A number is used only if its cause holds."
unfoldable pub refused_if : Bool → Cause → Verdict
refused_if test c = if test then Err c else no_cause

-- the first cause that holds. "The lowest number wins up to 8.": the causes are joined in the order of their numbers, but for 15, which comes before 2 (request 5), and 16, which comes before 8 (request 7)
infixr 5 ◌or_else◌
abbrev pub ◌or_else◌ : Verdict → Verdict → Verdict
(Ok _) or_else next = next
(Err c) or_else next = Err c

-- the table's column "Left as it was": what a lent buffer holds at exit, where an accepted call fills it with `new`
abbrev pub written : Verdict → List ℕ → List ℕ → List ℕ
written (Ok _) new old = new
written (Err c) new old = old

-- the values of an answer: none where it is a refusal
abbrev pub given : Verdict → List ℕ → List ℕ
given (Ok _) values = values
given (Err c) values = []

-- an answer's values, in document 01's order: none where it is a refusal
abbrev pub values : {A : Type 0} → (A → List ℕ) → Result A Cause → List ℕ
values list (Ok value) = list value
values list (Err c) = []

-- those of a number alone
abbrev pub single : ℕ → List ℕ
single value = value ∷ []

-- an answer as one number, for C: the documents' number, 0 where nothing is refused, in the highest of eight bytes, and the values in the seven below
abbrev pub answer_word : ℕ → ℕ → ℕ
answer_word number values = 72057594037927936 * number + values % 72057594037927936

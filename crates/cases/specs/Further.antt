-- Further sheets, beside document 01's cases A to H: a second table. A comment quotes the sentence that the row shows.
use Rattle.std.specs.Prelude.{ℕ, List, [], ◌∷◌, ◌++◌}
use Rattle.cases.specs.Table.{Wanted, prints, writes, is_long, rewritten_as, accepted, refused_by, Case, head, rec, good, bad, opening}
use Rattle.cases.specs.Cases.{case_B}

-- ---- runs

-- "a byte other than 0 or 1 is read as 0" in round 1, and request 2, "The sender's round keeps its default.": the bad sender, handed 1, is silent, and all take 0
abbrev pub silent_sender : Case
silent_sender = record {
  sheet = head 4 1 1 4 1 0 8;
  comes_out = prints (opening 4 1 1 4 9 ∷ good 1 0 2 0 0 ∷ good 2 0 2 0 0 ∷ good 3 0 2 0 0 ∷ bad 4 ∷ []);
}

-- request 2, "In the first round of an exchange a byte other than 0 or 1 now counts for neither value": case B with a one from station 4 to station 1, the king, in
-- round 3. All z are blank, that one is its majority, and all take 1 from it. With silence read as 0 stations 2 and 3 would send zeros, and all would end with 0
abbrev pub silent_ballots : Case
silent_ballots = record {
  sheet = head 4 0 1 4 0 1 8 ++ rec 1 4 1 1 2 ++ rec 1 4 2 0 3 ++ rec 1 4 3 0 4 ++ rec 3 4 1 1 0;
  comes_out = prints (opening 4 0 1 4 6 ∷ good 1 1 1 1 0 ∷ good 2 1 1 1 0 ∷ good 3 1 1 1 0 ∷ bad 4 ∷ []);
}

-- the same with a blank and a garbled ballot to the two stations whose x is 0, in place of silence
abbrev pub neither_value : Case
neither_value = record {
  sheet = head 4 0 1 4 0 1 8 ++ rec 1 4 1 1 2 ++ rec 1 4 2 0 3 ++ rec 1 4 3 0 4 ++ rec 2 4 2 2 5 ++ rec 2 4 3 128 6 ++ rec 3 4 1 1 0;
  comes_out = prints (opening 4 0 1 4 6 ∷ good 1 1 1 1 0 ∷ good 2 1 1 1 1 ∷ good 3 1 1 1 1 ∷ bad 4 ∷ []);
}

-- request 2, "a king's unreadable ballot leaves a grade 0 station with its own y": stations 2 and 3 enter the first exchange with 0 and 1 and leave it, by
-- the one that station 1 sends each, with y 1 and grade 0; the bad king is silent, and both keep 1. With the king read as 0 both would end with 0, with the x that
-- they entered with both at grade 0
abbrev pub silent_king : Case
silent_king = record {
  sheet =
      head 3 0 1 1 0 1 1
      ++ rec 1 1 2 0 2 ++ rec 1 1 3 1 3
      ++ rec 2 1 2 1 4 ++ rec 2 1 3 0 5
      ++ rec 3 1 2 1 6 ++ rec 3 1 3 1 0;
  comes_out = prints (opening 3 0 1 1 6 ∷ bad 1 ∷ good 2 1 1 1 0 ∷ good 3 1 1 1 0 ∷ []);
}

-- the same with a blank and a garbled ballot from the king
abbrev pub unreadable_king : Case
unreadable_king = record {
  sheet =
      head 3 0 1 1 0 1 1
      ++ rec 1 1 2 0 2 ++ rec 1 1 3 1 3
      ++ rec 2 1 2 1 4 ++ rec 2 1 3 0 5
      ++ rec 3 1 2 1 6 ++ rec 3 1 3 1 7
      ++ rec 4 1 2 2 8 ++ rec 4 1 3 128 0;
  comes_out = prints (opening 3 0 1 1 6 ∷ bad 1 ∷ good 2 1 1 1 1 ∷ good 3 1 1 1 1 ∷ []);
}

-- request 6, "In step 4 equal counts now give 0", "A balance always has grade 0": in round 6 station 1 has its own zero and a one, as many of each
abbrev pub balance : Case
balance = record {
  sheet = head 2 0 0 1 0 1 2 ++ rec 5 2 1 0 2 ++ rec 6 2 1 1 0;
  comes_out = prints (opening 2 0 0 1 6 ∷ good 1 0 0 1 0 ∷ bad 2 ∷ []);
}

-- the same with its own one and a zero: the value handed in is 1
abbrev pub balance_of_one : Case
balance_of_one = record {
  sheet = head 2 0 0 1 1 1 2 ++ rec 2 2 1 1 2 ++ rec 3 2 1 1 3 ++ rec 5 2 1 1 4 ++ rec 6 2 1 0 0;
  comes_out = prints (opening 2 0 0 1 6 ∷ good 1 0 0 1 0 ∷ bad 2 ∷ []);
}

-- none of either: station 2 is silent, and station 1, the sender of a 1, has a blank in each exchange
abbrev pub balance_of_none : Case
balance_of_none = record { sheet = head 2 0 0 1 1 0 2; comes_out = prints (opening 2 0 0 1 6 ∷ good 1 0 0 1 0 ∷ bad 2 ∷ []) }

-- ---- garbled ballots (request 4), on a line of three whose station 3 is bad; station 2 is the sender

-- "A byte is garbled if it is not 255 and its round has no meaning for it": 128 in both rounds of the first exchange to station 1, in the first round alone to
-- station 2, and silence otherwise
abbrev pub garbled_exchange : Case
garbled_exchange = record {
  sheet = head 3 0 1 2 1 1 4 ++ rec 2 3 1 128 2 ++ rec 3 3 1 128 3 ++ rec 2 3 2 128 0;
  comes_out = prints (opening 3 0 1 2 6 ∷ good 1 1 1 1 2 ∷ good 2 1 1 1 1 ∷ bad 3 ∷ []);
}

-- "blank is garbled outside the second round of an exchange.": blanks to station 1 in rounds 2 and 5, which count, and to station 2 in rounds 3 and 6, which don't
abbrev pub garbled_blanks : Case
garbled_blanks = record {
  sheet = head 3 0 1 2 1 1 4 ++ rec 2 3 1 2 2 ++ rec 5 3 1 2 3 ++ rec 3 3 2 2 4 ++ rec 6 3 2 2 0;
  comes_out = prints (opening 3 0 1 2 6 ∷ good 1 1 1 1 2 ∷ good 2 1 1 1 0 ∷ bad 3 ∷ []);
}

-- "from all in exchange rounds, else from the sender or the king.": garbled bytes of a station that is neither, in rounds 1 and 4, count for nothing
abbrev pub garbled_bystander : Case
garbled_bystander = record {
  sheet = head 3 0 1 2 1 1 4 ++ rec 1 3 1 128 2 ++ rec 4 3 1 128 3 ++ rec 4 3 2 2 0;
  comes_out = prints (opening 3 0 1 2 6 ∷ good 1 1 1 1 0 ∷ good 2 1 1 1 0 ∷ bad 3 ∷ []);
}

-- of the sender and of the king they count: station 1 is both, and bad
abbrev pub garbled_sender_and_king : Case
garbled_sender_and_king = record {
  sheet = head 3 0 1 1 0 1 1 ++ rec 1 1 2 128 2 ++ rec 1 1 3 2 3 ++ rec 4 1 2 7 0;
  comes_out = prints (opening 3 0 1 1 6 ∷ bad 1 ∷ good 2 0 1 1 2 ∷ good 3 0 1 1 1 ∷ []);
}

-- "the rounds in which at least one ballot": two bad stations' garbled ballots in one round are one round
abbrev pub garbled_twice : Case
garbled_twice = record {
  sheet = head 3 0 1 1 1 1 6 ++ rec 2 2 1 128 2 ++ rec 2 3 1 7 0;
  comes_out = prints (opening 3 0 1 1 6 ∷ good 1 0 0 1 1 ∷ bad 2 ∷ bad 3 ∷ []);
}

-- ---- marks in all four bytes: "8–11 the marks, bit i−1 for station i"

-- all stations but the tenth
abbrev pub all_but_ten : Case
all_but_ten = record {
  sheet = 25 ∷ 0 ∷ 12 ∷ 10 ∷ 1 ∷ 0 ∷ 0 ∷ 0 ∷ 255 ∷ 253 ∷ 255 ∷ 1 ∷ [];
  comes_out =
      prints
      (opening 25 0 12 10 6
      ∷ bad 1 ∷ bad 2 ∷ bad 3 ∷ bad 4 ∷ bad 5 ∷ bad 6 ∷ bad 7 ∷ bad 8
      ∷ bad 9 ∷ good 10 0 0 1 0 ∷ bad 11 ∷ bad 12 ∷ bad 13 ∷ bad 14 ∷ bad 15 ∷ bad 16
      ∷ bad 17 ∷ bad 18 ∷ bad 19 ∷ bad 20 ∷ bad 21 ∷ bad 22 ∷ bad 23 ∷ bad 24
      ∷ bad 25 ∷ []);
}

-- stations 1, 10, 19 and 28: a header whose first record is record 1
abbrev pub four_marked : List ℕ
four_marked = 32 ∷ 0 ∷ 0 ∷ 1 ∷ 0 ∷ 0 ∷ 1 ∷ 0 ∷ 1 ∷ 2 ∷ 4 ∷ 8 ∷ []

-- ---- text

-- "number, value, grade, flag" and the count, byte by byte, with numbers of two digits: station 10, the sender, and 11 are good
abbrev pub two_digits : Case
two_digits = record {
  sheet = 11 ∷ 2 ∷ 4 ∷ 10 ∷ 1 ∷ 0 ∷ 0 ∷ 0 ∷ 255 ∷ 1 ∷ 0 ∷ 0 ∷ [];
  comes_out =
      writes
      ((97 ∷ 103 ∷ 114 ∷ 101 ∷ 101 ∷ 32 ∷ 49 ∷ 49 ∷ 32 ∷ 50 ∷ 32 ∷ 52 ∷ 32 ∷ 49 ∷ 48 ∷ 32 ∷ 49 ∷ 50 ∷ 10 ∷ [])
      ++ (49 ∷ 32 ∷ 45 ∷ 32 ∷ 45 ∷ 32 ∷ 45 ∷ 32 ∷ 45 ∷ 10 ∷ [])
      ++ (50 ∷ 32 ∷ 45 ∷ 32 ∷ 45 ∷ 32 ∷ 45 ∷ 32 ∷ 45 ∷ 10 ∷ [])
      ++ (51 ∷ 32 ∷ 45 ∷ 32 ∷ 45 ∷ 32 ∷ 45 ∷ 32 ∷ 45 ∷ 10 ∷ [])
      ++ (52 ∷ 32 ∷ 45 ∷ 32 ∷ 45 ∷ 32 ∷ 45 ∷ 32 ∷ 45 ∷ 10 ∷ [])
      ++ (53 ∷ 32 ∷ 45 ∷ 32 ∷ 45 ∷ 32 ∷ 45 ∷ 32 ∷ 45 ∷ 10 ∷ [])
      ++ (54 ∷ 32 ∷ 45 ∷ 32 ∷ 45 ∷ 32 ∷ 45 ∷ 32 ∷ 45 ∷ 10 ∷ [])
      ++ (55 ∷ 32 ∷ 45 ∷ 32 ∷ 45 ∷ 32 ∷ 45 ∷ 32 ∷ 45 ∷ 10 ∷ [])
      ++ (56 ∷ 32 ∷ 45 ∷ 32 ∷ 45 ∷ 32 ∷ 45 ∷ 32 ∷ 45 ∷ 10 ∷ [])
      ++ (57 ∷ 32 ∷ 45 ∷ 32 ∷ 45 ∷ 32 ∷ 45 ∷ 32 ∷ 45 ∷ 10 ∷ [])
      ++ (49 ∷ 48 ∷ 32 ∷ 48 ∷ 32 ∷ 48 ∷ 32 ∷ 49 ∷ 32 ∷ 48 ∷ 10 ∷ [])
      ++ (49 ∷ 49 ∷ 32 ∷ 48 ∷ 32 ∷ 48 ∷ 32 ∷ 49 ∷ 32 ∷ 48 ∷ 10 ∷ []));
}

-- every number of the first line has two digits, and all stations are marked: a listing of 364 bytes, where 457 is the most (`ListingShort` of crate listing)
abbrev pub long : Case
long = record {
  sheet = 32 ∷ 10 ∷ 10 ∷ 32 ∷ 1 ∷ 0 ∷ 0 ∷ 0 ∷ 255 ∷ 255 ∷ 255 ∷ 255 ∷ [];
  comes_out = is_long 364;
}

-- "A refusal prints the one line `refused` and the number.": refused 12, with its newline
abbrev pub refused_12 : List ℕ
refused_12 = 114 ∷ 101 ∷ 102 ∷ 117 ∷ 115 ∷ 101 ∷ 100 ∷ 32 ∷ 49 ∷ 50 ∷ 10 ∷ []

-- ---- refusals

-- case A's header with this sender, value and marks, and no record
abbrev pub headed : ℕ → ℕ → ℕ → Wanted → Case
headed sender value marks o = record { sheet = head 4 1 1 sender value 0 marks; comes_out = o }

-- case A's header with these records, of which the chain begins with the one of this index
abbrev pub chained : ℕ → List ℕ → Wanted → Case
chained first records o = record { sheet = head 4 1 1 1 1 first 8 ++ records; comes_out = o }

-- ---- rewritten: "rewriting a read sheet drops unchained records and records of silence" (document 02, request 1)

-- record 1 is not chained, and the chain goes from record 4 over 3, which is of silence, to 2 and 5: a garbled byte is written, in the order of the table
abbrev pub untidy : Case
untidy = record {
  sheet =
      head 2 0 0 1 1 4 2
      ++ (9 ∷ 9 ∷ 9 ∷ 9 ∷ 9 ∷ 9 ∷ 9 ∷ 9 ∷ [])
      ++ rec 3 2 2 7 5 ++ rec 2 2 1 255 2 ++ rec 6 2 1 1 3 ++ rec 1 2 2 0 0;
  comes_out = rewritten_as (head 2 0 0 1 1 1 2 ++ rec 1 2 2 0 2 ++ rec 3 2 2 7 3 ++ rec 6 2 1 1 0);
}

-- "the sheet has 1 there, or 0 without records": the one record is not chained
abbrev pub unchained : Case
unchained = record { sheet = head 1 0 0 1 0 0 1 ++ rec 1 1 1 1 0; comes_out = rewritten_as (head 1 0 0 1 0 0 1) }

-- document 01's case B is in its normal form
abbrev pub case_B_again : Case
case_B_again = record { sheet = case_B.sheet; comes_out = rewritten_as case_B.sheet }

abbrev pub further : List Case
further =
    silent_sender
    ∷ silent_ballots
    ∷ neither_value
    ∷ silent_king
    ∷ unreadable_king
    ∷ balance
    ∷ balance_of_one
    ∷ balance_of_none
    ∷ garbled_exchange
    ∷ garbled_blanks
    ∷ garbled_bystander
    ∷ garbled_sender_and_king
    ∷ garbled_twice
    ∷ all_but_ten
    -- a ballot of each of the four stations, and one of station 27, which is not marked
    ∷ record { sheet = four_marked ++ rec 1 28 1 1 2 ++ rec 1 19 1 1 3 ++ rec 1 10 1 1 4 ++ rec 1 1 1 1 0; comes_out = accepted }
    ∷ record { sheet = four_marked ++ rec 1 27 1 1 0; comes_out = refused_by 12 }
    ∷ two_digits
    ∷ long
    -- 4: "sender or own station outside 1 to n"
    ∷ headed 0 1 8 (refused_by 4)
    ∷ headed 5 1 8 (refused_by 4)
    -- 5: "the value handed in (also with a marked sender [..]) [..] not 0 or 1"
    ∷ headed 4 2 8 (refused_by 5)
    -- 6: "a mark beyond station n"
    ∷ headed 1 1 16 (refused_by 6)
    -- "The lowest number wins up to 8.": 1 and 2 both hold, 2 and 3, 3 and 4, 4 and 5, 5 and 6
    ∷ record { sheet = head 0 1 1 1 1 0 8 ++ 0 ∷ []; comes_out = refused_by 1 }
    ∷ record { sheet = head 33 2 1 1 1 0 8; comes_out = refused_by 2 }
    ∷ record { sheet = head 4 2 1 5 1 0 8; comes_out = refused_by 3 }
    ∷ headed 5 2 8 (refused_by 4)
    ∷ headed 1 2 16 (refused_by 5)
    -- "Then the whole chain is walked for 9 and 10": 6 comes before 9, and 9 and 10 before the 11 of a record passed
    ∷ record { sheet = head 4 1 1 1 1 1 16; comes_out = refused_by 6 }
    ∷ chained 1 (rec 0 4 1 1 2) (refused_by 9)
    ∷ chained 1 (rec 0 4 1 1 1) (refused_by 10)
    -- 11: "a record's round outside 1 to R, a station outside 1 to n", and request 5: a bit, "11 wants only record byte 7 to be zero": round 0 and 10, from 0 and 5,
    -- to 0 and 5, bit 1 of one bit, the last byte
    ∷ chained 1 (rec 0 4 1 1 0) (refused_by 11)
    ∷ chained 1 (rec 10 4 1 1 0) (refused_by 11)
    ∷ chained 1 (rec 1 0 1 1 0) (refused_by 11)
    ∷ chained 1 (rec 1 5 1 1 0) (refused_by 11)
    ∷ chained 1 (rec 1 4 0 1 0) (refused_by 11)
    ∷ chained 1 (rec 1 4 5 1 0) (refused_by 11)
    ∷ chained 1 (1 ∷ 4 ∷ 1 ∷ 1 ∷ 0 ∷ 0 ∷ 1 ∷ 0 ∷ []) (refused_by 11)
    ∷ chained 1 (1 ∷ 4 ∷ 1 ∷ 1 ∷ 0 ∷ 0 ∷ 0 ∷ 1 ∷ []) (refused_by 11)
    -- 12: "a record's from is not marked"
    ∷ chained 1 (rec 1 1 4 1 0) (writes refused_12)
    -- "each for 11, 12, 13": 11 and 12 both hold
    ∷ chained 1 (rec 0 1 4 1 0) (refused_by 11)
    -- 13: "an earlier chained record has the same round, from and to", also where both ballots are silence
    ∷ chained 1 (rec 1 4 1 1 2 ++ rec 1 4 1 0 0) (refused_by 13)
    ∷ chained 1 (rec 1 4 1 255 2 ++ rec 1 4 1 255 0) (refused_by 13)
    -- "Then the records are taken in chain order": record 2, whose from is not marked, comes before record 1, whose round is 0
    ∷ chained 2 (rec 0 4 1 1 0 ++ rec 1 1 4 1 1) (refused_by 12)
    -- rewritten; a refused sheet gives the same line
    ∷ untidy
    ∷ unchained
    ∷ case_B_again
    ∷ chained 1 (rec 1 1 4 1 0) (rewritten_as refused_12)
    ∷ []

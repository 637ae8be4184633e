-- Recipe numbers (document 02, request 5): document 01's cases again with w 1, and further sheets of several bits. A third table.
use Rattle.std.specs.Prelude.{ℕ, List, [], ◌∷◌, ◌++◌, set}
use Rattle.cases.specs.Table.{Wanted, prints, rewritten_as, accepted, refused_by, Case, good, bad, opening}
use Rattle.cases.specs.Cases.{cases}

-- ---- "0 standing for 1 there and in every call that takes w"

-- the rows with w in byte 5, where they have 0: the same comes out
abbrev pub again : ℕ → List Case → List Case
again w [] = []
again w (c ∷ cs) = record { sheet = set c.sheet 5 w; comes_out = c.comes_out } ∷ again w cs

-- ---- sheets

-- a header with fewer than nine stations marked: n, t, T, sender, number, w, first index, marks
abbrev pub numbered : ℕ → ℕ → ℕ → ℕ → ℕ → ℕ → ℕ → ℕ → List ℕ
numbered n t T sender number w first marks = n ∷ t ∷ T ∷ sender ∷ number ∷ w ∷ first ∷ 0 ∷ marks ∷ 0 ∷ 0 ∷ 0 ∷ []

-- a record of a bit: bit, round, from, to, ballot, next index
abbrev pub rec_of : ℕ → ℕ → ℕ → ℕ → ℕ → ℕ → List ℕ
rec_of bit round from to ballot next = round ∷ from ∷ to ∷ ballot ∷ next ∷ 0 ∷ bit ∷ 0 ∷ []

-- ---- runs

-- case C in bit 0: station 1, bad and the sender, tells station 2 zeros and station 3 ones; in bit 1 it behaves, and sends ones. "With two good bonders at different
-- numbers every good one must be flagged": 2 and 3, with the grade of bit 0 and its flag, though bit 1 has grade 2 and none
abbrev pub liar_in_bit_0 : Case
liar_in_bit_0 = record {
  sheet =
      numbered 3 0 1 1 0 2 1 1
      ++ rec_of 0 1 1 2 0 2 ++ rec_of 0 1 1 3 1 3
      ++ rec_of 0 2 1 2 0 4 ++ rec_of 0 2 1 3 1 5
      ++ rec_of 0 3 1 2 0 6 ++ rec_of 0 3 1 3 1 7
      ++ rec_of 0 5 1 2 0 8 ++ rec_of 0 5 1 3 1 9
      ++ rec_of 0 6 1 2 0 10 ++ rec_of 0 6 1 3 1 11
      ++ rec_of 1 1 1 2 1 12 ++ rec_of 1 1 1 3 1 13
      ++ rec_of 1 2 1 2 1 14 ++ rec_of 1 2 1 3 1 15
      ++ rec_of 1 3 1 2 1 16 ++ rec_of 1 3 1 3 1 17
      ++ rec_of 1 5 1 2 1 18 ++ rec_of 1 5 1 3 1 19
      ++ rec_of 1 6 1 2 1 20 ++ rec_of 1 6 1 3 1 0;
  comes_out = prints (opening 3 0 1 1 6 ∷ bad 1 ∷ good 2 2 1 1 0 ∷ good 3 3 1 1 0 ∷ []);
}

-- "A bad station is told by grade 255, since 255 can be a recipe.": case A with 255 of eight bits
abbrev pub highest_number : Case
highest_number = record {
  sheet = numbered 4 1 1 1 255 8 0 8;
  comes_out = prints (opening 4 1 1 1 9 ∷ good 1 255 2 0 0 ∷ good 2 255 2 0 0 ∷ good 3 255 2 0 0 ∷ bad 4 ∷ []);
}

-- "The garbled count is the largest of the bits' counts": station 1 has a garbled round in bit 0 and two in bit 1, station 2 one in bit 0 alone. The number is 2:
-- bit 0 is the lowest
abbrev pub largest_count : Case
largest_count = record {
  sheet = numbered 3 0 1 2 2 2 1 4 ++ rec_of 0 2 3 1 128 2 ++ rec_of 0 3 3 2 128 3 ++ rec_of 1 2 3 1 128 4 ++ rec_of 1 3 3 1 128 0;
  comes_out = prints (opening 3 0 1 2 6 ∷ good 1 2 1 1 2 ∷ good 2 2 1 1 1 ∷ bad 3 ∷ []);
}

-- ---- rewritten

-- "the writer goes by bit before round"
abbrev pub by_bit : Case
by_bit = record {
  sheet = numbered 2 0 0 1 3 2 1 2 ++ rec_of 1 1 2 1 0 2 ++ rec_of 0 6 2 1 1 0;
  comes_out = rewritten_as (numbered 2 0 0 1 3 2 1 2 ++ rec_of 0 6 2 1 1 2 ++ rec_of 1 1 2 1 0 0);
}

-- ---- refusals

-- case A's header with this number and w, and no record
abbrev pub number_of_width : ℕ → ℕ → Wanted → Case
number_of_width number w o = record { sheet = numbered 4 1 1 1 number w 0 8; comes_out = o }

-- case A's header with w 2 and these records, of which the chain begins with record 1
abbrev pub in_two_bits : List ℕ → Wanted → Case
in_two_bits records o = record { sheet = numbered 4 1 1 1 1 2 1 8 ++ records; comes_out = o }

abbrev pub numbers : List Case
numbers =
    again 1 cases
    ++ (liar_in_bit_0
    ∷ highest_number
    ∷ largest_count
    ∷ by_bit
    -- "w from 1 to 8" and "w above 8 by 15"
    ∷ number_of_width 1 8 accepted
    ∷ number_of_width 1 9 (refused_by 15)
    ∷ number_of_width 1 255 (refused_by 15)
    -- "A number of 2 to the power w or above is refused by 5"
    ∷ number_of_width 3 2 accepted
    ∷ number_of_width 4 2 (refused_by 5)
    ∷ number_of_width 2 1 (refused_by 5)
    ∷ number_of_width 2 0 (refused_by 5)
    -- 15 comes "right after the sheet's length": 1 and 15 both hold, 15 and 2
    ∷ record { sheet = numbered 4 1 1 1 1 9 0 8 ++ 0 ∷ []; comes_out = refused_by 1 }
    ∷ record { sheet = numbered 0 1 1 1 1 9 0 8; comes_out = refused_by 15 }
    -- "a bit not below w by 11", and "11 wants only record byte 7 to be zero"
    ∷ in_two_bits (rec_of 1 1 4 1 1 0) accepted
    ∷ in_two_bits (rec_of 2 1 4 1 1 0) (refused_by 11)
    ∷ in_two_bits (1 ∷ 4 ∷ 1 ∷ 1 ∷ 0 ∷ 0 ∷ 1 ∷ 1 ∷ []) (refused_by 11)
    -- "13 compares the bit too"
    ∷ in_two_bits (rec_of 0 1 4 1 1 2 ++ rec_of 1 1 4 1 0 0) accepted
    ∷ in_two_bits (rec_of 1 1 4 1 1 2 ++ rec_of 1 1 4 1 0 0) (refused_by 13)
    ∷ [])

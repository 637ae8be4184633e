-- Generated runs (document 02, request 7): a fourth table. A row is a header, as a sheet without records, and what comes of it with a seed.
use Rattle.std.specs.Prelude.{ℕ, List, [], ◌∷◌, ◌++◌}
use Rattle.cases.specs.Table.{draws, lists, draws_not, Case, good, bad, opening}
use Rattle.cases.specs.Numbers.{numbered}

-- ---- tables

-- "For each round, marked sender and receiver in table order it steps once and writes the new state mod 4, with 255 for 3. Other bytes are 255.": three stations, the
-- first one bad; from seed 1 the first states are 270369, 67634689, 2647435461, 307599695
abbrev pub one_bit : Case
one_bit = record {
  sheet = numbered 3 0 1 1 0 0 0 1;
  comes_out =
      draws 1
      ((1 ∷ 1 ∷ 1 ∷ 255 ∷ 255 ∷ 255 ∷ 255 ∷ 255 ∷ 255 ∷ [])
      ++ (255 ∷ 1 ∷ 0 ∷ 255 ∷ 255 ∷ 255 ∷ 255 ∷ 255 ∷ 255 ∷ [])
      ++ (2 ∷ 2 ∷ 1 ∷ 255 ∷ 255 ∷ 255 ∷ 255 ∷ 255 ∷ 255 ∷ [])
      ++ (0 ∷ 255 ∷ 255 ∷ 255 ∷ 255 ∷ 255 ∷ 255 ∷ 255 ∷ 255 ∷ [])
      ++ (2 ∷ 2 ∷ 1 ∷ 255 ∷ 255 ∷ 255 ∷ 255 ∷ 255 ∷ 255 ∷ [])
      ++ (1 ∷ 0 ∷ 0 ∷ 255 ∷ 255 ∷ 255 ∷ 255 ∷ 255 ∷ 255 ∷ []));
}

-- "With several bits the state runs on from one bit's table to the next.": two stations, the second one bad; bit 1 begins where bit 0 has ended
abbrev pub two_bits : Case
two_bits = record {
  sheet = numbered 2 0 0 1 1 2 0 2;
  comes_out =
      draws 1
      ((255 ∷ 255 ∷ 1 ∷ 1 ∷ 255 ∷ 255 ∷ 1 ∷ 255 ∷ 255 ∷ 255 ∷ 1 ∷ 0 ∷ 255 ∷ 255 ∷ 2 ∷ 2 ∷ 255 ∷ 255 ∷ 1 ∷ 0 ∷ 255 ∷ 255 ∷ 255 ∷ 255 ∷ [])
      ++ (255 ∷ 255 ∷ 2 ∷ 2 ∷ 255 ∷ 255 ∷ 1 ∷ 1 ∷ 255 ∷ 255 ∷ 0 ∷ 0 ∷ 255 ∷ 255 ∷ 1 ∷ 1 ∷ 255 ∷ 255 ∷ 255 ∷ 1 ∷ 255 ∷ 255 ∷ 255 ∷ 255 ∷ []));
}

-- a seed of all 32 bits: "bits beyond 32 dropped"
abbrev pub largest_seed : Case
largest_seed = record {
  sheet = numbered 1 0 0 1 0 0 0 1;
  comes_out = draws 4294967295 (255 ∷ 255 ∷ 255 ∷ 2 ∷ 1 ∷ 0 ∷ []);
}

-- ---- listings

abbrev pub listed : List Case
listed =
    record { sheet = one_bit.sheet; comes_out = lists 2 (opening 3 0 1 1 6 ∷ bad 1 ∷ good 2 0 1 1 3 ∷ good 3 0 1 1 2 ∷ []) }
    ∷ record { sheet = two_bits.sheet; comes_out = lists 1 (opening 2 0 0 1 6 ∷ good 1 1 0 1 0 ∷ bad 2 ∷ []) }
    ∷ []

-- ---- refusals

-- case A's header with this n, w and first index, with a seed and a table of so many bytes
abbrev pub handed : (n w first seed size number : ℕ) → Case
handed n w first seed size number = record { sheet = numbered n 1 1 1 1 w first 8; comes_out = draws_not seed size number }

abbrev pub generated_runs : List Case
generated_runs =
    one_bit
    ∷ two_bits
    ∷ largest_seed
    ∷ (listed
    -- "Seed zero is refused by 16, after the header's causes and before 8."
    ++ (handed 4 0 0 0 144 16
    ∷ handed 4 0 0 0 143 16
    ∷ handed 4 0 0 1 143 8
    ∷ handed 4 0 0 1 144 0
    ∷ handed 0 0 0 0 144 2
    ∷ handed 4 9 0 0 144 15
    ∷ record { sheet = numbered 4 1 1 1 1 9 0 8 ++ 0 ∷ []; comes_out = draws_not 0 144 1 }
    -- all bits' tables
    ∷ handed 4 2 0 1 288 0
    ∷ handed 4 2 0 1 144 8
    -- the first index is not looked at
    ∷ handed 4 0 7 1 144 0
    ∷ []))

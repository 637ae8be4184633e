-- The cases A to H of document 01, "Runs worked through", as document 02's requests 2, 4 and 6 leave them: one table, a row for each sheet.
use Rattle.std.specs.Prelude.{ℕ, List, [], ◌∷◌, ◌++◌}
use Rattle.cases.specs.Table.{Wanted, prints, writes, accepted, refused_by, Case, head, rec, good, bad, opening}

abbrev pub case_A : Case
case_A = record {
  sheet = 4 ∷ 1 ∷ 1 ∷ 1 ∷ 1 ∷ 0 ∷ 0 ∷ 0 ∷ 8 ∷ 0 ∷ 0 ∷ 0 ∷ [];
  comes_out = prints (opening 4 1 1 1 9 ∷ good 1 1 2 0 0 ∷ good 2 1 2 0 0 ∷ good 3 1 2 0 0 ∷ bad 4 ∷ []);
}

-- "prints, whole": with every space and newline. Request 4: "case A's good lines end in a further 0, and its last line has four dashes."
abbrev pub case_A_whole : Case
case_A_whole = record {
  sheet = case_A.sheet;
  comes_out =
      writes
      ((97 ∷ 103 ∷ 114 ∷ 101 ∷ 101 ∷ 32 ∷ 52 ∷ 32 ∷ 49 ∷ 32 ∷ 49 ∷ 32 ∷ 49 ∷ 32 ∷ 57 ∷ 10 ∷ [])
      ++ (49 ∷ 32 ∷ 49 ∷ 32 ∷ 50 ∷ 32 ∷ 48 ∷ 32 ∷ 48 ∷ 10 ∷ [])
      ++ (50 ∷ 32 ∷ 49 ∷ 32 ∷ 50 ∷ 32 ∷ 48 ∷ 32 ∷ 48 ∷ 10 ∷ [])
      ++ (51 ∷ 32 ∷ 49 ∷ 32 ∷ 50 ∷ 32 ∷ 48 ∷ 32 ∷ 48 ∷ 10 ∷ [])
      ++ (52 ∷ 32 ∷ 45 ∷ 32 ∷ 45 ∷ 32 ∷ 45 ∷ 32 ∷ 45 ∷ 10 ∷ []));
}

-- "station 4 bad, telling station 1 a one and stations 2 and 3 a zero in round 1, then silent"; request 6: "Case B goes back to value 0, grade 1, flag 1."
abbrev pub case_B : Case
case_B = record {
  sheet = head 4 0 1 4 0 1 8 ++ rec 1 4 1 1 2 ++ rec 1 4 2 0 3 ++ rec 1 4 3 0 0;
  comes_out = prints (opening 4 0 1 4 6 ∷ good 1 0 1 1 0 ∷ good 2 0 1 1 0 ∷ good 3 0 1 1 0 ∷ bad 4 ∷ []);
}

-- "station 1 bad, sending 0 to station 2 and 1 to station 3 in rounds 1, 2, 3, 5 and 6, else silent"
abbrev pub case_C : Case
case_C = record {
  sheet =
      head 3 0 1 1 0 1 1
      ++ rec 1 1 2 0 2 ++ rec 1 1 3 1 3
      ++ rec 2 1 2 0 4 ++ rec 2 1 3 1 5
      ++ rec 3 1 2 0 6 ++ rec 3 1 3 1 7
      ++ rec 5 1 2 0 8 ++ rec 5 1 3 1 9
      ++ rec 6 1 2 0 10 ++ rec 6 1 3 1 0;
  comes_out = prints (opening 3 0 1 1 6 ∷ bad 1 ∷ good 2 0 1 1 0 ∷ good 3 1 1 1 0 ∷ []);
}

abbrev pub case_D : Case
case_D = record { sheet = head 1 0 0 1 0 0 0; comes_out = prints (opening 1 0 0 1 6 ∷ good 1 0 2 0 0 ∷ []) }

-- "Marked bad instead: three dashes.", with request 4 four
abbrev pub case_D_bad : Case
case_D_bad = record { sheet = head 1 0 0 1 0 0 1; comes_out = prints (opening 1 0 0 1 6 ∷ bad 1 ∷ []) }

-- a header alone, of value 0 and sender 1, with no station marked
abbrev pub bare : ℕ → ℕ → ℕ → Wanted → Case
bare n t T o = record { sheet = head n t T 1 0 0 0; comes_out = o }

abbrev pub cases : List Case
cases =
    case_A
    ∷ case_A_whole
    ∷ case_B
    ∷ case_C
    ∷ case_D
    ∷ case_D_bad
    -- E: "n 32 accepts t 10, T 10 and refuses t 11, T 11 by 3; it accepts t 0, T 15 and refuses t 0, T 16."
    ∷ bare 32 10 10 accepted
    ∷ bare 32 11 11 (refused_by 3)
    ∷ bare 32 0 15 accepted
    ∷ bare 32 0 16 (refused_by 3)
    -- F: "n 3, t 1, T 1 is refused by 3; n 4, t 1, T 1 is accepted."
    ∷ bare 3 1 1 (refused_by 3)
    ∷ bare 4 1 1 accepted
    -- G: "First index 1 and k 0 is 9. One record whose next index is 1 is 10."
    ∷ record { sheet = head 4 1 1 1 1 1 8; comes_out = refused_by 9 }
    ∷ record { sheet = head 4 1 1 1 1 1 8 ++ rec 1 4 1 1 1; comes_out = refused_by 10 }
    -- H: "Thirteen bytes of sheet are 1; n 0 in a full header is 2; n 33 is 2."
    ∷ record { sheet = head 4 1 1 1 1 0 8 ++ 0 ∷ []; comes_out = refused_by 1 }
    ∷ bare 0 0 0 (refused_by 2)
    ∷ bare 33 0 0 (refused_by 2)
    ∷ []

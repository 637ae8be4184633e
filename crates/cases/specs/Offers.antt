-- Offers and acceptances (document 02, request 8): a fifth table. A row is a header, and what one of its stations answers on rows that are handed to it.
use Rattle.std.specs.Prelude.{ℕ, List, [], ◌∷◌}
use Rattle.offer.specs.declared.Offer.{Offer}
use Rattle.cases.specs.Table.{offers, offers_not, accepts, Case, head}

-- case A's header: four stations, t and T 1, station 1 sends a one
abbrev pub line : List ℕ
line = head 4 1 1 1 1 0 8

-- one station alone
abbrev pub alone : List ℕ
alone = head 1 0 0 1 1 0 0

-- the sender's ballot, from it alone; a row of an exchange in which station 4 is silent
abbrev pub told : List ℕ
told = 1 ∷ 255 ∷ 255 ∷ 255 ∷ []

abbrev pub ones : List ℕ
ones = 1 ∷ 1 ∷ 1 ∷ 255 ∷ []

abbrev pub held : ℕ → ℕ → ℕ → ℕ → ℕ → ℕ → Offer
held round value z grade garbled ballot =
    record { round = round; value = value; z = z; grade = grade; garbled = garbled; ballot = ballot }

-- station 2 after these rows, on one more: the offer; the number by which it is refused; the number by which the acceptance is, with an offer that is held
abbrev pub shows : List (List ℕ) → List ℕ → List ℕ → Case
shows rows row bytes = record { sheet = line; comes_out = offers 2 rows row bytes }

abbrev pub shows_not : List (List ℕ) → List ℕ → ℕ → Case
shows_not rows row number = record { sheet = line; comes_out = offers_not 2 rows row number }

abbrev pub takes : List (List ℕ) → List ℕ → Offer → ℕ → Case
takes rows row offer number = record { sheet = line; comes_out = accepts 2 rows row offer number }

-- all rows of one station but its last
abbrev pub five : List (List ℕ)
five = (1 ∷ []) ∷ (1 ∷ []) ∷ (1 ∷ []) ∷ (1 ∷ []) ∷ (1 ∷ []) ∷ []

abbrev pub offered : List Case
offered =
    -- "the following state and its ballot": round, value, z, grade, count, ballot
    shows [] told (2 ∷ 1 ∷ 2 ∷ 0 ∷ 0 ∷ 1 ∷ [])
    ∷ shows [] (255 ∷ 255 ∷ 255 ∷ 255 ∷ []) (2 ∷ 0 ∷ 2 ∷ 0 ∷ 0 ∷ 0 ∷ [])
    ∷ shows (told ∷ []) ones (3 ∷ 1 ∷ 1 ∷ 0 ∷ 0 ∷ 1 ∷ [])
    -- two ones are fewer than n - T: a blank is shown; 7 is garbled, and counted
    ∷ shows (told ∷ []) (1 ∷ 1 ∷ 7 ∷ 0 ∷ []) (3 ∷ 1 ∷ 2 ∷ 0 ∷ 1 ∷ 2 ∷ [])
    -- in round 4 station 1 is king, and station 2 doesn't speak; in round 7 it is king itself
    ∷ shows (told ∷ ones ∷ []) ones (4 ∷ 1 ∷ 1 ∷ 2 ∷ 0 ∷ 255 ∷ [])
    ∷ shows (told ∷ ones ∷ ones ∷ told ∷ ones ∷ []) ones (7 ∷ 1 ∷ 1 ∷ 2 ∷ 0 ∷ 1 ∷ [])
    -- "255 if that state is done", where its value is 1; and no offer after that
    ∷ record { sheet = alone; comes_out = offers 1 five (1 ∷ []) (7 ∷ 1 ∷ 1 ∷ 2 ∷ 0 ∷ 255 ∷ []) }
    ∷ record { sheet = alone; comes_out = offers_not 1 ((1 ∷ []) ∷ five) (1 ∷ []) 7 }
    -- refused as the row is
    ∷ shows_not [] (1 ∷ 255 ∷ 255 ∷ []) 8
    ∷ record { sheet = head 0 1 1 1 1 0 8; comes_out = offers_not 2 [] told 2 }
    -- the offer of this station and row; each of its six bytes another; the old state
    ∷ takes [] told (held 2 1 2 0 0 1) 0
    ∷ takes [] told (held 3 1 2 0 0 1) 17
    ∷ takes [] told (held 2 0 2 0 0 1) 17
    ∷ takes [] told (held 2 1 1 0 0 1) 17
    ∷ takes [] told (held 2 1 2 1 0 1) 17
    ∷ takes [] told (held 2 1 2 0 1 1) 17
    ∷ takes [] told (held 2 1 2 0 0 255) 17
    ∷ takes [] told (held 1 1 2 0 0 255) 17
    -- "after the causes of the station and the row only"
    ∷ takes [] (1 ∷ 255 ∷ 255 ∷ []) (held 2 1 2 0 0 1) 8
    ∷ takes [] (1 ∷ 255 ∷ 255 ∷ []) (held 0 0 0 0 0 0) 8
    ∷ record { sheet = alone; comes_out = accepts 1 ((1 ∷ []) ∷ five) (1 ∷ []) (held 0 0 0 0 0 0) 7 }
    ∷ []

-- What the tally of a row has: for private functions.
use Rattle.std.specs.Prelude.{ℕ, ◌≡◌, List, eqb, count_by}
use Rattle.line.specs.Ballot.{blank, is_garbled, bit_or}
use Rattle.line.specs.declared.ballot.Ballot.{Ballot}
use Rattle.broadcast.specs.Exchange.{Row}
use Rattle.broadcast.specs.Broadcast.{speaks}
use Rattle.broadcast.specs.Garbled.{garbled_ballots}
use Rattle.step.specs.declared.Part.{Part}
use Rattle.step.specs.Part.{of_part}
use Rattle.station.specs.declared.tally.Tally.{Tally}

-- how many of the ballots that are expected are garbled
unfoldable pub found : ℕ → ℕ → Part → Row → ℕ
found n sender_from_0 p row = garbled_ballots n (speaks sender_from_0 (of_part p)) (of_part p) row

-- what a reader answers, of which `post` tells, is what this reading has of the byte
abbrev pub Reads : (ℕ → Ballot → Type 0) → (ℕ → Ballot) → Type 0
Reads post reading = (b : ℕ) (r : Ballot) → post b r → r ≡ reading b

-- how many of a row's bytes are read as a ballot that counts for v
abbrev pub votes : (ℕ → Ballot) → ℕ → List ℕ → ℕ
votes reading v row = count_by (λ b. eqb (bit_or blank (reading b)) v) row

-- how many as one that is garbled
abbrev pub garbled : (ℕ → Ballot) → List ℕ → ℕ
garbled reading row = count_by (λ b. is_garbled (reading b)) row

pub record Counts (reading : ℕ → Ballot) (row : List ℕ) (t : Tally) : Type 0 where
  pub zeros_are : t.zeros ≡ votes reading 0 row
  pub ones_are : t.ones ≡ votes reading 1 row
  pub garbled_are : t.garbled ≡ garbled reading row

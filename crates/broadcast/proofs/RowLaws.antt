-- A station looks at no more of a row than its n bytes: rows that agree there are taken alike. Assumes nothing.
use Prim.Native.Nat.{ℕ, ◌+◌, ◌≤◌, ◌<◌}
use mathlib.Core.Path.{◌≡◌, refl, ap}
use mathlib.Core.Bool.{Bool, true, false, ◌&&◌}
use lib.Dec.{ltb, eqb}
use Rattle.std.specs.Prelude.{if◌then◌else◌}
use Rattle.line.specs.Ballot.{read_sender, read_king, is_garbled}
use Rattle.line.proofs.CountLaws.{count_zero, count_next, count_le, count_one, count_same}
use Rattle.broadcast.specs.Exchange.{Row, tally, firsts, seconds, z_of, y_of}
use Rattle.broadcast.specs.Broadcast.{Part, from_sender, from_king, speaks}
use Rattle.broadcast.specs.Garbled.{reading, garbled_ballots, some_garbled}

module _ (n : ℕ) (row row' : Row) (same : (k : ℕ) → k < n → row k ≡ row' k) where
  tally_same : (read : ℕ → ℕ) (v : ℕ) → tally read n v row ≡ tally read n v row'
  unfolding tally
  tally_same read v = count_same n _ _ (λ k l. ap (λ (b : ℕ). eqb (read b) v) (same k l))

  firsts_same : (v : ℕ) → firsts n v row ≡ firsts n v row'
  unfolding firsts
  firsts_same = tally_same _

  pub seconds_same : (v : ℕ) → seconds n v row ≡ seconds n v row'
  unfolding seconds
  seconds_same = tally_same _

  pub z_same : (T x : ℕ) → z_of n T x row ≡ z_of n T x row'
  unfolding z_of
  z_same T x = rw (firsts_same x)

  pub y_same : y_of n row ≡ y_of n row'
  unfolding y_of
  y_same = rw (seconds_same 0, seconds_same 1)

-- ---- garbled ballots, one more as a loop counts

module _ (from : ℕ → Bool) (p : Part) (row : Row) where
  pub garbled_none : garbled_ballots 0 from p row ≡ 0
  unfolding garbled_ballots
  garbled_none = count_zero _

  pub garbled_next : (i : ℕ) → garbled_ballots (i + 1) from p row ≡ (if from i && is_garbled (reading p (row i)) then 1 else 0) + garbled_ballots i from p row
  unfolding garbled_ballots
  garbled_next i = count_next i _

  pub garbled_le : (n : ℕ) → garbled_ballots n from p row ≤ n
  unfolding garbled_ballots
  garbled_le n = count_le n _

-- of the one who should speak, where only one should
pub garbled_of_sender : (n sender : ℕ) (row : Row) → sender < n
    → garbled_ballots n (speaks sender from_sender) from_sender row ≡ (if is_garbled (read_sender (row sender)) then 1 else 0)
unfolding garbled_ballots speaks reading
garbled_of_sender n sender row h = count_one n sender (λ i. is_garbled (read_sender (row i))) h

pub garbled_of_king : (n sender k : ℕ) (row : Row) → k < n
    → garbled_ballots n (speaks sender (from_king k)) (from_king k) row ≡ (if is_garbled (read_king (row k)) then 1 else 0)
unfolding garbled_ballots speaks reading
garbled_of_king n sender k row h = count_one n k (λ i. is_garbled (read_king (row i))) h

-- of what is garbled only those matter who should speak
pub some_same : (n sender : ℕ) (p : Part) (row row' : Row) → ((k : ℕ) → k < n → speaks sender p k ≡ true → row k ≡ row' k)
    → some_garbled n sender p row ≡ some_garbled n sender p row'
unfolding some_garbled garbled_ballots
some_same n sender p row row' same = ap (ltb 0) (count_same n _ _ (λ k l. go k l (speaks sender p k) refl))
  where
    go : (k : ℕ) → k < n → (c : Bool) → speaks sender p k ≡ c → (c && is_garbled (reading p (row k))) ≡ (c && is_garbled (reading p (row' k)))
    go k l true e = ap (λ (b : ℕ). is_garbled (reading p b)) (same k l e)
    go k l false e = refl

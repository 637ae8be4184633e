-- How many of a row's bytes pass a test is how many places do; and what that makes of the ballots of an exchange. Assumes nothing.
use Rattle.std.proofs.Common.{◌≡◌, ℕ, zero, suc, ◌+◌, ◌≤◌, Bool, List, cond, eqb, get_or, length, take, refl, sym, ap, ◌∙◌, arith, add-one}
use Rattle.std.specs.Prelude.{if◌then◌else◌}
use Rattle.std.specs.List.{count_by}
use Rattle.std.proofs.lemmas.List.{take_all}
use Rattle.std.proofs.lemmas.List.Sums.{sum_by_more}
use Rattle.line.specs.Count.{count}
use Rattle.line.specs.Ballot.{blank, read_first, read_second, is_garbled, bit_or, first_value, second_value}
use Rattle.broadcast.specs.Exchange.{tally, firsts, seconds}
use Rattle.broadcast.specs.Broadcast.{speaks}
use Rattle.broadcast.specs.Garbled.{reading, garbled_ballots}
use Rattle.broadcast.specs.Station.{at}
use Rattle.step.specs.declared.Part.TheVariants.{First, Second}
use Rattle.station.specs.declared.tally.Tally.{Tally}
use Rattle.station.specs.Tallies.{found, votes, garbled, Counts}

front_counted : (p : ℕ → Bool) (xs : List ℕ) (i : ℕ) → i ≤ length xs → count_by p (take i xs) ≡ count i (λ k. p (get_or xs k 0))
unfolding count
front_counted p xs zero h = refl
front_counted p xs (suc i) h =
    let one = sum_by_more (λ x. cond (p x) 1 0) xs i 0 (omega arith) in
    let e : count_by p (take (suc i) xs) ≡ count_by p (take i xs) + cond (p (get_or xs i 0)) 1 0 = rw add-one at one in
    omega (arith, e, front_counted p xs i (omega arith))

counted : (p : ℕ → Bool) (xs : List ℕ) → count_by p xs ≡ count (length xs) (λ k. p (get_or xs k 0))
counted p xs = sym (ap (count_by p) (take_all (length xs) xs (omega arith))) ∙ front_counted p xs (length xs) (omega arith)

module _ (row : List ℕ) where
  votes_first : (v : ℕ) → votes read_first v row ≡ firsts (length row) v (at row)
  unfolding firsts tally first_value at
  votes_first v = counted (λ b. eqb (bit_or blank (read_first b)) v) row

  votes_second : (v : ℕ) → votes read_second v row ≡ seconds (length row) v (at row)
  unfolding seconds tally second_value at
  votes_second v = counted (λ b. eqb (bit_or blank (read_second b)) v) row

  garbled_first : (sender : ℕ) → garbled read_first row ≡ found (length row) sender First (at row)
  unfolding found garbled_ballots speaks reading at
  garbled_first sender = counted (λ b. is_garbled (read_first b)) row

  garbled_second : (sender : ℕ) → garbled read_second row ≡ found (length row) sender Second (at row)
  unfolding found garbled_ballots speaks reading at
  garbled_second sender = counted (λ b. is_garbled (read_second b)) row

  -- a tally has what the steps count; in an exchange all ballots are expected, whoever is the sender
  module _ (t : Tally) where
    pub equal_is : Counts read_first row t → (v : ℕ) → v ≤ 1 → (if eqb v 0 then t.zeros else t.ones) ≡ firsts (length row) v (at row)
    equal_is k zero h = k.zeros_are ∙ votes_first 0
    equal_is k (suc zero) h = k.ones_are ∙ votes_first 1
    equal_is k (suc (suc v)) h = absurd (omega arith)

    pub garbled_is : Counts read_first row t → (sender : ℕ) → t.garbled ≡ found (length row) sender First (at row)
    garbled_is k sender = k.garbled_are ∙ garbled_first sender

    module _ (k : Counts read_second row t) where
      pub zeros_are : t.zeros ≡ seconds (length row) 0 (at row)
      zeros_are = k.zeros_are ∙ votes_second 0

      pub ones_are : t.ones ≡ seconds (length row) 1 (at row)
      ones_are = k.ones_are ∙ votes_second 1

      pub garbled_are : (sender : ℕ) → t.garbled ≡ found (length row) sender Second (at row)
      garbled_are sender = k.garbled_are ∙ garbled_second sender

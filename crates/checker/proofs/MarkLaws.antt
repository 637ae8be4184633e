-- The marks that are put together are the set. Assumes nothing.
use Rattle.std.specs.Prelude.{if◌then◌else◌}
use Prim.Native.Nat.{ℕ, suc, ◌+◌, ◌*◌, ◌≤◌, ◌<◌}
use mathlib.Core.Path.{◌≡◌, refl, sym, ap, ◌∙◌}
use mathlib.Core.Bool.{Bool, true, false, not, ◌&&◌}
use mathlib.Core.List.{List, [], ◌∷◌}
use native.Mathlib.Omega.{arith}
use lib.Dec.{eqb}
use lib.ListN.{length, get_or, take, drop}
use Rattle.std.proofs.Math.Bool.{and-true}
use lib.Pointwise.{pointwise}
use lib.Seq.{drop-cons}
use borrow.Author.Tests.{eqb-true, eqb-false, eq-eqb, ne_eqb}
use Rattle.broadcast.specs.Exchange.{flag_of}
use Rattle.line.specs.Count.{all}
use Rattle.line.specs.Line.{rounds, outcome_size}
use Rattle.line.specs.Marks.{marks_of}
use Rattle.line.proofs.MarksLaws.{marks_same}
use Rattle.broadcast.specs.Station.{State, at}
use Rattle.round.specs.Round.{state_at}
use Rattle.rules.specs.Rules.{Logged, outcome_is, station, state, byte_is, bytes_are, keeps_with, breaks, broke}
use Rattle.rules.proofs.Theorems.{one_value_is_enough}
use Rattle.checker.specs.declared.Course.{Course}
use Rattle.checker.specs.Promise.{logged}
use Rattle.checker.specs.Followed.{tried_value, Followed, ends_as, breach, breaches}

-- kept is 1 or 0
breach_is : (a b : Bool) → breach (if a then 1 else 0) b ≡ not (a && b)
unfolding breach
breach_is true b = refl
breach_is false b = refl

-- the outcome is the one at i
ends_is : (s : State) (bytes : List ℕ) (i : ℕ) → ends_as s.value s.grade s.garbled bytes (outcome_size * i) ≡ outcome_is s bytes i
unfolding ends_as outcome_is at
ends_is s bytes i = refl

either_way : (a b : ℕ) → eqb a b ≡ eqb b a
either_way a b = go (eqb b a) refl
  where
    go : (c : Bool) → eqb b a ≡ c → eqb a b ≡ c
    go true e = eq-eqb a b (sym (eqb-true b a e))
    go false e = ne_eqb a b (λ q. eqb-false b a e (sym q))

-- the four bytes of an outcome are compared at once
pub ends_by_bytes : (value grade garbled : ℕ) (bytes : List ℕ) (k : ℕ) → k + 4 ≤ length bytes
    → pointwise eqb (take 4 (drop k bytes)) (value ∷ grade ∷ flag_of grade ∷ garbled ∷ []) ≡ ends_as value grade garbled bytes k
unfolding ends_as
ends_by_bytes value grade garbled bytes k room =
    let second : k + 1 ≡ suc k = omega arith in
    let third : k + 2 ≡ suc (suc k) = omega arith in
    let fourth : k + 3 ≡ suc (suc (suc k)) = omega arith in
    let byte = get_or bytes in
    rw (second, third, fourth)
    (rw (drop-cons bytes k 0 (omega arith), drop-cons bytes (suc k) 0 (omega arith), drop-cons bytes (suc (suc k)) 0 (omega arith), drop-cons bytes (suc (suc (suc k))) 0 (omega arith))
    (rw (either_way value (byte k 0), either_way grade (byte (suc k) 0), either_way (flag_of grade) (byte (suc (suc k)) 0), either_way garbled (byte (suc (suc (suc k))) 0), and-true (eqb (byte (suc (suc (suc k))) 0) garbled))))

-- other outcomes have no part in how the stations are followed
pub with_outcomes : (n t T sender : ℕ) (log outcomes : List ℕ) (v m : ℕ) (c : Course)
    → Followed (logged n t T sender log []) v m c → Followed (logged n t T sender log outcomes) v m c
unfolding state station bytes_are byte_is
with_outcomes n t T sender log outcomes v m c F = record { stations_are = F.stations_are; kept_are = F.kept_are }

module _ (L : Logged) (c : Course) (F : Followed L (tried_value L) (rounds L.t) c) where
  breaks_is : (i : ℕ) → i < L.n → breaches c.stations.value c.stations.grade c.stations.garbled c.kept L.outcomes i ≡ breaks L i
  unfolding breaches breaks keeps_with tried_value
  breaks_is i h =
      let v = tried_value L in
      let some : 0 < L.n = omega arith in
      let ended : ends_as (get_or c.stations.value i 0) (get_or c.stations.grade i 0) (get_or c.stations.garbled i 0) L.outcomes (outcome_size * i)
      ≡ outcome_is (state L i v (rounds L.t)) L.outcomes i =
      ends_is (state_at c.stations (rounds L.t + 1) i) L.outcomes i
      ∙ ap (λ (s : State). outcome_is s L.outcomes i) (F.stations_are i h) in
      rw (F.kept_are i h, ended)
      (breach_is (all (rounds L.t) (bytes_are L i v)) (outcome_is (state L i v (rounds L.t)) L.outcomes i)
      ∙ ap not (sym (one_value_is_enough L i some)))

  pub broke_is : marks_of L.n (breaches c.stations.value c.stations.grade c.stations.garbled c.kept L.outcomes) ≡ broke L
  unfolding broke
  broke_is = marks_same L.n _ (breaks L) breaks_is

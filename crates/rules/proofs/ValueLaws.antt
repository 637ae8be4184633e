-- One value is enough to try. Assumes nothing.
use Prim.Native.Nat.{ℕ, ◌-◌, ◌≤◌, ◌<◌}
use mathlib.Core.Path.{◌≡◌, refl, sym, ◌∙◌}
use mathlib.Core.Bool.{Bool, true, false}
use mathlib.Core.Logic.{◌≢◌}
use native.Mathlib.Omega.{arith}
use lib.Dec.{eqb}
use borrow.Author.Tests.{eqb-true, eqb-false, eq-eqb}
use Rattle.line.specs.Line.{from_0, rounds, place}
use Rattle.line.specs.Ballot.{silence, sender_value}
use Rattle.line.proofs.CountLaws.{if_true}
use Rattle.line.proofs.BallotLaws.{sender_value_keeps, sender_value_bit}
use Rattle.broadcast.specs.Station.{opened, at, after}
use Rattle.broadcast.specs.Bytes.{column}
use Rattle.broadcast.proofs.RoundLaws.{is_sender, ballot_sender}
use Rattle.broadcast.proofs.Theorems.{value_at_sender}
use Rattle.rules.specs.Rules.{Logged, station, state, KeepsWith, keeps_with, keeps}
use Rattle.rules.proofs.KeepsLaws.{with_true, with_hold, own_value, own_bit, keeps_true, keeps_hold}

same_test : (a b : Bool) → (a ≡ true → b ≡ true) → (b ≡ true → a ≡ true) → a ≡ b
same_test true b f g = sym (f refl)
same_test false true f g = g refl
same_test false false f g = refl

module _ (L : Logged) (some : 0 < L.n) where
  -- the sender's byte of round 1, to station 0
  told : ℕ
  told = at L.log (place L.n 1 (from_0 L.sender) 0)

  -- where the sender keeps the rules it is the value that it was opened with
  sender_told : (v : ℕ) → KeepsWith L (from_0 L.sender) v → told ≡ v
  unfolding told station state after opened
  sender_told v K =
      let i = from_0 L.sender in
      let l : 1 ≤ rounds L.t = omega arith in
      K.bytes 1 0 (omega arith) l some
      ∙ ballot_sender (station L i) (opened v) (is_sender 1 refl)
      ∙ if_true v silence (eq-eqb i i refl)

  -- elsewhere any value does
  other_value : (i v w : ℕ) → i ≢ from_0 L.sender → KeepsWith L i v → KeepsWith L i w
  unfolding station state
  other_value i v w ne K =
      let E = value_at_sender (station L i) ne v w (column L.n L.log i) in
      record {
        bytes = λ r j a b h. K.bytes r j a b h ∙ E.ballots (r - 1);
        outcome = sym (E.results (rounds L.t)) ∙ K.outcome;
      }

  with_told : (i v : ℕ) → v ≤ 1 → KeepsWith L i v → KeepsWith L i (sender_value told)
  with_told i v h K = go (eqb i (from_0 L.sender)) refl
    where
      at_sender : (k : ℕ) → k ≡ from_0 L.sender → KeepsWith L k v → KeepsWith L k (sender_value told)
      at_sender k e K = let K' = rw e at K in rw (sender_told v K', sender_value_keeps v h) K

      go : (b : Bool) → eqb i (from_0 L.sender) ≡ b → KeepsWith L i (sender_value told)
      go true e = at_sender i (eqb-true i (from_0 L.sender) e) K
      go false e = other_value i v (sender_value told) (eqb-false i (from_0 L.sender) e) K

  pub one_value : (i : ℕ) → keeps L i ≡ keeps_with L i (sender_value (at L.log (place L.n 1 (from_0 L.sender) 0)))
  unfolding told
  one_value i =
      same_test _ _ (λ e. with_hold L i (sender_value told) (with_told i (own_value L i) (own_bit L i) (keeps_true L i e)))
      (λ e. keeps_hold L i (sender_value told, sender_value_bit told, with_true L i (sender_value told) e))

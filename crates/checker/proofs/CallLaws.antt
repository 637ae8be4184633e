-- The rules are those of the station's calls: a station's calls in a row on its rows of the log are its automaton's. Assumes nothing.
use Prim.Native.Nat.{ℕ, ◌+◌, ◌-◌, ◌≤◌, ◌<◌}
use Rattle.refusal.specs.Cause.{no_cause}
use mathlib.Core.Path.{◌≡◌, sym}
use native.Mathlib.Omega.{arith}
use lib.Pow.{pow_pos}
use Rattle.line.proofs.MarksLaws.{marked_above}
use Rattle.state.specs.Judgement.{opening_verdict}
use Rattle.state.proofs.SoundLaws.{opening_accepts}
use Rattle.station.specs.Singly.{Automatic}
use Rattle.station.proofs.Theorems.{singly_by_automaton}
use Rattle.rules.specs.Rules.{Logged, outcome_at, station, state, KeepsWith}
use Rattle.checker.specs.Promise.{verdict_of}
use Rattle.checker.specs.Theorems.{KeepsByCalls}
use Rattle.checker.proofs.AnswerLaws.{checkable_alone}

module _ (L : Logged) (i v : ℕ) where
  -- it is opened with numbers that are not refused
  accepted_opening : verdict_of L ≡ no_cause → i < L.n → v ≤ 1 → opening_verdict L.n L.t L.T L.sender (i + 1) v ≡ no_cause
  accepted_opening accepted h bit =
      let C = checkable_alone L accepted in
      opening_accepts L.n L.t L.T L.sender (i + 1) v 0
      (record {
        some = omega arith;
        most = C.most;
        fits = C.fitting.fits;
        sender_low = C.fitting.sender_low;
        sender_high = C.fitting.sender_high;
        value_bit = bit;
        within = λ k l. marked_above 0 k (pow_pos k);
      })
      (omega arith) (omega arith)

  -- to keep the rules is to do what the automaton does
  keeping : KeepsWith L i v → Automatic L.n L.t L.T L.sender L.log L.outcomes i v
  unfolding outcome_at station state
  keeping K = record {
    ballots = λ m j l k.
        let back : m + 1 - 1 ≡ m = omega arith in
        sym (rw back at (K.bytes (m + 1) j (omega arith) (omega arith) k));
    done_after = K.outcome;
  }

  kept : Automatic L.n L.t L.T L.sender L.log L.outcomes i v → KeepsWith L i v
  unfolding outcome_at station state
  kept A = record {
    bytes = λ r j a b k.
        let back : r - 1 + 1 ≡ r = omega arith in
        sym (rw back at (A.ballots (r - 1) j (omega arith) k));
    outcome = A.done_after;
  }

pub keeps_by_calls : KeepsByCalls
keeps_by_calls L accepted i v h bit =
    let s = singly_by_automaton L.n L.t L.T L.sender L.log L.outcomes i v (accepted_opening L i v accepted h bit) in
    ((λ K. s.1 (keeping L i v K)), (λ S. kept L i v (s.0 S)))

-- The stations are followed as the rules have it: a round more, and before the first. Assumes nothing.
use Rattle.std.specs.Prelude.{if◌then◌else◌}
use Prim.Native.Nat.{ℕ, suc, ◌+◌, ◌*◌, ◌≤◌, ◌<◌}
use mathlib.Core.Path.{◌≡◌, refl, sym, ◌∙◌}
use mathlib.Core.Bool.{Bool, true, false, ◌&&◌, true≢false}
use mathlib.Core.List.{List}
use native.Mathlib.Omega.{arith}
use native.Mathlib.Numerals.{add-one}
use native.Mathlib.Nat.{zero-mul}
use lib.ListN.{length, get_or, replicate, get_or-replicate}
use Rattle.line.specs.Count.{all}
use Rattle.line.specs.Line.{from_0, rounds, table_length, place, has_round}
use Rattle.line.specs.Marks.{all_marks}
use Rattle.line.specs.Writing.{Each}
use Rattle.line.proofs.CountLaws.{all_same}
use Rattle.line.proofs.MarksLaws.{all_marked}
use Rattle.line.proofs.LineLaws.{rounds_bound, row_within, round_within, round_there}
use Rattle.broadcast.specs.Broadcast.{part}
use Rattle.broadcast.specs.Station.{ballot, at}
use Rattle.broadcast.specs.Bytes.{column}
use Rattle.broadcast.proofs.BytesLaws.{at_tabulate, at_in_round}
use Rattle.step.specs.Part.{as_part}
use Rattle.column.specs.Column as columns
use Rattle.round.specs.declared.Stations.{Stations}
use Rattle.round.specs.Round.{state_at, all_opened, said_by, speaker_within, Takes}
use Rattle.round.proofs.RoundLaws.{says_ballot, takes_row, opened_at, speaker_in, can_take}
use Rattle.compare.specs.Compare.{sends, unless_other, kept_on}
use Rattle.compare.proofs.CompareLaws.{kept_there}
use Rattle.rules.specs.Rules.{Logged, station, state, byte_is, bytes_are}
use Rattle.checker.specs.declared.Course.{Course}
use Rattle.checker.specs.Followed.{Checkable, Followed}

-- one test after another
both : (a b : Bool) → ◌≡◌ {A = ℕ} (if a then (if b then 1 else 0) else 0) (if (a && b) then 1 else 0)
both true b = refl
both false b = refl

module _ (L : Logged) (C : Checkable L) where
  few_rounds : rounds L.t ≤ 36
  few_rounds = rounds_bound L.n L.t L.T C.most C.fitting.fits

  room : (m : ℕ) → m < rounds L.t → m * (L.n * L.n) + L.n * L.n ≤ table_length L.n L.t
  room m h = round_within L.n L.t m h

  -- the sender's first byte
  pub first_place : get_or L.log (from_0 L.sender * L.n) 0 ≡ at L.log (place L.n 1 (from_0 L.sender) 0)
  first_place =
      let e : 0 * (L.n * L.n) + from_0 L.sender * L.n + 0 ≡ from_0 L.sender * L.n = omega (arith, zero-mul (L.n * L.n)) in
      sym (rw e at (at_in_round L.log L.n 0 (from_0 L.sender) 0))

  speaker : (r : ℕ) → 1 ≤ r → r ≤ rounds L.t → speaker_within L.n (from_0 L.sender) (as_part (part r)) ≡ true
  speaker =
      speaker_in L.n L.t L.T (from_0 L.sender) C.fitting.fits
      (omega (arith, C.fitting.sender_low, C.fitting.sender_high))

  there : (m : ℕ) → m < rounds L.t → has_round L.n (m * (L.n * L.n)) (length L.log) ≡ true
  there m h =
      round_there L.n (m * (L.n * L.n)) (length L.log) C.most (omega (arith, room m h, C.fitting.log_length))

  -- ---- one round more

  module _ (m : ℕ) (left : m < rounds L.t) (v : ℕ) (c : Course) (F : Followed L v m c) where
    here : (i : ℕ) → i < L.n → state_at c.stations (suc m) i ≡ state L i v m
    here i h = rw (add-one m) at (F.stations_are i h)

    -- a station's column of the log is its row
    row_is : (i : ℕ) → i < L.n → (k : ℕ) → k < L.n → columns.column L.log (m * (L.n * L.n)) L.n i k ≡ at (column L.n L.log i (suc m)) k
    unfolding column columns.column
    row_is i h k l = sym (at_tabulate L.n _ k l ∙ at_in_round L.log L.n m k i)

    stepped : (s' : Stations) → Takes L.n L.t L.T (from_0 L.sender) (as_part (part (suc m))) all_marks c.stations L.log (m * (L.n * L.n)) s'
        → (i : ℕ) → i < L.n → state_at s' (suc m + 1) i ≡ state L i v (suc m)
    unfolding state station
    stepped s' Q i h =
        takes_row L.n L.t L.T (from_0 L.sender) c.stations v m i (column L.n L.log i) (here i h)
        all_marks L.log (m * (L.n * L.n)) s'
        (Q.takes (can_take L.n (from_0 L.sender) (as_part (part (suc m))) (m * (L.n * L.n)) (length L.log) (speaker (suc m) (omega arith) (omega arith)) (there m left)))
        h (speaker (suc m) (omega arith) (omega arith)) (there m left) (omega (arith, few_rounds)) (row_is i h)
        (λ k l unmarked _. absurd (true≢false (sym (all_marked k (omega (arith, C.most))) ∙ unmarked)))

    module _ (said : List ℕ) (says : Each L.n said (said_by (from_0 L.sender) (as_part (part (suc m))) c.stations)) where
      said_is : (i : ℕ) → i < L.n → get_or said i 0 ≡ ballot (station L i) (state L i v m)
      unfolding Each state station
      said_is i h =
          says i h ∙ says_ballot L.n L.t L.T (from_0 L.sender) c.stations v m i (column L.n L.log i) (here i h)

      -- the bytes are compared as the rules do
      sent_is : (i : ℕ) → i < L.n → sends L.log (m * (L.n * L.n)) L.n i (get_or said i 0) ≡ bytes_are L i v m
      unfolding sends bytes_are byte_is
      sent_is i h =
          all_same L.n _ _
          (λ j l.
          let e : m + 1 ≡ suc m = add-one m in
          rw (said_is i h, e, at_in_round L.log L.n m i j))

      kept_so : (kept : List ℕ) → Each L.n kept (kept_on L.n said L.log (m * (L.n * L.n)) c.kept)
          → (i : ℕ) → i < L.n → get_or kept i 0 ≡ (if all (suc m) (bytes_are L i v) then 1 else 0)
      unfolding Each unless_other all
      kept_so kept compared i h =
          compared i h
          ∙ kept_there L.n said L.log (m * (L.n * L.n)) c.kept i (there m left)
          ∙ rw (sent_is i h, F.kept_are i h) (both (bytes_are L i v m) (all m (bytes_are L i v)))

      pub followed_on : (kept : List ℕ) → Each L.n kept (kept_on L.n said L.log (m * (L.n * L.n)) c.kept)
          → (s' : Stations) → Takes L.n L.t L.T (from_0 L.sender) (as_part (part (suc m))) all_marks c.stations L.log (m * (L.n * L.n)) s'
          → Followed L v (suc m) (record { stations = s'; kept = kept })
      followed_on kept compared s' Q = record { stations_are = stepped s' Q; kept_are = kept_so kept compared }

  -- ---- before the first round

  pub opened_follows : (v : ℕ) → Followed L v 0 (record { stations = all_opened (replicate 32 v); kept = replicate 32 1 })
  unfolding state station all
  opened_follows v = record {
    stations_are = λ i h. opened_at L.n L.t L.T (from_0 L.sender) v i (column L.n L.log i) (omega (arith, C.most));
    kept_are = λ i h. get_or-replicate 32 i 1 0 (omega (arith, C.most));
  }

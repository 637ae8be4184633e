-- A station's calls in a row: what each answers, on any rows. Assumes nothing.
use Prim.Native.Nat.{ℕ, suc, ◌+◌, ◌≤◌, ◌<◌}
use Rattle.std.specs.declared.result.Result.TheVariants.{Err}
use Rattle.std.specs.declared.result.Result.TheVariants.{Ok}
use mathlib.Core.Path.{◌≡◌, refl, ap, ◌∙◌}
use mathlib.Core.List.{List}
use native.Mathlib.Omega.{arith}
use lib.ListN.{length}
use borrow.Author.Tests.{eq-eqb, ltb-false}
use Rattle.line.specs.Line.{rounds, Fits}
use Rattle.header.specs.Header.{station_number, bit}
use Rattle.refusal.specs.declared.cause.Cause.TheVariants.{StationState}
use Rattle.refusal.specs.Cause.{Verdict, no_cause, answered}
use Rattle.refusal.proofs.VerdictLaws.{both_accepted, accepted_false, refused_true}
use Rattle.header.proofs.HeaderLaws.{inside, line_sound}
use Rattle.broadcast.specs.Station.{advance, result, at, after}
use Rattle.broadcast.proofs.RoundLaws.{after_range, after_round, after_count_le, done_after}
use Rattle.state.specs.declared.Station.{Station}
use Rattle.state.specs.Judgement.{is_done, telling_verdict, taking_verdict, opening_verdict, Sound}
use Rattle.station.specs.Automaton.{setup_of, state_of, in_state, opened_station, as_result, result_of}
use Rattle.station.specs.Answers.{result_answer}
use Rattle.station.specs.Theorems.{Opening, setup, state_after, station_after, InARow}
use Rattle.state.proofs.SoundLaws.{sound_accepts, telling_accepts, taking_accepts}

-- what opening lets through
record OpensWell (o : Opening) : Type 0 where
  most : o.n ≤ 32
  fits : Fits o.n o.t o.T
  sender_low : 1 ≤ o.sender
  sender_high : o.sender ≤ o.n
  own_low : 1 ≤ o.own
  own_high : o.own ≤ o.n
  value_bit : o.value ≤ 1

opens_well : (o : Opening) → opening_verdict o.n o.t o.T o.sender o.own o.value ≡ no_cause → OpensWell o
unfolding opening_verdict station_number bit
opens_well o e =
    let (a, e₂) = both_accepted _ _ e in
    let (c, e₃) = both_accepted _ _ e₂ in
    let (d, f) = both_accepted _ _ e₃ in
    let (some, most, fits) = line_sound o.n o.t o.T a in
    let sender = inside 1 o.n o.sender (accepted_false _ _ c) in
    let own = inside 1 o.n o.own (accepted_false _ _ d) in
    record {
      most = most;
      fits = fits;
      sender_low = sender.0;
      sender_high = sender.1;
      own_low = own.0;
      own_high = own.1;
      value_bit = ltb-false 1 o.value (accepted_false _ _ f);
    }

-- a done station's verdict
done_telling : (s : Station) → Sound s → s.round ≡ rounds s.t + 1 → telling_verdict s ≡ Err StationState
unfolding telling_verdict is_done
done_telling s h e = rw (sound_accepts s h) (refused_true _ (eq-eqb s.round (rounds s.t + 1) e))

done_taking : (s : Station) (row : ℕ) → Sound s → s.round ≡ rounds s.t + 1 → taking_verdict s row ≡ Err StationState
unfolding taking_verdict
done_taking s row h e = rw (done_telling s h e)

module _ (o : Opening) (e : opening_verdict o.n o.t o.T o.sender o.own o.value ≡ no_cause) (rows : ℕ → List ℕ) where
  abbrev S : ℕ → Station
  S = station_after o rows

  well : OpensWell o
  well = opens_well o e

  sound_after : (m : ℕ) → m ≤ rounds o.t → Sound (S m)
  sound_after m l =
      let g = after_range (setup o) o.value rows well.value_bit m in
      let r = after_round (setup o) o.value rows m in
      record {
        most = well.most;
        fits = well.fits;
        sender_low = well.sender_low;
        sender_high = well.sender_high;
        own_low = well.own_low;
        own_high = well.own_high;
        round_low = omega arith;
        round_high = omega arith;
        value_bit = g.value_bit;
        z_high = g.z_high;
        grade_high = g.grade_high;
        garbled_below = omega (arith, after_count_le (setup o) o.value rows m);
      }

  last : (S (rounds o.t)).round ≡ rounds o.t + 1
  last = omega (arith, after_round (setup o) o.value rows (rounds o.t))

  telling : (m : ℕ) → m < rounds o.t → telling_verdict (S m) ≡ no_cause
  telling m h =
      let r = after_round (setup o) o.value rows m in
      telling_accepts (S m) (sound_after m (omega arith)) (omega arith)

  taking : (m : ℕ) → m < rounds o.t → length (rows (suc m)) ≡ o.n → taking_verdict (S m) (length (rows (suc m))) ≡ no_cause
  taking m h q =
      let r = after_round (setup o) o.value rows m in
      taking_accepts (S m) (rows (suc m)) (record { sound = sound_after m (omega arith); round_left = omega arith; whole = q })

  stepped : (m : ℕ) → in_state (S m) (advance (setup_of (S m)) (state_of (S m)) (at (rows (suc m)))) ≡ S (suc m)
  unfolding after
  stepped m = refl

  opened_is : opened_station o.n o.t o.T o.sender o.own o.value ≡ S 0
  unfolding opened_station after
  opened_is = refl

  shown : (m : ℕ) → m ≤ rounds o.t → result_answer (S m) ≡ Ok (as_result (result (setup o) (state_after o rows m)))
  unfolding result_of
  shown m h = ap (λ (v : Verdict). answered v (result_of (S m))) (sound_accepts (S m) (sound_after m h))

  pub in_a_row : InARow o rows
  in_a_row = record {
    opens = rw (e, opened_is);
    tells = λ m h. rw (telling m h);
    advances = λ m h q. rw (taking m h q, stepped m);
    running = λ m h. shown m (omega arith) ∙ ap (λ q. Ok (as_result q)) ((done_after (setup o) o.value rows).running_before m h);
    done = shown (rounds o.t) (omega arith) ∙ ap (λ q. Ok (as_result q)) (done_after (setup o) o.value rows).done_after;
    tells_no_more = rw (done_telling (S (rounds o.t)) (sound_after (rounds o.t) (omega arith)) last);
    takes_no_more = λ row. rw (done_taking (S (rounds o.t)) (length row) (sound_after (rounds o.t) (omega arith)) last);
  }

-- The promise of `rehearse` from the judgement and the run: accepted, with demands 2 and 3, or refused with nothing written. Assumes nothing.
use Prim.Native.Nat.{ℕ, ◌<◌}
use Rattle.std.specs.declared.result.Result.TheVariants.{Err}
use mathlib.Core.Path.{◌≡◌, refl, sym, ◌∙◌}
use mathlib.Core.List.{List}
use lib.ListN.{length}
use Rattle.line.specs.Line.{table_length}
use Rattle.line.specs.Width.{bits, tables_length, part_of}
use Rattle.line.proofs.WidthLaws.{parts_same}
use Rattle.refusal.specs.declared.cause.Cause.{Cause}
use Rattle.refusal.specs.Cause.{Verdict, no_cause}
use Rattle.refusal.proofs.VerdictLaws.{judged, both_accepted, never}
use Rattle.header.specs.Header.{SoundNumber}
use Rattle.header.proofs.HeaderLaws.{length_exact, number_sound, bit_sound}
use Rattle.number.specs.Numbers.{NumberRun, bit_run, logs, gathered, bit_outcomes, number_outcomes}
use Rattle.number.proofs.BufferLaws.{all_logs, one_log, gathered_same}
use Rattle.number.proofs.Theorems.{demand_3_of_numbers}
use Rattle.rehearsal.specs.Calls.{Values, MadeOfCalls, SingleStations}
use Rattle.rehearsal.proofs.CallLaws.{single_stations}
use Rattle.recipe.specs.Promise.{number_rehearsal_verdict, number_verdict_of, BitByBit, RehearsedRecipe}
use Rattle.recipe.specs.Loops.{Playable, Ran}

-- ---- demand 2, bit by bit

module _ (N : NumberRun) (sound : SoundNumber N.n N.t N.T N.sender N.number N.w N.marks)
    (v : ℕ → ℕ → ℕ) (values : (b : ℕ) → b < bits N.w → Values (bit_run N b) (v b)) where
  -- each bit's run is that of its single stations
  bit_stations : (b : ℕ) → b < bits N.w → SingleStations (bit_run N b) (v b) (part_of (table_length N.n N.t) (logs N) b) (bit_outcomes N b)
  unfolding bit_outcomes bit_run
  bit_stations b l =
      rw (one_log N b l)
      (single_stations (bit_run N b) (bit_sound N.n N.t N.T N.sender N.number N.w N.marks sound b) (v b) (values b l))

  stations_made : (logs' : List ℕ) (results' : ℕ → List ℕ) → length logs' ≡ tables_length N.n N.t N.w
      → ((b : ℕ) → b < bits N.w → MadeOfCalls (bit_run N b) (v b) (part_of (table_length N.n N.t) logs' b) (results' b))
      → (logs' ≡ logs N) × (gathered N.n N.marks (bits N.w) results' ≡ number_outcomes N)
  unfolding number_outcomes
  stations_made logs' results' size made = (
    parts_same (table_length N.n N.t) logs' (logs N) (bits N.w) size (all_logs N) (λ b l. ((bit_stations b l).together _ _ (made b l)).0),
    gathered_same N.n N.marks (bits N.w) results' (bit_outcomes N) (λ b l. ((bit_stations b l).together _ _ (made b l)).1),
  )

  bit_by_bit : BitByBit N v (logs N) (number_outcomes N)
  unfolding number_outcomes
  bit_by_bit = record { results = bit_outcomes N; each = bit_stations; outcomes_are = refl; together = stations_made }

-- ---- the promise

module _ (N : NumberRun) (logs₀ outcomes₀ : List ℕ) where
  pub playable : number_verdict_of N logs₀ outcomes₀ ≡ no_cause → Playable N logs₀ outcomes₀
  unfolding number_rehearsal_verdict
  playable e =
      let (a, e₂) = both_accepted _ _ e in
      let (b, e₃) = both_accepted _ _ e₂ in
      let (c, d) = both_accepted _ _ e₃ in
      record {
        header = number_sound N.n N.t N.T N.sender N.number N.w N.marks a;
        tables_whole = length_exact _ _ b;
        logs_whole = length_exact _ _ c;
        outcomes_whole = length_exact _ _ d;
      }

  pub accepted : (answer : Verdict) (logs₁ outcomes₁ : List ℕ) → answer ≡ number_verdict_of N logs₀ outcomes₀ → answer ≡ no_cause
      → Ran N logs₁ outcomes₁ → RehearsedRecipe N logs₀ logs₁ outcomes₀ outcomes₁ answer
  accepted answer logs₁ outcomes₁ e a ran =
      let h = (playable (sym e ∙ a)).header in
      record {
        judged = judged e;
        logs_are = rw a ran.logs_are;
        outcomes_are = rw a ran.outcomes_are;
        demand_2 = λ _ v values. rw (ran.logs_are, ran.outcomes_are) (bit_by_bit N h v values);
        demand_3 = λ _. rw ran.outcomes_are (demand_3_of_numbers N h.fits h.small);
      }

  pub refused : (answer : Verdict) (c : Cause) → answer ≡ number_verdict_of N logs₀ outcomes₀ → answer ≡ Err c
      → RehearsedRecipe N logs₀ logs₀ outcomes₀ outcomes₀ answer
  refused answer c e r =
      record {
        judged = judged e;
        logs_are = rw r refl;
        outcomes_are = rw r refl;
        demand_2 = λ a. never (sym r ∙ a);
        demand_3 = λ a. never (sym r ∙ a);
      }

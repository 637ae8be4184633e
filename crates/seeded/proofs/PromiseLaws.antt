-- Laws of what `rehearse` promises: what no cause refuses, and the promise by what the verdict is. Assumes nothing.
use Prim.Native.Nat.{ℕ}
use Rattle.std.specs.declared.result.Result.TheVariants.{Err}
use mathlib.Core.Path.{◌≡◌, refl, sym, ◌∙◌}
use mathlib.Core.List.{List}
use lib.ListN.{length}
use Rattle.line.specs.Line.{table_length, outcomes_length}
use Rattle.refusal.specs.declared.cause.Cause.{Cause}
use Rattle.refusal.specs.Cause.{Verdict, no_cause}
use Rattle.refusal.proofs.VerdictLaws.{judged, never, both_accepted}
use Rattle.header.proofs.HeaderLaws.{number_sound, number_verdict_accepts, length_exact, length_accepts}
use Rattle.number.proofs.Theorems.{demand_3_of_numbers}
use Rattle.header.specs.declared.Header.{Header}
use Rattle.reader.specs.Loops.{SoundHeader}
use Rattle.generator.specs.Tables.{generated}
use Rattle.generator.specs.Judgement.{seed_some}
use Rattle.listing_lines.specs.Lines.{run}
use Rattle.seeded.specs.Promise.{seed_run, seed_verdict, RehearsedSeed}
use Rattle.seeded.specs.Loops.{BitsRun, Ran}
use Rattle.seeded.proofs.BitLaws.{bits_begin}

module _ (h : Header) (seed : ℕ) (table₀ log₀ outcomes₀ : List ℕ) where
  taken_sound : seed_verdict h seed (length table₀) (length log₀) (length outcomes₀) ≡ no_cause → SoundHeader h
  unfolding seed_verdict
  taken_sound e = number_sound _ _ _ _ _ _ _ (both_accepted _ _ e).0

  -- what no cause refuses can begin
  pub begins : seed_verdict h seed (length table₀) (length log₀) (length outcomes₀) ≡ no_cause → BitsRun h seed 0 seed table₀ log₀ outcomes₀
  unfolding seed_verdict
  begins e =
      let (a, e₁) = both_accepted _ _ e in
      let (s, e₂) = both_accepted (seed_some seed) _ e₁ in
      let (b, e₃) = both_accepted _ _ e₂ in
      let (c, d) = both_accepted _ _ e₃ in
      bits_begin h seed table₀ log₀ outcomes₀ (number_sound _ _ _ _ _ _ _ a) (length_exact _ _ b) (length_exact _ _ c) (length_exact _ _ d)

  -- and a sound header with a seed that isn't zero and buffers of their lengths is not refused
  pub not_refused : SoundHeader h → seed_some seed ≡ no_cause → length table₀ ≡ table_length h.line.n h.line.t → length log₀ ≡ table_length h.line.n h.line.t
      → length outcomes₀ ≡ outcomes_length h.line.n → seed_verdict h seed (length table₀) (length log₀) (length outcomes₀) ≡ no_cause
  unfolding seed_verdict
  not_refused sound some a b c =
      rw (number_verdict_accepts _ _ _ _ _ _ _ sound, some, length_accepts _ _ a, length_accepts _ _ b, length_accepts _ _ c)

  module _ {answer : Verdict} (v : answer ≡ seed_verdict h seed (length table₀) (length log₀) (length outcomes₀)) where
    pub accepted : (table₁ log₁ outcomes₁ : List ℕ) → answer ≡ no_cause → Ran h seed table₁ log₁ outcomes₁
        → RehearsedSeed h seed table₀ table₁ log₀ log₁ outcomes₀ outcomes₁ answer
    unfolding seed_run
    accepted table₁ log₁ outcomes₁ a ran =
        let sound = taken_sound (sym v ∙ a) in
        record {
          judged = judged v;
          table_is = rw a ran.table_is;
          log_is = rw a ran.log_is;
          outcomes_are = rw a ran.outcomes_are;
          demand_3 = λ _. rw ran.outcomes_are (demand_3_of_numbers (run h (generated h seed)) sound.fits sound.small);
        }

    pub refused : (c : Cause) → answer ≡ Err c → RehearsedSeed h seed table₀ table₀ log₀ log₀ outcomes₀ outcomes₀ answer
    refused c q = record {
      judged = judged v;
      table_is = rw q refl;
      log_is = rw q refl;
      outcomes_are = rw q refl;
      demand_3 = λ a. never (sym q ∙ a);
    }

-- Laws of one seed's run, listed. Assumes nothing.
use Prim.Native.Nat.{ℕ, ◌≤◌}
use mathlib.Core.Path.{◌≡◌, ◌∙◌}
use mathlib.Core.Logic.{◌≢◌}
use mathlib.Core.List.{List}
use native.Mathlib.Omega.{arith}
use lib.ListN.{length}
use borrow.Author.Tests.{ne_eqb}
use Rattle.refusal.specs.declared.cause.Cause.TheVariants.{Seed}
use Rattle.refusal.specs.Cause.{Verdict, no_cause}
use Rattle.refusal.proofs.VerdictLaws.{refused_false}
use Rattle.number.specs.Numbers.{number_outcomes}
use Rattle.header.specs.declared.Header.{Header}
use Rattle.text.specs.Laid.{Puts}
use Rattle.listing_lines.specs.Lines.{lines_by}
use Rattle.listing_lines.specs.Text.{text}
use Rattle.generator.specs.Judgement.{seed_some}
use Rattle.seeded.specs.Promise.{seed_run, RehearsedSeed}
use Rattle.seeded.specs.Listings.{seed_lines}
use Rattle.seeded.proofs.PromiseLaws.{not_refused}
use Rattle.seeds.specs.Loops as loops

seed_taken : (seed : ℕ) → 1 ≤ seed → seed_some seed ≡ no_cause
unfolding seed_some
seed_taken seed some = let ne : seed ≢ 0 = λ e. omega arith in refused_false Seed (ne_eqb seed 0 ne)

module _ (h : Header) (seed : ℕ) (some : loops.Seed seed) (table₀ table₁ log₀ log₁ outcomes₀ outcomes₁ : List ℕ) {answer : Verdict}
    (ready : loops.Ready h table₀ log₀ outcomes₀) (R : RehearsedSeed h seed table₀ table₁ log₀ log₁ outcomes₀ outcomes₁ answer) where
  taken : answer ≡ no_cause
  taken =
      R.judged.answer_is
      ∙ not_refused h seed table₀ log₀ outcomes₀ ready.sound (seed_taken seed some.some) ready.table_whole ready.log_whole ready.outcomes_whole

  -- what the outcomes' lines are
  pub lines_seed : (out₀ out₁ : List ℕ) (at r : ℕ) → Puts out₀ out₁ at (text (lines_by no_cause h outcomes₁)) r → Puts out₀ out₁ at (text (seed_lines h seed)) r
  unfolding seed_lines
  lines_seed out₀ out₁ at r p = let e : outcomes₁ ≡ number_outcomes (seed_run h seed) = rw taken at R.outcomes_are in rw e at p

-- buffers that have kept their lengths are ready again
pub ready_again : (h : Header) (table₀ table₁ log₀ log₁ outcomes₀ outcomes₁ : List ℕ) → length table₁ ≡ length table₀ → length log₁ ≡ length log₀
    → length outcomes₁ ≡ length outcomes₀ → loops.Ready h table₀ log₀ outcomes₀ → loops.Ready h table₁ log₁ outcomes₁
ready_again h table₀ table₁ log₀ log₁ outcomes₀ outcomes₁ a b c P =
    record { sound = P.sound; table_whole = a ∙ P.table_whole; log_whole = b ∙ P.log_whole; outcomes_whole = c ∙ P.outcomes_whole }

-- Laws of the listings of seeds: one seed more, and how long they can be. Assumes nothing.
use Prim.Native.Nat.{ℕ, zero, suc, ◌*◌, ◌≤◌}
use mathlib.Core.List.{List}
use native.Mathlib.Omega.{arith}
use native.Mathlib.Nat.{mul-suc}
use lib.ListN.{length, length-append}
use Rattle.header.specs.declared.Header.{Header}
use Rattle.reader.specs.Loops.{SoundHeader}
use Rattle.text.specs.Laid.{Puts}
use Rattle.text.proofs.LaidLaws.{puts_then}
use Rattle.listing_lines.specs.Text.{text}
use Rattle.listing.specs.Theorems.{longest_listing}
use Rattle.listing.proofs.LengthLaws.{run_short}
use Rattle.generator.specs.Tables.{generated}
use Rattle.seeded.specs.Promise.{seed_run}
use Rattle.seeded.specs.Listings.{seed_lines, listings}

seed_short : (h : Header) (seed : ℕ) → SoundHeader h → length (text (seed_lines h seed)) ≤ longest_listing
unfolding seed_lines seed_run
seed_short h seed sound = run_short h (generated h seed) sound

pub listings_short : (h : Header) → SoundHeader h → (m : ℕ) → length (listings h m) ≤ longest_listing * m
unfolding listings
listings_short h sound zero = omega arith
listings_short h sound (suc m) =
    omega (arith, length-append (listings h m) (text (seed_lines h (suc m))), seed_short h (suc m) sound, listings_short h sound m, mul-suc longest_listing m)

-- one seed more
pub listings_turn : (h : Header) (m : ℕ) {l₀ l₁ l₂ : List ℕ} {a b : ℕ} → Puts l₀ l₁ 0 (listings h m) a → Puts l₁ l₂ a (text (seed_lines h (suc m))) b
    → Puts l₀ l₂ 0 (listings h (suc m)) b
unfolding listings
listings_turn h m p q = puts_then p q

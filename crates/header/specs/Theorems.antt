-- The statements that proofs/Theorems.antt proves, each under the same name in lower case.
use Rattle.std.specs.Prelude.{ℕ, ◌≡◌}
use Rattle.refusal.specs.Cause.{no_cause}
use Rattle.line.specs.Width.{bit_of}
use Rattle.header.specs.Header.{header_verdict, number_verdict, Sound, SoundNumber}

-- a header is accepted exactly if every number is as document 01 wants it
abbrev pub HeaderSound : Type 0
HeaderSound =
    (n t T sender value marks : ℕ) → header_verdict n t T sender value marks ≡ no_cause → Sound n t T sender value marks

abbrev pub HeaderAccepts : Type 0
HeaderAccepts =
    (n t T sender value marks : ℕ) → Sound n t T sender value marks → header_verdict n t T sender value marks ≡ no_cause

-- and so is that of a recipe number
abbrev pub NumberSound : Type 0
NumberSound =
    (n t T sender number w marks : ℕ) → number_verdict n t T sender number w marks ≡ no_cause → SoundNumber n t T sender number w marks

abbrev pub NumberAccepts : Type 0
NumberAccepts =
    (n t T sender number w marks : ℕ) → SoundNumber n t T sender number w marks → number_verdict n t T sender number w marks ≡ no_cause

-- each bit of an accepted number is accepted as a value: the number's broadcasts are those that `header_verdict` lets through
abbrev pub EachBitSound : Type 0
EachBitSound =
    (n t T sender number w marks : ℕ) → SoundNumber n t T sender number w marks → (b : ℕ) → Sound n t T sender (bit_of number b) marks

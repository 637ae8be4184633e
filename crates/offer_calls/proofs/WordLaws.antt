-- What a call by value promises, said of its answer as a number. Assumes nothing.
use Prim.Native.Nat.{ℕ}
use Rattle.refusal.specs.declared.cause.Cause.{Cause}
use Rattle.std.specs.declared.result.Result.{Result}
use mathlib.Core.Path.{◌≡◌}
use mathlib.Core.List.{List}
use Rattle.refusal.specs.Cause.{answer_word, code}
use Rattle.state.specs.declared.Station.{Station}
use Rattle.offer.specs.declared.Offer.{Offer}
use Rattle.offer.specs.Offers.{Shows, Accepts}
use Rattle.offer.specs.Words.{offer_in}
use Rattle.controller.specs.Words.{station_of, advanced_word}
use Rattle.offer_calls.specs.Words.{shown_word, OfferAnswer, AcceptAnswer}

module _ (n t T sender own state r : ℕ) (s : Station) (q : s ≡ station_of n t T sender own state) where
  pub shown_as : (row : List ℕ) (o : Result Offer Cause) → Shows s row o → r ≡ answer_word (code o) (shown_word o) → OfferAnswer n t T sender own state row r
  shown_as row o p e = record { answer = rw (← q, ← p.answer) e }

  pub accepted_as : (row : List ℕ) (offer : ℕ) (f : Offer) → f ≡ offer_in offer → (o : Result Station Cause) → Accepts s row f o → r ≡ answer_word (code o) (advanced_word s o)
      → AcceptAnswer n t T sender own state row offer r
  accepted_as row offer f g o p e = record { answer = rw (← q, ← g, ← p.answer) e }

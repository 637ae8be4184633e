-- What the acceptance on a lent station promises.
use Rattle.std.specs.Prelude.{ℕ, ◌≡◌, List}
use Rattle.refusal.specs.declared.cause.Cause.{Cause}
use Rattle.std.specs.declared.result.Result.{Result}
use Rattle.refusal.specs.Cause.{code, answered}
use Rattle.state.specs.declared.Station.{Station}
use Rattle.offer.specs.Offers.{following, accepting_verdict}
use Rattle.offer.specs.Words.{offer_in}
use Rattle.lent.specs.Lent.{moved_if}

-- the station after a row with an offer of any 64 bits, the same where it is refused: "is refused by 17, [..] and the station stays"
unfoldable pub accepted_or_same : Station → List ℕ → ℕ → Station
accepted_or_same s row offer = moved_if (accepting_verdict s row (offer_in offer)) (following s row) s

-- `vembopu_accept_lent`: the answer, the documents' number, 0 where nothing is refused; and the station at exit
pub record AcceptsLent (before : Station) (row : List ℕ) (offer : ℕ) (after : Station) (r : ℕ) : Type 0 where
  pub answer_is : r ≡ code (accepting_verdict before row (offer_in offer))
  pub station_is : after ≡ accepted_or_same before row offer

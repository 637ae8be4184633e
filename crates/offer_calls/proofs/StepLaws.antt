-- What the acceptance by value promises, said of the lent station that it leaves. Assumes nothing.
use Prim.Native.Nat.{ℕ}
use Rattle.refusal.specs.declared.cause.Cause.{Cause}
use Rattle.std.specs.declared.result.Result.{Result}
use Rattle.std.specs.declared.result.Result.TheVariants.{Ok, Err}
use mathlib.Core.Path.{◌≡◌}
use mathlib.Core.List.{List}
use Rattle.refusal.specs.Cause.{number, code}
use Rattle.refusal.proofs.VerdictLaws.{code_by}
use Rattle.state.specs.declared.Station.{Station}
use Rattle.offer.specs.declared.Offer.{Offer}
use Rattle.offer.specs.Offers.{accepting_verdict, Accepts}
use Rattle.offer.specs.Words.{offer_in}
use Rattle.lent.proofs.StepLaws.{left, left_by}
use Rattle.offer_calls.specs.Lent.{accepted_or_same, AcceptsLent}

module _ (s : Station) (row : List ℕ) (offer : ℕ) {f : Offer} (g : f ≡ offer_in offer) where
  by_acceptance : {r : Result Station Cause} → Accepts s row f r → AcceptsLent s row offer (left s r) (code r)
  unfolding accepted_or_same
  by_acceptance p =
      let v = accepting_verdict s row (offer_in offer) in
      let q = rw g at p in
      record { answer_is = code_by v _ q.answer; station_is = left_by s _ v q.answer }

  pub accepted_next : {r : Result Station Cause} {next : Station} → Accepts s row f r → r ≡ Ok next → AcceptsLent s row offer next 0
  accepted_next p e = rw e at (by_acceptance p)

  pub accepted_refused : {r : Result Station Cause} {c : Cause} → Accepts s row f r → r ≡ Err c → AcceptsLent s row offer s (number c)
  accepted_refused p e = rw e at (by_acceptance p)

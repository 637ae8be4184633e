-- Offer, acceptance and taking a row, beside each other: of one station and row, and after cuts. Assumes nothing.
use Prim.Native.Nat.{ℕ}
use Rattle.std.specs.declared.result.Result.TheVariants.{Ok, Err}
use mathlib.Core.Path.{◌≡◌, refl, sym, ap, ◌∙◌}
use mathlib.Core.Logic.{◌≢◌}
use mathlib.Core.Bool.{Bool, true, false, not}
use mathlib.Core.List.{List, [], ◌∷◌}
use native.Mathlib.Omega.{arith}
use lib.ListN.{length}
use Rattle.refusal.specs.Cause.{◌or_else◌, no_cause, answered}
use Rattle.refusal.specs.declared.cause.Cause.{Cause}
use Rattle.refusal.specs.declared.cause.Cause.TheVariants as cause
use Rattle.refusal.specs.Cause.{Verdict}
use Rattle.refusal.proofs.VerdictLaws.{refused_true, refused_false}
use Rattle.state.specs.declared.Station.{Station}
use Rattle.state.specs.Judgement.{taking_verdict}
use Rattle.station.specs.Answers.{advance_answer}
use Rattle.offer.specs.declared.Offer.{Offer}
use Rattle.offer.specs.Offers.{following, offer_for, show_answer, same, comparing_verdict, accepting_verdict, accept_answer}
use Rattle.offer.specs.Theorems.{Together, kept, tried, NoneIs, AfterCuts}
use Rattle.offer.proofs.OfferLaws.{same_equal, same_self, advance_is, is_next, is_refused}

-- ---- an offer compared

compared_same : (o : Offer) → comparing_verdict o o ≡ no_cause
unfolding comparing_verdict
compared_same o = refused_false cause.Offer (ap not (same_self o))

compared_other : (held o : Offer) → held ≢ o → comparing_verdict held o ≡ Err cause.Offer
unfolding comparing_verdict
compared_other held o ne = refused_true cause.Offer (ap not (go (same held o) refl))
  where
    go : (b : Bool) → same held o ≡ b → b ≡ false
    go true e = absurd (ne (same_equal held o e))
    go false e = refl

or_accepted : (v : Verdict) → (v or_else no_cause) ≡ v
or_accepted (Ok _) = refl
or_accepted (Err c) = refl

-- ---- one station and row

module _ (s : Station) (row : List ℕ) where
  pub right_offer : accept_answer s row (offer_for s row) ≡ advance_answer s row
  unfolding accepting_verdict
  right_offer = rw (compared_same (offer_for s row), or_accepted (taking_verdict s (length row))) (sym (advance_is s row))

  shown_is : (v : Verdict) (right : Offer) {o : Offer} → answered v right ≡ Ok o → (v ≡ no_cause) × (o ≡ right)
  shown_is (Ok _) right e = (refl, cc)
  shown_is (Err c) right e = let z : ◌≡◌ {A = ℕ} 0 1 = cc in absurd (omega arith)

  pub is_shown : {o : Offer} → show_answer s row ≡ Ok o → (taking_verdict s (length row) ≡ no_cause) × (o ≡ offer_for s row)
  is_shown e = shown_is (taking_verdict s (length row)) (offer_for s row) e

  other_offer : (o held : Offer) → show_answer s row ≡ Ok o → held ≢ o → accept_answer s row held ≡ Err cause.Offer
  unfolding accepting_verdict
  other_offer o held e ne =
      let (a, q) = is_shown e in
      rw (a, compared_other held (offer_for s row) (λ (p : held ≡ offer_for s row). ne (p ∙ sym q)))

  whatever_offer : (c : Cause) → taking_verdict s (length row) ≡ Err c → (held : Offer) → accept_answer s row held ≡ Err c
  unfolding accepting_verdict
  whatever_offer c e held = rw e

  pub together : Together s row
  together = record {
    shows = λ next e. let (a, q) = is_next s row e in rw (a, q);
    accepts = λ o e. let (a, q) = is_shown e in rw q right_offer;
    other = other_offer;
    refused = λ c e. let a = is_refused s row e in (rw a, whatever_offer c a);
  }

  -- ---- after cuts: another offer leaves the station

  stays_by : (v : Verdict) → kept s (answered (v or_else Err cause.Offer) (following s row)) ≡ s
  stays_by (Ok _) = refl
  stays_by (Err c) = refl

  stays_at : (held : Offer) → held ≢ offer_for s row → kept s (accept_answer s row held) ≡ s
  unfolding accepting_verdict
  stays_at held ne = rw (compared_other held (offer_for s row) ne) (stays_by (taking_verdict s (length row)))

  stays_after : (held : List Offer) → NoneIs (offer_for s row) held → tried s row held ≡ s
  stays_after [] none = refl
  stays_after (o ∷ more) (ne, none) = ap (λ (x : Station). tried x row more) (stays_at o ne) ∙ stays_after more none

  pub after_cuts : (held : List Offer) → NoneIs (offer_for s row) held → AfterCuts s row held
  after_cuts held none =
      let e = stays_after held none in
      record {
        stays = e;
        same_offer = ap (λ (x : Station). show_answer x row) e;
        goes_on = ap (λ (x : Station). accept_answer x row (offer_for s row)) e ∙ right_offer;
      }

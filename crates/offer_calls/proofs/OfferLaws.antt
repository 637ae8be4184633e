-- Offer and acceptance on numbers, by what is shown of them by value. Assumes nothing.
use Prim.Native.Nat.{ℕ, ◌<◌}
use Rattle.offer.specs.declared.Offer.{Offer}
use Rattle.std.specs.declared.result.Result.{Result}
use Rattle.std.specs.declared.result.Result.TheVariants.{Ok, Err}
use mathlib.Core.Path.{◌≡◌, refl, sym, ap, ◌∙◌}
use mathlib.Core.Logic.{◌≢◌}
use mathlib.Core.List.{List}
use native.Mathlib.Omega.{arith}
use Rattle.refusal.specs.Cause.{number, answer_word, code}
use Rattle.refusal.specs.declared.cause.Cause.{Cause}
use Rattle.refusal.proofs.VerdictLaws.{number_some}
use Rattle.state.specs.declared.Station.{Station}
use Rattle.station.specs.Answers.{advance_answer}
use Rattle.offer.specs.Offers.{offer_of, show_answer, accept_answer}
use Rattle.offer.specs.Words.{offer_word, offer_in}
use Rattle.offer.proofs.TogetherLaws.{together}
use Rattle.offer.proofs.WordLaws.{small}
use Rattle.offer.proofs.BallotLaws.{shown_bytes}
use Rattle.offer.proofs.Theorems.{word_compared_whole}
use Rattle.controller.specs.Words.{station_of, state_word, advanced_word, AdvanceAnswer}
use Rattle.offer_calls.specs.Words.{shown_word, OfferAnswer, AcceptAnswer}
use Rattle.offer_calls.specs.Theorems.{refusal_in, OnNumbers}

number_of : (k v : ℕ) → refusal_in (answer_word k v) ≡ k
number_of k v = omega arith

-- seven bytes are an answer as they are
accepted_as_is : (v : ℕ) → v < 281474976710656 → answer_word 0 v ≡ v
accepted_as_is v h = omega arith

module _ (n t T sender own state : ℕ) (row : List ℕ) (offered taken : ℕ) (P : OfferAnswer n t T sender own state row offered) (Q : AdvanceAnswer n t T sender own state row taken) where
  abbrev s : Station
  s = station_of n t T sender own state

  -- an answer of acceptance or taking, as a number
  abbrev in_word : Result Station Cause → ℕ
  in_word a = answer_word (code a) (advanced_word s a)

  abbrev shown_in_word : Result Offer Cause → ℕ
  shown_in_word o = answer_word (code o) (shown_word o)

  module _ (next : Station) (e : advance_answer s row ≡ Ok next) where
    shows : show_answer s row ≡ Ok (offer_of next)
    shows = (together s row).shows next e

    the_word : offered ≡ offer_word (offer_of next)
    the_word =
        P.answer ∙ ap shown_in_word shows
        ∙ accepted_as_is (offer_word (offer_of next)) (small (offer_of next) (shown_bytes s row (offer_of next) shows))

    reads : (offer : ℕ) → offer_in offer ≡ offer_of next → offer ≡ offered
    reads offer q = (word_compared_whole s row (offer_of next) shows offer).0 q ∙ sym the_word

    read : offer_in offered ≡ offer_of next
    read = (word_compared_whole s row (offer_of next) shows offered).1 the_word

    next_handed_on : (r : ℕ) → AcceptAnswer n t T sender own state row offered r → r ≡ taken
    next_handed_on r A =
        let q : accept_answer s row (offer_in offered) ≡ advance_answer s row = rw read ((together s row).accepts (offer_of next) shows) in
        A.answer ∙ ap in_word q ∙ sym Q.answer

    next_other : (offer r : ℕ) → offer ≢ offered → AcceptAnswer n t T sender own state row offer r → r ≡ answer_word 17 (state_word s)
    next_other offer r ne A =
        A.answer
        ∙ ap in_word ((together s row).other (offer_of next) (offer_in offer) shows (λ (q : offer_in offer ≡ offer_of next). ne (reads offer q)))

    next_number : refusal_in taken ≡ 0
    next_number = ap refusal_in (Q.answer ∙ ap in_word e) ∙ number_of 0 _

  module _ (c : Cause) (e : advance_answer s row ≡ Err c) where
    any_offer : (offer r : ℕ) → AcceptAnswer n t T sender own state row offer r → r ≡ taken
    any_offer offer r A =
        A.answer ∙ ap in_word (((together s row).refused c e).1 (offer_in offer) ∙ sym e) ∙ sym Q.answer

    refused_number : refusal_in taken ≡ number c
    refused_number = ap refusal_in (Q.answer ∙ ap in_word e) ∙ number_of (number c) _

  pub on_numbers : OnNumbers n t T sender own state row offered taken
  on_numbers = go (advance_answer s row) refl
    where
      go : (a : Result Station Cause) → advance_answer s row ≡ a → OnNumbers n t T sender own state row offered taken
      go (Ok next) e = record {
        handed_on = next_handed_on next e;
        other = λ offer r z. next_other next e offer r;
        refused = λ offer r h A. absurd (omega (arith, h, next_number next e));
      }
      go (Err c) e = record {
        handed_on = any_offer c e offered;
        other = λ offer r z ne A. absurd (omega (arith, z, refused_number c e, number_some c));
        refused = λ offer r h. any_offer c e offer r;
      }

-- An offer of bytes is the number that it makes, and of no other. Assumes nothing.
use Prim.Native.Nat.{ℕ, ◌+◌, ◌*◌, ◌/◌, ◌≤◌, ◌<◌}
use mathlib.Core.Path.{◌≡◌, sym, ap, ◌∙◌}
use mathlib.Core.Logic.{◌⊎◌, inl, inr, ◌↔◌}
use native.Mathlib.Omega.{arith}
use borrow.Author.Tests.{lt-ltb, le-ltb}
use Rattle.line.proofs.CountLaws.{le_or_lt}
use Rattle.offer.specs.declared.Offer.{Offer}
use Rattle.offer.specs.Words.{offer_word, six_bytes, offer_in}
use Rattle.offer.proofs.OfferLaws.{from_bytes}

-- an offer that a station can give: bytes, and a round that isn't 0
pub record Bytes (o : Offer) : Type 0 where
  pub round_some : 1 ≤ o.round
  pub round_byte : o.round < 256
  pub value_byte : o.value < 256
  pub z_byte : o.z < 256
  pub grade_byte : o.grade < 256
  pub garbled_byte : o.garbled < 256
  pub ballot_byte : o.ballot < 256

-- a number below 256 to the power 6 is made of its six digits
summed : (w a b c d e f q₁ q₂ q₃ q₄ q₅ : ℕ) → w ≡ a + 256 * q₁ → q₁ ≡ b + 256 * q₂ → q₂ ≡ c + 256 * q₃ → q₃ ≡ d + 256 * q₄ → q₄ ≡ e + 256 * q₅ → q₅ ≡ f
    → a + 256 * b + 65536 * c + 16777216 * d + 4294967296 * e + 1099511627776 * f ≡ w
summed w a b c d e f q₁ q₂ q₃ q₄ q₅ h₁ h₂ h₃ h₄ h₅ h₆ = omega arith

of_digits : (w : ℕ) → w < 281474976710656 → offer_word (six_bytes w) ≡ w
unfolding six_bytes
of_digits w h =
    summed w _ _ _ _ _ _ (w / 256) (w / 65536) (w / 16777216) (w / 4294967296) (w / 1099511627776)
    (omega arith)
    (omega arith)
    (omega arith)
    (omega arith)
    (omega arith)
    (omega (arith, h))

read_small : (w : ℕ) → w < 281474976710656 → offer_in w ≡ six_bytes w
unfolding offer_in
read_small w h = rw (lt-ltb w 281474976710656 h)

read_large : (w : ℕ) → 281474976710656 ≤ w → (offer_in w).round ≡ 0
unfolding offer_in six_bytes
read_large w h = rw (le-ltb w 281474976710656 h)

module _ (o : Offer) (bytes : Bytes o) where
  pub small : offer_word o < 281474976710656
  small = omega arith

  made_back : offer_in (offer_word o) ≡ o
  unfolding six_bytes
  made_back =
      read_small (offer_word o) small
      ∙ from_bytes _ o (omega arith) (omega arith) (omega arith) (omega arith) (omega arith) (omega arith)

  only_one : (word : ℕ) → offer_in word ≡ o → word ≡ offer_word o
  only_one word e = go (le_or_lt 281474976710656 word)
    where
      go : (281474976710656 ≤ word) ⊎ (word < 281474976710656) → word ≡ offer_word o
      go (inl l) =
          let z : o.round ≡ 0 = ap (λ (p : Offer). p.round) (sym e) ∙ read_large word l in
          absurd (omega (arith, z, bytes.round_some))
      go (inr l) = sym (of_digits word l) ∙ ap offer_word (sym (read_small word l) ∙ e)

  pub read_exactly : (word : ℕ) → (offer_in word ≡ o) ↔ (word ≡ offer_word o)
  read_exactly word = (only_one word, λ (e : word ≡ offer_word o). ap offer_in e ∙ made_back)

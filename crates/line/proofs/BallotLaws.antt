-- Laws of the readings: which bytes are garbled; and that 0 and 1 are read as they are, and any other byte as the default. Assumes nothing.
use Prim.Native.Nat.{ℕ, ◌≤◌, ◌<◌}
use mathlib.Core.Path.{◌≡◌, refl, sym, ap, ◌∙◌}
use mathlib.Core.Bool.{Bool, true, false, not, ◌&&◌}
use mathlib.Core.Logic.{◌⊎◌, inl, inr}
use native.Mathlib.Omega.{arith}
use lib.Dec.{leb, ltb, eqb}
use borrow.Author.Tests.{le-leb, lt-leb, leb-true, leb-false, lt-ltb, le-ltb, eqb-true, eqb-false}
use Rattle.std.specs.Prelude.{if◌then◌else◌}
use Rattle.line.specs.Ballot.{blank, silence, bit_round, blank_round, read_first, read_second, read_sender, read_king, is_garbled, bit_or, first_value, second_value, sender_value, king_value}
use Rattle.line.specs.declared.ballot.Ballot.TheVariants.{Bit, Blank, Silence, Garbled}
use Rattle.line.proofs.CountLaws.{if_true, if_false, le_or_lt}

-- ---- which bytes are garbled

garbled_bits : (b : ℕ) → is_garbled (bit_round b) ≡ (ltb 1 b && not (eqb b silence))
unfolding bit_round
garbled_bits b = go (leb b 1) refl
  where
    other : (c : Bool) → is_garbled (if c then Silence else Garbled) ≡ not c
    other true = refl
    other false = refl

    go : (c : Bool) → leb b 1 ≡ c → is_garbled (if c then Bit b else (if eqb b silence then Silence else Garbled)) ≡ (ltb 1 b && not (eqb b silence))
    go true e = rw (le-ltb 1 b (leb-true b 1 e)) refl
    go false e = rw (lt-ltb 1 b (leb-false b 1 e)) (other (eqb b silence))

-- a byte that is not blank is above 1 exactly if it is above blank
above : (b : ℕ) → (b ≡ blank → ⊥) → ltb 1 b ≡ ltb blank b
above b h = go (le_or_lt b 1)
  where
    go : (b ≤ 1) ⊎ (1 < b) → ltb 1 b ≡ ltb blank b
    go (inl k) = le-ltb 1 b k ∙ sym (le-ltb blank b (omega arith))
    go (inr k) = lt-ltb 1 b k ∙ sym (lt-ltb blank b (omega (arith, h)))

garbled_blanks : (b : ℕ) → is_garbled (blank_round b) ≡ (ltb blank b && not (eqb b silence))
unfolding blank_round
garbled_blanks b = go (eqb b blank) refl
  where
    go : (c : Bool) → eqb b blank ≡ c → is_garbled (if c then Blank else bit_round b) ≡ (ltb blank b && not (eqb b silence))
    go true e = let h = eqb-true b blank e in rw (le-ltb blank b (omega (arith, h))) refl
    go false e = garbled_bits b ∙ ap (λ c. c && not (eqb b silence)) (above b (eqb-false b blank e))

pub garbled_sender : (b : ℕ) → is_garbled (read_sender b) ≡ (ltb 1 b && not (eqb b silence))
unfolding read_sender
garbled_sender = garbled_bits

pub garbled_first : (b : ℕ) → is_garbled (read_first b) ≡ (ltb 1 b && not (eqb b silence))
unfolding read_first
garbled_first = garbled_bits

pub garbled_second : (b : ℕ) → is_garbled (read_second b) ≡ (ltb blank b && not (eqb b silence))
unfolding read_second
garbled_second = garbled_blanks

pub garbled_king : (b : ℕ) → is_garbled (read_king b) ≡ (ltb 1 b && not (eqb b silence))
unfolding read_king
garbled_king = garbled_bits

-- no bit is, and in the second round of an exchange no blank
pub bit_at_sender : (b : ℕ) → b ≤ 1 → is_garbled (read_sender b) ≡ false
bit_at_sender b h = rw (garbled_sender b, le-ltb 1 b h) refl

pub bit_at_first : (b : ℕ) → b ≤ 1 → is_garbled (read_first b) ≡ false
bit_at_first b h = rw (garbled_first b, le-ltb 1 b h) refl

pub blank_at_second : (b : ℕ) → b ≤ blank → is_garbled (read_second b) ≡ false
blank_at_second b h = rw (garbled_second b, le-ltb blank b h) refl

pub bit_at_king : (b : ℕ) → b ≤ 1 → is_garbled (read_king b) ≡ false
bit_at_king b h = rw (garbled_king b, le-ltb 1 b h) refl

-- ---- the bit of a reading

bits_plain : (d b : ℕ) → bit_or d (bit_round b) ≡ (if leb b 1 then b else d)
unfolding bit_round
bits_plain d b = go (leb b 1) (eqb b silence)
  where
    go : (c e : Bool) → bit_or d (if c then Bit b else (if e then Silence else Garbled)) ≡ (if c then b else d)
    go true e = refl
    go false true = refl
    go false false = refl

blanks_plain : (d b : ℕ) → bit_or d (blank_round b) ≡ (if leb b 1 then b else d)
unfolding blank_round
blanks_plain d b = go (eqb b blank) refl
  where
    go : (c : Bool) → eqb b blank ≡ c → bit_or d (if c then Blank else bit_round b) ≡ (if leb b 1 then b else d)
    go true e = let h = eqb-true b blank e in sym (if_false b d (lt-leb b 1 (omega (arith, h))))
    go false e = bits_plain d b

pub sender_plain : (b : ℕ) → sender_value b ≡ (if leb b 1 then b else 0)
unfolding sender_value read_sender
sender_plain = bits_plain 0

pub first_plain : (b : ℕ) → first_value b ≡ (if leb b 1 then b else blank)
unfolding first_value read_first
first_plain = bits_plain blank

pub second_plain : (b : ℕ) → second_value b ≡ (if leb b 1 then b else blank)
unfolding second_value read_second
second_plain = blanks_plain blank

pub king_plain : (y b : ℕ) → king_value y (read_king b) ≡ (if leb b 1 then b else y)
unfolding king_value read_king
king_plain = bits_plain

-- ---- 0 and 1 as they are, any other byte as the default

bound : (d m b : ℕ) → d ≤ m → 1 ≤ m → (if leb b 1 then b else d) ≤ m
bound d m b h k = go (leb b 1) refl
  where
    go : (c : Bool) → leb b 1 ≡ c → (if c then b else d) ≤ m
    go true e = omega (arith, leb-true b 1 e)
    go false e = h

-- with blank for the default blank is kept too
keeps : (b : ℕ) → b ≤ 2 → (if leb b 1 then b else blank) ≡ b
keeps b h = go (leb b 1) refl
  where
    go : (c : Bool) → leb b 1 ≡ c → (if c then b else blank) ≡ b
    go true e = refl
    go false e = omega (arith, leb-false b 1 e)

-- and only the byte v itself is read as v, where v is 0 or 1
because : (b v : ℕ) → v ≤ 1 → (if leb b 1 then b else blank) ≡ v → b ≡ v
because b v h = go (leb b 1)
  where
    go : (c : Bool) → (if c then b else blank) ≡ v → b ≡ v
    go true e = e
    go false e = absurd (omega arith)

-- ---- the sender's round, and the king's

pub sender_value_keeps : (b : ℕ) → b ≤ 1 → sender_value b ≡ b
sender_value_keeps b h = sender_plain b ∙ if_true b 0 (le-leb b 1 h)

pub sender_value_bit : (b : ℕ) → sender_value b ≤ 1
sender_value_bit b = rw (sender_plain b) (bound 0 1 b (omega arith) (omega arith))

pub king_value_keeps : (y b : ℕ) → b ≤ 1 → king_value y (read_king b) ≡ b
king_value_keeps y b h = king_plain y b ∙ if_true b y (le-leb b 1 h)

pub king_value_unreadable : (y b : ℕ) → 1 < b → king_value y (read_king b) ≡ y
king_value_unreadable y b h = king_plain y b ∙ if_false b y (lt-leb b 1 h)

pub king_value_bit : (y b : ℕ) → y ≤ 1 → king_value y (read_king b) ≤ 1
king_value_bit y b h = rw (king_plain y b) (bound y 1 b h (omega arith))

-- ---- the rounds of a graded exchange

pub first_value_bound : (b : ℕ) → first_value b ≤ 2
first_value_bound b = rw (first_plain b) (bound blank 2 b (omega arith) (omega arith))

pub first_value_keeps : (b : ℕ) → b ≤ 2 → first_value b ≡ b
first_value_keeps b h = first_plain b ∙ keeps b h

pub first_value_because : (b v : ℕ) → v ≤ 1 → first_value b ≡ v → b ≡ v
first_value_because b v h = rw (first_plain b) (because b v h)

pub second_value_bound : (b : ℕ) → second_value b ≤ 2
second_value_bound b = rw (second_plain b) (bound blank 2 b (omega arith) (omega arith))

pub second_value_keeps : (b : ℕ) → b ≤ 2 → second_value b ≡ b
second_value_keeps b h = second_plain b ∙ keeps b h

pub second_value_because : (b v : ℕ) → v ≤ 1 → second_value b ≡ v → b ≡ v
second_value_because b v h = rw (second_plain b) (because b v h)

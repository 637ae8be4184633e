-- Laws of the lines: a field with a number, a station's line, a refusal's, and a station more. Assumes nothing.
use Prim.Native.Nat.{ℕ, zero, suc, ◌+◌, ◌*◌, ◌≤◌, ◌<◌}
use mathlib.Core.Path.{◌≡◌, sym, subst, ◌∙◌}
use mathlib.Core.Logic.{◌≢◌}
use mathlib.Core.List.{List, [], ◌∷◌, ◌++◌, map, append_assoc, append-nil}
use native.Mathlib.Nat.{add-zero}
use native.Mathlib.Numerals.{add-one}
use native.Mathlib.Omega.{arith}
use lib.ListN.{length, get_or, drop, length-append}
use lib.Seq.{drop-cons}
use borrow.Author.Tests.{eq-eqb, ne_eqb}
use Rattle.line.specs.Line.{outcome_size}
use Rattle.line.specs.Writing.{Each}
use Rattle.broadcast.specs.Station.{at}
use Rattle.text.specs.Decimal.{space, decimal, numeral}
use Rattle.text.specs.Laid.{Puts}
use Rattle.text.proofs.DecimalLaws.{decimal_numeral, decimal_short}
use Rattle.text.proofs.LaidLaws.{puts_then}
use Rattle.listing_lines.specs.Lines.{refused, num, dash, station_line, station_lines}
use Rattle.listing_lines.specs.Text.{more_text, line_text, text}

-- the numbers of a listing are below 1,000
pub puts_number : {l₀ l₁ : List ℕ} {a b : ℕ} {x : ℕ} → x < 1000 → Puts l₀ l₁ a (numeral x) b → Puts l₀ l₁ a (decimal x) b
puts_number {x = x} h p = rw (decimal_numeral x h) p

pub puts_field : {l₀ l₁ : List ℕ} {a b : ℕ} {x : ℕ} → x < 1000 → Puts l₀ l₁ a (space ∷ numeral x) b → Puts l₀ l₁ a (space ∷ decimal x) b
puts_field {x = x} h p = rw (decimal_numeral x h) p

-- a number more
pub fields_more : {l₀ l₁ l₂ : List ℕ} {a b c : ℕ} (xs : List ℕ) (i : ℕ) → i < length xs → get_or xs i 0 < 1000
    → Puts l₀ l₁ a (space ∷ numeral (get_or xs i 0)) b → Puts l₁ l₂ b (more_text (map num (drop (i + 1) xs))) c
    → Puts l₀ l₂ a (more_text (map num (drop i xs))) c
fields_more {l₀} {l₁} {l₂} {a} {b} {c} xs i h small p q =
    let e : drop i xs ≡ get_or xs i 0 ∷ drop (i + 1) xs = rw add-one (drop-cons xs i 0 h) in
    subst (λ (l : List ℕ). Puts l₀ l₂ a (more_text (map num l)) c) (sym e) (puts_then (puts_field small p) q)

-- a station's line, by the bytes of its outcome
module _ (bytes : List ℕ) (i : ℕ) where
  pub bad_shown : get_or bytes (outcome_size * i + 1) 0 ≡ 255 → station_line bytes i ≡ num (i + 1) ∷ dash ∷ dash ∷ dash ∷ dash ∷ []
  unfolding station_line at
  bad_shown e = rw (eq-eqb _ _ e)

  pub good_shown : get_or bytes (outcome_size * i + 1) 0 ≢ 255
      → station_line bytes i
      ≡ num (i + 1) ∷ num (get_or bytes (outcome_size * i) 0) ∷ num (get_or bytes (outcome_size * i + 1) 0) ∷ num (get_or bytes (outcome_size * i + 2) 0) ∷ num (get_or bytes (outcome_size * i + 3) 0) ∷ []
  unfolding station_line at
  good_shown n = rw (ne_eqb _ _ n)

four : (V : ℕ → ℕ) (ys : List ℕ) → length ys ≡ 4 → Each 4 ys V → ys ≡ V 0 ∷ V 1 ∷ V 2 ∷ V 3 ∷ []
unfolding Each
four V (a ∷ b ∷ c ∷ d ∷ []) long e =
    let ea : a ≡ V 0 = e 0 (omega arith) in
    let eb : b ≡ V 1 = e 1 (omega arith) in
    let ec : c ≡ V 2 = e 2 (omega arith) in
    let ed : d ≡ V 3 = e 3 (omega arith) in
    cc
four V [] long e = absurd (omega arith)
four V (a ∷ []) long e = absurd (omega arith)
four V (a ∷ b ∷ []) long e = absurd (omega arith)
four V (a ∷ b ∷ c ∷ []) long e = absurd (omega arith)
four V (a ∷ b ∷ c ∷ d ∷ x ∷ ys) long e = absurd (omega arith)

-- and by an array that has them
module _ (bytes : List ℕ) (i : ℕ) (ys : List ℕ) (long : length ys ≡ outcome_size) (its : Each outcome_size ys (λ k. get_or bytes (outcome_size * i + k) 0)) where
  grade_there : get_or bytes (outcome_size * i + 1) 0 ≡ get_or ys 1 0
  unfolding Each
  grade_there = sym (its 1 (omega arith))

  pub bad_array : get_or ys 1 0 ≡ 255 → station_line bytes i ≡ num (i + 1) ∷ dash ∷ dash ∷ dash ∷ dash ∷ []
  bad_array e = bad_shown bytes i (grade_there ∙ e)

  pub good_array : (get_or ys 1 0 ≡ 255 → ⊥) → station_line bytes i ≡ num (i + 1) ∷ map num ys
  good_array n =
      let e = rw add-zero at (four (λ k. get_or bytes (outcome_size * i + k) 0) ys long its) in
      rw e (good_shown bytes i (λ e. n (sym grade_there ∙ e)))

-- a refusal's line is short
pub refusal_short : (k : ℕ) → length (text ((refused ∷ num k ∷ []) ∷ [])) ≤ 12
refusal_short k = simp length-append (omega (arith, decimal_short k))

-- a station more
pub lines_more : (bytes : List ℕ) (i m : ℕ)
    → text (station_lines bytes i (suc m)) ≡ text (station_lines bytes i m) ++ line_text (station_line bytes (i + m))
unfolding station_lines
lines_more bytes i zero = rw (append-nil, add-zero)
lines_more bytes i (suc m) =
    let e : suc i + m ≡ i + suc m = omega arith in rw (append_assoc, ← e, ← lines_more bytes (suc i) m)

pub lines_turn : {l₀ l₁ l₂ : List ℕ} {a b c : ℕ} (bytes : List ℕ) (m : ℕ)
    → Puts l₀ l₁ a (text (station_lines bytes 0 m)) b → Puts l₁ l₂ b (line_text (station_line bytes m)) c
    → Puts l₀ l₂ a (text (station_lines bytes 0 (m + 1))) c
lines_turn bytes m p q =
    let z : 0 + m ≡ m = omega arith in rw (add-one, lines_more bytes 0 m, z) (puts_then p q)

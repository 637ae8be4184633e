-- Laws of a byte of the tables that is put, or not. Assumes nothing.
use Prim.Native.Nat.{ℕ, zero, suc, ◌+◌, ◌-◌, ◌*◌, ◌≤◌, ◌<◌}
use mathlib.Core.Path.{◌≡◌, refl, sym, ap, ◌∙◌}
use mathlib.Core.Bool.{Bool, true, false}
use mathlib.Core.Logic.{◌≢◌, ⊎_elim}
use mathlib.Core.List.{List}
use native.Mathlib.Nat.{eq-or-lt_of_le, le_of_suc-le-suc, le_refl}
use native.Mathlib.Numerals.{add-one}
use native.Mathlib.Omega.{arith}
use lib.Dec.{eqb}
use lib.ListN.{length, get_or}
use borrow.Author.Tests.{lt-ltb, le-ltb, eq-eqb, ne_eqb}
use Rattle.std.specs.Prelude.{if◌then◌else◌}
use Rattle.line.specs.Ballot.{silence}
use Rattle.text.specs.Laid.{laid}
use Rattle.text.proofs.LaidLaws.{laid_length}
use Rattle.record.specs.Bytes.{eight}
use Rattle.record.specs.Put.{put_in}
use Rattle.record.proofs.PutLaws as put
use Rattle.writer.specs.declared.put.Turn.{Turn}
use Rattle.writer.specs.Sheet.{next_index}
use Rattle.selection.specs.Loops.{spoken}
use Rattle.writer.specs.Loops.{room, Room, put_at, spoken_in, put_row_at}

-- what follows record m + 1 of k is told by where it starts: the last one starts eight bytes before the sheet's end
pub next_there : (k m size : ℕ) → size ≡ 12 + 8 * k → m + 1 ≤ k → (if eqb (12 + 8 * m) (size - 8) then 0 else m + 1 + 1) ≡ next_index k (m + 1)
unfolding next_index
next_there k m size e h =
    ⊎_elim
    (λ (q : m + 1 ≡ k). rw (eq-eqb (12 + 8 * m) (size - 8) (omega arith), le-ltb (m + 1) k (omega arith)))
    (λ (q : m + 1 < k). rw (ne_eqb (12 + 8 * m) (size - 8) (λ z. omega arith), lt-ltb (m + 1) k q))
    (eq-or-lt_of_le h)

module _ (b : ℕ) where
  pub spoken_none : b ≡ 255 → spoken b ≡ 0
  unfolding spoken
  spoken_none e = rw (eq-eqb b 255 e)

  pub spoken_one : b ≢ 255 → spoken b ≡ 1
  unfolding spoken
  spoken_one e = rw (ne_eqb b 255 e)

  module _ (sheet : List ℕ) (m : ℕ) (turn : Turn) (from to : ℕ) where
    -- silence is not written
    pub put_none : b ≡ 255 → sheet ≡ put_at sheet m turn from to b
    unfolding put_at
    put_none e = rw (eq-eqb b 255 e)

    -- any other byte is
    pub put_one : b ≢ 255 → laid sheet (12 + 8 * m) (eight turn.round from to b (next_index (room sheet) (m + 1)) turn.bit)
        ≡ put_at sheet m turn from to b
    unfolding put_at
    put_one e = rw (ne_eqb b 255 e)

    -- as crate record puts it, where there is room
    pub put_there : b ≢ 255 → 12 + 8 * m + 8 ≤ length sheet
        → put_in sheet (12 + 8 * m) (eight turn.round from to b (next_index (room sheet) (m + 1)) turn.bit) ≡ put_at sheet m turn from to b
    unfolding eight
    put_there e h = put.put_there sheet (12 + 8 * m) _ h ∙ put_one e

    pub put_length : length (put_at sheet m turn from to b) ≡ length sheet
    unfolding put_at
    put_length = go (eqb b silence)
      where
        go : (c : Bool) → length (if c then sheet else laid sheet (12 + 8 * m) (eight turn.round from to b (next_index (room sheet) (m + 1)) turn.bit)) ≡ length sheet
        go true = refl
        go false = laid_length _ sheet (12 + 8 * m)

-- ---- a row

module _ (row : List ℕ) where
  pub spoken_more : (j : ℕ) → spoken_in row (j + 1) ≡ spoken_in row j + spoken (get_or row j 0)
  unfolding spoken_in
  spoken_more j = rw add-one

  pub spoken_within : (j n : ℕ) → j < n → spoken_in row j + spoken (get_or row j 0) ≤ spoken_in row n
  unfolding spoken_in
  spoken_within j zero l = absurd (omega arith)
  spoken_within j (suc n) l =
      ⊎_elim
      (λ (e : j ≡ n). rw e (le_refl _))
      (λ (e : j < n). omega (arith, spoken_within j n e))
      (eq-or-lt_of_le (le_of_suc-le-suc l))

  module _ (sheet : List ℕ) (m : ℕ) (turn : Turn) (from : ℕ) where
    pub row_none : (m ≡ m + spoken_in row 0) × (sheet ≡ put_row_at sheet m turn from row 0)
    unfolding spoken_in put_row_at
    row_none = (omega arith, refl)

    pub row_more : (j : ℕ) → put_at (put_row_at sheet m turn from row j) (m + spoken_in row j) turn from (j + 1) (get_or row j 0) ≡ put_row_at sheet m turn from row (j + 1)
    unfolding put_row_at
    row_more j = sym (ap (λ (k : ℕ). put_row_at sheet m turn from row k) (add-one j))

    pub row_length : (j : ℕ) → length (put_row_at sheet m turn from row j) ≡ length sheet
    unfolding put_row_at
    row_length zero = refl
    row_length (suc j) = put_length (get_or row j 0) (put_row_at sheet m turn from row j) (m + spoken_in row j) turn from (j + 1) ∙ row_length j

    -- one byte more has room
    pub room_left : (n j done : ℕ) (sheet₁ : List ℕ) → j < n → Room sheet m (spoken_in row n) → (done ≡ m + spoken_in row j) × (sheet₁ ≡ put_row_at sheet m turn from row j)
        → Room sheet₁ done (spoken (get_or row j 0))
    room_left n j done sheet₁ l r (d, e) =
        let long : length sheet₁ ≡ length sheet = rw e (row_length j) in
        record { size = rw long r.size; most = rw long r.most; left = rw long (omega (arith, d, r.left, spoken_within j n l)) }

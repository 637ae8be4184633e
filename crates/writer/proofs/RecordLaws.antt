-- Laws of the records' bytes, as they are put one after the other. Assumes nothing.
use Prim.Native.Nat.{ℕ, zero, suc, ◌+◌, ◌-◌, ◌*◌, ◌≤◌, ◌<◌}
use mathlib.Core.Path.{◌≡◌, refl, ◌∙◌}
use mathlib.Core.Bool.{Bool, true, false, not}
use mathlib.Core.Logic.{◌≢◌}
use mathlib.Core.List.{List}
use native.Mathlib.Nat.{zero-mul, mul-le-mul, le_refl}
use native.Mathlib.Numerals.{add-one}
use native.Mathlib.Omega.{arith}
use lib.Dec.{eqb}
use lib.ListN.{length, get_or, take, drop, length-append, length-drop}
use lib.Seq.{get_or-take, get_or-drop, length-take-le}
use borrow.Author.Tests.{eqb-true, eqb-false, ne_eqb}
use Rattle.line.specs.Count.{count}
use Rattle.line.specs.Line.{rounds, table_length, place}
use Rattle.line.specs.Width.{bits, tables_length, largest_tables}
use Rattle.line.specs.Marks.{marked}
use Rattle.line.specs.Ballot.{silence}
use Rattle.line.proofs.CountLaws.{count_hit, count_miss, widen}
use Rattle.line.proofs.LineLaws.{next_row, place_from_start, place_steps}
use Rattle.line.proofs.WidthLaws.{bits_most, bit_place}
use Rattle.text.specs.Laid.{laid}
use Rattle.text.proofs.LaidLaws.{laid_append}
use Rattle.header.specs.declared.Header.{Header}
use Rattle.record.specs.Bytes.{eight}
use Rattle.selection.specs.Places.{bit_at, round_at, from_at, to_at, to_write, how_many, place_written}
use Rattle.writer.specs.declared.put.Turn.{Turn}
use Rattle.writer.specs.Sheet.{next_index, record_of, record_bytes, records_bytes}
use Rattle.selection.proofs.PlaceLaws.{bit_told, round_told, from_told, to_told, place_within}
use Rattle.selection.proofs.LeapLaws.{First}
use Rattle.selection.specs.Loops.{Round, spoken}
use Rattle.selection.proofs.CountingLaws.{round_rows, skip, leap_first}
use Rattle.writer.specs.Loops.{room, Room, put_at, spoken_in, put_row_at, Goes_on, Ready, start_of, OfRound}
use Rattle.selection.proofs.RankLaws.{ranked_back}
use Rattle.writer.proofs.PutLaws.{spoken_none, spoken_one, put_none, put_one, row_length}

module _ (h : Header) (table : List ℕ) (k : ℕ) where
  -- ---- lengths

  pub record_length : (m : ℕ) → length (record_bytes h table k m) ≡ 8
  unfolding record_bytes record_of eight
  record_length m = refl

  pub records_length : (m : ℕ) → length (records_bytes h table k m) ≡ 8 * m
  unfolding records_bytes
  records_length zero = refl
  records_length (suc m) =
      length-append (records_bytes h table k m) (record_bytes h table k (suc m)) ∙ rw (records_length m, record_length (suc m)) (omega arith)

  -- ---- one record more

  pub records_none : (s : List ℕ) → s ≡ laid s 12 (records_bytes h table k 0)
  unfolding records_bytes laid
  records_none s = refl

  records_more : (s : List ℕ) (m : ℕ) → laid s 12 (records_bytes h table k (m + 1)) ≡ laid (laid s 12 (records_bytes h table k m)) (12 + 8 * m) (record_bytes h table k (m + 1))
  unfolding records_bytes
  records_more s m =
      rw (add-one, laid_append (records_bytes h table k m) (record_bytes h table k (suc m)) s 12, records_length m)

-- no tables are longer than the largest
tables_short : (h : Header) (table sheet : List ℕ) (at m : ℕ) → Ready h table sheet at m → tables_length h.line.n h.line.t h.w ≤ largest_tables
tables_short h table sheet at m r = mul-le-mul (bits_most h.w r.narrow) (mul-le-mul (mul-le-mul r.short r.few) r.few)

-- ---- a byte of a round: its place, bit, round, sender and receiver

module _ (h : Header) (table : List ℕ) (turn : Turn) (here : OfRound h turn) (i : ℕ) (station : i < h.line.n) where
  -- where the row of the station counted i from 0 starts
  abbrev pub row_at : ℕ
  row_at = start_of h turn + i * h.line.n

  module _ (j : ℕ) (l : j < h.line.n) where
    place_here : row_at + j ≡ turn.bit * table_length h.line.n h.line.t + place h.line.n turn.round i j
    place_here =
        omega (arith, place_from_start h.line.n turn.round i j, place_from_start h.line.n turn.round 0 0, zero-mul h.line.n)

    bit_here : bit_at h.line.n h.line.t (row_at + j) ≡ turn.bit
    bit_here = rw place_here (bit_told h.line.n h.line.t turn.bit turn.round i j here.round_low here.round_high station l)

    round_here : round_at h.line.n h.line.t (row_at + j) ≡ turn.round
    round_here = rw place_here (round_told h.line.n h.line.t turn.bit turn.round i j here.round_low here.round_high station l)

    sender_here : from_at h.line.n (row_at + j) ≡ i
    sender_here = rw place_here (from_told h.line.n h.line.t turn.bit turn.round i j here.round_low here.round_high station l)

    receiver_here : to_at h.line.n (row_at + j) ≡ j
    receiver_here = rw place_here (to_told h.line.n h.line.t turn.bit turn.round i j here.round_low here.round_high station l)

    pub place_inside : row_at + j < tables_length h.line.n h.line.t h.w
    place_inside =
        rw place_here
        (place_within h.line.n h.line.t turn.bit turn.round i j here.round_low here.round_high station l h.w here.bit_below)

  -- the row ends within the tables
  pub row_inside : row_at + h.line.n ≤ tables_length h.line.n h.line.t h.w
  row_inside =
      let last = h.line.n - 1 in
      let l : last < h.line.n = omega arith in
      omega (arith, place_inside last l)

  -- ---- the bytes of a marked station

  module _ (bad : marked h.marks i ≡ true) (row : List ℕ) (same : (j : ℕ) → j < h.line.n → get_or row j 0 ≡ get_or table (row_at + j) 0) where
    module _ (j : ℕ) (l : j < h.line.n) where
      -- one is to be written exactly if it is not silence
      written_is : to_write h.line.n h.marks table (row_at + j) ≡ not (eqb (get_or row j 0) silence)
      unfolding to_write
      written_is = rw (sender_here j l, bad, same j l)

      -- one byte more is counted
      byte_counted : count (row_at + suc j) (to_write h.line.n h.marks table) ≡ count (row_at + j) (to_write h.line.n h.marks table) + spoken (get_or row j 0)
      byte_counted =
          let z : row_at + suc j ≡ row_at + j + 1 = omega arith in
          rw z (go (eqb (get_or row j 0) silence) refl)
        where
          go : (c : Bool) → eqb (get_or row j 0) silence ≡ c
              → count (row_at + j + 1) (to_write h.line.n h.marks table) ≡ count (row_at + j) (to_write h.line.n h.marks table) + spoken (get_or row j 0)
          go true e =
              rw (spoken_none (get_or row j 0) (eqb-true _ _ e)) (count_miss (row_at + j) (to_write h.line.n h.marks table) (written_is ∙ rw e) ∙ omega arith)
          go false e =
              rw (spoken_one (get_or row j 0) (eqb-false _ _ e)) (count_hit (row_at + j) (to_write h.line.n h.marks table) (written_is ∙ rw e))

      -- its record is the one after those before it
      record_here : get_or row j 0 ≢ 255 → (m k : ℕ) → m ≡ count (row_at + j) (to_write h.line.n h.marks table)
          → record_bytes h table k (m + 1) ≡ eight turn.round (i + 1) (j + 1) (get_or row j 0) (next_index k (m + 1)) turn.bit
      unfolding record_bytes record_of place_written
      record_here e m k c =
          let q = to_write h.line.n h.marks table in
          let z : m + 1 - 1 ≡ count (row_at + j) q = omega (arith, c) in
          let loud : q (row_at + j) ≡ true = written_is ∙ rw (ne_eqb (get_or row j 0) 255 e) in
          rw (
            z,
            ranked_back q (tables_length h.line.n h.line.t h.w) (row_at + j) (place_inside j l) loud,
            bit_here j l,
            round_here j l,
            sender_here j l,
            receiver_here j l,
            same j l,
          )

      -- and so the records go on
      byte_goes_on : (sheet : List ℕ) (m : ℕ) → room sheet ≡ how_many h table → m ≡ count (row_at + j) (to_write h.line.n h.marks table)
          → Goes_on h table sheet m (put_at sheet m turn (i + 1) (j + 1) (get_or row j 0)) (m + spoken (get_or row j 0))
      byte_goes_on sheet m r c s e = go (eqb (get_or row j 0) silence) refl
        where
          go : (b : Bool) → eqb (get_or row j 0) silence ≡ b
              → put_at sheet m turn (i + 1) (j + 1) (get_or row j 0) ≡ laid s 12 (records_bytes h table (how_many h table) (m + spoken (get_or row j 0)))
          go true q =
              let f = eqb-true (get_or row j 0) 255 q in
              let z : m + 0 ≡ m = omega arith in
              rw (spoken_none (get_or row j 0) f, z, ← put_none (get_or row j 0) sheet m turn (i + 1) (j + 1) f) e
          go false q =
              let f = eqb-false (get_or row j 0) 255 q in
              rw (spoken_one (get_or row j 0) f, ← put_one (get_or row j 0) sheet m turn (i + 1) (j + 1) f, r, e, records_more h table (how_many h table) s m, record_here f m (how_many h table) c)

    row_counted : (j : ℕ) → j ≤ h.line.n → count (row_at + j) (to_write h.line.n h.marks table) ≡ count row_at (to_write h.line.n h.marks table) + spoken_in row j
    unfolding spoken_in
    row_counted zero l = let z : row_at + 0 ≡ row_at = omega arith in rw z (omega arith)
    row_counted (suc j) l = omega (arith, byte_counted j l, row_counted j (omega arith))

    row_goes : (sheet : List ℕ) (m : ℕ) → room sheet ≡ how_many h table → m ≡ count row_at (to_write h.line.n h.marks table)
        → (j : ℕ) → j ≤ h.line.n → Goes_on h table sheet m (put_row_at sheet m turn (i + 1) row j) (m + spoken_in row j)
    unfolding spoken_in put_row_at
    row_goes sheet m r c zero l s e = let z : m + 0 ≡ m = omega arith in rw z e
    row_goes sheet m r c (suc j) l s e =
        let before = put_row_at sheet m turn (i + 1) row j in
        let its_room : room before ≡ how_many h table = rw (row_length row sheet m turn (i + 1) j) r in
        let z : m + (spoken_in row j + spoken (get_or row j 0)) ≡ m + spoken_in row j + spoken (get_or row j 0) = omega arith in
        rw z (byte_goes_on j l before (m + spoken_in row j) its_room (omega (arith, c, row_counted j (omega arith))) s (row_goes sheet m r c j (omega arith) s e))

    row_left : (m : ℕ) → m ≡ count row_at (to_write h.line.n h.marks table) → m + spoken_in row h.line.n ≤ how_many h table
    unfolding how_many
    row_left m c =
        let w = widen (row_at + h.line.n) (tables_length h.line.n h.line.t h.w) (to_write h.line.n h.marks table) row_inside in
        omega (arith, c, w, row_counted h.line.n (le_refl _))

  -- ---- the row as the code lends it: k bytes of the table from `at` on

  -- its end is a place
  pub row_small : (sheet : List ℕ) (m : ℕ) → Ready h table sheet (start_of h turn) m → row_at + h.line.n ≤ largest_tables
  row_small sheet m r = omega (arith, row_inside, tables_short h table sheet (start_of h turn) m r)

  module _ (bad : marked h.marks i ≡ true) (at k : ℕ) (a : at ≡ row_at) (e : k ≡ h.line.n) (sheet : List ℕ) (m : ℕ) (r : Ready h table sheet row_at m) where
    lent : length (take k (drop at table)) ≡ h.line.n
    lent = rw (a, e) (length-take-le h.line.n (drop row_at table) (rw length-drop (omega (arith, r.whole, row_inside))))

    same : (j : ℕ) → j < h.line.n → get_or (take k (drop at table)) j 0 ≡ get_or table (row_at + j) 0
    same j l = rw (a, e) (get_or-take h.line.n (drop row_at table) j 0 l ∙ get_or-drop row_at table j 0)

    pub row_room : (length (take k (drop at table)) ≤ 32) × Room sheet m (spoken_in (take k (drop at table)) (length (take k (drop at table))))
    row_room =
        let left = row_left bad (take k (drop at table)) same m r.before in
        (rw lent r.few, rw lent (record { size = omega (arith, r.size); most = omega (arith, r.size, r.most); left = omega (arith, r.size, left) }))

    pub row_put : (sheet₁ : List ℕ) (done : ℕ)
        → (done ≡ m + spoken_in (take k (drop at table)) (length (take k (drop at table))))
        × (sheet₁ ≡ put_row_at sheet m turn (i + 1) (take k (drop at table)) (length (take k (drop at table))))
        → (done ≡ count (row_at + h.line.n) (to_write h.line.n h.marks table)) × Goes_on h table sheet m sheet₁ done
    row_put sheet₁ done (d, w) =
        let row = take k (drop at table) in
        let d' : done ≡ m + spoken_in row h.line.n = rw lent at d in
        let w' : sheet₁ ≡ put_row_at sheet m turn (i + 1) row h.line.n = rw lent at w in (
          omega (arith, d', r.before, row_counted bad row same h.line.n (le_refl _)),
          rw (d', w') (row_goes bad row same sheet m (omega (arith, r.size)) r.before h.line.n (le_refl _)),
        )

-- ---- as the loops go on

-- what is ready stays so, further on
pub ready_on : (h : Header) (table sheet₀ sheet : List ℕ) (at₀ at m₀ m : ℕ) → Ready h table sheet₀ at₀ m₀ → length sheet ≡ length sheet₀
    → m ≡ count at (to_write h.line.n h.marks table) → Ready h table sheet at m
ready_on h table sheet₀ sheet at₀ at m₀ m r e b = record {
  some = r.some;
  few = r.few;
  short = r.short;
  narrow = r.narrow;
  whole = r.whole;
  most = r.most;
  size = e ∙ r.size;
  before = b;
}

-- where so many rounds end
rounds_end : (n r : ℕ) → place n (r + 1) 0 0 ≡ r * n * n
rounds_end n r =
    let z : r + 1 - 1 ≡ r = omega arith in
    let p = rw z at (place_from_start n (r + 1) 0 0) in
    omega (arith, p, zero-mul n)

-- where a round of a bit starts
turn_start : (n t b r : ℕ) → 1 ≤ r → b * table_length n t + place n r 0 0 ≡ (b * rounds t + (r - 1)) * n * n
turn_start n t b r h =
    let z : b * rounds t + r ≡ b * rounds t + (r - 1) + 1 = omega arith in
    bit_place n t b r 0 0 h ∙ rw z (rounds_end n (b * rounds t + (r - 1)))

-- where a round of a bit starts
pub start_there : (n t b r : ℕ) → b * table_length n t + (r - 1) * n * n ≡ b * table_length n t + place n r 0 0
start_there n t b r = omega (arith, place_from_start n r 0 0, zero-mul n)

-- ---- from one marked station to the next

module _ (h : Header) (table : List ℕ) (turn : Turn) (here : OfRound h turn) where
  round_is : Round h.line.n (start_of h turn)
  round_is =
      rw (turn_start h.line.n h.line.t turn.bit turn.round here.round_low)
      (round_rows h.line.n (turn.bit * rounds h.line.t + (turn.round - 1)))

  -- before the first
  pub leapt_first : (r m : ℕ) → First h.marks h.line.n 0 r → m ≡ count (start_of h turn) (to_write h.line.n h.marks table)
      → m ≡ count (start_of h turn + r * h.line.n) (to_write h.line.n h.marks table)
  leapt_first r m f e = omega (arith, e, leap_first h.line.n h.marks table (start_of h turn) round_is r f)

  -- after station i
  pub leapt_on : (i r m : ℕ) → First h.marks h.line.n (i + 1) r → m ≡ count (start_of h turn + i * h.line.n + h.line.n) (to_write h.line.n h.marks table)
      → m ≡ count (start_of h turn + r * h.line.n) (to_write h.line.n h.marks table)
  leapt_on i r m f e =
      let at = start_of h turn in
      let z : at + (i + 1) * h.line.n ≡ at + i * h.line.n + h.line.n = omega (arith, next_row i h.line.n) in
      let s = rw z at (skip h.line.n h.marks table at round_is (i + 1) r f.low f.high f.between) in
      omega (arith, e, s)

-- ---- rounds and bits

-- where a round ends the next one starts, and after the last one of a bit the next bit's first
pub round_ends : (n t b r m : ℕ) (q : ℕ → Bool) → 1 ≤ r → m ≡ count (b * table_length n t + place n r 0 0 + n * n) q → m ≡ count (b * table_length n t + place n (r + 1) 0 0) q
round_ends n t b r m q low e =
    let z : b * table_length n t + place n (r + 1) 0 0 ≡ b * table_length n t + place n r 0 0 + n * n = omega (arith, (place_steps n r 0 0).next_round low) in
    rw z e

pub bit_starts : (n t b m : ℕ) (q : ℕ → Bool) → m ≡ count (b * table_length n t) q → m ≡ count (b * table_length n t + place n 1 0 0) q
bit_starts n t b m q e =
    let z : b * table_length n t + place n 1 0 0 ≡ b * table_length n t = omega (arith, (place_steps n 1 0 0).first) in
    rw z e

pub bit_ends : (n t b r m : ℕ) (q : ℕ → Bool) → r ≡ rounds t → m ≡ count (b * table_length n t + place n (r + 1) 0 0) q → m ≡ count ((b + 1) * table_length n t) q
bit_ends n t b r m q l e =
    let z : b * table_length n t + place n (r + 1) 0 0 ≡ (b + 1) * table_length n t = rw l (omega (arith, rounds_end n (rounds t), next_row b (table_length n t))) in
    rw z at e

-- after the last bit all are counted
pub all_counted : (h : Header) (table : List ℕ) (b m : ℕ) → b ≡ bits h.w → m ≡ count (b * table_length h.line.n h.line.t) (to_write h.line.n h.marks table) → m ≡ how_many h table
unfolding how_many
all_counted h table b m l e = e ∙ rw l

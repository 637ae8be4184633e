-- Laws of a record's judgement: what cause 11 lets through, the numbers handed on judged as the sheet's record, and which records have one place.
-- Assumes nothing.
use Prim.Native.Nat.{ℕ, zero, suc, ◌+◌, ◌*◌, ◌≤◌, ◌<◌}
use mathlib.Core.Path.{◌≡◌, sym, ◌∙◌}
use mathlib.Core.Bool.{true, false, not, ◌&&◌, ◌||◌, or-true, or-false}
use mathlib.Core.Logic.{◌≢◌}
use mathlib.Core.List.{List}
use native.Mathlib.Omega.{arith}
use lib.Dec.{leb, eqb}
use borrow.Author.Tests.{leb-false, le-leb, lt-leb, eqb-true, eq-eqb, ne_eqb, not-false}
use Rattle.line.proofs.CountLaws.{both_true}
use Rattle.line.specs.Line.{rounds}
use Rattle.line.specs.Width.{bits}
use Rattle.refusal.specs.Cause.{◌or_else◌, no_cause}
use Rattle.header.specs.Header.{outside}
use Rattle.refusal.specs.Cause.{Verdict}
use Rattle.refusal.proofs.VerdictLaws.{neither, accepted_false, both_accepted}
use Rattle.header.proofs.HeaderLaws.{inside, inside_not}
use Rattle.layout.specs.Layout.{header, round, from, to, bit}
use Rattle.layout.specs.Chain.{Record}
use Rattle.layout.specs.Numbers.{record_at}
use Rattle.layout.specs.declared.Record as numbers
use Rattle.layout.proofs.LayoutLaws.{round_is, from_is, to_is, bit_is, rest_is}
use Rattle.judgement.specs.Judgement.{misplaced, record_form, unmarked_sender, same_place}
use Rattle.judgement.specs.Numbers.{out_of_place, numbers_verdict}

-- a record's numbers in their ranges
pub record InRange (n last bits round from to bit rest : ℕ) : Type 0 where
  pub round_low : 1 ≤ round
  pub round_high : round ≤ last
  pub from_low : 1 ≤ from
  pub from_high : from ≤ n
  pub to_low : 1 ≤ to
  pub to_high : to ≤ n
  pub bit_below : bit < bits
  pub rest_zero : rest ≡ 0

-- what cause 11 lets through is in its ranges
pub in_range : (n last bits round from to bit rest : ℕ)
    → outside 1 last round || outside 1 n from || outside 1 n to || leb bits bit || not (eqb rest 0) ≡ false
    → InRange n last bits round from to bit rest
in_range n last bits round from to bit rest e =
    let o₁ = outside 1 last round in
    let o₂ = outside 1 n from in
    let o₃ = outside 1 n to in
    let o₄ = leb bits bit in
    let blank = eqb rest 0 in
    let (e₂, z) = neither (o₁ || o₂ || o₃ || o₄) (not blank) e in
    let (e₃, d) = neither (o₁ || o₂ || o₃) o₄ e₂ in
    let (e₄, c) = neither (o₁ || o₂) o₃ e₃ in
    let (a, b) = neither o₁ o₂ e₄ in
    let r = inside 1 last round a in
    let f = inside 1 n from b in
    let t = inside 1 n to c in
    record {
      round_low = r.0;
      round_high = r.1;
      from_low = f.0;
      from_high = f.1;
      to_low = t.0;
      to_high = t.1;
      bit_below = leb-false bits bit d;
      rest_zero = eqb-true rest 0 (not-false blank z);
    }

-- and what is in its ranges is let through
pub range_passes : (n last bits round from to bit rest : ℕ) → InRange n last bits round from to bit rest
    → outside 1 last round || outside 1 n from || outside 1 n to || leb bits bit || not (eqb rest 0) ≡ false
range_passes n last bits round from to bit rest r =
    rw (
      inside_not 1 last round r.round_low r.round_high,
      inside_not 1 n from r.from_low r.from_high,
      inside_not 1 n to r.to_low r.to_high,
      lt-leb bits bit r.bit_below,
      eq-eqb rest 0 r.rest_zero,
    )

-- ---- the numbers handed on

-- a bit below `bits` and a zero byte after it, as one number of two bytes
pub two_bytes : (bits bit rest : ℕ) → bits < 256 → leb bits (bit + 256 * rest) ≡ leb bits bit || not (eqb rest 0)
two_bytes bits bit zero h =
    let e : bit + 256 * 0 ≡ bit = omega arith in rw e (sym (or-false (leb bits bit)))
two_bytes bits bit (suc r) h =
    let ne : suc r ≢ 0 = λ e. omega arith in
    rw (le-leb bits (bit + 256 * suc r) (omega arith), ne_eqb (suc r) 0 ne) (sym (or-true (leb bits bit)))

module _ (n last bits : ℕ) (r : numbers.Record) where
  -- those of a record in their ranges
  abbrev pub InNumbers : Type 0
  InNumbers = InRange n last bits r.round r.from r.to r.bit r.rest

  pub numbers_in_range : out_of_place n last bits r ≡ false → InNumbers
  unfolding out_of_place
  numbers_in_range e = in_range n last bits r.round r.from r.to r.bit r.rest e

  pub accepted_in_range : (marks : ℕ) (v : Verdict) → v ≡ numbers_verdict n last bits marks r → v ≡ no_cause → InNumbers
  unfolding numbers_verdict
  accepted_in_range marks v is e = numbers_in_range (accepted_false _ _ (both_accepted _ _ (sym is ∙ e)).0)

-- a record of a sheet, judged by its numbers
pub judged_by_numbers : (s : List ℕ) (i : ℕ) → Record s i
    → numbers_verdict (header s).line.n (rounds (header s).line.t) (bits (header s).w) (header s).marks (record_at s i) ≡ record_form s i or_else unmarked_sender s i
unfolding numbers_verdict out_of_place record_form misplaced unmarked_sender
judged_by_numbers s i r = rw (round_is s i r, from_is s i r, to_is s i r, bit_is s i r, rest_is s i r)

-- ---- two records

module _ (s : List ℕ) (i j : ℕ) where
  -- the same round, from, to and bit are the same place, whatever the ballots
  pub numbers_same : round s i ≡ round s j → from s i ≡ from s j → to s i ≡ to s j → bit s i ≡ bit s j → same_place s i j ≡ true
  unfolding same_place
  numbers_same r f t b =
      rw (eq-eqb (round s i) (round s j) r, eq-eqb (from s i) (from s j) f, eq-eqb (to s i) (to s j) t, eq-eqb (bit s i) (bit s j) b)

  pub same_numbers : same_place s i j ≡ true → (round s i ≡ round s j) × (from s i ≡ from s j) × (to s i ≡ to s j) × (bit s i ≡ bit s j)
  unfolding same_place
  same_numbers e =
      let same_round = eqb (round s i) (round s j) in
      let same_from = eqb (from s i) (from s j) in
      let same_to = eqb (to s i) (to s j) in
      let (e₃, b) = both_true (same_round && same_from && same_to) (eqb (bit s i) (bit s j)) e in
      let (e₂, t) = both_true (same_round && same_from) same_to e₃ in
      let (r, f) = both_true same_round same_from e₂ in
      (eqb-true (round s i) (round s j) r, eqb-true (from s i) (from s j) f, eqb-true (to s i) (to s j) t, eqb-true (bit s i) (bit s j) b)

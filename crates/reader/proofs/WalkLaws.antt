-- Laws of the walk: what holds along it, one record more, and what it tells at its end. Assumes nothing.
use Prim.Native.Nat.{ℕ, zero, suc, ◌+◌, ◌-◌, ◌≤◌, ◌<◌}
use Rattle.std.specs.declared.result.Result.{Result}
use Rattle.std.specs.declared.result.Result.TheVariants.{Ok, Err}
use mathlib.Core.Path.{◌≡◌, refl, sym, ap, ◌∙◌}
use mathlib.Core.Logic.{◌≢◌, ◌⊎◌, ⊎_elim}
use mathlib.Core.Bool.{Bool, true, false}
use mathlib.Core.List.{List}
use native.Mathlib.Nat.{eq-or-lt_of_le, lt_of_lt_of_le, min-eq_left, min-le_left}
use native.Mathlib.Numerals.{add-one}
use native.Mathlib.Omega.{arith}
use lib.Dec.{leb}
use lib.Arith.{digits_lt}
use lib.ListN.{length, get_or, take, drop, set, replicate, length-take, length-drop, length-set, length-replicate, get_or-replicate}
use lib.Seq.{get_or-set_same, get_or-set_other, set_out, take-set-le, take-set-lt, drop-set-lt, drop-set-add, get_or-take, get_or-drop, ext_get_or}
use borrow.Author.Tests.{lt-ltb, le-ltb, le-leb, lt-leb}
use Rattle.std.specs.Prelude.{if◌then◌else◌}
use Rattle.line.specs.Line.{rounds}
use Rattle.line.specs.Width.{bits, largest_tables}
use Rattle.line.proofs.WidthLaws.{tables_bound}
use Rattle.header.specs.declared.Header.{Header}
use Rattle.line.proofs.LineLaws.{place_below}
use Rattle.line.proofs.CountLaws.{le_or_lt}
use Rattle.refusal.specs.Cause.{◌or_else◌, no_cause}
use Rattle.refusal.specs.declared.cause.Cause.{Cause}
use Rattle.refusal.specs.declared.cause.Cause.TheVariants.{ChainLeaves, ChainRepeats}
use Rattle.refusal.specs.Cause.{Verdict}
use Rattle.layout.specs.Layout.{header, tables_wanted, records, most_records, ballot, first}
use Rattle.layout.specs.Chain.{Record, reached, Fate, leaves, again, ends}
use Rattle.layout.specs.Numbers.{record_at}
use Rattle.layout.specs.declared.Record as numbers
use Rattle.layout.proofs.LayoutLaws.{round_is, from_is, to_is, bit_is, ballot_is, next_is}
use Rattle.layout.proofs.ChainLaws.{Over, Chained, not_both, goes_on, one_more, inside_again}
use Rattle.judgement.specs.Judgement.{record_verdict, records_verdict, chain_verdict}
use Rattle.judgement.proofs.RangeLaws.{InNumbers, judged_by_numbers}
use Rattle.reader.specs.Reading.{place_of, filled}
use Rattle.reader.specs.Loops as loops
use Rattle.reader.specs.Loops.{SoundHeader, none, place_by, record_by, Taken, walked_by, Hit, place_in, ballot_in, Holds, KeptOf, Kept, Whole, Told, Fated, put_at, laid}
use Rattle.reader.specs.declared.fill.Placed.{Placed}
use Rattle.reader.proofs.SeenLaws.{judged_by_seen}

-- ---- verdicts

or_else_joins : (a b c : Verdict) → (a or_else b) or_else c ≡ a or_else b or_else c
or_else_joins (Ok _) b c = refl
or_else_joins (Err d) b c = refl

-- ---- what is handed on

-- the place of a record whose numbers are in their ranges
pub place_most : (h : Header) (r : numbers.Record) → SoundHeader h → InNumbers h.line.n (rounds h.line.t) (bits h.w) r → place_by h.line r < largest_tables
unfolding place_by
place_most h r sound w =
    let n = h.line.n in
    let last = rounds h.line.t in
    let inside =
    place_below n r.round (r.from - 1) (r.to - 1) w.round_low (omega (arith, w.from_low, w.from_high)) (omega (arith, w.to_low, w.to_high)) last w.round_high in
    lt_of_lt_of_le (digits_lt w.bit_below inside) (tables_bound n h.line.t h.line.upper h.w sound.most sound.fits sound.narrow)

-- ---- the part of the tables

-- its length stays, and one ballot more is put into it
pub put_length : (table : List ℕ) (start : ℕ) (p : Placed) → length (put_at table start p) ≡ length table
unfolding put_at
put_length table start p = go (leb start (place_in p))
  where
    go : (b : Bool) → length (if b then set table (place_in p - start) (ballot_in p) else table) ≡ length table
    go true = length-set table (place_in p - start) (ballot_in p)
    go false = refl

pub laid_length : (kept : List Placed) (start size m : ℕ) → length (laid kept start size m) ≡ size
unfolding laid
laid_length kept start size zero = length-replicate size 255
laid_length kept start size (suc m) = put_length _ _ _ ∙ laid_length kept start size m

pub laid_start : (kept : List Placed) (start size : ℕ) → laid kept start size 0 ≡ replicate size 255
unfolding laid
laid_start kept start size = refl

pub laid_turn : (kept : List Placed) (start size a : ℕ) → laid kept start size (a + 1) ≡ put_at (laid kept start size a) start (get_or kept a none)
unfolding laid
laid_turn kept start size a = rw add-one

-- silence in all tables is silence in a part
silent_part : (start size all : ℕ) → start + size ≤ all → take size (drop start (replicate {A = ℕ} all 255)) ≡ replicate {A = ℕ} size 255
silent_part start size all h =
    let tables : List ℕ = replicate all 255 in
    let part : List ℕ = replicate size 255 in
    let long : length (take size (drop start tables)) ≡ size =
    simp (length-take, length-drop, length-replicate) (min-eq_left (omega arith)) in
    ext_get_or 0 (take size (drop start tables)) part (long ∙ sym (length-replicate {A = ℕ} size 255))
    (λ k l.
    let g : k < size = rw long at l in
    get_or-take size (drop start tables) k 0 g
    ∙ get_or-drop start tables k 0
    ∙ get_or-replicate {A = ℕ} all (start + k) 255 0 (omega arith)
    ∙ sym (get_or-replicate {A = ℕ} size k 255 0 g))

-- a ballot put into a part is one put into all tables
put_part : (tables : List ℕ) (start size : ℕ) (placed : Placed) (p ballot : ℕ) → Holds placed p ballot
    → put_at (take size (drop start tables)) start placed ≡ take size (drop start (set tables p ballot))
unfolding put_at
put_part tables start size placed p ballot h =
    rw (h.place_is, h.ballot_is) (⊎_elim
    (λ (h : start ≤ p).
    let e : p ≡ start + (p - start) = omega arith in
    rw (le-leb start p h)
    (inside (p - start) ∙ ap (λ (q : ℕ). take size (drop start (set tables q ballot))) (sym e)))
    (λ (h : p < start). rw (lt-leb start p h, drop-set-lt start tables p ballot h))
    (le_or_lt start p))
  where
    inside : (q : ℕ) → set (take size (drop start tables)) q ballot ≡ take size (drop start (set tables (start + q) ballot))
    inside q =
        ⊎_elim
        (λ (h : size ≤ q).
        let short : length (take size (drop start tables)) ≤ q = rw length-take (omega (arith, min-le_left size (length (drop start tables)))) in
        rw (drop-set-add start tables q ballot, take-set-le size (drop start tables) q ballot h) (set_out _ q ballot short))
        (λ (h : q < size). rw (drop-set-add start tables q ballot, take-set-lt size (drop start tables) q ballot h))
        (le_or_lt size q)

module _ (s : List ℕ) where
  -- ---- one record

  -- a record's place by its numbers
  pub place_same : (i : ℕ) → Record s i → place_by (header s).line (record_at s i) ≡ place_of s i
  unfolding place_by place_of
  place_same i r = rw (round_is s i r, from_is s i r, to_is s i r, bit_is s i r)

  -- the record at position a judged by its numbers and the places seen
  record_is : (a i : ℕ) → SoundHeader (header s) → i ≡ reached s a → Record s i → records_verdict s a ≡ no_cause
      → record_by (header s) (record_at s i) (loops.seen s a) ≡ record_verdict s a
  unfolding record_by
  record_is a i sound q here v = rw (judged_by_numbers s i here, place_same i here, or_else_joins, q) (judged_by_seen s a v sound)

  -- one verdict more
  verdict_pass : (a : ℕ) → records_verdict s a ≡ no_cause → record_verdict s a ≡ no_cause → records_verdict s (a + 1) ≡ no_cause
  unfolding records_verdict
  verdict_pass a v w = rw (add-one, v, w)

  verdict_hit : (a : ℕ) (c : Cause) → records_verdict s a ≡ no_cause → record_verdict s a ≡ Err c → records_verdict s (a + 1) ≡ Err c
  unfolding records_verdict
  verdict_hit a c v w = rw (add-one, v, w)

  -- the first hit stays
  verdict_stays : (a : ℕ) (c : Cause) → records_verdict s a ≡ Err c → records_verdict s (a + 1) ≡ Err c
  unfolding records_verdict
  verdict_stays a c v = rw (add-one, v)

  -- ---- along the walk

  -- what holds at position m: the records before it pass, and all are seen and kept
  pub record Going (m i : ℕ) (seen : List ℕ) (kept : List Placed) : Type 0 where
    pub at : i ≡ reached s m
    pub chained : Chained s m
    pub judged_all : records_verdict s m ≡ no_cause
    pub seen_is : seen ≡ loops.seen s m
    pub all_kept : Kept s m kept
    pub kept_length : length kept ≡ 4096

  -- at the start
  pub going_start : (kept : List Placed) → length kept ≡ 4096 → Going 0 (first s) loops.unseen kept
  unfolding reached records_verdict loops.seen
  going_start kept e = record {
    at = refl;
    chained = λ a l. absurd (omega arith);
    judged_all = refl;
    seen_is = refl;
    all_kept = λ a l. absurd (omega arith);
    kept_length = e;
  }

  -- one record more is kept
  kept_turn : (m : ℕ) (kept : List Placed) (p : Placed) → m < length kept → KeptOf s (reached s m) p → Kept s m kept → Kept s (m + 1) (set kept m p)
  kept_turn m kept p h new k a l =
      let le : a ≤ m = omega arith in
      ⊎_elim
      (λ (e : a ≡ m). rw (e, get_or-set_same) new)
      (λ (h : a < m). let ne : a ≢ m = λ e. omega arith in rw get_or-set_other (k a h))
      (eq-or-lt_of_le le)

  module _ (h : Header) (is : h ≡ header s) (sound : SoundHeader h) (most : records s ≤ most_records) (m i : ℕ) (seen₀ : List ℕ) (kept₀ : List Placed)
      (g : Going m i seen₀ kept₀) (here : Record s i) (room : m < records s) (r : numbers.Record) (q : r ≡ record_at s i) where
    next_here : r.next ≡ reached s (m + 1)
    next_here = goes_on s m i r.next g.at here (rw q (next_is s i here))

    chained_here : Chained s (m + 1)
    chained_here = one_more s m g.chained (rw (← g.at) here)

    -- its place and its ballot
    place_here : place_by h.line r ≡ place_of s (reached s m)
    place_here = rw (is, q, ← g.at) (place_same i here)

    ballot_here : r.ballot ≡ ballot s (reached s m)
    ballot_here = rw (q, ← g.at) (ballot_is s i here)

    module _ (seen₁ : List ℕ) (placed : Placed) (v : Verdict) (t : Taken h r seen₀ seen₁ placed v) where
      verdict_here : record_verdict s m ≡ v
      verdict_here =
          sym (record_is m i (rw is at sound) g.at here g.judged_all)
          ∙ sym (t.verdict_is ∙ rw (is, q, g.seen_is))

      -- one record more that passes
      pub going_turn : v ≡ no_cause → Going (m + 1) r.next seen₁ (set kept₀ m placed)
      unfolding loops.seen
      going_turn e =
          let p : m < length kept₀ = omega (arith, g.kept_length, most) in
          record {
            at = next_here;
            chained = chained_here;
            judged_all = verdict_pass m g.judged_all (verdict_here ∙ e);
            seen_is = t.seen_is e ∙ rw (add-one, place_here, g.seen_is);
            all_kept = kept_turn m kept₀ placed p (rw (← place_here, ← ballot_here) (t.kept_is e)) g.all_kept;
            kept_length = simp length-set g.kept_length;
          }

      -- and the first that does not
      pub going_hit : (c : Cause) → v ≡ Err c → Hit s (m + 1) r.next c
      going_hit c e = record {
        position = omega arith;
        at = next_here;
        chained = chained_here;
        judged = verdict_hit m c g.judged_all (verdict_here ∙ e);
      }

  -- one record more after it
  pub hit_turn : (m i : ℕ) (c : Cause) → Hit s m i c → Record s i → m < records s → (r : numbers.Record) → r ≡ record_at s i → Hit s (m + 1) r.next c
  hit_turn m i c h here room r is = record {
    position = omega arith;
    at = goes_on s m i r.next h.at here (rw is (next_is s i here));
    chained = one_more s m h.chained (rw (← h.at) here);
    judged = verdict_stays m c h.judged;
  }

  -- ---- at its end

  -- where no record stands, or after k records, the index tells the chain's fate
  fate_there : (m i : ℕ) → i ≡ reached s m → Over s i ⊎ (m ≡ records s) → (P : Result ℕ Cause → Type 0)
      → ((f : Fate s) (c : Cause) → chain_verdict s f ≡ Err c → P (Err c)) → (w : Result ℕ Cause) → (i ≡ 0 → P w) → P (walked_by (records s) i w)
  unfolding walked_by
  fate_there m i at last P fated w ended =
      ⊎_elim
      (λ (low : i ≤ records s). ⊎_elim
      (λ (none : i ≤ 0). rw (le-ltb (records s) i low, le-ltb 0 i none) (ended (omega arith)))
      (λ (some : 0 < i).
      let e : m ≡ records s = ⊎_elim (λ (o : Over s i). absurd (not_both s i o (record { low = some; high = low }))) (λ (q : m ≡ records s). q) last in
      rw (le-ltb (records s) i low, lt-ltb 0 i some)
      (fated (again (inside_again s (rw (← e, ← at) (record { low = some; high = low })))) ChainRepeats refl))
      (le_or_lt i 0))
      (λ (above : records s < i).
      rw (lt-ltb (records s) i above) (fated (leaves (record { where_it_does = m; above = rw (← at) above })) ChainLeaves refl))
      (le_or_lt i (records s))

  pub going_told : (m i : ℕ) (seen : List ℕ) (kept : List Placed) → Going m i seen kept → m ≤ records s → records s ≤ most_records
      → Over s i ⊎ (m ≡ records s) → Told s kept (walked_by (records s) i (Ok m))
  going_told m i seen kept g h most last =
      fate_there m i g.at last (Told s kept) (λ f c e. (f, e)) (Ok m)
      (λ z. record {
        chain = record { chained = g.chained; zero_there = sym g.at ∙ z };
        most = omega arith;
        judged = g.judged_all;
        all_kept = g.all_kept;
        kept_length = g.kept_length;
      })

  pub hit_told : (m i : ℕ) (c : Cause) → Hit s m i c → Over s i ⊎ (m ≡ records s) → Fated s (walked_by (records s) i (Err c))
  hit_told m i c h last =
      fate_there m i h.at last (Fated s) (λ f d e. (f, e)) (Err c)
      (λ z. (ends m (record { chained = h.chained; zero_there = sym h.at ∙ z }), h.judged))

  -- what it tells after a hit it tells of the whole walk
  pub fated_told : (kept : List Placed) (w : Result ℕ Cause) → Fated s w → Told s kept w
  fated_told kept (Ok m) f = absurd f
  fated_told kept (Err c) f = f

  -- ---- the table

  -- what is kept fills the part
  pub laid_filled : (kept : List Placed) (start size m : ℕ) → start + size ≤ tables_wanted s → Kept s m kept
      → laid kept start size m ≡ take size (drop start (filled s m))
  unfolding laid filled
  laid_filled kept start size zero h k = sym (silent_part start size (tables_wanted s) h)
  laid_filled kept start size (suc m) h k =
      rw (laid_filled kept start size m h (λ a l. k a (omega arith)))
      (put_part (filled s m) start size (get_or kept m none) (place_of s (reached s m)) (ballot s (reached s m)) (k m (omega arith)))

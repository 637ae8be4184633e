-- Laws of the written sheet's bytes, as the reader's definitions name them. Assumes nothing.
use Prim.Native.Nat.{ℕ, zero, suc, ◌+◌, ◌-◌, ◌*◌, ◌≤◌, ◌<◌}
use mathlib.Core.Path.{◌≡◌, refl, ap, ◌∙◌}
use mathlib.Core.Logic.{⊎_elim}
use mathlib.Core.List.{List, ◌++◌}
use native.Mathlib.Nat.{add-zero, eq-or-lt_of_le, le_of_suc-le-suc}
use native.Mathlib.Omega.{arith}
use lib.ListN.{length, get_or, length-append, get_or-append}
use lib.Seq.{get_or-append-add}
use Rattle.header.specs.declared.Header.{Header}
use Rattle.layout.specs.Layout.{byte, two, header, first, records, start, round, from, to, ballot, next, bit, rest}
use Rattle.judgement.proofs.FormLaws as form
use Rattle.selection.specs.Places.{bit_at, round_at, from_at, to_at, how_many, place_written}
use Rattle.record.specs.Bytes.{low, high, first_index, header_bytes, eight}
use Rattle.writer.specs.Sheet.{next_index, record_of, record_bytes, records_bytes, sheet}
use Rattle.writer.proofs.RecordLaws.{records_length}
use Rattle.writer.proofs.PromiseLaws.{header_twelve}

-- a number of two bytes
two_bytes : (x : ℕ) → low x + 256 * high x ≡ x
unfolding low high
two_bytes x = omega arith

-- byte c of record m + 1, among the first l of k
records_at : (h : Header) (table : List ℕ) (k l m c : ℕ) → m < l → c < 8
    → get_or (records_bytes h table k l) (8 * m + c) 0 ≡ get_or (record_bytes h table k (suc m)) c 0
unfolding records_bytes
records_at h table k zero m c a b = absurd (omega arith)
records_at h table k (suc l) m c a b =
    let front = records_bytes h table k l in
    let last = record_bytes h table k (suc l) in
    let long = records_length h table k l in
    ⊎_elim
    (λ (e : m ≡ l).
    let z : 8 * m + c ≡ length front + c = omega (arith, long) in
    ap (λ (i : ℕ). get_or (front ++ last) i 0) z ∙ get_or-append-add front last c 0 ∙ rw e)
    (λ (u : m < l). get_or-append front last 0 (8 * m + c) (omega (arith, long)) ∙ records_at h table k l m c u b)
    (eq-or-lt_of_le (le_of_suc-le-suc a))

module _ (h table : List ℕ) where
  pub length_is : length (sheet h table) ≡ 12 + 8 * how_many (header h) table
  unfolding sheet
  length_is =
      let k = how_many (header h) table in
      length-append (header_bytes h k) (records_bytes (header h) table k k) ∙ rw (header_twelve h k, records_length (header h) table k k)

  pub records_are : records (sheet h table) ≡ how_many (header h) table
  records_are = form.records_are (sheet h table) (how_many (header h) table) length_is

  -- ---- the header

  header_at : (b : ℕ) → b < 12 → byte (sheet h table) b ≡ get_or (header_bytes h (how_many (header h) table)) b 0
  unfolding byte sheet
  header_at b l =
      let k = how_many (header h) table in
      get_or-append (header_bytes h k) (records_bytes (header h) table k k) 0 b (omega (arith, header_twelve h k))

  pub header_is : (b : ℕ) → b < 6 → byte (sheet h table) b ≡ byte h b
  unfolding header_bytes
  header_is b l = header_at b (omega arith) ∙ go b l
    where
      go : (b : ℕ) → b < 6 → get_or (header_bytes h (how_many (header h) table)) b 0 ≡ byte h b
      go zero l = refl
      go (suc zero) l = refl
      go (suc (suc zero)) l = refl
      go (suc (suc (suc zero))) l = refl
      go (suc (suc (suc (suc zero)))) l = refl
      go (suc (suc (suc (suc (suc zero))))) l = refl
      go (suc (suc (suc (suc (suc (suc b)))))) l = absurd (omega arith)

  pub marks_are : (b : ℕ) → b < 4 → byte (sheet h table) (8 + b) ≡ byte h (8 + b)
  unfolding header_bytes
  marks_are b l = header_at (8 + b) (omega arith) ∙ go b l
    where
      go : (b : ℕ) → b < 4 → get_or (header_bytes h (how_many (header h) table)) (8 + b) 0 ≡ byte h (8 + b)
      go zero l = refl
      go (suc zero) l = refl
      go (suc (suc zero)) l = refl
      go (suc (suc (suc zero))) l = refl
      go (suc (suc (suc (suc b)))) l = absurd (omega arith)

  pub first_is : first (sheet h table) ≡ first_index (how_many (header h) table)
  unfolding first two header_bytes
  first_is = rw (header_at 6 (omega arith), header_at 7 (omega arith)) (two_bytes _)

  -- ---- a record

  module _ (m : ℕ) (some : 1 ≤ m) (most : m ≤ how_many (header h) table) where
    record_at : (c : ℕ) → c < 8 → byte (sheet h table) (start m + c) ≡ get_or (record_bytes (header h) table (how_many (header h) table) m) c 0
    unfolding byte sheet start
    record_at c l =
        let k = how_many (header h) table in
        let recs = records_bytes (header h) table k k in
        let z : 12 + 8 * (m - 1) + c ≡ length (header_bytes h k) + (8 * (m - 1) + c) = omega (arith, header_twelve h k) in
        let e : suc (m - 1) ≡ m = omega arith in
        ap (λ (i : ℕ). get_or (header_bytes h k ++ recs) i 0) z ∙ get_or-append-add (header_bytes h k) recs (8 * (m - 1) + c) 0
        ∙ records_at (header h) table k k (m - 1) c (omega arith) l ∙ ap (λ (i : ℕ). get_or (record_bytes (header h) table k i) c 0) e

    pub round_is : round (sheet h table) m ≡ round_at (header h).line.n (header h).line.t (place_written (header h) table m)
    unfolding round record_bytes record_of eight
    round_is = rw add-zero at (record_at 0 (omega arith))

    pub from_is : from (sheet h table) m ≡ from_at (header h).line.n (place_written (header h) table m) + 1
    unfolding from record_bytes record_of eight
    from_is = record_at 1 (omega arith)

    pub to_is : to (sheet h table) m ≡ to_at (header h).line.n (place_written (header h) table m) + 1
    unfolding to record_bytes record_of eight
    to_is = record_at 2 (omega arith)

    pub ballot_is : ballot (sheet h table) m ≡ get_or table (place_written (header h) table m) 0
    unfolding ballot record_bytes record_of eight
    ballot_is = record_at 3 (omega arith)

    pub next_is : next (sheet h table) m ≡ next_index (how_many (header h) table) m
    unfolding next two record_bytes record_of eight
    next_is =
        let e : start m + 4 + 1 ≡ start m + 5 = omega arith in
        rw (e, record_at 4 (omega arith), record_at 5 (omega arith)) (two_bytes _)

    pub bit_is : bit (sheet h table) m ≡ bit_at (header h).line.n (header h).line.t (place_written (header h) table m)
    unfolding bit record_bytes record_of eight
    bit_is = record_at 6 (omega arith)

    pub rest_is : rest (sheet h table) m ≡ 0
    unfolding rest record_bytes record_of eight
    rest_is = record_at 7 (omega arith)

-- What `list` promises, for every sheet and every buffer.
use Rattle.std.specs.Prelude.{ℕ, ◌-◌, ◌≤◌, min, ◌≡◌, List, length, take}
use Rattle.line.specs.Width.{bits}
use Rattle.refusal.specs.Cause.{written}
use Rattle.refusal.specs.Cause.{Verdict}
use Rattle.broadcast.specs.Bytes.{log}
use Rattle.number.specs.Numbers.{bit_run, number_outcomes}
use Rattle.layout.specs.Layout.{header, table_wanted}
use Rattle.layout.specs.Chain.{Fate}
use Rattle.judgement.specs.Judgement.{bit_verdict}
use Rattle.reader.specs.Reading.{table_of, bit_table}
use Rattle.text.specs.Laid.{laid}
use Rattle.listing_lines.specs.Lines.{lines_by, run, lines}
use Rattle.listing_lines.specs.Text.{text}

-- the last bit: the sheet is read and rehearsed one bit after another (request 5: "The program runs one bit after another in one table")
abbrev pub last_bit : List ℕ → ℕ
last_bit s = bits (header s).w - 1

-- how much of a table and a log is lent on, by their lengths: fronts of that length; if one of the two is shorter, fronts of its length
unfoldable pub front : List ℕ → ℕ → ℕ → ℕ
front s table_size log_size = min (min (table_wanted s) table_size) log_size

-- the verdict, where so much of table and log is lent: each bit's table has to have its length
abbrev pub lent_verdict : (s : List ℕ) → ℕ → Fate s → Verdict
lent_verdict s lent_size fate = bit_verdict s 0 lent_size fate

-- the text of the listing: that of the whole number
unfoldable pub listing : (s : List ℕ) → ℕ → Fate s → List ℕ
listing s lent_size fate = text (lines_by (lent_verdict s lent_size fate) (header s) (number_outcomes (run (header s) (table_of s fate))))

-- The promise. `table₀`, `log₀` and `text₀` are the lent buffers at entry, `table₁`, `log₁` and `text₁` at exit.
pub record Lists (s table₀ table₁ log₀ log₁ text₀ text₁ : List ℕ) (answer : ℕ) : Type 0 where
  -- what becomes of the sheet's chain: whatever shows it, verdict and table are the same (`OneFate` of crate reader)
  pub fate : Fate s
  -- the length of the whole text, also where the buffer is shorter
  pub answer_is : answer ≡ length (listing s (front s (length table₀) (length log₀)) fate)
  -- every byte of the text at exit: the listing from its start on, the rest as it was
  pub text_is : text₁ ≡ laid text₀ 0 (listing s (front s (length table₀) (length log₀)) fate)
  -- every byte of the table at exit: the last bit's from its start on and the rest as it was, or all as it was
  pub table_is : table₁
      ≡ written (lent_verdict s (front s (length table₀) (length log₀)) fate) (laid table₀ 0 (bit_table s fate (last_bit s))) table₀
  -- every byte of the log at exit: the last bit's from its start on and the rest as it was, or all as it was
  pub log_is : log₁
      ≡ written (lent_verdict s (front s (length table₀) (length log₀)) fate)
      (laid log₀ 0 (log (bit_run (run (header s) (table_of s fate)) (last_bit s)))) log₀

-- What comes of it with buffers long enough for every sheet (`ListingFits` of Theorems.antt): so many bytes at the text's start are the whole text of
-- the sheet's lines.
pub record Listed (s text₁ : List ℕ) (answer : ℕ) : Type 0 where
  pub fate : Fate s
  pub inside : answer ≤ length text₁
  pub whole : take answer text₁ ≡ text (lines s fate)

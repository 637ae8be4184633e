-- What a row of a table is: a sheet, and what must come out of it. The parts that rows are written with.
use Rattle.std.specs.Prelude.{ℕ, ◌≡◌, List, [], ◌∷◌, length}
use Rattle.refusal.specs.Cause.{code, values}
use Rattle.layout.specs.Layout.{header}
use Rattle.layout.specs.Chain.{Fate}
use Rattle.listing_lines.specs.Lines.{Field, agree, num, dash, verdict, lines}
use Rattle.listing_lines.specs.Text.{text}
use Rattle.listing_lines.specs.Output.{output_by}
use Rattle.normal_form.specs.Normal.{rewritten}
use Rattle.generator.specs.Tables.{generated}
use Rattle.generator.specs.Judgement.{generate_verdict}
use Rattle.seeded.specs.Listings.{seed_lines}
use Rattle.state.specs.declared.Station.{Station}
use Rattle.station.specs.Automaton.{opened_station}
use Rattle.offer.specs.declared.Offer.{Offer}
use Rattle.offer.specs.Offers.{offer_for, offer_bytes, show_answer, accept_answer}
use Rattle.offer.specs.Theorems.{kept}

-- ---- a station's rows

-- the station of this number that a sheet's header opens
abbrev pub opened_by : List ℕ → ℕ → Station
opened_by s own = let h = header s in opened_station h.line.n h.line.t h.line.upper h.sender own h.value

-- .. and after these rows, each by its offer's acceptance
abbrev pub stepped : Station → List (List ℕ) → Station
stepped s [] = s
stepped s (row ∷ rows) = stepped (kept s (accept_answer s row (offer_for s row))) rows

-- what is wanted of a sheet: its listing's lines, or its text byte by byte, or the text's length, or what the program rewrite writes, or that it is accepted, or
-- the number that it is refused by; of a header and a seed the tables, or the listing's lines, or, with a table of so many bytes, the number that generating is
-- refused by, 0 where it isn't; of a header, a station's number, the rows that it has taken and one more the offer's six bytes, or the number that it is refused by, or, with
-- an offer that is held, the number that the acceptance is refused by, 0 where it isn't
pub data Wanted : Type 0 where
  prints : List (List Field) → Wanted
  writes : List ℕ → Wanted
  is_long : ℕ → Wanted
  rewritten_as : List ℕ → Wanted
  accepted : Wanted
  refused_by : ℕ → Wanted
  draws : (seed : ℕ) → List ℕ → Wanted
  lists : (seed : ℕ) → List (List Field) → Wanted
  draws_not : (seed table_size number : ℕ) → Wanted
  offers : (own : ℕ) (rows : List (List ℕ)) (row : List ℕ) → List ℕ → Wanted
  offers_not : (own : ℕ) (rows : List (List ℕ)) (row : List ℕ) (number : ℕ) → Wanted
  accepts : (own : ℕ) (rows : List (List ℕ)) (row : List ℕ) (held : Offer) (number : ℕ) → Wanted

pub record Case : Type 0 where
  pub sheet : List ℕ
  pub comes_out : Wanted

-- it comes out, by the definitions that the calls promise. Lines and text show by their first word whether the sheet is accepted.
abbrev pub Comes : (s : List ℕ) → Wanted → Type 0
Comes s (prints l) = (fate : Fate s) × (lines s fate ≡ l)
Comes s (writes b) = (fate : Fate s) × (text (lines s fate) ≡ b)
Comes s (is_long k) = (fate : Fate s) × (length (text (lines s fate)) ≡ k)
Comes s (rewritten_as b) = (fate : Fate s) × (output_by (verdict s fate) (rewritten s fate) ≡ b)
Comes s accepted = (fate : Fate s) × (code (verdict s fate) ≡ 0)
Comes s (refused_by k) = (fate : Fate s) × (code (verdict s fate) ≡ k)
Comes s (draws seed b) = generated (header s) seed ≡ b
Comes s (lists seed l) = seed_lines (header s) seed ≡ l
Comes s (draws_not seed size k) = code (generate_verdict s seed size) ≡ k
Comes s (offers own rows row b) = (values offer_bytes) (show_answer (stepped (opened_by s own) rows) row) ≡ b
Comes s (offers_not own rows row k) = code (show_answer (stepped (opened_by s own) rows) row) ≡ k
Comes s (accepts own rows row held k) = code (accept_answer (stepped (opened_by s own) rows) row held) ≡ k

-- every row holds
abbrev pub All : List Case → Type 0
All [] = Unit
All (c ∷ cs) = Comes c.sheet c.comes_out × All cs

-- ---- sheets

-- a header with fewer than nine stations marked: n, t, T, sender, value, first index, marks
abbrev pub head : ℕ → ℕ → ℕ → ℕ → ℕ → ℕ → ℕ → List ℕ
head n t T sender value first marks =
    n ∷ t ∷ T ∷ sender ∷ value ∷ 0 ∷ first ∷ 0 ∷ marks ∷ 0 ∷ 0 ∷ 0 ∷ []

-- a record: round, from, to, ballot, next index
abbrev pub rec : ℕ → ℕ → ℕ → ℕ → ℕ → List ℕ
rec round from to ballot next = round ∷ from ∷ to ∷ ballot ∷ next ∷ 0 ∷ 0 ∷ 0 ∷ []

-- ---- lines

-- a good station's line: number, value, grade, flag, count
abbrev pub good : ℕ → ℕ → ℕ → ℕ → ℕ → List Field
good i value grade flag garbled = num i ∷ num value ∷ num grade ∷ num flag ∷ num garbled ∷ []

abbrev pub bad : ℕ → List Field
bad i = num i ∷ dash ∷ dash ∷ dash ∷ dash ∷ []

-- the first line: n, t, T, sender, R
abbrev pub opening : ℕ → ℕ → ℕ → ℕ → ℕ → List Field
opening n t T sender R = agree ∷ num n ∷ num t ∷ num T ∷ num sender ∷ num R ∷ []

-- What the program seeds prints (document 02, request 7): "A program reads one sheet, keeps its header and prints the listings for seeds 1 to 100."
use Rattle.std.specs.Prelude.{ℕ, zero, suc, List, [], ◌++◌}
use Rattle.refusal.specs.Cause.{no_cause}
use Rattle.number.specs.Numbers.{number_outcomes}
use Rattle.header.specs.declared.Header.{Header}
use Rattle.layout.specs.Layout.{header}
use Rattle.listing_lines.specs.Lines.{Field, lines_by}
use Rattle.listing_lines.specs.Text.{text}
use Rattle.listing_lines.specs.Output.{Output}
use Rattle.seeded.specs.Promise.{seed_run}

-- "to 100"
abbrev pub last_seed : ℕ
last_seed = 100

-- the listing of one seed's run: that of the whole number
unfoldable pub seed_lines : Header → ℕ → List (List Field)
seed_lines h seed = lines_by no_cause h (number_outcomes (seed_run h seed))

-- the listings of the seeds 1 to m, one after another
unfoldable pub listings : Header → ℕ → List ℕ
listings h zero = []
listings h (suc m) = listings h m ++ text (seed_lines h (suc m))

-- "A sheet that the reader refuses prints its one refusal line and no more.": so many bytes at the buffer's start are all of it
abbrev pub Printed : List ℕ → List ℕ → ℕ → Type 0
Printed s out answer = Output s (λ fate. listings (header s) last_seed) out answer

-- What is shown of a written sheet. Each statement has a name here, and proofs/Theorems.antt has the law that proves it.
use Rattle.std.specs.Prelude.{ℕ, ◌≡◌, List}
use Rattle.refusal.specs.Cause.{no_cause}
use Rattle.layout.specs.Chain.{Fate}
use Rattle.judgement.specs.Judgement.{sheet_verdict}
use Rattle.writer.specs.Judgement.{before_buffer}
use Rattle.normal_form.specs.Reading.{ReadBack}
use Rattle.normal_form.specs.Normal.{rewritten, Rewrites, ReadAlike}

-- what is written is accepted by the reader, and gives back the header's numbers and the tables of all bits, with 255 at the unmarked senders
abbrev pub ReadsBack : Type 0
ReadsBack = (h table : List ℕ) → before_buffer h table ≡ no_cause → ReadBack h table

-- an accepted sheet, rewritten, reads the same; no record is outside the chain, none is of silence, records stand in the order of the tables; rewriting it
-- again changes no byte
abbrev pub NormalForm : Type 0
NormalForm = (s : List ℕ) (l : ℕ) (f : Fate s) → sheet_verdict s l f ≡ no_cause → Rewrites s f

-- so sheets that read alike have one normal form
abbrev pub OneForm : Type 0
OneForm = (s s' : List ℕ) (f : Fate s) (f' : Fate s') → ReadAlike s s' f f' → rewritten s f ≡ rewritten s' f'

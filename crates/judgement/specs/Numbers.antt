-- Causes 11 and 12 of a record's numbers, as the code hands them on: of a record in a sheet they are `record_form` and `unmarked_sender` of Judgement.
use Rattle.std.specs.Prelude.{ℕ, Bool, not, ◌||◌, leb, eqb}
use Rattle.line.specs.Line.{from_0}
use Rattle.line.specs.Marks.{marked}
use Rattle.refusal.specs.Cause.{refused_if, ◌or_else◌}
use Rattle.header.specs.Header.{outside}
use Rattle.refusal.specs.declared.cause.Cause.TheVariants.{RecordForm, UnmarkedSender}
use Rattle.refusal.specs.Cause.{Verdict}
use Rattle.layout.specs.declared.Record.{Record}

-- "a record's round outside 1 to R, a station outside 1 to n", "a bit not below w", or its last byte not zero: in a line of n stations, `last` rounds and so
-- many bits
unfoldable pub out_of_place : (n last bits : ℕ) → Record → Bool
out_of_place n last bits r =
    outside 1 last r.round
    || outside 1 n r.from
    || outside 1 n r.to
    || leb bits r.bit
    || not (eqb r.rest 0)

-- "a record's from is not marked", after that
unfoldable pub numbers_verdict : (n last bits marks : ℕ) → Record → Verdict
numbers_verdict n last bits marks r =
    refused_if (out_of_place n last bits r) RecordForm
    or_else refused_if (not (marked marks (from_0 r.from))) UnmarkedSender

-- `in_table`: k bytes of the rounds before the rest are to be written.
use Rattle.std.proofs.Common.{◌≡◌, ◌*◌}
use Rattle.std.specs.Slice.Iter.{chunks_exact_rest, chunks_exact_size}
use Rattle.selection.proofs.CountingLaws.{Before}
use Rattle.selection.proofs.in_table.Given as goal

abbrev pub invariant-loop-round : goal.invariant-loop-round
invariant-loop-round l =
    Before l.n-2 l.marks l.table (chunks_exact_rest l.round-iterator) l.k × (chunks_exact_size l.round-iterator ≡ l.n-2 * l.n-2)

-- The counts so far are those of the row so far, and none is above its length.
use Rattle.std.proofs.Common.{ℕ, ◌≡◌, ◌≤◌, take}
use Rattle.line.specs.declared.ballot.Ballot.{Ballot}
use Rattle.station.specs.Tallies.{Reads, votes, garbled}
use Rattle.station.proofs.tally.Tally.of.Given as goal

abbrev pub invariant-loop-b : goal.invariant-loop-b
invariant-loop-b g l =
    (l.tally.zeros ≤ l.b-index)
    × (l.tally.ones ≤ l.b-index)
    × (l.tally.garbled ≤ l.b-index)
    × ((reading : ℕ → Ballot) → Reads (goal.F-post g l.read) reading
    → (l.tally.zeros ≡ votes reading 0 (take l.b-index l.row)) × (l.tally.ones ≡ votes reading 1 (take l.b-index l.row)) × (l.tally.garbled ≡ garbled reading (take l.b-index l.row)))

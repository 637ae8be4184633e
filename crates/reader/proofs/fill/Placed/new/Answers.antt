-- `Placed::new` meets its contract: a ballot is below 256, and the place above it.
use native.Mathlib.Omega.{arith}
use Rattle.reader.specs.Loops.{place_in, ballot_in}
use Rattle.reader.proofs.fill.Placed.new.Goals as goal

pub returns : goal.returns
unfolding place_in ballot_in
returns c = record {
  place_is = omega (arith, c.from.ensures, c.ranges.ballot.fits);
  ballot_is = omega (arith, c.from.ensures, c.ranges.ballot.fits);
}

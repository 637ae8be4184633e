-- `rewrite` meets its contract, by what the reader answers.
use borrow.Author.Rules.{rules}
use Prim.Native.Nat.{◌≤◌}
use native.Mathlib.Omega.{arith}
use lib.ListN.{length}
use Rattle.listing_lines.proofs.OutputLaws.{refused_output}
use Rattle.rewrite.proofs.OutputLaws.{headed, writable, accepted_output, refused}
use Rattle.rewrite.proofs.rewrite.Goals as goal

pub slice_bounds-write-end : goal.slice_bounds-write-end
slice_bounds-write-end c =
    let h : 12 ≤ length c.args.sheet.now = headed _ _ _ c.read.ensures c.requires.0 _ c.in-Ok.is in
    search rules

pub write-requires : goal.write-requires
write-requires c = (writable _ _ _ c.read.ensures c.requires.0 _ c.in-Ok.is, c.requires.1)

pub returns-in-Ok : goal.returns-in-Ok
returns-in-Ok c = accepted_output _ _ _ c.read.ensures c.requires.0 _ c.in-Ok.is _ _ c.write.ensures

pub returns-in-Err : goal.returns-in-Err
returns-in-Err c =
    refused_output _ _ _ _ _ _ _ _ (refused _ _ _ c.read.ensures c.requires.0 _ c.in-Err.is) c.number.ensures (omega (arith, c.requires.1)) c.of_refusal.ensures

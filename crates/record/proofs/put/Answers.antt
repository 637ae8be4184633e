-- `put` meets its contract: nothing is put where there is no room.
use Rattle.std.proofs.Common.{◌≡◌, ◌/◌, ◌%◌, ◌∙◌, arith}
use Rattle.record.specs.Bytes.{low, high, eight}
use Rattle.record.proofs.PutLaws.{put_not, put_part}
use Rattle.record.proofs.put.Goals as goal

pub returns-then-sheet-lt8 : goal.returns-then-sheet-lt8
unfolding eight
returns-then-sheet-lt8 c = put_not _ _ _ (omega arith)

pub returns : goal.returns
unfolding eight low high
returns c =
    let h : c.args.next / 256 % 256 ≡ c.args.next / 256 = omega arith in
    put_part _ _ _ _ _ (c.copy_from_slice.ensures.after ∙ rw (c.to_le_bytes.ensures, h)) (omega arith) (omega arith)

-- `put_header` meets its contract: nothing is put of another length, or where there is no room.
use Rattle.std.proofs.Common.{◌≡◌, ◌%◌, ◌/◌, ◌∙◌, arith}
use Rattle.record.specs.Bytes.{low, high}
use Rattle.record.proofs.PutLaws.{header_not, header_part}
use Rattle.record.proofs.put_header.Goals as goal

pub returns-then-header-ne12 : goal.returns-then-header-ne12
returns-then-header-ne12 c = header_not _ _ _ c.then-header-ne12.either

pub returns : goal.returns
unfolding low high
returns c =
    let h : c.first_index.result / 256 % 256 ≡ c.first_index.result / 256 = omega arith in
    header_part _ _ _ _ _ (omega arith) (omega arith) c.copy_from_slice.ensures.after (c.copy_from_slice-2.ensures.after ∙ c.to_le_bytes.ensures ∙ rw (h, c.first_index.ensures))

-- `list` meets its contract, by what the reader answers.
use native.Mathlib.Omega.{arith}
use Rattle.listing_lines.proofs.OutputLaws.{refused_output}
use Rattle.seeds.proofs.OutputLaws.{begun, accepted_output, refused}
use Rattle.seeds.proofs.list.Goals as goal

pub list_header-requires : goal.list_header-requires
list_header-requires c =
    begun _ _ _ c.read_bit.ensures c.requires.0 _ c.in-Ok.is _ c.requires.1 c.read_bit.auto.table

pub returns-in-Ok : goal.returns-in-Ok
returns-in-Ok c =
    accepted_output _ _ _ c.read_bit.ensures c.requires.0 _ c.in-Ok.is _ _ _ c.requires.2 c.list_header.ensures

pub returns-in-Err : goal.returns-in-Err
returns-in-Err c =
    refused_output _ _ _ _ _ _ _ _ (refused _ _ _ c.read_bit.ensures c.requires.0 _ c.in-Err.is) c.number.ensures (omega (arith, c.requires.2)) c.of_refusal.ensures

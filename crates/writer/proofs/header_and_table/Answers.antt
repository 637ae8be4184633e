-- `header_and_table` meets its contract: the header's length comes first.
use Rattle.std.proofs.Common.{rules}
use borrow.Author.Tests.{eq-eqb, ne_eqb}
use Rattle.refusal.specs.Cause.{refused_if}
use Rattle.judgement.specs.Judgement.{header_length}
use Rattle.writer.specs.Judgement.{header_and_table}
use Rattle.writer.proofs.header_and_table.Goals as goal

pub returns-in_err-refused_if : goal.returns-in_err-refused_if
unfolding header_and_table header_length
returns-in_err-refused_if c = search rules

pub returns : goal.returns
unfolding header_and_table header_length
returns c = search rules

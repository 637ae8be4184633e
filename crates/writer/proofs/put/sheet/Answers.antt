-- `put::sheet` meets its contract: the header, then all records.
use Rattle.std.proofs.Common.{refl, sym}
use Rattle.layout.specs.Layout.{header}
use Rattle.writer.proofs.RecordLaws.{ready_on}
use Rattle.writer.proofs.PromiseLaws.{sheet_put}
use Rattle.writer.proofs.put.sheet.Goals as goal

pub returns-then-k-eq0 : goal.returns-then-k-eq0
returns-then-k-eq0 c =
    sheet_put _ c.args.table.now _ _ _ c.args.k (header c.args.header.now) c.requires refl c.put_header.ensures (λ z e. rw (sym c.if-k-eq0.true) at e)

pub put_records-requires : goal.put_records-requires
put_records-requires c =
    rw c.header_of.ensures (ready_on _ _ _ _ _ _ _ _ c.requires.ready c.put_header.auto.sheet c.requires.ready.before, c.requires.all)

pub returns : goal.returns
returns c = sheet_put _ _ _ _ _ _ _ c.requires c.header_of.ensures c.put_header.ensures c.put_records.ensures

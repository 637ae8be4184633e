-- `Cause::number` meets its contract, cause by cause.
use Rattle.refusal.proofs.cause.Cause.number.Goals as goal

pub returns-in-SheetForm : goal.returns-in-SheetForm
returns-in-SheetForm c = rw c.in-SheetForm.is

pub returns-in-StationCount : goal.returns-in-StationCount
returns-in-StationCount c = rw c.in-StationCount.is

pub returns-in-Thresholds : goal.returns-in-Thresholds
returns-in-Thresholds c = rw c.in-Thresholds.is

pub returns-in-StationNumber : goal.returns-in-StationNumber
returns-in-StationNumber c = rw c.in-StationNumber.is

pub returns-in-Value : goal.returns-in-Value
returns-in-Value c = rw c.in-Value.is

pub returns-in-MarkBeyond : goal.returns-in-MarkBeyond
returns-in-MarkBeyond c = rw c.in-MarkBeyond.is

pub returns-in-StationState : goal.returns-in-StationState
returns-in-StationState c = rw c.in-StationState.is

pub returns-in-Length : goal.returns-in-Length
returns-in-Length c = rw c.in-Length.is

pub returns-in-ChainLeaves : goal.returns-in-ChainLeaves
returns-in-ChainLeaves c = rw c.in-ChainLeaves.is

pub returns-in-ChainRepeats : goal.returns-in-ChainRepeats
returns-in-ChainRepeats c = rw c.in-ChainRepeats.is

pub returns-in-RecordForm : goal.returns-in-RecordForm
returns-in-RecordForm c = rw c.in-RecordForm.is

pub returns-in-UnmarkedSender : goal.returns-in-UnmarkedSender
returns-in-UnmarkedSender c = rw c.in-UnmarkedSender.is

pub returns-in-Duplicate : goal.returns-in-Duplicate
returns-in-Duplicate c = rw c.in-Duplicate.is

pub returns-in-TooManyRecords : goal.returns-in-TooManyRecords
returns-in-TooManyRecords c = rw c.in-TooManyRecords.is

pub returns-in-Width : goal.returns-in-Width
returns-in-Width c = rw c.in-Width.is

pub returns-in-Seed : goal.returns-in-Seed
returns-in-Seed c = rw c.in-Seed.is

pub returns-in-Offer : goal.returns-in-Offer
returns-in-Offer c = rw c.in-Offer.is

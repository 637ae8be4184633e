-- PutLaws and RecordLaws have what is put byte by byte and record by record; PromiseLaws what the calls promise. Theorems has the proof of the statement of
-- specs/Theorems.antt, to which ManyLaws leads.
pub mod PutLaws
pub mod RecordLaws
pub mod PromiseLaws
pub mod ManyLaws
pub mod Theorems

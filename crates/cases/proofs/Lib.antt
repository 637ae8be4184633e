-- Cases has the one proof that every row of the tables of specs/Cases.antt and specs/Further.antt holds.
pub mod Cases

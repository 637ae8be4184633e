-- Document 01's cases A to H, as one table of sheets and what must come out of each, a second table of further sheets, a third of recipe numbers, a
-- fourth of generated runs, and a fifth of offers. Table has what a row is.
pub mod Table
pub mod Cases
pub mod Further
pub mod Numbers
pub mod Generated
pub mod Offers

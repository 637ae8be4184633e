-- A lent station (document 01, "One station": "a station is also lent and advanced by one row"). What a row makes of a station, and what is refused, is
-- crate station's.
pub mod Lent

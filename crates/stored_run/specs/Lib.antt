-- Promise has what is promised of the lent table.
pub mod Promise

-- What crate all_stations needs beside the steps' definitions, which are crate broadcast's.
pub mod Counts

-- A number among a program's arguments.
pub mod Argument

-- What is refused of a station's content, of a row handed to it and of what it is opened with (document 01, "Refused causes").
pub mod Judgement

-- The causes of refusal, by their numbers, and verdicts (document 01, "Refused causes").
pub mod Cause

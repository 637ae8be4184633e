-- SoundLaws has what a judged station is in plain facts; and in a folder for each function is the proof that it meets its contract.
pub mod SoundLaws

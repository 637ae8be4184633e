-- The theorems: each statement of specs/Theorems.antt, under its name, and the law that proves it. Assumes nothing.
use Rattle.judgement.specs.Theorems.{FormAccepts, FormSound}
use Rattle.judgement.proofs.FormLaws as form

pub form_accepts : FormAccepts
form_accepts = form.form_accepts

pub form_sound : FormSound
form_sound = form.form_sound

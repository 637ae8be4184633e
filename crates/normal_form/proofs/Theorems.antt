-- The theorems: each statement of specs/Theorems.antt, under its name, and the law that proves it. Assumes nothing.
use Rattle.normal_form.specs.Theorems.{ReadsBack, NormalForm, OneForm}
use Rattle.normal_form.proofs.BackLaws.{read_back}
use Rattle.normal_form.proofs.RewriteLaws as rewrite

pub reads_back : ReadsBack
reads_back = read_back

pub normal_form : NormalForm
normal_form = rewrite.rewrites

pub one_form : OneForm
one_form = rewrite.one_form

-- The measure is the number itself: it calls itself for all digits but the last.
use Rattle.text.proofs.+number.Given as goal

abbrev pub decreases-number : goal.decreases-number
decreases-number l = l.x

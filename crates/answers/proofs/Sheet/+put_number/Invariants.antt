-- `answers::Sheet::put_number` meets its contract: the tenth part is put first, and then the last digit. The number falls. Assumes nothing.
use Rattle.answers.proofs.Sheet.+put_number.Given as goal

abbrev pub decreases-put_number : goal.decreases-put_number
decreases-put_number l = l.n

-- `translate` meets its contract. Assumes nothing.
use native.Mathlib.Omega.{arith}
use mathlib.Core.Path.{refl}
use Rattle.std.proofs.lemmas.Result.{err_from_is_err_and}
use Rattle.translate.proofs.TranslatedLaws.{says_1, says_2, says_3}
use Rattle.translate.proofs.translate.Goals as goal

pub returns-then-rows-ne576 : goal.returns-then-rows-ne576
returns-then-rows-ne576 c = (says_1 _ _ c.if-rows-ne576.true, refl)

pub returns-then-text-gt-LONGEST : goal.returns-then-text-gt-LONGEST
returns-then-text-gt-LONGEST c = (says_2 _ _ c.if-rows-ne576.false (omega (arith, c.if-text-gt-LONGEST.true)), refl)

pub returns-in_err-scan : goal.returns-in_err-scan
returns-in_err-scan c =
    let p = err_from_is_err_and c.from_residual.result c.from_residual.ensures.1 in
    rw (p.1, p.2) (says_3 _ _ _ c.if-rows-ne576.false c.if-text-gt-LONGEST.false c.in_err-scan.ensures, refl)

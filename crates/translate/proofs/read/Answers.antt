-- `read` meets its contract. Assumes nothing.
use mathlib.Core.Path.{refl}
use Rattle.std.proofs.lemmas.Result.{err_from_is_err_and}
use Rattle.translate.proofs.TranslatedLaws.{says_limit}
use Rattle.translate.proofs.read.Goals as goal

pub returns-in_err-limits : goal.returns-in_err-limits
returns-in_err-limits c =
    let p = err_from_is_err_and c.from_residual.result c.from_residual.ensures.1 in
    rw (p.1, p.2) (says_limit c.args.text.now c.args.rows.now c.requires.0 c.requires.1 c.requires.2 _ c.in_err-limits.ensures, refl)

-- `put_held` meets its contract. Assumes nothing.
use mathlib.Core.Path.{ap, ◌∙◌}
use native.Mathlib.Omega.{arith}
use lib.Seq.{sets}
use Rattle.card_mender.proofs.GoingLaws.{to_between}
use Rattle.card_mender.proofs.put_held.Goals as goal

pub kept_block-requires : goal.kept_block-requires
kept_block-requires c =
    let between = to_between _ c.stay_to-to.result c.requires.0 (c.stay_to-to.ensures c.requires.0.before c.requires.0.carries) in
    (omega (arith, c.requires.0.whole, between.1, c.requires.0.few), between.0, omega (arith, between.1, c.requires.0.few))

pub returns : goal.returns
returns c = λ f k. record { to_is = c.stay_to-to.ensures f k; puts = c.copy_block.ensures ∙ ap (sets _ _) c.kept_block.ensures }

-- `pass` meets its contract: words of 0, the roots marked, the words given down. Assumes nothing.
use mathlib.Core.Path.{◌≡◌}
use native.Mathlib.Omega.{arith}
use lib.ListN.{length, replicate}
use borrow.Author.Rules.{rules}
use Rattle.sizes.proofs.PassLaws.{pass_sized}
use Rattle.sizes.proofs.pass.Goals as goal

pub returns : goal.returns
returns c =
    let zero : c.fill.new.self ≡ replicate (length c.args.words.now) 0 = search rules in
    pass_sized c.fill.new.self c.mark_roots.new.words c.args.nodes.table c.requires.base_bound.2 (omega (arith, c.requires.base_bound.0, c.requires.base_bound.1, c.requires.sizes_len.0)) (rw c.requires.words_len at zero) c.mark_roots.ensures c.push_down.ensures

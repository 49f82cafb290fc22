-- `Parts::look` meets its contract: the variable's part is searched. Assumes nothing.
use mathlib.Core.Path.{ap, ◌∙◌}
use mathlib.Core.List.{List}
use Prim.Native.Nat.{ℕ}
use Rattle.numbers.specs.Looking.{looked_up}
use Rattle.numbers.proofs.LookLaws.{piece}
use Rattle.numbers.proofs.looking.Parts.look.Goals as goal

pub returns : goal.returns
returns c =
    let a = c.args.self.now in
    c.look_in.ensures ∙ ap (λ (xs : List ℕ). looked_up a.m xs c.args.y.0) (piece a.m a.counts a.values.now c.args.v)

-- `rule::right::counts_agree` meets its contract. The loop's invariant: no row from j on, before the row at place i, is an atom of its predicate. Assumes nothing.
use Prim.Native.Nat.{ℕ, ◌≤◌, ◌<◌}
use mathlib.Core.Path.{◌≡◌}
use mathlib.Core.Bool.{false}
use Rattle.rule.specs.Checking.{atom_of}
use Rattle.rule.proofs.right.counts_agree.Given as goal

abbrev pub invariant-loop-j : goal.invariant-loop-j
invariant-loop-j l = (k : ℕ) → l.j ≤ k → k < l.i → atom_of l.rows k l.p ≡ false

-- `packing::put_names` meets its contract. The loops' invariants: the places so far are written, and then the lengths so far. Assumes nothing.
use mathlib.Core.Path.{◌≡◌}
use mathlib.Core.List.{map}
use lib.Seq.{paste}
use Rattle.linked_rule.proofs.packing.put_names.Given as goal

abbrev pub invariant-loop-i : goal.invariant-loop-i
invariant-loop-i l = l.to ≡ paste l.initial.to l.at (map (λ s. s.start) l.names) l.i

abbrev pub invariant-loop-j : goal.invariant-loop-j
invariant-loop-j l = l.to ≡ paste l.initial.to l.behind (map (λ s. s.length) l.names) l.j

-- `write_fresh` meets its contract. The loop's invariant: the fresh values of the variables before v are written. Assumes nothing.
use Prim.Native.Nat.{◌*◌}
use mathlib.Core.Path.{◌≡◌}
use lib.ListN.{length}
use Rattle.meaning.specs.Tables.{list_of, lay_values}
use Rattle.numbers.specs.Asking.{bare, with_counts}
use Rattle.lists.proofs.WritingLaws.{first_fresh}
use Rattle.lists.proofs.writing.write_fresh.Given as goal

abbrev pub invariant-loop-v : goal.invariant-loop-v
invariant-loop-v l =
    (length l.values ≡ length l.initial.values)
    × (l.values ≡ lay_values l.k (first_fresh l.before l.asked.counts (bare l.asked.fresh) (list_of l.k (with_counts l.before) l.initial.values) (24 * l.v)))

-- Laws of the lent tables: their lengths, and what clears them. Assumes nothing.
use Prim.Native.Nat.{ℕ}
use mathlib.Core.Path.{◌≡◌, refl, ap, sym, ◌∙◌}
use mathlib.Core.Bool.{Bool, false}
use mathlib.Core.List.{List}
use mathlib.Core.Logic.{◌≢◌}
use borrow.Author.Tests.{eq-eqb, ne_eqb}
use Rattle.trees.specs.Kept.{all_below}
use Rattle.meaning.specs.declared.State.{State}
use Rattle.meaning.specs.Tables.{list_right}
use Rattle.numbers.specs.Asking.{with_counts}
use Rattle.numbers.proofs.AskedLaws.{right_of}
use Rattle.monitor.specs.Events.{lists_right, Beyond}

-- nothing is changed
pub beyond_same : (w : ℕ) (xs : List ℕ) → Beyond w xs xs
beyond_same w xs = record { size = refl; rest = refl }

-- the count of rows is not the rule's
pub other_rows : (s : State) (n : ℕ) (values : List ℕ) → s.rows ≢ n → false ≡ lists_right s n values
unfolding lists_right
other_rows s n values h = rw (ne_eqb s.rows n h) refl

-- it is, and the lists are checked
pub same_rows : (s : State) (n : ℕ) (values : List ℕ) (r : Bool) → s.rows ≡ n → r ≡ all_below 4 (list_right s.k (with_counts s.counts) values) → r ≡ lists_right s n values
unfolding lists_right
same_rows s n values r h q = rw (eq-eqb s.rows n h) (q ∙ ap (all_below 4) (sym (right_of s.k s values)))

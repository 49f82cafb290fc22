-- The sizes of a state whose numbers are a layout are true: of each row the count of its diagram's nodes. Assumes nothing.
use Prim.Native.Nat.{ℕ}
use mathlib.Core.Path.{◌≡◌, ap, sym, ◌∙◌}
use mathlib.Core.Bool.{true}
use mathlib.Core.List.{List}
use native.Mathlib.Omega.{arith}
use lib.ListN.{length, get_or}
use Rattle.trees.specs.Tree.{off}
use Rattle.trees.specs.Sizes.{node_count, sizes_of}
use Rattle.trees.proofs.SizesLaws.{sizes_length, sizes_at, sizes_past}
use Rattle.meaning.specs.declared.State.{State}
use Rattle.meaning.specs.Rows.{right, check_rows}
use Rattle.meaning.specs.Step.{Shown}
use Rattle.meaning.specs.Tables.{lay_state}
use Rattle.meaning.specs.Outcome.{k_right, Machine}
use Rattle.meaning.specs.Verdicts.{Sized}
use Rattle.meaning.proofs.RunLaws.{few, Laid, shows_is}

module _ (rows : List ℕ) (k C : ℕ) (kr : k_right k ≡ true) (cr : check_rows rows ≡ right) (m : Machine) (s : Shown) (l : Laid rows k C kr cr m s) where
  sizes_laid : m.state.sizes ≡ sizes_of s.trees
  unfolding lay_state
  sizes_laid = ap (λ (t : State). t.sizes) l.state_is

  pub sized_of : Sized rows m
  sized_of =
      let n = l.proper.count in
      record {
        count = ap length sizes_laid ∙ sizes_length s.trees (omega (arith, few rows k C kr cr));
        row = λ i h. ap (λ (z : List ℕ). get_or z i 0) sizes_laid ∙ sizes_at s.trees i (omega arith)
            ∙ ap (λ (x : Shown). node_count (get_or x.trees i off)) (sym (shows_is rows k C kr cr m s l));
        past = λ i h. ap (λ (z : List ℕ). get_or z i 0) sizes_laid ∙ sizes_past s.trees i (omega arith);
      }

-- Well kept diagrams meet what this crate's functions ask, before an event and after it: a state's are so, and so is every canonical layout
-- (`layout_kept`, crates/trees). Assumes nothing.
use Prim.Native.Nat.{ℕ, ◌*◌, ◌≤◌, ◌<◌}
use mathlib.Core.Path.{◌≡◌, ap}
use mathlib.Core.Bool.{Bool}
use mathlib.Core.List.{List, [], map, ◌++◌}
use native.Mathlib.Omega.{arith}
use lib.ListN.{length, get_or, replicate}
use Rattle.trees.specs.Tree.{Tree, off, Fine}
use Rattle.trees.specs.Table.{add_trees, ref_of, show}
use Rattle.trees.specs.Kept.{diagrams, WellKept}
use Rattle.trees.proofs.CanonicalLaws.{kept_back, kept_one}
use Rattle.trees.proofs.LayoutLaws.{layout_diagrams}
use Rattle.nodes.specs.Nodes.{Table}
use Rattle.trees.specs.Sizes.{sizes_of}
use Rattle.sizes.specs.Leading.{Leading}

module _ (free : ℕ → ℕ → Bool) (C n : ℕ) (refs : List ℕ) (kept : ℕ) (ns : List ℕ) (w : WellKept free C n refs kept ns) where
  pub kept_table : length ns ≡ 3 * C → C ≤ 4096 → Table ns kept
  kept_table size small = record { small = omega arith; fits = omega (arith, w.fits); back = kept_back free C n refs kept ns w; one = kept_one free C n refs kept ns w }

  pub kept_leading : n ≤ 64 → length refs ≡ 64 → Leading refs n kept
  kept_leading few wide = record { few = few; wide = wide; inside = w.inside }

-- the sizes of a canonical layout are those of the diagrams that it lays out
pub layout_sizes : (hi y z : ℕ) (ds : List Tree) → ((i : ℕ) → i < length ds → Fine 0 hi (get_or ds i off))
    → sizes_of (diagrams (show (add_trees [] ds) (add_trees [] ds) ++ replicate y 0) (length (add_trees [] ds)) (map (ref_of (add_trees [] ds)) ds ++ replicate z 0) (length ds)) ≡ sizes_of ds
layout_sizes hi y z ds fine = ap sizes_of (layout_diagrams hi y z ds fine)

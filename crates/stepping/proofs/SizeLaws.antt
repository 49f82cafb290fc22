-- Sizes in a step: what is asked where they are found, after the check and after the sweep, and what they then are. Assumes nothing.
use Prim.Native.Nat.{ℕ, ◌+◌, ◌*◌, ◌/◌, ◌≤◌, ◌<◌}
use mathlib.Core.Path.{◌≡◌, refl, sym, ap, ◌∙◌}
use mathlib.Core.Bool.{Bool, true, false}
use mathlib.Core.List.{List, [], ◌++◌, map}
use native.Mathlib.Omega.{arith}
use lib.ListN.{length, get_or, replicate, length-append, length-replicate}
use Rattle.trees.specs.Tree.{Tree, off, on, node, Fine}
use Rattle.trees.specs.Table.{add_trees, ref_of, show}
use Rattle.trees.specs.Kept.{levels, diagrams, WellKept, well_kept}
use Rattle.trees.specs.Sizes.{sizes_of, sizes_right}
use Rattle.trees.proofs.Tests.{not_true, and_true_l}
use Rattle.trees.proofs.KeptLaws.{kept_of}
use Rattle.trees.proofs.ShowLaws.{sound_nil, sound_adds, show_length}
use Rattle.trees.proofs.LayoutLaws.{layout_kept}
use Rattle.trees.proofs.SizesLaws.{sizes_right_law, right_sizes}
use Rattle.nodes.specs.Nodes.{Table, Rest, Decides}
use Rattle.keeping.specs.Checks.{free_by, CheckLeaves}
use Rattle.sizes.specs.Leading.{Leading}
use Rattle.sizes.proofs.AskedLaws.{kept_table, kept_leading, layout_sizes}
use Rattle.diagram.specs.Steps.{kept_right}
use Rattle.diagram.specs.Works.{Fits}
use Rattle.stepping.proofs.LendLaws.{chained_part}
use Rattle.stepping.proofs.ClearLaws.{rest_two}

-- whatever the level, it passes
levels_any : (d : Tree) → levels (λ l. true) d ≡ true
unfolding levels
levels_any off = refl
levels_any on = refl
levels_any (node l a b) = rw (levels_any a, levels_any b)

-- ns, kept and refs are the canonical layout of the diagrams ds, with y and z zeros behind
pub record LaidOut (hi : ℕ) (ds : List Tree) (count y z : ℕ) (ns : List ℕ) (kept : ℕ) (refs : List ℕ) : Type 0 where
  pub rows : length ds ≡ count
  pub fine : (i : ℕ) → i < length ds → Fine 0 hi (get_or ds i off)
  pub size : kept ≡ length (add_trees [] ds)
  pub numbers : ns ≡ show (add_trees [] ds) (add_trees [] ds) ++ replicate y 0
  pub references : refs ≡ map (ref_of (add_trees [] ds)) ds ++ replicate z 0

-- the sizes found there are those of the diagrams
pub laid_sizes : {hi : ℕ} {ds : List Tree} {count y z : ℕ} {ns : List ℕ} {kept : ℕ} {refs : List ℕ} → LaidOut hi ds count y z ns kept refs → sizes_of (diagrams ns kept refs count) ≡ sizes_of ds
laid_sizes {hi} {ds} {count} {y} {z} l = rw (l.numbers, l.references, l.size, ← l.rows) (layout_sizes hi y z ds l.fine)

-- and all that is asked holds
pub laid_asked : {hi : ℕ} {ds : List Tree} {count y z : ℕ} {ns : List ℕ} {kept : ℕ} {refs : List ℕ} → LaidOut hi ds count y z ns kept refs
    → (C : ℕ) → length ns ≡ 3 * C → C ≤ 4096 → count ≤ 64 → length refs ≡ 64
    → Table ns kept × Leading refs count kept
laid_asked {hi} {ds} {count} {y} {z} {ns} {kept} {refs} l C size small few wide = (kept_table any C count refs kept ns well size small, kept_leading any C count refs kept ns well few wide)
  where
    any : ℕ → ℕ → Bool
    any i l = true

    T : List Tree
    T = add_trees [] ds

    -- the nodes have their place in the slice
    room : length T ≤ C
    room =
        let e : length ns ≡ length (show T T) + y = ap length l.numbers ∙ length-append (show T T) (replicate y 0) ∙ rw length-replicate refl in
        omega (arith, e, show_length T T (sound_adds ds [] sound_nil).nodes, size)

    well : WellKept any C count refs kept ns
    well = rw (l.numbers, l.references, l.size, ← l.rows) (layout_kept hi y z ds l.fine any C room (λ i h. levels_any (get_or ds i off)))

-- diagrams that are well kept and have these sizes are well kept
pub well_kept_law : (k count : ℕ) (allowed refs sizes : List ℕ) (kept : ℕ) (ns : List ℕ) → kept_right k count allowed refs sizes kept ns ≡ true → WellKept (free_by k allowed) (length ns / 3) count refs kept ns
well_kept_law k count allowed refs sizes kept ns e =
    kept_of (free_by k allowed) (length ns / 3) count refs kept ns (and_true_l (well_kept (free_by k allowed) (length ns / 3) count refs kept ns) (sizes_right sizes (diagrams ns kept refs count)) e)

module _ (k count : ℕ) (allowed refs sizes : List ℕ) (kept : ℕ) (ns w : List ℕ) (f : Fits k count (length ns) (length w)) (wide : length refs ≡ 64) where
  abbrev kept_well : Bool
  kept_well = well_kept (free_by k allowed) (length ns / 3) count refs kept ns

  -- after the check
  pub checked_asked : kept_well ≡ true → (w₁ : List ℕ) → length w₁ ≡ length w → (Table ns kept × Leading refs count kept) × (kept ≤ length w₁)
  checked_asked e w₁ d =
      let well = kept_of (free_by k allowed) (length ns / 3) count refs kept ns e in (
        (kept_table _ (length ns / 3) count refs kept ns well f.whole f.small, kept_leading _ (length ns / 3) count refs kept ns well f.few wide),
        omega (arith, well.fits, f.room, d),
      )

  -- what is answered where the diagrams are not well kept ..
  pub ill_kept : kept_well ≡ false → false ≡ kept_right k count allowed refs sizes kept ns
  ill_kept e = rw e refl

  -- .. and else
  pub sized_kept : kept_well ≡ true → (b : Bool) → Decides (sizes ≡ sizes_of (diagrams ns kept refs count)) b → b ≡ kept_right k count allowed refs sizes kept ns
  sized_kept e b d = rw e (go b d)
    where
      go : (b : Bool) → Decides (sizes ≡ sizes_of (diagrams ns kept refs count)) b → b ≡ sizes_right sizes (diagrams ns kept refs count)
      go true h = sym (sizes_right_law sizes _ h)
      go false h = sym (not_true _ (λ g. h (right_sizes sizes _ g)))

  -- the sizes were found in front of the chains
  pub sized_leaves : kept_well ≡ true → {w₁ w₂ : List ℕ} → CheckLeaves ns kept w w₁ true → Rest kept w₁ w₂ → (b : Bool) → CheckLeaves ns kept w w₂ b
  sized_leaves e c r b =
      let well = kept_of (free_by k allowed) (length ns / 3) count refs kept ns e in
      record {
        rest = rest_two (15 * (length ns / 3)) c.rest r (omega arith) (omega (arith, well.fits));
        chained = λ _. chained_part (omega (arith, well.fits, f.whole)) f.one (λ x h g. r.eq x (omega (arith, well.fits))) (c.chained refl);
      }

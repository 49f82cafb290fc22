-- How many nodes diagrams have together depends on which they are, and not on their order. Assumes nothing.
use Prim.Native.Nat.{ℕ, ◌≤◌, ◌<◌}
use mathlib.Core.Path.{◌≡◌}
use mathlib.Core.List.{List, []}
use native.Mathlib.Omega.{arith}
use lib.ListN.{length, get_or}
use Rattle.trees.specs.Tree.{Tree, off}
use Rattle.trees.specs.Table.{add_trees}
use Rattle.trees.proofs.TableLaws.{has_adds, closed_adds, closed_nil}
use Rattle.trees.proofs.ShowLaws.{sound_adds, sound_nil}
use Rattle.trees.proofs.RoomLaws.{Part, part_has, all_adds, table_le}

-- each diagram of ds is one of es
abbrev pub Among : List Tree → List Tree → Type 0
Among ds es = (i : ℕ) → i < length ds → (j : ℕ) × (j < length es) × (get_or es j off ≡ get_or ds i off)

pub adds_le : (ds es : List Tree) → Among ds es → length (add_trees [] ds) ≤ length (add_trees [] es)
adds_le ds es m =
    table_le (add_trees [] ds) (add_trees [] es) (sound_adds ds [] sound_nil) (λ j h.
    let u = all_adds (λ s. (i : ℕ) × (i < length ds) × Part s (get_or ds i off)) ds [] (λ j h. absurd (omega arith)) (λ i h s p. (i, h, p)) j h in
    let c = m u.0 u.1 in
    part_has (add_trees [] es) (closed_adds es [] closed_nil) (get_or ds u.0 off) (get_or (add_trees [] ds) j off) u.2 (rw c.2 at (has_adds es [] c.0 c.1)))

pub adds_same : (ds es : List Tree) → Among ds es → Among es ds → length (add_trees [] ds) ≡ length (add_trees [] es)
adds_same ds es p q = let a = adds_le ds es p in let b = adds_le es ds q in omega arith

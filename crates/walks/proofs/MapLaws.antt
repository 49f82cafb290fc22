-- The map of complements as a list. Assumes nothing.
use Prim.Native.Nat.{ℕ, ◌+◌, ◌*◌, ◌≤◌, ◌<◌}
use mathlib.Core.Path.{◌≡◌, sym, ◌∙◌}
use mathlib.Core.List.{List}
use native.Mathlib.Decide.{ℕ_discrete}
use native.Mathlib.Omega.{arith}
use lib.ListN.{length, get_or, set, drop, length-set, length-drop}
use lib.Seq.{ext_get_or, get_or-take, get_or-drop, get_or-set_same, get_or-set_other, length-take-le}
use Rattle.nodes.specs.Nodes.{Front}
use Rattle.walks.specs.Complements.{map_of}

-- its numbers
pub map_at : (c : ℕ) (w : List ℕ) (j : ℕ) → j < c → get_or (map_of c w) j 0 ≡ get_or w (4 * c + j) 0
map_at c w j h = get_or-take c (drop (4 * c) w) j 0 h ∙ get_or-drop (4 * c) w j 0

-- and their count
pub map_length : (c : ℕ) (w : List ℕ) → 15 * c ≤ length w → length (map_of c w) ≡ c
map_length c w h = length-take-le c (drop (4 * c) w) (rw length-drop (omega arith))

module _ (c : ℕ) (w w' : List ℕ) (long : 15 * c ≤ length w) (long' : 15 * c ≤ length w') where
  -- the same numbers are the same map
  pub map_is : Front (5 * c) w w' → map_of c w' ≡ map_of c w
  map_is f =
      ext_get_or 0 _ _ (map_length c w' long' ∙ sym (map_length c w long))
      (λ i h. let k : i < c = omega (arith, map_length c w' long') in map_at c w' i k ∙ f.eq (4 * c + i) (omega arith) ∙ sym (map_at c w i k))

-- one number written
pub map_write : (c : ℕ) (w : List ℕ) (j x : ℕ) → 15 * c ≤ length w → j < c → map_of c (set w (4 * c + j) x) ≡ set (map_of c w) j x
map_write c w j x long h =
    ext_get_or 0 _ _ (map_length c (set w (4 * c + j) x) (simp length-set long) ∙ sym (length-set (map_of c w) j x ∙ map_length c w long))
    (λ i k. let l : i < c = omega (arith, map_length c (set w (4 * c + j) x) (simp length-set long)) in map_at c (set w (4 * c + j) x) i l ∙ go i l (ℕ_discrete i j))
  where
    go : (i : ℕ) → i < c → Dec (i ≡ j) → get_or (set w (4 * c + j) x) (4 * c + i) 0 ≡ get_or (set (map_of c w) j x) i 0
    go i l (yes e) = rw e (get_or-set_same w (4 * c + j) x 0 (omega arith) ∙ sym (get_or-set_same (map_of c w) j x 0 (omega (arith, map_length c w long))))
    go i l (no e) = get_or-set_other w (4 * c + j) (4 * c + i) x 0 (λ f. e (omega arith)) ∙ sym (map_at c w i l) ∙ sym (get_or-set_other (map_of c w) j i x 0 e)

-- The numbers of a fact: what they say, the diagrams that they go into, and how. Assumes nothing: these are definitions.
use Rattle.std.specs.Prelude.{ℕ, zero, suc, ◌*◌, ◌/◌, ◌%◌, ◌^◌, ◌<◌, ◌≡◌, Bool, true, false, cond, ◌&&◌, Option, Some, None, List, eqb, get_or}
use Rattle.trees.specs.Bits.{Function, number}
use Rattle.trees.specs.Tree.{Tree, Fine, mk}
use Rattle.trees.specs.Kept.{levels}
use Rattle.trees.proofs.TreeLaws.{side}
use Rattle.making.specs.declared.Number.{Number}

-- the k bits from the level base on show the number, modulo 2 ^ k, where one is given
abbrev pub place_says : ℕ → ℕ → Option Number → Function
place_says base k None s = true
place_says base k (Some m) s = eqb (number s base k) (m.0 % 2 ^ k)

-- the bits of each of the four variables show its number, the bits of variable v standing from the level v * k on
unfoldable pub cube_says : ℕ → List (Option Number) → Function
cube_says k places s =
    place_says 0 k (get_or places 0 None) s
    && (place_says k k (get_or places 1 None) s && (place_says (2 * k) k (get_or places 2 None) s && place_says (3 * k) k (get_or places 3 None) s))

-- a number is given
abbrev pub given : Option Number → Bool
given None = false
given (Some m) = true

-- the level l is one of a variable that has a number
unfoldable pub numbered : ℕ → List (Option Number) → ℕ → Bool
numbered k places l = given (get_or places (l / k) None)

-- a diagram over the four variables' levels that asks only variables that have a number
pub record Over (k : ℕ) (places : List (Option Number)) (t : Tree) : Type 0 where
  pub fine : Fine 0 (4 * k) t
  pub only : levels (numbered k places) t ≡ true

-- the same of the four variables have a number
pub record SameShape (ps qs : List (Option Number)) : Type 0 where
  pub each : (v : ℕ) → v < 4 → given (get_or ps v None) ≡ given (get_or qs v None)

-- where `count` bits of m, from the level base on, lead in a tree
unfoldable pub along_bits : ℕ → ℕ → ℕ → Tree → Tree
along_bits base zero m t = t
along_bits base (suc count) m t =
    cond (eqb (m % 2) 0) (along_bits (suc base) count (m / 2) (side base false t)) (along_bits (suc base) count (m / 2) (side base true t))

-- where a variable's number leads, where one is given
abbrev pub along_place : ℕ → ℕ → Option Number → Tree → Tree
along_place base k None t = t
along_place base k (Some m) t = along_bits base k m.0 t

-- the tree d with `count` bits of m asked before it, from the level base on, and on the other side of each what t has there
unfoldable pub bits_over : ℕ → ℕ → ℕ → Tree → Tree → Tree
bits_over base zero m t d = d
bits_over base (suc count) m t d =
    cond (eqb (m % 2) 0)
    (mk base (bits_over (suc base) count (m / 2) (side base false t) d) (side base true t))
    (mk base (side base false t) (bits_over (suc base) count (m / 2) (side base true t) d))

-- the same of a variable's number, where one is given
abbrev pub place_over : ℕ → ℕ → Option Number → Tree → Tree → Tree
place_over base k None t d = d
place_over base k (Some m) t d = bits_over base k m.0 t d

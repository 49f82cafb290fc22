-- Sets of the four variables as numbers below 16. Assumes nothing: these are definitions.
use Rattle.std.specs.Prelude.{ℕ, ◌+◌, ◌*◌, ◌/◌, ◌%◌, ◌^◌, Bool, false, cond, not, ◌&&◌, ◌||◌, List, eqb, get_or}
use Rattle.meaning.specs.Qtl.{free_arguments}
use Rattle.meaning.specs.Rows.{Row, truth, atom, both, neg, since, previous, exists}

-- bit v of the number m is set
unfoldable pub has_bit : ℕ → ℕ → Bool
has_bit m v = eqb (m / 2 ^ v % 2) 1

-- a digit of a mask
unfoldable pub digit : Bool → ℕ
digit b = cond b 1 0

-- the number whose bit v is set exactly if the test holds of v, for the variables 0 to 3
unfoldable pub mask_of : (ℕ → Bool) → ℕ
mask_of f = digit (f 0) + 2 * digit (f 1) + 4 * digit (f 2) + 8 * digit (f 3)

-- the free variables of a row, over the masks of the rows that it names
unfoldable pub free_of_row : List ℕ → Row → ℕ → Bool
free_of_row masks truth v = false
free_of_row masks (atom p gs) v = free_arguments gs v
free_of_row masks (both l r) v = has_bit (get_or masks l 0) v || has_bit (get_or masks r 0) v
free_of_row masks (neg r) v = has_bit (get_or masks r 0) v
free_of_row masks (since l r) v = has_bit (get_or masks l 0) v || has_bit (get_or masks r 0) v
free_of_row masks (previous r) v = has_bit (get_or masks r 0) v
free_of_row masks (exists x r) v = not (eqb x v) && has_bit (get_or masks r 0) v

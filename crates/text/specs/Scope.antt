-- Free variables, by name and while the text is read: a variable is bound if a quantifier among the waiting frames names it.
-- Part of the machine, not of the meaning. Assumes nothing: these are definitions.
use Rattle.std.specs.Prelude.{ℕ, Bool, false, not, ◌&&◌, ◌||◌, List, [], ◌∷◌}
use Rattle.text.specs.Words.{same}
use Rattle.text.specs.Grammar.{Term, variable, digits, Reading, truth, atom, under, joined, quantified, grouped}
use Rattle.text.specs.Machine.{Frame, group, applied, binding, left}
use Rattle.text.specs.Unfold.{listed}

-- the arguments name the variable
unfoldable pub has_variable : List Term → List ℕ → Bool
has_variable [] x = false
has_variable (variable y ∷ gs) x = same y x || has_variable gs x
has_variable (digits ds ∷ gs) x = has_variable gs x

-- the variable is free in the reading
unfoldable pub free_in : Reading → List ℕ → Bool
free_in (truth b) x = false
free_in (atom p gs) x = has_variable gs x
free_in (under o f) x = free_in f x
free_in (joined o f g) x = free_in f x || free_in g x
free_in (quantified q y f) x = not (same y x) && free_in f x
free_in (grouped f) x = free_in f x

-- some variable of the arguments, of the reading, is not among the names that are bound
unfoldable pub loose_terms : List (List ℕ) → List Term → Bool
loose_terms names [] = false
loose_terms names (variable y ∷ gs) = not (listed names y) || loose_terms names gs
loose_terms names (digits ds ∷ gs) = loose_terms names gs

unfoldable pub loose : List (List ℕ) → Reading → Bool
loose names (truth b) = false
loose names (atom p gs) = loose_terms names gs
loose names (under o f) = loose names f
loose names (joined o f g) = loose names f || loose names g
loose names (quantified q y f) = loose (y ∷ names) f
loose names (grouped f) = loose names f

-- the variables of the quantifiers among the frames
unfoldable pub binders : List Frame → List (List ℕ)
binders [] = []
binders (group ∷ ks) = binders ks
binders (applied o ∷ ks) = binders ks
binders (binding q x ∷ ks) = x ∷ binders ks
binders (left o g ∷ ks) = binders ks

-- some left operand among the frames has a variable that was not bound where it stood
unfoldable pub loose_frames : List Frame → Bool
loose_frames [] = false
loose_frames (group ∷ ks) = loose_frames ks
loose_frames (applied o ∷ ks) = loose_frames ks
loose_frames (binding q x ∷ ks) = loose_frames ks
loose_frames (left o g ∷ ks) = loose_frames ks || loose (binders ks) g

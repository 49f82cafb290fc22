-- The turns that are read off a row give numbers to the same variables, and are those of its task. Assumes nothing.
use Prim.Native.Nat.{ℕ, zero, suc, ◌≤◌, ◌<◌}
use mathlib.Core.Path.{◌≡◌, refl, sym, ap, ◌∙◌}
use mathlib.Core.Bool.{Bool, true, false, cond}
use mathlib.Core.List.{List, [], ◌∷◌}
use native.Mathlib.Omega.{arith}
use lib.ListN.{length, get_or}
use Rattle.meaning.specs.declared.Event.{Event}
use Rattle.meaning.specs.declared.Fact.{Fact as Given}
use Rattle.meaning.specs.Qtl.{Argument, Fact}
use Rattle.meaning.specs.Rows.{Row, truth, atom, both, neg, since, previous, exists}
use Rattle.meaning.specs.Outcome.{fact_of}
use Rattle.numbers.specs.Matching.{matches_row}
use Rattle.numbers.proofs.AskedLaws.{fact_is}
use Rattle.std.specs.Prelude.{Option, Some, None}
use Rattle.making.specs.declared.Number.{Number}
use Rattle.making.specs.Cubes.{given as has, SameShape}
use Rattle.diagram.specs.Steps.{Turn, facts, does}
use Rattle.diagram.specs.Works.{Shaped}
use Rattle.instructions.specs.Read.{names, number_read, place_read, turn_read, row_turn, is_atom, instruction_read}
use Rattle.instructions.specs.Planned.{turns_to, asked}
use Rattle.instructions.proofs.PlannedLaws.{turns_at}

-- whether a variable has a place among the arguments does not depend on the numbers
place_has : (v j : ℕ) (gs : List Argument) (numbers : List (Option Number)) (f h : ℕ) → has (place_read v j gs numbers f) ≡ has (place_read v j gs numbers h)
unfolding place_read
place_has v j [] numbers f h = refl
place_has v j (g ∷ gs) numbers f h = go (names v g) (place_has v (suc j) gs numbers f h)
  where
    go : (b : Bool) → has (place_read v (suc j) gs numbers f) ≡ has (place_read v (suc j) gs numbers h) → has (cond b (Some (number_read numbers f v j)) (place_read v (suc j) gs numbers f)) ≡ has (cond b (Some (number_read numbers h v j)) (place_read v (suc j) gs numbers h))
    go true q = refl
    go false q = q

-- the places of a row's variables, with the numbers of the first fact
pub places : Row → List (Option Number) → List (Option Number)
places truth numbers = []
places (atom p gs) numbers = place_read 0 0 gs numbers 0 ∷ place_read 1 0 gs numbers 0 ∷ place_read 2 0 gs numbers 0 ∷ place_read 3 0 gs numbers 0 ∷ []
places (both l r) numbers = []
places (neg r) numbers = []
places (since l r) numbers = []
places (previous r) numbers = []
places (exists x r) numbers = []

shape : (gs : List Argument) (numbers : List (Option Number)) (f : ℕ)
    → SameShape (place_read 0 0 gs numbers 0 ∷ place_read 1 0 gs numbers 0 ∷ place_read 2 0 gs numbers 0 ∷ place_read 3 0 gs numbers 0 ∷ [])
    (place_read 0 0 gs numbers f ∷ place_read 1 0 gs numbers f ∷ place_read 2 0 gs numbers f ∷ place_read 3 0 gs numbers f ∷ [])
shape gs numbers f = record { each = go }
  where
    go : (v : ℕ) → v < 4
        → has (get_or (place_read 0 0 gs numbers 0 ∷ place_read 1 0 gs numbers 0 ∷ place_read 2 0 gs numbers 0 ∷ place_read 3 0 gs numbers 0 ∷ []) v None)
        ≡ has (get_or (place_read 0 0 gs numbers f ∷ place_read 1 0 gs numbers f ∷ place_read 2 0 gs numbers f ∷ place_read 3 0 gs numbers f ∷ []) v None)
    go zero h = place_has 0 0 gs numbers 0 f
    go (suc zero) h = place_has 1 0 gs numbers 0 f
    go (suc (suc zero)) h = place_has 2 0 gs numbers 0 f
    go (suc (suc (suc zero))) h = place_has 3 0 gs numbers 0 f
    go (suc (suc (suc (suc v)))) h = absurd (omega arith)

-- each turn gives numbers to these variables
pub shaped : (r : Row) (numbers : List (Option Number)) (matched : Bool) (f : ℕ) → Shaped (places r numbers) (row_turn r matched numbers f)
unfolding row_turn places turn_read
shaped truth numbers matched f = tt
shaped (atom p gs) numbers false f = tt
shaped (atom p gs) numbers true f = shape gs numbers f
shaped (both l r) numbers matched f = tt
shaped (neg r) numbers matched f = tt
shaped (since l r) numbers matched f = tt
shaped (previous r) numbers matched f = tt
shaped (exists x r) numbers matched f = tt

-- the turn that is read is the task's
pub turn_is : (r : Row) (e : Event) (numbers : List (Option Number)) (f : ℕ) {t : Turn} {b : Bool} {x : Given} (none : Given) → f < e.count → e.count ≤ length e.facts
    → t ≡ row_turn r b numbers f → b ≡ matches_row (fact_of x) r → x ≡ get_or e.facts f none → t ≡ get_or (turns_to r e numbers e.count) f None
turn_is r e numbers f none h l p q s =
    p ∙ ap (λ (y : Bool). row_turn r y numbers f) (q ∙ ap (λ (y : Fact). matches_row y r) (ap fact_of s ∙ sym (fact_is e f h l none))) ∙ sym (turns_at r e numbers e.count f h)

-- what a row asks, by whether it is an atom
module _ (r : Row) (e : Event) (numbers : List (Option Number)) where
  pub asked_atom : is_atom r ≡ true → asked r e numbers ≡ facts (turns_to r e numbers e.count)
  unfolding asked
  asked_atom h = rw h

  pub asked_other : is_atom r ≡ false → asked r e numbers ≡ does (instruction_read r)
  unfolding asked
  asked_other h = rw h

-- The number of a name, the row of an atom, and the slot after a quantifier. Assumes nothing.
use Prim.Native.Nat.{ℕ, ◌-◌, ◌≤◌}
use native.Mathlib.Omega.{arith}
use mathlib.Core.Path.{◌≡◌, refl, ap, ◌∙◌}
use mathlib.Core.Bool.{Bool}
use mathlib.Core.List.{List, [], ◌∷◌}
use lib.ListN.{take, drop}
use Rattle.std.specs.Prelude.{Option, Some, None}
use Rattle.meaning.specs.Rows
use Rattle.text.specs.Words.{Word, Spelled}
use Rattle.text.specs.Unfold.{number_in}
use Rattle.text.specs.Parts.{nine}
use Rattle.spelling.specs.declared.words.Taken.{Taken}
use Rattle.spelling.specs.Codes.{Next}
use Rattle.rowing.specs.Denoted.{Makes}
use Rattle.atomic.specs.Arguments.{arguments_after, Numbers}
use Rattle.drive.specs.Drives.{slot_after}
use Rattle.drive.specs.Driving.{SlotAt, Atomic}

pub atom_made : (ps vs : List (List ℕ)) (text bytes : List ℕ) (at p : ℕ) (numbers : List ℕ) (table table' : List (List ℕ)) (row' : Option ℕ) → p ≡ number_in ps bytes
    → Numbers vs text p at numbers → Makes table numbers table' row' → Atomic ps vs text bytes at table table' row'
atom_made ps vs text bytes at p numbers table table' row' e n m ws s small few =
    rw (← (n ws s small few ∙ ap (λ (i : ℕ). nine (Rows.atom i (arguments_after vs ws))) e)) m

module _ (vs : List (List ℕ)) (text : List ℕ) (at : ℕ) where
  none_slot : (ws : List Word) → Next text at ws None → 0 ≡ slot_after vs ws
  unfolding slot_after
  none_slot [] k = refl
  none_slot (w ∷ ws) k = absurd k

  pub slot_none : ((v : Bool) (ws : List Word) → Spelled v ws (drop at text) → Next text at ws None) → SlotAt vs text at 0
  slot_none n = record { small = omega arith; slot = λ ws s. none_slot ws (n s.after ws s.spelled) }

  some_slot : (t : Taken) (ws : List Word) (r : ℕ) → Next text at ws (Some t) → r ≡ number_in vs (take (t.past - t.from) (drop t.from text)) → r ≡ slot_after vs ws
  unfolding slot_after
  some_slot t [] r k z = absurd k
  some_slot t (w ∷ ws) r k z = z ∙ ap (number_in vs) k.bytes_are

  pub slot_some : (t : Taken) (r : ℕ) → ((v : Bool) (ws : List Word) → Spelled v ws (drop at text) → Next text at ws (Some t)) → r ≡ number_in vs (take (t.past - t.from) (drop t.from text)) → r ≤ 4
      → SlotAt vs text at r
  slot_some t r n z l = record { small = l; slot = λ ws s. some_slot t ws r (n s.after ws s.spelled) z }

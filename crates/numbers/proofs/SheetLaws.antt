-- Laws of what the code writes down: the sheet shows it. Assumes nothing.
use Prim.Native.Nat.{ℕ, zero, suc, ◌+◌, ◌-◌, ◌*◌, ◌<◌}
use mathlib.Core.Path.{◌≡◌, refl, ap, ◌∙◌}
use mathlib.Core.Bool.{Bool, true, false}
use mathlib.Core.List.{List, [], ◌∷◌}
use lib.ListN.{get_or, set}
use Rattle.std.specs.Prelude.{Option, Some, None}
use Rattle.std.specs.Option.{is_some}
use Rattle.trees.proofs.Tests.{false_true}
use Rattle.making.specs.declared.Number.{Number}
use Rattle.meaning.specs.declared.Value.{Value}
use Rattle.meaning.specs.Numbering.{Lists, ask}
use Rattle.numbers.specs.Asking.{number_in, numbered, bare, with_fresh, sheet, Steady, Carried, Pair}
use Rattle.numbers.proofs.TallyLaws.{note_known, inside, note_new, note_old}

-- what a test of a number says
pub some_of : (n : Option Number) {b : Bool} → b ≡ is_some n → b ≡ true → n ≡ None → ⊥
some_of n e t z = false_true (e ∙ ap is_some z) t

pub none_of : (n : Option Number) {b : Bool} → b ≡ is_some n → b ≡ false → n ≡ None
none_of None e t = refl
none_of (Some n) e t = absurd (false_true t e)

-- the fresh values with one stored
pub bare_set : (ys : List Value) (i : ℕ) (y : Value) → bare (set ys i y) ≡ set (bare ys) i y.0
bare_set [] zero y = refl
bare_set [] (suc i) y = refl
bare_set (x ∷ ys) zero y = refl
bare_set (x ∷ ys) (suc i) y = ap (λ (l : List ℕ). x.0 ∷ l) (bare_set ys i y)

-- the fact has the value y at place j
module _ (before : List ℕ) (L : Lists) (ys counts : List ℕ) (fresh : List Value) (ns : List (Option Number)) (v j : ℕ) (st : Steady before (sheet counts fresh ns)) (hv : v < 4) (hj : j < 3) where
  -- a number of v's for it is written down
  pub noted_old : (get_or ns (3 * v + j) None ≡ None → ⊥) → Carried before L ys (λ M. ask M v (get_or ys j 0)) (Pair v j) (sheet counts fresh ns) (sheet counts fresh ns)
  noted_old some = note_old before L ys (sheet counts fresh ns) v j st hv hj some

  module _ (y : Value) (none : get_or ns (3 * v + j) None ≡ None) (is : y.0 ≡ get_or ys j 0) where
    -- none is, but y has one
    pub noted_known : (n : Option Number) → (n ≡ None → ⊥) → n ≡ number_in (with_fresh before counts (bare fresh) L v) y.0
        → Carried before L ys (λ M. ask M v (get_or ys j 0)) (Pair v j) (sheet counts fresh ns) (sheet counts fresh (set ns (3 * v + j) n))
    noted_known n real found = note_known before L ys (sheet counts fresh ns) v j y.0 st hv hj none is n real found

    -- y has none, and gets one
    module _ (missing : number_in (with_fresh before counts (bare fresh) L v) y.0 ≡ None) where
      pub new_inside : 24 * v + (get_or counts v 0 - get_or before v 0) < 96
      new_inside = inside before L ys (sheet counts fresh ns) v j y.0 st hv hj none is missing

      pub noted_new : Carried before L ys (λ M. ask M v (get_or ys j 0)) (Pair v j) (sheet counts fresh ns)
          (sheet (set counts v (get_or counts v 0 + 1)) (set fresh (24 * v + (get_or counts v 0 - get_or before v 0)) y) (set ns (3 * v + j) (numbered (get_or counts v 0))))
      noted_new =
          rw (bare_set fresh (24 * v + (get_or counts v 0 - get_or before v 0)) y)
          (note_new before L ys (sheet counts fresh ns) v j y.0 st hv hj none is missing)

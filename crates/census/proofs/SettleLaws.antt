-- A name's count, noted or compared. Assumes nothing.
use Prim.Native.Nat.{ℕ, ◌-◌, ◌≤◌}
use native.Mathlib.Omega.{arith}
use mathlib.Core.Path.{◌≡◌, refl}
use mathlib.Core.Bool.{Bool, true, false, not}
use mathlib.Core.List.{List}
use lib.Dec.{eqb}
use lib.ListN.{length, take, drop, get_or, set}
use Rattle.std.specs.Prelude.{Option, Some, None}
use Rattle.text.specs.Unfold.{number_in}
use Rattle.census.specs.Told.{Counts}
use Rattle.census.specs.Folds.{arguments_in}
use Rattle.census.specs.Clashes.{Settled}

pub settled_no : (text : List ℕ) (names : List (List ℕ)) (asked : Bool) (from past : ℕ) (counts : List (Option ℕ)) → asked ≡ false → Settled text names asked from past counts counts false
settled_no text names asked from past counts e = rw e (refl, refl)

module _ (text : List ℕ) (names : List (List ℕ)) (asked : Bool) (from past : ℕ) (counts : List (Option ℕ)) (e : asked ≡ true) (m i : ℕ) (l : length text ≤ 4096) (c : Counts text past m)
    (n : i ≡ number_in names (take (past - from) (drop from text))) where
  pub settled_new : get_or counts i None ≡ None → Settled text names asked from past counts (set counts i (Some m)) false
  settled_new o = rw e (λ ws s.
      let z : m ≡ arguments_in ws = c.are ws s in
      (rw (← z) (omega (arith, l, c.few)), rw (← z, ← n, o) (refl, refl)))

  pub settled_old : (old : ℕ) → get_or counts i None ≡ Some old → Settled text names asked from past counts counts (not (eqb old m))
  settled_old old o = rw e (λ ws s.
      let z : m ≡ arguments_in ws = c.are ws s in
      (rw (← z) (omega (arith, l, c.few)), rw (← z, ← n, o) (refl, refl)))

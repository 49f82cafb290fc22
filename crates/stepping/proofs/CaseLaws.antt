-- The cases of a step and of a check, by the tests that tell them apart. Assumes nothing.
use Prim.Native.Nat.{ℕ, ◌+◌, ◌*◌, ◌/◌}
use mathlib.Core.Path.{◌≡◌, refl}
use mathlib.Core.Bool.{Bool, true, false, not}
use mathlib.Core.List.{List}
use native.Mathlib.Omega.{arith}
use lib.Dec.{leb}
use lib.ListN.{length}
use Rattle.std.specs.Prelude.{Ok, Err}
use Rattle.diagram.specs.declared.Refused.TheVariants.{Unfit, Bad}
use Rattle.diagram.specs.declared.Unformed.TheVariants as unformed
use Rattle.trees.proofs.KeptLaws.{not_false}
use Rattle.nodes.specs.Nodes.{Rest, Zeroed, Decides}
use Rattle.keeping.specs.Checks.{Sized}
use Rattle.diagram.specs.Steps.{Told, Task, work_table, cleared, work_outcome, kept_right, step_outcome, Leaves, formed_outcome, Tells}
use Rattle.diagram.specs.Works.{Fits}
use Rattle.stepping.proofs.FitLaws.{fits_of, fits_is}
use Rattle.stepping.proofs.ClearLaws.{cleared_is, cleared_same, rest_more}
use Rattle.stepping.proofs.OutcomeLaws.{outcome_same}

-- numbers and lengths that fit are what the check asks
pub sized : {k count : ℕ} {ns w : List ℕ} → Fits k count (length ns) (length w) → Sized ns w
sized f = record { nodes = f.whole; few = omega (arith, f.small, f.whole); room = f.room }

module _ (k count : ℕ) (allowed refs sizes : List ℕ) (kept : ℕ) (ns w : List ℕ) where
  -- whether the diagrams are well kept and the sizes theirs
  abbrev pub good : Bool
  good = kept_right k count allowed refs sizes kept ns

  -- the check has changed only the first numbers of the work slice, and all that is to be zero at the end is zeroed after it
  pub cleared_after : Fits k count (length ns) (length w) → {w₁ w₂ : List ℕ} → Rest (15 * (length ns / 3)) w w₁ → length w₁ ≡ length w → Zeroed 0 (16 * (length ns / 3) + 1024) w₁ w₂ → w₂ ≡ cleared (length ns / 3) w
  cleared_after f r e y = cleared_is (length ns / 3) w f.room (rest_more r (omega arith)) e y

  module _ (plan : List Task) where
    -- unfit numbers or lengths
    pub unfit_leaves : (b : Bool) → Decides (Fits k count (length ns) (length w)) b → not b ≡ true
        → Leaves (step_outcome k count plan allowed refs sizes kept ns w) (Err Unfit) refs sizes ns w
    unfolding step_outcome
    unfit_leaves b d e = rw (fits_is k count (length ns) (length w) b d, not_false b e) (record { told = refl; refs = refl; sizes = refl; nodes = refl; work = refl })

    module _ (f : Fits k count (length ns) (length w)) where
      -- diagrams that are not well kept, or sizes that are not theirs
      pub bad_leaves : {w₂ : List ℕ} → good ≡ false → w₂ ≡ cleared (length ns / 3) w → Leaves (step_outcome k count plan allowed refs sizes kept ns w) (Err Bad) refs sizes ns w₂
      unfolding step_outcome
      bad_leaves g e = rw (fits_of k count (length ns) (length w) f, g) (record { told = refl; refs = refl; sizes = refl; nodes = refl; work = e })

      -- well kept diagrams with their sizes: what the work leaves
      pub good_leaves : {w₁ w₂ refs₂ sizes₂ ns₂ : List ℕ} {t : Told} → good ≡ true → Rest (15 * (length ns / 3)) w w₁ → length w₁ ≡ length w
          → Leaves (work_outcome (leb (length (work_table k count plan refs kept ns)) (length ns / 3)) k count plan refs sizes kept ns w₁) t refs₂ sizes₂ ns₂ w₂
          → Leaves (step_outcome k count plan allowed refs sizes kept ns w) t refs₂ sizes₂ ns₂ w₂
      unfolding step_outcome
      good_leaves {w₁} g r e l =
          rw (fits_of k count (length ns) (length w) f, g)
          (rw (outcome_same (leb (length (work_table k count plan refs kept ns)) (length ns / 3)) k count plan refs sizes kept ns w w₁ (cleared_same (length ns / 3) w w₁ f.room (rest_more r (omega arith)) e)) at l)

  -- the check alone: unfit
  pub unfit_tells : (b : Bool) → Decides (Fits k count (length ns) (length w)) b → not b ≡ true → Tells (formed_outcome k count allowed refs sizes kept ns w) (Err unformed.Unfit) w
  unfolding formed_outcome
  unfit_tells b d e = rw (fits_is k count (length ns) (length w) b d, not_false b e) (record { result = refl; work = refl })

  module _ (f : Fits k count (length ns) (length w)) {w₂ : List ℕ} (e : w₂ ≡ cleared (length ns / 3) w) where
    -- not well kept, or not their sizes
    pub bad_tells : good ≡ false → Tells (formed_outcome k count allowed refs sizes kept ns w) (Err unformed.Bad) w₂
    unfolding formed_outcome
    bad_tells g = rw (fits_of k count (length ns) (length w) f, g) (record { result = refl; work = e })

    -- well kept, with their sizes
    pub good_tells : good ≡ true → Tells (formed_outcome k count allowed refs sizes kept ns w) (Ok tt) w₂
    unfolding formed_outcome
    good_tells g = rw (fits_of k count (length ns) (length w) f, g) (record { result = refl; work = e })

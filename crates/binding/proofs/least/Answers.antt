use Prim.Native.Nat.{ℕ, suc, ◌+◌, ◌*◌, ◌-◌, ◌≤◌, ◌<◌}
use mathlib.Core.Path.{refl, ◌∙◌}
use native.Mathlib.Nat.{mul-le-mul_right}
use native.Mathlib.Omega.{arith}
use lib.Pow.{pow_mono}
use Rattle.binding.proofs.CanLaws.{bit_small}
use Rattle.binding.proofs.FixLaws.{bit_from, fixes_none, fixes_same, fixes_lt, fixes_more}
use Rattle.binding.proofs.least.Goals as goal
use Rattle.binding.proofs.least.Goals.{In-loop-level}

-- a variable's levels are below 40
below : (v k : ℕ) → v < 4 → k ≤ 10 → v * k + k ≤ 40
below v k h g = let m : suc v * k ≤ 4 * k = mul-le-mul_right k h in omega arith

-- the number so far is small
small : (c : In-loop-level) → c.loop-level.n < 1024
small c =
    omega (arith, fixes_lt _ c.requires.fine c.loop-level.invariant.2, pow_mono (fits (c.args.v * c.args.k) c.args.k c.loop-level.level c.loop-level.invariant.0 c.requires.k_bound.0))
  where
    fits : (b k l : ℕ) → b ≤ l → k ≤ 10 → b + k - l ≤ 10
    fits b k l g h = omega arith

pub loop-level-init : goal.loop-level-init
loop-level-init c = (omega arith, record { eq = λ i h. refl }, fixes_none _ _ _ _ (omega arith) c.requires.p_value)

pub overflow_mul-n : goal.overflow_mul-n
overflow_mul-n c = omega (arith, small (goal.at.overflow_mul-n c).In-loop-level)

pub overflow_add-n : goal.overflow_add-n
overflow_add-n c = omega (arith, small (goal.at.overflow_add-n c).In-loop-level, c.from.ensures ∙ bit_from c.settle-bit.result, bit_small c.settle-bit.result)

pub loop-level-preserved : goal.loop-level-preserved
loop-level-preserved c =
    let v = c.loop-level.invariant in
    let h = c.loop-level-test.true in
    let e = c.settle-bit.ensures in
    let wide = below c.args.v c.args.k c.requires.k_bound.1 c.requires.k_bound.0 in
    let level = c.loop-level.level - 1 in
    let more = fixes_more _ level (c.args.v * c.args.k + c.args.k - c.loop-level.level) _ _ _ (fixes_same (omega (arith, h)) refl v.2) (omega (arith, h, wide, c.requires.k_bound.2)) (c.requires.free.each level (omega arith) (omega (arith, h))) _ c.requires.fine e.settles in (
      omega (arith, h),
      record { eq = λ i q. e.rest.eq i q ∙ v.1.eq i q },
      rw (c.from.ensures ∙ bit_from c.settle-bit.result) (fixes_same refl (omega arith) more),
    )

pub returns-clause-fixes : goal.returns-clause-fixes
returns-clause-fixes c =
    let low = c.loop-level.invariant.0 in
    fixes_same (omega (arith, c.loop-level-test.false)) (omega (arith, c.loop-level-test.false)) c.loop-level.invariant.2

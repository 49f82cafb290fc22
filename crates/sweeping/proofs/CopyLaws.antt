-- Laws of the copy back: the first numbers of one list, and zeros behind them. Assumes nothing.
use Prim.Native.Nat.{ℕ, ◌+◌, ◌-◌, ◌≤◌, ◌<◌}
use mathlib.Core.Path.{◌≡◌, sym, ◌∙◌}
use mathlib.Core.List.{List, ◌++◌}
use mathlib.Core.Logic.{⊎_elim}
use native.Mathlib.Omega.{arith}
use native.Mathlib.Decide.{ℕ_discrete}
use lib.ListN.{length, get_or, set, take, replicate, length-append, length-set, length-replicate, get_or-replicate, get_or-append}
use lib.Seq.{ext_get_or, get_or-take, get_or-append-add, length-take-le, get_or-set_same, get_or-set_other}
use Rattle.trees.proofs.Tests.{lt_or_ge}
use Rattle.nodes.specs.Nodes.{Zeroed}

-- the numbers copied so far
pub record CopiedTo (work nodes₀ nodes : List ℕ) (i : ℕ) : Type 0 where
  pub size : length nodes ≡ length nodes₀
  pub same : (j : ℕ) → j < i → get_or nodes j 0 ≡ get_or work j 0

-- one number more is copied
pub copied_more : (work nodes₀ nodes : List ℕ) (i : ℕ) → i < length nodes → CopiedTo work nodes₀ nodes i → CopiedTo work nodes₀ (set nodes i (get_or work i 0)) (i + 1)
copied_more work nodes₀ nodes i h w = record { size = length-set nodes i (get_or work i 0) ∙ w.size; same = λ j k. go j k (ℕ_discrete j i) }
  where
    go : (j : ℕ) → j < i + 1 → Dec (j ≡ i) → get_or (set nodes i (get_or work i 0)) j 0 ≡ get_or work j 0
    go j k (yes e) = rw e (get_or-set_same nodes i (get_or work i 0) 0 h)
    go j k (no e) = get_or-set_other nodes i j (get_or work i 0) 0 e ∙ w.same j (omega arith)

-- the first k numbers of one list, and zeros behind them
pub copied_all : (work nodes₀ nodes ms : List ℕ) (k : ℕ) → k ≤ length work → k ≤ length nodes₀ → CopiedTo work nodes₀ nodes k → Zeroed k (length nodes) nodes ms
    → ms ≡ take k work ++ replicate (length nodes₀ - k) 0
copied_all work nodes₀ nodes ms k h u w z =
    ext_get_or 0 ms (take k work ++ replicate (length nodes₀ - k) 0)
    (z.size ∙ w.size ∙ sym (rw (length-append, front, length-replicate) (omega arith)))
    (λ i v. ⊎_elim
    (λ l. z.same.eq i l ∙ w.same i l ∙ sym (get_or-append (take k work) (replicate (length nodes₀ - k) 0) 0 i (rw front l) ∙ get_or-take k work i 0 l))
    (λ l. z.zero i l (omega (arith, z.size)) ∙ sym (past i l (omega (arith, z.size, w.size))))
    (lt_or_ge i k))
  where
    front : length (take k work) ≡ k
    front = length-take-le k work h

    past : (i : ℕ) → k ≤ i → i < length nodes₀ → get_or (take k work ++ replicate (length nodes₀ - k) 0) i 0 ≡ 0
    past i l v =
        let e : length (take k work) + (i - k) ≡ i = rw front (omega arith) in
        rw (← e) (get_or-append-add (take k work) (replicate (length nodes₀ - k) 0) (i - k) 0 ∙ get_or-replicate (length nodes₀ - k) (i - k) 0 0 (omega arith))

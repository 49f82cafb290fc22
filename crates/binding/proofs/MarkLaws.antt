-- Laws of the pass: the marks of references, children first. Assumes nothing.
use Prim.Native.Nat.{ℕ, zero, suc, ◌+◌, ◌≤◌, ◌<◌, max}
use mathlib.Core.Path.{◌≡◌, refl, sym, ap, ◌∙◌}
use mathlib.Core.Bool.{Bool, true, false, ◌||◌}
use mathlib.Core.List.{List}
use native.Mathlib.Decide.{ℕ_discrete}
use native.Mathlib.Omega.{arith}
use lib.ListN.{length, get_or, set, length-set}
use lib.Seq.{get_or-set_same, get_or-set_other}
use Rattle.std.specs.Prelude.{Option, None}
use Rattle.trees.specs.Bits.{bit}
use Rattle.trees.specs.Tree.{Tree}
use Rattle.trees.specs.Table.{at, trees_of}
use Rattle.nodes.specs.Nodes.{Table, Splits}
use Rattle.nodes.proofs.ReadLaws.{read_below}
use Rattle.binding.specs.Fixing.{either, can, Marks}

-- the larger mark of two sides is that of either
pub either_open : (a b : Bool) → max (bit a) (bit b) ≡ bit (a || b)
either_open true true = refl
either_open true false = refl
either_open false true = refl
either_open false false = refl

-- the leaves' marks
pub marks_none : (ns : List ℕ) (kept : ℕ) (fs : List (Option Bool)) (w : List ℕ) → 2 ≤ length w → Marks ns kept fs (set (set w 0 0) 1 1) 2
unfolding at can
marks_none ns kept fs w h = record { is = go }
  where
    go : (q : ℕ) → q < 2 → get_or (set (set w 0 0) 1 1) q 0 ≡ bit (can fs (at (trees_of ns kept) q))
    go zero l = get_or-set_other (set w 0 0) 1 0 1 0 (omega arith) ∙ get_or-set_same w 0 0 0 (omega arith)
    go (suc zero) l = get_or-set_same (set w 0 0) 1 1 0 (rw length-set h)
    go (suc (suc q)) l = absurd (omega arith)

-- one reference more is marked
pub marks_more : {ns : List ℕ} {kept : ℕ} {fs : List (Option Bool)} {w : List ℕ} {r : ℕ} → Marks ns kept fs w r → r < length w
    → (x : ℕ) → x ≡ bit (can fs (at (trees_of ns kept) r)) → Marks ns kept fs (set w r x) (r + 1)
marks_more {ns} {kept} {fs} {w} {r} m l x e = record { is = λ q h. go q h (ℕ_discrete q r) }
  where
    go : (q : ℕ) → q < r + 1 → Dec (q ≡ r) → get_or (set w r x) q 0 ≡ bit (can fs (at (trees_of ns kept) q))
    go q h (yes z) = rw (z, get_or-set_same w r x 0 l) e
    go q h (no z) = get_or-set_other w r q x 0 z ∙ m.is q (omega arith)

-- the mark of a node, from its sides' marks
pub node_can : {ns : List ℕ} {kept : ℕ} {fs : List (Option Bool)} {w : List ℕ} {r l a b : ℕ} → Table ns kept → 2 ≤ r → r < kept + 2 → Splits ns kept r l a b → Marks ns kept fs w r
    → (x : ℕ) → ((p q : Bool) → get_or w a 0 ≡ bit p → get_or w b 0 ≡ bit q → x ≡ bit (either (get_or fs l None) p q)) → x ≡ bit (can fs (at (trees_of ns kept) r))
unfolding can
node_can {ns} {kept} {fs} {w} {r} {l} {a} {b} t h k s m x f =
    let z = read_below t s h k in
    f (can fs (at (trees_of ns kept) a)) (can fs (at (trees_of ns kept) b)) (m.is a z.0) (m.is b z.1) ∙ sym (ap (λ (d : Tree). bit (can fs d)) s.is)

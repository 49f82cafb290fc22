-- A word comes: each way through the code shows where the machine goes. Assumes nothing.
use Prim.Native.Nat.{ℕ, zero, suc, ◌+◌, ◌-◌}
use native.Mathlib.Omega.{arith}
use mathlib.Core.Path.{◌≡◌, refl, sym, ap, ◌∙◌}
use Rattle.text.specs.Words.{Word}
use Rattle.text.specs.Machine.{Stage, give}
use Rattle.text.specs.Shape.{operator, Shape, shape, halt, shut, next}
use Rattle.text.proofs.ShapeLaws.{shape_give}
use Rattle.spelling.specs.Codes.{code_of, mode_number, next_mode}
use Rattle.scan.specs.Looks.{Shaped}
use Rattle.scan.proofs.RuleLaws.{Rules, stops, opens, calls, closes, ends, goes, rules}

shut_none : (d : ℕ) → d ≡ 0 → shut d ≡ halt
unfolding shut
shut_none zero e = refl
shut_none (suc d) e = absurd (omega arith)

shut_some : (d : ℕ) → (d ≡ 0 → ⊥) → shut d ≡ record { mode = operator; depth = d - 1 }
unfolding shut
shut_some zero n = absurd (n refl)
shut_some (suc d) n = ap (λ (k : ℕ). record { mode = operator; depth = k }) (omega arith)

shaped : {s : Shape} {mode depth : ℕ} (t : Stage) (w : Word) → next (shape t).mode (shape t).depth w ≡ s → mode ≡ mode_number s.mode → depth ≡ s.depth
    → Shaped mode depth (give t w)
shaped t w e m d = record { mode_is = m ∙ ap (λ (k : Shape). mode_number k.mode) (sym (shape_give t w ∙ e)); depth_is = d ∙ ap (λ (k : Shape). k.depth) (sym (shape_give t w ∙ e)) }

module _ (mode depth word n : ℕ) (is : n ≡ next_mode mode word) where
  here : (t : Stage) (w : Word) → Shaped mode depth t → word ≡ code_of w → next_mode mode word ≡ next_mode (mode_number (shape t).mode) (code_of w)
  here t w s c = rw (← s.mode_is, ← c)

  pub halts : n ≡ 7 → (t : Stage) (w : Word) → Shaped mode depth t → word ≡ code_of w → Shaped 7 0 (give t w)
  halts e t w s c = by (rules (shape t).mode (shape t).depth w) (is ∙ here t w s c) s.mode_is s.depth_is c
    where
      by : Rules (shape t).mode (shape t).depth w → n ≡ next_mode (mode_number (shape t).mode) (code_of w) → mode ≡ mode_number (shape t).mode → depth ≡ (shape t).depth
          → word ≡ code_of w → Shaped 7 0 (give t w)
      by (stops r x) i a b c = shaped t w x (unfold halt mode_number in refl) (unfold halt in refl)
      by (opens r v x) i a b c = absurd (omega arith)
      by (calls r v x) i a b c = absurd (omega arith)
      by (closes r v y x) i a b c = absurd (omega arith)
      by (ends r v y x) i a b c = absurd (omega arith)
      by (goes k r y v x) i a b c = absurd (y (omega arith))

  pub opened : word ≡ 14 → n ≡ 0 → (t : Stage) (w : Word) → Shaped mode depth t → word ≡ code_of w → Shaped n (depth + 1) (give t w)
  opened u e t w s c = by (rules (shape t).mode (shape t).depth w) (is ∙ here t w s c) s.mode_is s.depth_is c
    where
      by : Rules (shape t).mode (shape t).depth w → n ≡ next_mode (mode_number (shape t).mode) (code_of w) → mode ≡ mode_number (shape t).mode → depth ≡ (shape t).depth
          → word ≡ code_of w → Shaped n (depth + 1) (give t w)
      by (stops r x) i a b c = absurd (omega arith)
      by (opens r v x) i a b c = shaped t w x (unfold mode_number in e) (omega arith)
      by (calls r v x) i a b c = absurd (omega arith)
      by (closes r v y x) i a b c = absurd (omega arith)
      by (ends r v y x) i a b c = absurd (omega arith)
      by (goes k r y v x) i a b c = absurd (v.opened (omega arith))

  pub called : (n ≡ 7 → ⊥) → word ≡ 14 → (n ≡ 0 → ⊥) → (t : Stage) (w : Word) → Shaped mode depth t → word ≡ code_of w → Shaped n depth (give t w)
  called f u g t w s c = by (rules (shape t).mode (shape t).depth w) (is ∙ here t w s c) s.mode_is s.depth_is c
    where
      by : Rules (shape t).mode (shape t).depth w → n ≡ next_mode (mode_number (shape t).mode) (code_of w) → mode ≡ mode_number (shape t).mode → depth ≡ (shape t).depth
          → word ≡ code_of w → Shaped n depth (give t w)
      by (stops r x) i a b c = absurd (f (omega arith))
      by (opens r v x) i a b c = absurd (g (omega arith))
      by (calls r v x) i a b c = shaped t w x (unfold mode_number in (i ∙ r)) b
      by (closes r v y x) i a b c = absurd (omega arith)
      by (ends r v y x) i a b c = absurd (omega arith)
      by (goes k r y v x) i a b c = absurd (v.opened (omega arith))

  pub finished : (n ≡ 7 → ⊥) → word ≡ 15 → mode ≡ 6 → (t : Stage) (w : Word) → Shaped mode depth t → word ≡ code_of w → Shaped n depth (give t w)
  finished f u e t w s c = by (rules (shape t).mode (shape t).depth w) (is ∙ here t w s c) s.mode_is s.depth_is c
    where
      by : Rules (shape t).mode (shape t).depth w → n ≡ next_mode (mode_number (shape t).mode) (code_of w) → mode ≡ mode_number (shape t).mode → depth ≡ (shape t).depth
          → word ≡ code_of w → Shaped n depth (give t w)
      by (stops r x) i a b c = absurd (f (omega arith))
      by (opens r v x) i a b c = absurd (omega arith)
      by (calls r v x) i a b c = absurd (omega arith)
      by (closes r v y x) i a b c = absurd (y (omega arith))
      by (ends r v y x) i a b c = shaped t w x (unfold mode_number in (i ∙ r)) b
      by (goes k r y v x) i a b c = absurd (v.closed (omega arith))

  pub unopened : (n ≡ 7 → ⊥) → word ≡ 15 → (mode ≡ 6 → ⊥) → depth ≡ 0 → (t : Stage) (w : Word) → Shaped mode depth t → word ≡ code_of w → Shaped 7 0 (give t w)
  unopened f u g z t w s c = by (rules (shape t).mode (shape t).depth w) (is ∙ here t w s c) s.mode_is s.depth_is c
    where
      by : Rules (shape t).mode (shape t).depth w → n ≡ next_mode (mode_number (shape t).mode) (code_of w) → mode ≡ mode_number (shape t).mode → depth ≡ (shape t).depth
          → word ≡ code_of w → Shaped 7 0 (give t w)
      by (stops r x) i a b c = absurd (f (omega arith))
      by (opens r v x) i a b c = absurd (omega arith)
      by (calls r v x) i a b c = absurd (omega arith)
      by (closes r v y x) i a b c = shaped t w (x ∙ shut_none (shape t).depth (sym b ∙ z)) (unfold halt mode_number in refl) (unfold halt in refl)
      by (ends r v y x) i a b c = absurd (g (omega arith))
      by (goes k r y v x) i a b c = absurd (v.closed (omega arith))

  pub shuts : (n ≡ 7 → ⊥) → word ≡ 15 → (mode ≡ 6 → ⊥) → (depth ≡ 0 → ⊥) → (t : Stage) (w : Word) → Shaped mode depth t → word ≡ code_of w → Shaped n (depth - 1) (give t w)
  shuts f u g z t w s c = by (rules (shape t).mode (shape t).depth w) (is ∙ here t w s c) s.mode_is s.depth_is c
    where
      by : Rules (shape t).mode (shape t).depth w → n ≡ next_mode (mode_number (shape t).mode) (code_of w) → mode ≡ mode_number (shape t).mode → depth ≡ (shape t).depth
          → word ≡ code_of w → Shaped n (depth - 1) (give t w)
      by (stops r x) i a b c = absurd (f (omega arith))
      by (opens r v x) i a b c = absurd (omega arith)
      by (calls r v x) i a b c = absurd (omega arith)
      by (closes r v y x) i a b c = shaped t w (x ∙ shut_some (shape t).depth (λ q. z (b ∙ q))) (unfold mode_number in (i ∙ r)) (omega arith)
      by (ends r v y x) i a b c = absurd (g (omega arith))
      by (goes k r y v x) i a b c = absurd (v.closed (omega arith))

  pub goes_on : (n ≡ 7 → ⊥) → (word ≡ 14 → ⊥) → (word ≡ 15 → ⊥) → (t : Stage) (w : Word) → Shaped mode depth t → word ≡ code_of w → Shaped n depth (give t w)
  goes_on f g h t w s c = by (rules (shape t).mode (shape t).depth w) (is ∙ here t w s c) s.mode_is s.depth_is c
    where
      by : Rules (shape t).mode (shape t).depth w → n ≡ next_mode (mode_number (shape t).mode) (code_of w) → mode ≡ mode_number (shape t).mode → depth ≡ (shape t).depth
          → word ≡ code_of w → Shaped n depth (give t w)
      by (stops r x) i a b c = absurd (f (omega arith))
      by (opens r v x) i a b c = absurd (g (omega arith))
      by (calls r v x) i a b c = absurd (g (omega arith))
      by (closes r v y x) i a b c = absurd (h (omega arith))
      by (ends r v y x) i a b c = absurd (h (omega arith))
      by (goes k r y v x) i a b c = shaped t w x (i ∙ r) b

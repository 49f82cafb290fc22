-- The steps of since. Assumes nothing.
use Prim.Native.Nat.{ℕ, suc, ◌-◌, ◌≤◌, ◌<◌, max}
use mathlib.Core.Path.{◌≡◌, refl, sym, ap₂, ◌∙◌}
use mathlib.Core.Bool.{Bool, true, false, ◌&&◌, ◌||◌, or-false}
use mathlib.Core.List.{List}
use mathlib.Core.Logic.{⊎_elim}
use native.Mathlib.Omega.{arith}
use Rattle.trees.specs.Bits.{Bits, Asks, put}
use Rattle.trees.specs.Tree.{Tree, off, eval, Fine, mk, tree_of, since_t}
use Rattle.trees.specs.Table.{at, trees_of}
use Rattle.trees.proofs.Tests.{lt_or_ge}
use Rattle.trees.proofs.TreeLaws.{side, fine_side, eval_side, eval_agree, fine_lower, fine_off, fine_on}
use Rattle.trees.proofs.FunctionLaws.{tree_one, tree_same, tree_step}
use Rattle.nodes.specs.Nodes.{Table, To, Grown}
use Rattle.walks.specs.Walks.{Within, Among, none, sure, the_left, the_right, the_old, Alike, Forks}
use Rattle.walks.proofs.FirstLaws.{first_lo, first_hi, fine_first}
use Rattle.nodes.proofs.ReadLaws.{stays}
use Rattle.making.proofs.WalkLaws.{kept}

-- and, as since
pub and_since : (n : ℕ) (p q : Tree) → since_t n p off q ≡ tree_of n (λ s. eval p s && eval q s)
unfolding since_t eval
and_since n p q = refl

module _ (levels : ℕ) (l r o : Tree) where
  -- since asks what its diagrams ask
  asks_since : (v : ℕ) → Fine v levels l → Fine v levels r → Fine v levels o → Asks v levels (λ s. eval r s || (eval l s && eval o s))
  asks_since v fl fr fo = record { only = λ s t e. rw (eval_agree v levels l fl s t e, eval_agree v levels r fr s t e, eval_agree v levels o fo s t e) }

  -- the tree that says since of the three
  since_is : (d : Tree) → Fine 0 levels l → Fine 0 levels r → Fine 0 levels o → Fine 0 levels d
      → ((s : Bits) → eval d s ≡ (eval r s || (eval l s && eval o s))) → since_t levels l r o ≡ d
  unfolding since_t
  since_is d fl fr fo fd e = tree_one levels (λ s. eval r s || (eval l s && eval o s)) (asks_since 0 fl fr fo) d fd e

  -- a step down at a level that none of them has passed
  since_step : (v : ℕ) → v < levels → Fine v levels l → Fine v levels r → Fine v levels o
      → since_t levels l r o ≡ mk v (since_t levels (side v false l) (side v false r) (side v false o)) (since_t levels (side v true l) (side v true r) (side v true o))
  unfolding since_t
  since_step v h fl fr fo =
      tree_step levels v (λ s. eval r s || (eval l s && eval o s)) h (asks_since v fl fr fo)
      ∙ ap₂ (mk v) (half false) (half true)
    where
      half : (x : Bool) → tree_of levels (λ s. eval r (put s v x) || (eval l (put s v x) && eval o (put s v x)))
          ≡ tree_of levels (λ s. eval (side v x r) s || (eval (side v x l) s && eval (side v x o) s))
      half x = tree_same levels _ _ (λ s. rw (eval_side v levels x l fl s, eval_side v levels x r fr s, eval_side v levels x o fo s))

-- since of three other references, told from the references alone
module _ {ns : List ℕ} {n levels left₀ l r o l' r' o' : ℕ} (t : Table ns n) (wl : Within ns n levels left₀ l) (wr : Within ns n levels left₀ r) (wo : Within ns n levels left₀ o)
    (x : Alike l r o l' r' o') where
  -- a reference among the three
  among : (d : ℕ) → Among l r o d → Within ns n levels left₀ d
  unfolding at
  among d none = record { below = omega arith; fine = fine_off (levels - left₀) levels }
  among d sure = record { below = omega arith; fine = fine_on (levels - left₀) levels }
  among d the_left = wl
  among d the_right = wr
  among d the_old = wo

  -- they may be walked
  pub alike_within : Within ns n levels left₀ l' × Within ns n levels left₀ r' × Within ns n levels left₀ o'
  alike_within = (among l' x.left, among r' x.right, among o' x.old)

  -- since of them is the same
  pub alike_since : since_t levels (at (trees_of ns n) l) (at (trees_of ns n) r) (at (trees_of ns n) o) ≡ since_t levels (at (trees_of ns n) l') (at (trees_of ns n) r') (at (trees_of ns n) o')
  unfolding since_t at eval
  alike_since = tree_same levels _ _ (λ s. sym (x.says (λ p. eval (at (trees_of ns n) p) s) refl refl))

  -- where the first is no, the result is there already
  pub alike_stays : l' ≡ 0 → Grown ns ns n n r' (since_t levels (at (trees_of ns n) l) (at (trees_of ns n) r) (at (trees_of ns n) o))
  unfolding at eval
  alike_stays e =
      let w = alike_within in
      let whole : (p : ℕ) → Within ns n levels left₀ p → Fine 0 levels (at (trees_of ns n) p) = λ p w. fine_lower (levels - left₀) levels 0 (at (trees_of ns n) p) (omega arith) w.fine in
      stays ns n r' _ t w.1.below
      (alike_since ∙ since_is levels (at (trees_of ns n) l') (at (trees_of ns n) r') (at (trees_of ns n) o') (at (trees_of ns n) r') (whole l' w.0) (whole r' w.1) (whole o' w.2) (whole r' w.1)
      (λ s. rw e (sym (or-false (eval (at (trees_of ns n) r') s)))))

-- what the fork of three gives a walk
pub record Down (ns : List ℕ) (n levels left₀ l r o v l₀ r₀ o₀ l₁ r₁ o₁ : ℕ) : Type 0 where
  pub some : 1 ≤ left₀
  pub low_l : Within ns n levels (left₀ - 1) l₀
  pub low_r : Within ns n levels (left₀ - 1) r₀
  pub low_o : Within ns n levels (left₀ - 1) o₀
  pub high_l : Within ns n levels (left₀ - 1) l₁
  pub high_r : Within ns n levels (left₀ - 1) r₁
  pub high_o : Within ns n levels (left₀ - 1) o₁
  pub step : since_t levels (at (trees_of ns n) l) (at (trees_of ns n) r) (at (trees_of ns n) o)
      ≡ mk v (since_t levels (at (trees_of ns n) l₀) (at (trees_of ns n) r₀) (at (trees_of ns n) o₀)) (since_t levels (at (trees_of ns n) l₁) (at (trees_of ns n) r₁) (at (trees_of ns n) o₁))

-- the sides of a diagram at a level that it has not passed
side_within : (ns : List ℕ) (n levels left₀ p a v : ℕ) (x : Bool) → v < levels → levels - left₀ ≤ v → Fine v levels (at (trees_of ns n) p) → To ns n a (side v x (at (trees_of ns n) p))
    → Within ns n levels (left₀ - 1) a
side_within ns n levels left₀ p a v x h k f t =
    record { below = t.below; fine = rw t.is (fine_lower (suc v) levels (levels - (left₀ - 1)) _ (omega arith) (fine_side v levels x (at (trees_of ns n) p) f)) }

module _ {ns : List ℕ} {n levels left₀ l r o v l₀ r₀ o₀ l₁ r₁ o₁ : ℕ} (t : Table ns n) (h : left₀ ≤ levels) (fits : levels < 4294967296)
    (wl : Within ns n levels left₀ l) (wr : Within ns n levels left₀ r) (wo : Within ns n levels left₀ o) (x : Forks ns n l r o v l₀ r₀ o₀ l₁ r₁ o₁) where
  -- l or o is a node, so a level is left
  early : 2 ≤ max l o → v < levels
  early q = ⊎_elim
      (λ a. omega (arith, x.level, first_hi t (omega (arith, q)) wo))
      (λ a. omega (arith, x.level, first_hi t a wl))
      (lt_or_ge l 2)

  -- the fork goes down one level
  pub down : 2 ≤ max l o → Down ns n levels left₀ l r o v l₀ r₀ o₀ l₁ r₁ o₁
  down q =
      let top = early q in
      let e = x.level in
      let tl = first_lo (levels - left₀) levels (at (trees_of ns n) l) (omega arith) wl.fine in
      let tr = first_lo (levels - left₀) levels (at (trees_of ns n) r) (omega arith) wr.fine in
      let to = first_lo (levels - left₀) levels (at (trees_of ns n) o) (omega arith) wo.fine in
      let lo : levels - left₀ ≤ v = omega arith in
      let fl = fine_first (levels - left₀) levels (at (trees_of ns n) l) v (omega arith) wl.fine in
      let fr = fine_first (levels - left₀) levels (at (trees_of ns n) r) v (omega arith) wr.fine in
      let fo = fine_first (levels - left₀) levels (at (trees_of ns n) o) v (omega arith) wo.fine in
      record {
        some = omega arith;
        low_l = side_within ns n levels left₀ l l₀ v false top lo fl x.left.low;
        low_r = side_within ns n levels left₀ r r₀ v false top lo fr x.right.low;
        low_o = side_within ns n levels left₀ o o₀ v false top lo fo x.old.low;
        high_l = side_within ns n levels left₀ l l₁ v true top lo fl x.left.high;
        high_r = side_within ns n levels left₀ r r₁ v true top lo fr x.right.high;
        high_o = side_within ns n levels left₀ o o₁ v true top lo fo x.old.high;
        step = rw (x.left.low.is, x.right.low.is, x.old.low.is, x.left.high.is, x.right.high.is, x.old.high.is) (since_step levels _ _ _ v top fl fr fo);
      }

-- since of three references is the same while the table grows
pub since_kept : {ns ms : List ℕ} {n m q : ℕ} {d : Tree} → Grown ns ms n m q d → (levels : ℕ) {left₀ l r o : ℕ} → Within ns n levels left₀ l → Within ns n levels left₀ r → Within ns n levels left₀ o
    → since_t levels (at (trees_of ms m) l) (at (trees_of ms m) r) (at (trees_of ms m) o) ≡ since_t levels (at (trees_of ns n) l) (at (trees_of ns n) r) (at (trees_of ns n) o)
since_kept g levels {l = l} {r} {o} wl wr wo = rw (kept g l wl.below, kept g r wr.below, kept g o wo.below)

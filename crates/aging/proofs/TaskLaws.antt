-- The steps of a task: what the references tell, and the way down the bindings' levels. Assumes nothing.
use Prim.Native.Nat.{ℕ, suc, ◌+◌, ◌*◌, ◌-◌, ◌≤◌, ◌<◌}
use mathlib.Core.Path.{◌≡◌, refl, ap}
use mathlib.Core.Bool.{Bool, true, false}
use mathlib.Core.List.{List}
use native.Mathlib.Omega.{arith}
use Rattle.trees.specs.Bits.{number}
use Rattle.trees.specs.Tree.{Tree, off, on, eval, Fine, mk}
use Rattle.trees.specs.Table.{at, trees_of}
use Rattle.trees.proofs.TreeLaws.{side, fine_side, fine_lower, fine_off}
use Rattle.trees.proofs.FunctionLaws.{tree_same}
use Rattle.nodes.specs.Nodes.{Table, To, Grown}
use Rattle.nodes.proofs.ReadLaws.{grown_count}
use Rattle.making.proofs.WalkLaws.{kept}
use Rattle.walks.specs.Walks.{Within, Forks}
use Rattle.walks.proofs.FirstLaws.{first_lo, fine_first}
use Rattle.ages.specs.Ages.{Limit, within, longer, Age, next_age, or_else, top_age, is_age, age_at, ages_say, ages_now, age_t, ripe_t, ages_right}
use Rattle.ages.proofs.AgeWalk.{age_step, ripe_step}
use Rattle.aging.specs.declared.Bound.{Bound}
use Rattle.aging.specs.declared.Task.{Task}
use Rattle.aging.specs.declared.Task.TheVariants.{Ages, Ripe}
use Rattle.aging.specs.Dates.{limit_of, Under, Dated, Plain}
use Rattle.aging.specs.Tasks.{bound_of, does, Eased, as_is, no_left, right_now}
use Rattle.aging.specs.Slates.{Trio, applied}
use Rattle.aging.proofs.EndLaws.{leaf_ends, under_of, right_side}

-- where L does not hold, or R holds within d, the old age does not matter
next_left : (c : Limit) (t : ℕ) (r : Bool) (x y : Age) → next_age c t false r x ≡ next_age c t false r y
unfolding next_age
next_left (within d) t r x y = refl
next_left (longer d) t r x y = refl

left_off : (k : ℕ) (c : Limit) (t : ℕ) (r o : Tree) → age_t k c t off r o ≡ age_t k c t off r off
unfolding age_t ages_say ages_now eval
left_off k c t r o = tree_same (4 * k + 11) _ _ (λ s. ap (is_age (number s (4 * k) 11)) (next_left c t (eval r s) (age_at k (eval o) s) (age_at k (eval off) s)))

right_on : (k d t : ℕ) (l o : Tree) → age_t k (within d) t l on o ≡ age_t k (within d) t off on off
unfolding age_t ages_say ages_now next_age or_else eval
right_on k d t l o = tree_same (4 * k + 11) _ _ (λ s. refl)

-- so the eased references have the same result
pub eased_same : (k : ℕ) (task : Task) (ts : List Tree) (l r o l' r' o' : ℕ) → Eased task l r o l' r' o' → applied (does k task) ts l r o ≡ applied (does k task) ts l' r' o'
unfolding does at
eased_same k task ts l r o l' r' o' as_is = refl
eased_same k task ts l r o l' r' o' (no_left b t e z) = rw (e, z) (left_off k (limit_of b) t (at ts r) (at ts o))
eased_same k task ts l r o l' r' o' (right_now d t e z) = rw (e, z) (right_on k d t (at ts l) (at ts o))

-- no is a diagram, and an age diagram
within_no : (ns : List ℕ) (n hi left : ℕ) → Within ns n hi left 0
unfolding at
within_no ns n hi left = record { below = omega arith; fine = fine_off (hi - left) hi }

dated_no : (ns : List ℕ) (n k left top : ℕ) → Dated ns n k left top 0
unfolding at ages_right
dated_no ns n k left top = record { below = omega arith; fine = fine_off (4 * k - left) (4 * k + 11); right = refl }

pub eased_within : {task : Task} {ns : List ℕ} {n hi left l r o l' r' o' : ℕ} → Eased task l r o l' r' o' → Within ns n hi left l → Within ns n hi left l'
eased_within as_is w = w
eased_within {ns = ns} {n} {hi} {left} (no_left b t e z) w = within_no ns n hi left
eased_within {ns = ns} {n} {hi} {left} (right_now d t e z) w = within_no ns n hi left

pub eased_right : {task : Task} {ns : List ℕ} {n hi left l r o l' r' o' : ℕ} → Eased task l r o l' r' o' → Within ns n hi left r → Within ns n hi left r'
eased_right as_is w = w
eased_right (no_left b t e z) w = w
eased_right (right_now d t e z) w = w

pub eased_dated : {task : Task} {ns : List ℕ} {n k left top l r o l' r' o' : ℕ} → Eased task l r o l' r' o' → Dated ns n k left top o → Dated ns n k left top o'
eased_dated as_is w = w
eased_dated {ns = ns} {n} {k} {left} {top} (no_left b t e z) w = dated_no ns n k left top
eased_dated {ns = ns} {n} {k} {left} {top} (right_now d t e z) w = dated_no ns n k left top

-- a reference of before still leads to the same age diagram
pub dated_grown : {ns ms : List ℕ} {n m r : ℕ} {d : Tree} {k left top p : ℕ} → Grown ns ms n m r d → Dated ns n k left top p → Dated ms m k left top p
dated_grown {p = p} g w = record { below = omega (arith, w.below, grown_count g); fine = rw (kept g p w.below) w.fine; right = rw (kept g p w.below) w.right }

-- a step down at a binding's level that none of the three has passed
does_step : (k : ℕ) (task : Task) (v : ℕ) (l r o : Tree) → v < 4 * k → Fine v (4 * k) l → Fine v (4 * k) r → Fine v (4 * k + 11) o
    → does k task l r o ≡ mk v (does k task (side v false l) (side v false r) (side v false o)) (does k task (side v true l) (side v true r) (side v true o))
unfolding does
does_step k (Ages b t) v l r o h fl fr fo = age_step k (limit_of b) t v l r o h fl fr fo
does_step k (Ripe b) v l r o h fl fr fo = ripe_step k (limit_of b) v o h fo

-- what the fork of three gives a walk
pub record Down (task : Task) (ns : List ℕ) (n k left₀ l r o v l₀ r₀ o₀ l₁ r₁ o₁ : ℕ) : Type 0 where
  pub some : 1 ≤ left₀
  pub low_l : Within ns n (4 * k) (left₀ - 1) l₀
  pub low_r : Within ns n (4 * k) (left₀ - 1) r₀
  pub low_o : Dated ns n k (left₀ - 1) (top_age (limit_of (bound_of task))) o₀
  pub high_l : Within ns n (4 * k) (left₀ - 1) l₁
  pub high_r : Within ns n (4 * k) (left₀ - 1) r₁
  pub high_o : Dated ns n k (left₀ - 1) (top_age (limit_of (bound_of task))) o₁
  pub step : applied (does k task) (trees_of ns n) l r o ≡ mk v (applied (does k task) (trees_of ns n) l₀ r₀ o₀) (applied (does k task) (trees_of ns n) l₁ r₁ o₁)

-- the sides of a diagram at a level that it has not passed
side_within : (ns : List ℕ) (n hi left₀ p a v : ℕ) (x : Bool) → v < hi → hi - left₀ ≤ v → Fine v hi (at (trees_of ns n) p) → To ns n a (side v x (at (trees_of ns n) p))
    → Within ns n hi (left₀ - 1) a
side_within ns n hi left₀ p a v x h q f t =
    record { below = t.below; fine = rw t.is (fine_lower (suc v) hi (hi - (left₀ - 1)) _ (omega arith) (fine_side v hi x (at (trees_of ns n) p) f)) }

side_dated : (ns : List ℕ) (n k left₀ top p a v : ℕ) (x : Bool) → v < 4 * k → 4 * k - left₀ ≤ v → Fine v (4 * k + 11) (at (trees_of ns n) p) → ages_right (4 * k) top (at (trees_of ns n) p) ≡ true
    → To ns n a (side v x (at (trees_of ns n) p)) → Dated ns n k (left₀ - 1) top a
side_dated ns n k left₀ top p a v x h q f e t = record {
  below = t.below;
  fine = rw t.is (fine_lower (suc v) (4 * k + 11) (4 * k - (left₀ - 1)) _ (omega arith) (fine_side v (4 * k + 11) x (at (trees_of ns n) p) f));
  right = rw t.is (right_side (4 * k) top v x (at (trees_of ns n) p) h e);
}

module _ {ns : List ℕ} {n k left₀ l r o v l₀ r₀ o₀ l₁ r₁ o₁ : ℕ} (task : Task) (t : Table ns n) (few : k ≤ 10)
    (wl : Within ns n (4 * k) left₀ l) (wr : Within ns n (4 * k) left₀ r) (wo : Dated ns n k left₀ (top_age (limit_of (bound_of task))) o) (x : Forks ns n l r o v l₀ r₀ o₀ l₁ r₁ o₁) where
  -- under the bindings' levels
  pub ends : top_age (limit_of (bound_of task)) ≤ 1024 → 4 * k ≤ v → (l < 2) × (r < 2) × Under k (at (trees_of ns n) o)
  ends short h =
      let e = x.level in
      (leaf_ends t wl (omega arith), leaf_ends t wr (omega arith), under_of k _ _ (omega arith) wo.right (omega arith))

  -- above them the fork goes down one level
  pub down : v < 4 * k → Down task ns n k left₀ l r o v l₀ r₀ o₀ l₁ r₁ o₁
  down top =
      let e = x.level in
      let tl = first_lo (4 * k - left₀) (4 * k) (at (trees_of ns n) l) (omega arith) wl.fine in
      let tr = first_lo (4 * k - left₀) (4 * k) (at (trees_of ns n) r) (omega arith) wr.fine in
      let to = first_lo (4 * k - left₀) (4 * k + 11) (at (trees_of ns n) o) (omega arith) wo.fine in
      let lo : 4 * k - left₀ ≤ v = omega arith in
      let fl = fine_first (4 * k - left₀) (4 * k) (at (trees_of ns n) l) v (omega arith) wl.fine in
      let fr = fine_first (4 * k - left₀) (4 * k) (at (trees_of ns n) r) v (omega arith) wr.fine in
      let fo = fine_first (4 * k - left₀) (4 * k + 11) (at (trees_of ns n) o) v (omega arith) wo.fine in
      record {
        some = omega arith;
        low_l = side_within ns n (4 * k) left₀ l l₀ v false top lo fl x.left.low;
        low_r = side_within ns n (4 * k) left₀ r r₀ v false top lo fr x.right.low;
        low_o = side_dated ns n k left₀ _ o o₀ v false top lo fo wo.right x.old.low;
        high_l = side_within ns n (4 * k) left₀ l l₁ v true top lo fl x.left.high;
        high_r = side_within ns n (4 * k) left₀ r r₁ v true top lo fr x.right.high;
        high_o = side_dated ns n k left₀ _ o o₁ v true top lo fo wo.right x.old.high;
        step = rw (x.left.low.is, x.right.low.is, x.old.low.is, x.left.high.is, x.right.high.is, x.old.high.is) (does_step k task v _ _ _ top fl fr fo);
      }

-- three references of before, together
pub trio : {ns : List ℕ} {n k hi left top l r o : ℕ} → Within ns n hi left l → Within ns n hi left r → Dated ns n k left top o → Trio n l r o
trio wl wr wo = record { first = wl.below; second = wr.below; third = wo.below }

-- the two tasks
pub does_ages : (k : ℕ) (b : Bound) (t : ℕ) (l r o : Tree) → age_t k (limit_of b) t l r o ≡ does k (Ages b t) l r o
unfolding does
does_ages k b t l r o = refl

pub does_ripe : (k : ℕ) (b : Bound) (l r o : Tree) → ripe_t k (limit_of b) o ≡ does k (Ripe b) l r o
unfolding does
does_ripe k b l r o = refl

-- no is a diagram over the bindings' levels
pub plain_no : (ns : List ℕ) (n k : ℕ) → Plain ns n k 0
unfolding at
plain_no ns n k = record { below = omega arith; fine = fine_off 0 (4 * k) }

-- Under the bindings' levels: what stands there, and what a task makes of it. Assumes nothing.
use Prim.Native.Nat.{ℕ, zero, suc, ◌+◌, ◌*◌, ◌^◌, ◌≤◌, ◌<◌}
use mathlib.Core.Path.{◌≡◌, refl, sym, ap, ◌∙◌}
use mathlib.Core.Bool.{Bool, true, false, cond, ◌&&◌}
use mathlib.Core.List.{List}
use mathlib.Core.Logic.{inl, inr, ⊎_elim}
use native.Mathlib.Numerals.{add-one}
use native.Mathlib.Omega.{arith}
use lib.Dec.{eqb}
use borrow.Author.Tests.{eqb-true, lt-ltb, le-ltb}
use Rattle.trees.specs.Tree.{Tree, off, on, node, eval, Fine, leaf}
use Rattle.trees.specs.Table.{at, trees_of}
use Rattle.trees.proofs.Tests.{false_true, lt_or_ge, and_true_l, and_true_r}
use Rattle.trees.proofs.TreeLaws.{side, fine_off}
use Rattle.nodes.specs.Nodes.{Table, first_level}
use Rattle.walks.specs.Walks.{Within}
use Rattle.walks.proofs.FirstLaws.{first_hi}
use Rattle.ages.specs.Ages.{Age, next_age, ripe, top_age, ages_right, shown_age}
use Rattle.ages.proofs.AgeLaws.{dark_age}
use Rattle.ages.proofs.AgeTests.{fine_age}
use Rattle.ages.proofs.AgeWalk.{shown_t, age_under, age_end, ripe_end, age_of_law}
use Rattle.ages.proofs.AgeRead.{shown_read, chain_read}
use Rattle.std.specs.Prelude.{Option, Some, None, is_some}
use Rattle.std.specs.Int.{from_bool}
use Rattle.std.specs.Option.{option_eq}
use Rattle.aging.specs.declared.Bound.{Bound}
use Rattle.aging.specs.declared.Bound.TheVariants.{Within as Inside, Longer}
use Rattle.aging.specs.declared.Task.TheVariants.{Ages, Ripe}
use Rattle.aging.specs.Dates.{limit_of, Short, age_of, Under, ReadAge}
use Rattle.aging.specs.Tasks.{does}
use Rattle.aging.specs.Slates.{applied}

-- a leaf is what it says
pub leaf_at : (ts : List Tree) (p : ℕ) → p < 2 → at ts p ≡ leaf (eqb p 1)
unfolding at leaf
leaf_at ts zero h = refl
leaf_at ts (suc zero) h = refl
leaf_at ts (suc (suc p)) h = absurd (omega arith)

-- and the other way
pub bool_leaf : (ts : List Tree) (y : Bool) → at ts (from_bool y) ≡ leaf y
unfolding at leaf
bool_leaf ts true = refl
bool_leaf ts false = refl

pub bool_small : (y : Bool) (p : ℕ) → p ≡ from_bool y → p < 2
bool_small true p e = omega arith
bool_small false p e = omega arith

-- a diagram of bindings that asks none of their levels is a leaf
pub leaf_ends : {ns : List ℕ} {n hi left p : ℕ} → Table ns n → Within ns n hi left p → hi ≤ first_level (at (trees_of ns n) p) → p < 2
leaf_ends {ns} {n} {hi} {left} {p} t w h = ⊎_elim (λ k. k) (λ k. absurd (omega (arith, first_hi t k w))) (lt_or_ge p 2)

-- an age diagram that asks none of the bindings' levels is no, or one age
pub under_of : (k top : ℕ) (d : Tree) → top < 2 ^ 11 → ages_right (4 * k) top d ≡ true → 4 * k ≤ first_level d → Under k d
unfolding ages_right first_level
under_of k top off h r f = inl refl
under_of k top on h r f = absurd (false_true refl r)
under_of k top (node l a b) h r f =
    let s : shown_age (4 * k) top (node l a b) ≡ true = rw (le-ltb l (4 * k) f) at r in
    let n = (shown_read (4 * k) top (node l a b) h).0 s in
    let q = n.1 in
    inr (record { age = n.0; small = omega arith; is = chain_read 11 (4 * k) n.0 (node l a b) n.2 })

-- the sides of an age diagram are age diagrams
pub right_side : (base top v : ℕ) (x : Bool) (d : Tree) → v < base → ages_right base top d ≡ true → ages_right base top (side v x d) ≡ true
unfolding ages_right side
right_side base top v x off h r = r
right_side base top v x on h r = r
right_side base top v x (node l a b) h r = go (eqb l v) refl x
  where
    both : l ≡ v → (ages_right base top a && ages_right base top b) ≡ true
    both e = let q : l < base = omega arith in rw (lt-ltb l base q) at r

    go : (q : Bool) → eqb l v ≡ q → (y : Bool) → ages_right base top (cond q (cond y b a) (node l a b)) ≡ true
    go true e true = and_true_r (ages_right base top a) (ages_right base top b) (both (eqb-true l v e))
    go true e false = and_true_l (ages_right base top a) (ages_right base top b) (both (eqb-true l v e))
    go false e y = r

-- the age that was read is the one that stands there
module _ (k : ℕ) where
  read_fine : {d : Tree} (x : Option ℕ) → ReadAge k d x → Fine (4 * k) (4 * k + 11) d
  unfolding shown_t age_of
  read_fine None r = rw r.is (fine_off (4 * k) (4 * k + 11))
  read_fine (Some n) r = rw r.is (fine_age k n)

  pub read_under : {d : Tree} (x : Option ℕ) → ReadAge k d x → age_under k d ≡ age_of x
  unfolding shown_t age_of eval
  read_under None r = rw r.is (dark_age k (λ _. false))
  read_under (Some n) r = let q = r.small in rw r.is (age_of_law k n (omega arith) (λ _. false))

  module _ (b : Bound) (ts : List Tree) (l r o : ℕ) (x : Option ℕ) (w : ReadAge k (at ts o) x) where
    -- the new age
    pub ages_end : (t : ℕ) (y : Option ℕ) → l < 2 → r < 2 → age_of y ≡ next_age (limit_of b) t (eqb l 1) (eqb r 1) (age_of x) → applied (does k (Ages b t)) ts l r o ≡ shown_t k (age_of y)
    unfolding does
    ages_end t y hl hr e =
        rw (leaf_at ts l hl, leaf_at ts r hr)
        (age_end k (limit_of b) t (eqb l 1) (eqb r 1) (at ts o) (read_fine x w)
        ∙ ap (λ (a : Age). shown_t k (next_age (limit_of b) t (eqb l 1) (eqb r 1) a)) (read_under x w) ∙ ap (shown_t k) (sym e))

    -- the row
    pub ripe_ends : (y : Bool) (p : ℕ) → p ≡ from_bool y → y ≡ ripe (limit_of b) (age_of x) → applied (does k (Ripe b)) ts l r o ≡ at ts p
    unfolding does
    ripe_ends y p z e =
        ripe_end k (limit_of b) (at ts o) (read_fine x w) ∙ ap (λ (a : Age). leaf (ripe (limit_of b) a)) (read_under x w) ∙ ap leaf (sym e) ∙ sym (ap (at ts) z ∙ bool_leaf ts y)

-- whether a row is ripe
pub ripe_within : (d : ℕ) (x : Option ℕ) → is_some x ≡ ripe (limit_of (Inside d)) (age_of x)
unfolding ripe age_of
ripe_within d None = refl
ripe_within d (Some n) = refl

pub ripe_longer : (d : ℕ) (x : Option ℕ) → option_eq eqb x (Some (d + 1)) ≡ ripe (limit_of (Longer d)) (age_of x)
unfolding ripe age_of
ripe_longer d None = refl
ripe_longer d (Some n) = rw add-one refl

-- every age of a row has 11 bits
pub short_longer : (d : ℕ) → Short (Longer d) → d < 1024
unfolding top_age
short_longer d h = omega arith

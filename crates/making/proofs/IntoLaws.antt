-- The steps of a fact's numbers put into a diagram: the path down, and its nodes from below. Assumes nothing.
use Prim.Native.Nat.{ℕ, zero, suc, ◌+◌, ◌*◌, ◌-◌, ◌/◌, ◌%◌, ◌<◌}
use mathlib.Core.Path.{◌≡◌, refl, sym, ◌∙◌}
use mathlib.Core.Bool.{Bool, true, false, cond, ◌||◌}
use mathlib.Core.List.{List}
use mathlib.Core.Logic.{◌≢◌}
use native.Mathlib.Numerals.{add-one}
use native.Mathlib.Omega.{arith}
use lib.Dec.{eqb}
use lib.ListN.{get_or}
use borrow.Author.Tests.{eq-eqb, ne_eqb}
use Rattle.trees.specs.Tree.{Tree, off, on, node, eval, mk, tree_of}
use Rattle.trees.specs.Table.{add_tree, at, trees_of}
use Rattle.trees.proofs.TreeLaws.{side}
use Rattle.trees.proofs.TableLaws.{Has, Closed, add_goes, add_in, closed_add, goes_has, has_add}
use Rattle.trees.proofs.ReadLaws.{length_trees, back_closed}
use Rattle.nodes.specs.Nodes.{Table, To, Sides, Grown, Stuck}
use Rattle.nodes.proofs.ReadLaws.{stays, grown_count}
use Rattle.making.specs.declared.Made.{Made}
use Rattle.std.specs.Prelude.{Option, Some, None}
use Rattle.making.specs.declared.Number.{Number}
use Rattle.making.specs.Tables.{Added}
use Rattle.making.specs.Cubes.{cube_says, Over, along_bits, along_place, bits_over, place_over}
use Rattle.making.proofs.WalkLaws.{kept, After, after_trans, low_after, high_after, stuck_first, first_then, stuck_low, stuck_high, joined}
use Rattle.making.proofs.SideLaws.{leaf_side}
use Rattle.making.proofs.CubeLaws.{first, second, third, last, later, early, into_tree}

-- no bit is left
along_zero : (base m : ℕ) (t : Tree) (count : ℕ) → count ≡ 0 → along_bits base count m t ≡ t
unfolding along_bits
along_zero base m t count e = rw e

-- a leaf leads to itself
along_leaf : (count base m : ℕ) (t : Tree) → ((v : ℕ) (x : Bool) → side v x t ≡ t) → along_bits base count m t ≡ t
unfolding along_bits
along_leaf zero base m t e = refl
along_leaf (suc count) base m t e = rw (e base false, e base true, along_leaf count (suc base) (m / 2) t e) (go (eqb (m % 2) 0))
  where
    go : (q : Bool) → cond q t t ≡ t
    go true = refl
    go false = refl

-- the next bit is 0
along_even : (base m : ℕ) (t : Tree) (count : ℕ) → count ≢ 0 → m % 2 ≡ 0 → along_bits base count m t ≡ along_bits (base + 1) (count - 1) (m / 2) (side base false t)
unfolding along_bits
along_even base m t zero h e = absurd (h refl)
along_even base m t (suc count) h e = let c : suc count - 1 ≡ count = omega arith in rw (eq-eqb (m % 2) 0 e, add-one, c)

-- the next bit is 1
along_odd : (base m : ℕ) (t : Tree) (count : ℕ) → count ≢ 0 → m % 2 ≢ 0 → along_bits base count m t ≡ along_bits (base + 1) (count - 1) (m / 2) (side base true t)
unfolding along_bits
along_odd base m t zero h e = absurd (h refl)
along_odd base m t (suc count) h e = let c : suc count - 1 ≡ count = omega arith in rw (ne_eqb (m % 2) 0 e, add-one, c)

-- where the path leads from the reference p
module _ {ns : List ℕ} {n : ℕ} (base count m p : ℕ) (h : p < n + 2) where
  -- from a leaf
  pub follow_leaf : p < 2 → To ns n p (along_bits base count m (at (trees_of ns n) p))
  follow_leaf k = record { below = h; is = sym (along_leaf count base m (at (trees_of ns n) p) (leaf_side (trees_of ns n) p k)) }

  -- where no bit is left
  pub follow_end : count ≡ 0 → To ns n p (along_bits base count m (at (trees_of ns n) p))
  follow_end e = record { below = h; is = sym (along_zero base m (at (trees_of ns n) p) count e) }

  module _ (some : count ≢ 0) {a b : ℕ} (s : Sides ns n p base a b) {r : ℕ} where
    -- along a bit that is 0
    pub follow_even : m % 2 ≡ 0 → To ns n r (along_bits (base + 1) (count - 1) (m / 2) (at (trees_of ns n) a)) → To ns n r (along_bits base count m (at (trees_of ns n) p))
    follow_even e w = record { below = w.below; is = w.is ∙ rw s.low.is (sym (along_even base m (at (trees_of ns n) p) count some e)) }

    -- along a bit that is 1
    pub follow_odd : m % 2 ≢ 0 → To ns n r (along_bits (base + 1) (count - 1) (m / 2) (at (trees_of ns n) b)) → To ns n r (along_bits base count m (at (trees_of ns n) p))
    follow_odd e w = record { below = w.below; is = w.is ∙ rw s.high.is (sym (along_odd base m (at (trees_of ns n) p) count some e)) }

-- no bit is left
over_zero : (base m : ℕ) (t d : Tree) (count : ℕ) → count ≡ 0 → bits_over base count m t d ≡ d
unfolding bits_over
over_zero base m t d count e = rw e

-- the next bit is 0
over_even : (base m : ℕ) (t d : Tree) (count : ℕ) → count ≢ 0 → m % 2 ≡ 0
    → bits_over base count m t d ≡ mk base (bits_over (base + 1) (count - 1) (m / 2) (side base false t) d) (side base true t)
unfolding bits_over
over_even base m t d zero h e = absurd (h refl)
over_even base m t d (suc count) h e = let c : suc count - 1 ≡ count = omega arith in rw (eq-eqb (m % 2) 0 e, add-one, c)

-- the next bit is 1
over_odd : (base m : ℕ) (t d : Tree) (count : ℕ) → count ≢ 0 → m % 2 ≢ 0
    → bits_over base count m t d ≡ mk base (side base false t) (bits_over (base + 1) (count - 1) (m / 2) (side base true t) d)
unfolding bits_over
over_odd base m t d zero h e = absurd (h refl)
over_odd base m t d (suc count) h e = let c : suc count - 1 ≡ count = omega arith in rw (ne_eqb (m % 2) 0 e, add-one, c)

-- where no bit is left
pub bits_end : {ns : List ℕ} {n : ℕ} → Table ns n → (base count m : ℕ) (t : Tree) (p : ℕ) → p < n + 2 → count ≡ 0 → Grown ns ns n n p (bits_over base count m t (at (trees_of ns n) p))
bits_end {ns} {n} w base count m t p h e = stays ns n p _ w h (over_zero base m t (at (trees_of ns n) p) count e)

-- a reference of before leads to its tree in the grown table
later_to : {ns ms : List ℕ} {n j r a : ℕ} {d t : Tree} → Grown ns ms n j r d → To ns n a t → To ms j a t
later_to {n = n} {j} {a = a} g w = record { below = omega (arith, grown_count g, w.below); is = kept g a w.below ∙ w.is }

-- the tree of a reference is there already
there : {ns : List ℕ} {n a : ℕ} {t : Tree} → Table ns n → To ns n a t → Grown ns ns n n a t
there {ns} {n} {a} {t} w r = stays ns n a t w r.below (sym r.is)

-- the steps of a bit, over the sides of the reference p
module _ {ns : List ℕ} {n : ℕ} (t : Table ns n) (base count m : ℕ) (d : Tree) (h : count ≢ 0) {p a b : ℕ} (s : Sides ns n p base a b) where
  -- no room for the later bits, under a bit that is 0
  pub even_stuck : {ms : List ℕ} → m % 2 ≡ 0 → Stuck ns ms n (bits_over (base + 1) (count - 1) (m / 2) (at (trees_of ns n) a) d) → Stuck ns ms n (bits_over base count m (at (trees_of ns n) p) d)
  even_stuck e w = rw (over_even base m (at (trees_of ns n) p) d count h e) (stuck_low base _ _ t (rw s.low.is at w))

  -- the same under a bit that is 1
  pub odd_stuck : {ms : List ℕ} → m % 2 ≢ 0 → Stuck ns ms n (bits_over (base + 1) (count - 1) (m / 2) (at (trees_of ns n) b) d) → Stuck ns ms n (bits_over base count m (at (trees_of ns n) p) d)
  odd_stuck e w = rw (over_odd base m (at (trees_of ns n) p) d count h e) (stuck_high base _ _ t (there t s.low) (rw s.high.is at w))

  module _ {ns₁ : List ℕ} {n₁ q : ℕ} (I : List ℕ → ℕ → Type 0) (ms : List ℕ) (x : Option Made) where
    -- the node of a bit that is 0
    pub bits_even : m % 2 ≡ 0 → Grown ns ns₁ n n₁ q (bits_over (base + 1) (count - 1) (m / 2) (at (trees_of ns n) a) d)
        → Added I ns₁ ms n₁ (mk base (at (trees_of ns₁ n₁) q) (at (trees_of ns₁ n₁) b)) x → Added I ns ms n (bits_over base count m (at (trees_of ns n) p) d) x
    bits_even e g w =
        rw (over_even base m (at (trees_of ns n) p) d count h e)
        (joined base _ _ t (rw s.low.is at g) (there g.table (later_to g s.high)) I ms x w)

    -- the node of a bit that is 1
    pub bits_odd : m % 2 ≢ 0 → Grown ns ns₁ n n₁ q (bits_over (base + 1) (count - 1) (m / 2) (at (trees_of ns n) b) d)
        → Added I ns₁ ms n₁ (mk base (at (trees_of ns₁ n₁) a) (at (trees_of ns₁ n₁) q)) x → Added I ns ms n (bits_over base count m (at (trees_of ns n) p) d) x
    bits_odd e g w =
        rw (over_odd base m (at (trees_of ns n) p) d count h e)
        (joined base _ _ t (there t s.low) (rw s.high.is at g) I ms x w)

-- the sides of a tree that has a reference have one
has_side : (ts : List Tree) (v : ℕ) (x : Bool) (t : Tree) → Closed ts → Has ts t → Has ts (side v x t)
unfolding side
has_side ts v x off cl h = h
has_side ts v x on cl h = h
has_side ts v x (node l a b) cl h = go (eqb l v) x
  where
    go : (q y : Bool) → Has ts (cond q (cond y b a) (node l a b))
    go true true = (cl h.0 l a b h.1).1
    go true false = (cl h.0 l a b h.1).0
    go false y = h

-- a node may be added after its high side where its low side is there
high_in : (ts : List Tree) (l : ℕ) (x y : Tree) → Closed ts → Has ts x → After ts y (mk l x y)
high_in ts l x y cl h = rw (add_in ts x cl h) at (high_after ts l x y cl)

-- the bits may be added after what stands below them
over_after : (count base m : ℕ) (t d : Tree) (ts : List Tree) → Closed ts → Has ts t → After ts d (bits_over base count m t d)
unfolding bits_over
over_after zero base m t d ts cl h = add_in (add_tree ts d) d (closed_add ts d cl) (has_add ts d)
over_after (suc count) base m t d ts cl h =
    go (eqb (m % 2) 0)
    (over_after count (suc base) (m / 2) (side base false t) d ts cl (has_side ts base false t cl h))
    (over_after count (suc base) (m / 2) (side base true t) d ts cl (has_side ts base true t cl h))
  where
    go : (q : Bool) → After ts d (bits_over (suc base) count (m / 2) (side base false t) d) → After ts d (bits_over (suc base) count (m / 2) (side base true t) d)
        → After ts d (cond q (mk base (bits_over (suc base) count (m / 2) (side base false t) d) (side base true t)) (mk base (side base false t) (bits_over (suc base) count (m / 2) (side base true t) d)))
    go true a b = after_trans ts d _ _ a (low_after (add_tree ts d) base _ _ (closed_add ts d cl)) (low_after ts base _ _ cl)
    go false a b =
        after_trans ts d _ _ b
        (high_in (add_tree ts d) base (side base false t) _ (closed_add ts d cl) (goes_has (add_goes ts d) (has_side ts base false t cl h)))
        (high_in ts base (side base false t) _ cl (has_side ts base false t cl h))

-- the same of a variable
place_after : (base k : ℕ) (x : Option Number) (t d : Tree) (ts : List Tree) → Closed ts → Has ts t → After ts d (place_over base k x t d)
place_after base k None t d ts cl h = add_in (add_tree ts d) d (closed_add ts d cl) (has_add ts d)
place_after base k (Some m) t d ts cl h = over_after k base m.0 t d ts cl h

-- the steps of a variable, over the tree of the reference p
module _ {ns : List ℕ} {n : ℕ} (t : Table ns n) (base k : ℕ) (x : Option Number) {p : ℕ} {o : Tree} (w : To ns n p o) (d : Tree) where
  may : After (trees_of ns n) d (place_over base k x o d)
  may = place_after base k x o d (trees_of ns n) (back_closed ns n t.back) (p, record { below = omega (arith, length_trees ns n, w.below); is = w.is })

  -- no room for what stands below the variable
  place_stuck : {ms : List ℕ} → Stuck ns ms n d → Stuck ns ms n (place_over base k x o d)
  place_stuck s = stuck_first d (place_over base k x o d) may s

  -- what stands below is added, and then the variable
  place_then : {ns₁ : List ℕ} {n₁ q : ℕ} → Grown ns ns₁ n n₁ q d → (I : List ℕ → ℕ → Type 0) (ms : List ℕ) (m : Option Made)
      → Added I ns₁ ms n₁ (place_over base k x (at (trees_of ns₁ n₁) p) (at (trees_of ns₁ n₁) q)) m → Added I ns ms n (place_over base k x o d) m
  place_then g I ms m v = first_then d (place_over base k x o d) may g I ms m (rw (g.ref.is, (later_to g w).is) at v)

-- the references that the numbers lead to from p: past variable 0, past 1 and past 2
pub record Down (ns : List ℕ) (n k : ℕ) (places : List (Option Number)) (p q r s : ℕ) : Type 0 where
  pub start : To ns n p (at (trees_of ns n) p)
  pub one : To ns n q (first k places (at (trees_of ns n) p))
  pub two : To ns n r (second k places (at (trees_of ns n) p))
  pub three : To ns n s (third k places (at (trees_of ns n) p))

-- they are followed one after the other
pub goes_down : {ns : List ℕ} {n : ℕ} (k : ℕ) (places : List (Option Number)) {p q r s : ℕ} → p < n + 2 → To ns n q (along_place 0 k (get_or places 0 None) (at (trees_of ns n) p))
    → To ns n r (along_place k k (get_or places 1 None) (at (trees_of ns n) q)) → To ns n s (along_place (2 * k) k (get_or places 2 None) (at (trees_of ns n) r)) → Down ns n k places p q r s
goes_down k places h a b c =
    let two = rw a.is at b in
    record { start = record { below = h; is = refl }; one = a; two = two; three = rw two.is at c }

-- the steps up: the last variable, over yes, and then one more each time
module _ {ns : List ℕ} {n : ℕ} (t : Table ns n) {k : ℕ} {places : List (Option Number)} {p q r s : ℕ} (w : Down ns n k places p q r s) where
  -- variable 3 is added
  pub last_made : (I : List ℕ → ℕ → Type 0) (ms : List ℕ) (m : Option Made) → Added I ns ms n (place_over (3 * k) k (get_or places 3 None) (at (trees_of ns n) s) (at (trees_of ns n) 1)) m
      → Added I ns ms n (last k places (at (trees_of ns n) p)) m
  unfolding at
  last_made I ms m v = rw w.three.is at v

  module _ {ns₁ : List ℕ} {n₁ d : ℕ} where
    -- then variable 2
    pub later_made : Grown ns ns₁ n n₁ d (last k places (at (trees_of ns n) p)) → (I : List ℕ → ℕ → Type 0) (ms : List ℕ) (m : Option Made)
        → Added I ns₁ ms n₁ (place_over (2 * k) k (get_or places 2 None) (at (trees_of ns₁ n₁) r) (at (trees_of ns₁ n₁) d)) m → Added I ns ms n (later k places (at (trees_of ns n) p)) m
    later_made g I ms m v = place_then t (2 * k) k (get_or places 2 None) w.two _ g I ms m v

    -- then variable 1
    pub early_made : Grown ns ns₁ n n₁ d (later k places (at (trees_of ns n) p)) → (I : List ℕ → ℕ → Type 0) (ms : List ℕ) (m : Option Made)
        → Added I ns₁ ms n₁ (place_over k k (get_or places 1 None) (at (trees_of ns₁ n₁) q) (at (trees_of ns₁ n₁) d)) m → Added I ns ms n (early k places (at (trees_of ns n) p)) m
    early_made g I ms m v = place_then t k k (get_or places 1 None) w.one _ g I ms m v

    -- then variable 0
    pub into_made : Over k places (at (trees_of ns n) p) → Grown ns ns₁ n n₁ d (early k places (at (trees_of ns n) p)) → (I : List ℕ → ℕ → Type 0) (ms : List ℕ) (m : Option Made)
        → Added I ns₁ ms n₁ (place_over 0 k (get_or places 0 None) (at (trees_of ns₁ n₁) p) (at (trees_of ns₁ n₁) d)) m
        → Added I ns ms n (tree_of (4 * k) (λ s. eval (at (trees_of ns n) p) s || cube_says k places s)) m
    into_made o g I ms m v = rw (into_tree k places o) (place_then t 0 k (get_or places 0 None) w.start _ g I ms m v)

  module _ (o : Over k places (at (trees_of ns n) p)) {ms : List ℕ} where
    -- no room for the variables 1 to 3
    pub early_stuck : Stuck ns ms n (early k places (at (trees_of ns n) p)) → Stuck ns ms n (tree_of (4 * k) (λ s. eval (at (trees_of ns n) p) s || cube_says k places s))
    early_stuck v = rw (into_tree k places o) (place_stuck t 0 k (get_or places 0 None) w.start _ v)

    -- no room for the variables 2 and 3
    pub later_stuck : Stuck ns ms n (later k places (at (trees_of ns n) p)) → Stuck ns ms n (tree_of (4 * k) (λ s. eval (at (trees_of ns n) p) s || cube_says k places s))
    later_stuck v = early_stuck (place_stuck t k k (get_or places 1 None) w.one _ v)

    -- no room for variable 3
    pub last_stuck : Stuck ns ms n (last k places (at (trees_of ns n) p)) → Stuck ns ms n (tree_of (4 * k) (λ s. eval (at (trees_of ns n) p) s || cube_says k places s))
    last_stuck v = later_stuck (place_stuck t (2 * k) k (get_or places 2 None) w.two _ v)

-- The bits of a variable removed one at a time: what is left to do stays the same while it is done. Assumes nothing.
use Prim.Native.Nat.{ℕ, zero, suc, ◌+◌, ◌*◌, ◌-◌, ◌≤◌, ◌<◌}
use mathlib.Core.Path.{◌≡◌, refl, sym, ap, ap₂, ◌∙◌, fun_ext}
use mathlib.Core.Bool.{Bool, true, false, or_self, ◌||◌}
use mathlib.Core.List.{List, ◌∷◌, map}
use native.Mathlib.Omega.{arith}
use lib.ListN.{length}
use Rattle.trees.specs.Bits.{Bits, Function, Asks, put, drop, drops}
use Rattle.trees.specs.Tree.{Tree, eval, Fine, tree_of, drop_t}
use Rattle.trees.specs.Table.{add_tree, add_trees, at, trees_of}
use Rattle.trees.proofs.BitsLaws.{put_other, asks_drop}
use Rattle.trees.proofs.TreeLaws.{asks_eval}
use Rattle.trees.proofs.FunctionLaws.{fine_of, eval_of, tree_one}
use Rattle.trees.proofs.TableLaws.{adds_goes, goes_length}
use Rattle.nodes.specs.Nodes.{Front, Rest, Grown, Stuck}
use Rattle.walks.specs.Walks.{Within}
use Rattle.walks.specs.Desks.{Desk, Remembered}
use Rattle.diagram.specs.Steps.{drop_stages}
use Rattle.diagram.specs.Works.{Reached, Short}
use Rattle.nodes.proofs.ReadLaws.{grown_count, grown_ref}
use Rattle.making.proofs.WalkLaws.{front_trans, rest_trans}
use Rattle.walks.proofs.CallLaws.{within_all}
use Rattle.walks.proofs.DeskLaws.{desk_stays}

-- a function that asks only the levels is what its tree says
pub eval_tree : (n : ℕ) (g : Function) → Asks 0 n g → eval (tree_of n g) ≡ g
eval_tree n g a = fun_ext (eval_of n g a)

-- a reduced ordered tree is the tree of what it says
pub tree_eval : (n : ℕ) (d : Tree) → Fine 0 n d → tree_of n (eval d) ≡ d
tree_eval n d f = tree_one n (eval d) (asks_eval 0 n d f) d f (λ s. refl)

-- a reference over all levels leads to such a tree
pub within_fine : {ns : List ℕ} {n levels p : ℕ} → Within ns n levels levels p → Fine 0 levels (at (trees_of ns n) p)
within_fine {levels = levels} w = let e : levels - levels ≡ 0 = omega arith in rw e at w.fine

-- removing a level that is not asked changes nothing
drop_past : (n l : ℕ) (g : Function) → Asks 0 n g → n ≤ l → drop l g ≡ g
unfolding drop
drop_past n l g a h = fun_ext (λ s. ap₂ ◌||◌ (see s false) (see s true) ∙ or_self (g s))
  where
    see : (s : Bits) (x : Bool) → g (put s l x) ≡ g s
    see s x = a.only (put s l x) s (λ i p q. put_other s l x i (λ e. omega arith))

-- so the stages past all levels are the same from wherever they start
pub stages_past : (n a b k : ℕ) (g : Function) → Asks 0 n g → n ≤ a → n ≤ b → drop_stages a k g ≡ drop_stages b k g
unfolding drop_stages
stages_past n a b zero g h p q = refl
stages_past n a b (suc k) g h p q =
    rw (drop_past n (a + k) g h (omega arith), drop_past n (b + k) g h (omega arith)) (ap (λ (gs : List Function). g ∷ gs) (stages_past n a b k g h p q))

-- and so is their end
pub drops_past : (n a b k : ℕ) (g : Function) → Asks 0 n g → n ≤ a → n ≤ b → drops a k g ≡ drops b k g
unfolding drops
drops_past n a b zero g h p q = refl
drops_past n a b (suc k) g h p q =
    rw (drop_past n (a + k) g h (omega arith), drop_past n (b + k) g h (omega arith)) (drops_past n a b k g h p q)

-- the first n nodes of ns₀ and the reference p are where the removal of k bits starts: b bits are left to remove from r, among the first m nodes of ns
pub record Removing (levels base k : ℕ) (ns₀ : List ℕ) (n p : ℕ) (ns : List ℕ) (m r b : ℕ) (w₀ w : List ℕ) (c slots : ℕ) : Type 0 where
  pub kept : Remembered w₀ ns m levels w c slots
  pub size : length ns ≡ length ns₀
  pub same : Front (3 * n) ns₀ ns
  pub rest : Rest (3 * m) ns₀ ns
  pub more : n ≤ m
  pub within : Within ns m levels levels r
  pub ends : drops base b (eval (at (trees_of ns m) r)) ≡ drops base k (eval (at (trees_of ns₀ n) p))
  pub adds : add_trees (trees_of ns m) (map (tree_of levels) (drop_stages base b (eval (at (trees_of ns m) r))))
      ≡ add_trees (trees_of ns₀ n) (map (tree_of levels) (drop_stages base k (eval (at (trees_of ns₀ n) p))))

-- nothing is removed yet
pub removing_none : {levels : ℕ} {ns : List ℕ} {n p : ℕ} {w : List ℕ} {c slots : ℕ} (base k : ℕ) → Desk ns n levels w c slots → Within ns n levels levels p
    → Removing levels base k ns n p ns n p k w w c slots
removing_none base k d h = record {
  kept = desk_stays d;
  size = refl;
  same = record { eq = λ i l. refl };
  rest = record { eq = λ i l. refl };
  more = omega arith;
  within = h;
  ends = refl;
  adds = refl;
}

module _ {levels base k : ℕ} {ns₀ : List ℕ} {n p : ℕ} {ns : List ℕ} {m r b : ℕ} {w₀ w : List ℕ} {c slots : ℕ} (v : Removing levels base k ns₀ n p ns m r (suc b) w₀ w c slots) where
  -- the function with one bit more removed
  next : Function
  next = drop (base + b) (eval (at (trees_of ns m) r))

  asks : Asks 0 levels next
  unfolding next
  asks = asks_drop 0 levels (base + b) _ (asks_eval 0 levels _ (within_fine v.within))

  -- its stages are those that are left
  left : add_trees (add_tree (trees_of ns m) (drop_t levels (base + b) (at (trees_of ns m) r))) (map (tree_of levels) (drop_stages base b next))
      ≡ add_trees (trees_of ns₀ n) (map (tree_of levels) (drop_stages base k (eval (at (trees_of ns₀ n) p))))
  unfolding next drop_t drop_stages add_trees
  left = v.adds

  -- one bit more is removed
  removed : {ns' : List ℕ} {m' r' : ℕ} {w' : List ℕ} → Grown ns ns' m m' r' (drop_t levels (base + b) (at (trees_of ns m) r)) → Remembered w ns' m' levels w' c slots
      → Removing levels base k ns₀ n p ns' m' r' b w₀ w' c slots
  unfolding drop_t next drops
  removed {ns'} {m'} {r'} g d =
      let says : eval (at (trees_of ns' m') r') ≡ next = ap eval g.ref.is ∙ eval_tree levels next asks in
      let more = v.more in
      let count = grown_count g in
      record {
        kept = record { desk = d.desk; same = front_trans v.kept.same d.same (omega arith) };
        size = g.size ∙ v.size;
        same = front_trans v.same g.same (omega arith);
        rest = rest_trans v.rest g.rest (omega arith);
        more = omega arith;
        within = within_all ns' m' levels r' (grown_ref g) (rw g.ref.is (fine_of levels next));
        ends = rw says v.ends;
        adds = rw (says, g.trees) left;
      }

  -- there is no room for the next diagram
  stopped : {ns' : List ℕ} → Stuck ns ns' m (drop_t levels (base + b) (at (trees_of ns m) r))
      → Short levels ns₀ ns' n (drop_stages base k (eval (at (trees_of ns₀ n) p)))
  stopped {ns'} s =
      let more = v.more in
      let far = goes_length (adds_goes (map (tree_of levels) (drop_stages base b next)) (add_tree (trees_of ns m) (drop_t levels (base + b) (at (trees_of ns m) r)))) in
      record {
        over = rw (← left) (omega (arith, s.over, v.size));
        size = s.size ∙ v.size;
        same = front_trans v.same s.same (omega arith);
      }

-- the same, with the code's count of bits
module _ {levels base k : ℕ} {ns₀ : List ℕ} {n p : ℕ} {ns : List ℕ} {m r : ℕ} {w₀ w : List ℕ} {c slots : ℕ} where
  pub removing_more : {b : ℕ} → 0 < b → Removing levels base k ns₀ n p ns m r b w₀ w c slots → {ns' : List ℕ} {m' r' : ℕ} {w' : List ℕ}
      → Grown ns ns' m m' r' (drop_t levels (base + (b - 1)) (at (trees_of ns m) r)) → Remembered w ns' m' levels w' c slots
      → Removing levels base k ns₀ n p ns' m' r' (b - 1) w₀ w' c slots
  removing_more {b} h v g d = let e : b ≡ suc (b - 1) = omega arith in removed (rw e at v) g d

  pub removing_short : {b : ℕ} → 0 < b → Removing levels base k ns₀ n p ns m r b w₀ w c slots → {ns' : List ℕ}
      → Stuck ns ns' m (drop_t levels (base + (b - 1)) (at (trees_of ns m) r))
      → Short levels ns₀ ns' n (drop_stages base k (eval (at (trees_of ns₀ n) p)))
  removing_short {b} h v s = let e : b ≡ suc (b - 1) = omega arith in stopped (rw e at v) s

  -- all bits are removed
  pub removing_all : {b : ℕ} → b ≡ 0 → Removing levels base k ns₀ n p ns m r b w₀ w c slots
      → Reached levels ns₀ ns n m r (drop_stages base k (eval (at (trees_of ns₀ n) p))) (drops base k (eval (at (trees_of ns₀ n) p)))
  unfolding drops drop_stages add_trees
  removing_all e v =
      let z = rw e at v in
      record {
        size = z.size;
        trees = z.adds;
        ref = record { below = z.within.below; is = sym (tree_eval levels _ (within_fine z.within)) ∙ ap (tree_of levels) z.ends };
        same = z.same;
        rest = z.rest;
      }

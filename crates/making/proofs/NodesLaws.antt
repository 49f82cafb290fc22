-- Laws of a node that is made in a table with its chains. Assumes nothing.
use Prim.Native.Nat.{ℕ, ◌+◌, ◌*◌, ◌/◌, ◌≤◌, ◌<◌}
use mathlib.Core.Path.{◌≡◌, refl, sym, ap, ◌∙◌}
use mathlib.Core.Bool.{false}
use mathlib.Core.List.{List, [], ◌∷◌, ◌++◌}
use mathlib.Core.Logic.{⊎_elim}
use native.Mathlib.Omega.{arith}
use lib.ListN.{length, get_or, length-append, length-set}
use lib.Seq.{take_at}
use Rattle.trees.specs.Tree.{Tree, node, mk}
use Rattle.trees.specs.Table.{mem, push, add_tree, at, node_at, trees_of}
use Rattle.trees.proofs.Tests.{bool}
use Rattle.trees.proofs.TreeLaws.{mk_same, mk_differ}
use Rattle.trees.proofs.TableLaws.{Has, Closed, at_index, mem_place, push_out, add_in}
use Rattle.trees.proofs.ReadLaws.{length_trees, at_end, at_node, back_closed}
use Rattle.nodes.proofs.ReadLaws.{stored, stored_front, stored_rest, stored_trees, stored_table, stays}
use Rattle.nodes.proofs.ChainLaws.{joined_other, chained_walk, chained_missed, chained_found, chained_stored}
use Rattle.nodes.specs.Nodes.{Front, Grown, Stuck}
use Rattle.nodes.specs.Chains.{spread, Walkable, Sought, joined}
use Rattle.making.specs.declared.Made.{Made}
use Rattle.std.specs.Prelude.{Option, Some, None}
use Rattle.making.specs.Tables.{Added, Shelf, Shelved}
use Rattle.making.proofs.WalkLaws.{front_trans}

-- a node over sides that are there
add_node : (ts : List Tree) (l : ℕ) (x y : Tree) → Closed ts → Has ts x → Has ts y → add_tree ts (node l x y) ≡ push ts (node l x y)
unfolding add_tree
add_node ts l x y cl hx hy = rw (add_in ts x cl hx, add_in ts y cl hy)

-- a table that nothing was added to
pub shelved_same : {ns : List ℕ} {n : ℕ} {w : List ℕ} {c : ℕ} → Shelf ns n w c → Shelved w ns n w c
shelved_same s = record { shelf = s; same = record { eq = λ i h. refl } }

-- one walk after another, each of which only makes nodes
pub shelved_then : (c : ℕ) {w₀ w₁ : List ℕ} → Front (13 * c) w₀ w₁ → (w₂ ns ms : List ℕ) (n : ℕ) (d : Tree) (m : Option Made) → Added (λ xs j. Shelved w₁ xs j w₂ c) ns ms n d m → Added (λ xs j. Shelved w₀ xs j w₂ c) ns ms n d m
shelved_then c e w₂ ns ms n d None g = g
shelved_then c e w₂ ns ms n d (Some m) g = (g.0, record { shelf = g.1.shelf; same = front_trans e g.1.same (omega arith) })

-- a table with its chains, a level and two references into the table
module _ {ns : List ℕ} {n : ℕ} {w : List ℕ} {c : ℕ} (s : Shelf ns n w c) (l a b : ℕ) (ha : a < n + 2) (hb : b < n + 2) where
  -- both sides are one
  pub make_side : a ≡ b → Grown ns ns n n a (mk l (at (trees_of ns n) a) (at (trees_of ns n) b)) × Shelved w ns n w c
  make_side e = (stays ns n a _ s.table ha (mk_same l _ _ (ap (at (trees_of ns n)) e)), shelved_same s)

  third : length ns / 3 ≡ c
  third = omega (arith, s.size)

  -- sides of different references differ
  differ : (a ≡ b → ⊥) → at (trees_of ns n) a ≡ at (trees_of ns n) b → ⊥
  differ f e = f (s.table.one a b ha hb e)

  -- the node's bucket
  module _ (f : a ≡ b → ⊥) (q : ℕ) (below : q < c) (e : q ≡ spread l a b c) where
    -- its chain can be walked
    pub make_walk : Walkable ns (14 * c) w (get_or w (13 * c + q) 0)
    make_walk = rw third at (chained_walk s.chains l a b q (rw third below) (rw third e) s.table.fits (rw third s.long))

    -- the chain has the node
    pub make_found : {j : ℕ} → Sought ns (14 * c) w l a b (get_or w (13 * c + q) 0) (Some j) → Grown ns ns n n (j + 2) (mk l (at (trees_of ns n) a) (at (trees_of ns n) b)) × Shelved w ns n w c
    unfolding node_at
    make_found {j} t =
        let k = chained_found s.chains l a b q (rw third below) (rw third e) {j = j} (rw third t) in
        let v = k.1 in
        let is : at (trees_of ns n) (j + 2) ≡ node l (at (trees_of ns n) a) (at (trees_of ns n) b) = at_node ns n j s.table.back k.0 ∙ rw (v.level, v.low, v.high) in
        (stays ns n (j + 2) _ s.table (omega (arith, k.0)) (mk_differ l _ _ (differ f) ∙ sym is), shelved_same s)

    -- the chain does not have it
    module _ (t : Sought ns (14 * c) w l a b (get_or w (13 * c + q) 0) None) where
      -- the node is at no place
      not_mem : mem (node l (at (trees_of ns n) a) (at (trees_of ns n) b)) (trees_of ns n) ≡ false
      unfolding node_at
      not_mem = ⊎_elim
          (λ m.
          let len = length_trees ns n in
          let k = mem_place (node l (at (trees_of ns n) a) (at (trees_of ns n) b)) (trees_of ns n) m in
          let j = k.0 in
          let h : j < n = omega (arith, k.1) in
          let is : node (get_or ns (3 * j) 0) (at (trees_of ns n) (get_or ns (3 * j + 1) 0)) (at (trees_of ns n) (get_or ns (3 * j + 2) 0)) ≡ node l (at (trees_of ns n) a) (at (trees_of ns n) b) =
          sym (at_node ns n j s.table.back h) ∙ at_index (trees_of ns n) j ∙ k.2 in
          let back = s.table.back j h in
          let ea : at (trees_of ns n) (get_or ns (3 * j + 1) 0) ≡ at (trees_of ns n) a = cc in
          let eb : at (trees_of ns n) (get_or ns (3 * j + 2) 0) ≡ at (trees_of ns n) b = cc in
          absurd (chained_missed s.chains l a b q (rw third below) (rw third e) (rw third t) j h
          (record { level = cc; low = s.table.one _ _ (omega arith) ha ea; high = s.table.one _ _ (omega arith) hb eb })))
          (λ m. m)
          (bool (mem (node l (at (trees_of ns n) a) (at (trees_of ns n) b)) (trees_of ns n)))

      -- the table with the node at its end
      grows : add_tree (trees_of ns n) (mk l (at (trees_of ns n) a) (at (trees_of ns n) b)) ≡ trees_of ns n ++ node l (at (trees_of ns n) a) (at (trees_of ns n) b) ∷ []
      grows =
          let len = length_trees ns n in
          rw (mk_differ l (at (trees_of ns n) a) (at (trees_of ns n) b) (differ f))
          (add_node (trees_of ns n) l _ _ (back_closed ns n s.table.back) (a, record { below = omega arith; is = refl }) (b, record { below = omega arith; is = refl }) ∙ push_out (trees_of ns n) _ not_mem)

      -- there is no room for the node
      pub make_stuck : length ns < 3 * n + 3 → Stuck ns ns n (mk l (at (trees_of ns n) a) (at (trees_of ns n) b))
      make_stuck h =
          let len = length_trees ns n in
          let k : length ns / 3 ≡ n = omega (arith, s.table.fits) in
          record {
            over = rw (grows, length-append) (omega arith);
            table = rw k s.table;
            size = refl;
            trees = rw (k, grows) (sym (take_at (trees_of ns n) _ n len));
            same = record { eq = λ i h. refl };
            rest = record { eq = λ i h. refl };
          }

      -- the node is stored at place n and chained
      pub make_new : 3 * n + 3 ≤ length ns
          → Grown ns (stored ns n l a b) n (n + 1) (n + 2) (mk l (at (trees_of ns n) a) (at (trees_of ns n) b))
          × Shelved w (stored ns n l a b) (n + 1) (joined w (13 * c + q) (14 * c) n) c
      make_new room =
          let len = length_trees ns n in
          let t₁ = stored_table ns n l a b s.table ha hb room not_mem in
          let is = stored_trees ns n l a b s.table ha hb room not_mem in (
            record {
              table = t₁;
              size = simp length-set;
              trees = is ∙ sym grows;
              ref = rw is (rw (mk_differ l (at (trees_of ns n) a) (at (trees_of ns n) b) (differ f)) (record { below = rw length-append (omega arith); is = at_end (trees_of ns n) _ n len }));
              same = stored_front ns n l a b room;
              rest = record { eq = λ i h. (stored_rest ns n l a b room).eq i (omega arith) };
            },
            record {
              shelf =
                  record {
                    table = t₁;
                    size = simp length-set s.size;
                    some = s.some;
                    long = simp length-set s.long;
                    chains = rw third at (chained_stored s.chains l a b q (rw third below) (rw third e) room (rw third s.long));
                  };
              same = record { eq = λ i h. joined_other w (13 * c + q) (14 * c) n i (omega arith) (omega arith) };
            },
          )

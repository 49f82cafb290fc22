-- How the steps of a walk join: low side, high side, node. Assumes nothing.
use Prim.Native.Nat.{ℕ, ◌+◌, ◌/◌, ◌≤◌, ◌<◌}
use mathlib.Core.Path.{◌≡◌, sym, ap, ◌∙◌}
use mathlib.Core.List.{List}
use native.Mathlib.Omega.{arith}
use lib.ListN.{length, take}
use lib.Seq.{take-append-le}
use Rattle.trees.specs.Tree.{Tree, mk}
use Rattle.trees.specs.Table.{add_tree, at, trees_of}
use Rattle.trees.proofs.TableLaws.{Closed, Goes, goes_length, goes_at, add_goes, add_mk, add_in, closed_add, has_add}
use Rattle.making.specs.declared.Made.{Made}
use Rattle.std.specs.Prelude.{Option, Some, None}
use Rattle.nodes.specs.Nodes.{Front, Rest, Table, Grown, Stuck}
use Rattle.making.specs.Tables.{Added}
use Rattle.trees.proofs.ReadLaws.{length_trees, back_closed}
use Rattle.nodes.proofs.ReadLaws.{grown_goes, grown_count, grown_ref}

-- a reference of before still leads to its tree
pub kept : {ns ms : List ℕ} {n m r : ℕ} {d : Tree} → Grown ns ms n m r d → (q : ℕ) → q < n + 2 → at (trees_of ms m) q ≡ at (trees_of ns n) q
kept {ns} {n = n} g q h = goes_at (grown_goes g) q (omega (arith, length_trees ns n))

-- what two walks leave in front
pub front_trans : {j k : ℕ} {ns ms ls : List ℕ} → Front j ns ms → Front k ms ls → j ≤ k → Front j ns ls
front_trans s t le = record { eq = λ i h. t.eq i (omega arith) ∙ s.eq i h }

-- what is the same before k is the same before j
pub front_less : {j k : ℕ} {ns ms : List ℕ} → Front k ns ms → j ≤ k → Front j ns ms
front_less s le = record { eq = λ i h. s.eq i (omega arith) }

-- what two walks leave behind
pub rest_trans : {j k : ℕ} {ns ms ls : List ℕ} → Rest j ns ms → Rest k ms ls → j ≤ k → Rest k ns ls
rest_trans s t le = record { eq = λ i h. t.eq i h ∙ s.eq i (omega arith) }

-- a list that goes on from a longer one has the same front
front : {ts us : List Tree} → Goes ts us → (k : ℕ) → k ≤ length ts → take k ts ≡ take k us
front {ts} {us} g k h = rw g.is (sym (take-append-le k ts g.more h))

-- z may be added after x
abbrev pub After : List Tree → Tree → Tree → Type 0
After ts x z = add_tree (add_tree ts x) z ≡ add_tree ts z

-- z may be added after x where y may be, and z after y
pub after_trans : (ts : List Tree) (x y z : Tree) → After ts x y → After (add_tree ts x) y z → After ts y z → After ts x z
after_trans ts x y z a b c = sym b ∙ ap (λ (us : List Tree). add_tree us z) a ∙ c

module _ {ns : List ℕ} {n : ℕ} (x z : Tree) (e : After (trees_of ns n) x z) where
  -- no room for x, so none for z
  pub stuck_first : {ms : List ℕ} → Stuck ns ms n x → Stuck ns ms n z
  stuck_first s =
      let g = add_goes (add_tree (trees_of ns n) x) z in
      let a = goes_length g in
      record {
        over = rw (← e) (omega (arith, s.over));
        table = s.table;
        size = s.size;
        trees = s.trees ∙ front g (length ns / 3) (omega (arith, s.over)) ∙ rw e;
        same = s.same;
        rest = s.rest;
      }

  -- x is added, and then z
  pub first_then : {ns₁ : List ℕ} {n₁ p : ℕ} → Grown ns ns₁ n n₁ p x → (I : List ℕ → ℕ → Type 0) (ms : List ℕ) (m : Option Made) → Added I ns₁ ms n₁ z m → Added I ns ms n z m
  first_then {ns₁} g I ms None s = record {
    over = rw (← e, ← g.trees) (omega (arith, s.over, g.size));
    table = rw (← g.size) s.table;
    size = s.size ∙ g.size;
    trees = rw (← g.size) (s.trees ∙ rw (g.trees, e));
    same = front_trans g.same s.same (omega (arith, grown_count g));
    rest = rw (← g.size) (rest_trans g.rest s.rest (omega (arith, g.table.fits)));
  }
  first_then g I ms (Some m) w =
      let s = w.0 in (
        record {
          table = s.table;
          size = s.size ∙ g.size;
          trees = s.trees ∙ rw g.trees e;
          ref = s.ref;
          same = front_trans g.same s.same (omega (arith, grown_count g));
          rest = rest_trans g.rest s.rest (omega (arith, grown_count s));
        },
        w.1,
      )

-- a node may be added after its low side, and then after its high side
pub low_after : (ts : List Tree) (l : ℕ) (x y : Tree) → Closed ts → After ts x (mk l x y)
low_after ts l x y cl =
    sym (add_mk (add_tree ts x) l x y (closed_add ts x cl))
    ∙ rw (add_in (add_tree ts x) x (closed_add ts x cl) (has_add ts x)) (add_mk ts l x y cl)

-- the same of the high side
pub high_after : (ts : List Tree) (l : ℕ) (x y : Tree) → Closed ts → After (add_tree ts x) y (mk l x y)
high_after ts l x y cl = add_mk ts l x y cl ∙ sym (low_after ts l x y cl)

module _ {ns : List ℕ} {n : ℕ} (l : ℕ) (x y : Tree) (t : Table ns n) where
  -- the low side comes first
  low : After (trees_of ns n) x (mk l x y)
  low = low_after (trees_of ns n) l x y (back_closed ns n t.back)

  -- no room for the low side
  pub stuck_low : {ms : List ℕ} → Stuck ns ms n x → Stuck ns ms n (mk l x y)
  stuck_low s = stuck_first x (mk l x y) low s

  module _ {ns₁ : List ℕ} {n₁ p : ℕ} (g : Grown ns ns₁ n n₁ p x) where
    -- then the high side
    high : After (trees_of ns₁ n₁) y (mk l x y)
    high = rw g.trees (high_after (trees_of ns n) l x y (back_closed ns n t.back))

    -- no room for the high side
    pub stuck_high : {ms : List ℕ} → Stuck ns₁ ms n₁ y → Stuck ns ms n (mk l x y)
    stuck_high {ms} s = first_then x (mk l x y) low g (λ ns n. Unit {0}) ms None (stuck_first y (mk l x y) high s)

    -- the node over both sides
    pub joined : {ns₂ : List ℕ} {n₂ q : ℕ} → Grown ns₁ ns₂ n₁ n₂ q y → (I : List ℕ → ℕ → Type 0) (ms : List ℕ) (m : Option Made)
        → Added I ns₂ ms n₂ (mk l (at (trees_of ns₂ n₂) p) (at (trees_of ns₂ n₂) q)) m → Added I ns ms n (mk l x y) m
    joined {ns₂} {n₂} {q} h I ms m w =
        let ep : at (trees_of ns₂ n₂) p ≡ x = kept h p (grown_ref g) ∙ g.ref.is in
        first_then x (mk l x y) low g I ms m (first_then y (mk l x y) high h I ms m (rw (ep, h.ref.is) at w))

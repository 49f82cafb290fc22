-- The visits of the rows, one after the other. Assumes nothing.
use Prim.Native.Nat.{ℕ, suc, ◌+◌, ◌*◌, ◌-◌, ◌/◌, ◌≤◌}
use mathlib.Core.Path.{◌≡◌, refl, sym, ap, ap₂, ◌∙◌}
use mathlib.Core.List.{List, ◌++◌, map}
use native.Mathlib.Omega.{arith}
use lib.ListN.{length, get_or, drop, replicate, length-drop, length-replicate, take-append-drop}
use lib.Seq.{ext_get_or, get_or-drop}
use Rattle.trees.specs.Tree.{Tree, off, tree_of}
use Rattle.trees.specs.Table.{add_trees, at, ref_of, trees_of}
use Rattle.trees.proofs.ReadLaws.{length_trees, numbers_show}
use Rattle.trees.proofs.CanonicalLaws.{zeros_at}
use Rattle.nodes.specs.Nodes.{Table}
use Rattle.visits.specs.Visits.{Went, complement}
use Rattle.walks.specs.Complements.{map_of}
use Rattle.diagram.specs.declared.Instruction.TheVariants.{Yes, And, Not, Since, Old, Drop}
use Rattle.diagram.specs.Steps.{Task, facts, does, says, task_stages, new_trees}
use Rattle.diagram.specs.Counts.{holding, Counting, meets, count_row, count_task, counting, row_ceiling, task_ceiling, ceiling}
use Rattle.diagram.specs.Works.{Plain, TolledBy, Tallied}

-- a slice with zeros behind its table is the one that holds it
pub holds : {ns : List ℕ} {n : ℕ} → Table ns n → ((j : ℕ) → 3 * n ≤ j → get_or ns j 0 ≡ 0) → holding (length ns) (trees_of ns n) ≡ ns
holds {ns} {n} t z =
    rw (length_trees ns n) (ap₂ ◌++◌ (sym (numbers_show ns n t.fits t.back t.one)) (sym zeros) ∙ take-append-drop (3 * n) ns)
  where
    zeros : drop (3 * n) ns ≡ replicate (length ns - 3 * n) 0
    zeros = ext_get_or 0 _ _ (rw (length-drop, length-replicate) (omega arith)) (λ i h. rw get_or-drop (z (3 * n + i) (omega arith) ∙ sym (zeros_at (length ns - 3 * n) i)))

-- no row is counted yet
pub tally_none : (size k : ℕ) (plan : List Task) (old ts : List Tree) → Tallied size k plan old ts 0 ts (replicate (size / 3) 0) 0
unfolding counting ceiling
tally_none size k plan old ts = record { table = refl; notes = refl; visits = refl; most = omega arith; small = omega arith }

-- what one row more leaves and counts
record Next (size k : ℕ) (old now : List Tree) (i : ℕ) (x : Task) (s : Counting) (us : List Tree) (noted : List ℕ) (v u : ℕ) : Type 0 where
  table : (count_task size k old now i x s).table ≡ us
  notes : (count_task size k old now i x s).notes ≡ noted
  visits : (count_task size k old now i x s).visits ≡ v + u
  most : u ≤ task_ceiling now x
  small : u ≤ 8193

module _ (ns ns' : List ℕ) (n n' r : ℕ) (news w w' : List ℕ) (c v u size k : ℕ) (old now : List Tree) (i : ℕ) (s : Counting)
    (e₁ : s.table ≡ trees_of ns n) (e₂ : s.notes ≡ map_of c w) (e₃ : s.visits ≡ v) where
  -- what is counted of a row
  abbrev Row : Task → Type 0
  Row x = Next size k old now i x s (trees_of ns' n') (map_of c w') v u

  -- its functions' diagrams are added
  abbrev Adds : Task → Type 0
  Adds x = add_trees (trees_of ns n) (map (tree_of (4 * k)) (task_stages k (says old) (says now) i x)) ≡ trees_of ns' n'

  -- a row that walks no complement
  plain : (x : Task) → count_task size k old now i x s ≡ meets (4 * k) (task_stages k (says old) (says now) i x) s → task_ceiling now x ≡ 0 → Adds x → Plain w w' c u → Row x
  plain x e z t p = record {
    table = ap (λ (y : Counting). y.table) e ∙ rw e₁ t;
    notes = ap (λ (y : Counting). y.notes) e ∙ e₂ ∙ sym p.map;
    visits = ap (λ (y : Counting). y.visits) e ∙ e₃ ∙ omega (arith, p.none);
    most = omega (arith, p.none);
    small = omega (arith, p.none);
  }

  -- any row
  next : (x : Task) → Adds x → holding size (trees_of ns n) ≡ ns
      → ((a : ℕ) → (get_or news a 0 ≡ ref_of (trees_of ns n) (get_or now a off)) × (at (trees_of ns n) (get_or news a 0) ≡ get_or now a off))
      → TolledBy (4 * k) ns ns' n n' r news w w' c u x → Row x
  unfolding count_task task_ceiling task_stages count_row row_ceiling
  next (does Yes) t h q p = plain (does Yes) refl refl t p
  next (facts ts) t h q p = plain (facts ts) refl refl t p
  next (does (And a b)) t h q p = plain (does (And a b)) refl refl t p
  next (does (Not a)) t h q p =
      let went : complement (holding size s.table) (4 * k) s.table s.notes (ref_of s.table (get_or now a off)) ≡ complement ns (4 * k) (trees_of ns n) (map_of c w) (get_or news a 0) =
      rw (e₁, e₂, h, ← (q a).0) in
      record {
        table = ap (λ (y : Went). y.table) went ∙ p.refines.table;
        notes = ap (λ (y : Went). y.notes) went ∙ p.refines.notes;
        visits = ap₂ ◌+◌ e₃ (ap (λ (y : Went). y.visits) went ∙ p.refines.visits);
        most = rw (q a).1 at p.most;
        small = p.fits;
      }
  next (does (Since a b)) t h q p = plain (does (Since a b)) refl refl t p
  next (does (Old a)) t h q p = plain (does (Old a)) refl refl t p
  next (does (Drop x a)) t h q p = plain (does (Drop x a)) refl refl t p

-- one row more is counted
pub tally_more : {size k : ℕ} {plan : List Task} {old ts : List Tree} {i : ℕ} (ns : List ℕ) (n c : ℕ) (w : List ℕ) {v : ℕ} → Tallied size k plan old ts i (trees_of ns n) (map_of c w) v
    → (ns' : List ℕ) (n' r : ℕ) (news w' : List ℕ) (u : ℕ) → add_trees (trees_of ns n) (map (tree_of (4 * k)) (task_stages k (says old) (says (new_trees k plan old i)) i (get_or plan i (does Yes)))) ≡ trees_of ns' n'
    → holding size (trees_of ns n) ≡ ns → ((a : ℕ) → (get_or news a 0 ≡ ref_of (trees_of ns n) (get_or (new_trees k plan old i) a off)) × (at (trees_of ns n) (get_or news a 0) ≡ get_or (new_trees k plan old i) a off))
    → TolledBy (4 * k) ns ns' n n' r news w w' c u (get_or plan i (does Yes)) → Tallied size k plan old ts (suc i) (trees_of ns' n') (map_of c w') (v + u)
unfolding counting ceiling
tally_more {size} {k} {plan} {old} {ts} {i} ns n c w {v} t ns' n' r news w' u trees h q p =
    let x = next ns ns' n n' r news w w' c v u size k old (new_trees k plan old i) i (counting size k plan old ts i) t.table t.notes t.visits (get_or plan i (does Yes)) trees h q p in
    record { table = x.table; notes = x.notes; visits = x.visits; most = omega (arith, t.most, x.most); small = omega (arith, t.small, x.small) }

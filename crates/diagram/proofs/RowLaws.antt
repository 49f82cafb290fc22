-- The walks give the diagrams that the instructions say. Assumes nothing.
use Prim.Native.Nat.{ℕ, ◌+◌, ◌*◌, ◌-◌, ◌≤◌, ◌<◌}
use mathlib.Core.Path.{◌≡◌, refl, sym, ap, ◌∙◌}
use mathlib.Core.Bool.{true}
use mathlib.Core.List.{List, [], ◌∷◌}
use mathlib.Core.Logic.{⊎_elim}
use native.Mathlib.Nat.{mul-le-mul_right}
use native.Mathlib.Omega.{arith}
use lib.ListN.{get_or}
use Rattle.trees.specs.Bits.{Function, Asks, drops}
use Rattle.trees.specs.Tree.{Tree, on, eval, tree_of, not_t, since_t}
use Rattle.trees.specs.Table.{add_trees, at, trees_of}
use Rattle.trees.proofs.Tests.{lt_or_ge}
use Rattle.trees.proofs.TreeLaws.{asks_eval, fine_off, fine_on}
use Rattle.trees.proofs.FunctionLaws.{tree_one}
use Rattle.making.specs.declared.Made.{Made}
use Rattle.std.specs.Prelude.{Option, Some, None}
use Rattle.diagram.specs.declared.Instruction.{Instruction}
use Rattle.diagram.specs.declared.Instruction.TheVariants.{Yes, And, Not, Since, Old, Drop}
use Rattle.making.specs.Tables.{Added}
use Rattle.walks.specs.Walks.{Within}
use Rattle.walks.specs.Desks.{Desk, Remembered}
use Rattle.making.specs.Loans.{made}
use Rattle.walks.specs.Complements.{Counted, Complemented, counted}
use Rattle.walks.proofs.DeskLaws.{desk_stays}
use Rattle.walks.proofs.MapLaws.{map_is}
use Rattle.walks.proofs.ComplementLaws.{complement_fits}
use Rattle.walks.proofs.Visited.{not_visits}
use Rattle.nodes.specs.Nodes.{Grown, Stuck}
use Rattle.diagram.specs.Steps.{Turn, facts, does, turns_say, turn_stages, instruction_says, task_says, drop_stages, stages_of, task_stages}
use Rattle.diagram.specs.Works.{Leads, led, Base, Reached, Short, Worked, plainly, quietly, Plain, RowDone}
use Rattle.nodes.proofs.ReadLaws.{grown_ref, stays}
use Rattle.walks.proofs.SinceLaws.{and_since}
use Rattle.diagram.proofs.RemovalLaws.{tree_eval, within_fine, stages_past, drops_past}

-- an answer without visits, and the count of nodes
pub quiet : (n : ℕ) (r : Option ℕ) → counted n (quietly r) ≡ plainly (made n r)
quiet n None = refl
quiet n (Some r) = refl

-- one function's diagram was added
one_reached : {levels : ℕ} {ns ms : List ℕ} {n m r : ℕ} {d : Tree} (f : Function) → tree_of levels f ≡ d → Grown ns ms n m r d → Reached levels ns ms n m r (f ∷ []) f
unfolding add_trees
one_reached f e g = record { size = g.size; trees = rw e g.trees; ref = record { below = grown_ref g; is = g.ref.is ∙ sym e }; same = g.same; rest = g.rest }

-- there is no room for it
one_short : {levels : ℕ} {ns ms : List ℕ} {n : ℕ} {d : Tree} (f : Function) → tree_of levels f ≡ d → Stuck ns ms n d → Short levels ns ms n (f ∷ [])
unfolding add_trees
one_short f e g = record { over = rw e g.over; size = g.size; same = g.same }

-- a row of one function, whose diagram a walk has added
one_made : (levels : ℕ) (ns ms : List ℕ) (n : ℕ) (w w' : List ℕ) (c slots : ℕ) (f : Function) (d : Tree) (m : Option Made) → tree_of levels f ≡ d
    → Added (λ xs j. Remembered w xs j levels w' c slots) ns ms n d m → Worked levels ns ms n (f ∷ []) f w w' c slots m
one_made levels ns ms n w w' c slots f d None e g = one_short f e g
one_made levels ns ms n w w' c slots f d (Some m) e g = (one_reached f e g.0, g.1)

-- the same of a diagram that is there
one_there : {levels : ℕ} {ns : List ℕ} {n : ℕ} {w : List ℕ} {c slots : ℕ} → Desk ns n levels w c slots → (f : Function) (r : ℕ) → r < n + 2
    → tree_of levels f ≡ at (trees_of ns n) r → Worked levels ns ns n (f ∷ []) f w w c slots (Some (record { count = n; reference = r }))
one_there {levels} {ns} {n} d f r h e = (one_reached f e (stays ns n r (at (trees_of ns n) r) d.shelf.table h refl), desk_stays d)

-- no asks no level
pub within_no : (ns : List ℕ) (n levels : ℕ) → Within ns n levels levels 0
unfolding at
within_no ns n levels = record { below = omega arith; fine = fine_off (levels - levels) levels }

-- a reference of a row leads to a diagram over the levels
pub leads_to : {ns : List ℕ} {n levels : ℕ} {refs : List ℕ} → Leads ns n levels refs → {r : ℕ} (a : ℕ) → r ≡ get_or refs a 0 → Within ns n levels levels r
leads_to l a e = rw e (l.each a)

module _ (k : ℕ) {ns : List ℕ} {n : ℕ} (olds news : List ℕ) (i : ℕ) {w : List ℕ} {c slots : ℕ} (d : Desk ns n (4 * k) w c slots) where
  -- what the row's work left, by its instruction
  abbrev Row : List ℕ → List ℕ → Instruction → Option Counted → Type 0
  Row ms w' x m = RowDone k ns ms n olds news i (does x) w w' c slots m

  -- the same of walks that count nothing
  abbrev Walks : List ℕ → List ℕ → Instruction → Option Made → Type 0
  Walks ms w' x m = Worked (4 * k) ns ms n (stages_of k (led ns n olds) (led ns n news) i x) (instruction_says k (led ns n olds) (led ns n news) i x) w w' c slots m

  -- the map is as it was
  untouched : {ms w' : List ℕ} {m : ℕ} → Remembered w ms m (4 * k) w' c slots → Plain w w' c 0
  untouched {w' = w'} g = record { map = map_is c w w' d.shelf.long g.desk.shelf.long g.same; none = refl }

  -- yes
  pub row_yes : Row ns w Yes (plainly (Some (record { count = n; reference = 1 })))
  unfolding task_stages task_says stages_of instruction_says at eval
  row_yes =
      let g : Walks ns w Yes (Some (record { count = n; reference = 1 })) = one_there d _ 1 (omega arith) (tree_one (4 * k) (λ s. true) (record { only = λ s t h. refl }) on (fine_on 0 (4 * k)) (λ s. refl)) in
      (g.0, d, untouched g.1)

  -- an old diagram
  pub row_old : (a : ℕ) → Leads ns n (4 * k) olds → Row ns w (Old a) (plainly (Some (record { count = n; reference = get_or olds a 0 })))
  unfolding task_stages task_says stages_of instruction_says led
  row_old a l =
      let g : Walks ns w (Old a) (Some (record { count = n; reference = (get_or olds a 0) })) = one_there d _ (get_or olds a 0) (l.each a).below (tree_eval (4 * k) _ (within_fine (l.each a))) in
      (g.0, d, untouched g.1)

  module _ (ms w' : List ℕ) where
    -- an atom
    pub row_facts : (ts : List Turn) (m : Option Made) → Worked (4 * k) ns ms n (turn_stages k [] ts) (turns_say k ts) w w' c slots m → RowDone k ns ms n olds news i (facts ts) w w' c slots (plainly m)
    unfolding task_stages task_says
    row_facts ts None g = g
    row_facts ts (Some m) g = (g.0, g.1.desk, untouched g.1)

    -- an and
    pub row_and : (a b : ℕ) (m : Option Made)
        → Added (λ xs j. Remembered w xs j (4 * k) w' c slots) ns ms n (since_t (4 * k) (at (trees_of ns n) (get_or news a 0)) (at (trees_of ns n) 0) (at (trees_of ns n) (get_or news b 0))) m → Row ms w' (And a b) (plainly m)
    unfolding task_stages task_says stages_of instruction_says led at
    row_and a b None g = one_short _ (sym (and_since (4 * k) (at (trees_of ns n) (get_or news a 0)) (at (trees_of ns n) (get_or news b 0)))) g
    row_and a b (Some m) g = (one_reached _ (sym (and_since (4 * k) (at (trees_of ns n) (get_or news a 0)) (at (trees_of ns n) (get_or news b 0)))) g.0, g.1.desk, untouched g.1)

    -- a complement
    pub row_not : Leads ns n (4 * k) news → (a : ℕ) (m : Option Counted) → Complemented ns ms n (4 * k) (4 * k) (get_or news a 0) w w' c slots m → Row ms w' (Not a) m
    unfolding task_stages task_says stages_of instruction_says led not_t
    row_not l a None g = one_short _ refl g
    row_not l a (Some m) g = (
      one_reached _ refl g.0,
      g.1,
      record { refines = g.2; most = not_visits d (omega arith) (l.each a) g; fits = complement_fits d (4 * k) (get_or news a 0) (omega arith) (l.each a) g.2 },
    )

    -- a since
    pub row_since : (a b l r o : ℕ) → l ≡ get_or news a 0 → r ≡ get_or news b 0 → o ≡ get_or olds i 0 → (m : Option Made)
        → Added (λ xs j. Remembered w xs j (4 * k) w' c slots) ns ms n (since_t (4 * k) (at (trees_of ns n) l) (at (trees_of ns n) r) (at (trees_of ns n) o)) m → Row ms w' (Since a b) (plainly m)
    unfolding task_stages task_says stages_of instruction_says led since_t
    row_since a b l r o el er eo None g = one_short _ refl (rw (el, er, eo) at g)
    row_since a b l r o el er eo (Some m) g = (one_reached _ refl (rw (el, er, eo) at g.0), g.1.desk, untouched g.1)

    -- a removal
    pub row_drop : (v a : ℕ) (m : Option Made)
        → Worked (4 * k) ns ms n (drop_stages (v * k) k (eval (at (trees_of ns n) (get_or news a 0)))) (drops (v * k) k (eval (at (trees_of ns n) (get_or news a 0)))) w w' c slots m → Row ms w' (Drop v a) (plainly m)
    unfolding task_stages task_says stages_of instruction_says led
    row_drop v a None g = g
    row_drop v a (Some m) g = (g.0, g.1.desk, untouched g.1)

-- the bits of a variable past the four are past all levels
base_far : {k v base : ℕ} → Base k v base → 4 ≤ v → (4 * k ≤ base) × (4 * k ≤ v * k)
base_far {k} {v} b h = let e = b.far h in (omega arith, mul-le-mul_right k h)

module _ {k v base : ℕ} (b : Base k v base) (g : Function) (a : Asks 0 (4 * k) g) where
  -- the stages from the level where the walk starts
  base_stages : drop_stages base k g ≡ drop_stages (v * k) k g
  base_stages = ⊎_elim (λ h. ap (λ (x : ℕ). drop_stages x k g) (b.near h)) (λ h. let f = base_far b h in stages_past (4 * k) base (v * k) k g a f.0 f.1) (lt_or_ge v 4)

  -- and their end
  base_drops : drops base k g ≡ drops (v * k) k g
  base_drops = ⊎_elim (λ h. ap (λ (x : ℕ). drops x k g) (b.near h)) (λ h. let f = base_far b h in drops_past (4 * k) base (v * k) k g a f.0 f.1) (lt_or_ge v 4)

module _ {k v base : ℕ} (b : Base k v base) {ns : List ℕ} {n p : ℕ} (h : Within ns n (4 * k) (4 * k) p) where
  asks : Asks 0 (4 * k) (eval (at (trees_of ns n) p))
  asks = asks_eval 0 (4 * k) _ (within_fine h)

  -- no room for the stages
  pub removal_short : {ms : List ℕ} → Short (4 * k) ns ms n (drop_stages base k (eval (at (trees_of ns n) p))) → Short (4 * k) ns ms n (drop_stages (v * k) k (eval (at (trees_of ns n) p)))
  removal_short s = rw (← base_stages b (eval (at (trees_of ns n) p)) asks) s

  -- all stages worked
  pub removal_done : {ms : List ℕ} {m r : ℕ} → Reached (4 * k) ns ms n m r (drop_stages base k (eval (at (trees_of ns n) p))) (drops base k (eval (at (trees_of ns n) p)))
      → Reached (4 * k) ns ms n m r (drop_stages (v * k) k (eval (at (trees_of ns n) p))) (drops (v * k) k (eval (at (trees_of ns n) p)))
  removal_done s = rw (← base_stages b (eval (at (trees_of ns n) p)) asks, ← base_drops b (eval (at (trees_of ns n) p)) asks) s

-- The functions that the rows' work meets ask only the levels, so that their room is that of their diagrams. Assumes nothing.
use Prim.Native.Nat.{ℕ, zero, suc, ◌+◌, ◌*◌, ◌%◌, ◌^◌, ◌≤◌, ◌<◌}
use mathlib.Core.Path.{◌≡◌, refl, ap, ap₂}
use mathlib.Core.Bool.{false, not, ◌&&◌, ◌||◌}
use mathlib.Core.List.{List, [], ◌∷◌, ◌++◌, map}
use native.Mathlib.Omega.{arith}
use lib.Dec.{eqb}
use lib.ListN.{length, get_or}
use Rattle.trees.specs.Bits.{Function, Same, Asks, drop}
use Rattle.trees.specs.Tree.{Tree, off, eval, Fine, tree_of}
use Rattle.trees.specs.Table.{add_trees}
use Rattle.trees.specs.Room.{Room}
use Rattle.trees.proofs.BitsLaws.{number_agree, asks_drop, asks_drops}
use Rattle.trees.proofs.TreeLaws.{asks_eval, fine_off}
use Rattle.trees.proofs.FunctionLaws.{fine_of, eval_of}
use Rattle.trees.proofs.RoomLaws.{room_trees, room_same}
use Rattle.std.specs.Prelude.{Option, Some, None}
use Rattle.making.specs.declared.Number.{Number}
use Rattle.diagram.specs.declared.Instruction.{Instruction}
use Rattle.diagram.specs.declared.Instruction.TheVariants.{Yes, And, Not, Since, Old, Drop}
use Rattle.making.specs.Cubes.{place_says, cube_says}
use Rattle.diagram.specs.Steps.{Turn, Task, facts, does, says, turn_says, turns_say, turn_stages, instruction_says, drop_stages, stages_of, task_stages, with_row, new_trees, stages}
use Rattle.stepping.proofs.PlanLaws.{adds_append}

-- a variable's number asks the variable's levels
asks_place : (base k hi : ℕ) (p : Option Number) → base + k ≤ hi → Asks 0 hi (place_says base k p)
asks_place base k hi None h = record { only = λ s t e. refl }
asks_place base k hi (Some m) h = record { only = λ s t e. ap (λ (x : ℕ). eqb x (m.0 % 2 ^ k)) (number_agree s t base k (λ l p q. e l (omega arith) (omega arith))) }

-- two functions joined
asks_and : (hi : ℕ) (f g : Function) → Asks 0 hi f → Asks 0 hi g → Asks 0 hi (λ s. f s && g s)
asks_and hi f g a b = record { only = λ s t e. ap₂ ◌&&◌ (a.only s t e) (b.only s t e) }

-- a cube asks the four variables' levels
asks_cube : (k : ℕ) (places : List (Option Number)) → Asks 0 (4 * k) (cube_says k places)
unfolding cube_says
asks_cube k places =
    asks_and (4 * k) _ _ (asks_place 0 k (4 * k) (get_or places 0 None) (omega arith))
    (asks_and (4 * k) _ _ (asks_place k k (4 * k) (get_or places 1 None) (omega arith))
    (asks_and (4 * k) _ _ (asks_place (2 * k) k (4 * k) (get_or places 2 None) (omega arith)) (asks_place (3 * k) k (4 * k) (get_or places 3 None) (omega arith))))

-- each function of a list asks only the levels
abbrev Each : ℕ → List Function → Type 0
Each hi [] = Unit {0}
Each hi (g ∷ gs) = Asks 0 hi g × Each hi gs

-- the same of a list behind another
each_append : (hi : ℕ) (fs gs : List Function) → Each hi fs → Each hi gs → Each hi (fs ++ gs)
each_append hi [] gs a b = b
each_append hi (f ∷ fs) gs a b = (a.0, each_append hi fs gs a.1 b)

-- a function of the list
each_at : (hi : ℕ) (fs : List Function) (i : ℕ) → Each hi fs → i < length fs → Asks 0 hi (get_or fs i (λ _. false))
each_at hi [] i a h = absurd (omega arith)
each_at hi (f ∷ fs) zero a h = a.0
each_at hi (f ∷ fs) (suc i) a h = each_at hi fs i a.1 (omega arith)

-- the functions met in a removal
each_drop : (hi base n : ℕ) (g : Function) → Asks 0 hi g → Each hi (drop_stages base n g)
unfolding drop_stages
each_drop hi base zero g a = tt
each_drop hi base (suc n) g a = let b = asks_drop 0 hi (base + n) g a in (b, each_drop hi base n (drop (base + n) g) b)

-- turns ask them too
asks_turn : (k : ℕ) (t : Turn) → Asks 0 (4 * k) (turn_says k t)
asks_turn k None = record { only = λ s t e. refl }
asks_turn k (Some places) = asks_cube k places

asks_turns : (k : ℕ) (ts : List Turn) → Asks 0 (4 * k) (turns_say k ts)
unfolding turns_say
asks_turns k [] = record { only = λ s t e. refl }
asks_turns k (t ∷ ts) = let a = asks_turn k t in let b = asks_turns k ts in record { only = λ s u e. ap₂ ◌||◌ (a.only s u e) (b.only s u e) }

each_turn : (k : ℕ) (done ts : List Turn) → Each (4 * k) (turn_stages k done ts)
unfolding turn_stages
each_turn k done [] = tt
each_turn k done (t ∷ ts) = (asks_turns k (done ++ t ∷ []), each_turn k (done ++ t ∷ []) ts)

module _ (k : ℕ) (old now : ℕ → Function) (i : ℕ) (a : (r : ℕ) → Asks 0 (4 * k) (old r)) (b : (r : ℕ) → Asks 0 (4 * k) (now r)) where
  -- a row's new function
  asks_row : (x : Instruction) → Asks 0 (4 * k) (instruction_says k old now i x)
  unfolding instruction_says
  asks_row Yes = record { only = λ s t e. refl }
  asks_row (And p q) = asks_and (4 * k) (now p) (now q) (b p) (b q)
  asks_row (Not p) = record { only = λ s t e. ap not ((b p).only s t e) }
  asks_row (Since l r) = record { only = λ s t e. ap₂ ◌||◌ ((b r).only s t e) (ap₂ ◌&&◌ ((b l).only s t e) ((a i).only s t e)) }
  asks_row (Old p) = a p
  asks_row (Drop v p) = asks_drops 0 (4 * k) (v * k) k (now p) (b p)

  -- the functions met in a row's work
  each_row : (x : Instruction) → Each (4 * k) (stages_of k old now i x)
  unfolding stages_of
  each_row Yes = (asks_row Yes, tt)
  each_row (And p q) = (asks_row (And p q), tt)
  each_row (Not p) = (asks_row (Not p), tt)
  each_row (Since l r) = (asks_row (Since l r), tt)
  each_row (Old p) = (asks_row (Old p), tt)
  each_row (Drop v p) = each_drop (4 * k) (v * k) k (now p) (b p)

  each_task : (x : Task) → Each (4 * k) (task_stages k old now i x)
  unfolding task_stages
  each_task (facts ts) = each_turn k [] ts
  each_task (does x) = each_row x

-- the diagrams are reduced and ordered, past their end too
abbrev AllFine : ℕ → List Tree → Type 0
AllFine hi ds = (a : ℕ) → Fine 0 hi (get_or ds a off)

-- one diagram more
fine_snoc : (hi : ℕ) (ds : List Tree) (d : Tree) → AllFine hi ds → Fine 0 hi d → AllFine hi (ds ++ d ∷ [])
fine_snoc hi [] d f g zero = g
fine_snoc hi [] d f g (suc a) = fine_off 0 hi
fine_snoc hi (x ∷ ds) d f g zero = f 0
fine_snoc hi (x ∷ ds) d f g (suc a) = fine_snoc hi ds d (λ b. f (suc b)) g a

module _ (k : ℕ) (plan : List Task) (old : List Tree) (f : AllFine (4 * k) old) where
  -- the new diagrams
  fine_new : (i : ℕ) → AllFine (4 * k) (new_trees k plan old i)
  unfolding new_trees with_row
  fine_new zero a = fine_off 0 (4 * k)
  fine_new (suc i) a = fine_snoc (4 * k) (new_trees k plan old i) _ (fine_new i) (fine_of (4 * k) _) a

  asks_says : (ds : List Tree) → AllFine (4 * k) ds → (a : ℕ) → Asks 0 (4 * k) (says ds a)
  unfolding says
  asks_says ds g a = asks_eval 0 (4 * k) (get_or ds a off) (g a)

  -- all functions met
  each_stage : (i : ℕ) → Each (4 * k) (stages k plan old i)
  unfolding stages
  each_stage zero = tt
  each_stage (suc i) =
      each_append (4 * k) (stages k plan old i) _ (each_stage i)
      (each_task k (says old) (says (new_trees k plan old i)) i (asks_says old f) (asks_says (new_trees k plan old i) (fine_new i)) (get_or plan i (does Yes)))

-- the diagrams of functions say what the functions say
trees_say : (hi : ℕ) (old : List Tree) (gs : List Function) → Each hi gs → (i : ℕ) → i < length (map eval (old ++ map (tree_of hi) gs))
    → Same (get_or (map eval (old ++ map (tree_of hi) gs)) i (λ _. false)) (get_or (map eval old ++ gs) i (λ _. false))
trees_say hi [] [] a i h s = refl
trees_say hi [] (g ∷ gs) a zero h s = eval_of hi g a.0 s
trees_say hi [] (g ∷ gs) a (suc i) h s = trees_say hi [] gs a.1 i (omega arith) s
trees_say hi (d ∷ old) gs a zero h s = refl
trees_say hi (d ∷ old) gs a (suc i) h s = trees_say hi old gs a i (omega arith) s

-- as many functions as diagrams
trees_count : (hi : ℕ) (old : List Tree) (gs : List Function) → length (map eval (old ++ map (tree_of hi) gs)) ≡ length (map eval old ++ gs)
trees_count hi [] [] = refl
trees_count hi [] (g ∷ gs) = ap suc (trees_count hi [] gs)
trees_count hi (d ∷ old) gs = ap suc (trees_count hi old gs)

-- each diagram is reduced and ordered
trees_fine : (hi : ℕ) (old : List Tree) (gs : List Function) → AllFine hi old → AllFine hi (old ++ map (tree_of hi) gs)
trees_fine hi [] [] f a = fine_off 0 hi
trees_fine hi [] (g ∷ gs) f zero = fine_of hi g
trees_fine hi [] (g ∷ gs) f (suc a) = trees_fine hi [] gs f a
trees_fine hi (d ∷ old) gs f zero = f 0
trees_fine hi (d ∷ old) gs f (suc a) = trees_fine hi old gs (λ b. f (suc b)) a

-- the room of all functions counted is the length of the working table
pub room_counted : (k : ℕ) (plan : List Task) (old : List Tree) (n : ℕ) → AllFine (4 * k) old
    → Room (4 * k) (map eval old ++ stages k plan old n) (length (add_trees (add_trees [] old) (map (tree_of (4 * k)) (stages k plan old n))))
room_counted k plan old n f =
    let gs = stages k plan old n in
    let ds = old ++ map (tree_of (4 * k)) gs in
    let fine = trees_fine (4 * k) old gs f in
    rw (← adds_append [] old (map (tree_of (4 * k)) gs))
    (room_same (4 * k) (map eval ds) (map eval old ++ gs) (length (add_trees [] ds)) (trees_count (4 * k) old gs) (trees_say (4 * k) old gs (each_stage k plan old f n)) (room_trees (4 * k) ds (λ i h. fine i)))

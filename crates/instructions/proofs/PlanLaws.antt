-- The plan of an event works the rows' functions. Assumes nothing.
use Prim.Native.Nat.{ℕ, zero, suc, ◌+◌, ◌*◌, ◌<◌}
use mathlib.Core.Path.{◌≡◌, refl, ap, ap₂, sym, ◌∙◌}
use mathlib.Core.Bool.{Bool, true, false, cond, ◌&&◌, ◌||◌}
use mathlib.Core.List.{List, [], ◌∷◌, ◌++◌, map}
use native.Mathlib.Omega.{arith}
use lib.Dec.{eqb}
use lib.ListN.{length, get_or, length-append}
use Rattle.trees.specs.Bits.{Bits, Function, Same}
use Rattle.trees.specs.Tree.{Tree, off, eval}
use Rattle.trees.proofs.Tests.{not_true, false_true}
use Rattle.trees.proofs.FunctionLaws.{tree_same}
use Rattle.meaning.specs.Qtl.{Fact, Argument}
use Rattle.meaning.specs.Rows.{Row, truth, atom, both, neg, since, previous, exists}
use Rattle.meaning.specs.Numbering.{Lists, fits}
use Rattle.meaning.specs.Step.{arguments_say, fact_says, atom_says, row_says, says_at, row_tree, row_trees}
use Rattle.meaning.proofs.RowsLaws.{ArgumentsOk, RowOk, RowsOk}
use Rattle.meaning.proofs.AskingLaws.{DistinctL, Covered, CoveredBy, Covers, covers_row, covers_rest}
use Rattle.meaning.proofs.Simulation.{Enough, fits_of, says_matches}
use Rattle.meaning.proofs.VerdictLaws.{some_assignment}
use Rattle.std.specs.Prelude.{Some, None}
use Rattle.diagram.specs.declared.Instruction.TheVariants.{Yes}
use Rattle.diagram.specs.Steps.{Task, does, says, turn_says, turns_say, instruction_says, task_says, with_row, new_trees}
use Rattle.instructions.specs.Plan.{place_of, turn_of, task_of}
use Rattle.instructions.proofs.CubeLaws.{arguments_four, cube_four}

module _ (k : ℕ) (L : Lists) (distinct : DistinctL L) (enough : Enough k L) where
  -- an atom that says yes of some numbers fits
  says_fits : (e : Fact) (gs : List Argument) (s : Bits) → ArgumentsOk gs → arguments_say k L gs e.values s ≡ true → fits gs e.values ≡ true
  says_fits e gs s o h =
      let a = some_assignment k L s in
      fits_of a.0 gs e.values (says_matches k L distinct s a.0 a.1 gs e.values o h)

  -- what a fact adds is what the atom says of it
  turn_says_law : (e : Fact) (p : ℕ) (gs : List Argument) (s : Bits) → ArgumentsOk gs → Covered e L (atom p gs) → turn_says k (turn_of L p gs e) s ≡ fact_says k L p gs e s
  unfolding turn_of fact_says
  turn_says_law e p gs s o c = go (eqb e.predicate p) (fits gs e.values) refl refl
    where
      go : (t u : Bool) → eqb e.predicate p ≡ t → fits gs e.values ≡ u
          → turn_says k (cond (t && u) (Some (place_of L 0 gs e.values ∷ place_of L 1 gs e.values ∷ place_of L 2 gs e.values ∷ place_of L 3 gs e.values ∷ [])) None) s
          ≡ (t && arguments_say k L gs e.values s)
      go false u a b = refl
      go true true a b = cube_four k L enough s gs e.values ∙ sym (arguments_four k L enough s gs e.values o (c (rw (a, b))) b)
      go true false a b = sym (not_true _ λ z. false_true b (says_fits e gs s o z))

  -- and so of all facts
  pub turns_say_law : (es : List Fact) (p : ℕ) (gs : List Argument) (s : Bits) → ArgumentsOk gs → CoveredBy es L (atom p gs) → turns_say k (map (turn_of L p gs) es) s ≡ atom_says k L p gs es s
  unfolding turns_say atom_says
  turns_say_law [] p gs s o c = refl
  turns_say_law (e ∷ es) p gs s o c = ap₂ (λ (x y : Bool). x || y) (turn_says_law e p gs s o c.0) (turns_say_law es p gs s o c.1)

  module _ (es : List Fact) where
    -- a row's task works its function
    pub task_says_law : (r : Row) (n : ℕ) (old now : ℕ → Function) (i : ℕ) → RowOk n r → CoveredBy es L r
        → Same (task_says k old now i (task_of L es r)) (row_says k L es old now i r)
    unfolding task_of task_says instruction_says row_says
    task_says_law truth n old now i o c s = refl
    task_says_law (atom p gs) n old now i o c s = turns_say_law es p gs s o c
    task_says_law (both l r) n old now i o c s = refl
    task_says_law (neg r) n old now i o c s = refl
    task_says_law (since l r) n old now i o c s = refl
    task_says_law (previous r) n old now i o c s = refl
    task_says_law (exists x r) n old now i o c s = refl

    -- a plan whose tasks are those of the rows works their diagrams
    module _ (plan : List Task) (old : List Tree) where
      pub new_length : (n : ℕ) → length (new_trees k plan old n) ≡ n
      unfolding new_trees with_row
      new_length zero = refl
      new_length (suc i) = length-append (new_trees k plan old i) _ ∙ (let h = new_length i in omega arith)

      says_now : (i : ℕ) (r : Row) → RowOk i r → CoveredBy es L r → (ts : List Tree) (s : Bits)
          → task_says k (says old) (says ts) i (task_of L es r) s ≡ row_says k L es (says_at old) (says_at ts) i r s
      unfolding says says_at
      says_now i r o c ts s = task_says_law r i (λ a. eval (get_or old a off)) (λ a. eval (get_or ts a off)) i o c s

      row_tree_law : (i : ℕ) (r : Row) → RowOk i r → CoveredBy es L r → get_or plan i (does Yes) ≡ task_of L es r
          → new_trees k plan old (suc i) ≡ new_trees k plan old i ++ row_tree k L es old (new_trees k plan old i) r ∷ []
      unfolding new_trees with_row row_tree
      row_tree_law i r o c p =
          ap (λ (t : Tree). new_trees k plan old i ++ t ∷ []) (tree_same (4 * k) _ _ λ s. rw (p, new_length i) (says_now i r o c (new_trees k plan old i) s))

      pub new_rows : (rs : List Row) (n : ℕ) → RowsOk n rs → Covers es L rs → ((j : ℕ) → j < length rs → get_or plan (n + j) (does Yes) ≡ task_of L es (get_or rs j truth))
          → row_trees k L es old (new_trees k plan old n) rs ≡ new_trees k plan old (n + length rs)
      unfolding row_trees
      new_rows [] n o c p = ap (new_trees k plan old) (omega arith)
      new_rows (r ∷ rs) n o c p =
          rw (sym (row_tree_law n r o.0 (covers_row es L r rs c) (rw (let z : n + 0 ≡ n = omega arith in z) at (p 0 (omega arith)))))
          (new_rows rs (suc n) o.1 (covers_rest es L r rs c) (λ j h. rw (let z : n + suc j ≡ suc n + j = omega arith in z) at (p (suc j) (omega arith)))
          ∙ ap (new_trees k plan old) (omega arith))

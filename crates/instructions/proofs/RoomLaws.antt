-- The working table of a plan has the room of the event. Assumes nothing.
use Prim.Native.Nat.{ℕ, zero, suc, ◌+◌, ◌-◌, ◌*◌, ◌<◌, ◌≤◌}
use mathlib.Core.Path.{◌≡◌, refl, ap, sym, subst, ◌∙◌}
use mathlib.Core.List.{List, [], ◌∷◌, ◌++◌, map}
use mathlib.Core.Logic.{◌⊎◌, ⊎_elim}
use native.Mathlib.Omega.{arith}
use lib.ListN.{length, get_or, length-append, get_or-append}
use lib.Seq.{get_or-append_seam}
use Rattle.trees.specs.Bits.{Function}
use Rattle.trees.specs.Tree.{Tree, off, eval, tree_of}
use Rattle.trees.specs.Table.{add_trees, at}
use Rattle.trees.proofs.Tests.{lt_or_ge}
use Rattle.trees.proofs.TableLaws.{Has, Closed, adds_goes, goes_has, has_adds, closed_nil, closed_adds}
use Rattle.trees.proofs.ShowLaws.{sound_nil, sound_adds}
use Rattle.trees.proofs.RoomLaws.{All, all_adds, part_has, table_le}
use Rattle.meaning.specs.Qtl.{Fact}
use Rattle.meaning.specs.Rows.{Row, truth}
use Rattle.meaning.specs.Numbering.{Lists}
use Rattle.meaning.specs.Step.{says_at, Shown, removed, atom_turns, counted, room_of}
use Rattle.meaning.proofs.RowsLaws.{RowOk}
use Rattle.meaning.proofs.AskingLaws.{DistinctL, CoveredBy}
use Rattle.meaning.proofs.Simulation.{Enough}
use Rattle.meaning.proofs.StepLaws.{AllFine}
use Rattle.diagram.specs.declared.Instruction.TheVariants.{Yes}
use Rattle.diagram.specs.Steps.{Task, does, says, task_says, task_stages, with_row, new_trees, stages}
use Rattle.instructions.specs.Plan.{task_of}
use Rattle.instructions.proofs.InLaws.{In, in_l, in_r, in_split, has_in, all_in, fine_in, in_fine}
use Rattle.instructions.proofs.MetLaws.{each_in, in_each, own_removals, removed_each, own_turns, turns_each, row_met, removals_met, turns_met, new_of}

-- every table has no
has_no : (ts : List Tree) → Has ts off
has_no ts = (0, record { below = omega arith; is = unfold at in refl })

module _ (k : ℕ) (pos : 0 < k) (L : Lists) (distinct : DistinctL L) (enough : Enough k L) (es : List Fact) (plan : List Task) (old : List Tree) (rule : List Row)
    (ok : (i : ℕ) → i < length rule → RowOk i (get_or rule i truth)) (covered : (i : ℕ) → i < length rule → CoveredBy es L (get_or rule i truth))
    (planned : (i : ℕ) → i < length rule → get_or plan i (does Yes) ≡ task_of L es (get_or rule i truth)) where
  -- the diagrams of the rows, and what the work of a row meets
  abbrev new : List Tree
  new = new_trees k plan old (length rule)

  abbrev met : ℕ → List Function
  met i = task_stages k (says old) (says (new_trees k plan old i)) i (get_or plan i (does Yes))

  new_count : (n : ℕ) → length (new_trees k plan old n) ≡ n
  unfolding new_trees with_row
  new_count zero = refl
  new_count (suc i) = length-append (new_trees k plan old i) _ ∙ (let h = new_count i in omega arith)

  -- a diagram once worked stays
  new_keeps : (m i j : ℕ) → j < i → get_or (new_trees k plan old (m + i)) j off ≡ get_or (new_trees k plan old i) j off
  unfolding new_trees with_row
  new_keeps zero i j h = ap (λ (n : ℕ). get_or (new_trees k plan old n) j off) (let z : 0 + i ≡ i = omega arith in z)
  new_keeps (suc m) i j h =
      ap (λ (n : ℕ). get_or (new_trees k plan old n) j off) (let z : suc m + i ≡ suc (m + i) = omega arith in z)
      ∙ get_or-append (new_trees k plan old (m + i)) _ off j (let c = new_count (m + i) in omega arith) ∙ new_keeps m i j h

  -- up to the last row
  new_stays : (i j : ℕ) → i ≤ length rule → j < i → get_or (new_trees k plan old (length rule)) j off ≡ get_or (new_trees k plan old i) j off
  new_stays i j l h = ap (λ (n : ℕ). get_or (new_trees k plan old n) j off) (let z : length rule ≡ (length rule - i) + i = omega arith in z) ∙ new_keeps (length rule - i) i j h

  here : (i : ℕ) → get_or (new_trees k plan old (suc i)) i off ≡ tree_of (4 * k) (task_says k (says old) (says (new_trees k plan old i)) i (get_or plan i (does Yes)))
  unfolding new_trees with_row
  here i =
      ap (λ (n : ℕ). get_or (new_trees k plan old i ++ tree_of (4 * k) (task_says k (says old) (says (new_trees k plan old i)) i (get_or plan i (does Yes))) ∷ []) n off) (sym (new_count i))
      ∙ get_or-append_seam (new_trees k plan old i) _ [] off

  new_is : (i : ℕ) → i < length rule → get_or new i off ≡ tree_of (4 * k) (task_says k (says old) (says (new_trees k plan old i)) i (get_or plan i (does Yes)))
  new_is i h = new_stays (suc i) i (omega arith) (omega arith) ∙ here i

  -- the rows that a row names are worked before it, and stay
  now_is : (i : ℕ) → i < length rule → (a : ℕ) → a < i → says (new_trees k plan old i) a ≡ says_at new a
  unfolding says_at says
  now_is i h a l = ap eval (sym (new_stays i a (omega arith) l))

  -- each new diagram is met in the work of its row, or is no
  new_met : (i : ℕ) → i < length rule → In (4 * k) (get_or new i off) (met i) ⊎ (get_or new i off ≡ off)
  new_met i h = rw (new_is i h, planned i h) (new_of k pos L es (says old) (says (new_trees k plan old i)) i (get_or rule i truth))

  -- what is counted beside the rows' functions
  abbrev between : List Function
  between = removed k new rule ++ atom_turns k L es rule

  -- what is met is counted
  met_counted : AllFine (4 * k) new → (i : ℕ) (t : Tree) → i < length rule → In (4 * k) t (met i) → In (4 * k) t (map eval new ++ between)
  met_counted w i t h q =
      ⊎_elim
      (λ z. in_l (4 * k) t (map eval new) between
      (subst (λ (d : Tree). In (4 * k) d (map eval new)) (new_is i h ∙ rw (planned i h) z) (fine_in (4 * k) new w i (let c = new_count (length rule) in omega arith))))
      (λ z. in_r (4 * k) t (map eval new) between (⊎_elim
      (λ y. in_l (4 * k) t (removed k new rule) _ (rw (removed_each k new rule) (each_in (4 * k) t (own_removals k new) rule i h y)))
      (λ y. in_r (4 * k) t (removed k new rule) _ (rw (turns_each k L es rule) (each_in (4 * k) t (own_turns k L es) rule i h y)))
      z))
      (row_met k pos L distinct enough es (says old) (says (new_trees k plan old i)) new i (now_is i h) t (get_or rule i truth) (ok i h) (covered i h) (rw (planned i h) at q))

  -- and what is counted between is met
  between_met : (t : Tree) → In (4 * k) t between → (i : ℕ) × (i < length rule) × In (4 * k) t (met i)
  between_met t h =
      ⊎_elim
      (λ z. let x = in_each (4 * k) t (own_removals k new) rule (rw (removed_each k new rule) at z) in (
        x.0,
        x.1,
        rw (planned x.0 x.1)
            (removals_met k pos L distinct enough es (says old) (says (new_trees k plan old x.0)) new x.0 (now_is x.0 x.1) t (get_or rule x.0 truth) (ok x.0 x.1) x.2),
      ))
      (λ z. let x = in_each (4 * k) t (own_turns k L es) rule (rw (turns_each k L es rule) at z) in (
        x.0,
        x.1,
        rw (planned x.0 x.1)
            (turns_met k pos L distinct enough es (says old) (says (new_trees k plan old x.0)) new x.0 (now_is x.0 x.1) t (get_or rule x.0 truth) (ok x.0 x.1) (covered x.0 x.1) x.2),
      ))
      (in_split (4 * k) t (removed k new rule) (atom_turns k L es rule) h)

  -- what is met in all rows
  met_stages : (n i : ℕ) (t : Tree) → i < n → In (4 * k) t (met i) → In (4 * k) t (stages k plan old n)
  unfolding stages
  met_stages zero i t h q = absurd (omega arith)
  met_stages (suc n) i t h q =
      ⊎_elim
      (λ z. in_l (4 * k) t (stages k plan old n) (met n) (met_stages n i t z q))
      (λ z. in_r (4 * k) t (stages k plan old n) (met n) (subst (λ (j : ℕ). In (4 * k) t (met j)) (let y : i ≡ n = omega arith in y) q))
      (lt_or_ge i n)

  stages_met : (n : ℕ) (t : Tree) → In (4 * k) t (stages k plan old n) → (i : ℕ) × (i < n) × In (4 * k) t (met i)
  unfolding stages
  stages_met zero t h = absurd h
  stages_met (suc n) t h =
      ⊎_elim
      (λ z. let x = stages_met n t z in (x.0, (let y = x.1 in omega arith), x.2))
      (λ z. (n, omega arith, z))
      (in_split (4 * k) t (stages k plan old n) (met n) h)

  -- the working table has the room of the event
  pub work_room : (before : Shown) → before.trees ≡ old → AllFine (4 * k) old → AllFine (4 * k) new
      → length (add_trees (add_trees [] old) (map (tree_of (4 * k)) (stages k plan old (length rule)))) ≡ room_of k rule before es (record { lists = L; trees = new })
  unfolding room_of counted
  work_room before b wo wn =
      rw b
      (let p : length A ≤ length B = table_le A B (sound_adds _ (add_trees [] old) (sound_adds old [] sound_nil)) (all_in (4 * k) B closed_b fs (add_trees [] old) olds_in works_in) in
      let q : length B ≤ length A = table_le B A (sound_adds _ [] sound_nil) (all_in (4 * k) A closed_a gs [] (λ j h. absurd (omega arith)) counted_in) in
      omega arith)
    where
      fs : List Function
      fs = stages k plan old (length rule)

      gs : List Function
      gs = map eval old ++ (map eval new ++ between)

      A : List Tree
      A = add_trees (add_trees [] old) (map (tree_of (4 * k)) fs)

      B : List Tree
      B = add_trees [] (map (tree_of (4 * k)) gs)

      closed_a : Closed A
      closed_a = closed_adds (map (tree_of (4 * k)) fs) (add_trees [] old) (closed_adds old [] closed_nil)

      closed_b : Closed B
      closed_b = closed_adds (map (tree_of (4 * k)) gs) [] closed_nil

      olds_in : All (Has B) (add_trees [] old)
      olds_in = all_adds (Has B) old [] (λ j h. absurd (omega arith)) λ i l s p.
          part_has B closed_b (get_or old i off) s p (has_in (4 * k) (get_or old i off) gs [] (in_l (4 * k) (get_or old i off) (map eval old) _ (fine_in (4 * k) old wo i l)))

      works_in : (t : Tree) → In (4 * k) t fs → Has B t
      works_in t h = let x = stages_met (length rule) t h in has_in (4 * k) t gs [] (in_r (4 * k) t (map eval old) _ (met_counted wn x.0 t x.1 x.2))

      worked : (t : Tree) (i : ℕ) → i < length rule → In (4 * k) t (met i) → Has A t
      worked t i h q = has_in (4 * k) t fs (add_trees [] old) (met_stages (length rule) i t h q)

      old_in : (t : Tree) → In (4 * k) t (map eval old) → Has A t
      old_in t h =
          let x = in_fine (4 * k) old wo t h in
          goes_has (adds_goes (map (tree_of (4 * k)) fs) (add_trees [] old)) (subst (Has (add_trees [] old)) x.2 (has_adds old [] x.0 x.1))

      new_in : (t : Tree) → In (4 * k) t (map eval new) → Has A t
      new_in t h =
          let x = in_fine (4 * k) new wn t h in
          let l : x.0 < length rule = (let y = x.1 in let c = new_count (length rule) in omega arith) in
          ⊎_elim (λ q. worked t x.0 l (subst (λ (d : Tree). In (4 * k) d (met x.0)) x.2 q)) (λ q. subst (Has A) (sym q ∙ x.2) (has_no A)) (new_met x.0 l)

      between_has : (t : Tree) → In (4 * k) t between → Has A t
      between_has t h = let x = between_met t h in worked t x.0 x.1 x.2

      counted_in : (t : Tree) → In (4 * k) t gs → Has A t
      counted_in t h =
          ⊎_elim (old_in t) (λ z. ⊎_elim (new_in t) (between_has t) (in_split (4 * k) t (map eval new) between z))
          (in_split (4 * k) t (map eval old) (map eval new ++ between) h)

-- A step with the plan of an event leaves what the meaning says. Assumes nothing.
use Prim.Native.Nat.{ℕ, zero, suc, ◌+◌, ◌*◌, ◌/◌, ◌<◌, ◌≤◌}
use mathlib.Core.Path.{◌≡◌, refl, ap, sym, subst, ◌∙◌}
use mathlib.Core.Bool.{Bool, true, false}
use mathlib.Core.List.{List, [], ◌∷◌, map}
use native.Mathlib.Omega.{arith}
use lib.Dec.{leb}
use lib.ListN.{length, get_or, length-map}
use Rattle.trees.specs.Tree.{Tree}
use Rattle.trees.specs.Table.{add_trees, ref_of, show, trees_of}
use Rattle.trees.specs.Kept.{diagrams}
use Rattle.trees.proofs.TreeLaws.{fine_off}
use Rattle.trees.proofs.ShowLaws.{sound_nil, sound_adds, show_length}
use Rattle.meaning.specs.Qtl.{Fact}
use Rattle.meaning.specs.Rows.{Row, truth}
use Rattle.meaning.specs.Numbering.{Lists, ask_facts}
use Rattle.meaning.specs.Step.{Shown, step, room_of}
use Rattle.meaning.specs.Tables.{padded, kept_table, lay_state, lay_nodes}
use Rattle.meaning.specs.Outcome as Meant
use Rattle.meaning.proofs.RowsLaws.{RowOk, RowsOk}
use Rattle.meaning.proofs.AskingLaws.{DistinctL, CoveredBy, Covers, covers_row, covers_rest, ask_facts_distinct, ask_facts_covers}
use Rattle.meaning.proofs.Simulation.{Enough}
use Rattle.meaning.proofs.StepLaws.{AllFine, fine_rows, trees_length}
use Rattle.diagram.specs.declared.Instruction.TheVariants.{Yes}
use Rattle.diagram.specs.Steps.{Task, does, new_trees, work_table, cleared, layout, work_outcome}
use Rattle.instructions.specs.Plan.{task_of}
use Rattle.instructions.specs.Worked.{worked_outcome}
use Rattle.instructions.proofs.PlanLaws.{new_rows}
use Rattle.instructions.proofs.RoomLaws.{work_room}

-- a rule's row at a place
pub row_at_law : (rs : List Row) (n : ℕ) → RowsOk n rs → (i : ℕ) → i < length rs → RowOk (n + i) (get_or rs i truth)
row_at_law [] n o i h = absurd (omega arith)
row_at_law (r ∷ rs) n o zero h = subst (λ (m : ℕ). RowOk m r) (let z : n ≡ n + 0 = omega arith in z) o.0
row_at_law (r ∷ rs) n o (suc i) h = subst (λ (m : ℕ). RowOk m (get_or rs i truth)) (let z : suc n + i ≡ n + suc i = omega arith in z) (row_at_law rs (suc n) o.1 i (omega arith))

-- the facts cover a rule's row at a place
covered_at : (es : List Fact) (L : Lists) (rs : List Row) → Covers es L rs → (i : ℕ) → i < length rs → CoveredBy es L (get_or rs i truth)
covered_at es L [] c i h = absurd (omega arith)
covered_at es L (r ∷ rs) c zero h = covers_row es L r rs c
covered_at es L (r ∷ rs) c (suc i) h = covered_at es L rs (covers_rest es L r rs c) i (omega arith)

module _ (k C : ℕ) (pos : 0 < k) (rule : List Row) (ok : RowsOk 0 rule) (before : Shown) (es : List Fact) (fine : AllFine (4 * k) before.trees)
    (distinct : DistinctL before.lists) (enough : Enough k (ask_facts es before.lists rule))
    (plan : List Task) (planned : (i : ℕ) → i < length rule → get_or plan i (does Yes) ≡ task_of (ask_facts es before.lists rule) es (get_or rule i truth)) where
  abbrev after : Shown
  after = step k rule before es

  -- the diagrams of the step are those that the plan works
  pub plan_trees : new_trees k plan before.trees (length rule) ≡ (step k rule before es).trees
  unfolding step new_trees
  plan_trees =
      ap (new_trees k plan before.trees) (let z : length rule ≡ 0 + length rule = omega arith in z)
      ∙ sym (new_rows k (ask_facts es before.lists rule) (ask_facts_distinct es rule before.lists distinct) enough es plan before.trees rule 0 ok (ask_facts_covers es rule before.lists)
      (λ j h. subst (λ (i : ℕ). get_or plan i (does Yes) ≡ task_of (ask_facts es before.lists rule) es (get_or rule j truth)) (let z : j ≡ 0 + j = omega arith in z) (planned j h)))

  after_fine : AllFine (4 * k) (step k rule before es).trees
  unfolding step
  after_fine = fine_rows k (ask_facts es before.lists rule) es before.trees fine rule [] (λ i. fine_off 0 (4 * k))

  after_count : length (step k rule before es).trees ≡ length rule
  unfolding step
  after_count = trees_length k (ask_facts es before.lists rule) es before.trees fine rule [] ∙ (let z : 0 + length rule ≡ length rule = omega arith in z)

  -- the working table has the room of the event
  pub plan_room : (refs ns : List ℕ) (kept : ℕ) → before.trees ≡ diagrams ns kept refs (length rule) → add_trees [] before.trees ≡ trees_of ns kept
      → length (work_table k (length rule) plan refs kept ns) ≡ room_of k rule before es (step k rule before es)
  unfolding work_table
  plan_room refs ns kept d o =
      rw (sym d, sym o)
      (work_room k pos L (ask_facts_distinct es rule before.lists distinct) enough es plan before.trees rule
      (λ i h. subst (λ (j : ℕ). RowOk j (get_or rule i truth)) (let z : 0 + i ≡ i = omega arith in z) (row_at_law rule 0 ok i h))
      (covered_at es L rule (ask_facts_covers es rule before.lists))
      planned before refl fine (rw plan_trees after_fine)
      ∙ ap (λ (ts : List Tree). room_of k rule before es (record { lists = L; trees = ts })) plan_trees ∙ (unfold step in refl))
    where
      L : Lists
      L = ask_facts es before.lists rule

  -- what is laid out
  pub plan_layout : (room : ℕ) (ns w : List ℕ) → length rule ≤ 64 → length ns ≡ 3 * C → length ns / 3 ≡ C → room ≡ room_of k rule before es (step k rule before es) → (refs sizes : List ℕ)
      → layout (step k rule before es).trees (length rule) (add_trees [] (step k rule before es).trees) room ns w ≡ worked_outcome true k C rule before es (step k rule before es) refs sizes ns w
  unfolding layout worked_outcome kept_table lay_state lay_nodes padded cleared Meant.cleared Meant.work_size
  plan_layout room ns w few n c r refs sizes = rw (r, c, n, refs_count, show_count)
    where
      refs_count : length (map (ref_of (add_trees [] (step k rule before es).trees)) (step k rule before es).trees) ≡ length rule
      refs_count = length-map (step k rule before es).trees (ref_of (add_trees [] (step k rule before es).trees)) ∙ after_count

      show_count : length (show (add_trees [] (step k rule before es).trees) (add_trees [] (step k rule before es).trees)) ≡ 3 * length (add_trees [] (step k rule before es).trees)
      show_count = show_length (add_trees [] (step k rule before es).trees) (add_trees [] (step k rule before es).trees) (sound_adds (step k rule before es).trees [] sound_nil).nodes

  work_true : (refs sizes ns w : List ℕ) (kept : ℕ) → length rule ≤ 64 → length ns ≡ 3 * C → length ns / 3 ≡ C
      → before.trees ≡ diagrams ns kept refs (length rule) → add_trees [] before.trees ≡ trees_of ns kept
      → work_outcome true k (length rule) plan refs sizes kept ns w ≡ worked_outcome true k C rule before es (step k rule before es) refs sizes ns w
  unfolding work_outcome
  work_true refs sizes ns w kept few n c d o = rw (sym d, plan_trees) (plan_layout (length (work_table k (length rule) plan refs kept ns)) ns w few n c (plan_room refs ns kept d o) refs sizes)

  work_false : (refs sizes ns w : List ℕ) (kept : ℕ) → length ns / 3 ≡ C → work_outcome false k (length rule) plan refs sizes kept ns w ≡ worked_outcome false k C rule before es (step k rule before es) refs sizes ns w
  unfolding work_outcome worked_outcome cleared Meant.cleared Meant.work_size
  work_false refs sizes ns w kept c = rw c

  -- the whole work, where there is room and where there is none
  pub plan_work : (refs sizes ns w : List ℕ) (kept : ℕ) → length rule ≤ 64 → length ns ≡ 3 * C → length ns / 3 ≡ C
      → before.trees ≡ diagrams ns kept refs (length rule) → add_trees [] before.trees ≡ trees_of ns kept
      → work_outcome (leb (length (work_table k (length rule) plan refs kept ns)) (length ns / 3)) k (length rule) plan refs sizes kept ns w
      ≡ worked_outcome (leb (room_of k rule before es (step k rule before es)) C) k C rule before es (step k rule before es) refs sizes ns w
  plan_work refs sizes ns w kept few n c d o = rw (plan_room refs ns kept d o, c) (go (leb (room_of k rule before es (step k rule before es)) C))
    where
      go : (b : Bool) → work_outcome b k (length rule) plan refs sizes kept ns w ≡ worked_outcome b k C rule before es (step k rule before es) refs sizes ns w
      go true = work_true refs sizes ns w kept few n c d o
      go false = work_false refs sizes ns w kept c

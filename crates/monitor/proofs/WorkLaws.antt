-- The diagram layer's step, called with a rule's masks and an event's plan, does the work that the meaning says. Assumes nothing.
use Prim.Native.Nat.{ℕ, ◌+◌, ◌*◌, ◌/◌, ◌%◌, ◌<◌}
use mathlib.Core.Path.{◌≡◌, refl}
use mathlib.Core.Bool.{Bool, true, false, ◌&&◌}
use mathlib.Core.List.{List}
use native.Mathlib.Omega.{arith}
use lib.Dec.{eqb, ltb, leb}
use lib.ListN.{length, get_or}
use borrow.Author.Tests.{ltb-false, ltb-true, eqb-true, eq-eqb, le-leb}
use Rattle.trees.specs.Kept.{well_kept, diagrams}
use Rattle.trees.specs.Sizes.{sizes_right}
use Rattle.trees.proofs.Tests.{and_true, and_true_l, and_true_r}
use Rattle.trees.proofs.KeptLaws.{of_kept}
use Rattle.trees.proofs.SizesLaws.{sizes_right_law}
use Rattle.meaning.specs.declared.Event.{Event}
use Rattle.meaning.specs.Rows.{truth, rule_of, count_of_rows, first_below, right, check_rows}
use Rattle.meaning.specs.Numbering.{ask_facts}
use Rattle.meaning.specs.Step.{step}
use Rattle.meaning.specs.Tables.{most, read, free_level}
use Rattle.meaning.specs.Outcome.{k_right, capacity, nodes_right, values_right, work_size, facts_of, shortest, Machine, Arrays, shows}
use Rattle.meaning.proofs.RowsLaws.{checked, rows_length, first_none}
use Rattle.meaning.proofs.ProperLaws.{kept_is, sizes_are}
use Rattle.meaning.proofs.Simulation.{Enough}
use Rattle.meaning.proofs.RunLaws.{positive, few}
use Rattle.meaning.proofs.AnyState.{laid_formed}
use Rattle.rule.specs.Checking.{Free}
use Rattle.diagram.specs.declared.Instruction.TheVariants.{Yes}
use Rattle.diagram.specs.Steps.{Task, does, fits, judge, judge_formed, step_outcome, formed_outcome}
use Rattle.instructions.specs.Plan.{task_of}
use Rattle.instructions.specs.Worked.{worked_outcome}
use Rattle.instructions.proofs.OutcomeLaws.{plan_work}
use Rattle.monitor.proofs.FormedLaws.{kept_by_masks}
use Rattle.monitor.proofs.DecisionLaws.{lengths, formed, short, fitting}

-- no variable is short
pub enough_left : (rows : List ℕ) (m : Machine) (e : Event) → ltb (short rows m e) 4 ≡ false → Enough m.state.k (ask_facts (facts_of e) (shows rows m).lists (rule_of rows))
unfolding shortest
enough_left rows m e g v h = unfold most in ltb-false (most m.state.k) (length (ask_facts (facts_of e) (shows rows m).lists (rule_of rows) v)) (first_none 4 f v less)
  where
    f : ℕ → Bool
    f w = ltb (most m.state.k) (length (ask_facts (facts_of e) (shows rows m).lists (rule_of rows) w))

    less : v < first_below 4 f
    less = let t = ltb-false (first_below 4 f) 4 g in omega arith

-- a right rule has a row
pub some_rows : (rows : List ℕ) → check_rows rows ≡ right → 0 < length (rule_of rows)
unfolding rule_of
some_rows rows cr = let c = (checked rows cr).some in let l = rows_length rows (count_of_rows rows) in omega arith

-- the diagrams shown are those of the references
trees_are : (rows : List ℕ) (m : Machine) → (shows rows m).trees ≡ diagrams m.nodes m.state.kept m.state.refs (length (rule_of rows))
unfolding shows read
trees_are rows m = refl

-- the diagrams are well kept, and the sizes are theirs
abbrev pub keeps : List ℕ → Machine → Bool
keeps rows m =
    well_kept (free_level m.state.k (rule_of rows)) (capacity m.nodes) (length (rule_of rows)) m.state.refs m.state.kept m.nodes
    && sizes_right m.state.sizes (diagrams m.nodes m.state.kept m.state.refs (length (rule_of rows)))

module _ (rows : List ℕ) (m : Machine) (e : Event) (kr : k_right m.state.k ≡ true) (cr : check_rows rows ≡ right) (ls : lengths rows m e ≡ true)
    (masks : List ℕ) (free : Free rows masks) where
  whole : length m.nodes ≡ 3 * (length m.nodes / 3)
  unfolding nodes_right
  whole =
      let none : length m.nodes % 3 ≡ 0 = eqb-true (length m.nodes % 3) 0 (and_true_l (eqb (length m.nodes % 3) 0) _ (and_true_l (nodes_right m.nodes) _ ls)) in
      omega arith

  -- the numbers and lengths are ones that a step can work with
  fit : fits m.state.k (length (rule_of rows)) (length m.nodes) (length m.work) ≡ true
  unfolding fits k_right nodes_right capacity work_size
  fit =
      let C : ℕ = length m.nodes / 3 in
      let thirds : Bool = eqb (length m.nodes % 3) 0 in
      let size : Bool = ltb 0 C && leb C 4096 in
      let nr = and_true_l (thirds && size) _ ls in
      let sz = and_true_r thirds size nr in
      let rest = and_true_r (thirds && size) _ ls in
      and_true _ _
      (and_true _ _ (le-leb 1 m.state.k (positive rows m.state.k C kr cr)) (and_true_r (ltb 0 m.state.k) (leb m.state.k 10) kr))
      (and_true _ _ (and_true _ _ (le-leb 1 (length (rule_of rows)) (some_rows rows cr)) (le-leb (length (rule_of rows)) 64 (few rows m.state.k C kr cr)))
      (and_true _ _ (eq-eqb (length m.nodes) (3 * C) whole)
      (and_true _ _ (and_true _ _ (le-leb 1 C (ltb-true 0 C (and_true_l (ltb 0 C) (leb C 4096) sz))) (and_true_r (ltb 0 C) (leb C 4096) sz)) (and_true_r (values_right m.state.k m.values) (leb (16 * C + 1024) (length m.work)) rest))))

  -- the check alone
  pub formed_told : formed_outcome m.state.k (length (rule_of rows)) masks m.state.refs m.state.sizes m.state.kept m.nodes m.work
      ≡ judge_formed true (keeps rows m) (capacity m.nodes) m.work
  unfolding formed_outcome capacity
  formed_told = rw (fit, kept_by_masks rows cr masks free m.state.k (length m.nodes / 3) m.state.refs m.state.kept m.nodes)

  -- a step on diagrams that are not well kept, or with sizes that are not theirs
  pub step_bad : (plan : List Task) → keeps rows m ≡ false
      → step_outcome m.state.k (length (rule_of rows)) plan masks m.state.refs m.state.sizes m.state.kept m.nodes m.work
      ≡ judge true false m.state.refs m.state.sizes m.nodes m.work (step_outcome m.state.k (length (rule_of rows)) plan masks m.state.refs m.state.sizes m.state.kept m.nodes m.work)
  unfolding step_outcome capacity
  step_bad plan h = rw (fit, kept_by_masks rows cr masks free m.state.k (length m.nodes / 3) m.state.refs m.state.kept m.nodes, h)

  -- a step on a well-formed state, where no variable is short
  module _ (arrays : Arrays m) (wf : formed rows m e ≡ true) (left : ltb (short rows m e) 4 ≡ false) (plan : List Task)
      (planned : (i : ℕ) → i < length (rule_of rows) → get_or plan i (does Yes) ≡ task_of (ask_facts (facts_of e) (shows rows m).lists (rule_of rows)) (facts_of e) (get_or (rule_of rows) i truth)) where
    pub step_works : step_outcome m.state.k (length (rule_of rows)) plan masks m.state.refs m.state.sizes m.state.kept m.nodes m.work
        ≡ worked_outcome (fitting rows m e) m.state.k (capacity m.nodes) (rule_of rows) (shows rows m) (facts_of e) (step m.state.k (rule_of rows) (shows rows m) (facts_of e)) m.state.refs m.state.sizes m.nodes m.work
    unfolding step_outcome capacity
    step_works =
        let C : ℕ = length m.nodes / 3 in
        let p = (laid_formed rows m arrays kr cr ls wf).proper in
        let w = kept_is m.state.k C (rule_of rows) m.state m.nodes m.values wf in
        let kept : well_kept (free_level m.state.k (rule_of rows)) C (length (rule_of rows)) m.state.refs m.state.kept m.nodes ≡ true =
        of_kept (free_level m.state.k (rule_of rows)) C (length (rule_of rows)) m.state.refs m.state.kept m.nodes w in
        let sized : sizes_right m.state.sizes (diagrams m.nodes m.state.kept m.state.refs (length (rule_of rows))) ≡ true =
        sizes_right_law m.state.sizes _ (sizes_are m.state.k C (rule_of rows) m.state m.nodes m.values wf) in
        rw (fit, kept_by_masks rows cr masks free m.state.k C m.state.refs m.state.kept m.nodes, kept, sized)
        (plan_work m.state.k C (positive rows m.state.k C kr cr) (rule_of rows) (checked rows cr).rows (shows rows m) (facts_of e) p.fine p.distinct (enough_left rows m e left) plan planned
        m.state.refs m.state.sizes m.nodes m.work m.state.kept (few rows m.state.k C kr cr) whole refl (trees_are rows m) (rw (trees_are rows m) w.order))

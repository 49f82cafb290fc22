-- Any well-formed state: the functions shown go to those that one step of the meaning gives, and the new state is well formed.
-- What tables show determines them. Assumes nothing.
use Prim.Native.Nat.{ℕ, zero, suc, ◌+◌, ◌-◌, ◌*◌, ◌/◌, ◌%◌, ◌<◌}
use mathlib.Core.Path.{◌≡◌, refl, ap, ap₂, sym, ◌∙◌}
use mathlib.Core.Bool.{Bool, true, false, ◌&&◌}
use mathlib.Core.List.{List, [], ◌∷◌, ◌++◌}
use native.Mathlib.Omega.{arith}
use lib.Dec.{eqb, ltb, leb}
use lib.ListN.{length, get_or, length-append}
use lib.Seq.{ext_get_or, get_or-append_seam}
use borrow.Author.Tests.{eqb-true}
use Rattle.trees.specs.Bits.{Bits, Function, Same}
use Rattle.trees.specs.Tree.{Tree, off, on, node, eval, is_on}
use Rattle.trees.specs.Kept.{levels}
use Rattle.trees.proofs.Tests.{false_true, and_true_l, and_true_r}
use Rattle.trees.proofs.BitsLaws.{drops_same}
use Rattle.trees.proofs.TreeLaws.{canon, fine_off}
use Rattle.meaning.specs.declared.Event.{Event}
use Rattle.meaning.specs.declared.Answer.TheVariants.{Verdict}
use Rattle.meaning.specs.Qtl.{Fact}
use Rattle.meaning.specs.Rows.{Row, truth, atom, both, neg, since, previous, exists, rule_of, right, check_rows}
use Rattle.meaning.specs.Numbering.{Lists, ask_facts}
use Rattle.meaning.specs.Step.{row_says, says_at, row_tree, row_trees, Shown, step, OneStep}
use Rattle.meaning.specs.Tables.{most, read, free_level, lay_state, lay_nodes, lay_values, well_formed}
use Rattle.meaning.specs.Outcome.{k_right, capacity, nodes_right, values_right, work_size, cleared, facts_of, taken, Machine, Arrays, WellFormed, shows, decide_event, settle_event, event_outcome}
use Rattle.meaning.specs.Verdicts.{Sized, Stepped}
use Rattle.meaning.proofs.RowsLaws.{RowOk, RowsOk, checked}
use Rattle.meaning.proofs.StepLaws.{AllFine, fine_snoc, fine_row, eval_row, trees_keep}
use Rattle.meaning.proofs.ProperLaws.{Proper, Shaped, proper_read, lay_nodes_law, lay_state_law, lay_values_law}
use Rattle.meaning.proofs.RunLaws.{start_taken, event_taken, positive, few, Laid, k_is, C-is, shows_is, formed_is, laid_on}
use Rattle.meaning.proofs.SizedLaws.{sized_of}
use Rattle.meaning.proofs.AnswerLaws.{verdict_taken, verdict_parts, counts_of, last_row, closed_all}

-- a row reads the functions of earlier rows only
row_now : (k : ℕ) (L : Lists) (es : List Fact) (old now new : ℕ → Function) (i n : ℕ) (r : Row) → RowOk n r → ((j : ℕ) → j < n → Same (now j) (new j))
    → Same (row_says k L es old now i r) (row_says k L es old new i r)
unfolding row_says
row_now k L es old now new i n truth o h s = refl
row_now k L es old now new i n (atom p gs) o h s = refl
row_now k L es old now new i n (both a b) o h s = rw (h a o.0 s, h b o.1 s)
row_now k L es old now new i n (neg a) o h s = rw (h a o s)
row_now k L es old now new i n (since a b) o h s = rw (h a o.0 s, h b o.1 s)
row_now k L es old now new i n (previous a) o h s = refl
row_now k L es old now new i n (exists x a) o h s = drops_same (x * k) k (now a) (new a) (h a o.1) s

-- each diagram after the event says what its row says of those before and after
module _ (k : ℕ) (L : Lists) (es : List Fact) (old : List Tree) (wold : AllFine (4 * k) old) where
  trees_say : (rs : List Row) (ts : List Tree) → RowsOk (length ts) rs → AllFine (4 * k) ts → (i : ℕ) → i < length rs
      → Same (says_at (row_trees k L es old ts rs) (length ts + i)) (row_says k L es (says_at old) (says_at (row_trees k L es old ts rs)) (length ts + i) (get_or rs i truth))
  unfolding row_trees says_at
  trees_say [] ts o w i h s = absurd (omega arith)
  trees_say (r ∷ rs) ts o w zero h s =
      let t : Tree = row_tree k L es old ts r in
      let m : length (ts ++ t ∷ []) ≡ suc (length ts) = length-append ts (t ∷ []) ∙ omega arith in
      let z : length ts + 0 ≡ length ts = omega arith in
      let here : get_or (row_trees k L es old (ts ++ t ∷ []) rs) (length ts) off ≡ t =
      trees_keep k L es old wold rs (ts ++ t ∷ []) (length ts) (omega arith) ∙ get_or-append_seam ts t [] off in
      rw (z, here)
      (eval_row k L es old wold ts r (length ts) w o.0 s
      ∙ row_now k L es (says_at old) (says_at ts) (says_at (row_trees k L es old (ts ++ t ∷ []) rs)) (length ts) (length ts) r o.0
      (λ j q u. ap (λ (d : Tree). eval d u) (sym (trees_keep k L es old wold (r ∷ rs) ts j q))) s)
  trees_say (r ∷ rs) ts o w (suc i) h s =
      let t : Tree = row_tree k L es old ts r in
      let m : length (ts ++ t ∷ []) ≡ suc (length ts) = length-append ts (t ∷ []) ∙ omega arith in
      let z : length ts + suc i ≡ length (ts ++ t ∷ []) + i = omega arith in
      rw z (trees_say rs (ts ++ t ∷ []) (rw m o.1) (fine_snoc (4 * k) ts t w (fine_row k L es old wold ts r)) i (omega arith) s)

-- the step of the definitions is one step of the meaning
pub one_step : (k C : ℕ) (rule : List Row) (s : Shown) (es : List Fact) → RowsOk 0 rule → Proper k C rule s → OneStep k rule s es (step k rule s es)
unfolding step
one_step k C rule s es o p = record {
  lists_are = refl;
  rows_say = λ i h b.
      let z : 0 + i ≡ i = omega arith in
      rw z at (trees_say k (ask_facts es s.lists rule) es s.trees p.fine rule [] o (λ j. fine_off 0 (4 * k)) i h b);
}

-- a state that passes the tests of 1 to 4
module _ (rows : List ℕ) (m : Machine) (arrays : Arrays m) (kr : k_right m.state.k ≡ true) (cr : check_rows rows ≡ right)
    (lengths : (nodes_right m.nodes && (values_right m.state.k m.values && leb (work_size (capacity m.nodes)) (length m.work))) ≡ true)
    (formed : well_formed m.state.k (capacity m.nodes) (rule_of rows) m.state m.nodes m.values ≡ true) where
  shaped : Shaped m.state.k (capacity m.nodes) m.state m.nodes m.values
  unfolding nodes_right values_right capacity
  shaped =
      let nr : Bool = eqb (length m.nodes % 3) 0 && (ltb 0 (length m.nodes / 3) && leb (length m.nodes / 3) 4096) in
      let vr : Bool = eqb (length m.values) (4 * most m.state.k) in
      let wr : Bool = leb (work_size (length m.nodes / 3)) (length m.work) in
      let a : length m.nodes % 3 ≡ 0 = eqb-true (length m.nodes % 3) 0 (and_true_l (eqb (length m.nodes % 3) 0) (ltb 0 (length m.nodes / 3) && leb (length m.nodes / 3) 4096) (and_true_l nr (vr && wr) lengths)) in
      record {
        counts = arrays.0;
        refs = arrays.1;
        nodes_are = omega arith;
        values_are = eqb-true (length m.values) (4 * most m.state.k) (and_true_l vr wr (and_true_r nr (vr && wr) lengths));
      }

  -- the state and the tables are the layout of what they show
  pub laid_formed : Laid rows m.state.k (capacity m.nodes) kr cr m (shows rows m)
  unfolding shows read
  laid_formed =
      let pos = positive rows m.state.k (capacity m.nodes) kr cr in
      let lt = few rows m.state.k (capacity m.nodes) kr cr in
      let ok = (checked rows cr).rows in
      record {
        state_is = sym (lay_state_law m.state.k (capacity m.nodes) (rule_of rows) m.state m.nodes m.values pos lt ok shaped formed refl);
        nodes_are = sym (lay_nodes_law m.state.k (capacity m.nodes) (rule_of rows) m.state m.nodes m.values pos lt ok shaped formed);
        values_are = sym (lay_values_law m.state.k (capacity m.nodes) (rule_of rows) m.state m.nodes m.values pos lt ok shaped formed);
        proper = proper_read m.state.k (capacity m.nodes) (rule_of rows) m.state m.nodes m.values pos lt ok shaped formed;
      }

module _ (rows : List ℕ) (m : Machine) (e : Event) (arrays : Arrays m) (d : decide_event rows m e ≡ taken) where
  -- the tests that were passed
  pub passed : (k_right m.state.k ≡ true) × (check_rows rows ≡ right)
      × ((nodes_right m.nodes && (values_right m.state.k m.values && leb (work_size (capacity m.nodes)) (length m.work))) ≡ true)
      × (well_formed m.state.k (capacity m.nodes) (rule_of rows) m.state m.nodes m.values ≡ true)
  unfolding decide_event
  passed = let t = event_taken _ _ _ _ _ _ d in let u = start_taken _ _ _ t.0 in (u.0, u.1, u.2, t.1)

  pub laid_of : Laid rows m.state.k (capacity m.nodes) passed.0 passed.1 m (shows rows m)
  laid_of = laid_formed rows m arrays passed.0 passed.1 passed.2 passed.3

  left_laid : Laid rows m.state.k (capacity m.nodes) passed.0 passed.1 (event_outcome rows m e).left (step m.state.k (rule_of rows) (shows rows m) (facts_of e))
  left_laid = laid_on rows m.state.k (capacity m.nodes) passed.0 passed.1 m (shows rows m) laid_of e d

  -- the functions shown go to those that one step of the meaning gives
  pub any_step : OneStep m.state.k (rule_of rows) (shows rows m) (facts_of e) (shows rows (event_outcome rows m e).left)
  any_step =
      rw (shows_is rows m.state.k (capacity m.nodes) passed.0 passed.1 (event_outcome rows m e).left _ left_laid)
      (one_step m.state.k (capacity m.nodes) (rule_of rows) (shows rows m) (facts_of e) (checked rows passed.1).rows laid_of.proper)

  -- the new state is well formed
  pub any_formed : let n = (event_outcome rows m e).left in well_formed n.state.k (capacity n.nodes) (rule_of rows) n.state n.nodes n.values ≡ true
  any_formed = formed_is rows m.state.k (capacity m.nodes) passed.0 passed.1 (event_outcome rows m e).left _ left_laid

-- the diagram of a row without free variables is a leaf
leaf : (p : ℕ → Bool) → ((l : ℕ) → p l ≡ false) → (t : Tree) → levels p t ≡ true → (s : Bits) → eval t s ≡ is_on t
unfolding levels eval is_on
leaf p none off h s = refl
leaf p none on h s = refl
leaf p none (node l a b) h s = absurd (false_true (none l) (and_true_l (p l) (levels p a && levels p b) h))

-- the work slice after an event that was taken
pub work_left : (rows : List ℕ) (m : Machine) (e : Event) → decide_event rows m e ≡ taken → (event_outcome rows m e).left.work ≡ cleared (capacity m.nodes) m.work
unfolding event_outcome settle_event
work_left rows m e d = rw d refl

-- what a verdict says of any well-formed state
module _ (rows : List ℕ) (m : Machine) (e : Event) (arrays : Arrays m) (y : Bool) (n r : ℕ) (q : (event_outcome rows m e).answer ≡ Verdict y n r) where
  d : decide_event rows m e ≡ taken
  d = verdict_taken rows m e y n r q

  abbrev left : Machine
  left = (event_outcome rows m e).left

  after : shows rows left ≡ step m.state.k (rule_of rows) (shows rows m) (facts_of e)
  after = shows_is rows m.state.k (capacity m.nodes) (passed rows m e arrays d).0 (passed rows m e arrays d).1 left _ (left_laid rows m e arrays d)

  k_left : left.state.k ≡ m.state.k
  k_left = k_is rows m.state.k (capacity m.nodes) (passed rows m e arrays d).0 (passed rows m e arrays d).1 left _ (left_laid rows m e arrays d)

  C-left : capacity left.nodes ≡ capacity m.nodes
  C-left = C-is rows m.state.k (capacity m.nodes) (passed rows m e arrays d).0 (passed rows m e arrays d).1 left _ (left_laid rows m e arrays d)

  last : ℕ
  last = length (rule_of rows) - 1

  says : (s : Bits) → eval (get_or (shows rows left).trees (length (rule_of rows) - 1) off) s ≡ y
  unfolding last free_level
  says s =
      let cr = (passed rows m e arrays d).1 in
      let p = verdict_parts rows m.state.k (capacity m.nodes) (passed rows m e arrays d).0 cr m (shows rows m) (laid_of rows m e arrays d) e y n r d q in
      rw after
      (leaf (free_level m.state.k (rule_of rows) last) (λ l. closed_all rows cr (l / m.state.k)) (get_or (step m.state.k (rule_of rows) (shows rows m) (facts_of e)).trees last off)
      ((left_laid rows m e arrays d).proper.free last (last_row rows cr)) s
      ∙ p.0)

  pub stepped : Stepped rows m e y n r left
  stepped = record {
    step = any_step rows m e arrays d;
    formed = rw (k_left, C-left) at (any_formed rows m e arrays d);
    k_stays = k_left;
    C-stays = C-left;
    verdict = says;
    counts = counts_of rows m.state.k (capacity m.nodes) (passed rows m e arrays d).0 (passed rows m e arrays d).1 m (shows rows m) (laid_of rows m e arrays d) e y n r q;
    sizes = sized_of rows m.state.k (capacity m.nodes) (passed rows m e arrays d).0 (passed rows m e arrays d).1 left _ (left_laid rows m e arrays d);
    work = work_left rows m e d;
  }

-- the sizes of a well-formed state are true
pub sizes_true : (rows : List ℕ) (m : Machine) → WellFormed rows m → Sized rows m
sizes_true rows m p =
    sized_of rows m.state.k (capacity m.nodes) p.k_is_right p.rows_right m (shows rows m) (laid_formed rows m p.arrays p.k_is_right p.rows_right p.lengths p.formed)

-- two well-formed states that show the same lists and functions are the same numbers
module _ (rows : List ℕ) (m n : Machine) (p : WellFormed rows m) (q : WellFormed rows n) where
  laid_m : Laid rows m.state.k (capacity m.nodes) p.k_is_right p.rows_right m (shows rows m)
  laid_m = laid_formed rows m p.arrays p.k_is_right p.rows_right p.lengths p.formed

  laid_n : Laid rows n.state.k (capacity n.nodes) q.k_is_right q.rows_right n (shows rows n)
  laid_n = laid_formed rows n q.arrays q.k_is_right q.rows_right q.lengths q.formed

  pub one_tables : m.state.k ≡ n.state.k → capacity m.nodes ≡ capacity n.nodes → (shows rows m).lists ≡ (shows rows n).lists
      → ((i : ℕ) → i < length (rule_of rows) → Same (says_at (shows rows m).trees i) (says_at (shows rows n).trees i))
      → (m.state ≡ n.state) × (m.nodes ≡ n.nodes) × (m.values ≡ n.values)
  unfolding says_at
  one_tables k C l f =
      let trees : (shows rows m).trees ≡ (shows rows n).trees = ext_get_or off (shows rows m).trees (shows rows n).trees (laid_m.proper.count ∙ sym laid_n.proper.count)
      (λ i h. canon (4 * m.state.k) (get_or (shows rows m).trees i off) (get_or (shows rows n).trees i off) (laid_m.proper.fine i) (rw k (laid_n.proper.fine i)) (f i (rw laid_m.proper.count at h))) in
      let same : shows rows m ≡ shows rows n = λ i. record { lists = l i; trees = trees i } in (
        laid_m.state_is ∙ ap₂ lay_state k same ∙ sym laid_n.state_is,
        laid_m.nodes_are ∙ ap₂ lay_nodes C same ∙ sym laid_n.nodes_are,
        laid_m.values_are ∙ ap₂ (λ (j : ℕ) (x : Shown). lay_values j x.lists) k same ∙ sym laid_n.values_are,
      )

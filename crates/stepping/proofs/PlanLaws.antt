-- The rows worked one after the other. Assumes nothing.
use Prim.Native.Nat.{ℕ, zero, suc, ◌+◌, ◌*◌, ◌/◌, ◌≤◌, ◌<◌}
use mathlib.Core.Path.{◌≡◌, refl, sym, ap, ◌∙◌, fun_ext}
use mathlib.Core.List.{List, [], ◌∷◌, ◌++◌, map}
use mathlib.Core.Logic.{⊎_elim}
use native.Mathlib.Nat.{eq-or-lt_of_le}
use native.Mathlib.Decide.{ℕ_discrete}
use native.Mathlib.Omega.{arith}
use native.Mathlib.Numerals.{add-one}
use lib.ListN.{length, get_or, set, take, replicate, length-append, length-set, length-map, get_or-append, get_or-map, get_or-eq_default}
use lib.Seq.{get_or-append_seam, get_or-set_same, get_or-set_other, get_or-take, length-take-le}
use Rattle.trees.specs.Bits.{Function}
use Rattle.trees.specs.Tree.{Tree, off, eval, tree_of}
use Rattle.trees.specs.Table.{add_tree, add_trees, at, ref_of, trees_of}
use Rattle.trees.specs.Kept.{diagrams}
use Rattle.trees.proofs.Tests.{lt_or_ge}
use Rattle.trees.proofs.FunctionLaws.{fine_of}
use Rattle.trees.proofs.TableLaws.{Goes, goes_refl, goes_trans, goes_at, goes_length, adds_goes}
use Rattle.trees.proofs.ReadLaws.{length_trees, ref_is}
use Rattle.trees.proofs.CanonicalLaws.{zeros_at}
use Rattle.diagram.specs.declared.Instruction.TheVariants.{Yes}
use Rattle.walks.specs.Walks.{Within}
use Rattle.walks.specs.Desks.{Desk}
use Rattle.diagram.specs.Steps.{Task, does, says, task_says, task_stages, with_row, new_trees, stages}
use Rattle.diagram.specs.Works.{Leads, led, Reached, Short, Are, TolledBy, Fresh, Through}
use Rattle.making.proofs.WalkLaws.{front_trans}
use Rattle.walks.proofs.CallLaws.{within_all}
use Rattle.diagram.proofs.RemovalLaws.{within_fine}
use Rattle.diagram.proofs.RowLaws.{within_no}
use Rattle.stepping.proofs.TallyLaws.{holds, tally_none, tally_more}

-- diagrams added one list after the other
pub adds_append : (ts ds es : List Tree) → add_trees ts (ds ++ es) ≡ add_trees (add_trees ts ds) es
unfolding add_trees
adds_append ts [] es = refl
adds_append ts (d ∷ ds) es = adds_append (add_tree ts d) ds es

-- a map over two lists
pub map_append : (f : Function → Tree) (xs ys : List Function) → map f (xs ++ ys) ≡ map f xs ++ map f ys
map_append f [] ys = refl
map_append f (x ∷ xs) ys = ap (λ (ds : List Tree). f x ∷ ds) (map_append f xs ys)

-- as many diagrams as rows
pub length_new : (k : ℕ) (plan : List Task) (old : List Tree) (i : ℕ) → length (new_trees k plan old i) ≡ i
unfolding new_trees with_row
length_new k plan old zero = refl
length_new k plan old (suc i) = length-append (new_trees k plan old i) _ ∙ rw (length_new k plan old i) (add-one i)

-- the references of well kept rows lead to their diagrams, and to no past them
pub old_are : (ns : List ℕ) (kept : ℕ) (refs : List ℕ) (count : ℕ) → count ≤ length refs → ((a : ℕ) → count ≤ a → get_or refs a 0 ≡ 0)
    → Are ns kept refs (diagrams ns kept refs count)
unfolding diagrams at
old_are ns kept refs count long none a = ⊎_elim
    (λ h. sym (get_or-map (at (trees_of ns kept)) (take count refs) a 0 ∙ ap (at (trees_of ns kept)) (get_or-take count refs a 0 h)))
    (λ h. rw (none a h) (sym (get_or-eq_default (map (at (trees_of ns kept)) (take count refs)) off (rw (length-map, length-take-le count refs long) h))))
    (lt_or_ge a count)

module _ (k : ℕ) (plan : List Task) (old : List Tree) where
  -- the table after the functions met in the first i rows
  abbrev pub table_at : List Tree → ℕ → List Tree
  table_at ts i = add_trees ts (map (tree_of (4 * k)) (stages k plan old i))

  -- one row more
  pub table_suc : (ts : List Tree) (i : ℕ)
      → table_at ts (suc i) ≡ add_trees (table_at ts i) (map (tree_of (4 * k)) (task_stages k (says old) (says (new_trees k plan old i)) i (get_or plan i (does Yes))))
  unfolding stages
  table_suc ts i = rw (map_append (tree_of (4 * k)) (stages k plan old i)) (adds_append ts _ _)

  -- the table goes on
  pub table_goes : (ts : List Tree) (i n : ℕ) → i ≤ n → Goes (table_at ts i) (table_at ts n)
  table_goes ts i zero h = let e : i ≡ 0 = omega arith in rw e (goes_refl _)
  table_goes ts i (suc n) h = ⊎_elim
      (λ e. rw e (goes_refl _))
      (λ l. goes_trans (table_goes ts i n (omega arith)) (rw (table_suc ts n) (adds_goes _ (table_at ts n))))
      (eq-or-lt_of_le h)

  module _ (ns₀ : List ℕ) (kept : ℕ) where
    -- no row is worked yet
    pub through_none : (w : List ℕ) (c slots : ℕ) (olds : List ℕ) → Desk ns₀ kept (4 * k) w c slots → Leads ns₀ kept (4 * k) olds → Are ns₀ kept olds old → Fresh ns₀ kept w c
        → Through k plan old ns₀ kept ns₀ kept w c slots olds (replicate 64 0) 0 0
    unfolding stages new_trees add_trees at
    through_none w c slots olds d l are z = record {
      desk = d;
      size = refl;
      same = record { eq = λ i h. refl };
      behind = z.behind;
      trees = refl;
      old_lead = l;
      old_are = are;
      new_lead = record { wide = refl; each = λ a. rw (zeros_at 64 a) (within_no ns₀ kept (4 * k)) };
      new_are = λ a. rw (zeros_at 64 a);
      none = λ a h. zeros_at 64 a;
      tally = let third : length ns₀ / 3 ≡ c = omega (arith, d.shelf.size) in rw z.map (rw third at (tally_none (length ns₀) k plan old (trees_of ns₀ kept)));
    }

    module _ {ns : List ℕ} {n : ℕ} {w : List ℕ} {c slots : ℕ} {olds news : List ℕ} {i v : ℕ} (t : Through k plan old ns₀ kept ns n w c slots olds news i v) where
      -- the functions that the references lead to
      old_says : led ns n olds ≡ says old
      unfolding led says
      old_says = fun_ext (λ a. ap eval (t.old_are a))

      new_says : led ns n news ≡ says (new_trees k plan old i)
      unfolding led says
      new_says = fun_ext (λ a. ap eval (t.new_are a))

      -- the table only grows
      grows : kept ≤ n
      grows =
          let g = goes_length (adds_goes (map (tree_of (4 * k)) (stages k plan old i)) (trees_of ns₀ kept)) in
          omega (arith, length_trees ns₀ kept, length_trees ns n, ap length t.trees)

      -- the table of one row more
      met : add_trees (trees_of ns n) (map (tree_of (4 * k)) (task_stages k (led ns n olds) (led ns n news) i (get_or plan i (does Yes)))) ≡ table_at (trees_of ns₀ kept) (suc i)
      met = rw (old_says, new_says, t.trees) (sym (table_suc (trees_of ns₀ kept) i))

      -- there is no room for the row, so there is none for all
      pub through_short : {ns' : List ℕ} (count : ℕ) → i < count → Short (4 * k) ns ns' n (task_stages k (led ns n olds) (led ns n news) i (get_or plan i (does Yes)))
          → Short (4 * k) ns₀ ns' kept (stages k plan old count)
      through_short count h s =
          let far = goes_length (table_goes (trees_of ns₀ kept) (suc i) count (omega arith)) in
          let m = grows in
          record {
            over = omega (arith, far, rw met at s.over, t.size);
            size = s.size ∙ t.size;
            same = front_trans t.same s.same (omega arith);
          }

      module _ {ns' : List ℕ} {n' r : ℕ}
          (g : Reached (4 * k) ns ns' n n' r (task_stages k (led ns n olds) (led ns n news) i (get_or plan i (does Yes))) (task_says k (led ns n olds) (led ns n news) i (get_or plan i (does Yes))))
          (small : i < 64) where
        goes : Goes (trees_of ns n) (trees_of ns' n')
        goes = rw g.trees (adds_goes _ (trees_of ns n))

        -- references of before lead where they did
        stay : (q : ℕ) → q < n + 2 → at (trees_of ns' n') q ≡ at (trees_of ns n) q
        stay q h = goes_at goes q (omega (arith, length_trees ns n))

        lead_stay : (q : ℕ) → Within ns n (4 * k) (4 * k) q → Within ns' n' (4 * k) (4 * k) q
        lead_stay q h =
            let b = h.below in
            let m = goes_length goes in
            within_all ns' n' (4 * k) q (omega (arith, length_trees ns n, length_trees ns' n')) (rw (stay q b) (within_fine h))

        -- the new reference leads to the row's diagram
        own : at (trees_of ns' n') r ≡ tree_of (4 * k) (task_says k (says old) (says (new_trees k plan old i)) i (get_or plan i (does Yes)))
        own = rw (← old_says, ← new_says) g.ref.is

        -- the diagrams of one row more
        row_are : Are ns' n' (set news i r) (new_trees k plan old (suc i))
        unfolding new_trees with_row at
        row_are a = ⊎_elim
            (λ h.
            rw (get_or-set_other news i a r 0 (λ e. omega arith), stay (get_or news a 0) (t.new_lead.each a).below, get_or-append (new_trees k plan old i) (tree_of (4 * k) (task_says k (says old) (says (new_trees k plan old i)) i (get_or plan i (does Yes))) ∷ []) off a (omega (arith, length_new k plan old i)))
            (t.new_are a))
            (λ h. ⊎_elim (λ e. here (sym e)) past (eq-or-lt_of_le h))
            (lt_or_ge a i)
          where
            here : a ≡ i → at (trees_of ns' n') (get_or (set news i r) a 0) ≡ get_or (new_trees k plan old i ++ tree_of (4 * k) (task_says k (says old) (says (new_trees k plan old i)) i (get_or plan i (does Yes))) ∷ []) a off
            here e =
                let z : a ≡ length (new_trees k plan old i) = e ∙ sym (length_new k plan old i) in
                rw (e, get_or-set_same news i r 0 (omega (arith, t.new_lead.wide)), own) (sym (ap (λ (x : ℕ). get_or (new_trees k plan old i ++ tree_of (4 * k) (task_says k (says old) (says (new_trees k plan old i)) i (get_or plan i (does Yes))) ∷ []) x off) (sym e ∙ z) ∙ get_or-append_seam (new_trees k plan old i) _ [] off))

            past : i < a → at (trees_of ns' n') (get_or (set news i r) a 0) ≡ get_or (new_trees k plan old i ++ tree_of (4 * k) (task_says k (says old) (says (new_trees k plan old i)) i (get_or plan i (does Yes))) ∷ []) a off
            past h =
                rw (get_or-set_other news i a r 0 (λ e. omega arith), t.none a (omega arith))
                (sym (get_or-eq_default (new_trees k plan old i ++ _ ∷ []) off (omega (arith, length-append (new_trees k plan old i) (tree_of (4 * k) (task_says k (says old) (says (new_trees k plan old i)) i (get_or plan i (does Yes))) ∷ []), length_new k plan old i))))

        -- one row more is worked
        pub through_more : {w' : List ℕ} (u : ℕ) → Desk ns' n' (4 * k) w' c slots → TolledBy (4 * k) ns ns' n n' r news w w' c u (get_or plan i (does Yes))
            → Through k plan old ns₀ kept ns' n' w' c slots olds (set news i r) (i + 1) (v + u)
        through_more {w'} u d p =
            let m = grows in
            let more : n ≤ n' = omega (arith, goes_length goes, length_trees ns n, length_trees ns' n') in
            rw (add-one i) (record {
              desk = d;
              size = g.size ∙ t.size;
              same = front_trans t.same g.same (omega arith);
              behind = λ j h. g.rest.eq j h ∙ t.behind j (omega arith);
              trees = g.trees ∙ met;
              old_lead = record { wide = t.old_lead.wide; each = λ a. lead_stay (get_or olds a 0) (t.old_lead.each a) };
              old_are = λ a. stay (get_or olds a 0) (t.old_lead.each a).below ∙ t.old_are a;
              new_lead = record { wide = length-set news i r ∙ t.new_lead.wide; each = λ a. new_leads a };
              new_are = row_are;
              none = λ a h. get_or-set_other news i a r 0 (λ e. omega arith) ∙ t.none a (omega arith);
              tally = tally_more ns n c w t.tally ns' n' r news w' u (sym (rw (old_says, new_says) at g.trees)) (rw t.size at (holds t.desk.shelf.table t.behind)) reads p;
            })
          where
            -- the references of the rows so far are those of their diagrams
            reads : (a : ℕ) → (get_or news a 0 ≡ ref_of (trees_of ns n) (get_or (new_trees k plan old i) a off)) × (at (trees_of ns n) (get_or news a 0) ≡ get_or (new_trees k plan old i) a off)
            reads a =
                let b = (t.new_lead.each a).below in
                (ref_is ns n (get_or news a 0) _ t.desk.shelf.table.one (record { below = omega (arith, length_trees ns n); is = t.new_are a }), t.new_are a)

            new_leads : (a : ℕ) → Within ns' n' (4 * k) (4 * k) (get_or (set news i r) a 0)
            new_leads a = elim (ℕ_discrete a i) [
              | yes e ↦ rw (e, get_or-set_same news i r 0 (omega (arith, t.new_lead.wide))) (within_all ns' n' (4 * k) r g.ref.below (rw g.ref.is (fine_of (4 * k) _)))
              | no e ↦ rw (get_or-set_other news i a r 0 e) (lead_stay (get_or news a 0) (t.new_lead.each a))
            ]

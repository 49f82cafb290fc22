-- What the work of a row meets is what the room counts of it. Assumes nothing.
use Prim.Native.Nat.{ℕ, zero, suc, ◌+◌, ◌-◌, ◌*◌, ◌<◌}
use mathlib.Core.Path.{◌≡◌, refl, ap, ap₂, sym, subst, ◌∙◌, fun_ext}
use mathlib.Core.Bool.{false}
use mathlib.Core.List.{List, [], ◌∷◌, ◌++◌, map, append_assoc, map-append}
use mathlib.Core.Logic.{◌⊎◌, inl, inr, ⊎_elim}
use native.Mathlib.Omega.{arith}
use lib.ListN.{length, get_or}
use Rattle.trees.specs.Bits.{Function, drop, drops}
use Rattle.trees.specs.Tree.{Tree, off, eval, tree_of}
use Rattle.trees.proofs.TreeLaws.{fine_off}
use Rattle.trees.proofs.FunctionLaws.{tree_one}
use Rattle.meaning.specs.Qtl.{Argument, Fact}
use Rattle.meaning.specs.Rows.{Row, truth, atom, both, neg, since, previous, exists}
use Rattle.meaning.specs.Numbering.{Lists}
use Rattle.meaning.specs.Step.{says_at, removals, removed, turns, atom_turns}
use Rattle.meaning.proofs.RowsLaws.{ArgumentsOk, RowOk}
use Rattle.meaning.proofs.AskingLaws.{DistinctL, Covered, CoveredBy}
use Rattle.meaning.proofs.Simulation.{Enough}
use Rattle.diagram.specs.Steps.{Turn, turns_say, turn_stages, instruction_says, task_says, drop_stages, stages_of, task_stages}
use Rattle.instructions.specs.Plan.{turn_of, task_of}
use Rattle.instructions.proofs.PlanLaws.{turns_say_law}
use Rattle.instructions.proofs.InLaws.{In, in_l, in_r, in_split}

-- both layers remove bits alike
pub stages_removals : (base n : ℕ) (g : Function) → drop_stages base n g ≡ removals base n g
unfolding drop_stages removals
stages_removals base zero g = refl
stages_removals base (suc n) g = ap (λ (fs : List Function). drop (base + n) g ∷ fs) (stages_removals base n (drop (base + n) g))

-- the last of the functions met is that without the bits
pub drops_in : (m base n : ℕ) (g : Function) → In m (tree_of m (drops base (suc n) g)) (drop_stages base (suc n) g)
unfolding drops drop_stages
drops_in m base zero g = inl refl
drops_in m base (suc n) g = inr (drops_in m base n (drop (base + suc n) g))

-- what each row adds to a list of functions
pub each : (Row → List Function) → List Row → List Function
each own [] = []
each own (r ∷ rs) = own r ++ each own rs

module _ (n : ℕ) (t : Tree) (own : Row → List Function) where
  pub each_in : (rs : List Row) (i : ℕ) → i < length rs → In n t (own (get_or rs i truth)) → In n t (each own rs)
  unfolding each
  each_in [] i h q = absurd (omega arith)
  each_in (r ∷ rs) zero h q = in_l n t (own r) (each own rs) q
  each_in (r ∷ rs) (suc i) h q = in_r n t (own r) (each own rs) (each_in rs i (omega arith) q)

  pub in_each : (rs : List Row) → In n t (each own rs) → (i : ℕ) × (i < length rs) × In n t (own (get_or rs i truth))
  unfolding each
  in_each [] h = absurd h
  in_each (r ∷ rs) h =
      ⊎_elim (λ q. (0, omega arith, q)) (λ q. let x = in_each rs q in (suc x.0, (let y = x.1 in omega arith), x.2)) (in_split n t (own r) (each own rs) h)

-- an exists row adds the functions met when its variable's bits are removed
pub own_removals : ℕ → List Tree → Row → List Function
own_removals k ts truth = []
own_removals k ts (atom p gs) = []
own_removals k ts (both l r) = []
own_removals k ts (neg r) = []
own_removals k ts (since l r) = []
own_removals k ts (previous r) = []
own_removals k ts (exists x a) = removals (x * k) k (says_at ts a)

pub removed_each : (k : ℕ) (ts : List Tree) (rs : List Row) → removed k ts rs ≡ each (own_removals k ts) rs
unfolding removed each own_removals
removed_each k ts [] = refl
removed_each k ts (truth ∷ rs) = removed_each k ts rs
removed_each k ts (atom p gs ∷ rs) = removed_each k ts rs
removed_each k ts (both l r ∷ rs) = removed_each k ts rs
removed_each k ts (neg r ∷ rs) = removed_each k ts rs
removed_each k ts (since l r ∷ rs) = removed_each k ts rs
removed_each k ts (previous r ∷ rs) = removed_each k ts rs
removed_each k ts (exists x a ∷ rs) = ap (λ (l : List Function). removals (x * k) k (says_at ts a) ++ l) (removed_each k ts rs)

-- an atom its function after each fact
pub own_turns : ℕ → Lists → List Fact → Row → List Function
own_turns k L es truth = []
own_turns k L es (atom p gs) = turns k L p gs [] es
own_turns k L es (both l r) = []
own_turns k L es (neg r) = []
own_turns k L es (since l r) = []
own_turns k L es (previous r) = []
own_turns k L es (exists x a) = []

pub turns_each : (k : ℕ) (L : Lists) (es : List Fact) (rs : List Row) → atom_turns k L es rs ≡ each (own_turns k L es) rs
unfolding atom_turns each own_turns
turns_each k L es [] = refl
turns_each k L es (truth ∷ rs) = turns_each k L es rs
turns_each k L es (atom p gs ∷ rs) = ap (λ (l : List Function). turns k L p gs [] es ++ l) (turns_each k L es rs)
turns_each k L es (both l r ∷ rs) = turns_each k L es rs
turns_each k L es (neg r ∷ rs) = turns_each k L es rs
turns_each k L es (since l r ∷ rs) = turns_each k L es rs
turns_each k L es (previous r ∷ rs) = turns_each k L es rs
turns_each k L es (exists x a ∷ rs) = turns_each k L es rs

-- the last turn's function is the atom's; with no turn it is no
pub last_turn : (k n : ℕ) (done ts : List Turn) → (In n (tree_of n (turns_say k (done ++ ts))) (turn_stages k done ts)) ⊎ (ts ≡ [])
unfolding turn_stages
last_turn k n done [] = inr refl
last_turn k n done (t ∷ ts) = inl (⊎_elim
    (λ q. inr (subst (λ (us : List Turn). In n (tree_of n (turns_say k us)) (turn_stages k (done ++ t ∷ []) ts)) (append_assoc done (t ∷ []) ts) q))
    (λ q. inl (ap (λ (us : List Turn). tree_of n (turns_say k us)) (rw q)))
    (last_turn k n (done ++ t ∷ []) ts))

-- both layers take turns alike
module _ (k : ℕ) (L : Lists) (distinct : DistinctL L) (enough : Enough k L) (p : ℕ) (gs : List Argument) (o : ArgumentsOk gs) where
  pub covered_snoc : (es : List Fact) (e : Fact) → CoveredBy es L (atom p gs) → Covered e L (atom p gs) → CoveredBy (es ++ e ∷ []) L (atom p gs)
  covered_snoc [] e c d = (d, tt)
  covered_snoc (f ∷ es) e c d = (c.0, covered_snoc es e c.1 d)

  pub stages_turns : (es done : List Fact) → CoveredBy done L (atom p gs) → CoveredBy es L (atom p gs)
      → turn_stages k (map (turn_of L p gs) done) (map (turn_of L p gs) es) ≡ turns k L p gs done es
  unfolding turn_stages turns
  stages_turns [] done d c = refl
  stages_turns (e ∷ es) done d c =
      let m : map (turn_of L p gs) done ++ turn_of L p gs e ∷ [] ≡ map (turn_of L p gs) (done ++ e ∷ []) = sym (map-append (turn_of L p gs) done (e ∷ [])) in
      let q = covered_snoc done e d c.0 in
      ap₂ (λ (f : Function) (fs : List Function). f ∷ fs) (ap (turns_say k) m ∙ fun_ext (λ s. turns_say_law k L distinct enough (done ++ e ∷ []) p gs s o q))
      (ap (λ (ts : List Turn). turn_stages k ts (map (turn_of L p gs) es)) m ∙ stages_turns es (done ++ e ∷ []) q c.1)

-- What the work of a row meets: its new function, an exists row's removals, an atom's turns, and nothing else. Here old and now are the
-- functions before the row and now, and new the diagrams after the event.
module _ (k : ℕ) (pos : 0 < k) (L : Lists) (distinct : DistinctL L) (enough : Enough k L) (es : List Fact) (old now : ℕ → Function) (new : List Tree) (i : ℕ)
    (stays : (a : ℕ) → a < i → now a ≡ says_at new a) (t : Tree) where
  pub alone : (f : Function) (P : Type 0) → In (4 * k) t (f ∷ []) → (tree_of (4 * k) f ≡ t) ⊎ P
  alone f P (inl q) = inl q
  alone f P (inr q) = absurd q

  pub row_met : (r : Row) → RowOk i r → CoveredBy es L r → In (4 * k) t (task_stages k old now i (task_of L es r))
      → (tree_of (4 * k) (task_says k old now i (task_of L es r)) ≡ t) ⊎ (In (4 * k) t (own_removals k new r) ⊎ In (4 * k) t (own_turns k L es r))
  unfolding task_of task_stages task_says stages_of own_removals own_turns
  row_met truth o c h = alone _ _ h
  row_met (atom p gs) o c h = inr (inr (subst (In (4 * k) t) (stages_turns k L distinct enough p gs o es [] tt c) h))
  row_met (both l r) o c h = alone _ _ h
  row_met (neg r) o c h = alone _ _ h
  row_met (since l r) o c h = alone _ _ h
  row_met (previous r) o c h = alone _ _ h
  row_met (exists x a) o c h = inr (inl (subst (In (4 * k) t) (stages_removals (x * k) k (now a) ∙ ap (removals (x * k) k) (stays a o.1)) h))

  pub removals_met : (r : Row) → RowOk i r → In (4 * k) t (own_removals k new r) → In (4 * k) t (task_stages k old now i (task_of L es r))
  unfolding task_of task_stages stages_of own_removals
  removals_met truth o h = absurd h
  removals_met (atom p gs) o h = absurd h
  removals_met (both l r) o h = absurd h
  removals_met (neg r) o h = absurd h
  removals_met (since l r) o h = absurd h
  removals_met (previous r) o h = absurd h
  removals_met (exists x a) o h = subst (In (4 * k) t) (sym (stages_removals (x * k) k (now a) ∙ ap (removals (x * k) k) (stays a o.1))) h

  pub turns_met : (r : Row) → RowOk i r → CoveredBy es L r → In (4 * k) t (own_turns k L es r) → In (4 * k) t (task_stages k old now i (task_of L es r))
  unfolding task_of task_stages stages_of own_turns
  turns_met truth o c h = absurd h
  turns_met (atom p gs) o c h = subst (In (4 * k) t) (sym (stages_turns k L distinct enough p gs o es [] tt c)) h
  turns_met (both l r) o c h = absurd h
  turns_met (neg r) o c h = absurd h
  turns_met (since l r) o c h = absurd h
  turns_met (previous r) o c h = absurd h
  turns_met (exists x a) o c h = absurd h

-- the new function is met, but where it is no
module _ (k : ℕ) (pos : 0 < k) (L : Lists) (es : List Fact) (old now : ℕ → Function) (i : ℕ) where
  pub no_turn : tree_of (4 * k) (turns_say k []) ≡ off
  unfolding turns_say
  no_turn = tree_one (4 * k) (λ s. false) (record { only = λ s t h. refl }) off (fine_off 0 (4 * k)) (λ s. unfold eval in refl)

  pub last_drop : (x : ℕ) (g : Function) → In (4 * k) (tree_of (4 * k) (drops (x * k) k g)) (drop_stages (x * k) k g)
  last_drop x g =
      let z : k ≡ suc (k - 1) = omega arith in
      subst (λ (m : ℕ). In (4 * k) (tree_of (4 * k) (drops (x * k) m g)) (drop_stages (x * k) m g)) (sym z) (drops_in (4 * k) (x * k) (k - 1) g)

  pub new_of : (r : Row) → In (4 * k) (tree_of (4 * k) (task_says k old now i (task_of L es r))) (task_stages k old now i (task_of L es r)) ⊎ (tree_of (4 * k) (task_says k old now i (task_of L es r)) ≡ off)
  unfolding task_of task_stages task_says stages_of instruction_says
  new_of truth = inl (inl refl)
  new_of (atom p gs) = ⊎_elim (λ q. inl q) (λ q. inr (ap (λ (ts : List Turn). tree_of (4 * k) (turns_say k ts)) q ∙ no_turn)) (last_turn k (4 * k) [] (map (turn_of L p gs) es))
  new_of (both l r) = inl (inl refl)
  new_of (neg r) = inl (inl refl)
  new_of (since l r) = inl (inl refl)
  new_of (previous r) = inl (inl refl)
  new_of (exists x a) = inl (last_drop x (now a))

-- From a fresh start the diagrams show the meaning, for every assignment of whole numbers. Assumes nothing.
use Prim.Native.Nat.{ℕ, suc, ◌+◌, ◌-◌, ◌*◌, ◌^◌, ◌≤◌, ◌<◌}
use mathlib.Core.Path.{◌≡◌, refl, ap, sym, ◌∙◌}
use mathlib.Core.Bool.{Bool, true, false, not, ◌&&◌, ◌||◌}
use mathlib.Core.List.{List, [], ◌∷◌, ◌++◌}
use mathlib.Core.Logic.{◌↔◌, ◌≢◌, ◌⊎◌, inl, inr, ⊎_elim}
use native.Mathlib.Decide.{dec_lt, ℕ_discrete}
use native.Mathlib.Nat.{mul-le-mul_right}
use native.Mathlib.Omega.{arith}
use lib.Dec.{eqb, ltb}
use lib.ListN.{length, get_or, length-append, get_or-append, length-replicate, get_or-replicate, replicate, get_or-eq_default}
use lib.Seq.{get_or-append_seam}
use lib.Pow.{pow_pos}
use borrow.Author.Tests.{eq-eqb, ne_eqb, lt-ltb, ltb-true, eqb-true}
use Rattle.trees.specs.Bits.{Bits, Function, Same, Asks, number, drops}
use Rattle.trees.specs.Tree.{Tree, off, eval}
use Rattle.trees.proofs.Tests.{EqCase, equal, eq_case, eqb_same, false_true, and_true_l, and_true_r, and_true}
use Rattle.trees.proofs.BitsLaws.{Outside, drops_some, drops_of, number_agree, write, write_outside, write_number}
use Rattle.trees.proofs.TreeLaws.{fine_off}
use Rattle.meaning.specs.Qtl.{Argument, variable, constant, Fact, Formula, Assignment, bind, Matches, Some, Matching, Holds}
use Rattle.meaning.specs.Qtl
use Rattle.meaning.specs.Rows.{Row, truth, atom, both, neg, since, previous, exists, follow, formulas_from, formulas}
use Rattle.meaning.specs.Numbering.{Lists, place, listed, repeats, fits, ask_facts, Stands, Shows}
use Rattle.meaning.specs.Step.{arguments_say, fact_says, atom_says, row_says, says_at, row_tree, row_trees, Shown, fresh, step}
use Rattle.meaning.proofs.RowsLaws.{ArgumentsOk, RowOk, RowsOk, formulas_keep, formulas_here, formulas_length}
use Rattle.meaning.proofs.ValuesLaws.{stands_back, value_of, number_of_law, stands_place, place_stands}
use Rattle.meaning.proofs.AskingLaws.{has_place, GrowsL, DistinctL, Asked, InLists, Covered, CoveredBy, Covers, covers_row, covers_rest, ask_facts_grows, ask_facts_distinct, ask_facts_covers}
use Rattle.meaning.proofs.StepLaws.{AllFine, asks_at, fine_row, eval_row, fine_snoc, fine_rows}

-- no variable has more values than numbers
abbrev pub Enough : ℕ → Lists → Type 0
Enough k L = (v : ℕ) → v < 4 → length (L v) ≤ 2 ^ k - 1

-- the function says yes exactly of the assignments in P
pub record Sim (k : ℕ) (L : Lists) (g : Function) (P : Assignment → Type 0) : Type 0 where
  pub means : (s : Bits) (a : Assignment) → Shows k L s a → (g s ≡ true) ↔ P a

-- after the lists have grown, an old function still says what it said
pub sim_grows : (k : ℕ) (L M : Lists) (g : Function) (P : Assignment → Type 0) → GrowsL L M → DistinctL M → Sim k L g P → Sim k M g P
sim_grows k L M g P w d t = record { means = λ s a h. t.means s a λ v q. stands_back (L v) (M v) (number s (v * k) k) (a v) (w v) (d v) (h v q) }

pub sim_same : (k : ℕ) (L : Lists) (f g : Function) (P : Assignment → Type 0) → Same f g → Sim k L g P → Sim k L f P
sim_same k L f g P e t = record { means = λ s a h. rw (e s) (t.means s a h) }

iff_and : (x y : Bool) (P Q : Type 0) → ((x ≡ true) ↔ P) → ((y ≡ true) ↔ Q) → ((x && y) ≡ true) ↔ (P × Q)
iff_and x y P Q p q = (λ e. (p.0 (and_true_l x y e), q.0 (and_true_r x y e)), λ r. and_true x y (p.1 r.0) (q.1 r.1))

iff_or : (x y : Bool) (P Q : Type 0) → ((x ≡ true) ↔ P) → ((y ≡ true) ↔ Q) → ((x || y) ≡ true) ↔ (P ⊎ Q)
iff_or true y P Q p q = (λ e. inl (p.0 refl), λ r. refl)
iff_or false y P Q p q = (λ e. inr (q.0 e), ⊎_elim (λ r. absurd (false_true refl (p.1 r))) (λ r. q.1 r))

iff_not : (x : Bool) (P : Type 0) → ((x ≡ true) ↔ P) → (not x ≡ true) ↔ (¬ P)
iff_not true P p = (λ e. absurd (false_true refl e), λ r. absurd (r (p.0 refl)))
iff_not false P p = (λ e r. false_true refl (p.1 r), λ r. refl)

-- the bits of two variables lie apart
apart_levels : (k v x l : ℕ) → v ≢ x → v * k ≤ l → l < v * k + k → (l < x * k) ⊎ (x * k + k ≤ l)
apart_levels k v x l h p q = elim (dec_lt v x) [
  | yes r ↦ inl (let u = mul-le-mul_right k r in omega arith)
  | no r ↦ inr (let r' : suc x ≤ v = omega arith in let u = mul-le-mul_right k r' in omega arith)
]

pub number_other : (k v x : ℕ) (s t : Bits) → v ≢ x → Outside (x * k) k s t → number s (v * k) k ≡ number t (v * k) k
number_other k v x s t h o = number_agree s t (v * k) k λ l p q. o l (apart_levels k v x l h p q)

pub bind_own : (a : Assignment) (x y : ℕ) → bind a x y x ≡ y
unfolding bind
bind_own a x y = rw (eqb_same x)

pub bind_other : (a : Assignment) (x y v : ℕ) → v ≢ x → bind a x y v ≡ a v
unfolding bind
bind_other a x y v h = rw (ne_eqb v x h)

-- other bits for x, and a value for x that they show
shows_bind : (k : ℕ) (L : Lists) (s t : Bits) (a : Assignment) (x y : ℕ) → Shows k L s a → Outside (x * k) k s t → Stands (L x) (number t (x * k) k) y → Shows k L t (bind a x y)
shows_bind k L s t a x y h o z v q = elim (ℕ_discrete v x) [
  | yes p ↦ rw (p, bind_own a x y) z
  | no p ↦ rw (bind_other a x y v p, ← number_other k v x s t p o) (h v q)
]

-- exists, over all whole numbers: every number stands for a value, and every value has a number, as one is reserved
pub sim_exists : (k : ℕ) (L : Lists) (g : Function) (P : Assignment → Type 0) (x : ℕ) → x < 4 → length (L x) ≤ 2 ^ k - 1 → Asks 0 (4 * k) g
    → Sim k L g P → Sim k L (drops (x * k) k g) (λ a. (y : ℕ) × P (bind a x y))
sim_exists k L g P x hx room asks t = record { means = λ s a h. (there s a h, back s a h) }
  where
    there : (s : Bits) (a : Assignment) → Shows k L s a → drops (x * k) k g s ≡ true → (y : ℕ) × P (bind a x y)
    there s a h p =
        let r = drops_some (x * k) k g s p in
        let y = value_of (L x) (number r.0 (x * k) k) in
        (y.0, (t.means r.0 (bind a x y.0) (shows_bind k L s r.0 a x y.0 h r.1 y.1)).0 r.2)

    back : (s : Bits) (a : Assignment) → Shows k L s a → (y : ℕ) × P (bind a x y) → drops (x * k) k g s ≡ true
    back s a h p =
        let n = number_of_law (L x) (2 ^ k - 1) p.0 room in
        let u : Bits = write s (x * k) k n.0 in
        let o : Outside (x * k) k s u = λ l q. sym (write_outside s (x * k) k n.0 l q) in
        let w : number u (x * k) k ≡ n.0 = write_number s (x * k) k n.0 (let c = n.1 in let d = pow_pos k in omega arith) in
        drops_of 0 (4 * k) (x * k) k g asks s u o
        ((t.means u (bind a x p.0) (shows_bind k L s u a x p.0 h o (rw w n.2))).1 p.1)

-- an atom that holds of some assignment matches
repeats_of : (a : Assignment) (v x : ℕ) (gs : List Argument) (ys : List ℕ) → a v ≡ x → Matches a gs ys → repeats v x gs ys ≡ true
unfolding repeats
repeats_of a v x [] [] p h = refl
repeats_of a v x [] (y ∷ ys) p h = refl
repeats_of a v x (g ∷ gs) [] p h = refl
repeats_of a v x (variable w ∷ gs) (y ∷ ys) p h = rw (repeats_of a v x gs ys p h.1) (go (eqb v w) (eq_case v w))
  where
    go : (t : Bool) → EqCase v w t → ((not t || eqb x y) && true) ≡ true
    go true (equal q) = rw (sym (sym h.0 ∙ (ap a (sym q) ∙ p)), eqb_same y)
    go false q = refl
repeats_of a v x (constant c ∷ gs) (y ∷ ys) p h = repeats_of a v x gs ys p h.1

pub fits_of : (a : Assignment) (gs : List Argument) (ys : List ℕ) → Matches a gs ys → fits gs ys ≡ true
unfolding fits
fits_of a [] [] h = refl
fits_of a [] (y ∷ ys) h = absurd h
fits_of a (g ∷ gs) [] h = absurd h
fits_of a (variable v ∷ gs) (y ∷ ys) h = rw (repeats_of a v y gs ys h.0 h.1, fits_of a gs ys h.1)
fits_of a (constant c ∷ gs) (y ∷ ys) h = rw (h.0, eqb_same y, fits_of a gs ys h.1)

module _ (k : ℕ) (L : Lists) (d : DistinctL L) (s : Bits) (a : Assignment) (h : Shows k L s a) where
  -- what the arguments' function says is true of the assignment
  pub says_matches : (gs : List Argument) (ys : List ℕ) → ArgumentsOk gs → arguments_say k L gs ys s ≡ true → Matches a gs ys
  unfolding arguments_say listed
  says_matches [] [] o e = tt
  says_matches [] (y ∷ ys) o e = false_true refl e
  says_matches (g ∷ gs) [] o e = false_true refl e
  says_matches (variable v ∷ gs) (y ∷ ys) o e =
      let here : Bool = ltb (place (L v) y) (length (L v)) in
      let is : Bool = eqb (number s (v * k) k) (place (L v) y) in
      let c = and_true_l (here && is) (arguments_say k L gs ys s) e in (
        place_stands (L v) (number s (v * k) k) (a v) y (ltb-true _ _ (and_true_l here is c)) (eqb-true _ _ (and_true_r here is c)) (h v o.0),
        says_matches gs ys o.1 (and_true_r (here && is) (arguments_say k L gs ys s) e),
      )
  says_matches (constant c ∷ gs) (y ∷ ys) o e =
      (eqb-true c y (and_true_l (eqb c y) (arguments_say k L gs ys s) e), says_matches gs ys o.1 (and_true_r (eqb c y) (arguments_say k L gs ys s) e))

  -- and the other way round, where the values have numbers
  matches_says : (gs : List Argument) (ys : List ℕ) → ArgumentsOk gs → Asked (InLists L) gs ys → Matches a gs ys → arguments_say k L gs ys s ≡ true
  unfolding arguments_say listed
  matches_says [] [] o i m = refl
  matches_says [] (y ∷ ys) o i m = absurd m
  matches_says (g ∷ gs) [] o i m = absurd m
  matches_says (variable v ∷ gs) (y ∷ ys) o i m =
      let p : place (L v) y < length (L v) = has_place (L v) y i.0 in
      let q : number s (v * k) k ≡ place (L v) y = stands_place (L v) (number s (v * k) k) y (d v) p (rw m.0 at (h v o.0)) in
      rw (lt-ltb _ _ p, eq-eqb _ _ q, matches_says gs ys o.1 i.1 m.1)
  matches_says (constant c ∷ gs) (y ∷ ys) o i m = rw (eq-eqb c y m.0, matches_says gs ys o.1 i m.1)

sim_fact : (k : ℕ) (L : Lists) → DistinctL L → (e : Fact) (p : ℕ) (gs : List Argument) → ArgumentsOk gs → Covered e L (atom p gs)
    → Sim k L (fact_says k L p gs e) (λ a. Matching a p gs e)
unfolding fact_says
sim_fact k L d e p gs o cov = record {
  means = λ s a h. (
    λ z.
        let q = and_true_l (eqb e.predicate p) (arguments_say k L gs e.values s) z in
        (eqb-true e.predicate p q, says_matches k L d s a h gs e.values o (and_true_r (eqb e.predicate p) (arguments_say k L gs e.values s) z)),
    λ z.
        let q = eq-eqb e.predicate p z.0 in
        and_true _ _ q (matches_says k L d s a h gs e.values o (cov (rw (q, fits_of a gs e.values z.1))) z.1),
  );
}

-- some fact matches
sim_atom : (k : ℕ) (L : Lists) → DistinctL L → (es : List Fact) (p : ℕ) (gs : List Argument) → ArgumentsOk gs → CoveredBy es L (atom p gs)
    → Sim k L (atom_says k L p gs es) (λ a. Some (Matching a p gs) es)
unfolding atom_says
sim_atom k L d [] p gs o cov = record { means = λ s a h. (λ z. absurd (false_true refl z), λ z. absurd z) }
sim_atom k L d (e ∷ es) p gs o cov = record {
  means = λ s a h. iff_or _ _ _ _ ((sim_fact k L d e p gs o cov.0).means s a h) ((sim_atom k L d es p gs o cov.1).means s a h);
}

-- the functions at the places below n show the formulas there, at the position i
abbrev pub Sims : ℕ → Lists → (ℕ → List Fact) → ℕ → ℕ → (ℕ → Function) → List Formula → Type 0
Sims k L σ i n f fs = (j : ℕ) → j < n → Sim k L (f j) (λ a. Holds σ (get_or fs j Qtl.truth) i a)

module _ (k : ℕ) (L : Lists) (σ : ℕ → List Fact) (i : ℕ) (d : DistinctL L) (room : Enough k L) (old : List Tree) (wold : AllFine (4 * k) old) where
  row_sim : (n : ℕ) (ts : List Tree) (fs : List Formula) (r : Row) → RowOk n r → AllFine (4 * k) ts → CoveredBy (σ (suc i)) L r
      → Sims k L σ (suc i) n (says_at ts) fs → Sims k L σ i n (says_at old) fs
      → Sim k L (says_at old (length ts)) (λ a. Holds σ (follow fs r) i a)
      → Sim k L (row_says k L (σ (suc i)) (says_at old) (says_at ts) (length ts) r) (λ a. Holds σ (follow fs r) (suc i) a)
  unfolding row_says follow
  row_sim n ts fs truth o w c now was self = record { means = λ s a h. (λ e. tt, λ e. refl) }
  row_sim n ts fs (atom p gs) o w c now was self = sim_atom k L d (σ (suc i)) p gs o c
  row_sim n ts fs (both l r) o w c now was self = record { means = λ s a h. iff_and _ _ _ _ ((now l o.0).means s a h) ((now r o.1).means s a h) }
  row_sim n ts fs (neg r) o w c now was self = record { means = λ s a h. iff_not _ _ ((now r o).means s a h) }
  row_sim n ts fs (since l r) o w c now was self = record {
    means = λ s a h. iff_or _ _ _ _ ((now r o.1).means s a h) (iff_and _ _ _ _ ((now l o.0).means s a h) (self.means s a h));
  }
  row_sim n ts fs (previous r) o w c now was self = was r o
  row_sim n ts fs (exists x r) o w c now was self =
      sim_exists k L (says_at ts r) _ x o.0 (room x o.0) (asks_at (4 * k) ts w r) (now r o.1)

  sims_snoc : (p : ℕ) (ts : List Tree) (fs : List Formula) (t : Tree) (f : Formula) → length ts ≡ length fs → Sims k L σ p (length fs) (says_at ts) fs
      → Sim k L (eval t) (λ a. Holds σ f p a) → Sims k L σ p (suc (length fs)) (says_at (ts ++ t ∷ [])) (fs ++ f ∷ [])
  unfolding says_at
  sims_snoc p ts fs t f e s t-f j h = elim (dec_lt j (length fs)) [
    | yes q ↦ rw (get_or-append ts (t ∷ []) off j (omega arith), get_or-append fs (f ∷ []) Qtl.truth j q) (s j q)
    | no q ↦ (let z : j ≡ length fs = omega arith in
        let y : j ≡ length ts = omega arith in
        let a : get_or (ts ++ t ∷ []) j off ≡ t = rw y (get_or-append_seam ts t [] off) in
        let b : get_or (fs ++ f ∷ []) j Qtl.truth ≡ f = rw z (get_or-append_seam fs f [] Qtl.truth) in
        rw (a, b) t-f)
  ]

  pub rows_sim : (rs : List Row) (ts : List Tree) (fs : List Formula) → length ts ≡ length fs → AllFine (4 * k) ts → RowsOk (length fs) rs → Covers (σ (suc i)) L rs
      → Sims k L σ (suc i) (length fs) (says_at ts) fs → Sims k L σ i (length (formulas_from fs rs)) (says_at old) (formulas_from fs rs)
      → Sims k L σ (suc i) (length (formulas_from fs rs)) (says_at (row_trees k L (σ (suc i)) old ts rs)) (formulas_from fs rs)
  unfolding formulas_from row_trees
  rows_sim [] ts fs e w o c now was = now
  rows_sim (r ∷ rs) ts fs e w o c now was =
      let t : Tree = row_tree k L (σ (suc i)) old ts r in
      let f : Formula = follow fs r in
      let n : length (fs ++ f ∷ []) ≡ suc (length fs) = length-append fs (f ∷ []) ∙ omega arith in
      let m : length (ts ++ t ∷ []) ≡ suc (length ts) = length-append ts (t ∷ []) ∙ omega arith in
      let all : length (formulas_from (fs ++ f ∷ []) rs) ≡ length (fs ++ f ∷ []) + length rs = formulas_length rs (fs ++ f ∷ []) in
      let was' : Sims k L σ i (length fs) (says_at old) fs = λ j h. rw (formulas_keep (r ∷ rs) fs j h) at (was j (omega arith)) in
      let self : Sim k L (says_at old (length ts)) (λ a. Holds σ f i a) = rw e (rw (formulas_here r rs fs) at (was (length fs) (omega arith))) in
      let t-f : Sim k L (eval t) (λ a. Holds σ f (suc i) a) =
      sim_same k L (eval t) _ _ (eval_row k L (σ (suc i)) old wold ts r (length fs) w o.0) (row_sim (length fs) ts fs r o.0 w (covers_row (σ (suc i)) L r rs c) now was' self) in
      rows_sim rs (ts ++ t ∷ []) (fs ++ f ∷ []) (omega arith) (fine_snoc (4 * k) ts t w (fine_row k L (σ (suc i)) old wold ts r)) (rw n o.1) (covers_rest (σ (suc i)) L r rs c)
      (rw n (sims_snoc (suc i) ts fs t f e now t-f)) was

-- nothing holds at position 0
pub holds_zero : (σ : ℕ → List Fact) (f : Formula) (a : Assignment) → Holds σ f 0 a → ⊥
holds_zero σ Qtl.truth a h = h
holds_zero σ (Qtl.atom p gs) a h = h
holds_zero σ (Qtl.both f g) a h = h
holds_zero σ (Qtl.neg f) a h = h
holds_zero σ (Qtl.since f g) a h = h
holds_zero σ (Qtl.previous f) a h = h
holds_zero σ (Qtl.exists x f) a h = h

-- what is shown after i events is the meaning
pub record Faithful (k : ℕ) (rule : List Row) (σ : ℕ → List Fact) (i : ℕ) (s : Shown) : Type 0 where
  pub distinct : DistinctL s.lists
  pub fine : AllFine (4 * k) s.trees
  pub means : Sims k s.lists σ i (length rule) (says_at s.trees) (formulas rule)

pub fresh_faithful : (k : ℕ) (rule : List Row) (σ : ℕ → List Fact) → Faithful k rule σ 0 (fresh rule)
unfolding fresh eval says_at
fresh_faithful k rule σ = record {
  distinct = λ v i j p q e. absurd (omega arith);
  fine = λ i. elim (dec_lt i (length rule)) [
    | yes p ↦ rw (get_or-replicate (length rule) i off off p) (fine_off 0 (4 * k))
    | no p ↦ rw (get_or-eq_default (replicate (length rule) off) off {n = i} (rw length-replicate (omega arith))) (fine_off 0 (4 * k))
  ];
  means = λ j h. rw (get_or-replicate (length rule) j off off h) (none (get_or (formulas rule) j Qtl.truth));
}
  where
    none : (f : Formula) → Sim k (λ v. []) (λ s. false) (λ a. Holds σ f 0 a)
    none f = record { means = λ s a h. (λ z. absurd (false_true refl z), λ z. absurd (holds_zero σ f a z)) }

pub step_faithful : (k : ℕ) (rule : List Row) (σ : ℕ → List Fact) (i : ℕ) (s : Shown) → RowsOk 0 rule → Faithful k rule σ i s
    → Enough k (step k rule s (σ (suc i))).lists → Faithful k rule σ (suc i) (step k rule s (σ (suc i)))
unfolding step formulas
step_faithful k rule σ i s o g room =
    let L : Lists = ask_facts (σ (suc i)) s.lists rule in
    let d : DistinctL L = ask_facts_distinct (σ (suc i)) rule s.lists g.distinct in
    let n : length (formulas_from [] rule) ≡ length rule = formulas_length rule [] ∙ omega arith in
    let none : AllFine (4 * k) [] = λ j. fine_off 0 (4 * k) in
    let was : Sims k L σ i (length rule) (says_at s.trees) (formulas_from [] rule) = λ j h. sim_grows k s.lists L _ _ (ask_facts_grows (σ (suc i)) rule s.lists) d (g.means j h) in
    record {
      distinct = d;
      fine = fine_rows k L (σ (suc i)) s.trees g.fine rule [] none;
      means = rw n at (rows_sim k L σ i d room s.trees g.fine rule [] [] refl none o (ask_facts_covers (σ (suc i)) rule s.lists) (λ j h. absurd (omega arith)) (rw n was));
    }

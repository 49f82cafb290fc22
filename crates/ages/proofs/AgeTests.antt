-- The test of an age diagram says what its clauses say: at most one age for a binding, and none that its row can't have. Assumes nothing.
use Prim.Native.Nat.{ℕ, suc, ◌+◌, ◌*◌, ◌^◌, ◌≤◌, ◌<◌}
use mathlib.Core.Path.{◌≡◌, refl, ap, sym, ◌∙◌}
use mathlib.Core.Bool.{Bool, true, false, cond, not, ◌&&◌}
use mathlib.Core.Logic.{◌≢◌}
use native.Mathlib.Omega.{arith}
use lib.Dec.{eqb, ltb}
use borrow.Author.Tests.{eqb-true, eq-eqb}
use Rattle.trees.specs.Bits.{Bits, Same, put, number}
use Rattle.trees.specs.Tree.{Tree, off, on, node, eval, same, Fine}
use Rattle.trees.specs.Kept.{all_below}
use Rattle.trees.proofs.Tests.{false_true, not_true, iff_eq, and_true, and_true_l, and_true_r, LtCase, below, above, lt_case}
use Rattle.trees.proofs.BitsLaws.{number_agree, number_lt}
use Rattle.trees.proofs.TreeLaws.{same_eq, same_true, node_fine, fine_node, fine_off, fine_lower, eval_agree, canon}
use Rattle.trees.proofs.FunctionLaws.{fine_from, eval_from}
use Rattle.trees.proofs.KeptLaws.{all_at, all_fails, not_false}
use Rattle.ages.specs.Ages.{Age, first_age, with_age, OneAge, age_diagram, shown_age, ages_right}
use Rattle.ages.proofs.WriteLaws.{number_bits}
use Rattle.ages.proofs.WiderLaws.{side_says}
use Rattle.ages.proofs.AgeLaws.{FirstCase, missing, found, first_case, with_below, with_put, with_number}

module _ (k : ℕ) where
  -- the diagram of an age
  pub fine_age : (n : ℕ) → Fine (4 * k) (4 * k + 11) (age_diagram (4 * k) n)
  unfolding age_diagram
  fine_age n = fine_from 11 (4 * k) (4 * k + 11) _ refl

  pub says_age : (n : ℕ) (s : Bits) → eval (age_diagram (4 * k) n) s ≡ eqb (number s (4 * k) 11) n
  unfolding age_diagram
  says_age n s =
      eval_from 11 (4 * k) (4 * k + 11) (λ u. eqb (number u (4 * k) 11) n) refl
      (record { only = λ u v e. ap (λ (m : ℕ). eqb m n) (number_agree u v (4 * k) 11 (λ l p q. e l p q)) }) s

  -- the diagram of one age has that age only
  one_of : (top : ℕ) (u : Tree) → shown_age (4 * k) top u ≡ true → OneAge k top (eval u)
  unfolding shown_age
  one_of top u h =
      let f = all_fails (suc top) (λ n. not (same u (age_diagram (4 * k) n))) (not_false _ h) in
      let e : u ≡ age_diagram (4 * k) f.0 = same_true u (age_diagram (4 * k) f.0) (flip (same u (age_diagram (4 * k) f.0)) f.2) in
      let is : (s : Bits) (n : ℕ) → n < 2 ^ 11 → eval u (with_age k s n) ≡ true → n ≡ f.0 = λ s n p v.
      sym (with_number k s n p) ∙ eqb-true (number (with_age k s n) (4 * k) 11) f.0 (sym (says_age f.0 (with_age k s n)) ∙ ap (λ (d : Tree). eval d (with_age k s n)) (sym e) ∙ v) in
      record { one = λ s m n p q v w. is s m p v ∙ sym (is s n q w); most = λ s n p v. (let z = is s n p v in let y = f.1 in omega arith) }
    where
      flip : (b : Bool) → not b ≡ false → b ≡ true
      flip true z = refl
      flip false z = sym z

  -- the test gives the clauses
  pub of_right : (top : ℕ) (d : Tree) → ages_right (4 * k) top d ≡ true → OneAge k top (eval d)
  unfolding ages_right eval
  of_right top off h = record { one = λ s m n p q u v. absurd (false_true refl u); most = λ s n p u. absurd (false_true refl u) }
  of_right top on h = absurd (false_true refl h)
  of_right top (node l a b) h = go (ltb l (4 * k)) (lt_case l (4 * k)) (of_right top a) (of_right top b) h
    where
      pick : (y : Bool) → OneAge k top (eval a) → OneAge k top (eval b) → OneAge k top (λ s. cond y (eval b s) (eval a s))
      pick true oa ob = ob
      pick false oa ob = oa

      go : (t : Bool) → LtCase l (4 * k) t → (ages_right (4 * k) top a ≡ true → OneAge k top (eval a)) → (ages_right (4 * k) top b ≡ true → OneAge k top (eval b))
          → cond t (ages_right (4 * k) top a && ages_right (4 * k) top b) (shown_age (4 * k) top (node l a b)) ≡ true → OneAge k top (λ s. cond (s l) (eval b s) (eval a s))
      go true (below q) ra rb e =
          let oa = ra (and_true_l (ages_right (4 * k) top a) (ages_right (4 * k) top b) e) in
          let ob = rb (and_true_r (ages_right (4 * k) top a) (ages_right (4 * k) top b) e) in
          record {
            one = λ s m n p r v w. (pick (s l) oa ob).one s m n p r (rw (with_below k s m l q) at v) (rw (with_below k s n l q) at w);
            most = λ s n p v. (pick (s l) oa ob).most s n p (rw (with_below k s n l q) at v);
          }
      go false (above q) ra rb e = unfold eval in one_of top (node l a b) e

  -- a diagram of age bits only, with the age of the bits written over any others
  rewritten : (u : Tree) → Fine (4 * k) (4 * k + 11) u → (s t : Bits) → eval u (with_age k t (number s (4 * k) 11)) ≡ eval u s
  rewritten u f s t = eval_agree (4 * k) (4 * k + 11) u f _ s (λ l p q. number_bits _ s (4 * k) 11 (with_number k t (number s (4 * k) 11) (number_lt s (4 * k) 11)) l p q)

  dark : Bits
  dark l = false

  -- such a diagram with at most one age is no, or the diagram of that age
  shown_of : (top : ℕ) (u : Tree) → Fine (4 * k) (4 * k + 11) u → u ≢ off → OneAge k top (eval u) → shown_age (4 * k) top u ≡ true
  unfolding shown_age dark eval
  shown_of top u f live o = go (first_age (2 ^ 11) (λ n. eval u (with_age k dark n))) (first_case (2 ^ 11) (λ n. eval u (with_age k dark n)))
    where
      -- some age at most top is the diagram's
      some : (n : ℕ) → n ≤ top → u ≡ age_diagram (4 * k) n → not (all_below (suc top) (λ n. not (same u (age_diagram (4 * k) n)))) ≡ true
      some n h e = ap not (not_true _ (λ z. false_true (ap not (same_eq u (age_diagram (4 * k) n) e)) (all_at (suc top) (λ n. not (same u (age_diagram (4 * k) n))) z n (omega arith))))

      whole : (d : Tree) → Fine (4 * k) (4 * k + 11) d → Same (eval u) (eval d) → u ≡ d
      whole d g e = canon (4 * k + 11) u d (fine_lower (4 * k) (4 * k + 11) 0 u (omega arith) f) (fine_lower (4 * k) (4 * k + 11) 0 d (omega arith) g) e

      go : (x : Age) → FirstCase (2 ^ 11) (λ n. eval u (with_age k dark n)) x → not (all_below (suc top) (λ n. not (same u (age_diagram (4 * k) n)))) ≡ true
      go x (missing h) = absurd (live (whole off (fine_off (4 * k) (4 * k + 11)) (λ s. sym (rewritten u f s dark) ∙ h (number s (4 * k) 11) (number_lt s (4 * k) 11))))
      go x (found n h e) = some n (o.most dark n h e) (whole (age_diagram (4 * k) n) (fine_age n) (λ s. iff_eq _ _
          (λ z. says_age n s ∙ eq-eqb _ n (o.one dark (number s (4 * k) 11) n (number_lt s (4 * k) 11) h (rewritten u f s dark ∙ z) e))
          (λ z. let q = eqb-true _ n (sym (says_age n s) ∙ z) in sym (rewritten u f s dark) ∙ rw q e)))

  -- the sides of a node that stands above the age bits
  side_one : (top l : ℕ) (a b d : Tree) (x : Bool) → l < 4 * k → ((s : Bits) → eval d s ≡ eval (node l a b) (put s l x)) → OneAge k top (eval (node l a b)) → OneAge k top (eval d)
  side_one top l a b d x h e o = record {
    one = λ s m n p q u v. o.one (put s l x) m n p q (moved s m ∙ u) (moved s n ∙ v);
    most = λ s n p u. o.most (put s l x) n p (moved s n ∙ u);
  }
    where
      moved : (s : Bits) (n : ℕ) → eval (node l a b) (with_age k (put s l x) n) ≡ eval d (with_age k s n)
      moved s n = ap (eval (node l a b)) (with_put k s n l x h) ∙ sym (e (with_age k s n))

  -- and the clauses give the test
  pub right_of : (top lo : ℕ) (d : Tree) → Fine lo (4 * k + 11) d → OneAge k top (eval d) → ages_right (4 * k) top d ≡ true
  unfolding ages_right
  right_of top lo off f o = refl
  right_of top lo on f o = absurd (let z = o.one dark 0 1 (omega arith) (omega arith) (unfold eval in refl) (unfold eval in refl) in omega arith)
  right_of top lo (node l a b) f o = go (ltb l (4 * k)) (lt_case l (4 * k)) (right_of top (suc l) a g.2) (right_of top (suc l) b g.3)
    where
      g : (lo ≤ l) × (l < 4 * k + 11) × Fine (suc l) (4 * k + 11) a × Fine (suc l) (4 * k + 11) b × (a ≡ b → ⊥)
      g = node_fine lo (4 * k + 11) l a b f

      go : (t : Bool) → LtCase l (4 * k) t → (OneAge k top (eval a) → ages_right (4 * k) top a ≡ true) → (OneAge k top (eval b) → ages_right (4 * k) top b ≡ true)
          → cond t (ages_right (4 * k) top a && ages_right (4 * k) top b) (shown_age (4 * k) top (node l a b)) ≡ true
      go true (below h) ra rb =
          and_true _ _ (ra (side_one top l a b a false h (λ s. sym (side_says (4 * k + 11) l a b false g.2 g.3 s)) o))
          (rb (side_one top l a b b true h (λ s. sym (side_says (4 * k + 11) l a b true g.2 g.3 s)) o))
      go false (above h) ra rb =
          shown_of top (node l a b) (fine_node (4 * k) (4 * k + 11) l a b h g.1 g.2 g.3 g.4) (λ e. absurd (let z : ◌≡◌ {A = ℕ} 0 1 = cc in omega arith)) o

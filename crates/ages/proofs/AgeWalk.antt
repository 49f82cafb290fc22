-- The steps of the walks over ages: down the bindings' levels, what stands under them, and the nodes of an age. Assumes nothing.
use Prim.Native.Nat.{ℕ, zero, suc, ◌+◌, ◌*◌, ◌/◌, ◌%◌, ◌^◌, ◌≤◌, ◌<◌}
use mathlib.Core.Path.{◌≡◌, refl, ap, ap₂, sym, ◌∙◌, subst, fun_ext}
use mathlib.Core.Bool.{Bool, true, false, cond}
use mathlib.Core.Logic.{◌≢◌}
use native.Mathlib.Omega.{arith}
use lib.Dec.{eqb}
use borrow.Author.Tests.{eqb-true, eq-eqb, ne_eqb}
use Rattle.trees.specs.Bits.{Bits, Function, Same, Asks, bit, put, number}
use Rattle.trees.specs.Tree.{Tree, off, on, node, eval, Fine, mk, leaf, tree_of}
use Rattle.ages.specs.Ages.{Limit, Age, none, aged, next_age, ripe, top_age, is_age, first_age, with_age, age_at, ages_say, ages_now, age_t, ripe_t, OneAge, age_diagram, ages_right}
use Rattle.trees.proofs.Tests.{iff_eq, EqCase, equal, other, eq_case}
use Rattle.trees.proofs.BitsLaws.{put_other, number_agree}
use Rattle.trees.proofs.TreeLaws.{side, eval_side, eval_agree, asks_eval, fine_node, fine_on, fine_off, fine_lower, fine_leaf, eval_leaf, canon}
use Rattle.trees.proofs.FunctionLaws.{fine_from, fine_of, eval_from, eval_of, tree_one, tree_same, tree_step}
use Rattle.ages.proofs.AgeLaws.{Reads, reads_now, asks_ages, with_put, with_agree, ages_one, age_shown}
use Rattle.ages.proofs.ServeLaws.{next_most}
use Rattle.ages.proofs.AgeTests.{fine_age, says_age, right_of}

-- the nodes of an age from a level on, m bits of it: at each level one side is no, and the other goes on with the rest of the number
unfoldable pub chain : ℕ → ℕ → ℕ → Tree
chain l zero n = on
chain l (suc m) n = cond (eqb (n % 2) 0) (node l (chain (suc l) m (n / 2)) off) (node l off (chain (suc l) m (n / 2)))

pub chain_live : (l m n : ℕ) → chain l m n ≡ off → ⊥
unfolding chain
chain_live l zero n e = absurd (let z : ◌≡◌ {A = ℕ} 0 1 = cc in omega arith)
chain_live l (suc m) n e = go (eqb (n % 2) 0) e
  where
    go : (b : Bool) → cond b (node l (chain (suc l) m (n / 2)) off) (node l off (chain (suc l) m (n / 2))) ≡ off → ⊥
    go true e = absurd (let z : ◌≡◌ {A = ℕ} 0 1 = cc in omega arith)
    go false e = absurd (let z : ◌≡◌ {A = ℕ} 0 1 = cc in omega arith)

chain_fine : (m l hi n : ℕ) → hi ≡ l + m → Fine l hi (chain l m n)
unfolding chain
chain_fine zero l hi n h = fine_on l hi
chain_fine (suc m) l hi n h = go (eqb (n % 2) 0) (chain_fine m (suc l) hi (n / 2) (omega arith))
  where
    go : (b : Bool) → Fine (suc l) hi (chain (suc l) m (n / 2)) → Fine l hi (cond b (node l (chain (suc l) m (n / 2)) off) (node l off (chain (suc l) m (n / 2))))
    go true f = fine_node l hi l _ _ (omega arith) (omega arith) f (fine_off (suc l) hi) (chain_live (suc l) m (n / 2))
    go false f = fine_node l hi l _ _ (omega arith) (omega arith) (fine_off (suc l) hi) f (λ e. chain_live (suc l) m (n / 2) (sym e))

chain_says : (m l n : ℕ) → n < 2 ^ m → (s : Bits) → eval (chain l m n) s ≡ eqb (number s l m) n
unfolding chain eval number
chain_says zero l n h s = sym (eq-eqb 0 n (omega arith))
chain_says (suc m) l n h s = go (eqb (n % 2) 0) (eq_case (n % 2) 0) (chain_says m (suc l) (n / 2) (omega arith) s)
  where
    num : ℕ
    num = number s (suc l) m

    -- the last bit agrees: the rest decides
    half : (b : ℕ) → b ≡ n % 2 → eqb num (n / 2) ≡ eqb (b + 2 * num) n
    half b e = iff_eq _ _ (λ p. eq-eqb _ n (let q = eqb-true num (n / 2) p in omega arith)) (λ p. eq-eqb _ (n / 2) (let q = eqb-true (b + 2 * num) n p in omega arith))

    even : n % 2 ≡ 0 → (E : Bool) → E ≡ eqb num (n / 2) → (x : Bool) → cond x false E ≡ eqb (bit x + 2 * num) n
    even e E r true = sym (ne_eqb (1 + 2 * num) n (λ q. omega arith))
    even e E r false = r ∙ half 0 (sym e)

    odd : (n % 2 ≡ 0 → ⊥) → (E : Bool) → E ≡ eqb num (n / 2) → (x : Bool) → cond x E false ≡ eqb (bit x + 2 * num) n
    odd e E r true = r ∙ half 1 (let q : n % 2 ≢ 0 = e in omega arith)
    odd e E r false = sym (ne_eqb (0 + 2 * num) n (λ q. e (omega arith)))

    go : (b : Bool) → EqCase (n % 2) 0 b → eval (chain (suc l) m (n / 2)) s ≡ eqb num (n / 2)
        → eval (cond b (node l (chain (suc l) m (n / 2)) off) (node l off (chain (suc l) m (n / 2)))) s ≡ eqb (bit (s l) + 2 * num) n
    go true (equal e) r = even e (eval (chain (suc l) m (n / 2)) s) r (s l)
    go false (other e) r = odd e (eval (chain (suc l) m (n / 2)) s) r (s l)

-- the diagram of an age is its nodes
pub chain_is : (l n : ℕ) → n < 2 ^ 11 → age_diagram l n ≡ chain l 11 n
unfolding age_diagram
chain_is l n h =
    canon (l + 11) _ _ (fine_lower l (l + 11) 0 _ (omega arith) (fine_from 11 l (l + 11) _ refl)) (fine_lower l (l + 11) 0 _ (omega arith) (chain_fine 11 l (l + 11) n refl))
    (λ s. eval_from 11 l (l + 11) (λ u. eqb (number u l 11) n) refl (record { only = λ u v e. ap (λ (m : ℕ). eqb m n) (number_agree u v l 11 e) }) s ∙ sym (chain_says 11 l n h s))

-- the diagram of an age, or no
unfoldable pub shown_t : ℕ → Age → Tree
shown_t k none = off
shown_t k (aged n) = age_diagram (4 * k) n

-- the age that stands under the bindings' levels
abbrev pub age_under : ℕ → Tree → Age
age_under k o = age_at k (eval o) (λ _. false)

module _ (k : ℕ) where
  -- the ages of a diagram's side are those of the diagram with the bit there
  age_side : (v : ℕ) (x : Bool) (o : Tree) → v < 4 * k → Fine v (4 * k + 11) o → (s : Bits) → age_at k (eval (side v x o)) s ≡ age_at k (eval o) (put s v x)
  unfolding age_at
  age_side v x o h f s =
      ap (first_age (2 ^ 11)) (fun_ext (λ n. eval_side v (4 * k + 11) x o f (with_age k s n) ∙ ap (eval o) (sym (with_put k s n v x h))))

  -- the ages of a diagram that asks no level before v
  age_agree : (v : ℕ) (o : Tree) → Fine v (4 * k + 11) o → (s u : Bits) → ((i : ℕ) → v ≤ i → i < 4 * k → s i ≡ u i) → age_at k (eval o) s ≡ age_at k (eval o) u
  unfolding age_at
  age_agree v o f s u e =
      ap (first_age (2 ^ 11)) (fun_ext (λ n. eval_agree v (4 * k + 11) o f (with_age k s n) (with_age k u n) (λ i p q. with_agree k s u n i q (e i p))))

  -- the tree of one age, or none
  shown_is : (a : Age) → tree_of (4 * k + 11) (λ s. is_age (number s (4 * k) 11) a) ≡ shown_t k a
  unfolding is_age shown_t eval
  shown_is none = tree_one (4 * k + 11) (λ s. false) (record { only = λ s u e. refl }) off (fine_off 0 (4 * k + 11)) (λ s. refl)
  shown_is (aged n) =
      tree_one (4 * k + 11) (λ s. eqb (number s (4 * k) 11) n) (record { only = λ s u e. ap (λ (m : ℕ). eqb m n) (number_agree s u (4 * k) 11 (λ i p q. e i (omega arith) q)) })
      (age_diagram (4 * k) n) (fine_lower (4 * k) (4 * k + 11) 0 _ (omega arith) (fine_age k n)) (unfold eval in says_age k n)

  module _ (c : Limit) (t : ℕ) where
    asks_from : (v : ℕ) (l r o : Tree) → v ≤ 4 * k → Fine v (4 * k) l → Fine v (4 * k) r → Fine v (4 * k + 11) o → Asks v (4 * k + 11) (ages_say k (ages_now k c t (eval l) (eval r) (eval o)))
    unfolding ages_say ages_now
    asks_from v l r o h fl fr fo = record {
      only = λ s u e.
          rw (
            number_agree s u (4 * k) 11 (λ i p q. e i (omega arith) q),
            eval_agree v (4 * k) l fl s u (λ i p q. e i p (omega arith)),
            eval_agree v (4 * k) r fr s u (λ i p q. e i p (omega arith)),
            age_agree v o fo s u (λ i p q. e i p (omega arith)),
          );
    }

    -- a step down at a binding's level that none of the three has passed
    pub age_step : (v : ℕ) (l r o : Tree) → v < 4 * k → Fine v (4 * k) l → Fine v (4 * k) r → Fine v (4 * k + 11) o
        → age_t k c t l r o ≡ mk v (age_t k c t (side v false l) (side v false r) (side v false o)) (age_t k c t (side v true l) (side v true r) (side v true o))
    unfolding age_t ages_say ages_now
    age_step v l r o h fl fr fo =
        tree_step (4 * k + 11) v _ (omega arith) (asks_from v l r o (omega arith) fl fr fo) ∙ ap₂ (mk v) (tree_same (4 * k + 11) _ _ (half false)) (tree_same (4 * k + 11) _ _ (half true))
      where
        half : (x : Bool) → Same (λ s. ages_say k (ages_now k c t (eval l) (eval r) (eval o)) (put s v x)) (ages_say k (ages_now k c t (eval (side v x l)) (eval (side v x r)) (eval (side v x o))))
        half x s =
            rw (
              number_agree (put s v x) s (4 * k) 11 (λ i p q. put_other s v x i (λ e. omega arith)),
              eval_side v (4 * k) x l fl s,
              eval_side v (4 * k) x r fr s,
              age_side v x o h fo s,
            )

    -- under the bindings' levels: the next age of the one that stands there
    pub age_end : (x y : Bool) (o : Tree) → Fine (4 * k) (4 * k + 11) o → age_t k c t (leaf x) (leaf y) o ≡ shown_t k (next_age c t x y (age_under k o))
    unfolding age_t ages_say ages_now
    age_end x y o f =
        tree_same (4 * k + 11) _ (λ s. is_age (number s (4 * k) 11) (next_age c t x y (age_under k o)))
        (λ s. rw (eval_leaf x s, eval_leaf y s, age_agree (4 * k) o f s (λ _. false) (λ i p q. absurd (omega arith))))
        ∙ shown_is (next_age c t x y (age_under k o))

    -- the new ages pass the test of refusal 4, whatever the old ones were
    pub age_right : (l r o : Tree) → top_age c < 2 ^ 11 → Fine 0 (4 * k) l → Fine 0 (4 * k) r → Fine 0 (4 * k + 11) o → ages_right (4 * k) (top_age c) (age_t k c t l r o) ≡ true
    unfolding age_t
    age_right l r o h fl fr fo =
        let age : Bits → Age = ages_now k c t (eval l) (eval r) (eval o) in
        let reads : Reads k age = reads_now k c t (eval l) (eval r) (eval o) (asks_eval 0 (4 * k) l fl) (asks_eval 0 (4 * k) r fr) (asks_eval 0 (4 * k + 11) o fo) in
        right_of k (top_age c) 0 (tree_of (4 * k + 11) (ages_say k age)) (fine_of (4 * k + 11) (ages_say k age))
        (subst (OneAge k (top_age c)) (sym (fun_ext (eval_of (4 * k + 11) (ages_say k age) (asks_ages k age reads))))
        (ages_one k (top_age c) h age reads (λ u. unfold ages_now in next_most c t (eval l u) (eval r u) (age_at k (eval o) u))))

    -- the row's diagram is got from its new ages
    pub row_ripe : (l r o : Tree) → top_age c < 2 ^ 11 → Fine 0 (4 * k) l → Fine 0 (4 * k) r → Fine 0 (4 * k + 11) o
        → tree_of (4 * k) (λ s. ripe c (ages_now k c t (eval l) (eval r) (eval o) s)) ≡ ripe_t k c (age_t k c t l r o)
    unfolding ripe_t age_t
    row_ripe l r o h fl fr fo =
        let age : Bits → Age = ages_now k c t (eval l) (eval r) (eval o) in
        let reads : Reads k age = reads_now k c t (eval l) (eval r) (eval o) (asks_eval 0 (4 * k) l fl) (asks_eval 0 (4 * k) r fr) (asks_eval 0 (4 * k + 11) o fo) in
        tree_same (4 * k) _ _ (λ s. ap (ripe c) (sym
        (ap (λ (g : Function). age_at k g s) (fun_ext (eval_of (4 * k + 11) (ages_say k age) (asks_ages k age reads)))
        ∙ age_shown k (top_age c) h age reads (λ u. unfold ages_now in next_most c t (eval l u) (eval r u) (age_at k (eval o) u)) s)))

  -- the row's diagram from its ages: a step down, and the end
  pub ripe_step : (c : Limit) (v : ℕ) (o : Tree) → v < 4 * k → Fine v (4 * k + 11) o → ripe_t k c o ≡ mk v (ripe_t k c (side v false o)) (ripe_t k c (side v true o))
  unfolding ripe_t
  ripe_step c v o h f =
      tree_step (4 * k) v _ h (record { only = λ s u e. ap (ripe c) (age_agree v o f s u e) })
      ∙ ap₂ (mk v) (tree_same (4 * k) _ _ (λ s. ap (ripe c) (sym (age_side v false o h f s)))) (tree_same (4 * k) _ _ (λ s. ap (ripe c) (sym (age_side v true o h f s))))

  pub ripe_end : (c : Limit) (o : Tree) → Fine (4 * k) (4 * k + 11) o → ripe_t k c o ≡ leaf (ripe c (age_under k o))
  unfolding ripe_t
  ripe_end c o f =
      tree_one (4 * k) _ (record { only = λ s u e. ap (ripe c) (age_agree (4 * k) o f s u (λ i p q. absurd (omega arith))) }) (leaf (ripe c (age_under k o))) (fine_leaf 0 (4 * k) _)
      (λ s. eval_leaf (ripe c (age_under k o)) s ∙ ap (ripe c) (age_agree (4 * k) o f (λ _. false) s (λ i p q. absurd (omega arith))))

  -- the age that the diagram of an age shows
  pub age_of_law : (n : ℕ) → n < 2 ^ 11 → (s : Bits) → age_at k (eval (age_diagram (4 * k) n)) s ≡ aged n
  unfolding ages_say is_age
  age_of_law n h s = ap (λ (g : Function). age_at k g s) (fun_ext (λ u. says_age k n u)) ∙ age_shown k n h (λ u. aged n) (λ u v e. refl) (λ u. omega arith) s

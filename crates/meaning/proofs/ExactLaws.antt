-- Each refusal is given exactly if its sentence holds and none of the earlier ones. Assumes nothing.
use Prim.Native.Nat.{ℕ, zero, suc, ◌-◌, ◌*◌, ◌%◌, ◌<◌}
use mathlib.Core.Path.{◌≡◌, refl, ap, sym}
use mathlib.Core.Bool.{Bool, true, false, not, ◌&&◌, ◌||◌}
use mathlib.Core.List.{List, [], ◌∷◌}
use mathlib.Core.Logic.{◌↔◌, ◌≢◌, ◌⊎◌, inl, inr, ⊎_elim}
use native.Mathlib.Omega.{arith}
use lib.Dec.{eqb, ltb, leb}
use lib.ListN.{length, get_or}
use borrow.Author.Tests.{eqb-true, eqb-false, eq-eqb, ne_eqb, ltb-true, ltb-false, leb-false, lt-ltb, lt-leb, le-ltb}
use Rattle.trees.proofs.Tests.{lt_or_ge, false_true}
use Rattle.trees.proofs.KeptLaws.{all_at, all_fails, not_false}
use Rattle.meaning.specs.declared.Event.{Event}
use Rattle.meaning.specs.declared.Fact.{Fact as Given}
use Rattle.meaning.specs.Qtl.{Argument, free}
use Rattle.meaning.specs.Rows.{Row, truth, atom, both, neg, since, previous, exists, row_fault, count_of_rows, rows_up_to, rule_of, formula_at, closed, first_below, Found, right, fault, judge_rows, check_rows}
use Rattle.meaning.specs.Numbering.{ask_facts}
use Rattle.meaning.specs.Tables.{most}
use Rattle.meaning.specs.Outcome.{k_right, capacity, nodes_right, values_right, given, facts_of, agrees, all_agree, fact_right, all_right, count_right, shortest, Machine, shows}
use Rattle.meaning.specs.Refusals.{BadK, BadShape, BadRows, BadNodes, BadValues, OtherCount, BadFact, SomeBad, Short}
use Rattle.meaning.proofs.RowsLaws.{first_none, first_some, rows_length}

-- a test that failed
pub and_false : (a b : Bool) → (a && b) ≡ false → (a ≡ false) ⊎ (b ≡ false)
and_false true b e = inr e
and_false false b e = inl refl

and_false_l : (a b : Bool) → a ≡ false → (a && b) ≡ false
and_false_l a b e = rw e

and_false_r : (a b : Bool) → b ≡ false → (a && b) ≡ false
and_false_r true b e = e
and_false_r false b e = refl

-- within bounds, as a test
range_bad : (lo hi n : ℕ) → (ltb lo n && leb n hi) ≡ false → (n < suc lo) ⊎ (hi < n)
range_bad lo hi n e = ⊎_elim (λ p. inl (let q = ltb-false lo n p in omega arith)) (λ p. inr (leb-false n hi p)) (and_false (ltb lo n) (leb n hi) e)

bad_range : (lo hi n : ℕ) → (n < suc lo) ⊎ (hi < n) → (ltb lo n && leb n hi) ≡ false
bad_range lo hi n (inl p) = and_false_l (ltb lo n) (leb n hi) (le-ltb lo n (omega arith))
bad_range lo hi n (inr p) = and_false_r (ltb lo n) (leb n hi) (lt-leb n hi p)

-- 1
pub k_bad : (k : ℕ) → (k_right k ≡ false) ↔ BadK k
unfolding k_right
k_bad k = (range_bad 0 10 k, bad_range 0 10 k)

-- 2
shape : List ℕ → Bool
shape raw = eqb (length raw % 9) 0 && (ltb 0 (count_of_rows raw) && leb (count_of_rows raw) 64)

shape_bad : (raw : List ℕ) → (shape raw ≡ false) ↔ BadShape raw
unfolding shape
shape_bad raw = (
  λ e. ⊎_elim (λ p. inl (eqb-false (length raw % 9) 0 p)) (λ p. inr (range_bad 0 64 (count_of_rows raw) p)) (and_false (eqb (length raw % 9) 0) _ e),
  ⊎_elim (λ p. and_false_l (eqb (length raw % 9) 0) _ (ne_eqb (length raw % 9) 0 p)) (λ p. and_false_r (eqb (length raw % 9) 0) _ (bad_range 0 64 (count_of_rows raw) p)),
)

-- what the check of the rows found
pub data RowsFound (raw : List ℕ) : Found → Type 0 where
  well : ((p : ℕ) → BadRows raw p → ⊥) → RowsFound raw right
  ill : (p : ℕ) → BadRows raw p → ((q : ℕ) → BadRows raw q → q ≡ p) → RowsFound raw (fault p)

open_last : (raw : List ℕ) → closed (rule_of raw) ≡ false → (v : ℕ) × (v < 4) × (free (formula_at (rule_of raw) (count_of_rows raw - 1)) v ≡ true)
unfolding closed rule_of
open_last raw e =
    let f = all_fails 4 (λ v. not (free (formula_at (rows_up_to raw (count_of_rows raw)) (count_of_rows raw - 1)) v)) (rw (rows_length raw (count_of_rows raw)) at e) in
    (f.0, f.1, flip _ f.2)
  where
    flip : (b : Bool) → not b ≡ false → b ≡ true
    flip true e = refl
    flip false e = sym e

closed_last : (raw : List ℕ) → closed (rule_of raw) ≡ true → (v : ℕ) → v < 4 → free (formula_at (rule_of raw) (count_of_rows raw - 1)) v ≡ false
unfolding closed rule_of
closed_last raw e v h =
    not_false _ (all_at 4 (λ v. not (free (formula_at (rows_up_to raw (count_of_rows raw)) (count_of_rows raw - 1)) v)) (rw (rows_length raw (count_of_rows raw)) at e) v h)

pub rows_found : (raw : List ℕ) → RowsFound raw (check_rows raw)
unfolding check_rows judge_rows shape
rows_found raw = go (shape raw) refl (ltb I n) refl (closed (rule_of raw)) refl
  where
    n : ℕ
    n = count_of_rows raw

    I : ℕ
    I = first_below (count_of_rows raw) (row_fault raw)

    good : shape raw ≡ true → BadShape raw → ⊥
    good e b = false_true ((shape_bad raw).1 b) e

    go : (a : Bool) → shape raw ≡ a → (b : Bool) → ltb I n ≡ b → (c : Bool) → closed (rule_of raw) ≡ c → RowsFound raw (judge_rows a b c I n)
    go false e b f c g = ill 0 (inl (refl, (shape_bad raw).0 e)) one
      where
        one : (q : ℕ) → BadRows raw q → q ≡ 0
        one q (inl z) = z.0
        one q (inr (inl z)) = absurd (z.shape ((shape_bad raw).0 e))
        one q (inr (inr z)) = absurd (z.shape ((shape_bad raw).0 e))
    go true e true f c g = ill I (inr (inl (record { shape = good e; inside = ltb-true I n f; faulty = first_some n (row_fault raw) (ltb-true I n f); first = first_none n (row_fault raw) }))) one
      where
        one : (q : ℕ) → BadRows raw q → q ≡ I
        one q (inl z) = absurd (good e z.1)
        one q (inr (inl z)) = ⊎_elim
            (λ l. absurd (false_true (first_none n (row_fault raw) q l) z.faulty))
            (λ l. ⊎_elim (λ r. absurd (false_true (z.first I r) (first_some n (row_fault raw) (ltb-true I n f)))) (λ r. omega arith) (lt_or_ge I q))
            (lt_or_ge q I)
        one q (inr (inr z)) = absurd (false_true (z.none I (ltb-true I n f)) (first_some n (row_fault raw) (ltb-true I n f)))
    go true e false f false g =
        let v = open_last raw g in
        ill (n - 1) (inr (inr (record { shape = good e; none = λ i h. first_none n (row_fault raw) i (omega (arith, ltb-false I n f)); last = refl; variable = v.0; bound = v.1; is_free = v.2 }))) one
      where
        one : (q : ℕ) → BadRows raw q → q ≡ n - 1
        one q (inl z) = absurd (good e z.1)
        one q (inr (inl z)) = absurd (false_true (first_none n (row_fault raw) q (let y = z.inside in omega (arith, ltb-false I n f))) z.faulty)
        one q (inr (inr z)) = z.last
    go true e false f true g = well none
      where
        none : (q : ℕ) → BadRows raw q → ⊥
        none q (inl z) = good e z.1
        none q (inr (inl z)) = false_true (first_none n (row_fault raw) q (let y = z.inside in omega (arith, ltb-false I n f))) z.faulty
        none q (inr (inr z)) = false_true (closed_last raw g z.variable z.bound) z.is_free

-- 3
pub nodes_bad : (nodes : List ℕ) → (nodes_right nodes ≡ false) ↔ BadNodes nodes
unfolding nodes_right
nodes_bad nodes = (
  λ e. ⊎_elim (λ p. inl (eqb-false (length nodes % 3) 0 p)) (λ p. inr (range_bad 0 4096 (capacity nodes) p)) (and_false (eqb (length nodes % 3) 0) _ e),
  ⊎_elim (λ p. and_false_l (eqb (length nodes % 3) 0) _ (ne_eqb (length nodes % 3) 0 p)) (λ p. and_false_r (eqb (length nodes % 3) 0) _ (bad_range 0 4096 (capacity nodes) p)),
)

pub values_bad : (k : ℕ) (values : List ℕ) → (values_right k values ≡ false) ↔ BadValues k values
unfolding values_right
values_bad k values = (eqb-false (length values) (4 * most k), ne_eqb (length values) (4 * most k))

pub either_bad : (a b : Bool) (P Q : Type 0) → ((a ≡ false) ↔ P) → ((b ≡ false) ↔ Q) → ((a && b) ≡ false) ↔ (P ⊎ Q)
either_bad a b P Q p q = (
  λ e. ⊎_elim (λ z. inl (p.0 z)) (λ z. inr (q.0 z)) (and_false a b e),
  ⊎_elim (λ z. and_false_l a b (p.1 z)) (λ z. and_false_r a b (q.1 z)),
)

-- 5
agrees_fails : (e : Given) (r : Row) → agrees e r ≡ false → (gs : List Argument) × (r ≡ atom e.predicate gs) × (length gs ≢ e.count)
unfolding agrees
agrees_fails e truth h = absurd (false_true h refl)
agrees_fails e (atom p gs) h = go (eqb e.predicate p) refl h
  where
    go : (t : Bool) → eqb e.predicate p ≡ t → (not t || eqb (length gs) e.count) ≡ false → (hs : List Argument) × (atom p gs ≡ atom e.predicate hs) × (length hs ≢ e.count)
    go true q z = (gs, ap (λ (x : ℕ). atom x gs) (sym (eqb-true e.predicate p q)), eqb-false (length gs) e.count z)
    go false q z = absurd (false_true z refl)
agrees_fails e (both l r) h = absurd (false_true h refl)
agrees_fails e (neg r) h = absurd (false_true h refl)
agrees_fails e (since l r) h = absurd (false_true h refl)
agrees_fails e (previous r) h = absurd (false_true h refl)
agrees_fails e (exists x r) h = absurd (false_true h refl)

all_agree_fails : (e : Given) (rs : List Row) → all_agree e rs ≡ false → (i : ℕ) × (i < length rs) × (agrees e (get_or rs i truth) ≡ false)
unfolding all_agree
all_agree_fails e [] h = absurd (false_true h refl)
all_agree_fails e (r ∷ rs) h = ⊎_elim
    (λ p. (0, omega arith, p))
    (λ p. let i = all_agree_fails e rs p in (suc i.0, omega (arith, i.1), i.2))
    (and_false (agrees e r) (all_agree e rs) h)

all_agree_at : (e : Given) (rs : List Row) (i : ℕ) → i < length rs → agrees e (get_or rs i truth) ≡ false → all_agree e rs ≡ false
unfolding all_agree
all_agree_at e [] i h p = absurd (omega arith)
all_agree_at e (r ∷ rs) zero h p = and_false_l (agrees e r) (all_agree e rs) p
all_agree_at e (r ∷ rs) (suc i) h p = and_false_r (agrees e r) (all_agree e rs) (all_agree_at e rs i (omega arith) p)

agrees_other : (e : Given) (gs : List Argument) → length gs ≢ e.count → agrees e (atom e.predicate gs) ≡ false
unfolding agrees
agrees_other e gs h = rw (eq-eqb e.predicate e.predicate refl, ne_eqb (length gs) e.count h)

fact_bad : (rows : List ℕ) (e : Given) → (fact_right (rule_of rows) e ≡ false) ↔ BadFact rows e
unfolding fact_right rule_of
fact_bad rows e = either_bad (leb e.count 3) (all_agree e (rows_up_to rows (count_of_rows rows))) (3 < e.count) (OtherCount rows e)
    (leb-false e.count 3, lt-leb e.count 3) (there, back)
  where
    there : all_agree e (rows_up_to rows (count_of_rows rows)) ≡ false → OtherCount rows e
    there h =
        let i = all_agree_fails e (rows_up_to rows (count_of_rows rows)) h in
        let a = agrees_fails e (get_or (rows_up_to rows (count_of_rows rows)) i.0 truth) i.2 in
        record { place = i.0; inside = omega (arith, i.1, rows_length rows (count_of_rows rows)); arguments = a.0; row_is = a.1; differs = a.2 }

    back : OtherCount rows e → all_agree e (rows_up_to rows (count_of_rows rows)) ≡ false
    back o = all_agree_at e (rows_up_to rows (count_of_rows rows)) o.place (let z = o.inside in omega (arith, rows_length rows (count_of_rows rows))) (rw o.row_is (agrees_other e o.arguments o.differs))

facts_bad : (rows : List ℕ) (fs : List Given) → (all_right (rule_of rows) fs ≡ false) ↔ SomeBad rows fs
unfolding all_right
facts_bad rows [] = (λ h. false_true h refl, λ z. absurd z)
facts_bad rows (f ∷ fs) = either_bad (fact_right (rule_of rows) f) (all_right (rule_of rows) fs) _ _ (fact_bad rows f) (facts_bad rows fs)

pub count_bad : (rows : List ℕ) (e : Event) → (count_right (rule_of rows) e ≡ false) ↔ ((8 < e.count) ⊎ SomeBad rows (given e))
unfolding count_right
count_bad rows e = either_bad (leb e.count 8) (all_right (rule_of rows) (given e)) _ _ (leb-false e.count 8, lt-leb e.count 8) (facts_bad rows (given e))

-- 6
pub short_found : (rows : List ℕ) (m : Machine) (e : Event) → let v = shortest m.state.k (rule_of rows) (shows rows m) (facts_of e) in
    (v < 4 → Short rows m e v) × ((w : ℕ) → Short rows m e w → (v < 4) × (w ≡ v))
unfolding shortest
short_found rows m e = (
  λ h. record { bound = h; over = ltb-true _ _ (first_some 4 f h); lowest = λ w q. ltb-false _ _ (first_none 4 f w q) },
  λ w z. ⊎_elim
      (λ q. absurd (false_true (first_none 4 f w q) (lt-ltb _ _ z.over)))
      (λ q. ⊎_elim
      (λ r. absurd (false_true (le-ltb _ _ (z.lowest (first_below 4 f) r)) (first_some 4 f (let y = z.bound in omega arith))))
      (λ r. (let y = z.bound in omega arith, omega arith))
      (lt_or_ge (first_below 4 f) w))
      (lt_or_ge w (first_below 4 f)),
)
  where
    f : ℕ → Bool
    f v = ltb (most m.state.k) (length (ask_facts (facts_of e) (shows rows m).lists (rule_of rows) v))

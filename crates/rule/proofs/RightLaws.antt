-- Laws of the row rules: a row is right exactly if the tests that the code makes of its numbers say so. Assumes nothing.
use Prim.Native.Nat.{ℕ, min, ◌+◌, ◌*◌, ◌≤◌, ◌<◌}
use mathlib.Core.Path.{◌≡◌, refl, ap, sym, ◌∙◌}
use mathlib.Core.Bool.{Bool, true, false, not, ◌&&◌, and-false}
use mathlib.Core.List.{List}
use mathlib.Core.Logic.{⊎_elim}
use native.Mathlib.Omega.{arith}
use lib.Dec.{eqb, ltb}
use borrow.Author.Tests as Tests
use borrow.Author.Tests.{eq-eqb, ne_eqb, eqb-true, eqb-false, lt-ltb, le-leb, lt-leb}
use Rattle.trees.specs.Kept.{all_below}
use Rattle.trees.proofs.Tests.{EqCase, equal, other, eq_case, lt_or_ge, false_true, not_true, and_true_l, and_true_r}
use Rattle.trees.proofs.KeptLaws.{all_at, all_of}
use Rattle.meaning.specs.Rows.{field, Use, use_of, field_right, pairs_used, pair_right, row_right, disagree}
use Rattle.rule.specs.declared.right.Use.{Use as Entry}
use Rattle.rule.specs.Table.{entry, used_as, used_pairs}
use Rattle.rule.specs.Checking.{pairs_right, agrees_before, atom_of, other_count}
use Rattle.rule.proofs.TableLaws.{entry_use}

-- the pair at place j of the row at place i, of which the first n are used
abbrev pub pair_at : List ℕ → ℕ → ℕ → ℕ → Bool
pair_at raw i n j = pair_right (ltb j n) (field raw i (3 + 2 * j)) (field raw i (4 + 2 * j))

-- a field whose use was looked up
pub field_read : (i x kind f : ℕ) {u : Entry} {r : Bool} → f < 2 → u ≡ entry kind f → r ≡ field_right i (used_as u) x → r ≡ field_right i (use_of kind f) x
field_read i x kind f l h e = e ∙ ap (λ (how : Use). field_right i how x) (ap used_as h ∙ entry_use kind f l)

-- a row of kind 0
pub row_low : (raw : List ℕ) (i : ℕ) {k : ℕ} → k ≡ field raw i 0 → k ≡ 0 → false ≡ row_right raw i
unfolding row_right
row_low raw i e h = rw (← e, h)

-- a row of a kind over 7
pub row_high : (raw : List ℕ) (i : ℕ) {k : ℕ} → k ≡ field raw i 0 → 7 < k → false ≡ row_right raw i
unfolding row_right
row_high raw i {k} e h = rw (← e, lt-leb k 7 h, and-false (ltb 0 k))

-- a row of one of the kinds
pub row_parts : (raw : List ℕ) (i : ℕ) {k p q : ℕ} {a b : Bool} → k ≡ field raw i 0 → p ≡ field raw i 1 → q ≡ field raw i 2 → 0 < k → k ≤ 7
    → a ≡ field_right i (use_of k 0) p → b ≡ field_right i (use_of k 1) q → row_right raw i ≡ ((a && b) && pairs_right raw i (used_pairs k q))
unfolding row_right pairs_right pairs_used used_pairs
row_parts raw i {k} ek ep eq l h ea eb = rw (← ek, ← ep, ← eq, lt-ltb 0 k l, le-leb k 7 h, ← ea, ← eb)

-- two atoms of one predicate, with different counts
record Differ (raw : List ℕ) (i j : ℕ) : Type 0 where
  one : field raw i 0 ≡ 2
  two : field raw j 0 ≡ 2
  same : field raw i 1 ≡ field raw j 1
  counts : field raw i 2 ≡ field raw j 2 → ⊥

differ_of : (raw : List ℕ) (i j : ℕ) → disagree raw i j ≡ true → Differ raw i j
unfolding disagree
differ_of raw i j e =
    let k = eqb (field raw i 0) 2 in
    let l = eqb (field raw j 0) 2 in
    let p = eqb (field raw i 1) (field raw j 1) in
    let q = eqb (field raw i 2) (field raw j 2) in
    let kinds = and_true_l (k && l) (p && not q) e in
    let rest = and_true_r (k && l) (p && not q) e in
    record {
      one = eqb-true (field raw i 0) 2 (and_true_l k l kinds);
      two = eqb-true (field raw j 0) 2 (and_true_r k l kinds);
      same = eqb-true (field raw i 1) (field raw j 1) (and_true_l p (not q) rest);
      counts = eqb-false (field raw i 2) (field raw j 2) (Tests.not-true q (and_true_r p (not q) rest));
    }

of_differ : (raw : List ℕ) (i j : ℕ) → Differ raw i j → disagree raw i j ≡ true
unfolding disagree
of_differ raw i j d = rw (eq-eqb (field raw i 0) 2 d.one, eq-eqb (field raw j 0) 2 d.two, eq-eqb (field raw i 1) (field raw j 1) d.same, ne_eqb (field raw i 2) (field raw j 2) d.counts)

-- every earlier row agrees
agrees_before_law : (raw : List ℕ) (i : ℕ) → ((j : ℕ) → j < i → Differ raw i j → ⊥) → true ≡ agrees_before raw i
unfolding agrees_before
agrees_before_law raw i h = sym (all_of i (λ j. not (disagree raw i j)) (λ j l. rw (not_true (disagree raw i j) (λ e. h j l (differ_of raw i j e)))))

-- an earlier row that disagrees
not_before : (raw : List ℕ) (i j : ℕ) → j < i → Differ raw i j → false ≡ agrees_before raw i
unfolding agrees_before
not_before raw i j l d =
    sym (not_true (all_below i (λ j. not (disagree raw i j))) (λ e. false_true refl (rw (of_differ raw i j d) at (all_at i (λ j. not (disagree raw i j)) e j l))))

-- a row that is no atom
pub no_atom : (raw : List ℕ) (i : ℕ) {k : ℕ} → k ≡ field raw i 0 → (k ≡ 2 → ⊥) → true ≡ agrees_before raw i
no_atom raw i e h = agrees_before_law raw i (λ j l d. h (e ∙ d.one))

-- the row at place i is an atom of the predicate p, and no row from j on, before it, is one
module _ (raw : List ℕ) (i j p : ℕ) (is : p ≡ field raw i 1) (none : (k : ℕ) → j ≤ k → k < i → atom_of raw k p ≡ false) where
  apart : (k : ℕ) → j ≤ k → k < i → Differ raw i k → ⊥
  unfolding atom_of
  apart k h l d = false_true (none k h l) (rw (eq-eqb (field raw k 0) 2 d.two, eq-eqb p (field raw k 1) (is ∙ d.same)))

  pub first_atom : j ≡ 0 → true ≡ agrees_before raw i
  first_atom z = agrees_before_law raw i (λ k l. apart k (omega arith) l)

-- the nearest atom of its predicate before the row at place i decides, where that one agrees with all before it
pub nearest_atom : (raw : List ℕ) (i j p : ℕ) {q s : ℕ} → field raw i 0 ≡ 2 → p ≡ field raw i 1 → j < i → ((k : ℕ) → j < k → k < i → atom_of raw k p ≡ false)
    → atom_of raw j p ≡ true → agrees_before raw j ≡ true → q ≡ field raw j 2 → s ≡ field raw i 2 → eqb q s ≡ agrees_before raw i
unfolding atom_of
nearest_atom raw i j p two is l none here before eq es = rw (eq, es) (go (eqb (field raw j 2) (field raw i 2)) (eq_case (field raw j 2) (field raw i 2)))
  where
    kind : field raw j 0 ≡ 2
    kind = eqb-true (field raw j 0) 2 (and_true_l (eqb (field raw j 0) 2) (eqb p (field raw j 1)) here)

    same : p ≡ field raw j 1
    same = eqb-true p (field raw j 1) (and_true_r (eqb (field raw j 0) 2) (eqb p (field raw j 1)) here)

    go : (t : Bool) → EqCase (field raw j 2) (field raw i 2) t → t ≡ agrees_before raw i
    go false (other h) = not_before raw i j l (record { one = two; two = kind; same = sym is ∙ same; counts = λ e. h (sym e) })
    go true (equal e) = agrees_before_law raw i (λ k h d. ⊎_elim
        (λ q. false_true (sym (not_before raw j k q (record { one = kind; two = d.two; same = sym same ∙ (is ∙ d.same); counts = λ f. d.counts (sym e ∙ f) }))) before)
        (λ q. ⊎_elim
        (λ r. apart raw i (j + 1) p is (λ m u v. none m (omega arith) v) k (omega arith) h d)
        (λ r. let z : k ≡ j = omega arith in d.counts (rw z (sym e)))
        (lt_or_ge j k))
        (lt_or_ge k j))

-- an atom with another count
pub other_parts : (raw : List ℕ) (i p n : ℕ) {t : Bool} {q : ℕ} → t ≡ atom_of raw i p → q ≡ field raw i 2 → other_count raw i p n ≡ (t && not (eqb (min q 3) n))
unfolding other_count
other_parts raw i p n e f = rw (e, f)

-- Laws of the first binding: it is found variable by variable, and there is only one. Assumes nothing.
use Prim.Native.Nat.{ℕ, zero, suc, ◌+◌, ◌*◌, ◌≤◌, ◌<◌}
use mathlib.Core.Path.{◌≡◌, refl, sym, ◌∙◌}
use mathlib.Core.Bool.{Bool, true}
use mathlib.Core.List.{List}
use mathlib.Core.Logic.{◌≢◌, ◌⊎◌, inl, inr, ⊎_elim}
use native.Mathlib.Nat.{eq-or-lt_of_le, mul-le-mul_right}
use native.Mathlib.Omega.{arith}
use lib.ListN.{length, get_or, set, replicate, length-set, length-replicate, get_or-replicate, get_or-eq_default}
use lib.Seq.{ext_get_or, get_or-set_same, get_or-set_other}
use Rattle.trees.specs.Bits.{Bits, Function, number}
use Rattle.trees.specs.Tree.{Tree, off, eval, Fine}
use Rattle.trees.specs.Table.{at, trees_of}
use Rattle.trees.proofs.CanonicalLaws.{zeros_at}
use Rattle.trees.proofs.Tests.{lt_or_ge}
use Rattle.std.specs.Prelude.{Option, None}
use Rattle.trees.proofs.BitsLaws.{Outside, number_agree, number_lt, write, write_outside, write_number}
use Rattle.nodes.specs.Nodes.{Table}
use Rattle.binding.specs.First.{Order, shown, Shows, First}
use Rattle.binding.specs.Fixing.{Meets, Free, can, Fixes}
use Rattle.binding.proofs.CanLaws.{clash, can_some, can_free}

-- different variables have different levels
levels_apart : (k u v l : ℕ) → u ≢ v → u * k ≤ l → l < u * k + k → (l < v * k) ⊎ (v * k + k ≤ l)
levels_apart k u v l n p q = ⊎_elim
    (λ h. let m : suc u * k ≤ v * k = mul-le-mul_right k h in inl (omega arith))
    (λ h. let m : suc v * k ≤ u * k = mul-le-mul_right k (above h) in inr (omega arith))
    (lt_or_ge u v)
  where
    above : v ≤ u → suc v ≤ u
    above h = omega arith

-- two first bindings are the same
module _ (k : ℕ) (g : Function) (vs : List ℕ) (count : ℕ) (ms ns : List ℕ) (f : First k g vs count ms) (h : First k g vs count ns) where
  alike : (n : ℕ) → n ≤ count → (i : ℕ) → i < n → get_or ms i 0 ≡ get_or ns i 0
  alike zero p i q = absurd (omega arith)
  alike (suc n) p i q = ⊎_elim
      (λ e. last i (omega arith) (alike n (omega arith)))
      (λ e. alike n (omega arith) i (omega arith))
      (eq-or-lt_of_le q)
    where
      last : (i : ℕ) → i ≡ n → ((j : ℕ) → j < n → get_or ms j 0 ≡ get_or ns j 0) → get_or ms i 0 ≡ get_or ns i 0
      last i e r =
          let s = f.some in
          let t = h.some in
          let a = f.least n (omega arith) t.0 (record { each = λ j z. t.1.each j (omega arith) ∙ sym (r j z) }) t.2 in
          let b = h.least n (omega arith) s.0 (record { each = λ j z. s.1.each j (omega arith) ∙ r j z }) s.2 in
          rw e (omega (arith, a, b, t.1.each n (omega arith), s.1.each n (omega arith)))

  pub first_one : (i : ℕ) → i < count → get_or ms i 0 ≡ get_or ns i 0
  first_one i q = alike count (omega arith) i q

  -- so two answers, 0 past them, are the same
  pub one_answer : length ms ≡ length ns → ((i : ℕ) → count ≤ i → get_or ms i 0 ≡ 0) → ((i : ℕ) → count ≤ i → get_or ns i 0 ≡ 0) → ms ≡ ns
  one_answer size a b = ext_get_or 0 ms ns size (λ i l. ⊎_elim (first_one i) (λ q. a i q ∙ sym (b i q)) (lt_or_ge i count))

-- a function that asks only the variables of the order holds for all bits that show its first binding
pub first_holds : (k : ℕ) (g : Function) (vs : List ℕ) (count : ℕ) (ms : List ℕ) → First k g vs count ms
    → ((s t : Bits) → ((i : ℕ) → i < count → shown k vs s i ≡ shown k vs t i) → g s ≡ g t) → (s : Bits) → Shows k vs ms count s → g s ≡ true
first_holds k g vs count ms f asks s w = let t = f.some in asks s t.0 (λ i h. w.each i h ∙ sym (t.1.each i h)) ∙ t.2

-- a variable that the function does not ask gets 0
pub unasked_zero : (k : ℕ) (g : Function) (vs : List ℕ) (count : ℕ) (ms : List ℕ) → Order vs count → First k g vs count ms → (i : ℕ) → i < count
    → ((s t : Bits) → Outside (get_or vs i 0 * k) k s t → g s ≡ g t) → get_or ms i 0 ≡ 0
unfolding shown
unasked_zero k g vs count ms o f i h ignores =
    let v = get_or vs i 0 in
    let s = f.some.0 in
    let t = write s (v * k) k 0 in
    let out : Outside (v * k) k s t = λ l p. sym (write_outside s (v * k) k 0 l p) in
    let z = write_number s (v * k) k 0 (omega (arith, number_lt s (v * k) k)) in
    let others : Shows k vs ms i t = record {
      each = λ j q. sym (number_agree s t (get_or vs j 0 * k) k (λ l a b. out l (levels_apart k (get_or vs j 0) v l (λ e. o.differ i j h q (sym e)) a b))) ∙ f.some.1.each j (omega arith);
    } in
    omega (arith, z, f.least i h t others (sym (ignores s t out) ∙ f.some.2))

-- the first i variables are bound
pub record Going (d : Tree) (k : ℕ) (vs : List ℕ) (count i : ℕ) (fs : List (Option Bool)) (ms : List ℕ) : Type 0 where
  pub size : length fs ≡ 40
  pub four : length ms ≡ 4
  pub met : (s : Bits) → Meets fs s → Shows k vs ms i s
  pub meets : (s : Bits) → Shows k vs ms i s → Meets fs s
  pub can_still : can fs d ≡ true
  pub least : (j : ℕ) → j < i → (t : Bits) → Shows k vs ms j t → eval d t ≡ true → get_or ms j 0 ≤ shown k vs t j
  pub free : (j : ℕ) → i ≤ j → j < count → Free (get_or vs j 0 * k) k fs
  pub past : (j : ℕ) → i ≤ j → get_or ms j 0 ≡ 0

-- all levels are open
abbrev open_all : List (Option Bool)
open_all = replicate 40 None

open_at : (i : ℕ) → get_or open_all i None ≡ None
open_at i = ⊎_elim
    (λ h. get_or-replicate 40 i None None h)
    (λ h. get_or-eq_default open_all None {n = i} (rw (length-replicate {A = Option Bool} 40 None) h))
    (lt_or_ge i 40)

-- a reference other than 0 leads to a diagram other than no
pub not_no : {ns : List ℕ} {kept p : ℕ} → Table ns kept → 0 < p → p < kept + 2 → at (trees_of ns kept) p ≢ off
unfolding at
not_no {p = p} t pos h e = let z = t.one p 0 h (omega arith) e in omega arith

-- none is bound, and a diagram other than no can say yes
pub going_none : (d : Tree) (k : ℕ) (vs : List ℕ) (count hi : ℕ) → Fine 0 hi d → d ≢ off → Going d k vs count 0 open_all (replicate 4 0)
going_none d k vs count hi fine some = record {
  size = refl;
  four = refl;
  met = λ s w. record { each = λ i h. absurd (omega arith) };
  meets = λ s w. record { each = λ l x e. absurd (clash (sym (open_at l) ∙ e)) };
  can_still = can_free open_all open_at 0 hi d fine some;
  least = λ j h t w e. absurd (omega arith);
  free = λ j p q. record { each = λ l a b. open_at l };
  past = λ j h. zeros_at 4 j;
}

-- the same, with other words for the count
pub going_same : {d : Tree} {k : ℕ} {vs : List ℕ} {count i j : ℕ} {fs : List (Option Bool)} {ms : List ℕ} → i ≡ j → Going d k vs count i fs ms → Going d k vs count j fs ms
going_same e g = rw (← e) g

-- one variable more is bound
module _ {d : Tree} {k : ℕ} {vs : List ℕ} {count i : ℕ} {fs fs' : List (Option Bool)} {ms : List ℕ} {m : ℕ} (order : Order vs count) (h : i < count) (four : count ≤ 4)
    (g : Going d k vs count i fs ms) (f : Fixes d (get_or vs i 0 * k) k fs fs' m) where
  own : get_or (set ms i m) i 0 ≡ m
  own = get_or-set_same ms i m 0 (omega (arith, h, four, g.four))

  other : (j : ℕ) → j < i → get_or (set ms i m) j 0 ≡ get_or ms j 0
  other j q = get_or-set_other ms i j m 0 (λ e. omega arith)

  -- the numbers before are the same
  before : (j : ℕ) → j ≤ i → (s : Bits) → Shows k vs (set ms i m) j s → Shows k vs ms j s
  before j q s w = record { each = λ a p. w.each a p ∙ other a (omega arith) }

  pub going_more : Going d k vs count (i + 1) fs' (set ms i m)
  unfolding shown
  going_more = record {
    size = f.size ∙ g.size;
    four = length-set ms i m ∙ g.four;
    met = λ s w. let p = f.met s w in record { each = λ j q. tells s (g.met s p.0) p.1 j q };
    meets = λ s w. f.meets s (g.meets s (before i (omega arith) s (record { each = λ j q. w.each j (omega arith) }))) (w.each i (omega arith) ∙ own);
    can_still = f.can_still;
    least = λ j q t w e. low j q t w e;
    free = λ j p q. record {
      each = λ l a b. f.rest l (levels_apart k (get_or vs j 0) (get_or vs i 0) l (order.differ j i q (omega arith)) a b) ∙ (g.free j (omega arith) q).each l a b;
    };
    past = λ j p. get_or-set_other ms i j m 0 (λ e. omega arith) ∙ g.past j (omega arith);
  }
    where
      tells : (s : Bits) → Shows k vs ms i s → number s (get_or vs i 0 * k) k ≡ m → (j : ℕ) → j < i + 1 → number s (get_or vs j 0 * k) k ≡ get_or (set ms i m) j 0
      tells s w e j q = ⊎_elim
          (λ z. let y : j ≡ i = omega arith in rw y (e ∙ sym own))
          (λ z. w.each j (omega arith) ∙ sym (other j (omega arith)))
          (eq-or-lt_of_le q)

      low : (j : ℕ) → j < i + 1 → (t : Bits) → Shows k vs (set ms i m) j t → eval d t ≡ true → get_or (set ms i m) j 0 ≤ number t (get_or vs j 0 * k) k
      low j q t w e = ⊎_elim
          (λ z. here j (omega arith) w)
          (λ z. rw (other j (omega arith)) (g.least j (omega arith) t (before j (omega arith) t w) e))
          (eq-or-lt_of_le q)
        where
          here : (j : ℕ) → j ≡ i → Shows k vs (set ms i m) j t → get_or (set ms i m) j 0 ≤ number t (get_or vs j 0 * k) k
          here j y w = rw (y, own) (f.least t (g.meets t (before i (omega arith) t (rw y at w))) e)

-- all are bound
pub going_first : {d : Tree} {k : ℕ} {vs : List ℕ} {count : ℕ} {fs : List (Option Bool)} {ms : List ℕ} → (hi : ℕ) → Fine 0 hi d → Going d k vs count count fs ms → First k (eval d) vs count ms
going_first {d} {fs = fs} hi fine g =
    let t = can_some fs hi d fine g.can_still in
    record { some = (t.0, g.met t.0 t.1, t.2); least = g.least }

-- A fact's numbers put into a diagram over the same variables: the tree along their bits is the one of the or. Assumes nothing.
use Prim.Native.Nat.{ℕ, zero, suc, ◌+◌, ◌*◌, ◌/◌, ◌%◌, ◌^◌, ◌≤◌, ◌<◌}
use mathlib.Core.Path.{◌≡◌, refl, sym, ap, ◌∙◌}
use mathlib.Core.Bool.{Bool, true, false, cond, ◌&&◌, ◌||◌, and-true, or-true, or-false}
use mathlib.Core.List.{List}
use mathlib.Core.Logic.{⊎_elim}
use native.Mathlib.Nat.{mod-lt, div-eq_of_lt-le, div-lt_iff_lt-mul}
use native.Mathlib.Numerals.{add-one}
use native.Mathlib.Omega.{arith}
use lib.Dec.{eqb}
use lib.ListN.{get_or}
use lib.Pow.{mod-pow-add}
use borrow.Author.Tests.{eq-eqb, ne_eqb}
use Rattle.trees.specs.Bits.{Bits, Function, Same, bit, number}
use Rattle.trees.specs.Tree.{Tree, off, on, node, eval, same, Fine, mk, tree_of}
use Rattle.trees.specs.Table.{at}
use Rattle.trees.specs.Kept.{levels}
use Rattle.trees.proofs.Tests.{lt_or_ge, false_true, EqCase, equal, other, eq_case}
use Rattle.trees.proofs.Tests as tests
use Rattle.trees.proofs.TreeLaws.{side, rebuild, fine_side, node_fine, fine_node, eval_mk, eval_agree, fine_mk, fine_lower, fine_off, fine_on}
use Rattle.trees.proofs.FunctionLaws.{tree_one}
use Rattle.std.specs.Prelude.{Option, Some, None}
use Rattle.making.specs.declared.Number.{Number}
use Rattle.making.specs.Cubes.{place_says, cube_says, given, numbered, Over, SameShape, along_bits, along_place, bits_over, place_over}

-- the levels of a side are levels of the tree
levels_side : (p : ℕ → Bool) (v : ℕ) (x : Bool) (t : Tree) → levels p t ≡ true → levels p (side v x t) ≡ true
unfolding levels side
levels_side p v x off h = refl
levels_side p v x on h = refl
levels_side p v x (node l a b) h = go (eqb l v) x
  where
    rest : (levels p a && levels p b) ≡ true
    rest = tests.and_true_r (p l) (levels p a && levels p b) h

    go : (q y : Bool) → levels p (cond q (cond y b a) (node l a b)) ≡ true
    go true true = tests.and_true_r (levels p a) (levels p b) rest
    go true false = tests.and_true_l (levels p a) (levels p b) rest
    go false y = h

-- the levels of a node made of two sides
levels_mk : (p : ℕ → Bool) (l : ℕ) (a b : Tree) → p l ≡ true → levels p a ≡ true → levels p b ≡ true → levels p (mk l a b) ≡ true
unfolding levels mk
levels_mk p l a b h x y = go (same a b)
  where
    go : (q : Bool) → levels p (cond q a (node l a b)) ≡ true
    go true = x
    go false = rw (h, x, y)

-- a tree without the levels before mid begins there
fine_past : (p : ℕ → Bool) (lo mid hi : ℕ) (t : Tree) → Fine lo hi t → levels p t ≡ true → ((l : ℕ) → lo ≤ l → l < mid → p l ≡ false) → Fine mid hi t
unfolding levels
fine_past p lo mid hi off f h none = fine_off mid hi
fine_past p lo mid hi on f h none = fine_on mid hi
fine_past p lo mid hi (node l a b) f h none =
    let g = node_fine lo hi l a b f in
    ⊎_elim
    (λ k. absurd (false_true (none l g.0 k) (tests.and_true_l (p l) (levels p a && levels p b) h)))
    (λ k. fine_node mid hi l a b k g.1 g.2 g.3 g.4)
    (lt_or_ge l mid)

-- a tree's levels below hi pass another test
levels_below : (p q : ℕ → Bool) (lo hi : ℕ) (t : Tree) → Fine lo hi t → ((l : ℕ) → l < hi → p l ≡ q l) → levels p t ≡ true → levels q t ≡ true
unfolding levels
levels_below p q lo hi off f e h = refl
levels_below p q lo hi on f e h = refl
levels_below p q lo hi (node l a b) f e h =
    let g = node_fine lo hi l a b f in
    let rest = tests.and_true_r (p l) (levels p a && levels p b) h in
    tests.and_true (q l) (levels q a && levels q b) (sym (e l g.1) ∙ tests.and_true_l (p l) (levels p a && levels p b) h)
    (tests.and_true (levels q a) (levels q b)
    (levels_below p q (suc l) hi a g.2 e (tests.and_true_l (levels p a) (levels p b) rest))
    (levels_below p q (suc l) hi b g.3 e (tests.and_true_r (levels p a) (levels p b) rest)))

-- f adds what g says to a tree of the levels that pass p, from lo on and below hi
record Adds (p : ℕ → Bool) (lo hi : ℕ) (f : Tree → Tree) (g : Function) : Type 0 where
  fine : (t : Tree) → Fine lo hi t → levels p t ≡ true → Fine lo hi (f t)
  only : (t : Tree) → Fine lo hi t → levels p t ≡ true → levels p (f t) ≡ true
  says : (t : Tree) → Fine lo hi t → levels p t ≡ true → (s : Bits) → eval (f t) s ≡ (eval t s || g s)

-- past all numbers the answer is yes
adds_on : (p : ℕ → Bool) (lo hi : ℕ) → Adds p lo hi (λ t. on) (λ s. true)
unfolding eval levels
adds_on p lo hi = record { fine = λ t f h. fine_on lo hi; only = λ t f h. refl; says = λ t f h s. sym (or-true (eval t s)) }

-- levels that no tree has are passed by
adds_past : (p : ℕ → Bool) (lo mid hi : ℕ) (f : Tree → Tree) (g : Function) → lo ≤ mid → ((l : ℕ) → lo ≤ l → l < mid → p l ≡ false) → Adds p mid hi f g → Adds p lo hi f g
adds_past p lo mid hi f g le none a = record {
  fine = λ t w h. fine_lower mid hi lo (f t) le (a.fine t (fine_past p lo mid hi t w h none) h);
  only = λ t w h. a.only t (fine_past p lo mid hi t w h none) h;
  says = λ t w h s. a.says t (fine_past p lo mid hi t w h none) h s;
}

-- bits and their numbers, lowest bit apart
eqb_double : (b c x y : ℕ) → b < 2 → c < 2 → eqb (b + 2 * x) (c + 2 * y) ≡ (eqb b c && eqb x y)
eqb_double b c x y hb hc = go (eqb b c) (eqb x y) (eq_case b c) (eq_case x y)
  where
    go : (p q : Bool) → EqCase b c p → EqCase x y q → eqb (b + 2 * x) (c + 2 * y) ≡ (p && q)
    go true true (equal e) (equal f) = eq-eqb (b + 2 * x) (c + 2 * y) (omega arith)
    go true false (equal e) (other f) = ne_eqb (b + 2 * x) (c + 2 * y) (λ z. f (omega arith))
    go false true (other e) (equal f) = ne_eqb (b + 2 * x) (c + 2 * y) (λ z. e (omega arith))
    go false false (other e) (other f) = ne_eqb (b + 2 * x) (c + 2 * y) (λ z. e (omega arith))

-- the lowest bit of a number, and the rest
number_split : (s : Bits) (base k m : ℕ) → eqb (number s base (suc k)) (m % 2 ^ suc k) ≡ (eqb (bit (s base)) (m % 2) && eqb (number s (suc base) k) (m / 2 % 2 ^ k))
unfolding number
number_split s base k m =
    let e : m % 2 ^ (k + 1) ≡ m / 2 % 2 ^ k * 2 + m % 2 = mod-pow-add m k 1 in
    let g : m % 2 ^ suc k ≡ m / 2 % 2 ^ k * 2 + m % 2 = rw add-one at e in
    let f : m % 2 ^ suc k ≡ m % 2 + 2 * (m / 2 % 2 ^ k) = omega arith in
    rw f (eqb_double (bit (s base)) (m % 2) _ _ (bit_lt (s base)) (mod-lt m (omega arith)))
  where
    bit_lt : (x : Bool) → bit x < 2
    bit_lt true = omega arith
    bit_lt false = omega arith

-- what a bit that is 0 adds to two sides
even_bit : (b : Bool) (r : ℕ) (low high y z : Bool) → r ≡ 0 → cond b high (low || (y && z)) ≡ (cond b high low || ((eqb (bit b) r && y) && z))
even_bit true r low high y z e = rw (ne_eqb 1 r (omega arith)) (sym (or-false high))
even_bit false r low high y z e = rw (eq-eqb 0 r (omega arith))

-- the same of a bit that is 1
odd_bit : (b : Bool) (r : ℕ) (low high y z : Bool) → r ≡ 1 → cond b (high || (y && z)) low ≡ (cond b high low || ((eqb (bit b) r && y) && z))
odd_bit true r low high y z e = rw (eq-eqb 1 r (omega arith))
odd_bit false r low high y z e = rw (ne_eqb 0 r (omega arith)) (sym (or-false low))

-- a tree says what its sides say
eval_sides : (lo hi : ℕ) (t : Tree) → Fine lo hi t → (s : Bits) → eval t s ≡ cond (s lo) (eval (side lo true t) s) (eval (side lo false t) s)
eval_sides lo hi t f s = ap (λ (d : Tree). eval d s) (rebuild lo hi t f) ∙ eval_mk lo (side lo false t) (side lo true t) s

-- the bits of a number before what f adds
adds_bits : (p : ℕ → Bool) (hi : ℕ) (f : Tree → Tree) (g : Function) (count base top m : ℕ) → top ≡ base + count → top ≤ hi → ((l : ℕ) → base ≤ l → l < top → p l ≡ true)
    → Adds p top hi f g → Adds p base hi (λ t. bits_over base count m t (f (along_bits base count m t))) (λ s. eqb (number s base count) (m % 2 ^ count) && g s)
unfolding bits_over along_bits number
adds_bits p hi f g zero base top m e le own a =
    let z : top ≡ base = omega arith in
    let b = rw z at a in
    record { fine = b.fine; only = b.only; says = λ t w h s. b.says t w h s ∙ rw (eq-eqb 0 (m % 1) (omega arith)) }
adds_bits p hi f g (suc count) base top m e le own a =
    let next = adds_bits p hi f g count (suc base) top (m / 2) (omega arith) le (λ l x y. own l (omega arith) y) a in
    let here : p base ≡ true = own base (omega arith) (omega arith) in
    go (eqb (m % 2) 0) (eq_case (m % 2) 0) next here
  where
    go : (q : Bool) → EqCase (m % 2) 0 q
        → Adds p (suc base) hi (λ t. bits_over (suc base) count (m / 2) t (f (along_bits (suc base) count (m / 2) t))) (λ s. eqb (number s (suc base) count) (m / 2 % 2 ^ count) && g s)
        → p base ≡ true
        → Adds p base hi (λ t.
        cond q
        (mk base (bits_over (suc base) count (m / 2) (side base false t) (f (cond q (along_bits (suc base) count (m / 2) (side base false t)) (along_bits (suc base) count (m / 2) (side base true t))))) (side base true t))
        (mk base (side base false t) (bits_over (suc base) count (m / 2) (side base true t) (f (cond q (along_bits (suc base) count (m / 2) (side base false t)) (along_bits (suc base) count (m / 2) (side base true t)))))))
        (λ s. eqb (number s base (suc count)) (m % 2 ^ suc count) && g s)
    go true (equal z) next here = record {
      fine = λ t w h. fine_mk base hi _ _ (omega arith) (next.fine _ (fine_side base hi false t w) (levels_side p base false t h)) (fine_side base hi true t w);
      only = λ t w h. levels_mk p base _ _ here (next.only _ (fine_side base hi false t w) (levels_side p base false t h)) (levels_side p base true t h);
      says = λ t w h s.
          eval_mk base _ _ s
          ∙ rw (next.says _ (fine_side base hi false t w) (levels_side p base false t h) s, eval_sides base hi t w s, number_split s base count m)
          (even_bit (s base) (m % 2) _ _ _ (g s) z);
    }
    go false (other z) next here = record {
      fine = λ t w h. fine_mk base hi _ _ (omega arith) (fine_side base hi false t w) (next.fine _ (fine_side base hi true t w) (levels_side p base true t h));
      only = λ t w h. levels_mk p base _ _ here (levels_side p base false t h) (next.only _ (fine_side base hi true t w) (levels_side p base true t h));
      says = λ t w h s.
          eval_mk base _ _ s
          ∙ rw (next.says _ (fine_side base hi true t w) (levels_side p base true t h) s, eval_sides base hi t w s, number_split s base count m)
          (odd_bit (s base) (m % 2) _ _ _ (g s) (omega arith));
    }

-- a variable before what f adds
adds_place : (p : ℕ → Bool) (base k top hi : ℕ) (x : Option Number) (f : Tree → Tree) (g : Function) → top ≡ base + k → top ≤ hi → ((l : ℕ) → base ≤ l → l < top → p l ≡ given x)
    → Adds p top hi f g → Adds p base hi (λ t. place_over base k x t (f (along_place base k x t))) (λ s. place_says base k x s && g s)
adds_place p base k top hi None f g e le own a = adds_past p base top hi f g (omega arith) own a
adds_place p base k top hi (Some m) f g e le own a = adds_bits p hi f g k base top m.0 e le own a

-- the four variables, one over the other
module _ (k : ℕ) (places : List (Option Number)) where
  -- where the number of variable 0 leads
  abbrev pub first : Tree → Tree
  first t = along_place 0 k (get_or places 0 None) t

  -- then that of variable 1
  abbrev pub second : Tree → Tree
  second t = along_place k k (get_or places 1 None) (first t)

  -- then that of variable 2
  abbrev pub third : Tree → Tree
  third t = along_place (2 * k) k (get_or places 2 None) (second t)

  -- variable 3 over yes
  abbrev pub last : Tree → Tree
  last t = place_over (3 * k) k (get_or places 3 None) (third t) on

  -- variable 2 over that
  abbrev pub later : Tree → Tree
  later t = place_over (2 * k) k (get_or places 2 None) (second t) (last t)

  -- variable 1 over that
  abbrev pub early : Tree → Tree
  early t = place_over k k (get_or places 1 None) (first t) (later t)

  -- variable 0 over that
  abbrev pub tower : Tree → Tree
  tower t = place_over 0 k (get_or places 0 None) t (early t)

  -- the levels of variable v
  own : (v l : ℕ) → v * k ≤ l → l < (v + 1) * k → numbered k places l ≡ given (get_or places v None)
  unfolding numbered
  own v l a b = rw (div-eq_of_lt-le k a b)

  -- the tower adds what the numbers say
  adds_tower : Adds (numbered k places) 0 (4 * k) tower (λ s. cube_says k places s)
  unfolding cube_says
  adds_tower =
      let p = numbered k places in
      let a3 = adds_place p (3 * k) k (4 * k) (4 * k) (get_or places 3 None) (λ t. on) (λ s. true) (omega arith) (omega arith) (λ l x y. own 3 l (omega arith) (omega arith)) (adds_on p (4 * k) (4 * k)) in
      let a2 = adds_place p (2 * k) k (3 * k) (4 * k) (get_or places 2 None) _ _ (omega arith) (omega arith) (λ l x y. own 2 l (omega arith) (omega arith)) a3 in
      let a1 = adds_place p k k (2 * k) (4 * k) (get_or places 1 None) _ _ (omega arith) (omega arith) (λ l x y. own 1 l (omega arith) (omega arith)) a2 in
      let a0 = adds_place p 0 k k (4 * k) (get_or places 0 None) _ _ (omega arith) (omega arith) (λ l x y. own 0 l (omega arith) (omega arith)) a1 in
      record { fine = a0.fine; only = a0.only; says = λ t w h s. a0.says t w h s ∙ rw (and-true (place_says (3 * k) k (get_or places 3 None) s)) }

  -- over the same variables
  module _ {t : Tree} (o : Over k places t) where
    -- the tree of the or
    pub into_tree : tree_of (4 * k) (λ s. eval t s || cube_says k places s) ≡ tower t
    into_tree =
        let f = adds_tower.fine t o.fine o.only in
        let e = adds_tower.says t o.fine o.only in
        tree_one (4 * k) (λ s. eval t s || cube_says k places s) (record { only = λ s u h. sym (e s) ∙ eval_agree 0 (4 * k) (tower t) f s u h ∙ e u }) (tower t) f e

    -- says what both say
    pub into_says : Same (eval (tree_of (4 * k) (λ s. eval t s || cube_says k places s))) (λ s. eval t s || cube_says k places s)
    into_says s = rw into_tree (adds_tower.says t o.fine o.only s)

    -- and is over these variables again
    pub over_into : Over k places (tree_of (4 * k) (λ s. eval t s || cube_says k places s))
    over_into = rw into_tree (record { fine = adds_tower.fine t o.fine o.only; only = adds_tower.only t o.fine o.only })

  -- no is over all variables
  pub over_off : Over k places off
  unfolding levels
  over_off = record { fine = fine_off 0 (4 * k); only = refl }

  -- into no go the numbers alone
  pub into_off : tree_of (4 * k) (λ s. eval off s || cube_says k places s) ≡ tree_of (4 * k) (cube_says k places)
  unfolding eval
  into_off = refl

  -- the reference 0 leads to no
  module _ (ts : List Tree) where
    pub over_start : Over k places (at ts 0)
    unfolding at
    over_start = over_off

    pub into_start : tree_of (4 * k) (λ s. eval (at ts 0) s || cube_says k places s) ≡ tree_of (4 * k) (cube_says k places)
    unfolding at
    into_start = into_off

-- which variables have a number is all that counts
pub over_shape : {k : ℕ} {ps qs : List (Option Number)} {t : Tree} → SameShape ps qs → Over k ps t → Over k qs t
unfolding numbered
over_shape {k} {ps} {qs} {t} e o = record {
  fine = o.fine;
  only = levels_below (numbered k ps) (numbered k qs) 0 (4 * k) t o.fine (λ l h. e.each (l / k) ((div-lt_iff_lt-mul {x = l} {y = 4} (omega arith)).1 h)) o.only;
}

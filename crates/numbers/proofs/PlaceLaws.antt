-- Laws of a value's place and number in a list. Assumes nothing.
use Prim.Native.Nat.{ℕ, zero, suc, ◌+◌, ◌-◌, ◌≤◌, ◌<◌}
use mathlib.Core.Path.{◌≡◌, refl, ap, sym, ◌∙◌, fun_ext}
use mathlib.Core.Bool.{Bool, true, false, cond}
use mathlib.Core.List.{List, [], ◌∷◌, ◌++◌}
use mathlib.Core.Logic.{⊎_elim}
use native.Mathlib.Numerals.{add-one}
use native.Mathlib.Omega.{arith}
use lib.Dec.{eqb, ltb}
use lib.ListN.{length, get_or, length-append, get_or-append}
use lib.Seq.{get_or-append_seam, get_or-append-add}
use borrow.Author.Tests.{ltb-false, lt-ltb, le-ltb, eq-eqb, ne_eqb}
use Rattle.trees.proofs.Tests.{EqCase, equal, other, eq_case, eqb_same, lt_or_ge, LtCase, below, lt_case}
use Rattle.meaning.specs.Numbering.{Lists, place, listed, noted, ask, Unseen}
use Rattle.meaning.proofs.ValuesLaws.{Grows, Placed, here, nowhere, placed}
use Rattle.std.specs.Prelude.{Option, None}
use Rattle.making.specs.declared.Number.{Number}
use Rattle.numbers.specs.Asking.{number_in, numbered}

-- the first place of a value is its place
pub place_first : (xs : List ℕ) (y i : ℕ) → i < length xs → get_or xs i 0 ≡ y → ((k : ℕ) → k < i → get_or xs k 0 ≡ y → ⊥) → place xs y ≡ i
unfolding place
place_first [] y i h e none = absurd (omega arith)
place_first (x ∷ xs) y zero h e none = rw (eq-eqb x y e)
place_first (x ∷ xs) y (suc i) h e none =
    rw (ne_eqb x y (none 0 (omega arith))) (ap suc (place_first xs y i (omega arith) e (λ k q. none (suc k) (omega arith))))

-- a value that has a place is listed, and one that has none is not
pub listed_first : (xs : List ℕ) (y i : ℕ) → i < length xs → get_or xs i 0 ≡ y → ((k : ℕ) → k < i → get_or xs k 0 ≡ y → ⊥) → number_in xs y ≡ numbered i
unfolding number_in listed
listed_first xs y i h e none = rw (place_first xs y i h e none, lt-ltb i (length xs) h)

pub listed_never : (xs : List ℕ) (y : ℕ) → Unseen xs y → number_in xs y ≡ None
unfolding number_in listed
listed_never xs y none = go (place xs y) (placed xs y)
  where
    go : (n : ℕ) → Placed xs y n → cond (ltb n (length xs)) (numbered n) None ≡ None
    go n (here h e) = absurd (none n h e)
    go n (nowhere h u) = rw (le-ltb n (length xs) (omega arith))

-- a number tells whether a value is listed
pub listed_of : (xs : List ℕ) (y : ℕ) → (number_in xs y ≡ None → ⊥) → listed xs y ≡ true
unfolding number_in
listed_of xs y h = go (listed xs y) h
  where
    go : (t : Bool) → (cond t (numbered (place xs y)) None ≡ None → ⊥) → t ≡ true
    go true h = refl
    go false h = absurd (h refl)

-- one number is no other
pub same_number : (m n : ℕ) → numbered m ≡ numbered n → m ≡ n
same_number m n e =
    let z : ◌≡◌ {A = Number} (record { 0 = m }) (record { 0 = n }) = cc in
    ap (λ (x : Number). x.0) z

-- a number is a place of the list
pub number_low : (xs : List ℕ) (y i : ℕ) → number_in xs y ≡ numbered i → i < length xs
unfolding number_in listed
number_low xs y i h = go (ltb (place xs y) (length xs)) (lt_case (place xs y) (length xs)) h
  where
    go : (t : Bool) → LtCase (place xs y) (length xs) t → cond t (numbered (place xs y)) None ≡ numbered i → i < length xs
    go true (below q) h = omega (arith, same_number (place xs y) i h)
    go false q h = cc

pub unlisted_of : (xs : List ℕ) (y : ℕ) → number_in xs y ≡ None → listed xs y ≡ false
unfolding number_in
unlisted_of xs y h = go (listed xs y) h
  where
    go : (t : Bool) → cond t (numbered (place xs y)) None ≡ None → t ≡ false
    go true h = cc
    go false h = refl

unseen_of : (xs : List ℕ) (y : ℕ) → listed xs y ≡ false → Unseen xs y
unfolding listed
unseen_of xs y h = go (place xs y) (placed xs y) h
  where
    go : (n : ℕ) → Placed xs y n → ltb n (length xs) ≡ false → Unseen xs y
    go n (here q e) h = absurd (let z = ltb-false n (length xs) h in omega arith)
    go n (nowhere q u) h = u

-- nothing before its place has a value
place_least : (xs : List ℕ) (y k : ℕ) → k < place xs y → get_or xs k 0 ≡ y → ⊥
unfolding place
place_least [] y k h e = omega arith
place_least (x ∷ xs) y k h e = go (eqb x y) (eq_case x y) k h e (place_least xs y)
  where
    go : (t : Bool) → EqCase x y t → (k : ℕ) → k < cond t 0 (suc (place xs y)) → get_or (x ∷ xs) k 0 ≡ y → ((k : ℕ) → k < place xs y → get_or xs k 0 ≡ y → ⊥) → ⊥
    go true (equal q) k h e less = omega arith
    go false (other q) zero h e less = q e
    go false (other q) (suc k) h e less = less k (omega arith) e

-- the numbers after a value is noted at the end
pub number_snoc : (xs : List ℕ) (y z : ℕ) → listed xs y ≡ false → number_in (xs ++ y ∷ []) z ≡ cond (eqb z y) (numbered (length xs)) (number_in xs z)
number_snoc xs y z h = go (eqb z y) (eq_case z y) (place xs z) refl (placed xs z)
  where
    long : length (xs ++ y ∷ []) ≡ suc (length xs)
    long = length-append xs (y ∷ []) ∙ add-one (length xs)

    old : (k : ℕ) → k < length xs → get_or (xs ++ y ∷ []) k 0 ≡ get_or xs k 0
    old k q = get_or-append xs (y ∷ []) 0 k q

    new : (k : ℕ) → k ≡ length xs → get_or (xs ++ y ∷ []) k 0 ≡ y
    new k q = rw q (get_or-append_seam xs y [] 0)

    go : (t : Bool) → EqCase z y t → (n : ℕ) → place xs z ≡ n → Placed xs z n → number_in (xs ++ y ∷ []) z ≡ cond t (numbered (length xs)) (number_in xs z)
    go true (equal q) n e p =
        listed_first (xs ++ y ∷ []) z (length xs) (omega (arith, long)) (new (length xs) refl ∙ sym q) (λ k r s. unseen_of xs y h k r (sym (old k r) ∙ (s ∙ q)))
    go false (other q) n e (here r f) =
        listed_first (xs ++ y ∷ []) z n (omega (arith, long)) (old n r ∙ f) (λ k s g. place_least xs z k (omega arith) (sym (old k (omega arith)) ∙ g))
        ∙ sym (listed_first xs z n r f (λ k s g. place_least xs z k (omega arith) g))
    go false (other q) n e (nowhere r u) =
        listed_never (xs ++ y ∷ []) z (λ k s g. ⊎_elim (λ i. u k i (sym (old k i) ∙ g)) (λ i. q (sym g ∙ new k (omega (arith, long)))) (lt_or_ge k (length xs)))
        ∙ sym (listed_never xs z u)

-- a number is the value's place
pub number_place : (xs : List ℕ) (y : ℕ) → (number_in xs y ≡ None → ⊥) → number_in xs y ≡ numbered (place xs y)
unfolding number_in
number_place xs y h = rw (listed_of xs y h)

-- a number stays what it is while the list grows
pub number_grows : (xs ys : List ℕ) (y : ℕ) → Grows xs ys → (number_in xs y ≡ None → ⊥) → number_in ys y ≡ number_in xs y
number_grows xs ys y g h = go (place xs y) refl (placed xs y)
  where
    go : (n : ℕ) → place xs y ≡ n → Placed xs y n → number_in ys y ≡ number_in xs y
    go n e (here q f) =
        listed_first ys y n (omega (arith, g.longer)) (g.keeps n q ∙ f) (λ k r z. place_least xs y k (omega arith) (sym (g.keeps k (omega arith)) ∙ z))
        ∙ sym (listed_first xs y n q f (λ k r z. place_least xs y k (omega arith) z))
    go n e (nowhere q u) = absurd (h (listed_never xs y u))

-- the number of a value in a list with another behind it
module _ (xs zs : List ℕ) (y : ℕ) where
  left : (k : ℕ) → k < length xs → get_or (xs ++ zs) k 0 ≡ get_or xs k 0
  left k h = get_or-append xs zs 0 k h

  right : (k : ℕ) → length xs ≤ k → get_or (xs ++ zs) k 0 ≡ get_or zs (k - length xs) 0
  right k h = let z : length xs + (k - length xs) ≡ k = omega arith in rw z at (get_or-append-add xs zs (k - length xs) 0)

  pub number_left : (number_in xs y ≡ None → ⊥) → number_in (xs ++ zs) y ≡ number_in xs y
  number_left h = go (place xs y) refl (placed xs y)
    where
      go : (n : ℕ) → place xs y ≡ n → Placed xs y n → number_in (xs ++ zs) y ≡ number_in xs y
      go n e (here q f) =
          listed_first (xs ++ zs) y n (rw length-append (omega arith)) (left n q ∙ f) (λ k r g. place_least xs y k (omega arith) (sym (left k (omega arith)) ∙ g))
          ∙ sym (listed_first xs y n q f (λ k r g. place_least xs y k (omega arith) g))
      go n e (nowhere q u) = absurd (h (listed_never xs y u))

  module _ (none : number_in xs y ≡ None) where
    unseen : Unseen xs y
    unseen = unseen_of xs y (unlisted_of xs y none)

    pub number_nowhere : number_in zs y ≡ None → number_in (xs ++ zs) y ≡ None
    number_nowhere e =
        listed_never (xs ++ zs) y (λ k h g. ⊎_elim
        (λ q. unseen k q (sym (left k q) ∙ g))
        (λ q. unseen_of zs y (unlisted_of zs y e) (k - length xs) (omega (arith, length-append xs zs)) (sym (right k q) ∙ g))
        (lt_or_ge k (length xs)))

    pub number_right : (i : ℕ) → number_in zs y ≡ numbered i → number_in (xs ++ zs) y ≡ numbered (length xs + i)
    number_right i h = go (place zs y) refl (placed zs y)
      where
        go : (n : ℕ) → place zs y ≡ n → Placed zs y n → number_in (xs ++ zs) y ≡ numbered (length xs + i)
        go n e (nowhere q u) = let z = sym h ∙ listed_never zs y u in cc
        go n e (here q f) =
            let z : length xs + n - length xs ≡ n = omega arith in
            let m : ◌≡◌ {A = Option Number} (numbered i) (numbered n) = sym h ∙ listed_first zs y n q f (λ k r g. place_least zs y k (omega arith) g) in
            let same : i ≡ n = same_number i n m in
            rw same
            (listed_first (xs ++ zs) y (length xs + n) (rw length-append (omega arith)) (right (length xs + n) (omega arith) ∙ rw z f)
            (λ k r g. ⊎_elim
            (λ p. unseen k p (sym (left k p) ∙ g))
            (λ p. place_least zs y (k - length xs) (omega arith) (sym (right k p) ∙ g))
            (lt_or_ge k (length xs))))

-- a value that is listed is not noted anew
pub ask_listed : (M : Lists) (v y : ℕ) → listed (M v) y ≡ true → ask M v y ≡ M
unfolding ask noted
ask_listed M v y h = fun_ext (λ w. go w (eqb w v) (eq_case w v))
  where
    go : (w : ℕ) (t : Bool) → EqCase w v t → cond t (cond (listed (M w) y) (M w) (M w ++ y ∷ [])) (M w) ≡ M w
    go w true (equal q) = let g : listed (M w) y ≡ true = ap (λ (u : ℕ). listed (M u) y) q ∙ h in rw g
    go w false q = refl

-- and one that is not goes to the end of the variable's list
pub ask_here : (M : Lists) (v y : ℕ) → listed (M v) y ≡ false → ask M v y v ≡ M v ++ y ∷ []
unfolding ask noted
ask_here M v y h = rw (eqb_same v, h)

pub ask_other : (M : Lists) (v w y : ℕ) → (w ≡ v → ⊥) → ask M v y w ≡ M w
unfolding ask
ask_other M v w y h = rw (ne_eqb w v h)

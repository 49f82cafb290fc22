-- Laws of one pass: the roots marked, the words given down node by node, and the rows counted. Assumes nothing.
use Prim.Native.Nat.{ℕ, zero, suc, ◌+◌, ◌*◌, ◌%◌, ◌^◌, ◌≤◌, ◌<◌}
use mathlib.Core.Path.{◌≡◌, refl, sym, ap, ap₂, ◌∙◌, fun_ext}
use mathlib.Core.Bool.{false}
use mathlib.Core.List.{List, map}
use mathlib.Core.Logic.{◌⊎◌, inl, inr, ⊎_elim}
use native.Mathlib.Omega.{arith}
use lib.Pow.{pow-lt}
use lib.ListN.{length, get_or, replicate, length-map, length-replicate, get_or-eq_default}
use Rattle.trees.specs.Bits.{bit}
use Rattle.trees.proofs.Tests.{lt_or_ge}
use Rattle.trees.proofs.CanonicalLaws.{zeros_at}
use Rattle.nodes.specs.Nodes.{Table}
use Rattle.visits.proofs.CountLaws.{count_below, count_most}
use Rattle.sizes.specs.Words.{Word, none, has_row, give, given, sides, down, marked, Counts, Pushed, Sized}
use Rattle.sizes.proofs.WordLaws.{rows_none, rows_only, words_at}
use Rattle.sizes.proofs.GiveLaws.{down_past}
use Rattle.sizes.proofs.Sized.{sized, sized_none}

pub given_none : (ws : List Word) (refs : List ℕ) (base : ℕ) → ws ≡ given ws refs base 0
unfolding given
given_none ws refs base = refl

-- a bit moved up stays whole below 32
pub shifted : (t : ℕ) → t < 32 → 1 * 2 ^ t % 4294967296 ≡ 2 ^ t
shifted t h = whole (2 ^ t) (pow-lt h)
  where
    whole : (x : ℕ) → x < 2 ^ 32 → 1 * x % 4294967296 ≡ x
    whole x h = omega arith

-- one root more
pub given_more : (base t w : ℕ) (refs vs ws us : List ℕ) → w ≡ 2 ^ t → map (has_row base) ws ≡ given (map (has_row base) vs) refs base t
    → map (has_row base) us ≡ give (map (has_row base) ws) (get_or refs (base + t) 0) (has_row base w)
    → map (has_row base) us ≡ given (map (has_row base) vs) refs base (t + 1)
unfolding given
given_more base t w refs vs ws us z e f =
    let n : t + 1 ≡ suc t = omega arith in
    rw n (f ∙ ap₂ (λ (x : List Word) (y : Word). give x (get_or refs (base + t) 0) y) e (fun_ext (λ i. ap (λ (x : ℕ). has_row base x i) z ∙ rows_only base t i)))

-- the first node but n counts its rows, and the pass over those before it the others
marked_step : (ns : List ℕ) (m : ℕ) → Table ns m → (n : ℕ) → n < m → (ws : List Word) (i : ℕ) → marked ns (suc n) ws i ≡ bit (get_or ws n none i) + marked ns n (sides ns n ws) i
unfolding marked count_below down
marked_step ns m t n h ws i = ap (λ (x : Word). bit (x i) + count_below n (λ j. get_or (down ns n (sides ns n ws)) j none i)) (down_past ns m t.back (suc n) ws n h (omega arith))

-- the first n nodes are still to be counted: with them the sizes ys are those of all
pub record Pushing (ns : List ℕ) (kept base : ℕ) (vs xs : List ℕ) (n : ℕ) (ws ys : List ℕ) : Type 0 where
  pub few : n ≤ kept
  pub long : length ws ≡ kept
  pub size : length ys ≡ length xs
  pub each : (i : ℕ) → i < length xs → get_or ys i 0 + marked ns n (map (has_row base) ws) i ≡ get_or xs i 0 + marked ns kept (map (has_row base) vs) i

pub pushing_none : {ns : List ℕ} {kept base : ℕ} {vs xs ws ys : List ℕ} {n : ℕ} → n ≤ 0 → Pushing ns kept base vs xs n ws ys → Pushed ns kept (map (has_row base) vs) xs ys
unfolding marked count_below
pushing_none {n = zero} z p = record { size = p.size; each = λ i h. omega (arith, p.each i h) }
pushing_none {n = suc n} z p = absurd (omega arith)

marked_most : (ns : List ℕ) (n : ℕ) (ws : List Word) (i : ℕ) → marked ns n ws i ≤ n
unfolding marked
marked_most ns n ws i = count_most n _

-- no size is more than the nodes above what it was
pub pushing_small : {ns : List ℕ} {kept base : ℕ} {vs xs ws ys : List ℕ} {n : ℕ} → Table ns kept → ((i : ℕ) → get_or xs i 0 ≤ 4096) → Pushing ns kept base vs xs n ws ys → (i : ℕ) → get_or ys i 0 ≤ 8192
pushing_small {ns} {kept} {base} {vs} {xs} {ws} {ys} t few p i = ⊎_elim
    (λ h. omega (arith, p.each i h, few i, t.small, t.fits, marked_most ns kept (map (has_row base) vs) i))
    (λ h. let e = get_or-eq_default ys 0 {n = i} (omega (arith, p.size)) in omega arith)
    (lt_or_ge i (length xs))

-- one node more: its word given to its low side and to its high side, and its rows counted
pub pushing_more : {ns : List ℕ} {kept base : ℕ} {vs xs ws ys : List ℕ} (n m : ℕ) → m ≡ suc n → Table ns kept → Pushing ns kept base vs xs m ws ys
    → (us₁ us₂ : List ℕ) {zs : List ℕ} → length us₂ ≡ kept
    → map (has_row base) us₁ ≡ give (map (has_row base) ws) (get_or ns (3 * n + 1) 0) (has_row base (get_or ws n 0))
    → map (has_row base) us₂ ≡ give (map (has_row base) us₁) (get_or ns (3 * n + 2) 0) (has_row base (get_or ws n 0))
    → Counts (has_row base (get_or ws n 0)) ys zs
    → Pushing ns kept base vs xs n us₂ zs
unfolding sides
pushing_more {ns} {kept} {base} {vs} {xs} {ws} {ys} n m z t p us₁ us₂ {zs} len e f c = record {
  few = omega (arith, p.few);
  long = len;
  size = c.size ∙ p.size;
  each = each;
}
  where
    own : has_row base (get_or ws n 0) ≡ get_or (map (has_row base) ws) n none
    own = sym (words_at base ws n)

    given_down : map (has_row base) us₂ ≡ sides ns n (map (has_row base) ws)
    given_down =
        f
        ∙ ap₂ (λ (x : List Word) (y : Word). give x (get_or ns (3 * n + 2) 0) y) e own
        ∙ ap (λ (y : Word). give (give (map (has_row base) ws) (get_or ns (3 * n + 1) 0) y) (get_or ns (3 * n + 2) 0) (get_or (map (has_row base) ws) n none)) own

    each : (i : ℕ) → i < length xs → get_or zs i 0 + marked ns n (map (has_row base) us₂) i ≡ get_or xs i 0 + marked ns kept (map (has_row base) vs) i
    each i h =
        let a = c.each i (omega (arith, p.size)) in
        let b = rw z at (p.each i h) in
        let k = marked_step ns kept t n (omega (arith, p.few)) (map (has_row base) ws) i in
        let q : bit (get_or (map (has_row base) ws) n none i) ≡ bit (has_row base (get_or ws n 0) i) = ap (λ (x : Word). bit (x i)) (sym own) in
        rw given_down (omega (arith, a, b, k, q))

-- the whole pass, from words that are 0
pub pass_sized : {ns : List ℕ} {kept : ℕ} {refs : List ℕ} {base n : ℕ} {xs ys : List ℕ} (vs ws : List ℕ) → Table ns kept → ((t : ℕ) → t < n → get_or refs (base + t) 0 < kept + 2)
    → base + n ≤ length xs → vs ≡ replicate kept 0 → map (has_row base) ws ≡ given (map (has_row base) vs) refs base n → Pushed ns kept (map (has_row base) ws) xs ys
    → Sized ns kept refs base n xs ys
pass_sized {ns} {kept} {refs} {base} {n} {xs} {ys} vs ws t inside wide z g p = record {
  size = p.size;
  each = λ u h. p.each (base + u) (omega arith) ∙ ap (λ (x : ℕ). get_or xs (base + u) 0 + x) (ap (λ (x : List Word). marked ns kept x (base + u)) g ∙ sized ns kept t.back t.one refs base n u h (inside u h) (map (has_row base) vs) long empty);
  before = λ i h. p.each i (omega arith) ∙ more i (inl h);
  after = λ i h. ⊎_elim
      (λ l. p.each i l ∙ more i (inr h))
      (λ l. get_or-eq_default ys 0 (omega (arith, p.size)) ∙ sym (get_or-eq_default xs 0 l))
      (lt_or_ge i (length xs));
}
  where
    long : kept ≤ length (map (has_row base) vs)
    long = rw (length-map, z, length-replicate) (omega arith)

    zero_at : (j : ℕ) → get_or vs j 0 ≡ 0
    zero_at j = rw z (zeros_at kept j)

    empty : (j k : ℕ) → get_or (map (has_row base) vs) j none k ≡ false
    empty j k = ap (λ (x : Word). x k) (words_at base vs j) ∙ ap (λ (x : ℕ). has_row base x k) (zero_at j) ∙ rows_none base k

    more : (i : ℕ) → (i < base) ⊎ (base + n ≤ i) → get_or xs i 0 + marked ns kept (map (has_row base) ws) i ≡ get_or xs i 0
    more i h =
        let e = ap (λ (x : List Word). marked ns kept x i) g ∙ sized_none ns kept t.back refs base n i h (map (has_row base) vs) long empty in
        omega arith

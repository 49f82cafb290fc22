-- Laws of `numeral`: how it grows by a digit, that its value is the number, and that it is told apart from what follows it.
-- Assumes nothing.
use Prim.Native.Nat.{ℕ, zero, suc, ◌+◌, ◌-◌, ◌*◌, ◌/◌, ◌%◌, ◌<◌, ◌≤◌}
use native.Mathlib.Omega.{arith}
use mathlib.Core.Path.{◌≡◌, refl, sym, ap, subst, ◌∙◌}
use mathlib.Core.Bool.{Bool, true, false}
use mathlib.Core.List.{List, [], ◌∷◌, ◌++◌}
use lib.Dec.{ltb}
use borrow.Author.Tests.{ltb-true, ltb-false, lt-ltb, le-ltb}
use Rattle.lines.specs.Numeral.{digits, numeral}
use Rattle.lines.specs.Format.{Every}
use Rattle.lines.specs.Parts.{Digit}
use Rattle.lines.proofs.Every.{every_append}

-- the byte of a digit
digit : (d : ℕ) → d < 10 → Digit (48 + d)
digit d h = record { low = omega arith; high = omega arith }

-- one turn: a number below ten is its digit
digits_small : (turns n : ℕ) → n < 10 → digits turns n ≡ (48 + n) ∷ []
unfolding digits
digits_small zero n h = refl
digits_small (suc turns) n h = rw (lt-ltb n 10 h, digits)

-- one turn: any other number is its tenth part and its last digit
digits_large : (turns n : ℕ) → 10 ≤ n → digits (suc turns) n ≡ digits turns (n / 10) ++ ((48 + n % 10) ∷ [])
unfolding digits
digits_large turns n h = rw (le-ltb n 10 h, digits)

-- turns past the number's own size change nothing
digits_enough : (t u n : ℕ) → n ≤ t → n ≤ u → digits t n ≡ digits u n
digits_enough zero u n a b = digits_small zero n (omega arith) ∙ sym (digits_small u n (omega arith))
digits_enough (suc t) zero n a b = digits_small (suc t) n (omega arith) ∙ sym (digits_small zero n (omega arith))
digits_enough (suc t) (suc u) n a b = go (ltb n 10) refl (digits_enough t u (n / 10))
  where
    go : (q : Bool) → ltb n 10 ≡ q → (n / 10 ≤ t → n / 10 ≤ u → digits t (n / 10) ≡ digits u (n / 10)) → digits (suc t) n ≡ digits (suc u) n
    go true e ih = digits_small (suc t) n (ltb-true n 10 e) ∙ sym (digits_small (suc u) n (ltb-true n 10 e))
    go false e ih =
        let h : 10 ≤ n = ltb-false n 10 e in
        digits_large t n h ∙ ap (λ (ds : List ℕ). ds ++ ((48 + n % 10) ∷ [])) (ih (omega arith) (omega arith)) ∙ sym (digits_large u n h)

-- a number below ten is written as its digit
pub numeral_small : (n : ℕ) → n < 10 → numeral n ≡ (48 + n) ∷ []
unfolding numeral
numeral_small n h = digits_small n n h

-- a number that is not 0 grows at its end by the digit d
pub numeral_grows : (n d : ℕ) → 0 < n → d < 10 → numeral (n * 10 + d) ≡ numeral n ++ ((48 + d) ∷ [])
unfolding numeral
numeral_grows n d hn hd = go (n * 10 + d) refl
  where
    go : (m : ℕ) → m ≡ n * 10 + d → digits m m ≡ digits n n ++ ((48 + d) ∷ [])
    go zero e = absurd (omega arith)
    go (suc m) e =
        let tenth : suc m / 10 ≡ n = omega arith in
        let last : suc m % 10 ≡ d = omega arith in
        digits_large m (suc m) (omega arith) ∙ rw (tenth, last, digits_enough m n n (omega arith) (omega arith))

-- what holds of one digit, and goes on holding when a digit is put at the end, holds of every numeral
pub numeral_every : (P : ℕ → List ℕ → Type 0)
    → ((n : ℕ) → n < 10 → P n ((48 + n) ∷ []))
    → ((n d : ℕ) (ds : List ℕ) → 0 < n → d < 10 → P n ds → P (n * 10 + d) (ds ++ ((48 + d) ∷ [])))
    → (n : ℕ) → P n (numeral n)
unfolding numeral
numeral_every P one more n = all n n (omega arith)
  where
    all : (t m : ℕ) → m ≤ t → P m (digits t m)
    all zero m h =
        let small : m < 10 = omega arith in
        rw (digits_small zero m small) (one m small)
    all (suc t) m h = go (ltb m 10) refl (all t (m / 10))
      where
        go : (q : Bool) → ltb m 10 ≡ q → (m / 10 ≤ t → P (m / 10) (digits t (m / 10))) → P m (digits (suc t) m)
        go true e ih =
            let small : m < 10 = ltb-true m 10 e in
            rw (digits_small (suc t) m small) (one m small)
        go false e ih =
            let large : 10 ≤ m = ltb-false m 10 e in
            let whole : m / 10 * 10 + m % 10 ≡ m = omega arith in
            rw (digits_large t m large)
            (subst (λ (k : ℕ). P k (digits t (m / 10) ++ ((48 + m % 10) ∷ []))) whole
            (more (m / 10) (m % 10) (digits t (m / 10)) (omega arith) (omega arith) (ih (omega arith))))

-- every byte of a numeral is a digit
pub digits_all : (n : ℕ) → Every Digit (numeral n)
digits_all =
    numeral_every
    (λ n ds. Every Digit ds)
    (λ n h. (digit n h, tt))
    (λ n d ds hn hd ih. every_append Digit ds ((48 + d) ∷ []) ih (digit d hd, tt))

-- the number that digits write after the digits of n
pub after : ℕ → List ℕ → ℕ
after n [] = n
after n (b ∷ bs) = after (n * 10 + (b - 48)) bs

-- digits go on from where the digits before them stopped
pub after_append : (n : ℕ) (xs ys : List ℕ) → after n (xs ++ ys) ≡ after (after n xs) ys
unfolding after
after_append n [] ys = refl
after_append n (x ∷ xs) ys = after_append (n * 10 + (x - 48)) xs ys

-- more digits never write a smaller number
pub after_grows : (n : ℕ) (bs : List ℕ) → n ≤ after n bs
unfolding after
after_grows n [] = omega arith
after_grows n (b ∷ bs) = omega (arith, after_grows (n * 10 + (b - 48)) bs)

-- the digits of n write n
pub numeral_value : (n : ℕ) → after 0 (numeral n) ≡ n
unfolding after
numeral_value =
    numeral_every
    (λ n ds. after 0 ds ≡ n)
    (λ n h. omega arith)
    (λ n d ds hn hd ih. after_append 0 ds ((48 + d) ∷ []) ∙ rw ih (omega arith))

-- the first byte is no `0`
unfoldable pub Leads : List ℕ → Type 0
Leads [] = ⊥
Leads (b ∷ bs) = 49 ≤ b

-- the first byte stays first
leads_append : (xs ys : List ℕ) → Leads xs → Leads (xs ++ ys)
unfolding Leads
leads_append [] ys h = absurd h
leads_append (x ∷ xs) ys h = h

-- a number other than 0 has no leading zero
pub numeral_leads : (n : ℕ) → 0 < n → Leads (numeral n)
unfolding Leads
numeral_leads =
    numeral_every
    (λ n ds. 0 < n → Leads ds)
    (λ n h pos. omega arith)
    (λ n d ds hn hd ih pos. leads_append ds ((48 + d) ∷ []) (ih hn))

-- the bytes begin with a digit
unfoldable pub Begins : List ℕ → Type 0
Begins [] = ⊥
Begins (b ∷ bs) = Digit b

-- the first byte stays first
begins_append : (xs ys : List ℕ) → Begins xs → Begins (xs ++ ys)
unfolding Begins
begins_append [] ys h = absurd h
begins_append (x ∷ xs) ys h = h

-- bytes that open with a numeral begin with a digit
pub numeral_begins : (n : ℕ) (t : List ℕ) → Begins (numeral n ++ t)
unfolding Begins
numeral_begins n t =
    begins_append (numeral n) t
    (numeral_every (λ n ds. Begins ds) (λ n h. digit n h) (λ n d ds hn hd ih. begins_append ds ((48 + d) ∷ []) ih) n)

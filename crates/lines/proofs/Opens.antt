-- Laws of `Opens`: bytes open with one number at most, and how a reader that goes digit by digit tells. Assumes nothing.
use Prim.Native.Nat.{ℕ, zero, suc, ◌<◌, ◌≤◌}
use native.Mathlib.Omega.{arith}
use mathlib.Core.Path.{◌≡◌, refl, sym, ap, subst, ◌∙◌}
use mathlib.Core.List.{List, [], ◌∷◌, ◌++◌}
use lib.ListN.{length, drop, get_or, drop_of_length-le}
use lib.Seq.{drop-cons}
use Rattle.lines.specs.Numeral.{numeral}
use Rattle.lines.specs.Format.{Every}
use Rattle.lines.specs.Parts.{Digit, Stops, Opens, NoNumber}
use Rattle.lines.proofs.Numeral.{Leads, numeral_leads, Begins, numeral_begins, digits_all, numeral_small}
use Rattle.lines.proofs.Numeral.{after, after_append, after_grows, numeral_value}

-- xs goes on after ys by the digits `more`, and what follows xs follows those
record Longer (xs t ys u : List ℕ) : Type 0 where
  more : List ℕ
  all : Every Digit more
  whole : xs ≡ ys ++ more
  rest : more ++ t ≡ u

-- of two runs of digits that open the same bytes, one that is not followed by a digit is the longer one
longer : (xs t ys u : List ℕ) → Every Digit xs → Every Digit ys → Stops t → xs ++ t ≡ ys ++ u → Longer xs t ys u
longer xs t [] u dx dy stop e = record { more = xs; all = dx; whole = refl; rest = e }
longer [] [] (y ∷ ys) u dx dy stop e = absurd (let z : ◌≡◌ {A = ℕ} 0 1 = cc in omega arith)
longer [] (b ∷ t) (y ∷ ys) u dx dy stop e =
    let same : y ≡ b = cc in
    absurd (stop (subst Digit same dy.0))
longer (x ∷ xs) t (y ∷ ys) u dx dy stop e =
    let r : Longer xs t ys u = longer xs t ys u dx.1 dy.1 stop (cc) in
    let head : x ≡ y = cc in
    record { more = r.more; all = r.all; whole = cc r.whole; rest = r.rest }

-- digits in front of what a number stops at are none
none : (more t : List ℕ) → Every Digit more → Stops (more ++ t) → more ≡ []
none [] t d stop = refl
none (b ∷ more) t d stop = absurd (stop d.0)

-- the digits by which a numeral that opens the bytes goes on after another
over : (bytes : List ℕ) (m n : ℕ) (t u : List ℕ) → Opens bytes m t → bytes ≡ numeral n ++ u → Longer (numeral m) t (numeral n) u
over bytes m n t u o e = longer (numeral m) t (numeral n) u (digits_all m) (digits_all n) o.stops (sym o.shown ∙ e)

-- a numeral that opens the bytes is no larger than the number that they open with
pub opens_least : (bytes : List ℕ) (m n : ℕ) (t u : List ℕ) → Opens bytes m t → bytes ≡ numeral n ++ u → n ≤ m
opens_least bytes m n t u o e =
    let r : Longer (numeral m) t (numeral n) u = over bytes m n t u o e in
    let m-value : after 0 (numeral m) ≡ m = numeral_value m in
    let n-value : after 0 (numeral n) ≡ n = numeral_value n in
    let v : m ≡ after n r.more = sym m-value ∙ ap (after 0) r.whole ∙ after_append 0 (numeral n) r.more ∙ rw n-value in
    rw v (after_grows n r.more)

-- bytes open with one number, and it leaves one rest
pub opens_same : (bytes : List ℕ) (m n : ℕ) (t u : List ℕ) → Opens bytes m t → Opens bytes n u → (m ≡ n) × (t ≡ u)
opens_same bytes m n t u o p =
    let r : Longer (numeral m) t (numeral n) u = over bytes m n t u o p.shown in
    let e : r.more ≡ [] = none r.more t r.all (rw r.rest p.stops) in
    (omega (arith, opens_least bytes m n t u o p.shown, opens_least bytes n m u t p o.shown), ap (λ (l : List ℕ). l ++ t) (sym e) ∙ r.rest)

-- a `0` before another digit opens no number
pub opens_zero : (bytes : List ℕ) (m : ℕ) (t : List ℕ) (b : ℕ) (u : List ℕ) → Opens bytes m t → bytes ≡ numeral 0 ++ (b ∷ u) → Digit b → ⊥
unfolding Leads
opens_zero bytes zero t b u o e d =
    let small : numeral 0 ≡ 48 ∷ [] = numeral_small 0 (omega arith) in
    let both : numeral 0 ++ t ≡ numeral 0 ++ (b ∷ u) = sym o.shown ∙ e in
    let same : t ≡ b ∷ u = cc (rw small at both) in
    (rw same at o.stops) d
opens_zero bytes (suc m) t b u o e d =
    let r : Longer (numeral (suc m)) t (numeral 0) (b ∷ u) = over bytes (suc m) 0 t (b ∷ u) o e in
    let lead : Leads (numeral 0 ++ r.more) = subst Leads r.whole (numeral_leads (suc m) (omega arith)) in
    omega (arith, rw (numeral_small 0 (omega arith)) at lead)

-- bytes that open with a number begin with a digit
pub opens_begins : (bytes : List ℕ) (n : ℕ) (t : List ℕ) → Opens bytes n t → Begins bytes
opens_begins bytes n t o = rw o.shown (numeral_begins n t)

-- no number stands at the line's end
pub none_past : {line : List ℕ} {at : ℕ} → length line ≤ at → NoNumber line at
unfolding Begins
none_past {line} {at} h =
    record { none = λ n t o. rw (drop_of_length-le line h) at (opens_begins (drop at line) n t o) }

-- no number stands where no digit stands
pub none_first : {line : List ℕ} {at : ℕ} → at < length line → (Digit (get_or line at 0) → ⊥) → NoNumber line at
unfolding Begins
none_first {line} {at} h no_digit =
    record { none = λ n t o. no_digit (rw (drop-cons line at 0 h) at (opens_begins (drop at line) n t o)) }

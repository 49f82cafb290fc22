-- Laws of `spaced`: a run of numbers is told apart from any other, and what stands first in it. Assumes nothing.
use Prim.Native.Nat.{ℕ, suc, ◌+◌, ◌<◌}
use native.Mathlib.Omega.{arith}
use native.Mathlib.Numerals.{add-one}
use mathlib.Core.Path.{◌≡◌, refl, ap₂}
use mathlib.Core.List.{List, [], ◌∷◌, ◌++◌, append_assoc, append-nil}
use lib.ListN.{length, drop, get_or}
use lib.Seq.{drop-cons}
use Rattle.lines.specs.Numeral.{numeral}
use Rattle.lines.specs.Format.{Fits, Every, spaced}
use Rattle.lines.specs.Parts.{Stops, Opens}
use Rattle.lines.proofs.Opens.{opens_same}

-- numbers after numbers
pub spaced_append : (ms ns : List ℕ) → spaced (ms ++ ns) ≡ spaced ms ++ spaced ns
unfolding spaced
spaced_append [] ns = refl
spaced_append (m ∷ ms) ns = rw (spaced_append ms ns, append_assoc)

-- one more number at the end
pub spaced_snoc : (ns : List ℕ) (n : ℕ) (rest : List ℕ) → spaced (ns ++ (n ∷ [])) ++ rest ≡ spaced ns ++ (32 ∷ (numeral n ++ rest))
unfolding spaced
spaced_snoc ns n rest = simp (spaced_append, append_assoc, append-nil)

-- a number stops before a run of numbers
pub spaced_stops : (ns : List ℕ) → Stops (spaced ns)
unfolding spaced
spaced_stops [] = tt
spaced_stops (n ∷ ns) = omega arith

-- a run of numbers, past its first space, opens with its first number
pub spaced_opens : (n : ℕ) (ns : List ℕ) → Fits n → Opens (numeral n ++ spaced ns) n (spaced ns)
spaced_opens n ns f = record { fits = f; shown = refl; stops = spaced_stops ns }

-- two runs of numbers that are written alike are the same
pub spaced_same : (ms ns : List ℕ) → Every Fits ms → Every Fits ns → spaced ms ≡ spaced ns → ms ≡ ns
unfolding spaced
spaced_same [] [] f g e = refl
spaced_same [] (n ∷ ns) f g e = absurd (let z : ◌≡◌ {A = ℕ} 0 1 = cc in omega arith)
spaced_same (m ∷ ms) [] f g e = absurd (let z : ◌≡◌ {A = ℕ} 0 1 = cc in omega arith)
spaced_same (m ∷ ms) (n ∷ ns) f g e =
    let tails : numeral n ++ spaced ns ≡ numeral m ++ spaced ms = cc in
    let first : Opens (numeral m ++ spaced ms) n (spaced ns) = rw tails at (spaced_opens n ns g.0) in
    let both : (m ≡ n) × (spaced ms ≡ spaced ns) = opens_same (numeral m ++ spaced ms) m n (spaced ms) (spaced ns) (spaced_opens m ms f.0) first in
    ap₂ (λ (x : ℕ) (xs : List ℕ). x ∷ xs) both.0 (spaced_same ms ns f.1 g.1 both.1)

-- what a run of numbers that stands at place i begins with
pub record Next (line : List ℕ) (i : ℕ) (ns : List ℕ) : Type 0 where
  pub first : ℕ
  pub others : List ℕ
  pub fit : Every Fits others
  pub whole : ns ≡ first ∷ others
  pub space : get_or line i 0 ≡ 32
  pub opens : Opens (drop (i + 1) line) first (spaced others)

-- a run of numbers that is not at the line's end begins with a space and a number
pub spaced_next : {line : List ℕ} {i : ℕ} (ns : List ℕ) → i < length line → Every Fits ns → drop i line ≡ spaced ns → Next line i ns
unfolding spaced
spaced_next {line} {i} [] h f e =
    let d : drop i line ≡ get_or line i 0 ∷ drop (suc i) line = drop-cons line i 0 h in
    absurd (let z : ◌≡◌ {A = ℕ} 0 1 = cc in omega arith)
spaced_next {line} {i} (n ∷ ns) h f e =
    let d : drop i line ≡ get_or line i 0 ∷ drop (suc i) line = drop-cons line i 0 h in
    let rest : drop (suc i) line ≡ numeral n ++ spaced ns = cc in
    record {
      first = n;
      others = ns;
      fit = f.1;
      whole = refl;
      space = cc;
      opens = rw (add-one, rest) (spaced_opens n ns f.0);
    }

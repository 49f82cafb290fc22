-- What the reader's parts promise: a number at a place, and the numbers from a place to the line's end. Assumes nothing.
use Rattle.std.specs.Prelude.{ℕ, ◌<◌, ◌≤◌, ◌≡◌, Option, None, Some, List, [], ◌∷◌, ◌++◌, length, take, drop, get_or}
use Rattle.lines.specs.Numeral.{numeral}
use Rattle.lines.specs.Format.{Fits, Every, spaced}
use Rattle.lines.specs.declared.Token.{Token}
use Rattle.lines.specs.declared.Numbers.{Numbers}

-- the byte is a decimal digit
pub record Digit (b : ℕ) : Type 0 where
  pub low : 48 ≤ b
  pub high : b ≤ 57

-- no digit stands first, so a number ends before these bytes
abbrev pub Stops : List ℕ → Type 0
Stops [] = Unit {0}
Stops (b ∷ bs) = Digit b → ⊥

-- the bytes open with the numeral of n, a number of the input, and `rest` is what follows it
pub record Opens (bytes : List ℕ) (n : ℕ) (rest : List ℕ) : Type 0 where
  pub fits : Fits n
  pub shown : bytes ≡ numeral n ++ rest
  pub stops : Stops rest

-- the line has the number n from place `at` up to place `next`
pub record Took (line : List ℕ) (at n next : ℕ) : Type 0 where
  pub past : at < next
  pub inside : next ≤ length line
  pub opens : Opens (drop at line) n (drop next line)

-- the line has no number at the place
pub record NoNumber (line : List ℕ) (at : ℕ) : Type 0 where
  pub none : (n : ℕ) (rest : List ℕ) → Opens (drop at line) n rest → ⊥

-- a token is the number at the place, or none where no number stands
abbrev pub IsToken : List ℕ → ℕ → Option Token → Type 0
IsToken line at (Some t) = Took line at t.number t.next
IsToken line at None = NoNumber line at

-- the bytes are no run of at most nine numbers of the input
pub record NoRun (bytes : List ℕ) : Type 0 where
  pub none : (ns : List ℕ) → Every Fits ns → length ns ≤ 9 → bytes ≡ spaced ns → ⊥

-- the bytes are the first `count` of nine numbers, and the places past them hold 0
pub record Run (bytes : List ℕ) (count : ℕ) (all : List ℕ) : Type 0 where
  pub few : count ≤ 9
  pub nine : length all ≡ 9
  pub fit : Every Fits all
  pub rest : (i : ℕ) → count ≤ i → get_or all i 0 ≡ 0
  pub shown : bytes ≡ spaced (take count all)

-- what was found: a run, or that there is none
abbrev pub Found : List ℕ → Option Numbers → Type 0
Found bytes (Some ns) = Run bytes ns.count ns.all
Found bytes None = NoRun bytes

-- the line's first byte is b
pub record LedBy (line : List ℕ) (b : ℕ) : Type 0 where
  pub some : 0 < length line
  pub first : get_or line 0 0 ≡ b

-- the line begins with neither `r` nor `e`
pub record Unlettered (line : List ℕ) : Type 0 where
  pub no_r : get_or line 0 0 ≡ 114 → ⊥
  pub no_e : get_or line 0 0 ≡ 101 → ⊥

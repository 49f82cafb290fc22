-- An atom's arguments, word by word, and its nine numbers. Assumes nothing: these are definitions.
use Rattle.std.specs.Prelude.{ℕ, ◌≤◌, ◌<◌, ◌≡◌, List, [], ◌∷◌, ◌++◌, length, drop, eqb, true, false}
use Rattle.meaning.specs.Qtl.{Argument, variable, constant}
use Rattle.meaning.specs.Rows
use Rattle.text.specs.Words.{Word, bytes_of}
use Rattle.text.specs.Unfold.{number_in, value_after}
use Rattle.text.specs.Parts.{mark_of, content_of, nine}
use Rattle.spelling.specs.Codes.{code_of, kind_of, Spells}

-- the nine numbers with one argument more
pub record Puts (before : List ℕ) (m v : ℕ) (after : List ℕ) : Type 0 where
  pub sized : length before ≡ 9 → length after ≡ 9
  pub puts : (p : ℕ) (gs : List Argument) (g : Argument) → before ≡ nine (Rows.atom p gs) → length gs < 3 → m ≡ mark_of g → v ≡ content_of g → after ≡ nine (Rows.atom p (gs ++ (g ∷ [])))

-- the argument that a word by number is
unfoldable pub argument_of : List (List ℕ) → ℕ → List ℕ → List Argument
argument_of vs code x =
    elim (eqb code 0) [ true ↦ variable (number_in vs x) ∷ [] | false ↦ elim (eqb code 1) [ true ↦ constant (value_after 0 x) ∷ [] | false ↦ [] ] ]

pub record Adds (vs : List (List ℕ)) (before : List ℕ) (code : ℕ) (x after : List ℕ) : Type 0 where
  pub sized : length before ≡ 9 → length after ≡ 9
  pub adds : (p : ℕ) (gs : List Argument) → before ≡ nine (Rows.atom p gs) → length (gs ++ argument_of vs code x) ≤ 3 → (code ≡ 1 → value_after 0 x < 4294967296)
      → after ≡ nine (Rows.atom p (gs ++ argument_of vs code x))

-- the arguments up to the next `)`, and those after a name
unfoldable pub arguments_in : List (List ℕ) → List Word → List Argument
arguments_in vs [] = []
arguments_in vs (w ∷ ws) = elim (eqb (kind_of w) 7) [ true ↦ [] | false ↦ argument_of vs (code_of w) (bytes_of w) ++ arguments_in vs ws ]

unfoldable pub arguments_after : List (List ℕ) → List Word → List Argument
arguments_after vs [] = []
arguments_after vs (w ∷ ws) = elim (eqb (kind_of w) 6) [ true ↦ arguments_in vs ws | false ↦ [] ]

-- no constant is over 2^32 − 1
abbrev pub Small : List Word → Type 0
Small [] = Unit {0}
Small (w ∷ ws) = (code_of w ≡ 1 → value_after 0 (bytes_of w) < 4294967296) × Small ws

-- the nine numbers with the arguments from the place on, and those of the whole atom
abbrev pub Collects : List (List ℕ) → List ℕ → List ℕ → ℕ → List ℕ → Type 0
Collects vs text before at after =
    (p : ℕ) (gs : List Argument) (ws : List Word) → before ≡ nine (Rows.atom p gs) → Spells ws (drop at text) → Small ws → length (gs ++ arguments_in vs ws) ≤ 3
    → after ≡ nine (Rows.atom p (gs ++ arguments_in vs ws))

abbrev pub Numbers : List (List ℕ) → List ℕ → ℕ → ℕ → List ℕ → Type 0
Numbers vs text p at after = (ws : List Word) → Spells ws (drop at text) → Small ws → length (arguments_after vs ws) ≤ 3 → after ≡ nine (Rows.atom p (arguments_after vs ws))

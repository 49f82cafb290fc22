-- What the passes answer of a rule text, in the words of the crate text. Assumes nothing: these are definitions.
use Rattle.std.specs.Prelude.{ℕ, ◌+◌, ◌≤◌, ◌≡◌, Bool, true, false, ◌&&◌, List, eqb, ltb, drop, length}
use Rattle.text.specs.Words.{Word}
use Rattle.text.specs.Grammar.{Reading, RuleText}
use Rattle.text.specs.Unfold.{atoms}
use Rattle.text.specs.Translate.{any_atom, too_large, too_many}
use Rattle.spelling.specs.Codes.{Spells}
use Rattle.census.specs.Folds.{commas_in, arguments_in, large}

-- a word by number is a constant over 2^32 − 1
unfoldable pub large_code : ℕ → List ℕ → Bool
large_code code bs = eqb code 1 && large bs

-- refusal 4
abbrev pub ToldLarge : List ℕ → Bool → Type 0
ToldLarge text r = (f : Reading) → RuleText text f → r ≡ any_atom (λ a. too_large a.terms) (atoms f)

-- a word by number is a comma
unfoldable pub comma_code : ℕ → ℕ
comma_code code = elim (eqb code 16) [ true ↦ 1 | false ↦ 0 ]

-- the commas up to the next `)`, and the arguments after a name
pub record Commas (text : List ℕ) (at r : ℕ) : Type 0 where
  pub few : r ≤ length text
  pub are : (ws : List Word) → Spells ws (drop at text) → r ≡ commas_in ws

pub record Counts (text : List ℕ) (at r : ℕ) : Type 0 where
  pub few : r ≤ length text + 1
  pub are : (ws : List Word) → Spells ws (drop at text) → r ≡ arguments_in ws

-- a word by number is the name of an atom with more than 3 arguments
abbrev pub Wide : List ℕ → ℕ → ℕ → ℕ → Bool → Type 0
Wide text mode word past r = (ws : List Word) → Spells ws (drop past text) → r ≡ ((eqb mode 0 && eqb word 0) && ltb 3 (arguments_in ws))

-- refusal 5
abbrev pub ToldMany : List ℕ → Bool → Type 0
ToldMany text r = (f : Reading) → RuleText text f → r ≡ any_atom (λ a. too_many a.terms) (atoms f)

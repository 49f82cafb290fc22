-- What the functions of the pass promise: rows in a table and frames go as the pass goes. Assumes nothing: these are definitions.
use Rattle.std.specs.Prelude.{ℕ, ◌-◌, ◌≤◌, ◌≡◌, false, List, length, take, drop, Option}
use Rattle.text.specs.Words.{Word, Binary, bytes_of}
use Rattle.text.specs.Grammar.{Reading, RuleText}
use Rattle.text.specs.Unfold.{atoms, number_in, formula_of}
use Rattle.text.specs.Translate.{any_atom, too_large, too_many}
use Rattle.text.specs.Parts.{parts, nine}
use Rattle.text.specs.Emit.{nines, make_row}
use Rattle.text.specs.Held.{Held, Shut, push_rows}
use Rattle.meaning.specs.Rows
use Rattle.spelling.specs.Codes.{code_of, Spells}
use Rattle.rowing.specs.Denoted.{Holds, Denotes}
use Rattle.rowing.specs.Stacking.{Leaves}
use Rattle.atomic.specs.Arguments.{arguments_after, Small}
use Rattle.drive.specs.Drives.{slot_after, waiting, at_operator}

-- the slot of the variable after a quantifier that ends at the place
pub record SlotAt (names : List (List ℕ)) (text : List ℕ) (at r : ℕ) : Type 0 where
  pub small : r ≤ 4
  pub slot : (ws : List Word) → Spells ws (drop at text) → r ≡ slot_after names ws

-- the row of the atom whose name has the bytes and ends at the place
abbrev pub Atomic : List (List ℕ) → List (List ℕ) → List ℕ → List ℕ → ℕ → List (List ℕ) → List (List ℕ) → Option ℕ → Type 0
Atomic ps vs text bytes at table table' row' =
    (ws : List Word) → Spells ws (drop at text) → Small ws → length (arguments_after vs ws) ≤ 3
    → Denotes table' row' (make_row table (nine (Rows.atom (number_in ps bytes) (arguments_after vs ws))))

-- rows, a row and frames
abbrev pub state : List (List ℕ) → ℕ → List Held → Shut
state table row stack = record { last = record { rows = table; row = row }; stack = stack }

-- a word by number comes, with the words after it; where an operand must come a name has at most 3 arguments
pub record Coming (vs : List (List ℕ)) (text : List ℕ) (mode code from past : ℕ) (w : Word) (ws : List Word) : Type 0 where
  pub code_is : code ≡ code_of w
  pub bytes_are : take (past - from) (drop from text) ≡ bytes_of w
  pub rest : Spells ws (drop past text)
  pub small : Small ws
  pub few : mode ≡ 0 → code_of w ≡ 0 → length (arguments_after vs ws) ≤ 3

-- rows and frames go as the word turns them
abbrev pub Moves : List (List ℕ) → (Word → List Word → Shut → Shut) → List ℕ → ℕ → ℕ → ℕ → ℕ → List (List ℕ) → ℕ → List Held → List (List ℕ) → Option ℕ → List Held → Type 0
Moves vs turn text mode code from past table row stack table' row' stack' =
    (w : Word) (ws : List Word) → Coming vs text mode code from past w ws → Leaves table' row' stack' (turn w ws (state table row stack))

-- rows and frames go as a word turns them where an operator must come
abbrev pub Operates : ℕ → List (List ℕ) → ℕ → List Held → List (List ℕ) → Option ℕ → List Held → Type 0
Operates code table row stack table' row' stack' = (w : Word) → code ≡ code_of w → Leaves table' row' stack' (at_operator w (state table row stack))

-- the operator waits, and there is no last row
abbrev pub Joins : Binary → List (List ℕ) → ℕ → List Held → List (List ℕ) → Option ℕ → List Held → Type 0
Joins o table row stack table' row' stack' = Leaves table' row' stack' (waiting (push_rows o (record { rows = table; row = row }) stack))

-- the rows of the text's formula
abbrev pub RowsOf : {A : Type 0} → List ℕ → List (List ℕ) → Option A → Type 0
RowsOf text table answer = (f : Reading) → RuleText text f → Holds table answer (nines (parts (formula_of f)) (parts (formula_of f)))

-- refusals 4 and 5 do not apply
pub record Passed (text : List ℕ) : Type 0 where
  pub small : (f : Reading) → RuleText text f → any_atom (λ a. too_large a.terms) (atoms f) ≡ false
  pub few : (f : Reading) → RuleText text f → any_atom (λ a. too_many a.terms) (atoms f) ≡ false

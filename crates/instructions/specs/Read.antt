-- What the code reads from a decoded row: its instruction, and what each fact adds to it, with the numbers of the facts' values in a table.
-- Assumes nothing: these are definitions.
use Rattle.std.specs.Prelude.{ℕ, suc, Bool, true, false, cond, Option, Some, None, List, [], ◌∷◌, eqb}
use Rattle.meaning.specs.Qtl.{Argument, variable, constant}
use Rattle.meaning.specs.Rows.{Row, truth, atom, both, neg, since, previous, exists}
use Rattle.std.specs.Option.{unwrap_or}
use Rattle.making.specs.declared.Number.{Number}
use Rattle.numbers.specs.Asking.{number_at}
use Rattle.diagram.specs.Steps.{Turn}
use Rattle.diagram.specs.declared.Instruction.{Instruction}
use Rattle.diagram.specs.declared.Instruction.TheVariants.{Yes, And, Not, Since, Old, Drop}

-- the argument is the variable v
unfoldable pub names : ℕ → Argument → Bool
names v (variable w) = eqb w v
names v (constant c) = false

-- the number that variable v has for the value j of fact f; past all numbers where none is told, which is so of no fact that an atom matches
abbrev pub number_read : List (Option Number) → ℕ → ℕ → ℕ → Number
number_read given f v j = unwrap_or (number_at given f v j) (record { 0 = 4294967295 })

-- what the bits of variable v are to show: the number at its first place among the arguments, counted from j on, and any number where it has none
unfoldable pub place_read : ℕ → ℕ → List Argument → List (Option Number) → ℕ → Option Number
place_read v j [] given f = None
place_read v j (g ∷ gs) given f = cond (names v g) (Some (number_read given f v j)) (place_read v (suc j) gs given f)

-- what fact f adds to an atom: the points of its four places where it matches, and nothing where it does not
unfoldable pub turn_read : Bool → List Argument → List (Option Number) → ℕ → Turn
turn_read matched gs given f =
    cond matched (Some (place_read 0 0 gs given f ∷ place_read 1 0 gs given f ∷ place_read 2 0 gs given f ∷ place_read 3 0 gs given f ∷ [])) None

-- and to a row: nothing to one that is no atom
unfoldable pub row_turn : Row → Bool → List (Option Number) → ℕ → Turn
row_turn truth matched given f = None
row_turn (atom p gs) matched given f = turn_read matched gs given f
row_turn (both l r) matched given f = None
row_turn (neg r) matched given f = None
row_turn (since l r) matched given f = None
row_turn (previous r) matched given f = None
row_turn (exists x r) matched given f = None

-- the row is an atom
unfoldable pub is_atom : Row → Bool
is_atom truth = false
is_atom (atom p gs) = true
is_atom (both l r) = false
is_atom (neg r) = false
is_atom (since l r) = false
is_atom (previous r) = false
is_atom (exists x r) = false

-- the instruction of a row; that of an atom is never asked for
unfoldable pub instruction_read : Row → Instruction
instruction_read truth = Yes
instruction_read (atom p gs) = Yes
instruction_read (both l r) = And l r
instruction_read (neg r) = Not r
instruction_read (since l r) = Since l r
instruction_read (previous r) = Old r
instruction_read (exists x r) = Drop x r

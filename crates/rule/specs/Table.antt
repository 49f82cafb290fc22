-- The table of uses as the code has it, and what its entries mean. Assumes nothing: these are definitions.
use Rattle.std.specs.Prelude.{ℕ, ◌-◌, cond, List, [], ◌∷◌, eqb, get_or}
use Rattle.meaning.specs.Rows
use Rattle.meaning.specs.Rows.{unused, as_predicate, as_row, as_variable, as_count}
use Rattle.rule.specs.declared.right.Use.{Use}
use Rattle.rule.specs.declared.right.Use.TheVariants.{Unused, Predicate, Row, Variable, Count, Arguments}

-- the constant `USES`: p, q and the three pairs of the kinds 1 to 7
unfoldable pub table : List (List Use)
table =
    (Unused ∷ Unused ∷ Unused ∷ [])
    ∷ (Predicate ∷ Count ∷ Arguments ∷ [])
    ∷ (Row ∷ Row ∷ Unused ∷ [])
    ∷ (Row ∷ Unused ∷ Unused ∷ [])
    ∷ (Row ∷ Row ∷ Unused ∷ [])
    ∷ (Row ∷ Unused ∷ Unused ∷ [])
    ∷ (Variable ∷ Row ∷ Unused ∷ [])
    ∷ []

-- its entry for a kind and a field
unfoldable pub entry : ℕ → ℕ → Use
entry kind f = get_or (get_or table (kind - 1) []) f Unused

-- what it says of p and q: arguments stand in neither, and would be a count
unfoldable pub used_as : Use → Rows.Use
used_as Unused = unused
used_as Predicate = as_predicate
used_as Row = as_row
used_as Variable = as_variable
used_as Count = as_count
used_as Arguments = as_count

-- how many of the pairs a row of a kind uses, where its field q is q: "first q used" in an atom, and none in the other kinds
unfoldable pub used_pairs : ℕ → ℕ → ℕ
used_pairs kind q = cond (eqb kind 2) q 0

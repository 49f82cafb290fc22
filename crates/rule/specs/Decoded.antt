-- What the decoded rows and arguments of the code mean. Assumes nothing: these are definitions.
use Rattle.std.specs.Prelude.{ℕ, zero, suc, ◌≡◌, cond, List, [], ◌∷◌, map, eqb, take}
use Rattle.meaning.specs.Qtl
use Rattle.meaning.specs.Qtl.{variable, constant}
use Rattle.meaning.specs.Rows
use Rattle.meaning.specs.Rows.{truth, atom, both, neg, since, previous, exists, field, row_at}
use Rattle.rule.specs.declared.Argument.{Argument}
use Rattle.rule.specs.declared.Argument.TheVariants.{Variable, Constant}
use Rattle.rule.specs.declared.Row.{Row}
use Rattle.rule.specs.declared.Row.TheVariants.{True, Atom, And, Not, Since, Previous, Exists}

-- the argument of the meaning
unfoldable pub argument_of : Argument → Qtl.Argument
argument_of (Variable v) = variable v
argument_of (Constant c) = constant c.0

-- the row of the meaning: of an atom's three arguments the first `count` are used
unfoldable pub row_of : Row → Rows.Row
row_of True = truth
row_of (Atom a) = atom a.predicate (take a.count (map argument_of a.arguments))
row_of (And l r) = both l r
row_of (Not r) = neg r
row_of (Since l r) = since l r
row_of (Previous r) = previous r
row_of (Exists x r) = exists x r

-- "An argument is a variable (mark 0, value 0 to 3) or a constant (mark 1, any value)"
unfoldable pub argument_read : ℕ → ℕ → Argument
argument_read mark x = cond (eqb mark 0) (Variable x) (Constant (record { 0 = x }))

-- the row of a kind with its three arguments, used or not
unfoldable pub row_read : ℕ → ℕ → ℕ → Argument → Argument → Argument → Row
row_read zero p q a b c = True
row_read (suc zero) p q a b c = True
row_read (suc (suc zero)) p q a b c = Atom (record { predicate = p; count = q; arguments = a ∷ b ∷ c ∷ [] })
row_read (suc (suc (suc zero))) p q a b c = And p q
row_read (suc (suc (suc (suc zero)))) p q a b c = Not p
row_read (suc (suc (suc (suc (suc zero))))) p q a b c = Since p q
row_read (suc (suc (suc (suc (suc (suc zero)))))) p q a b c = Previous p
row_read (suc (suc (suc (suc (suc (suc (suc kind))))))) p q a b c = Exists p q

-- the decoded row at place i
unfoldable pub row_read_at : List ℕ → ℕ → Row
row_read_at raw i =
    row_read (field raw i 0) (field raw i 1) (field raw i 2) (argument_read (field raw i 3) (field raw i 4))
    (argument_read (field raw i 5) (field raw i 6)) (argument_read (field raw i 7) (field raw i 8))

-- the decoding of the row at place i: it says what the row says, and nothing of it is left open
pub record Decodes (raw : List ℕ) (i : ℕ) (r : Row) : Type 0 where
  pub says : row_of r ≡ row_at raw i
  pub whole : r ≡ row_read_at raw i

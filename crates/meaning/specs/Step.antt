-- One step of the meaning, read over numbers: the function of each row after an event, and the functions counted for room.
-- Assumes nothing: these are definitions.
use Rattle.std.specs.Prelude.{ℕ, zero, suc, ◌+◌, ◌*◌, ◌<◌, ◌≡◌, true, false, not, ◌&&◌, ◌||◌, List, [], ◌∷◌, ◌++◌, map, eqb, length, get_or, replicate}
use Rattle.trees.specs.Bits.{Function, Same, number, drop, drops}
use Rattle.trees.specs.Tree.{Tree, off, eval, tree_of}
use Rattle.trees.specs.Table.{add_trees}
use Rattle.meaning.specs.Qtl.{Argument, variable, constant, Fact}
use Rattle.meaning.specs.Rows.{Row, truth, atom, both, neg, since, previous, exists}
use Rattle.meaning.specs.Numbering.{Lists, place, listed, ask_facts}

-- an atom's arguments: each constant is the value there, and each variable's bits show the number of the value there
unfoldable pub arguments_say : ℕ → Lists → List Argument → List ℕ → Function
arguments_say k L [] [] s = true
arguments_say k L [] (y ∷ ys) s = false
arguments_say k L (g ∷ gs) [] s = false
arguments_say k L (variable v ∷ gs) (y ∷ ys) s = (listed (L v) y && eqb (number s (v * k) k) (place (L v) y)) && arguments_say k L gs ys s
arguments_say k L (constant c ∷ gs) (y ∷ ys) s = eqb c y && arguments_say k L gs ys s

-- an atom of one fact: the predicate, and its arguments
unfoldable pub fact_says : ℕ → Lists → ℕ → List Argument → Fact → Function
fact_says k L p gs e s = eqb e.predicate p && arguments_say k L gs e.values s

-- "An atom holds for a binding if some fact matches."
unfoldable pub atom_says : ℕ → Lists → ℕ → List Argument → List Fact → Function
atom_says k L p gs [] s = false
atom_says k L p gs (e ∷ es) s = fact_says k L p gs e s || atom_says k L p gs es s

-- What the row at place i says after the event: old j and now j are the functions of the row j before and after it.
unfoldable pub row_says : ℕ → Lists → List Fact → (ℕ → Function) → (ℕ → Function) → ℕ → Row → Function
row_says k L es old now i truth s = true
row_says k L es old now i (atom p gs) s = atom_says k L p gs es s
row_says k L es old now i (both l r) s = now l s && now r s
row_says k L es old now i (neg r) s = not (now r s)
row_says k L es old now i (since l r) s = now r s || (now l s && old i s)
row_says k L es old now i (previous r) s = old r s
row_says k L es old now i (exists x r) s = drops (x * k) k (now r) s

-- the function of the diagram at a place
unfoldable pub says_at : List Tree → ℕ → Function
says_at ts i = eval (get_or ts i off)

-- the diagrams after the event, row by row: ts are those of the rows before
unfoldable pub row_tree : ℕ → Lists → List Fact → List Tree → List Tree → Row → Tree
row_tree k L es old ts r = tree_of (4 * k) (row_says k L es (says_at old) (says_at ts) (length ts) r)

unfoldable pub row_trees : ℕ → Lists → List Fact → List Tree → List Tree → List Row → List Tree
row_trees k L es old ts [] = ts
row_trees k L es old ts (r ∷ rs) = row_trees k L es old (ts ++ row_tree k L es old ts r ∷ []) rs

-- what the tables show: the values that have numbers, and the diagram of each row
pub record Shown : Type 0 where
  pub lists : Lists
  pub trees : List Tree

-- before the first event: no values, and no for every row
unfoldable pub fresh : List Row → Shown
fresh rule = record { lists = λ v. []; trees = replicate (length rule) off }

-- one event
unfoldable pub step : ℕ → List Row → Shown → List Fact → Shown
step k rule s es =
    let L = ask_facts es s.lists rule in
    record { lists = L; trees = row_trees k L es s.trees [] rule }

-- "one step of the meaning, read over numbers": s' is got from s by the facts es
pub record OneStep (k : ℕ) (rule : List Row) (s : Shown) (es : List Fact) (s' : Shown) : Type 0 where
  pub lists_are : s'.lists ≡ ask_facts es s.lists rule
  pub rows_say : (i : ℕ) → i < length rule
      → Same (says_at s'.trees i) (row_says k s'.lists es (says_at s.trees) (says_at s'.trees) i (get_or rule i truth))

-- "the functions met when its variable's bits are removed one at a time, from bit k − 1 down to bit 0"
unfoldable pub removals : ℕ → ℕ → Function → List Function
removals base zero g = []
removals base (suc n) g = drop (base + n) g ∷ removals base n (drop (base + n) g)

unfoldable pub removed : ℕ → List Tree → List Row → List Function
removed k ts [] = []
removed k ts (truth ∷ rs) = removed k ts rs
removed k ts (atom p gs ∷ rs) = removed k ts rs
removed k ts (both l r ∷ rs) = removed k ts rs
removed k ts (neg r ∷ rs) = removed k ts rs
removed k ts (since l r ∷ rs) = removed k ts rs
removed k ts (previous r ∷ rs) = removed k ts rs
removed k ts (exists x r ∷ rs) = removals (x * k) k (says_at ts r) ++ removed k ts rs

-- an atom's function after each fact in turn, those done standing first
unfoldable pub turns : ℕ → Lists → ℕ → List Argument → List Fact → List Fact → List Function
turns k L p gs done [] = []
turns k L p gs done (e ∷ es) = atom_says k L p gs (done ++ e ∷ []) ∷ turns k L p gs (done ++ e ∷ []) es

-- "The room counts, for each atom row, its function after each fact in turn."
unfoldable pub atom_turns : ℕ → Lists → List Fact → List Row → List Function
atom_turns k L es [] = []
atom_turns k L es (truth ∷ rs) = atom_turns k L es rs
atom_turns k L es (atom p gs ∷ rs) = turns k L p gs [] es ++ atom_turns k L es rs
atom_turns k L es (both l r ∷ rs) = atom_turns k L es rs
atom_turns k L es (neg r ∷ rs) = atom_turns k L es rs
atom_turns k L es (since l r ∷ rs) = atom_turns k L es rs
atom_turns k L es (previous r ∷ rs) = atom_turns k L es rs
atom_turns k L es (exists x r ∷ rs) = atom_turns k L es rs

-- "Counted functions: each row's before the event; each row's after it; and for each exists row the functions met ..", and the atoms' in turn
unfoldable pub counted : ℕ → List Row → Shown → List Fact → Shown → List Function
counted k rule old es new = map eval old.trees ++ (map eval new.trees ++ (removed k new.trees rule ++ atom_turns k new.lists es rule))

-- The room of an event. That it is the room of `Room` over the counted functions is a theorem.
unfoldable pub room_of : ℕ → List Row → Shown → List Fact → Shown → ℕ
room_of k rule old es new = length (add_trees [] (map (tree_of (4 * k)) (counted k rule old es new)))

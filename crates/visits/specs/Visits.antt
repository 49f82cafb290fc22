-- The complement and the sweep as walks that count their visits: "a visit is a node looked at through one followed reference".
-- A walk reaches nodes only through references that it follows, adds one for each, leaves included, and gives its answer and
-- its count together: the root's reference, and two for each node that is taken apart. Assumes nothing: these are definitions.
use Rattle.std.specs.Prelude.{ℕ, zero, suc, ◌+◌, ◌*◌, ◌-◌, ◌≤◌, ◌<◌, ◌≡◌, List, [], ◌∷◌, map, length, get_or, set}
use Rattle.trees.specs.Tree.{Tree, mk}
use Rattle.trees.specs.Table.{add_tree, add_trees, at, ref_of, trees_of, Ref}

-- what a walk leaves: the table that it adds to, its notes, its answer, and how many visits it made
pub record Went : Type 0 where
  pub table : List Tree
  pub notes : List ℕ
  pub answer : ℕ
  pub visits : ℕ

-- a visit that goes no further
unfoldable pub stop : List Tree → List ℕ → ℕ → Went
stop us notes r = record { table = us; notes = notes; answer = r; visits = 1 }

-- a visit of a place: its note is 0, and it is taken apart, or one more than an answer, which is given again
unfoldable pub recall : ℕ → List Tree → List ℕ → Went → Went
recall zero us notes apart = apart
recall (suc r) us notes apart = stop us notes r

-- a visit of a reference: of a leaf, which gives what `leaf` says, or of a place
unfoldable pub visit : (ℕ → ℕ) → List Tree → List ℕ → ℕ → (ℕ → Went) → Went
visit leaf us notes zero apart = stop us notes (leaf 0)
visit leaf us notes (suc zero) apart = stop us notes (leaf 1)
visit leaf us notes (suc (suc j)) apart = recall (get_or notes j 0) us notes (apart j)

-- the node of two answers, found or made in the table and noted at place j, with the visit of j itself
unfoldable pub keep : ℕ → ℕ → Went → Went → Went
keep j l x y =
    let d = mk l (at y.table x.answer) (at y.table y.answer) in
    let us = add_tree y.table d in
    record { table = us; notes = set y.notes j (suc (ref_of us d)); answer = ref_of us d; visits = suc (x.visits + y.visits) }

-- The walk from a reference into the nodes ns: a node without a note is taken apart, its low reference followed, then its
-- high one. At most `left` levels are left to ask.
unfoldable pub walk : (ℕ → ℕ) → List ℕ → ℕ → List Tree → List ℕ → ℕ → Went
walk leaf ns zero us notes p = visit leaf us notes p (λ j. stop us notes 0)
walk leaf ns (suc left) us notes p = visit leaf us notes p (λ j.
    let x = walk leaf ns left us notes (get_or ns (3 * j + 1) 0) in
    let y = walk leaf ns left x.table x.notes (get_or ns (3 * j + 2) 0) in
    keep j (get_or ns (3 * j) 0) x y)

-- the complement: yes for no, and no for yes
unfoldable pub complement : List ℕ → ℕ → List Tree → List ℕ → ℕ → Went
complement = walk (λ r. 1 - r)

-- the sweep of one diagram: leaves as they are
unfoldable pub sweep : List ℕ → ℕ → List Tree → List ℕ → ℕ → Went
sweep = walk (λ r. r)

-- what the sweep of all rows leaves: the table, the notes, a reference for each row, and all visits
pub record Swept : Type 0 where
  pub table : List Tree
  pub notes : List ℕ
  pub answers : List ℕ
  pub visits : ℕ

-- the sweep of all rows, in order
unfoldable pub sweeps : List ℕ → ℕ → List Tree → List ℕ → List ℕ → Swept
sweeps ns levels us notes [] = record { table = us; notes = notes; answers = []; visits = 0 }
sweeps ns levels us notes (r ∷ rs) =
    let x = sweep ns levels us notes r in
    let y = sweeps ns levels x.table x.notes rs in
    record { table = y.table; notes = y.notes; answers = x.answer ∷ y.answers; visits = x.visits + y.visits }

-- the notes are right: of a diagram is asked F, and the note of each of the first m places is 0 or one more than a reference of
-- what is asked of its diagram
pub record Right (ns : List ℕ) (m : ℕ) (F : Tree → Tree) (us : List Tree) (notes : List ℕ) : Type 0 where
  pub long : m ≤ length notes
  pub hit : (j r : ℕ) → j < m → get_or notes j 0 ≡ suc r → Ref us r (F (at (trees_of ns m) (suc (suc j))))

-- what is asked of p's diagram was added to us, the answer leads to it, and the notes are right
pub record Answered (ns : List ℕ) (m : ℕ) (F : Tree → Tree) (us : List Tree) (p : ℕ) (w : Went) : Type 0 where
  pub trees : w.table ≡ add_tree us (F (at (trees_of ns m) p))
  pub ref : Ref w.table w.answer (F (at (trees_of ns m) p))
  pub right : Right ns m F w.table w.notes

-- the diagrams of all rows were added to us in order, and each answer leads to its row's
pub record AnsweredAll (ns : List ℕ) (m : ℕ) (us : List Tree) (rs : List ℕ) (w : Swept) : Type 0 where
  pub trees : w.table ≡ add_trees us (map (at (trees_of ns m)) rs)
  pub wide : length w.answers ≡ length rs
  pub refs : (i : ℕ) → i < length rs → Ref w.table (get_or w.answers i 0) (at (trees_of ns m) (get_or rs i 0))

-- what code that walks leaves and answers is what the definition says: table, notes, answer and visits
pub record Refines (w : Went) (us : List Tree) (noted : List ℕ) (r v : ℕ) : Type 0 where
  pub table : w.table ≡ us
  pub notes : w.notes ≡ noted
  pub answer : w.answer ≡ r
  pub visits : w.visits ≡ v

-- the same of code that sweeps rows
pub record RefinesAll (w : Swept) (us : List Tree) (noted rs : List ℕ) (v : ℕ) : Type 0 where
  pub table : w.table ≡ us
  pub notes : w.notes ≡ noted
  pub answers : w.answers ≡ rs
  pub visits : w.visits ≡ v

-- The sentences of document 01's table of refusals, each as a statement about the numbers handed in. Assumes nothing: these are definitions.
use Rattle.std.specs.Prelude.{ℕ, zero, suc, ◌+◌, ◌-◌, ◌*◌, ◌%◌, ◌≤◌, ◌<◌, ◌≡◌, true, false, List, [], ◌∷◌, ◌≢◌, ◌⊎◌, length, get_or}
use Rattle.trees.specs.Tree.{Tree, off, on, node}
use Rattle.trees.specs.Table.{add_trees, at, trees_of}
use Rattle.trees.specs.Kept.{diagrams}
use Rattle.trees.specs.Room.{Room}
use Rattle.trees.specs.Sizes.{node_count}
use Rattle.meaning.specs.declared.State.{State}
use Rattle.meaning.specs.declared.Event.{Event}
use Rattle.meaning.specs.declared.Fact.{Fact as Given}
use Rattle.meaning.specs.Qtl.{Argument, free}
use Rattle.meaning.specs.Rows.{Row, truth, atom, row_fault, count_of_rows, rule_of, formula_at}
use Rattle.meaning.specs.Numbering.{ask_facts}
use Rattle.meaning.specs.Step.{step, counted}
use Rattle.meaning.specs.Tables.{most, part, list_of, free_level}
use Rattle.meaning.specs.Outcome.{capacity, work_size, given, facts_of, Machine, shows}

-- 1: "k not in 1..10"
abbrev pub BadK : ℕ → Type 0
BadK k = (k < 1) ⊎ (10 < k)

-- 2: "row slice not a multiple of 9, or not 1 to 64 rows (place 0)"
abbrev pub BadShape : List ℕ → Type 0
BadShape raw = (length raw % 9 ≢ 0) ⊎ ((count_of_rows raw < 1) ⊎ (64 < count_of_rows raw))

-- "else the first row that breaks a row rule or disagrees in count with an earlier atom"
pub record FirstFault (raw : List ℕ) (p : ℕ) : Type 0 where
  pub shape : ¬ (BadShape raw)
  pub inside : p < count_of_rows raw
  pub faulty : row_fault raw p ≡ true
  pub first : (i : ℕ) → i < p → row_fault raw i ≡ false

-- "else the last row if it has a free variable"
pub record OpenRule (raw : List ℕ) (p : ℕ) : Type 0 where
  pub shape : ¬ (BadShape raw)
  pub none : (i : ℕ) → i < count_of_rows raw → row_fault raw i ≡ false
  pub last : p ≡ count_of_rows raw - 1
  pub variable : ℕ
  pub bound : variable < 4
  pub is_free : free (formula_at (rule_of raw) (count_of_rows raw - 1)) variable ≡ true

abbrev pub BadRows : List ℕ → ℕ → Type 0
BadRows raw p = ((p ≡ 0) × BadShape raw) ⊎ (FirstFault raw p ⊎ OpenRule raw p)

-- 3: "node, value or work slice of the wrong length"
abbrev pub BadNodes : List ℕ → Type 0
BadNodes nodes = (length nodes % 3 ≢ 0) ⊎ ((capacity nodes < 1) ⊎ (4096 < capacity nodes))

abbrev pub BadValues : ℕ → List ℕ → Type 0
BadValues k values = length values ≢ 4 * most k

abbrev pub BadWork : List ℕ → List ℕ → Type 0
BadWork nodes work = length work < work_size (capacity nodes)

-- r is one of the two references of the node at place j
abbrev pub Side : List ℕ → ℕ → ℕ → Type 0
Side nodes j r = (r ≡ get_or nodes (3 * j + 1) 0) ⊎ (r ≡ get_or nodes (3 * j + 2) 0)

-- the level is that of a node of the diagram
unfoldable pub AsksLevel : Tree → ℕ → Type 0
AsksLevel off l = ⊥
AsksLevel on l = ⊥
AsksLevel (node x a b) l = (l ≡ x) ⊎ (AsksLevel a l ⊎ AsksLevel b l)

-- 4: "state not well formed", a case for each clause
pub data IllFormed (k C : ℕ) (rule : List Row) (s : State) (nodes values : List ℕ) : Type 0 where
  -- "its row count isn't the rule's"
  row_count : s.rows ≢ length rule → IllFormed k C rule s nodes values
  -- "more kept nodes than C"
  kept_over : C < s.kept → IllFormed k C rule s nodes values
  -- "a reference past the kept nodes .."
  reference_past : (i : ℕ) → i < length rule → s.kept + 2 ≤ get_or s.refs i 0 → IllFormed k C rule s nodes values
  -- ".. or not 0 past the rows"
  reference_set : (i : ℕ) → length rule ≤ i → get_or s.refs i 0 ≢ 0 → IllFormed k C rule s nodes values
  -- "nodes not as the node rules .. say": "Both references of a node differ .."
  sides_equal : (j : ℕ) → j < s.kept → get_or nodes (3 * j + 1) 0 ≡ get_or nodes (3 * j + 2) 0 → IllFormed k C rule s nodes values
  -- ".. and lead to higher levels or leaves"
  side_not_higher : (j i : ℕ) → j < s.kept → Side nodes j (i + 2) → get_or nodes (3 * i) 0 ≤ get_or nodes (3 * j) 0 → IllFormed k C rule s nodes values
  -- "no two nodes are equal"
  nodes_equal : (i j : ℕ) → i < s.kept → j < i → get_or nodes (3 * i) 0 ≡ get_or nodes (3 * j) 0 → get_or nodes (3 * i + 1) 0 ≡ get_or nodes (3 * j + 1) 0
      → get_or nodes (3 * i + 2) 0 ≡ get_or nodes (3 * j + 2) 0 → IllFormed k C rule s nodes values
  -- ".. and their order say": "children before parents"
  child_after : (j r : ℕ) → j < s.kept → Side nodes j r → j + 2 ≤ r → IllFormed k C rule s nodes values
  -- "rows in order, each diagram low side first, .. each node once"
  out_of_order : add_trees [] (diagrams nodes s.kept s.refs (length rule)) ≢ trees_of nodes s.kept → IllFormed k C rule s nodes values
  -- "a level outside the row's free variables"
  level_outside : (i l : ℕ) → i < length rule → AsksLevel (at (trees_of nodes s.kept) (get_or s.refs i 0)) l → free_level k rule i l ≡ false → IllFormed k C rule s nodes values
  -- "sizes that don't fit the diagrams": a row's is not the count of its diagram's nodes ..
  size_other : (i : ℕ) → i < length rule → get_or s.sizes i 0 ≢ node_count (at (trees_of nodes s.kept) (get_or s.refs i 0)) → IllFormed k C rule s nodes values
  -- .. one past the rows is not 0 ..
  size_set : (i : ℕ) → length rule ≤ i → get_or s.sizes i 0 ≢ 0 → IllFormed k C rule s nodes values
  -- .. or they are not "the 64 sizes", which a state's are by their type
  size_count : length s.sizes ≢ 64 → IllFormed k C rule s nodes values
  -- "a number other than 0 where the rest is 0": of the nodes, and of each list
  node_rest : (i : ℕ) → 3 * s.kept ≤ i → get_or nodes i 0 ≢ 0 → IllFormed k C rule s nodes values
  value_rest : (v j : ℕ) → v < 4 → get_or s.counts v 0 ≤ j → get_or (part k values v) j 0 ≢ 0 → IllFormed k C rule s nodes values
  -- "a value count over 2^k − 1"
  count_over : (v : ℕ) → v < 4 → most k < get_or s.counts v 0 → IllFormed k C rule s nodes values
  -- "a value twice in one list"
  value_twice : (v i j : ℕ) → v < 4 → i < length (list_of k s values v) → j < i → get_or (list_of k s values v) i 0 ≡ get_or (list_of k s values v) j 0
      → IllFormed k C rule s nodes values

-- 5: "event count over 3, or not the rule's count for its predicate", of one fact
pub record OtherCount (rows : List ℕ) (f : Given) : Type 0 where
  pub place : ℕ
  pub inside : place < count_of_rows rows
  pub arguments : List Argument
  pub row_is : get_or (rule_of rows) place truth ≡ atom f.predicate arguments
  pub differs : length arguments ≢ f.count

abbrev pub BadFact : List ℕ → Given → Type 0
BadFact rows f = (3 < f.count) ⊎ OtherCount rows f

-- "5 also covers any fact in the list"
abbrev pub SomeBad : List ℕ → List Given → Type 0
SomeBad rows [] = ⊥
SomeBad rows (f ∷ fs) = BadFact rows f ⊎ SomeBad rows fs

-- 6: "a variable asks more numbers than it has left": v is the "lowest such variable"
pub record Short (rows : List ℕ) (m : Machine) (e : Event) (v : ℕ) : Type 0 where
  pub bound : v < 4
  pub over : most m.state.k < length (ask_facts (facts_of e) (shows rows m).lists (rule_of rows) v)
  pub lowest : (w : ℕ) → w < v → length (ask_facts (facts_of e) (shows rows m).lists (rule_of rows) w) ≤ most m.state.k

-- 7: "room over C", by the room of `Room`
pub record NoRoom (rows : List ℕ) (m : Machine) (e : Event) : Type 0 where
  pub room : ℕ
  pub is : Room (4 * m.state.k) (counted m.state.k (rule_of rows) (shows rows m) (facts_of e) (step m.state.k (rule_of rows) (shows rows m) (facts_of e))) room
  pub over : capacity m.nodes < room

-- the sentence of refusal number n at place p, for start; and for event
abbrev pub StartSentence : ℕ → List ℕ → List ℕ → List ℕ → ℕ → ℕ → Type 0
StartSentence k rows nodes values zero p = ⊥
StartSentence k rows nodes values (suc zero) p = (p ≡ 0) × BadK k
StartSentence k rows nodes values (suc (suc zero)) p = BadRows rows p
StartSentence k rows nodes values (suc (suc (suc zero))) p = (p ≡ 0) × (BadNodes nodes ⊎ BadValues k values)
StartSentence k rows nodes values (suc (suc (suc (suc n)))) p = ⊥

abbrev pub Sentence : List ℕ → Machine → Event → ℕ → ℕ → Type 0
Sentence rows m e zero p = ⊥
Sentence rows m e (suc zero) p = (p ≡ 0) × BadK m.state.k
Sentence rows m e (suc (suc zero)) p = BadRows rows p
Sentence rows m e (suc (suc (suc zero))) p = (p ≡ 0) × (BadNodes m.nodes ⊎ (BadValues m.state.k m.values ⊎ BadWork m.nodes m.work))
Sentence rows m e (suc (suc (suc (suc zero)))) p =
    (p ≡ 0) × IllFormed m.state.k (capacity m.nodes) (rule_of rows) m.state m.nodes m.values
Sentence rows m e (suc (suc (suc (suc (suc zero))))) p = (p ≡ 0) × ((8 < e.count) ⊎ SomeBad rows (given e))
Sentence rows m e (suc (suc (suc (suc (suc (suc zero)))))) p = Short rows m e p
Sentence rows m e (suc (suc (suc (suc (suc (suc (suc zero))))))) p = (p ≡ 0) × NoRoom rows m e
Sentence rows m e (suc (suc (suc (suc (suc (suc (suc (suc n)))))))) p = ⊥

-- "Checked in this order; the first that applies is given": the sentence n holds at p, and none before it
pub record First (S : ℕ → ℕ → Type 0) (n p : ℕ) : Type 0 where
  pub applies : S n p
  pub none : (i q : ℕ) → i < n → S i q → ⊥

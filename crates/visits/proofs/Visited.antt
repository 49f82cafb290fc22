-- A4: a ceiling on visits. "Negation of a diagram of n nodes makes at most 2 × n + 1 visits; the sweep makes at most
-- 2 × kept + rows." The walks read a table of m nodes whose references go back and of which no two lead to the same tree; p's
-- diagram has its levels from lo on and below hi, and the walk has as many left. Assumes nothing.
use Prim.Native.Nat.{ℕ, ◌+◌, ◌*◌, ◌-◌, ◌≤◌, ◌<◌}
use mathlib.Core.Path.{◌≡◌}
use mathlib.Core.List.{List, [], map}
use lib.ListN.{length, get_or}
use Rattle.trees.specs.Tree.{Tree, Fine, not_t}
use Rattle.trees.specs.Table.{add_trees, at, trees_of}
use Rattle.trees.proofs.TableLaws.{Closed}
use Rattle.trees.proofs.ReadLaws.{Back, One}
use Rattle.trees.specs.Sizes.{node_count}
use Rattle.visits.specs.Visits.{complement, sweep, sweeps, Right, Answered, AnsweredAll}
use Rattle.visits.proofs.VisitLaws.{walk_most}
use Rattle.visits.proofs.AnswerLaws.{walk_answers}
use Rattle.visits.proofs.AskedLaws.{complement_asks, sweep_asks}
use Rattle.visits.proofs.SweepsLaws.{Leads, all_swept, all_most}

module _ (ns : List ℕ) (m : ℕ) (back : Back ns m) (one : One ns m) where
  -- the complement's answer: the nodes of the complement are added, and it leads to them
  pub complement_answers : (hi left : ℕ) (us : List Tree) (notes : List ℕ) (p lo : ℕ) → p < m + 2 → Fine lo hi (at (trees_of ns m) p) → hi ≤ lo + left
      → Closed us → Right ns m (not_t hi) us notes → Answered ns m (not_t hi) us p (complement ns left us notes p)
  unfolding complement
  complement_answers hi = walk_answers ns m back one (complement_asks hi)

  -- "Negation of a diagram of n nodes makes at most 2 × n + 1 visits", whatever is noted before
  pub complement_visits : (hi left : ℕ) (us : List Tree) (notes : List ℕ) (p lo : ℕ) → p < m + 2 → Fine lo hi (at (trees_of ns m) p) → hi ≤ lo + left
      → m ≤ length notes → (complement ns left us notes p).visits ≤ 2 * node_count (at (trees_of ns m) p) + 1
  unfolding complement
  complement_visits = walk_most ns m back one (λ r. 1 - r)

  -- the sweep's answer: the nodes of the diagram are added, and it leads to them
  pub sweep_answers : (hi left : ℕ) (us : List Tree) (notes : List ℕ) (p lo : ℕ) → p < m + 2 → Fine lo hi (at (trees_of ns m) p) → hi ≤ lo + left
      → Closed us → Right ns m (λ d. d) us notes → Answered ns m (λ d. d) us p (sweep ns left us notes p)
  unfolding sweep
  sweep_answers hi = walk_answers ns m back one (sweep_asks hi)

  -- the answers of the sweep of all rows: their diagrams are added in order, and each reference leads to its row's
  pub sweeps_all : (hi : ℕ) (us : List Tree) (notes rs : List ℕ) → Leads ns m hi rs → Closed us → Right ns m (λ d. d) us notes
      → AnsweredAll ns m us rs (sweeps ns hi us notes rs)
  sweeps_all hi us notes rs b cl r = (all_swept ns m back one hi us notes rs b cl r).answered

  -- "the sweep makes at most 2 × kept + rows": into an empty table, with nothing noted, kept being the nodes of the new table
  pub sweep_visits : (hi : ℕ) (notes rs : List ℕ) → Leads ns m hi rs → m ≤ length notes → ((i : ℕ) → i < m → get_or notes i 0 ≡ 0)
      → (sweeps ns hi [] notes rs).visits ≤ 2 * length (add_trees [] (map (at (trees_of ns m)) rs)) + length rs
  sweep_visits = all_most ns m back one

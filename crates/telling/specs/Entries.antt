-- The entries of a diagram: where it comes to the levels of a variable, or passes them. Assumes nothing: these are definitions.
use Rattle.std.specs.Prelude.{ℕ, ◌+◌, ◌-◌, ◌≤◌, ◌<◌, ◌≡◌, true, List, ◌↔◌, ◌≢◌, length, get_or, set}
use Rattle.trees.specs.Tree.{Tree, Fine, same}
use Rattle.trees.specs.Table.{at, trees_of}
use Rattle.nodes.specs.Nodes.{Splits}
use Rattle.telling.specs.Follow.{follow, untold}

-- a reduced ordered diagram, its levels from lo on
pub record Ordered (lo : ℕ) (t : Tree) : Type 0 where
  pub levels : ℕ
  pub fine : Fine lo levels t

-- n and m lead to the same side of r's diagram, whose levels stand from base on
abbrev pub Meet : List ℕ → ℕ → ℕ → ℕ → ℕ → ℕ → ℕ → Type 0
Meet ns kept base k n m r = same (follow base k n (at (trees_of ns kept) r)) (follow base k m (at (trees_of ns kept) r)) ≡ true

-- what the pass at r leaves, of a work slice and the place of the first entry: where r is not marked, both; where its level stands
-- before base, its sides marked; else r as an entry before the others
pub data Passed (ns : List ℕ) (kept base r : ℕ) (work : List ℕ) (from : ℕ) (left : List ℕ) (to : ℕ) : Type 0 where
  skipped : get_or work r 0 ≡ 0 → left ≡ work → to ≡ from → Passed ns kept base r work from left to
  opened : get_or work r 0 ≢ 0 → (l a b : ℕ) → Splits ns kept r l a b → l < base → left ≡ set (set work a 1) b 1 → to ≡ from → Passed ns kept base r work from left to
  entered : get_or work r 0 ≢ 0 → (l a b : ℕ) → Splits ns kept r l a b → base ≤ l → left ≡ set work (from - 1) r → to ≡ from - 1 → Passed ns kept base r work from left to

-- q's diagram, followed through levels before base, comes to the node e, whose level does not stand before it
pub data Enters (ns : List ℕ) (kept base e : ℕ) : ℕ → Type 0 where
  here : (q l a b : ℕ) → q ≡ e → Splits ns kept q l a b → base ≤ l → Enters ns kept base e q
  low : (q l a b : ℕ) → Splits ns kept q l a b → l < base → Enters ns kept base e a → Enters ns kept base e q
  high : (q l a b : ℕ) → Splits ns kept q l a b → l < base → Enters ns kept base e b → Enters ns kept base e q

-- e stands in some place from `from` on and up to place p
pub record Listed (work : List ℕ) (from p e : ℕ) : Type 0 where
  pub place : ℕ
  pub after : from ≤ place
  pub before : place < p + 1
  pub is : get_or work place 0 ≡ e

-- The numbers from place `from` on up to place p are the entries of p's diagram, at most one for each kept node: references to diagrams whose
-- levels stand from base on, each smaller than the next, and all that it takes to tell numbers apart.
pub record Entries (ns : List ℕ) (kept p base : ℕ) (work : List ℕ) (from : ℕ) : Type 0 where
  pub ref : p < kept + 2
  pub room : p < length work
  pub up : from ≤ p + 1
  pub few : p + 1 ≤ from + kept
  pub inside : (i : ℕ) → from ≤ i → i < p + 1 → get_or work i 0 < kept + 2
  pub ordered : (i : ℕ) → from ≤ i → i < p + 1 → Ordered base (at (trees_of ns kept) (get_or work i 0))
  pub once : (i j : ℕ) → from ≤ i → i < j → j < p + 1 → get_or work i 0 < get_or work j 0
  pub all : (e : ℕ) → Enters ns kept base e p → Listed work from p e
  pub only : (e : ℕ) → Listed work from p e → Enters ns kept base e p
  pub exact : (k n m : ℕ) → (untold base k n m (at (trees_of ns kept) p) ≡ true) ↔ ((i : ℕ) → from ≤ i → i < p + 1 → Meet ns kept base k n m (get_or work i 0))

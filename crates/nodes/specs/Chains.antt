-- Chains of places in a slice of numbers, and the chains by which an equal node is found. Assumes nothing: these are definitions.
use Rattle.std.specs.Prelude.{ℕ, suc, ◌+◌, ◌*◌, ◌/◌, ◌%◌, ◌≤◌, ◌<◌, ◌≡◌, Option, Some, None, List, length, get_or, set}
use Rattle.trees.specs.Table.{NodeIs}

-- the bucket of three numbers among `size`
unfoldable pub spread : ℕ → ℕ → ℕ → ℕ → ℕ
spread a b c size = (a * 625341585 + b * 668265263 + c * 374761393) % 4294967296 * size / 4294967296

-- the chain from p on leads to the place i: a chain holds places plus 1, the link of place q stands at links + q, and 0 ends it
pub data Reaches (work : List ℕ) (links i : ℕ) : ℕ → Type 0 where
  here : (p : ℕ) → p ≡ suc i → Reaches work links i p
  later : (p q : ℕ) → p ≡ suc q → Reaches work links i (get_or work (links + q) 0) → Reaches work links i p

-- each of the first n links leads to a smaller place
abbrev pub Falling : List ℕ → ℕ → ℕ → Type 0
Falling work links n = (i : ℕ) → i < n → get_or work (links + i) 0 ≤ i

-- the first n places are chained, each from its head: the heads stand from place `at` on and before the links
pub record Chains (head : ℕ → ℕ) (at links : ℕ) (work : List ℕ) (n : ℕ) : Type 0 where
  pub falls : Falling work links n
  pub starts : (x : ℕ) → at ≤ x → x < links → get_or work x 0 ≤ n
  pub reached : (i : ℕ) → i < n → Reaches work links i (get_or work (head i) 0)

-- the place n is the new head at x, and the old head is its link
abbrev pub joined : List ℕ → ℕ → ℕ → ℕ → List ℕ
joined work x links n = set (set work (links + n) (get_or work x 0)) x (n + 1)

-- a chain of places of nodes can be walked from `first` on
pub record Walkable (ns : List ℕ) (links : ℕ) (work : List ℕ) (first : ℕ) : Type 0 where
  pub places : 3 * first ≤ length ns
  pub room : links + first ≤ length work
  pub falls : Falling work links first

-- what the walk along the chain from p on finds of a node: the first place on it that holds the node, where one does
pub data Sought (ns : List ℕ) (links : ℕ) (work : List ℕ) (l a b : ℕ) : ℕ → Option ℕ → Type 0 where
  ended : (p : ℕ) → p ≡ 0 → Sought ns links work l a b p None
  found : (p q : ℕ) → p ≡ suc q → NodeIs ns q l a b → Sought ns links work l a b p (Some q)
  passed : (p q : ℕ) (r : Option ℕ) → p ≡ suc q → (NodeIs ns q l a b → ⊥) → Sought ns links work l a b (get_or work (links + q) 0) r → Sought ns links work l a b p r

-- the head of the node at place i, the heads being `size` from place `at` on
unfoldable pub head_of : List ℕ → ℕ → ℕ → ℕ → ℕ
head_of ns at size i = at + spread (get_or ns (3 * i) 0) (get_or ns (3 * i + 1) 0) (get_or ns (3 * i + 2) 0) size

-- the first n nodes are chained in the work slice: with c nodes in ns, the heads stand from 13 * c on, and the links from 14 * c on
pub record Chained (ns : List ℕ) (n : ℕ) (work : List ℕ) : Type 0 where
  pub chains : Chains (head_of ns (13 * (length ns / 3)) (length ns / 3)) (13 * (length ns / 3)) (14 * (length ns / 3)) work n

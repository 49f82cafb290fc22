-- What the walks ask and answer. Assumes nothing: these are definitions.
use Rattle.std.specs.Prelude.{ℕ, ◌+◌, ◌-◌, ◌≤◌, ◌<◌, min, max, ◌≡◌, Bool, true, false, ◌&&◌, ◌||◌, List}
use Rattle.trees.specs.Tree.{Fine}
use Rattle.trees.specs.Table.{at, trees_of}
use Rattle.nodes.specs.Nodes.{Sides, first_level}

-- p is a reference among the first n nodes, and its diagram asks only the last `left` of the levels
pub record Within (ns : List ℕ) (n levels left p : ℕ) : Type 0 where
  pub below : p < n + 2
  pub fine : Fine (levels - left) levels (at (trees_of ns n) p)

-- no, yes, or one of three references
pub data Among (l r o : ℕ) : ℕ → Type 0 where
  none : Among l r o 0
  sure : Among l r o 1
  the_left : Among l r o l
  the_right : Among l r o r
  the_old : Among l r o o

-- since of l, r and o is that of l', r' and o', whatever the references other than 0 and 1 lead to
pub record Alike (l r o l' r' o' : ℕ) : Type 0 where
  pub left : Among l r o l'
  pub right : Among l r o r'
  pub old : Among l r o o'
  pub says : (e : ℕ → Bool) → e 0 ≡ false → e 1 ≡ true → (e r' || (e l' && e o')) ≡ (e r || (e l && e o))

-- the same, where l' is no, or l' or o' is a node
pub record Eased (l r o l' r' o' : ℕ) : Type 0 where
  pub alike : Alike l r o l' r' o'
  pub level : 1 ≤ l' → 2 ≤ max l' o'

-- the first level of three diagrams, and the references of their sides there
pub record Forks (ns : List ℕ) (n l r o v l₀ r₀ o₀ l₁ r₁ o₁ : ℕ) : Type 0 where
  pub level : v ≡ min (min (first_level (at (trees_of ns n) l)) (first_level (at (trees_of ns n) r))) (first_level (at (trees_of ns n) o))
  pub left : Sides ns n l v l₀ l₁
  pub right : Sides ns n r v r₀ r₁
  pub old : Sides ns n o v o₀ o₁

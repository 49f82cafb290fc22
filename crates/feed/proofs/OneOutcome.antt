-- Two outcomes that keep the promise of a public function are the same; of `read`, that is `same_reading`. Assumes nothing.
use Prim.Native.Nat.{ℕ}
use mathlib.Core.Path.{◌≡◌, sym, ◌∙◌}
use mathlib.Core.List.{List}
use Rattle.std.specs.Prelude.{Option}
use Rattle.feed.specs.Feeds.{Held, Passed}

-- `next`: the place past the line end, and what is held
pub one_next : (bytes : List ℕ) (h : Held) (p q : Option ℕ) (g k : Held) → Passed bytes h p g → Passed bytes h q k → (p ≡ q) × (g ≡ k)
one_next bytes h p q g k a b = (a.next_is ∙ sym b.next_is, a.held_is ∙ sym b.held_is)

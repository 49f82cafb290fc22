-- What a taken event leaves, put together from the parts that the layers below give. Assumes nothing.
use Prim.Native.Nat.{ℕ, zero, suc, ◌-◌, ◌<◌}
use mathlib.Core.Path.{◌≡◌, refl, sym}
use mathlib.Core.List.{List, [], ◌∷◌, map}
use native.Mathlib.Omega.{arith}
use lib.Dec.{eqb}
use borrow.Author.Tests.{ne_eqb}
use lib.ListN.{length, get_or, length-map, get_or-append}
use Rattle.trees.specs.Tree.{Tree, off, on, node, is_on}
use Rattle.trees.specs.Table.{find, ref_of}
use Rattle.trees.specs.Sizes.{sizes_of}
use Rattle.meaning.specs.declared.Answer.TheVariants.{Verdict}
use Rattle.meaning.specs.Qtl.{Fact}
use Rattle.meaning.specs.Rows.{Row}
use Rattle.meaning.specs.Numbering.{Lists}
use Rattle.meaning.specs.Step.{Shown, room_of}
use Rattle.meaning.specs.Tables.{padded, kept_table, lay_state, lay_values}
use Rattle.meaning.specs.Outcome.{verdict_of}

-- four counts are those of the lists
four_counts : (counts : List ℕ) (L : Lists) → length counts ≡ 4 → ((v : ℕ) → v < 4 → length (L v) ≡ get_or counts v 0)
    → counts ≡ length (L 0) ∷ length (L 1) ∷ length (L 2) ∷ length (L 3) ∷ []
four_counts (a ∷ b ∷ c ∷ d ∷ []) L n h = rw (h 0 (omega arith), h 1 (omega arith), h 2 (omega arith), h 3 (omega arith))
four_counts [] L n h = absurd (omega arith)
four_counts (a ∷ []) L n h = absurd (omega arith)
four_counts (a ∷ b ∷ []) L n h = absurd (omega arith)
four_counts (a ∷ b ∷ c ∷ []) L n h = absurd (omega arith)
four_counts (a ∷ b ∷ c ∷ d ∷ x ∷ xs) L n h = absurd (omega arith)

-- the state of what is shown
pub state_is : (k n : ℕ) (s : Shown) (counts : List ℕ) → length s.trees ≡ n → length counts ≡ 4 → ((v : ℕ) → v < 4 → length (s.lists v) ≡ get_or counts v 0)
    → lay_state k s ≡ record { k = k; rows = n; kept = length (kept_table s); counts = counts; refs = (lay_state k s).refs; sizes = sizes_of s.trees }
unfolding lay_state
state_is k n s counts t c h = rw (t, sym (four_counts counts s.lists c h))

-- lists that are the same for the four variables are written alike
pub values_are : (k : ℕ) (L M : Lists) → ((v : ℕ) → v < 4 → L v ≡ M v) → lay_values k L ≡ lay_values k M
unfolding lay_values
values_are k L M h = rw (h 0 (omega arith), h 1 (omega arith), h 2 (omega arith), h 3 (omega arith))

-- the reference of a diagram is 1 exactly if it is yes
yes_ref : (T : List Tree) (t : Tree) → eqb (ref_of T t) 1 ≡ is_on t
unfolding ref_of is_on
yes_ref T off = refl
yes_ref T on = refl
yes_ref T (node l a b) = ne_eqb (suc (suc (find T (node l a b)))) 1 λ h. omega (arith, h)

map_at : (f : Tree → ℕ) (ts : List Tree) (i : ℕ) → i < length ts → get_or (map f ts) i 0 ≡ f (get_or ts i off)
map_at f [] i h = absurd (omega arith)
map_at f (t ∷ ts) zero h = refl
map_at f (t ∷ ts) (suc i) h = map_at f ts i (omega arith)

-- the verdict is read off the last row's reference
pub verdict_is : (k n : ℕ) (rule : List Row) (before : Shown) (es : List Fact) (after : Shown) → length rule ≡ n → length after.trees ≡ n → 0 < n
    → verdict_of k rule before es after ≡ Verdict (eqb (get_or (lay_state k after).refs (n - 1) 0) 1) (length (kept_table after)) (room_of k rule before es after)
unfolding verdict_of lay_state padded
verdict_is k n rule before es after r t pos =
    rw (r, get_or-append (map (ref_of (kept_table after)) after.trees) _ 0 (n - 1) (rw length-map (omega arith)), map_at (ref_of (kept_table after)) after.trees (n - 1) (omega arith), yes_ref (kept_table after) (get_or after.trees (n - 1) off))

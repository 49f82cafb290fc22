-- The numbers and lengths that fit: the code's tests and the definition's. Assumes nothing.
use Prim.Native.Nat.{ℕ, ◌+◌, ◌*◌, ◌/◌, ◌≤◌}
use mathlib.Core.Path.{◌≡◌, refl, sym}
use mathlib.Core.Bool.{Bool, true, false, not, ◌&&◌}
use native.Mathlib.Omega.{arith}
use lib.Dec.{leb, eqb}
use borrow.Author.Tests.{leb-true, leb-false, le-leb, eqb-true, eq-eqb}
use Rattle.trees.proofs.Tests.{not_true, and_true_l, and_true_r}
use Rattle.nodes.specs.Nodes.{Decides}
use Rattle.diagram.specs.Steps.{fits}
use Rattle.diagram.specs.Works.{Fits}
use Rattle.meaning.specs.Rows.{count_of_rows, right, check_rows}
use Rattle.meaning.proofs.RowsLaws.{checked}
use mathlib.Core.List.{List}
use lib.ListN.{length}

-- a rule has at most 64 rows
pub few_rows : (rows : List ℕ) → check_rows rows ≡ right → length rows / 9 ≤ 64
unfolding count_of_rows
few_rows rows h = (checked rows h).most

-- as many as the code counts
pub count_is : (rows : List ℕ) → count_of_rows rows ≡ length rows / 9
unfolding count_of_rows
count_is rows = refl

-- the last test decides
pub fit_last : (k count nodes work : ℕ) → 1 ≤ k → k ≤ 10 → 1 ≤ count → count ≤ 64 → nodes ≡ 3 * (nodes / 3) → 1 ≤ nodes / 3 → nodes / 3 ≤ 4096
    → Decides (Fits k count nodes work) (leb (16 * (nodes / 3) + 1024) work)
fit_last k count nodes work a b c d e f g = go (leb (16 * (nodes / 3) + 1024) work) refl
  where
    go : (t : Bool) → leb (16 * (nodes / 3) + 1024) work ≡ t → Decides (Fits k count nodes work) t
    go true h = record { least = a; most = b; some = c; few = d; whole = e; one = f; small = g; room = leb-true _ _ h }
    go false h = λ w. let r = w.room in let z = leb-false (16 * (nodes / 3) + 1024) work h in omega arith

module _ (k count nodes work : ℕ) where
  -- numbers that fit pass the test
  pub fits_of : Fits k count nodes work → fits k count nodes work ≡ true
  unfolding fits
  fits_of f =
      rw (le-leb 1 k f.least, le-leb k 10 f.most, le-leb 1 count f.some, le-leb count 64 f.few, eq-eqb nodes (3 * (nodes / 3)) f.whole, le-leb 1 (nodes / 3) f.one, le-leb (nodes / 3) 4096 f.small, le-leb (16 * (nodes / 3) + 1024) work f.room)

  -- and the other way round
  pub of_fits : fits k count nodes work ≡ true → Fits k count nodes work
  unfolding fits
  of_fits e =
      let c5 = leb (16 * (nodes / 3) + 1024) work in
      let c4 = leb 1 (nodes / 3) && leb (nodes / 3) 4096 in
      let c3 = eqb nodes (3 * (nodes / 3)) in
      let c2 = leb 1 count && leb count 64 in
      let c1 = leb 1 k && leb k 10 in
      let r1 = and_true_r c1 (c2 && (c3 && (c4 && c5))) e in
      let r2 = and_true_r c2 (c3 && (c4 && c5)) r1 in
      let r3 = and_true_r c3 (c4 && c5) r2 in
      let e1 = and_true_l c1 (c2 && (c3 && (c4 && c5))) e in
      let e2 = and_true_l c2 (c3 && (c4 && c5)) r1 in
      let e4 = and_true_l c4 c5 r3 in
      record {
        least = leb-true _ _ (and_true_l (leb 1 k) (leb k 10) e1);
        most = leb-true _ _ (and_true_r (leb 1 k) (leb k 10) e1);
        some = leb-true _ _ (and_true_l (leb 1 count) (leb count 64) e2);
        few = leb-true _ _ (and_true_r (leb 1 count) (leb count 64) e2);
        whole = eqb-true _ _ (and_true_l c3 (c4 && c5) r2);
        one = leb-true _ _ (and_true_l (leb 1 (nodes / 3)) (leb (nodes / 3) 4096) e4);
        small = leb-true _ _ (and_true_r (leb 1 (nodes / 3)) (leb (nodes / 3) 4096) e4);
        room = leb-true _ _ (and_true_r c4 c5 r3);
      }

  -- the code's answer is the test's
  pub fits_is : (b : Bool) → Decides (Fits k count nodes work) b → fits k count nodes work ≡ b
  fits_is true f = fits_of f
  fits_is false f = not_true (fits k count nodes work) (λ e. f (of_fits e))

-- a negated answer, turned
pub turned_false : (b : Bool) → not b ≡ false → b ≡ true
turned_false true e = refl
turned_false false e = sym e

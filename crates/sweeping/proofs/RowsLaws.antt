-- Laws of the sweep of all rows: their diagrams added in order, the numbers that show the canonical table, and all visits.
-- Assumes nothing.
use Prim.Native.Nat.{ℕ, zero, suc, ◌+◌, ◌*◌, ◌≤◌, ◌<◌}
use mathlib.Core.Path.{◌≡◌, refl, sym, ap, ◌∙◌}
use mathlib.Core.List.{List, []}
use native.Mathlib.Omega.{arith}
use native.Mathlib.Decide.{ℕ_discrete}
use native.Mathlib.Numerals.{add-one}
use lib.ListN.{length, get_or, set, take, drop, replicate, length-drop, length-set, length-replicate}
use lib.Seq.{ext_get_or, get_or-take, get_or-drop, length-take-le, take-take, take-suc, take-suc-set, get_or-set_same, get_or-set_other}
use Rattle.trees.specs.Tree.{Tree}
use Rattle.trees.specs.Table.{add_tree, add_trees, at, ref_of, show, trees_of, Ref}
use Rattle.trees.specs.Kept.{diagrams}
use Rattle.trees.proofs.TableLaws.{goes_ref}
use Rattle.trees.proofs.CanonicalLaws.{zeros_at}
use Rattle.trees.proofs.ReadLaws.{length_trees, ref_is, numbers_show}
use Rattle.nodes.specs.Nodes.{Rest, Table, Rows, canonical}
use Rattle.nodes.proofs.ReadLaws.{grown_goes, canonical_suc}
use Rattle.visits.specs.Visits.{sweeps, RefinesAll}
use Rattle.visits.proofs.VisitSteps.{sweeps_more}
use Rattle.sweeping.specs.Sweeps.{Ordered, Noted, notes_of, Emitted, sweep_of, Awaits, Copied}
use Rattle.sweeping.proofs.NoteLaws.{few_visits}

-- each row's diagram is reduced and ordered
pub rows_ordered : {ns : List ℕ} {m levels : ℕ} {refs : List ℕ} {count : ℕ} → Rows ns m levels refs count → (i : ℕ) → i < count → Ordered ns m levels (get_or refs i 0)
rows_ordered {levels = levels} rows i h = record { below = rows.inside i h; lo = 0; hi = levels; fine = rows.fine i h; deep = omega arith }

-- the sweep of the first i references
pub record Going (ns : List ℕ) (m levels : ℕ) (refs : List ℕ) (count : ℕ) (w₀ w : List ℕ) (c n i : ℕ) (out : List ℕ) (v : ℕ) : Type 0 where
  pub notes : Noted ns m w c n
  pub trees : trees_of (take (3 * c) w) n ≡ canonical ns m refs i
  pub refs_are : (j : ℕ) → j < i → Ref (trees_of (take (3 * c) w) n) (get_or out j 0) (at (trees_of ns m) (get_or refs j 0))
  pub awaits : Awaits count out
  pub size : length w ≡ length w₀
  pub rest : Rest (4 * c) w₀ w
  pub counted : RefinesAll (sweep_of ns m levels refs i) (trees_of (take (3 * c) w) n) (notes_of m c w) (take i out) v
  pub small : v ≤ 8193 * i

-- before the first reference: an empty table and no notes
pub going_none : (ns : List ℕ) (m levels : ℕ) (refs : List ℕ) (count : ℕ) (w : List ℕ) (c : ℕ) (out : List ℕ) → Table ns m → length ns ≡ 3 * c → 4 * c ≤ length w
    → ((i : ℕ) → 3 * c ≤ i → i < 3 * c + m → get_or w i 0 ≡ 0)
    → Awaits count out → Going ns m levels refs count w w c 0 0 out 0
unfolding canonical diagrams add_trees trees_of at sweeps
going_none ns m levels refs count w c out t size room zeros awaits =
    let f = t.fits in
    record {
      notes =
          record {
            source = t;
            size = size;
            room = room;
            table =
                record {
                  small = rw (length-take-le (3 * c) w (omega arith)) (omega (arith, t.small));
                  fits = omega arith;
                  back = λ j h. absurd (omega arith);
                  one = one;
                };
            right = λ i h k. let z = zeros (3 * c + i) (omega arith) (omega arith) in absurd (omega arith);
            each = λ p h. absurd (omega arith);
          };
      trees = refl;
      refs_are = λ j h. absurd (omega arith);
      awaits = awaits;
      size = refl;
      rest = record { eq = λ i h. refl };
      counted = record { table = refl; notes = sym (no_notes f); answers = refl; visits = refl };
      small = omega arith;
    }
  where
    no_notes : 3 * m ≤ length ns → notes_of m c w ≡ replicate m 0
    no_notes f =
        let long : length (notes_of m c w) ≡ m = length-take-le m (drop (3 * c) w) (rw length-drop (omega arith)) in
        ext_get_or 0 (notes_of m c w) (replicate m 0) (long ∙ sym (length-replicate {A = ℕ} m 0))
        (λ i h. get_or-take m (drop (3 * c) w) i 0 (omega arith) ∙ get_or-drop (3 * c) w i 0 ∙ zeros (3 * c + i) (omega arith) (omega arith) ∙ sym (zeros_at m i))

    one : (r s : ℕ) → r < 2 → s < 2 → at [] r ≡ at [] s → r ≡ s
    one zero zero h k e = refl
    one zero (suc zero) h k e = cc
    one (suc zero) zero h k e = cc
    one (suc zero) (suc zero) h k e = refl
    one zero (suc (suc s)) h k e = absurd (omega arith)
    one (suc zero) (suc (suc s)) h k e = absurd (omega arith)
    one (suc (suc r)) s h k e = absurd (omega arith)

-- one reference more
pub going_more : {ns : List ℕ} {m levels : ℕ} {refs w₀ w w' : List ℕ} {c n n' i count : ℕ} {out : List ℕ} {r v u : ℕ} → Rows ns m levels refs count → i < count → i < length refs
    → length w' ≡ length w → Going ns m levels refs count w₀ w c n i out v → Emitted ns m (get_or refs i 0) w w' c n n' r u → Going ns m levels refs count w₀ w' c n' (i + 1) (set out i r) (v + u)
going_more {ns} {m} {levels} {refs} {w = w} {w'} {c} {n} {n'} {i} {out = out} {r} {v} {u} rows few long len g e = record {
  notes = e.notes;
  trees = e.grown.trees ∙ ap (λ (ts : List Tree). add_tree ts (at (trees_of ns m) (get_or refs i 0))) g.trees ∙ sym (canonical_suc ns m refs i long);
  refs_are = λ j h. go j h (ℕ_discrete j i);
  awaits = record { wide = length-set out i r ∙ g.awaits.wide; none = λ j h. get_or-set_other out i j r 0 (omega arith) ∙ g.awaits.none j h };
  size = len ∙ g.size;
  rest = record { eq = λ j h. e.rest.eq j h ∙ g.rest.eq j h };
  counted =
      rw (add-one i, take-suc refs i 0 long, take-suc-set out i r (omega (arith, g.awaits.wide, rows.few)))
      (sweeps_more ns levels [] (replicate m 0) (take i refs) (get_or refs i 0) g.counted (e.counted 0 levels levels (rows.fine i few) (omega arith)));
  small = (let t = g.notes.source in omega (arith, g.small, t.small, t.fits, few_visits g.notes (rows_ordered rows i few) e));
}
  where
    go : (j : ℕ) → j < i + 1 → Dec (j ≡ i) → Ref (trees_of (take (3 * c) w') n') (get_or (set out i r) j 0) (at (trees_of ns m) (get_or refs j 0))
    go j h (yes q) = rw (q, get_or-set_same out i r 0 (omega (arith, g.awaits.wide, rows.few))) e.grown.ref
    go j h (no q) = rw (get_or-set_other out i j r 0 q) (goes_ref (grown_goes e.grown) (g.refs_are j (omega arith)))

-- all of them
pub going_all : {ns : List ℕ} {m levels : ℕ} {refs w₀ w : List ℕ} {c n i : ℕ} {out : List ℕ} {v : ℕ} → Going ns m levels refs i w₀ w c n i out v → Copied ns m levels refs i w₀ w c n out v
going_all {ns} {m} {refs = refs} {w = w} {c} {n} {i} {out} g =
    let t = g.notes.table in
    let few = g.notes.room in
    let size = length-take-le (3 * c) w (omega arith) in
    let fits = t.fits in
    record {
      size = sym (length_trees (take (3 * c) w) n) ∙ ap length g.trees;
      fits = omega arith;
      numbers = sym (take-take (3 * n) (3 * c) w (omega arith)) ∙ numbers_show (take (3 * c) w) n t.fits t.back t.one ∙ ap (λ (ts : List Tree). show ts ts) g.trees;
      references =
          record {
            wide = g.awaits.wide;
            is = λ j h. ref_is (take (3 * c) w) n (get_or out j 0) _ t.one (g.refs_are j h) ∙ ap (λ (ts : List Tree). ref_of ts (at (trees_of ns m) (get_or refs j 0))) g.trees;
            none = g.awaits.none;
          };
      rest = g.rest;
      answers = g.counted.answers;
      visits = g.counted.visits;
    }

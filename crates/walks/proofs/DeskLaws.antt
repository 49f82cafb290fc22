-- A walk that makes and remembers leaves the work slice right. Assumes nothing.
use Prim.Native.Nat.{ℕ, ◌+◌, ◌*◌, ◌-◌, ◌/◌, ◌≤◌, ◌<◌}
use mathlib.Core.Path.{◌≡◌, refl, ◌∙◌}
use mathlib.Core.List.{List}
use native.Mathlib.Omega.{arith}
use lib.ListN.{length, get_or, set, length-set}
use lib.Seq.{get_or-set_other}
use Rattle.trees.specs.Tree.{Tree, not_t}
use Rattle.trees.specs.Table.{at, trees_of, Ref}
use Rattle.making.specs.declared.Made.{Made}
use Rattle.std.specs.Prelude.{Option, Some, None}
use Rattle.nodes.specs.Nodes.{Front, Grown}
use Rattle.nodes.proofs.ChainLaws.{chained_same}
use Rattle.nodes.proofs.ReadLaws.{grown_count}
use Rattle.making.specs.Tables.{Added, Shelf, Shelved, Spot, noted, Kept}
use Rattle.walks.specs.Desks.{recalled, Key, Desk, Remembered}
use Rattle.making.proofs.WalkLaws.{kept, front_less, front_trans}
use Rattle.walks.proofs.MemoryLaws.{key_later, recalled_kept, memory_same, memory_grown, noted_other, memory_note}
use Rattle.walks.proofs.NotLaws.{map_same, map_grown, map_set}

-- a slice that differs only before the chains
shelf_same : {ns : List ℕ} {n : ℕ} {w w' : List ℕ} {c : ℕ} → Shelf ns n w c → length w' ≡ length w → ((x : ℕ) → 13 * c ≤ x → get_or w' x 0 ≡ get_or w x 0) → Shelf ns n w' c
shelf_same {ns} {c = c} s size e =
    let third : length ns / 3 ≡ c = omega (arith, s.size) in
    record { table = s.table; size = s.size; some = s.some; long = rw size s.long; chains = chained_same s.chains (rw third (record { eq = e })) }

module _ {ns : List ℕ} {n levels : ℕ} {w : List ℕ} {c slots : ℕ} (k : Desk ns n levels w c slots) where
  -- a place of the memory or of the map is one of the slice
  pub spot_inside : {i : ℕ} → Spot c slots i → i + 3 < 13 * c
  spot_inside p = omega (arith, p.inside, p.is, k.fits)

  pub work_long : 15 * c ≤ length w
  work_long = k.shelf.long

  -- nodes were made
  pub desk_shelved : {ms : List ℕ} {m r : ℕ} {t : Tree} {w' : List ℕ} → Grown ns ms n m r t → Shelved w ms m w' c → Desk ms m levels w' c slots
  desk_shelved g s = record {
    shelf = s.shelf;
    some = k.some;
    fits = k.fits;
    complements = map_same (λ x h l. s.same.eq x (omega arith)) (map_grown g k.complements);
    memory = memory_same k.fits (λ x h l. s.same.eq x l) (memory_grown g k.memory);
  }

  -- the same of a walk that only makes nodes
  pub desk_added : (w' ms : List ℕ) (t : Tree) (m : Option Made) → Added (λ xs j. Shelved w xs j w' c) ns ms n t m → Added (λ xs j. Remembered w xs j levels w' c slots) ns ms n t m
  desk_added w' ms t None g = g
  desk_added w' ms t (Some m) g = (g.0, record { desk = desk_shelved g.0 g.1; same = front_less g.1.same (omega arith) })

  -- a result is noted
  desk_noted : (i a b d r : ℕ) → Spot c slots i → Key n a b d → Ref (trees_of ns n) r (recalled levels (trees_of ns n) a b d) → Desk ns n levels (noted w i a b d r) c slots
  desk_noted i a b d r p q v =
      let inside = spot_inside p in
      let long = work_long in
      let first : 5 * c ≤ i = omega (arith, p.is) in
      let other = noted_other w i a b d r (omega arith) in
      record {
        shelf = shelf_same k.shelf (simp length-set) (λ x h. other x (λ _. omega arith));
        some = k.some;
        fits = k.fits;
        complements = map_same (λ x h l. other x (λ z. absurd (omega arith))) k.complements;
        memory = memory_note k.memory i a b d r p (omega arith) q v;
      }

  -- a complement is noted
  desk_mapped : (j r : ℕ) → j < n → Ref (trees_of ns n) r (not_t levels (at (trees_of ns n) (j + 2))) → Desk ns n levels (set w (4 * c + j) (r + 1)) c slots
  desk_mapped j r h v =
      let long = work_long in
      let few : j < c = omega (arith, k.shelf.size, k.shelf.table.fits) in
      let other : (x : ℕ) → 5 * c ≤ x → get_or (set w (4 * c + j) (r + 1)) x 0 ≡ get_or w x 0 = λ x l. get_or-set_other w (4 * c + j) x (r + 1) 0 (λ e. omega arith) in
      record {
        shelf = shelf_same k.shelf (simp length-set) (λ x l. other x (omega arith));
        some = k.some;
        fits = k.fits;
        complements = map_set k.complements j r h (omega arith) v;
        memory = memory_same k.fits (λ x l _. other x l) k.memory;
      }

-- the diagram that was made is what a key stands for, and is noted
desk_keep : {ns : List ℕ} {n levels : ℕ} {w : List ℕ} {c slots : ℕ} → Desk ns n levels w c slots → (i a b d : ℕ) → Spot c slots i → Key n a b d
    → {ms : List ℕ} {m r : ℕ} {t : Tree} {w' : List ℕ} → recalled levels (trees_of ns n) a b d ≡ t → Grown ns ms n m r t → Shelved w ms m w' c → Remembered w ms m levels (noted w' i a b d r) c slots
desk_keep {levels = levels} {w} {c} k i a b d p q {r = r} {w' = w'} e g s =
    let k' = desk_shelved k g s in
    let long = work_long k' in
    let inside = spot_inside k' p in
    let first : 5 * c ≤ i = omega (arith, p.is) in
    record {
      desk = desk_noted k' i a b d r p (key_later (grown_count g) q) (rw (recalled_kept g levels a b d q, e) g.ref);
      same = record { eq = λ x h. noted_other w' i a b d r (omega arith) x (λ z. absurd (omega arith)) ∙ s.same.eq x (omega arith) };
    }

-- and so the walk remembers it
pub desk_kept : {ns : List ℕ} {n levels : ℕ} {w : List ℕ} {c slots : ℕ} → Desk ns n levels w c slots → (i a b d : ℕ) → Spot c slots i → Key n a b d
    → (ms w' : List ℕ) (t : Tree) → recalled levels (trees_of ns n) a b d ≡ t → (m : Option Made) → Kept ns ms n t w w' c i a b d m → Added (λ xs j. Remembered w xs j levels w' c slots) ns ms n t m
desk_kept k i a b d p q ms w' t e None g = g
desk_kept k i a b d p q ms w' t e (Some m) g = (g.0, rw g.1.is (desk_keep k i a b d p q e g.0 g.1.shelved))

-- nothing is made
pub desk_stays : {ns : List ℕ} {n levels : ℕ} {w : List ℕ} {c slots : ℕ} → Desk ns n levels w c slots → Remembered w ns n levels w c slots
desk_stays k = record { desk = k; same = record { eq = λ i h. refl } }

-- one walk after another, each of which only makes and remembers
pub desk_then : (c : ℕ) {w₀ w₁ : List ℕ} → Front (5 * c) w₀ w₁ → (levels slots : ℕ) (w₂ ns ms : List ℕ) (n : ℕ) (t : Tree) (m : Option Made)
    → Added (λ xs j. Remembered w₁ xs j levels w₂ c slots) ns ms n t m → Added (λ xs j. Remembered w₀ xs j levels w₂ c slots) ns ms n t m
desk_then c e levels slots w₂ ns ms n t None g = g
desk_then c e levels slots w₂ ns ms n t (Some m) g = (g.0, record { desk = g.1.desk; same = front_trans e g.1.same (omega arith) })

-- the same of a complement
pub desk_keep_not : {ns : List ℕ} {n levels : ℕ} {w : List ℕ} {c slots : ℕ} → Desk ns n levels w c slots → (p : ℕ) → 2 ≤ p → p < n + 2
    → {ms : List ℕ} {m r : ℕ} {t : Tree} {w' : List ℕ} → not_t levels (at (trees_of ns n) p) ≡ t → Grown ns ms n m r t → Shelved w ms m w' c → Desk ms m levels (set w' (4 * c + (p - 2)) (r + 1)) c slots
desk_keep_not {levels = levels} k p h l {r = r} e g s =
    let q : p - 2 + 2 ≡ p = omega arith in
    desk_mapped (desk_shelved k g s) (p - 2) r (omega (arith, grown_count g)) (rw (q, kept g p l, e) g.ref)

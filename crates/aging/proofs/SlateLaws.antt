-- Laws of the memory of one operation's results, and of the table beside it. Assumes nothing.
use Prim.Native.Nat.{ℕ, ◌+◌, ◌*◌, ◌/◌, ◌≤◌, ◌<◌}
use mathlib.Core.Path.{◌≡◌, refl, sym, ◌∙◌}
use mathlib.Core.List.{List}
use native.Mathlib.Decide.{ℕ_discrete}
use native.Mathlib.Omega.{arith}
use lib.ListN.{length, get_or, set, length-set}
use lib.Seq.{get_or-set_same, get_or-set_other}
use Rattle.trees.specs.Tree.{Tree, mk}
use Rattle.trees.specs.Table.{at, trees_of, Ref}
use Rattle.trees.proofs.TableLaws.{goes_ref}
use Rattle.trees.proofs.ReadLaws.{length_trees}
use Rattle.nodes.specs.Nodes.{Front, Table, Grown}
use Rattle.nodes.proofs.ChainLaws.{chained_same}
use Rattle.nodes.proofs.ReadLaws.{grown_goes, grown_count, grown_ref, stays}
use Rattle.making.specs.declared.Made.{Made}
use Rattle.std.specs.Prelude.{Option, Some, None}
use Rattle.making.specs.Tables.{Added, Shelf, Shelved, Spot, SlotIs, noted, Looked, Kept}
use Rattle.making.proofs.WalkLaws.{kept, front_less, front_trans}
use Rattle.walks.proofs.MemoryLaws.{noted_other}
use Rattle.aging.specs.Slates.{Trio, applied, Results, Slate, Slated}

-- three references stay so while the table grows
pub trio_later : {n m a b d : ℕ} → n ≤ m → Trio n a b d → Trio m a b d
trio_later le k = record { first = omega (arith, k.first); second = omega (arith, k.second); third = omega (arith, k.third) }

-- the operation gives the same of them
pub applied_kept : {ns ms : List ℕ} {n m r : ℕ} {t : Tree} → Grown ns ms n m r t → (op : Tree → Tree → Tree → Tree) (a b d : ℕ) → Trio n a b d
    → applied op (trees_of ms m) a b d ≡ applied op (trees_of ns n) a b d
applied_kept g op a b d k = rw (kept g a k.first, kept g b k.second, kept g d k.third)

-- the result, after the diagrams of both sides are there
pub applied_over : {ns ns₁ ns₂ : List ℕ} {n n₁ n₂ p q : ℕ} {x y : Tree} (op : Tree → Tree → Tree → Tree) (v a b d : ℕ) → applied op (trees_of ns n) a b d ≡ mk v x y
    → Grown ns ns₁ n n₁ p x → Grown ns₁ ns₂ n₁ n₂ q y → Trio n a b d
    → applied op (trees_of ns₂ n₂) a b d ≡ mk v (at (trees_of ns₂ n₂) p) (at (trees_of ns₂ n₂) q)
applied_over {p = p} op v a b d e g h k =
    applied_kept h op a b d (trio_later (grown_count g) k) ∙ applied_kept g op a b d k ∙ e ∙ rw (kept h p (grown_ref g), g.ref.is, h.ref.is)

-- the four numbers of a slot that is written, and of any other slot
module _ (w : List ℕ) (i a b d r : ℕ) (room : i + 3 < length w) where
  slot_own : SlotIs (noted w i a b d r) i a b d (r + 1)
  slot_own = record {
    first = rw (
      get_or-set_other _ (i + 3) i (r + 1) 0 (omega arith),
      get_or-set_other _ (i + 2) i d 0 (omega arith),
      get_or-set_other _ (i + 1) i b 0 (omega arith),
      get_or-set_same w i a 0 (omega arith),
    );
    second = rw (
      get_or-set_other _ (i + 3) (i + 1) (r + 1) 0 (omega arith),
      get_or-set_other _ (i + 2) (i + 1) d 0 (omega arith),
      get_or-set_same (set w i a) (i + 1) b 0 (simp length-set (omega arith)),
    );
    third = rw (get_or-set_other _ (i + 3) (i + 2) (r + 1) 0 (omega arith), get_or-set_same (set (set w i a) (i + 1) b) (i + 2) d 0 (simp length-set (omega arith)));
    result = get_or-set_same (set (set (set w i a) (i + 1) b) (i + 2) d) (i + 3) (r + 1) 0 (simp length-set (omega arith));
  }

  slot_other : (j x y z q : ℕ) → (i ≤ j + 3 → i + 3 < j) → SlotIs (noted w i a b d r) j x y z q → SlotIs w j x y z q
  slot_other j x y z q f s = record {
    first = sym (noted_other w i a b d r room j (λ h. f (omega arith))) ∙ s.first;
    second = sym (noted_other w i a b d r room (j + 1) (λ h. omega (arith, f (omega arith)))) ∙ s.second;
    third = sym (noted_other w i a b d r room (j + 2) (λ h. omega (arith, f (omega arith)))) ∙ s.third;
    result = sym (noted_other w i a b d r room (j + 3) (λ h. omega (arith, f h))) ∙ s.result;
  }

-- the results do not change where only other numbers do
results_same : {op : Tree → Tree → Tree → Tree} {ns w w' : List ℕ} {n c slots : ℕ} → slots ≤ 2 * c → ((x : ℕ) → 5 * c ≤ x → x < 13 * c → get_or w' x 0 ≡ get_or w x 0)
    → Results op ns n w c slots → Results op ns n w' c slots
results_same few e o = record {
  hit = λ i a b d r p s.
      let q = p.is in
      let h = p.inside in
      o.hit i a b d r p (record {
        first = sym (e i (omega arith) (omega arith)) ∙ s.first;
        second = sym (e (i + 1) (omega arith) (omega arith)) ∙ s.second;
        third = sym (e (i + 2) (omega arith) (omega arith)) ∙ s.third;
        result = sym (e (i + 3) (omega arith) (omega arith)) ∙ s.result;
      });
}

-- they stay right while the table grows
results_grown : {op : Tree → Tree → Tree → Tree} {ns ms : List ℕ} {n m r : ℕ} {t : Tree} {w : List ℕ} {c slots : ℕ} → Grown ns ms n m r t → Results op ns n w c slots → Results op ms m w c slots
results_grown {op} g o = record {
  hit = λ i a b d r p s. let k = o.hit i a b d r p s in (trio_later (grown_count g) k.0, rw (applied_kept g op a b d k.0) (goes_ref (grown_goes g) k.1));
}

-- one more result
results_note : {op : Tree → Tree → Tree → Tree} {ns w : List ℕ} {n c slots : ℕ} → Results op ns n w c slots → (i a b d r : ℕ) → Spot c slots i → i + 3 < length w
    → Trio n a b d → Ref (trees_of ns n) r (applied op (trees_of ns n) a b d) → Results op ns n (noted w i a b d r) c slots
results_note {op} {ns} {w} {n} {c} {slots} o i a b d r at_i room k v = record { hit = λ j x y z q p s. go j x y z q p s (ℕ_discrete j i) }
  where
    go : (j x y z q : ℕ) → Spot c slots j → SlotIs (noted w i a b d r) j x y z (q + 1) → Dec (j ≡ i) → Trio n x y z × Ref (trees_of ns n) q (applied op (trees_of ns n) x y z)
    go j x y z q p s (yes e) =
        let own = slot_own w i a b d r room in
        let t = rw e at s in
        let ea : x ≡ a = sym t.first ∙ own.first in
        let eb : y ≡ b = sym t.second ∙ own.second in
        let ed : z ≡ d = sym t.third ∙ own.third in
        let er : q ≡ r = omega (arith, t.result, own.result) in
        rw (ea, eb, ed, er) (k, v)
    go j x y z q p s (no e) = o.hit j x y z q p (slot_other w i a b d r room j x y z (q + 1) (λ h. apart h) s)
      where
        apart : i ≤ j + 3 → i + 3 < j
        apart h = let u = p.is in let v = at_i.is in omega arith

-- what the memory has for three references is the result
pub results_hit : {op : Tree → Tree → Tree → Tree} {ns w : List ℕ} {n c slots : ℕ} → Table ns n → Results op ns n w c slots → {i : ℕ} → Spot c slots i → (a b d r : ℕ) → Looked w i a b d (Some r)
    → Grown ns ns n n r (applied op (trees_of ns n) a b d)
results_hit {ns = ns} {n = n} t o {i} p a b d r f =
    let v = (o.hit i a b d r p f).1 in
    stays ns n r _ t (omega (arith, v.below, length_trees ns n)) (sym v.is)

-- a slice that differs only before the chains
pub shelf_same : {ns : List ℕ} {n : ℕ} {w w' : List ℕ} {c : ℕ} → Shelf ns n w c → length w' ≡ length w → ((x : ℕ) → 13 * c ≤ x → get_or w' x 0 ≡ get_or w x 0) → Shelf ns n w' c
shelf_same {ns} {c = c} s size e =
    let third : length ns / 3 ≡ c = omega (arith, s.size) in
    record { table = s.table; size = s.size; some = s.some; long = rw size s.long; chains = chained_same s.chains (rw third (record { eq = e })) }

module _ {op : Tree → Tree → Tree → Tree} {ns : List ℕ} {n : ℕ} {w : List ℕ} {c slots : ℕ} (k : Slate op ns n w c slots) where
  -- a place of the memory is one of the slice
  pub spot_inside : {i : ℕ} → Spot c slots i → i + 3 < 13 * c
  spot_inside p = omega (arith, p.inside, p.is, k.fits)

  -- nodes were made
  slate_shelved : {ms : List ℕ} {m r : ℕ} {t : Tree} {w' : List ℕ} → Grown ns ms n m r t → Shelved w ms m w' c → Slate op ms m w' c slots
  slate_shelved g s = record {
    shelf = s.shelf;
    some = k.some;
    fits = k.fits;
    results = results_same k.fits (λ x h l. s.same.eq x l) (results_grown g k.results);
  }

  -- the same of a call that only makes nodes
  pub slate_added : (w' ms : List ℕ) (t : Tree) (m : Option Made) → Added (λ xs j. Shelved w xs j w' c) ns ms n t m → Added (λ xs j. Slated w op xs j w' c slots) ns ms n t m
  slate_added w' ms t None g = g
  slate_added w' ms t (Some m) g = (g.0, record { slate = slate_shelved g.0 g.1; same = front_less g.1.same (omega arith) })

  -- nothing is made
  pub slate_stays : Slated w op ns n w c slots
  slate_stays = record { slate = k; same = record { eq = λ i h. refl } }

  -- the diagram that was made is the operation's result, and is noted
  slate_keep : (i a b d : ℕ) → Spot c slots i → Trio n a b d → {ms : List ℕ} {m r : ℕ} {t : Tree} {w' : List ℕ} → applied op (trees_of ns n) a b d ≡ t
      → Grown ns ms n m r t → Shelved w ms m w' c → Slated w op ms m (noted w' i a b d r) c slots
  slate_keep i a b d p q {r = r} {w' = w'} e g s =
      let k' = slate_shelved g s in
      let long = s.shelf.long in
      let inside = spot_inside p in
      let first : 5 * c ≤ i = omega (arith, p.is) in
      let other = noted_other w' i a b d r (omega arith) in
      record {
        slate =
            record {
              shelf = shelf_same s.shelf (simp length-set) (λ x h. other x (λ _. omega arith));
              some = k.some;
              fits = k.fits;
              results = results_note k'.results i a b d r p (omega arith) (trio_later (grown_count g) q) (rw (applied_kept g op a b d q, e) g.ref);
            };
        same = record { eq = λ x h. other x (λ z. absurd (omega arith)) ∙ s.same.eq x (omega arith) };
      }

  -- so the walk remembers it
  pub slate_kept : (i a b d : ℕ) → Spot c slots i → Trio n a b d → (ms w' : List ℕ) (t : Tree) → applied op (trees_of ns n) a b d ≡ t
      → (m : Option Made) → Kept ns ms n t w w' c i a b d m → Added (λ xs j. Slated w op xs j w' c slots) ns ms n t m
  slate_kept i a b d p q ms w' t e None g = g
  slate_kept i a b d p q ms w' t e (Some m) g = (g.0, rw g.1.is (slate_keep i a b d p q e g.0 g.1.shelved))

-- one walk after another, each of which only makes and remembers
pub slate_then : (c : ℕ) {w₀ w₁ : List ℕ} → Front (5 * c) w₀ w₁ → (op : Tree → Tree → Tree → Tree) (slots : ℕ) (w₂ ns ms : List ℕ) (n : ℕ) (t : Tree) (m : Option Made)
    → Added (λ xs j. Slated w₁ op xs j w₂ c slots) ns ms n t m → Added (λ xs j. Slated w₀ op xs j w₂ c slots) ns ms n t m
slate_then c e op slots w₂ ns ms n t None g = g
slate_then c e op slots w₂ ns ms n t (Some m) g = (g.0, record { slate = g.1.slate; same = front_trans e g.1.same (omega arith) })

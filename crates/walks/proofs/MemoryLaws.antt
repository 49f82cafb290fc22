-- Laws of the memory of results. Assumes nothing.
use Prim.Native.Nat.{ℕ, zero, suc, ◌+◌, ◌*◌, ◌≤◌, ◌<◌}
use mathlib.Core.Path.{◌≡◌, refl, sym, ◌∙◌}
use mathlib.Core.List.{List}
use native.Mathlib.Decide.{ℕ_discrete}
use native.Mathlib.Omega.{arith}
use lib.ListN.{length, get_or, set, length-set}
use lib.Seq.{get_or-set_same, get_or-set_other}
use Rattle.trees.specs.Tree.{Tree, mk, since_t, drop_t}
use Rattle.trees.specs.Table.{at, trees_of, Ref}
use Rattle.trees.proofs.TableLaws.{goes_ref}
use Rattle.nodes.specs.Nodes.{Table, Grown}
use Rattle.walks.specs.Walks.{Within}
use Rattle.walks.specs.Desks.{recalled, Key, Memory}
use Rattle.std.specs.Prelude.{Some}
use Rattle.making.specs.Tables.{Spot, SlotIs, noted, Looked}
use Rattle.trees.proofs.ReadLaws.{length_trees}
use Rattle.nodes.proofs.ReadLaws.{grown_goes, grown_count, grown_ref, stays}
use Rattle.making.proofs.WalkLaws.{kept}

-- the key of a since
pub recalled_since : (levels : ℕ) (ts : List Tree) (a b c : ℕ) → 1 ≤ a → recalled levels ts a b c ≡ since_t levels (at ts a) (at ts b) (at ts c)
unfolding recalled
recalled_since levels ts zero b c h = absurd (omega arith)
recalled_since levels ts (suc a) b c h = refl

-- the key of a removal
pub recalled_drop : (levels : ℕ) (ts : List Tree) (b c : ℕ) → recalled levels ts 0 b c ≡ drop_t levels b (at ts c)
unfolding recalled
recalled_drop levels ts b c = refl

-- a key stays one while the table grows
pub key_later : {n m a b c : ℕ} → n ≤ m → Key n a b c → Key m a b c
key_later le k = record { first = omega (arith, k.first); second = λ h. omega (arith, k.second h); third = omega (arith, k.third) }

-- three references are a key
pub since_key : {ns : List ℕ} {n levels left a b c : ℕ} → Within ns n levels left a → Within ns n levels left b → Within ns n levels left c → Key n a b c
since_key wa wb wc = record { first = wa.below; second = λ _. wb.below; third = wc.below }

-- a level and a reference are a key
pub drop_key : {ns : List ℕ} {n levels left p : ℕ} (v : ℕ) → Within ns n levels left p → Key n 0 v p
drop_key v w = record { first = omega arith; second = λ h. absurd (omega arith); third = w.below }

-- a key stands for the same while the table grows
pub recalled_kept : {ns ms : List ℕ} {n m r : ℕ} {d : Tree} → Grown ns ms n m r d → (levels a b c : ℕ) → Key n a b c
    → recalled levels (trees_of ms m) a b c ≡ recalled levels (trees_of ns n) a b c
unfolding recalled
recalled_kept g levels zero b c k = rw (kept g c k.third)
recalled_kept g levels (suc a) b c k = rw (kept g (suc a) k.first, kept g b (k.second (omega arith)), kept g c k.third)

-- the memory does not change where only other numbers do
pub memory_same : {ns w w' : List ℕ} {n levels c slots : ℕ} → slots ≤ 2 * c → ((x : ℕ) → 5 * c ≤ x → x < 13 * c → get_or w' x 0 ≡ get_or w x 0)
    → Memory ns n levels w c slots → Memory ns n levels w' c slots
memory_same few e o = record {
  hit = λ i a b d r p s.
      let q = p.is in
      let h = p.inside in
      o.hit i a b d r p (record {
        first = sym (e i (omega arith) (omega arith)) ∙ s.first;
        second = sym (e (i + 1) (omega arith) (omega arith)) ∙ s.second;
        third = sym (e (i + 2) (omega arith) (omega arith)) ∙ s.third;
        result = sym (e (i + 3) (omega arith) (omega arith)) ∙ s.result;
      });
}

-- a memory stays one while the table grows
pub memory_grown : {ns ms : List ℕ} {n m r levels : ℕ} {d : Tree} {w : List ℕ} {c slots : ℕ} → Grown ns ms n m r d → Memory ns n levels w c slots → Memory ms m levels w c slots
memory_grown {levels = levels} g o = record {
  hit = λ i a b d r p s. let k = o.hit i a b d r p s in (key_later (grown_count g) k.0, rw (recalled_kept g levels a b d k.0) (goes_ref (grown_goes g) k.1));
}

-- the four numbers of a slot that is written, and of any other slot
module _ (w : List ℕ) (i a b d r : ℕ) (room : i + 3 < length w) where
  -- the numbers of the slot
  slot_own : SlotIs (noted w i a b d r) i a b d (r + 1)
  slot_own = record {
    first = rw (
      get_or-set_other _ (i + 3) i (r + 1) 0 (omega arith),
      get_or-set_other _ (i + 2) i d 0 (omega arith),
      get_or-set_other _ (i + 1) i b 0 (omega arith),
      get_or-set_same w i a 0 (omega arith),
    );
    second = rw (
      get_or-set_other _ (i + 3) (i + 1) (r + 1) 0 (omega arith),
      get_or-set_other _ (i + 2) (i + 1) d 0 (omega arith),
      get_or-set_same (set w i a) (i + 1) b 0 (simp length-set (omega arith)),
    );
    third = rw (get_or-set_other _ (i + 3) (i + 2) (r + 1) 0 (omega arith), get_or-set_same (set (set w i a) (i + 1) b) (i + 2) d 0 (simp length-set (omega arith)));
    result = get_or-set_same (set (set (set w i a) (i + 1) b) (i + 2) d) (i + 3) (r + 1) 0 (simp length-set (omega arith));
  }

  -- a number before the slot, or behind it
  pub noted_other : (x : ℕ) → (i ≤ x → i + 3 < x) → get_or (noted w i a b d r) x 0 ≡ get_or w x 0
  noted_other x h = rw (
    get_or-set_other _ (i + 3) x (r + 1) 0 (λ e. omega (arith, h (omega arith))),
    get_or-set_other _ (i + 2) x d 0 (λ e. omega (arith, h (omega arith))),
    get_or-set_other _ (i + 1) x b 0 (λ e. omega (arith, h (omega arith))),
    get_or-set_other w i x a 0 (λ e. omega (arith, h (omega arith))),
  )

  -- the numbers of another slot
  slot_other : (j x y z q : ℕ) → (i ≤ j + 3 → i + 3 < j) → SlotIs (noted w i a b d r) j x y z q → SlotIs w j x y z q
  slot_other j x y z q f s = record {
    first = sym (noted_other j (λ h. f (omega arith))) ∙ s.first;
    second = sym (noted_other (j + 1) (λ h. omega (arith, f (omega arith)))) ∙ s.second;
    third = sym (noted_other (j + 2) (λ h. omega (arith, f (omega arith)))) ∙ s.third;
    result = sym (noted_other (j + 3) (λ h. omega (arith, f h))) ∙ s.result;
  }

-- one more note
pub memory_note : {ns w : List ℕ} {n levels c slots : ℕ} → Memory ns n levels w c slots → (i a b d r : ℕ) → Spot c slots i → i + 3 < length w
    → Key n a b d → Ref (trees_of ns n) r (recalled levels (trees_of ns n) a b d) → Memory ns n levels (noted w i a b d r) c slots
memory_note {ns} {w} {n} {levels} {c} {slots} o i a b d r at_i room k v = record { hit = λ j x y z q p s. go j x y z q p s (ℕ_discrete j i) }
  where
    go : (j x y z q : ℕ) → Spot c slots j → SlotIs (noted w i a b d r) j x y z (q + 1) → Dec (j ≡ i) → Key n x y z × Ref (trees_of ns n) q (recalled levels (trees_of ns n) x y z)
    go j x y z q p s (yes e) =
        let own = slot_own w i a b d r room in
        let t = rw e at s in
        let ea : x ≡ a = sym t.first ∙ own.first in
        let eb : y ≡ b = sym t.second ∙ own.second in
        let ed : z ≡ d = sym t.third ∙ own.third in
        let er : q ≡ r = omega (arith, t.result, own.result) in
        rw (ea, eb, ed, er) (k, v)
    go j x y z q p s (no e) = o.hit j x y z q p (slot_other w i a b d r room j x y z (q + 1) (λ h. apart h) s)
      where
        apart : i ≤ j + 3 → i + 3 < j
        apart h = let u = p.is in let v = at_i.is in omega arith

-- what the memory has for a key is the result
pub memory_hit : {ns w : List ℕ} {n levels c slots : ℕ} → Table ns n → Memory ns n levels w c slots → {i : ℕ} → Spot c slots i → (a b d r : ℕ) → Looked w i a b d (Some r)
    → Grown ns ns n n r (recalled levels (trees_of ns n) a b d)
memory_hit {ns} {w} {n} t o {i} p a b d r f =
    let v = (o.hit i a b d r p f).1 in
    stays ns n r _ t (omega (arith, v.below, length_trees ns n)) (sym v.is)

-- what a key stands for, after the diagrams of both sides are there
pub recalled_over : {ns ns₁ ns₂ : List ℕ} {n n₁ n₂ p q : ℕ} {x y : Tree} (levels l a b c : ℕ) → recalled levels (trees_of ns n) a b c ≡ mk l x y
    → Grown ns ns₁ n n₁ p x → Grown ns₁ ns₂ n₁ n₂ q y → Key n a b c
    → recalled levels (trees_of ns₂ n₂) a b c ≡ mk l (at (trees_of ns₂ n₂) p) (at (trees_of ns₂ n₂) q)
recalled_over {p = p} levels l a b c e g h k =
    rw (recalled_kept h levels a b c (key_later (grown_count g) k), recalled_kept g levels a b c k, kept h p (grown_ref g), g.ref.is, h.ref.is) e

-- The part of the work slice that is lent to the rows' work: its first 15 * c numbers. Assumes nothing.
use Prim.Native.Nat.{ℕ, ◌+◌, ◌*◌, ◌-◌, ◌/◌, ◌≤◌, ◌<◌}
use mathlib.Core.Path.{◌≡◌, refl, sym, ap, ◌∙◌}
use mathlib.Core.List.{List}
use native.Mathlib.Omega.{arith}
use lib.ListN.{length, get_or, take, drop, replicate, length-replicate}
use lib.Seq.{ext_get_or, get_or-take, get_or-drop}
use Rattle.trees.proofs.CanonicalLaws.{zeros_at}
use borrow.Rule.Slice.PartMut.{put_mid, mid_len, same_len_mid, drop_put}
use Rattle.nodes.specs.Nodes.{Rest, Zeroed}
use Rattle.nodes.specs.Chains.{Reaches, here, later, Chained}
use Rattle.nodes.proofs.ChainLaws.{head_within}
use Rattle.making.proofs.WalkLaws.{rest_trans}
use Rattle.walks.specs.Desks.{Desk}
use Rattle.walks.proofs.CallLaws.{desk_none}
use Rattle.walks.proofs.MapLaws.{map_at, map_length}
use Rattle.diagram.specs.Steps.{cleared}
use Rattle.diagram.specs.Works.{Fits, Fresh, Ready}
use Rattle.stepping.proofs.ClearLaws.{filled, cleared_is, rest_more, rest_two}

-- chains depend on the numbers from 13 * c on and before 15 * c
pub chained_part : {ns : List ℕ} {n : ℕ} {w w' : List ℕ} → 3 * n ≤ length ns → 1 ≤ length ns / 3 → ((x : ℕ) → 13 * (length ns / 3) ≤ x → x < 15 * (length ns / 3) → get_or w' x 0 ≡ get_or w x 0)
    → Chained ns n w → Chained ns n w'
chained_part {ns} {n} {w} {w'} fits some e ch =
    let k = ch.chains in
    record {
      chains = record {
        falls = λ i h. rw (e (14 * (length ns / 3) + i) (omega arith) (omega arith)) (k.falls i h);
        starts = λ x h l. rw (e x h (omega arith)) (k.starts x h l);
        reached = λ i h.
            let inside = head_within ns (13 * (length ns / 3)) (length ns / 3) (14 * (length ns / 3)) some (omega arith) i in
            rw (e _ inside.0 (omega (arith, inside.1))) (keep i _ (k.starts _ inside.0 inside.1) (k.reached i h));
      };
    }
  where
    keep : (i p : ℕ) → p ≤ n → Reaches w (14 * (length ns / 3)) i p → Reaches w' (14 * (length ns / 3)) i p
    keep i p h (here p' f) = here p f
    keep i p h (later p' q f r) =
        later p q f (rw (e (14 * (length ns / 3) + q) (omega arith) (omega arith)) (keep i _ (omega (arith, ch.chains.falls q (omega arith))) r))

module _ (a : ℕ) (w : List ℕ) (fits : a ≤ length w) where
  -- the numbers of the first part
  lent : (i : ℕ) → i < a → get_or (take (a - 0) (drop 0 w)) i 0 ≡ get_or w i 0
  lent i h =
      let z : 0 + i ≡ i = omega arith in
      get_or-take (a - 0) (drop 0 w) i 0 (omega arith) ∙ get_or-drop 0 w i 0 ∙ ap (λ (x : ℕ). get_or w x 0) z

  -- behind it nothing changes
  lent_rest : (ys : List ℕ) → length ys ≡ length (take (a - 0) (drop 0 w)) → Rest a w (put_mid 0 (a - 0) w ys)
  lent_rest ys e = record {
    eq = λ i h.
        let z : a + (i - a) ≡ i = omega arith in
        rw (← z) (rw (← get_or-drop a (put_mid 0 (a - 0) w ys) (i - a) 0, ← get_or-drop a w (i - a) 0, drop_put 0 a w ys (omega arith) fits (e ∙ mid_len 0 a w fits)) refl);
  }

-- the desk of well kept diagrams, before any row is worked
pub desk_ready : {k count : ℕ} {refs : List ℕ} {kept : ℕ} {ns w : List ℕ} → Fits k count (length ns) (length w) → Ready k count refs kept ns → Chained ns kept w → (slots : ℕ) → 1 ≤ slots → slots ≤ 2 * (length ns / 3)
    → {w₁ : List ℕ} → Zeroed (4 * (length ns / 3)) (5 * (length ns / 3) + 4 * slots) w w₁
    → Desk ns kept (4 * k) (take (15 * (length ns / 3) - 0) (drop 0 w₁)) (length ns / 3) slots
desk_ready {k} {kept = kept} {ns} {w} f r ch slots some few {w₁} z =
    let c = length ns / 3 in
    let room = f.room in
    let size = z.size in
    let long : 15 * c ≤ length w₁ = omega arith in
    let same = lent (15 * c) w₁ long in
    desk_none (4 * k) slots
    (record {
      table = r.table;
      size = f.whole;
      some = f.one;
      long = omega (arith, mid_len 0 (15 * c) w₁ long);
      chains = chained_part r.table.fits f.one (λ x h l. same x l ∙ z.rest.eq x (omega arith)) ch;
    })
    some few (λ i h l. same i (omega arith) ∙ z.zero i h l)

-- zeros behind the nodes, and an empty map
pub fresh_ready : {k count : ℕ} {refs : List ℕ} {kept : ℕ} {ns w : List ℕ} → Fits k count (length ns) (length w) → Ready k count refs kept ns → (slots : ℕ)
    → {w₁ : List ℕ} → Zeroed (4 * (length ns / 3)) (5 * (length ns / 3) + 4 * slots) w w₁ → Fresh ns kept (take (15 * (length ns / 3) - 0) (drop 0 w₁)) (length ns / 3)
fresh_ready {ns = ns} f r slots {w₁} z =
    let c = length ns / 3 in
    let room = f.room in
    let size = z.size in
    let long : 15 * c ≤ length w₁ = omega arith in
    let lent-long : 15 * c ≤ length (take (15 * c - 0) (drop 0 w₁)) = omega (arith, mid_len 0 (15 * c) w₁ long) in
    record {
      behind = r.rest;
      map =
          ext_get_or 0 _ _ (map_length c (take (15 * c - 0) (drop 0 w₁)) lent-long ∙ sym (length-replicate c 0))
          (λ i h.
          let l : i < c = omega (arith, map_length c (take (15 * c - 0) (drop 0 w₁)) lent-long) in
          map_at c (take (15 * c - 0) (drop 0 w₁)) i l ∙ lent (15 * c) w₁ long (4 * c + i) (omega arith) ∙ z.zero (4 * c + i) (omega arith) (omega arith) ∙ sym (zeros_at c i));
    }

-- the work slice with the lent part back in its place
pub lent_back : (ns : List ℕ) {k count : ℕ} {w : List ℕ} → Fits k count (length ns) (length w) → (slots : ℕ) → slots ≤ 2 * (length ns / 3)
    → {w₁ : List ℕ} → Zeroed (4 * (length ns / 3)) (5 * (length ns / 3) + 4 * slots) w w₁ → (ys : List ℕ) → length ys ≡ length (take (15 * (length ns / 3) - 0) (drop 0 w₁))
    → Rest (15 * (length ns / 3)) w (put_mid 0 (15 * (length ns / 3) - 0) w₁ ys) × (length (put_mid 0 (15 * (length ns / 3) - 0) w₁ ys) ≡ length w)
lent_back ns f slots few {w₁} z ys e =
    let room = f.room in
    let size = z.size in
    (rest_trans z.rest (lent_rest (15 * (length ns / 3)) w₁ (omega arith) ys e) (omega arith), same_len_mid 0 (15 * (length ns / 3) - 0) w₁ ys e ∙ z.size)

module _ (ns : List ℕ) {k count : ℕ} {w : List ℕ} (f : Fits k count (length ns) (length w)) (slots : ℕ) (few : slots ≤ 2 * (length ns / 3))
    {w₁ : List ℕ} (z : Zeroed (4 * (length ns / 3)) (5 * (length ns / 3) + 4 * slots) w w₁) (ys : List ℕ) where
  -- the same slice, zeroed at the end of a refused step
  pub lent_cleared : {zs : List ℕ} → zs ≡ replicate (length (take (16 * (length ns / 3) + 1024 - 0) (drop 0 (put_mid 0 (15 * (length ns / 3) - 0) w₁ ys)))) 0
      → length ys ≡ length (take (15 * (length ns / 3) - 0) (drop 0 w₁)) → put_mid 0 (16 * (length ns / 3) + 1024 - 0) (put_mid 0 (15 * (length ns / 3) - 0) w₁ ys) zs ≡ cleared (length ns / 3) w
  lent_cleared {zs} y e =
      let back = lent_back ns f slots few z ys e in
      cleared_is (length ns / 3) w f.room (rest_more back.0 (omega arith)) back.1 (filled 0 (16 * (length ns / 3) + 1024) _ zs (omega arith) (omega (arith, f.room, back.1)) y)

  -- and after the sweep, which changes less of it
  pub lent_swept : {m : ℕ} {u : List ℕ} → m ≤ 15 * (length ns / 3) → Rest m (put_mid 0 (15 * (length ns / 3) - 0) w₁ ys) u → length u ≡ length (put_mid 0 (15 * (length ns / 3) - 0) w₁ ys)
      → length ys ≡ length (take (15 * (length ns / 3) - 0) (drop 0 w₁)) → Rest (15 * (length ns / 3)) w u × (length u ≡ length w)
  lent_swept h r l e =
      let back = lent_back ns f slots few z ys e in
      (rest_two (15 * (length ns / 3)) back.0 r (omega arith) h, l ∙ back.1)

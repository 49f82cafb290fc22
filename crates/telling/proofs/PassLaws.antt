-- Each step of the pass keeps what marks and entries tell together. Assumes nothing.
use Prim.Native.Nat.{ℕ, suc, ◌+◌, ◌-◌, ◌≤◌, ◌<◌}
use mathlib.Core.Path.{◌≡◌, sym, ap, ◌∙◌}
use mathlib.Core.Bool.{true}
use mathlib.Core.List.{List}
use mathlib.Core.Logic.{◌≢◌, inl, inr, ⊎_elim}
use native.Mathlib.Decide.{ℕ_discrete}
use native.Mathlib.Omega.{arith}
use lib.ListN.{get_or, set, length-set}
use lib.Seq.{get_or-set_same, get_or-set_other}
use Rattle.trees.specs.Tree.{node}
use Rattle.trees.specs.Table.{at, trees_of}
use Rattle.trees.proofs.Tests.{and_true, and_true_l, and_true_r}
use Rattle.trees.proofs.TreeLaws.{node_fine, fine_node, fine_lower}
use Rattle.nodes.specs.Nodes.{Table, Splits}
use Rattle.nodes.proofs.ReadLaws.{read_below}
use Rattle.telling.specs.Follow.{untold}
use Rattle.telling.specs.Entries.{Ordered, here, low, high, Listed, Passed, skipped, opened, entered}
use Rattle.telling.proofs.EntriesLaws.{Awaits, Passing, untold_node, untold_enters, enters_itself, enters_side}

module _ (ns : List ℕ) (kept p base : ℕ) (work : List ℕ) (left from : ℕ) (t : Table ns kept) (v : Passing ns kept p base work left from) (some : 2 < left) where
  -- a reference that has no mark
  skip : get_or work (left - 1) 0 ≡ 0 → Passing ns kept p base work (left - 1) from
  skip none = record {
    ref = v.ref;
    room = v.room;
    down = omega (arith, v.down);
    up = v.up;
    few = v.few;
    marked = λ q h e. v.marked q (omega arith) e;
    inside = v.inside;
    passed = λ i h g. omega (arith, v.passed i h g);
    ordered = v.ordered;
    once = v.once;
    all = λ e x. ⊎_elim
        (λ y. inl y)
        (λ (y : Awaits ns kept base work left e). elim (ℕ_discrete y.mark (left - 1)) [
          | yes z ↦ absurd (y.marked (rw z none))
          | no z ↦ let f = y.before in inr (record { mark = y.mark; before = omega arith; marked = y.marked; enters = y.enters })
        ])
        (v.all e x);
    only = v.only;
    awaited = λ q e h g x. v.awaited q e (omega arith) g x;
    exact = λ k n m. (
      λ e. (λ q h g. ((v.exact k n m).0 e).0 q (omega arith) g, ((v.exact k n m).0 e).1),
      λ e. (v.exact k n m).1 (
        λ q h g. elim (ℕ_discrete q (left - 1)) [
          | yes s ↦ absurd (g (rw s none))
          | no s ↦ e.0 q (omega arith) g
        ],
        e.1,
      ),
    );
  }

  module _ (on : get_or work (left - 1) 0 ≢ 0) (l a b : ℕ) (s : Splits ns kept (left - 1) l a b) where
    -- the marked reference is a node in order
    fine : Ordered 0 (node l (at (trees_of ns kept) a) (at (trees_of ns kept) b))
    fine = rw s.is at (v.marked (left - 1) (omega arith) on)

    -- what its diagram tells
    told : (k n m : ℕ) → untold base k n m (at (trees_of ns kept) p) ≡ true → untold base k n m (node l (at (trees_of ns kept) a) (at (trees_of ns kept) b)) ≡ true
    told k n m e = rw s.is at (((v.exact k n m).0 e).0 (left - 1) (omega arith) on)

    -- an entry
    enters : base ≤ l → Passing ns kept p base (set work (from - 1) (left - 1)) (left - 1) (from - 1)
    enters le =
        let down = v.down in
        let up = v.up in
        let ref = v.ref in
        let room = v.room in
        record {
          ref = v.ref;
          room = rw (length-set work (from - 1) (left - 1)) v.room;
          down = omega arith;
          up = omega arith;
          few = omega arith;
          marked = λ q h e. v.marked q (omega arith) (λ z. e (under q h ∙ z));
          inside = λ i h g. elim (ℕ_discrete i (from - 1)) [
            | yes z ↦ rw (z, own) (omega arith)
            | no z ↦ rw (over i z) (v.inside i (omega arith) g)
          ];
          passed = λ i h g. elim (ℕ_discrete i (from - 1)) [
            | yes z ↦ rw (z, own) (omega arith)
            | no z ↦ rw (over i z) (let y = v.passed i (omega arith) g in omega arith)
          ];
          ordered = λ i h g. elim (ℕ_discrete i (from - 1)) [
            | yes z ↦ rw (z, own, s.is) order
            | no z ↦ rw (over i z) (v.ordered i (omega arith) g)
          ];
          once = λ i j h g f. elim (ℕ_discrete i (from - 1)) [
            | yes z ↦ rw (z, own, over j (omega arith)) (let y = v.passed j (omega arith) f in omega arith)
            | no z ↦ rw (over i z, over j (omega arith)) (v.once i j (omega arith) g f)
          ];
          all = λ e x. ⊎_elim
              (λ (y : Listed work from p e). let f = y.after in inl (record { place = y.place; after = omega arith; before = y.before; is = over y.place (omega arith) ∙ y.is }))
              (λ (y : Awaits ns kept base work left e). elim (ℕ_discrete y.mark (left - 1)) [
                | yes z ↦ inl (record { place = from - 1; after = omega arith; before = omega arith; is = own ∙ enters_itself ns kept base e (left - 1) l a b t s le (rw (← z) y.enters) })
                | no z ↦ let f = y.before in inr (record { mark = y.mark; before = omega arith; marked = λ u. y.marked (sym (under y.mark (omega arith)) ∙ u); enters = y.enters })
              ])
              (v.all e x);
          only = λ e x. elim (ℕ_discrete x.place (from - 1)) [
            | yes z ↦ v.awaited (left - 1) e (omega arith) on (here (left - 1) l a b (sym own ∙ moved z ∙ x.is) s le)
            | no z ↦ let f = x.after in v.only e (record { place = x.place; after = omega arith; before = x.before; is = sym (over x.place z) ∙ x.is })
          ];
          awaited = λ q e h g x. v.awaited q e (omega arith) (λ z. g (under q h ∙ z)) x;
          exact = λ k n m. (
            λ e. (
              λ q h g. ((v.exact k n m).0 e).0 q (omega arith) (λ z. g (under q h ∙ z)),
              λ i h g. elim (ℕ_discrete i (from - 1)) [
                | yes z ↦ rw (z, own, s.is) (sym (untold_enters base k n m l (at (trees_of ns kept) a) (at (trees_of ns kept) b) le) ∙ told k n m e)
                | no z ↦ rw (over i z) (((v.exact k n m).0 e).1 i (omega arith) g)
              ],
            ),
            λ e. (v.exact k n m).1 (
              λ q h g. elim (ℕ_discrete q (left - 1)) [
                | yes z ↦ rw (z, s.is) (untold_enters base k n m l (at (trees_of ns kept) a) (at (trees_of ns kept) b) le ∙ (rw (own, s.is) at (e.1 (from - 1) (omega arith) (omega arith))))
                | no z ↦ e.0 q (omega arith) (λ y. g (sym (under q (omega arith)) ∙ y))
              ],
              λ i h g. rw (over i (omega arith)) at (e.1 i (omega arith) g),
            ),
          );
        }
      where
        moved : {i : ℕ} → i ≡ from - 1 → get_or (set work (from - 1) (left - 1)) (from - 1) 0 ≡ get_or (set work (from - 1) (left - 1)) i 0
        moved z = ap (λ (x : ℕ). get_or (set work (from - 1) (left - 1)) x 0) (sym z)

        own : get_or (set work (from - 1) (left - 1)) (from - 1) 0 ≡ left - 1
        own = get_or-set_same work (from - 1) (left - 1) 0 (omega (arith, v.up, v.room, v.down))

        over : (i : ℕ) → i ≢ from - 1 → get_or (set work (from - 1) (left - 1)) i 0 ≡ get_or work i 0
        over i z = get_or-set_other work (from - 1) i (left - 1) 0 z

        under : (q : ℕ) → q < left - 1 → get_or (set work (from - 1) (left - 1)) q 0 ≡ get_or work q 0
        under q h = get_or-set_other work (from - 1) q (left - 1) 0 (omega (arith, v.down))

        order : Ordered base (node l (at (trees_of ns kept) a) (at (trees_of ns kept) b))
        order =
            let c = node_fine 0 fine.levels l _ _ fine.fine in
            record { levels = fine.levels; fine = fine_node base fine.levels l _ _ le c.1 c.2 c.3 c.4 }

    -- a node before the levels: its sides are marked
    opens : l < base → Passing ns kept p base (set (set work a 1) b 1) (left - 1) from
    opens lt =
        let down = v.down in
        let up = v.up in
        let ref = v.ref in
        let room = v.room in
        record {
          ref = v.ref;
          room = simp length-set v.room;
          down = omega arith;
          up = v.up;
          few = v.few;
          marked = λ q h e. elim (ℕ_discrete q a) [
            | yes z ↦ rw z sides.0
            | no z ↦ elim (ℕ_discrete q b) [
              | yes y ↦ rw y sides.1
              | no y ↦ v.marked q (omega arith) (λ x. e (other q z y ∙ x))
            ]
          ];
          inside = λ i h g. rw (over i h) (v.inside i h g);
          passed = λ i h g. rw (over i h) (let y = v.passed i h g in omega arith);
          ordered = λ i h g. rw (over i h) (v.ordered i h g);
          once = λ i j h g f. rw (over i h, over j (omega arith)) (v.once i j h g f);
          all = λ e x. ⊎_elim
              (λ (y : Listed work from p e). inl (record { place = y.place; after = y.after; before = y.before; is = over y.place y.after ∙ y.is }))
              (λ (y : Awaits ns kept base work left e). elim (ℕ_discrete y.mark (left - 1)) [
                | yes z ↦ ⊎_elim
                    (λ f. inr (record { mark = a; before = back.0; marked = low_on; enters = f }))
                    (λ f. inr (record { mark = b; before = back.1; marked = high_on; enters = f }))
                    (enters_side ns kept base e (left - 1) l a b t s lt (rw (← z) y.enters))
                | no z ↦ let f = y.before in inr (record { mark = y.mark; before = omega arith; marked = stays y.mark y.marked; enters = y.enters })
              ])
              (v.all e x);
          only = λ e x. v.only e (record { place = x.place; after = x.after; before = x.before; is = sym (over x.place x.after) ∙ x.is });
          awaited = λ q e h g x. elim (ℕ_discrete q a) [
            | yes z ↦ v.awaited (left - 1) e (omega arith) on (low (left - 1) l a b s lt (rw (← z) x))
            | no z ↦ elim (ℕ_discrete q b) [
              | yes y ↦ v.awaited (left - 1) e (omega arith) on (high (left - 1) l a b s lt (rw (← y) x))
              | no y ↦ v.awaited q e (omega arith) (λ f. g (other q z y ∙ f)) x
            ]
          ];
          exact = λ k n m. (
            λ e. (
              λ q h g. elim (ℕ_discrete q a) [
                | yes z ↦ rw z (both k n m (told k n m e)).0
                | no z ↦ elim (ℕ_discrete q b) [
                  | yes y ↦ rw y (both k n m (told k n m e)).1
                  | no y ↦ ((v.exact k n m).0 e).0 q (omega arith) (λ x. g (other q z y ∙ x))
                ]
              ],
              λ i h g. rw (over i h) (((v.exact k n m).0 e).1 i h g),
            ),
            λ e. (v.exact k n m).1 (
              λ q h g. elim (ℕ_discrete q (left - 1)) [
                | yes z ↦ rw (z, s.is) (untold_node base k n m l (at (trees_of ns kept) a) (at (trees_of ns kept) b) lt
                    ∙ and_true (untold base k n m (at (trees_of ns kept) a)) (untold base k n m (at (trees_of ns kept) b)) (e.0 a back.0 low_on) (e.0 b back.1 high_on))
                | no z ↦ e.0 q (omega arith) (stays q g)
              ],
              λ i h g. rw (over i h) at (e.1 i h g),
            ),
          );
        }
      where
        back : (a < left - 1) × (b < left - 1)
        back = read_below t s (omega arith) (omega (arith, v.down, v.up, v.ref))

        over : (i : ℕ) → from ≤ i → get_or (set (set work a 1) b 1) i 0 ≡ get_or work i 0
        over i h = get_or-set_other (set work a 1) b i 1 0 (omega (arith, back.1, v.down)) ∙ get_or-set_other work a i 1 0 (omega (arith, back.0, v.down))

        other : (q : ℕ) → q ≢ a → q ≢ b → get_or (set (set work a 1) b 1) q 0 ≡ get_or work q 0
        other q z y = get_or-set_other (set work a 1) b q 1 0 y ∙ get_or-set_other work a q 1 0 z

        at_high : get_or (set (set work a 1) b 1) b 0 ≡ 1
        at_high = get_or-set_same (set work a 1) b 1 0 (simp length-set (omega (arith, back.1, v.down, v.up, v.room)))

        moved : (x y : ℕ) → x ≡ y → get_or (set (set work a 1) b 1) y 0 ≡ get_or (set (set work a 1) b 1) x 0
        moved x y z = ap (λ (i : ℕ). get_or (set (set work a 1) b 1) i 0) (sym z)

        high_on : get_or (set (set work a 1) b 1) b 0 ≢ 0
        high_on e = omega (arith, at_high, e)

        low_on : get_or (set (set work a 1) b 1) a 0 ≢ 0
        low_on e = elim (ℕ_discrete a b) [
          | yes z ↦ high_on (moved a b z ∙ e)
          | no z ↦
              let y = get_or-set_other (set work a 1) b a 1 0 z in
              let x = get_or-set_same work a 1 0 (omega (arith, back.0, v.down, v.up, v.room)) in
              omega arith
        ]

        stays : (q : ℕ) → get_or work q 0 ≢ 0 → get_or (set (set work a 1) b 1) q 0 ≢ 0
        stays q g e = elim (ℕ_discrete q b) [
          | yes y ↦ high_on (moved q b y ∙ e)
          | no y ↦ elim (ℕ_discrete q a) [
            | yes z ↦ low_on (moved q a z ∙ e)
            | no z ↦ g (sym (other q z y) ∙ e)
          ]
        ]

        sides : Ordered 0 (at (trees_of ns kept) a) × Ordered 0 (at (trees_of ns kept) b)
        sides =
            let c = node_fine 0 fine.levels l _ _ fine.fine in (
              record { levels = fine.levels; fine = fine_lower (suc l) fine.levels 0 _ (omega arith) c.2 },
              record { levels = fine.levels; fine = fine_lower (suc l) fine.levels 0 _ (omega arith) c.3 },
            )

        both : (k n m : ℕ) → untold base k n m (node l (at (trees_of ns kept) a) (at (trees_of ns kept) b)) ≡ true
            → (untold base k n m (at (trees_of ns kept) a) ≡ true) × (untold base k n m (at (trees_of ns kept) b) ≡ true)
        both k n m e =
            let x = sym (untold_node base k n m l (at (trees_of ns kept) a) (at (trees_of ns kept) b) lt) ∙ e in
            (and_true_l (untold base k n m (at (trees_of ns kept) a)) (untold base k n m (at (trees_of ns kept) b)) x, and_true_r (untold base k n m (at (trees_of ns kept) a)) (untold base k n m (at (trees_of ns kept) b)) x)

-- the pass at the reference before `left`
pub passing_next : (ns : List ℕ) (kept p base : ℕ) (work : List ℕ) (left from : ℕ) (work' : List ℕ) (to : ℕ) → Table ns kept → Passing ns kept p base work left from → 2 < left
    → Passed ns kept base (left - 1) work from work' to → Passing ns kept p base work' (left - 1) to
passing_next ns kept p base work left from work' to t v h (skipped none e f) = rw (e, f) (skip ns kept p base work left from t v h none)
passing_next ns kept p base work left from work' to t v h (opened on l a b s lt e f) = rw (e, f) (opens ns kept p base work left from t v h on l a b s lt)
passing_next ns kept p base work left from work' to t v h (entered on l a b s le e f) = rw (e, f) (enters ns kept p base work left from t v h on l a b s le)

-- it changes nothing from place p + 1 on
pub passing_rest : (ns : List ℕ) (kept p base : ℕ) (work : List ℕ) (left from : ℕ) (work' : List ℕ) (to : ℕ) → Table ns kept → Passing ns kept p base work left from → 2 < left
    → Passed ns kept base (left - 1) work from work' to → (i : ℕ) → p + 1 ≤ i → get_or work' i 0 ≡ get_or work i 0
passing_rest ns kept p base work left from work' to t v h (skipped none e f) i g = rw e
passing_rest ns kept p base work left from work' to t v h (opened on l a b s lt e f) i g =
    let back = read_below t s (omega arith) (omega (arith, v.down, v.up, v.ref)) in
    rw e (get_or-set_other (set work a 1) b i 1 0 (omega (arith, back.1, v.down, v.up)) ∙ get_or-set_other work a i 1 0 (omega (arith, back.0, v.down, v.up)))
passing_rest ns kept p base work left from work' to t v h (entered on l a b s le e f) i g = rw e (get_or-set_other work (from - 1) i (left - 1) 0 (omega (arith, v.down, v.up)))

-- Two outcomes that keep the promise of a function of crates/nodes, making, walks or diagram are the same: what it answers, and what it
-- leaves in the node slice. What it leaves in the work slice is not promised. Assumes nothing.
use Prim.Native.Nat.{ℕ, ◌+◌, ◌*◌, ◌/◌, ◌≤◌, ◌<◌}
use mathlib.Core.Path.{◌≡◌, refl, ap, ap₂, sym, ◌∙◌}
use mathlib.Core.Bool.{Bool, true, false}
use mathlib.Core.List.{List}
use mathlib.Core.Logic.{⊎_elim}
use native.Mathlib.Omega.{arith}
use lib.ListN.{length, get_or, take}
use lib.Seq.{ext_get_or, get_or-take}
use Rattle.trees.specs.Bits.{Function}
use Rattle.trees.specs.Tree.{Tree}
use Rattle.trees.specs.Table.{add_tree, at, trees_of, show}
use Rattle.trees.proofs.Tests.{lt_or_ge}
use Rattle.trees.proofs.ReadLaws.{length_trees, numbers_show}
use Rattle.nodes.specs.Nodes.{Rest, Table, Sides, Holds, Grown, Stuck}
use Rattle.making.specs.declared.Made.{Made}
use Rattle.std.specs.Prelude.{Option, Some, None}
use Rattle.making.specs.Tables.{Added}
use Rattle.walks.specs.Complements.{Counted, Complemented}
use Rattle.diagram.specs.declared.Instruction.TheVariants as instruction
use Rattle.diagram.specs.Steps.{Task, facts, does}
use Rattle.diagram.specs.Works.{Reached, Short, TolledBy, RowDone}

-- `nodes::chain::holds`
pub one_held : (ns : List ℕ) (j l a b : ℕ) (x y : Bool) → Holds ns j l a b x → Holds ns j l a b y → x ≡ y
one_held ns j l a b true true p q = refl
one_held ns j l a b true false p q = absurd (q p)
one_held ns j l a b false true p q = absurd (p q)
one_held ns j l a b false false p q = refl

-- `making::table::sides`: the references of both sides
pub one_sides : (ns : List ℕ) (n r v a b c d : ℕ) → Table ns n → Sides ns n r v a b → Sides ns n r v c d → (a ≡ c) × (b ≡ d)
one_sides ns n r v a b c d t p q =
    (t.one a c p.low.below q.low.below (p.low.is ∙ sym q.low.is), t.one b d p.high.below q.high.below (p.high.is ∙ sym q.high.is))

-- two slices that hold the same trees, and are the same behind them
same_slice : (ns xs ys : List ℕ) (a b : ℕ) → Table xs a → Table ys b → trees_of xs a ≡ trees_of ys b → length xs ≡ length ns → length ys ≡ length ns → Rest (3 * a) ns xs → Rest (3 * b) ns ys
    → (a ≡ b) × (xs ≡ ys)
same_slice ns xs ys a b t u e p q v w = (count, ext_get_or 0 xs ys (p ∙ sym q) (λ i h. ⊎_elim (front i) (behind i) (lt_or_ge i (3 * a))))
  where
    count : a ≡ b
    count = sym (length_trees xs a) ∙ ap length e ∙ length_trees ys b

    numbers : take (3 * a) xs ≡ take (3 * b) ys
    numbers = numbers_show xs a t.fits t.back t.one ∙ ap (λ (ts : List Tree). show ts ts) e ∙ sym (numbers_show ys b u.fits u.back u.one)

    front : (i : ℕ) → i < 3 * a → get_or xs i 0 ≡ get_or ys i 0
    front i h = sym (get_or-take (3 * a) xs i 0 h) ∙ ap (λ (l : List ℕ). get_or l i 0) numbers ∙ get_or-take (3 * b) ys i 0 (omega (arith, count))

    behind : (i : ℕ) → 3 * a ≤ i → get_or xs i 0 ≡ get_or ys i 0
    behind i h = v.eq i h ∙ sym (w.eq i (omega (arith, count)))

-- a diagram that was added: the count, the reference and the node slice
pub one_grown : {ns xs ys : List ℕ} {n a b r s : ℕ} {d : Tree} → Grown ns xs n a r d → Grown ns ys n b s d → (a ≡ b) × (r ≡ s) × (xs ≡ ys)
one_grown {ns} {xs} {ys} {n} {a} {b} {r} {s} {d} g h =
    let e : trees_of xs a ≡ trees_of ys b = g.trees ∙ sym h.trees in
    let z = same_slice ns xs ys a b g.table h.table e g.size h.size g.rest h.rest in
    let la = length_trees xs a in
    let lb = length_trees ys b in
    let p : r < a + 2 = let q = g.ref.below in omega arith in
    let q : s < a + 2 = let q = h.ref.below in omega (arith, z.0) in
    (z.0, g.table.one r s p q (g.ref.is ∙ sym (ap (λ (ts : List Tree). at ts s) e ∙ h.ref.is)), z.1)

-- one for which there was no room: the node slice
pub one_stuck : {ns xs ys : List ℕ} {n : ℕ} {d : Tree} → Stuck ns xs n d → Stuck ns ys n d → xs ≡ ys
one_stuck {ns} {xs} {ys} g h = (same_slice ns xs ys (length ns / 3) (length ns / 3) g.table h.table (g.trees ∙ sym h.trees) g.size h.size g.rest h.rest).1

-- there was room or there was none
never_both : {ns xs ys : List ℕ} {n b s : ℕ} {d : Tree} → Stuck ns xs n d → Grown ns ys n b s d → ⊥
never_both {ns} {xs} {ys} {n} {b} {s} {d} g h =
    let o = g.over in
    let l : length (add_tree (trees_of ns n) d) ≡ b = sym (ap length h.trees) ∙ length_trees ys b in
    let f = h.table.fits in
    let z = h.size in
    omega arith

-- two answers with the same numbers
abbrev made : ℕ → ℕ → Made
made count reference = record { count = count; reference = reference }

abbrev counted : ℕ → ℕ → ℕ → Counted
counted count reference visits = record { count = count; reference = reference; visits = visits }

same_made : (l m : Made) → l.count ≡ m.count → l.reference ≡ m.reference → Some l ≡ Some m
same_made l m e f = ap Some (ap₂ made e f)

same_counted : (l m : Counted) → l.count ≡ m.count → l.reference ≡ m.reference → l.visits ≡ m.visits → Some l ≡ Some m
same_counted l m e f g = ap Some (ap₂ (λ (c r : ℕ). counted c r l.visits) e f ∙ ap (counted m.count m.reference) g)

-- `make`, `into`, `since_walk` and `drop_walk`: the answer and the node slice
pub one_added : (I J : List ℕ → ℕ → Type 0) (ns xs ys : List ℕ) (n : ℕ) (d : Tree) (x y : Option Made) → Added I ns xs n d x → Added J ns ys n d y → (x ≡ y) × (xs ≡ ys)
one_added I J ns xs ys n d None None p q = (refl, one_stuck p q)
one_added I J ns xs ys n d None (Some m) p q = absurd (never_both p q.0)
one_added I J ns xs ys n d (Some l) None p q = absurd (never_both q p.0)
one_added I J ns xs ys n d (Some l) (Some m) p q =
    let z = one_grown p.0 q.0 in (same_made l m z.0 z.1, z.2)

-- `not_walk`: the same, and the visits
pub one_complemented : (ns xs ys : List ℕ) (n levels left p : ℕ) (w v u : List ℕ) (c slots : ℕ) (x y : Option Counted)
    → Complemented ns xs n levels left p w v c slots x → Complemented ns ys n levels left p w u c slots y → (x ≡ y) × (xs ≡ ys)
one_complemented ns xs ys n levels left p w v u c slots None None f g = (refl, one_stuck f g)
one_complemented ns xs ys n levels left p w v u c slots None (Some m) f g = absurd (never_both f g.0)
one_complemented ns xs ys n levels left p w v u c slots (Some l) None f g = absurd (never_both g f.0)
one_complemented ns xs ys n levels left p w v u c slots (Some l) (Some m) f g =
    let z = one_grown f.0 g.0 in (same_counted l m z.0 z.1 (sym f.2.visits ∙ g.2.visits), z.2)

-- `row`: a diagram that was reached
one_reached : {levels : ℕ} {ns xs ys : List ℕ} {n a b r s : ℕ} {gs : List Function} {f : Function} → Table xs a → Table ys b → Reached levels ns xs n a r gs f → Reached levels ns ys n b s gs f
    → (a ≡ b) × (r ≡ s) × (xs ≡ ys)
one_reached {ns = ns} {xs = xs} {ys = ys} {a = a} {b = b} {r = r} {s = s} t u g h =
    let e : trees_of xs a ≡ trees_of ys b = g.trees ∙ sym h.trees in
    let z = same_slice ns xs ys a b t u e g.size h.size g.rest h.rest in
    let q : s < a + 2 = let q = h.ref.below in omega (arith, z.0) in
    (z.0, t.one r s g.ref.below q (g.ref.is ∙ sym (ap (λ (ts : List Tree). at ts s) e ∙ h.ref.is)), z.1)

-- there was room for what the row meets, or there was none
never_reached : {levels : ℕ} {ns xs ys : List ℕ} {n b s : ℕ} {gs : List Function} {f : Function} → Table ys b → Short levels ns xs n gs → Reached levels ns ys n b s gs f → ⊥
never_reached {ys = ys} {b = b} u g h =
    let o = g.over in
    let l = sym (ap length h.trees) ∙ length_trees ys b in
    let f = u.fits in
    let z = h.size in
    omega arith

-- and its visits
one_toll : (levels : ℕ) (ns xs ys : List ℕ) (n a b r s : ℕ) (news w v u : List ℕ) (c i j : ℕ) (x : Task)
    → TolledBy levels ns xs n a r news w v c i x → TolledBy levels ns ys n b s news w u c j x → i ≡ j
one_toll levels ns xs ys n a b r s news w v u c i j (does instruction.Yes) p q = p.none ∙ sym q.none
one_toll levels ns xs ys n a b r s news w v u c i j (facts _) p q = p.none ∙ sym q.none
one_toll levels ns xs ys n a b r s news w v u c i j (does (instruction.And _ _)) p q = p.none ∙ sym q.none
one_toll levels ns xs ys n a b r s news w v u c i j (does (instruction.Not _)) p q = sym p.refines.visits ∙ q.refines.visits
one_toll levels ns xs ys n a b r s news w v u c i j (does (instruction.Since _ _)) p q = p.none ∙ sym q.none
one_toll levels ns xs ys n a b r s news w v u c i j (does (instruction.Old _)) p q = p.none ∙ sym q.none
one_toll levels ns xs ys n a b r s news w v u c i j (does (instruction.Drop _ _)) p q = p.none ∙ sym q.none

-- the nodes are one where there was room
abbrev pub SameNodes : Option Counted → List ℕ → List ℕ → Type 0
SameNodes None xs ys = Unit {0}
SameNodes (Some m) xs ys = xs ≡ ys

-- `row`, and an atom's turns: the answer with its visits, and the node slice where there was room
pub one_row : (k : ℕ) (ns xs ys : List ℕ) (n : ℕ) (olds news : List ℕ) (i : ℕ) (x : Task) (w v u : List ℕ) (c slots : ℕ) (p q : Option Counted)
    → RowDone k ns xs n olds news i x w v c slots p → RowDone k ns ys n olds news i x w u c slots q → (p ≡ q) × SameNodes p xs ys
one_row k ns xs ys n olds news i x w v u c slots None None f g = (refl, tt)
one_row k ns xs ys n olds news i x w v u c slots None (Some m) f g = absurd (never_reached g.1.shelf.table f g.0)
one_row k ns xs ys n olds news i x w v u c slots (Some l) None f g = absurd (never_reached f.1.shelf.table g f.0)
one_row k ns xs ys n olds news i x w v u c slots (Some l) (Some m) f g =
    let z = one_reached f.1.shelf.table g.1.shelf.table f.0 g.0 in
    (same_counted l m z.0 z.1 (one_toll (4 * k) ns xs ys n l.count m.count l.reference m.reference news w v u c l.visits m.visits x f.2 g.2), z.2)

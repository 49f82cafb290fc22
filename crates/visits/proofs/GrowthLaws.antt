-- Laws of tables that grow by a diagram: which trees they hold, and by how much they grow. Assumes nothing.
use Prim.Native.Nat.{◌+◌, ◌≤◌}
use mathlib.Core.Path.{◌≡◌, refl, sym, ◌∙◌}
use mathlib.Core.Bool.{Bool, true, false, ◌||◌}
use mathlib.Core.List.{List, [], ◌∷◌, ◌++◌}
use mathlib.Core.Logic.{⊎_elim}
use native.Mathlib.Omega.{arith}
use lib.ListN.{length, length-append}
use Rattle.trees.specs.Tree.{Tree, off, on, node, same}
use Rattle.trees.specs.Table.{mem, push, add_tree}
use Rattle.trees.proofs.Tests.{bool, false_true, not_true, or_cases, or_l, or_r}
use Rattle.trees.proofs.TreeLaws.{same_true, same_eq}
use Rattle.trees.proofs.TableLaws.{push_in, push_out}
use Rattle.trees.specs.Sizes.{node_count}

or_false : (b : Bool) → (b || false) ≡ b
or_false true = refl
or_false false = refl

or_assoc : (a b c : Bool) → (a || (b || c)) ≡ ((a || b) || c)
or_assoc true b c = refl
or_assoc false b c = refl

-- one tree more
pub mem_snoc : (e : Tree) (ts : List Tree) (d : Tree) → mem e (ts ++ d ∷ []) ≡ (mem e ts || same e d)
unfolding mem
mem_snoc e [] d = or_false (same e d)
mem_snoc e (t ∷ ts) d = rw (mem_snoc e ts d) (or_assoc (same e t) (mem e ts) (same e d))

-- what was there is there, and so is what was added
pub mem_old : (e : Tree) (ts : List Tree) (d : Tree) → mem e ts ≡ true → mem e (push ts d) ≡ true
mem_old e ts d h = ⊎_elim (λ k. rw (push_in ts d k) h) (λ k. rw (push_out ts d k, mem_snoc e ts d) (or_l (mem e ts) (same e d) h)) (bool (mem d ts))

pub mem_new : (ts : List Tree) (d : Tree) → mem d (push ts d) ≡ true
mem_new ts d = ⊎_elim (λ k. rw (push_in ts d k) k) (λ k. rw (push_out ts d k, mem_snoc d ts d) (or_r (mem d ts) (same d d) (same_eq d d refl))) (bool (mem d ts))

pub mem_add : (e : Tree) (ts : List Tree) (d : Tree) → mem e ts ≡ true → mem e (add_tree ts d) ≡ true
unfolding add_tree
mem_add e ts off h = h
mem_add e ts on h = h
mem_add e ts (node l a b) h = mem_old e _ _ (mem_add e (add_tree ts a) b (mem_add e ts a h))

-- every tree of the first table is in the second
record Within (ts us : List Tree) : Type 0 where
  each : (e : Tree) → mem e ts ≡ true → mem e us ≡ true

-- a table that holds more grows by no more
record Less (ts us ts' us' : List Tree) : Type 0 where
  within : Within ts' us'
  less : length us' + length ts ≤ length us + length ts'

push_less : (ts us : List Tree) (d : Tree) → Within ts us → Less ts us (push ts d) (push us d)
push_less ts us d w = ⊎_elim
    (λ e. ⊎_elim
    (λ g. rw (push_in us d e, push_in ts d g) (record { within = w; less = omega arith }))
    (λ g. rw (push_in us d e, push_out ts d g) (record {
      within = record { each = λ x h. ⊎_elim (λ k. w.each x k) (λ k. rw (same_true x d k) e) (or_cases (mem x ts) (same x d) (sym (mem_snoc x ts d) ∙ h)) };
      less = rw length-append (omega arith);
    }))
    (bool (mem d ts)))
    (λ e.
    let g = not_true (mem d ts) (λ k. false_true e (w.each d k)) in
    rw (push_out us d e, push_out ts d g) (record {
      within = record { each = λ x h. mem_snoc x us d ∙ ⊎_elim (λ k. or_l (mem x us) (same x d) (w.each x k)) (λ k. or_r (mem x us) (same x d) k) (or_cases (mem x ts) (same x d) (sym (mem_snoc x ts d) ∙ h)) };
      less = rw (length-append, length-append) (omega arith);
    }))
    (bool (mem d us))

add_less : (ts us : List Tree) (d : Tree) → Within ts us → Less ts us (add_tree ts d) (add_tree us d)
unfolding add_tree
add_less ts us off w = record { within = w; less = omega arith }
add_less ts us on w = record { within = w; less = omega arith }
add_less ts us (node l a b) w =
    let x = add_less ts us a w in
    let y = add_less (add_tree ts a) (add_tree us a) b x.within in
    let z = push_less (add_tree (add_tree ts a) b) (add_tree (add_tree us a) b) (node l a b) y.within in
    record { within = z.within; less = omega (arith, x.less, y.less, z.less) }

none : (e : Tree) → mem e [] ≡ true → ⊥
unfolding mem
none e h = false_true refl h

-- a table grows by at most as many nodes as the diagram has
pub add_most : (us : List Tree) (d : Tree) → length (add_tree us d) ≤ length us + node_count d
add_most us d = let x = add_less [] us d (record { each = λ e h. absurd (none e h) }) in omega (arith, x.less)

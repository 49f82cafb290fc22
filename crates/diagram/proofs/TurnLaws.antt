-- An atom's diagram, one turn after the other. Assumes nothing.
use Prim.Native.Nat.{ℕ, suc, ◌+◌, ◌*◌, ◌≤◌, ◌<◌}
use mathlib.Core.Path.{◌≡◌, refl, sym, ap, ◌∙◌, fun_ext}
use mathlib.Core.Bool.{Bool, true, false, ◌||◌}
use mathlib.Core.List.{List, [], ◌∷◌, ◌++◌, map}
use native.Mathlib.Omega.{arith}
use lib.ListN.{length, get_or, take, drop}
use lib.Seq.{take-suc, drop-cons, take-length, drop-length}
use Rattle.trees.specs.Bits.{Bits, Function, Same}
use Rattle.trees.specs.Tree.{Tree, off, eval, Fine, tree_of}
use Rattle.trees.specs.Table.{add_tree, add_trees, at, trees_of}
use Rattle.trees.proofs.TreeLaws.{fine_off}
use Rattle.trees.proofs.FunctionLaws.{tree_one, tree_same}
use Rattle.trees.proofs.TableLaws.{adds_goes, goes_length}
use Rattle.nodes.specs.Nodes.{Grown, Stuck, Front, Rest}
use Rattle.nodes.proofs.ReadLaws.{grown_ref, grown_count}
use Rattle.std.specs.Prelude.{Option, Some, None}
use Rattle.making.specs.declared.Number.{Number}
use Rattle.making.specs.Cubes.{Over, SameShape}
use Rattle.making.proofs.CubeLaws.{into_says, over_into, over_off, over_shape}
use Rattle.making.proofs.WalkLaws.{front_trans, rest_trans}
use Rattle.walks.specs.Desks.{Desk, Remembered}
use Rattle.walks.proofs.DeskLaws.{desk_stays}
use Rattle.diagram.specs.Steps.{Turn, turn_says, turns_say, turn_stages}
use Rattle.diagram.specs.Works.{TurnOver, Shaped, Reached, Short}
use Rattle.diagram.proofs.RemovalLaws.{tree_eval}

or_no : (b : Bool) → (b || false) ≡ b
or_no true = refl
or_no false = refl

or_assoc : (a b c : Bool) → (a || (b || c)) ≡ ((a || b) || c)
or_assoc true b c = refl
or_assoc false b c = refl

-- one turn more
turns_snoc : (k : ℕ) (ts : List Turn) (t : Turn) (s : Bits) → turns_say k (ts ++ t ∷ []) s ≡ (turns_say k ts s || turn_says k t s)
unfolding turns_say
turns_snoc k [] t s = or_no (turn_says k t s)
turns_snoc k (u ∷ ts) t s = ap (λ (b : Bool). turn_says k u s || b) (turns_snoc k ts t s) ∙ or_assoc (turn_says k u s) (turns_say k ts s) (turn_says k t s)

-- the same of places that are turned round
shape_sym : {ps qs : List (Option Number)} → SameShape ps qs → SameShape qs ps
shape_sym e = record { each = λ v h. sym (e.each v h) }

module _ {k : ℕ} {ps : List (Option Number)} {d : Tree} (o : Over k ps d) where
  -- a diagram over these variables can take a turn that gives numbers to them
  pub takes : (t : Turn) → Shaped ps t → TurnOver k t d
  takes None s = o.fine
  takes (Some places) s = over_shape s o

  -- what is said after it
  after_says : (t : Turn) → Shaped ps t → Same (eval (tree_of (4 * k) (λ s. eval d s || turn_says k t s))) (λ s. eval d s || turn_says k t s)
  after_says None h s =
      ap (λ (t : Tree). eval t s) (tree_same (4 * k) _ (eval d) (λ x. or_no (eval d x)) ∙ tree_eval (4 * k) d o.fine) ∙ sym (or_no (eval d s))
  after_says (Some places) h s = into_says k places (over_shape h o) s

  -- and it is over these variables again
  after_over : (t : Turn) → Shaped ps t → Over k ps (tree_of (4 * k) (λ s. eval d s || turn_says k t s))
  after_over None h = rw (tree_same (4 * k) (λ s. eval d s || false) (eval d) (λ x. or_no (eval d x)), tree_eval (4 * k) d o.fine) o
  after_over (Some places) h = over_shape (shape_sym h) (over_into k places (over_shape h o))

-- a turn that misses adds nothing
pub miss_tree : (k : ℕ) {d : Tree} → Fine 0 (4 * k) d → tree_of (4 * k) (λ s. eval d s || turn_says k None s) ≡ d
miss_tree k {d} f = tree_same (4 * k) (λ s. eval d s || false) (eval d) (λ x. or_no (eval d x)) ∙ tree_eval (4 * k) d f

-- The first n nodes of ns₀ are where an atom of these turns starts, which all give numbers to the variables of ps: after f turns r leads to its diagram.
pub record Turning (k : ℕ) (all : List Turn) (ps : List (Option Number)) (ns₀ : List ℕ) (n : ℕ) (ns : List ℕ) (m r f : ℕ) (w₀ w : List ℕ) (c slots : ℕ) : Type 0 where
  pub kept : Remembered w₀ ns m (4 * k) w c slots
  pub size : length ns ≡ length ns₀
  pub same : Front (3 * n) ns₀ ns
  pub rest : Rest (3 * m) ns₀ ns
  pub more : n ≤ m
  pub below : r < m + 2
  pub is : at (trees_of ns m) r ≡ tree_of (4 * k) (turns_say k (take f all))
  pub says : Same (eval (at (trees_of ns m) r)) (turns_say k (take f all))
  pub over : Over k ps (at (trees_of ns m) r)
  pub adds : add_trees (trees_of ns m) (map (tree_of (4 * k)) (turn_stages k (take f all) (drop f all))) ≡ add_trees (trees_of ns₀ n) (map (tree_of (4 * k)) (turn_stages k [] all))

-- no turn is taken yet
pub turning_none : {k : ℕ} {ns : List ℕ} {n : ℕ} {w : List ℕ} {c slots : ℕ} (all : List Turn) (ps : List (Option Number)) → Desk ns n (4 * k) w c slots
    → Turning k all ps ns n ns n 0 0 w w c slots
unfolding turns_say at eval
turning_none {k} {ns} {n} all ps d = record {
  kept = desk_stays d;
  size = refl;
  same = record { eq = λ i l. refl };
  rest = record { eq = λ i l. refl };
  more = omega arith;
  below = omega arith;
  is = sym (tree_one (4 * k) (λ s. false) (record { only = λ s t h. refl }) off (fine_off 0 (4 * k)) (λ s. refl));
  says = λ s. refl;
  over = over_off k ps;
  adds = refl;
}

module _ {k : ℕ} {all : List Turn} {ps : List (Option Number)} {ns₀ : List ℕ} {n : ℕ} {ns : List ℕ} {m r f : ℕ} {w₀ w : List ℕ} {c slots : ℕ} (v : Turning k all ps ns₀ n ns m r f w₀ w c slots)
    (inside : f < length all) where
  -- the turn, and the atom's function after it
  abbrev here : Turn
  here = get_or all f None

  abbrev next : Function
  next s = eval (at (trees_of ns m) r) s || turn_says k here s

  next_says : turns_say k (take (suc f) all) ≡ next
  next_says = fun_ext (λ s. rw (take-suc all f None inside) (turns_snoc k (take f all) here s ∙ ap (λ (b : Bool). b || turn_says k here s) (sym (v.says s))))

  -- its stages are those that are left
  left : add_trees (add_tree (trees_of ns m) (tree_of (4 * k) next)) (map (tree_of (4 * k)) (turn_stages k (take (suc f) all) (drop (suc f) all)))
      ≡ add_trees (trees_of ns₀ n) (map (tree_of (4 * k)) (turn_stages k [] all))
  unfolding turn_stages add_trees
  left =
      let e : turn_stages k (take f all) (drop f all) ≡ turns_say k (take (suc f) all) ∷ turn_stages k (take (suc f) all) (drop (suc f) all) = rw (drop-cons all f None inside, take-suc all f None inside) in
      ap (λ (g : Function). add_trees (add_tree (trees_of ns m) (tree_of (4 * k) g)) (map (tree_of (4 * k)) (turn_stages k (take (suc f) all) (drop (suc f) all)))) (sym next_says)
      ∙ ap (λ (gs : List Function). add_trees (trees_of ns m) (map (tree_of (4 * k)) gs)) (sym e) ∙ v.adds

  -- one turn more is taken
  pub turning_more : Shaped ps here → {ns' : List ℕ} {m' r' : ℕ} {w' : List ℕ} → Grown ns ns' m m' r' (tree_of (4 * k) next) → Remembered w ns' m' (4 * k) w' c slots
      → Turning k all ps ns₀ n ns' m' r' (suc f) w₀ w' c slots
  turning_more h {ns'} {m'} {r'} g d =
      let more = v.more in
      let count = grown_count g in
      record {
        kept = record { desk = d.desk; same = front_trans v.kept.same d.same (omega arith) };
        size = g.size ∙ v.size;
        same = front_trans v.same g.same (omega arith);
        rest = rest_trans v.rest g.rest (omega arith);
        more = omega arith;
        below = grown_ref g;
        is = g.ref.is ∙ ap (tree_of (4 * k)) (sym next_says);
        says = λ s. ap (λ (t : Tree). eval t s) g.ref.is ∙ after_says v.over here h s ∙ ap (λ (p : Function). p s) (sym next_says);
        over = rw g.ref.is (after_over v.over here h);
        adds = rw g.trees left;
      }

  -- there is no room for the next diagram
  pub turning_short : {ns' : List ℕ} → Stuck ns ns' m (tree_of (4 * k) next) → Short (4 * k) ns₀ ns' n (turn_stages k [] all)
  turning_short {ns'} s =
      let more = v.more in
      let far = goes_length (adds_goes (map (tree_of (4 * k)) (turn_stages k (take (suc f) all) (drop (suc f) all))) (add_tree (trees_of ns m) (tree_of (4 * k) next))) in
      record {
        over = rw (← left) (omega (arith, s.over, v.size));
        size = s.size ∙ v.size;
        same = front_trans v.same s.same (omega arith);
      }

-- all turns are taken
pub turning_all : {k : ℕ} {all : List Turn} {ps : List (Option Number)} {ns₀ : List ℕ} {n : ℕ} {ns : List ℕ} {m r f : ℕ} {w₀ w : List ℕ} {c slots : ℕ} → f ≡ length all
    → Turning k all ps ns₀ n ns m r f w₀ w c slots → Reached (4 * k) ns₀ ns n m r (turn_stages k [] all) (turns_say k all)
unfolding turn_stages add_trees
turning_all {k} {all} {ns = ns} {m = m} {f = f} e v = record {
  size = v.size;
  trees = ap (λ (us : List Turn). add_trees (trees_of ns m) (map (tree_of (4 * k)) (turn_stages k (take f all) us))) (sym (ap (λ (x : ℕ). drop x all) e ∙ drop-length all)) ∙ v.adds;
  ref = record { below = v.below; is = v.is ∙ ap (λ (ts : List Turn). tree_of (4 * k) (turns_say k ts)) (ap (λ (x : ℕ). take x all) e ∙ take-length all) };
  same = v.same;
  rest = v.rest;
}

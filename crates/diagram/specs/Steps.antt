-- One event's work on the diagrams, for every input whatsoever: what a plan makes of the rows, the room that it needs, and
-- what is told and left in each slice. Assumes nothing: these are definitions.
use Rattle.std.specs.Prelude.{ℕ, zero, suc, ◌+◌, ◌*◌, ◌-◌, ◌/◌, ◌≡◌, Bool, true, false, not, ◌&&◌, ◌||◌, Option, Some, None, Result, Ok, Err, List, [], ◌∷◌, ◌++◌, map, eqb, leb, length, get_or, replicate, drop as from}
use Rattle.trees.specs.Bits.{Function, drop, drops}
use Rattle.trees.specs.Tree.{Tree, off, eval, tree_of}
use Rattle.trees.specs.Table.{add_trees, ref_of, show, trees_of}
use Rattle.trees.specs.Kept.{diagrams, well_kept}
use Rattle.trees.specs.Sizes.{sizes_of, sizes_right}
use Rattle.diagram.specs.declared.Instruction.{Instruction}
use Rattle.diagram.specs.declared.Instruction.TheVariants.{Yes, And, Not, Since, Old, Drop}
use Rattle.diagram.specs.declared.Done.{Done}
use Rattle.diagram.specs.declared.Refused.{Refused}
use Rattle.diagram.specs.declared.Refused.TheVariants.{Unfit, Bad, Full}
use Rattle.diagram.specs.declared.Unformed.{Unformed}
use Rattle.diagram.specs.declared.Unformed.TheVariants as unformed
use Rattle.making.specs.declared.Number.{Number}
use Rattle.making.specs.Cubes.{cube_says}
use Rattle.keeping.specs.Checks.{free_by}

-- the function of row a of some diagrams: no where there is no row a
unfoldable pub says : List Tree → ℕ → Function
says ts a = eval (get_or ts a off)

-- what one fact adds to an atom's diagram: nothing where it does not match, and else that the four variables show these numbers
abbrev pub Turn : Type 0
Turn = Option (List (Option Number))

-- what a step tells: the count of kept nodes and the room, or why it is refused
abbrev pub Told : Type 0
Told = Result Done Refused

-- what the check tells: nothing, or why it refuses
abbrev pub Formed : Type 0
Formed = Result (Unit {0}) Unformed

-- what a row asks: an atom has a turn for each fact, in order; any other row an instruction
pub data Task : Type 0 where
  facts : List Turn → Task
  does : Instruction → Task

-- the points of one turn, and of some: "An atom holds for a binding if some fact matches."
abbrev pub turn_says : ℕ → Turn → Function
turn_says k None s = false
turn_says k (Some places) s = cube_says k places s

unfoldable pub turns_say : ℕ → List Turn → Function
turns_say k [] s = false
turns_say k (t ∷ ts) s = turn_says k t s || turns_say k ts s

-- the new function of row i, by its instruction, from the old functions and those of the rows worked so far
unfoldable pub instruction_says : ℕ → (ℕ → Function) → (ℕ → Function) → ℕ → Instruction → Function
instruction_says k old now i Yes s = true
instruction_says k old now i (And a b) s = now a s && now b s
instruction_says k old now i (Not a) s = not (now a s)
instruction_says k old now i (Since l r) s = now r s || (now l s && old i s)
instruction_says k old now i (Old a) s = old a s
instruction_says k old now i (Drop v a) s = drops (v * k) k (now a) s

-- and by its task
unfoldable pub task_says : ℕ → (ℕ → Function) → (ℕ → Function) → ℕ → Task → Function
task_says k old now i (facts ts) = turns_say k ts
task_says k old now i (does x) = instruction_says k old now i x

-- an atom's function after each turn, those done standing first
unfoldable pub turn_stages : ℕ → List Turn → List Turn → List Function
turn_stages k done [] = []
turn_stages k done (t ∷ ts) = turns_say k (done ++ t ∷ []) ∷ turn_stages k (done ++ t ∷ []) ts

-- the functions met when n bits from base on are removed one at a time, from the highest down
unfoldable pub drop_stages : ℕ → ℕ → Function → List Function
drop_stages base zero g = []
drop_stages base (suc n) g = drop (base + n) g ∷ drop_stages base n (drop (base + n) g)

-- the functions met in the work of row i: those of a removal, bit by bit, and else the new function alone
unfoldable pub stages_of : ℕ → (ℕ → Function) → (ℕ → Function) → ℕ → Instruction → List Function
stages_of k old now i Yes = instruction_says k old now i Yes ∷ []
stages_of k old now i (And a b) = instruction_says k old now i (And a b) ∷ []
stages_of k old now i (Not a) = instruction_says k old now i (Not a) ∷ []
stages_of k old now i (Since l r) = instruction_says k old now i (Since l r) ∷ []
stages_of k old now i (Old a) = instruction_says k old now i (Old a) ∷ []
stages_of k old now i (Drop v a) = drop_stages (v * k) k (now a)

-- and of an atom, "its function after each fact in turn"
unfoldable pub task_stages : ℕ → (ℕ → Function) → (ℕ → Function) → ℕ → Task → List Function
task_stages k old now i (facts ts) = turn_stages k [] ts
task_stages k old now i (does x) = stages_of k old now i x

-- the diagrams with that of row i after them
unfoldable pub with_row : ℕ → List Task → List Tree → ℕ → List Tree → List Tree
with_row k plan old i now = now ++ tree_of (4 * k) (task_says k (says old) (says now) i (get_or plan i (does Yes))) ∷ []

-- the new diagrams of the first n rows
unfoldable pub new_trees : ℕ → List Task → List Tree → ℕ → List Tree
new_trees k plan old zero = []
new_trees k plan old (suc i) = with_row k plan old i (new_trees k plan old i)

-- the functions met in the work of the first n rows
unfoldable pub stages : ℕ → List Task → List Tree → ℕ → List Function
stages k plan old zero = []
stages k plan old (suc i) = stages k plan old i ++ task_stages k (says old) (says (new_trees k plan old i)) i (get_or plan i (does Yes))

-- the working table: the kept nodes, and then the diagrams of the functions met, in order
unfoldable pub work_table : ℕ → ℕ → List Task → List ℕ → ℕ → List ℕ → List Tree
work_table k count plan refs kept ns = add_trees (trees_of ns kept) (map (tree_of (4 * k)) (stages k plan (diagrams ns kept refs count) count))

-- the functions that document 01 counts: each row's before the event, each row's after it, those met when bits are removed, and an
-- atom's after each fact
unfoldable pub counted : ℕ → ℕ → List Task → List ℕ → ℕ → List ℕ → List Function
counted k count plan refs kept ns = map eval (diagrams ns kept refs count) ++ stages k plan (diagrams ns kept refs count) count

-- what a step leaves: what it tells, the references, the sizes of the rows' diagrams, the node slice and the work slice
pub record Outcome : Type 0 where
  pub told : Told
  pub refs : List ℕ
  pub sizes : List ℕ
  pub nodes : List ℕ
  pub work : List ℕ

-- k from 1 to 10, 1 to 64 rows, a node slice of 1 to 4,096 nodes, a work slice of at least 16 * C + 1,024 numbers
unfoldable pub fits : ℕ → ℕ → ℕ → ℕ → Bool
fits k count nodes work =
    (leb 1 k && leb k 10)
    && ((leb 1 count && leb count 64)
    && (eqb nodes (3 * (nodes / 3))
    && ((leb 1 (nodes / 3) && leb (nodes / 3) 4096)
    && leb (16 * (nodes / 3) + 1024) work)))

-- the work slice with its first 16 * C + 1,024 numbers 0
unfoldable pub cleared : ℕ → List ℕ → List ℕ
cleared C w = replicate (16 * C + 1024) 0 ++ from (16 * C + 1024) w

-- the layout of the rows' diagrams ds: the canonical table and the references into it, zeros behind both, and the diagrams' sizes
unfoldable pub layout : List Tree → ℕ → List Tree → ℕ → List ℕ → List ℕ → Outcome
layout ds count T room ns w = record {
  told = Ok (record { kept = length T; room = room });
  refs = map (ref_of T) ds ++ replicate (64 - count) 0;
  sizes = sizes_of ds;
  nodes = show T T ++ replicate (length ns - 3 * length T) 0;
  work = cleared (length ns / 3) w;
}

-- what is left of well kept diagrams: all as it was where the room is over C, and else the new diagrams' layout
unfoldable pub work_outcome : Bool → ℕ → ℕ → List Task → List ℕ → List ℕ → ℕ → List ℕ → List ℕ → Outcome
work_outcome false k count plan refs sizes kept ns w = record { told = Err Full; refs = refs; sizes = sizes; nodes = ns; work = cleared (length ns / 3) w }
work_outcome true k count plan refs sizes kept ns w =
    let ds = new_trees k plan (diagrams ns kept refs count) count in
    layout ds count (add_trees [] ds) (length (work_table k count plan refs kept ns)) ns w

-- the diagrams are well kept, and the sizes are theirs: "sizes that don't fit the diagrams give 4"
abbrev pub kept_right : ℕ → ℕ → List ℕ → List ℕ → List ℕ → ℕ → List ℕ → Bool
kept_right k count allowed refs sizes kept ns = well_kept (free_by k allowed) (length ns / 3) count refs kept ns && sizes_right sizes (diagrams ns kept refs count)

-- the cases in their order: are the numbers and lengths fit, are the diagrams well kept, their sizes right, and what follows then
abbrev pub judge : Bool → Bool → List ℕ → List ℕ → List ℕ → List ℕ → Outcome → Outcome
judge false good refs sizes ns w then = record { told = Err Unfit; refs = refs; sizes = sizes; nodes = ns; work = w }
judge true false refs sizes ns w then = record { told = Err Bad; refs = refs; sizes = sizes; nodes = ns; work = cleared (length ns / 3) w }
judge true true refs sizes ns w then = then

-- what a step gives back and leaves
unfoldable pub step_outcome : ℕ → ℕ → List Task → List ℕ → List ℕ → List ℕ → ℕ → List ℕ → List ℕ → Outcome
step_outcome k count plan allowed refs sizes kept ns w =
    judge (fits k count (length ns) (length w)) (kept_right k count allowed refs sizes kept ns) refs sizes ns w
    (work_outcome (leb (length (work_table k count plan refs kept ns)) (length ns / 3)) k count plan refs sizes kept ns w)

-- a step that told this and left these references, sizes and slices had this outcome
pub record Leaves (o : Outcome) (t : Told) (refs' sizes' ns w : List ℕ) : Type 0 where
  pub told : t ≡ o.told
  pub refs : refs' ≡ o.refs
  pub sizes : sizes' ≡ o.sizes
  pub nodes : ns ≡ o.nodes
  pub work : w ≡ o.work

-- what the check tells and leaves in the work slice
pub record Checked : Type 0 where
  pub gives : Formed
  pub work : List ℕ

-- the same cases without the work
abbrev pub judge_formed : Bool → Bool → ℕ → List ℕ → Checked
judge_formed false good C w = record { gives = Err unformed.Unfit; work = w }
judge_formed true false C w = record { gives = Err unformed.Bad; work = cleared C w }
judge_formed true true C w = record { gives = Ok tt; work = cleared C w }

-- what a check gives back and leaves
unfoldable pub formed_outcome : ℕ → ℕ → List ℕ → List ℕ → List ℕ → ℕ → List ℕ → List ℕ → Checked
formed_outcome k count allowed refs sizes kept ns w = judge_formed (fits k count (length ns) (length w)) (kept_right k count allowed refs sizes kept ns) (length ns / 3) w

-- a check that gave this back and left this work slice had this outcome
pub record Tells (o : Checked) (gives : Formed) (w : List ℕ) : Type 0 where
  pub result : gives ≡ o.gives
  pub work : w ≡ o.work

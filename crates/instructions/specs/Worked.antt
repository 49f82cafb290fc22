-- What the work of an event on well kept diagrams gives back and leaves, in the words of the meaning. Assumes nothing: these are definitions.
use Rattle.std.specs.Prelude.{ℕ, Bool, true, false, Ok, Err, List, length}
use Rattle.trees.specs.Sizes.{sizes_of}
use Rattle.meaning.specs.Qtl.{Fact}
use Rattle.meaning.specs.Rows.{Row}
use Rattle.meaning.specs.Step.{Shown, room_of}
use Rattle.meaning.specs.Tables.{kept_table, lay_state, lay_nodes}
use Rattle.meaning.specs.Outcome.{cleared}
use Rattle.diagram.specs.declared.Refused.TheVariants.{Full}
use Rattle.diagram.specs.Steps.{Outcome}

-- where there is room: the layout of what is shown after the event; else all as it was
unfoldable pub worked_outcome : Bool → ℕ → ℕ → List Row → Shown → List Fact → Shown → List ℕ → List ℕ → List ℕ → List ℕ → Outcome
worked_outcome true k C rule before es after refs sizes nodes work = record {
  told = Ok (record { kept = length (kept_table after); room = room_of k rule before es after });
  refs = (lay_state k after).refs;
  sizes = sizes_of after.trees;
  nodes = lay_nodes C after;
  work = cleared C work;
}
worked_outcome false k C rule before es after refs sizes nodes work = record { told = Err Full; refs = refs; sizes = sizes; nodes = nodes; work = cleared C work }

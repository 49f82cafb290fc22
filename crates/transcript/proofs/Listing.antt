-- The listing of document 01, to the byte: the definition is computed on it. Assumes nothing.
use Prim.Native.Nat.{ℕ}
use mathlib.Core.Path.{◌≡◌, refl}
use mathlib.Core.List.{List, [], ◌∷◌}
use Rattle.trees.specs.Bits as Bits
use Rattle.trees.specs.Kept as Kept
use Rattle.trees.specs.Sizes as Sizes
use Rattle.meaning.specs.Numbering as Numbering
use Rattle.meaning.specs.Outcome as Outcome
use Rattle.meaning.specs.Qtl as Qtl
use Rattle.meaning.specs.Rows as Rows
use Rattle.meaning.specs.Step as Step
use Rattle.trees.specs.Table as Table
use Rattle.meaning.specs.Tables as Tables
use Rattle.trees.specs.Tree as Tree
use Rattle.lines.specs.Numeral as Numeral
use Rattle.lines.specs.Format as Format
use Rattle.answers.specs.Answers as Answers
use Rattle.transcript.specs.Reading as Reading
use Rattle.transcript.specs.Output as Output
use Rattle.transcript.specs.Output.{output}

-- rule K with k = 2 and C = 64, and its five events
pub input : List ℕ
input =
    50 ∷ 32 ∷ 54 ∷ 52 ∷ 10 ∷
    114 ∷ 32 ∷ 50 ∷ 32 ∷ 51 ∷ 32 ∷ 49 ∷ 32 ∷ 48 ∷ 32 ∷ 48 ∷ 32 ∷ 48 ∷ 32 ∷ 48 ∷ 32 ∷ 48 ∷ 32 ∷ 48 ∷ 10 ∷
    114 ∷ 32 ∷ 50 ∷ 32 ∷ 50 ∷ 32 ∷ 49 ∷ 32 ∷ 48 ∷ 32 ∷ 48 ∷ 32 ∷ 48 ∷ 32 ∷ 48 ∷ 32 ∷ 48 ∷ 32 ∷ 48 ∷ 10 ∷
    114 ∷ 32 ∷ 52 ∷ 32 ∷ 49 ∷ 32 ∷ 48 ∷ 32 ∷ 48 ∷ 32 ∷ 48 ∷ 32 ∷ 48 ∷ 32 ∷ 48 ∷ 32 ∷ 48 ∷ 32 ∷ 48 ∷ 10 ∷
    114 ∷ 32 ∷ 50 ∷ 32 ∷ 49 ∷ 32 ∷ 49 ∷ 32 ∷ 48 ∷ 32 ∷ 48 ∷ 32 ∷ 48 ∷ 32 ∷ 48 ∷ 32 ∷ 48 ∷ 32 ∷ 48 ∷ 10 ∷
    114 ∷ 32 ∷ 53 ∷ 32 ∷ 50 ∷ 32 ∷ 51 ∷ 32 ∷ 48 ∷ 32 ∷ 48 ∷ 32 ∷ 48 ∷ 32 ∷ 48 ∷ 32 ∷ 48 ∷ 32 ∷ 48 ∷ 10 ∷
    114 ∷ 32 ∷ 52 ∷ 32 ∷ 52 ∷ 32 ∷ 48 ∷ 32 ∷ 48 ∷ 32 ∷ 48 ∷ 32 ∷ 48 ∷ 32 ∷ 48 ∷ 32 ∷ 48 ∷ 32 ∷ 48 ∷ 10 ∷
    114 ∷ 32 ∷ 51 ∷ 32 ∷ 48 ∷ 32 ∷ 53 ∷ 32 ∷ 48 ∷ 32 ∷ 48 ∷ 32 ∷ 48 ∷ 32 ∷ 48 ∷ 32 ∷ 48 ∷ 32 ∷ 48 ∷ 10 ∷
    114 ∷ 32 ∷ 55 ∷ 32 ∷ 48 ∷ 32 ∷ 54 ∷ 32 ∷ 48 ∷ 32 ∷ 48 ∷ 32 ∷ 48 ∷ 32 ∷ 48 ∷ 32 ∷ 48 ∷ 32 ∷ 48 ∷ 10 ∷
    114 ∷ 32 ∷ 52 ∷ 32 ∷ 55 ∷ 32 ∷ 48 ∷ 32 ∷ 48 ∷ 32 ∷ 48 ∷ 32 ∷ 48 ∷ 32 ∷ 48 ∷ 32 ∷ 48 ∷ 32 ∷ 48 ∷ 10 ∷
    101 ∷ 32 ∷ 49 ∷ 32 ∷ 55 ∷ 10 ∷
    101 ∷ 32 ∷ 51 ∷ 32 ∷ 55 ∷ 10 ∷
    101 ∷ 32 ∷ 51 ∷ 32 ∷ 56 ∷ 10 ∷
    101 ∷ 32 ∷ 50 ∷ 32 ∷ 55 ∷ 10 ∷
    101 ∷ 32 ∷ 51 ∷ 32 ∷ 55 ∷ 10 ∷
    []

-- the header and five answers
pub answers : List ℕ
answers =
    101 ∷ 118 ∷ 101 ∷ 110 ∷ 116 ∷ 32 ∷ 118 ∷ 101 ∷ 114 ∷ 100 ∷ 105 ∷ 99 ∷ 116 ∷ 32 ∷ 107 ∷ 101 ∷ 112 ∷ 116 ∷ 32 ∷ 114 ∷ 111 ∷ 111 ∷ 109 ∷ 10 ∷
    49 ∷ 32 ∷ 121 ∷ 101 ∷ 115 ∷ 32 ∷ 52 ∷ 32 ∷ 52 ∷ 10 ∷
    50 ∷ 32 ∷ 121 ∷ 101 ∷ 115 ∷ 32 ∷ 52 ∷ 32 ∷ 52 ∷ 10 ∷
    51 ∷ 32 ∷ 110 ∷ 111 ∷ 32 ∷ 53 ∷ 32 ∷ 54 ∷ 10 ∷
    52 ∷ 32 ∷ 121 ∷ 101 ∷ 115 ∷ 32 ∷ 52 ∷ 32 ∷ 53 ∷ 10 ∷
    53 ∷ 32 ∷ 110 ∷ 111 ∷ 32 ∷ 50 ∷ 32 ∷ 53 ∷ 10 ∷
    []

pub listing : output input ≡ answers
unfolding input answers Numeral.digits Numeral.numeral Format.spaced Format.text Answers.word_line Answers.no_start Answers.answered Answers.answer_line Reading.numbers_from Reading.row_with Reading.event_with Reading.sizes_with Reading.candidate Reading.all_fit Reading.all_zero Reading.right_line Reading.same_bytes Reading.line_of Output.silent Output.tell_bad Output.tell_sizes Output.tell_row Output.start_reply Output.values_asked Output.begins Output.due Output.judged Output.tell_event Output.event_of Output.tell Output.told Output.last_line Output.lines_from Output.output Bits.put Bits.number Bits.drop Bits.drops Tree.eval Tree.same Tree.mk Tree.leaf Tree.tree_from Tree.tree_of Tree.is_on Table.mem Table.push Table.add_tree Table.add_trees Table.at Table.find Table.ref_of Table.show Table.node_at Table.trees_of Kept.all_below Kept.above Kept.node_right Kept.equal_nodes Kept.same_trees Kept.levels Kept.zeros_from Kept.diagrams Kept.well_kept Sizes.sizes_of Sizes.same_numbers Sizes.sizes_right Qtl.free_arguments Qtl.free Rows.field Rows.uses Rows.use_of Rows.field_right Rows.pairs_used Rows.pair_right Rows.row_right Rows.disagree Rows.row_fault Rows.argument_at Rows.of_kind Rows.row_at Rows.rows_up_to Rows.count_of_rows Rows.rule_of Rows.follow Rows.formulas_from Rows.formulas Rows.formula_at Rows.closed Rows.first_below Rows.judge_rows Rows.check_rows Numbering.place Numbering.listed Numbering.noted Numbering.ask Numbering.repeats Numbering.fits Numbering.ask_arguments Numbering.ask_row Numbering.ask_rows Numbering.ask_facts Step.arguments_say Step.fact_says Step.atom_says Step.row_says Step.says_at Step.row_tree Step.row_trees Step.fresh Step.step Step.removals Step.removed Step.turns Step.atom_turns Step.counted Step.room_of Tables.most Tables.part Tables.list_of Tables.read Tables.padded Tables.lay_values Tables.kept_table Tables.lay_nodes Tables.lay_state Tables.free_level Tables.distinct Tables.list_right Tables.well_formed Outcome.k_right Outcome.capacity Outcome.nodes_right Outcome.values_right Outcome.work_size Outcome.cleared Outcome.fact_of Outcome.given Outcome.facts_of Outcome.agrees Outcome.all_agree Outcome.fact_right Outcome.all_right Outcome.count_right Outcome.shortest Outcome.judge_start Outcome.judge_event Outcome.state_of Outcome.settle_start Outcome.decide_start Outcome.start_outcome Outcome.shows Outcome.decide_event Outcome.verdict_of Outcome.settle_event Outcome.event_outcome Outcome.runs Outcome.answers Outcome.machine_of
listing = refl

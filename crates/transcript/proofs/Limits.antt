-- What the definition prints at the limits of the input, as one list under one claim, computed. Assumes nothing.
use Prim.Native.Nat.{ℕ}
use mathlib.Core.Path.{◌≡◌, refl}
use mathlib.Core.Bool.{Bool, true, ◌&&◌}
use mathlib.Core.List.{List, [], ◌∷◌, ◌++◌}
use Rattle.trees.specs.Bits as Bits
use Rattle.trees.specs.Kept as Kept
use Rattle.trees.specs.Sizes as Sizes
use Rattle.meaning.specs.Numbering as Numbering
use Rattle.meaning.specs.Outcome as Outcome
use Rattle.meaning.specs.Qtl as Qtl
use Rattle.meaning.specs.Rows as Rows
use Rattle.meaning.specs.Step as Step
use Rattle.trees.specs.Table as Table
use Rattle.meaning.specs.Tables as Tables
use Rattle.trees.specs.Tree as Tree
use Rattle.lines.specs.Numeral as Numeral
use Rattle.lines.specs.Format as Format
use Rattle.answers.specs.Answers as Answers
use Rattle.transcript.specs.Reading as Reading
use Rattle.transcript.specs.Output as Output
use Rattle.transcript.specs.Reading.{same_bytes}
use Rattle.transcript.specs.Output.{output}

-- an input, and what is printed for it
record Case : Type 0 where
  input : List ℕ
  answers : List ℕ

-- the row of `true`, and a line end
row : List ℕ
row = 114 ∷ 32 ∷ 49 ∷ 32 ∷ 48 ∷ 32 ∷ 48 ∷ 32 ∷ 48 ∷ 32 ∷ 48 ∷ 32 ∷ 48 ∷ 32 ∷ 48 ∷ 32 ∷ 48 ∷ 32 ∷ 48 ∷ 10 ∷ []

-- `2 64` and a line end; what is printed
sizes : List ℕ
sizes = 50 ∷ 32 ∷ 54 ∷ 52 ∷ 10 ∷ []

bad_line : List ℕ
bad_line = 98 ∷ 97 ∷ 100 ∷ 32 ∷ 108 ∷ 105 ∷ 110 ∷ 101 ∷ 10 ∷ []

header : List ℕ
header = 101 ∷ 118 ∷ 101 ∷ 110 ∷ 116 ∷ 32 ∷ 118 ∷ 101 ∷ 114 ∷ 100 ∷ 105 ∷ 99 ∷ 116 ∷ 32 ∷ 107 ∷ 101 ∷ 112 ∷ 116 ∷ 32 ∷ 114 ∷ 111 ∷ 111 ∷ 109 ∷ 10 ∷ []

prints : List Case → Bool
prints [] = true
prints (c ∷ cs) = same_bytes (output c.input) c.answers && prints cs

cases : List Case
cases =
    -- no input
    record { input = []; answers = bad_line } ∷
    -- a first line alone, with no line end
    record { input = 50 ∷ 32 ∷ 54 ∷ 52 ∷ []; answers = (110 ∷ 111 ∷ 32 ∷ 115 ∷ 116 ∷ 97 ∷ 114 ∷ 116 ∷ 32 ∷ 50 ∷ 32 ∷ 48 ∷ 10 ∷ []) } ∷
    -- a further empty line
    record { input = sizes ++ (10 ∷ []); answers = bad_line } ∷
    -- k of 0
    record { input = 48 ∷ 32 ∷ 54 ∷ 52 ∷ 10 ∷ 114 ∷ 32 ∷ 49 ∷ 32 ∷ 48 ∷ 32 ∷ 48 ∷ 32 ∷ 48 ∷ 32 ∷ 48 ∷ 32 ∷ 48 ∷ 32 ∷ 48 ∷ 32 ∷ 48 ∷ 32 ∷ 48 ∷ 10 ∷ []; answers = (110 ∷ 111 ∷ 32 ∷ 115 ∷ 116 ∷ 97 ∷ 114 ∷ 116 ∷ 32 ∷ 49 ∷ 32 ∷ 48 ∷ 10 ∷ []) } ∷
    -- k past 10, whatever it is
    record { input = 52 ∷ 50 ∷ 57 ∷ 52 ∷ 57 ∷ 54 ∷ 55 ∷ 50 ∷ 57 ∷ 53 ∷ 32 ∷ 54 ∷ 52 ∷ 10 ∷ 114 ∷ 32 ∷ 49 ∷ 32 ∷ 48 ∷ 32 ∷ 48 ∷ 32 ∷ 48 ∷ 32 ∷ 48 ∷ 32 ∷ 48 ∷ 32 ∷ 48 ∷ 32 ∷ 48 ∷ 32 ∷ 48 ∷ 10 ∷ []; answers = (110 ∷ 111 ∷ 32 ∷ 115 ∷ 116 ∷ 97 ∷ 114 ∷ 116 ∷ 32 ∷ 49 ∷ 32 ∷ 48 ∷ 10 ∷ []) } ∷
    -- C of 0
    record { input = 50 ∷ 32 ∷ 48 ∷ 10 ∷ 114 ∷ 32 ∷ 49 ∷ 32 ∷ 48 ∷ 32 ∷ 48 ∷ 32 ∷ 48 ∷ 32 ∷ 48 ∷ 32 ∷ 48 ∷ 32 ∷ 48 ∷ 32 ∷ 48 ∷ 32 ∷ 48 ∷ 10 ∷ []; answers = (110 ∷ 111 ∷ 32 ∷ 115 ∷ 116 ∷ 97 ∷ 114 ∷ 116 ∷ 32 ∷ 51 ∷ 32 ∷ 48 ∷ 10 ∷ []) } ∷
    -- C of 513
    record { input = 50 ∷ 32 ∷ 53 ∷ 49 ∷ 51 ∷ 10 ∷ []; answers = bad_line } ∷
    -- a rule and no event
    record { input = sizes ++ row; answers = header } ∷
    -- an event of four values, and a last line with no line end
    record { input = sizes ++ (row ++ (101 ∷ 32 ∷ 53 ∷ 10 ∷ 101 ∷ 32 ∷ 53 ∷ 32 ∷ 49 ∷ 32 ∷ 50 ∷ 32 ∷ 51 ∷ 32 ∷ 52 ∷ [])); answers = header ++ (49 ∷ 32 ∷ 121 ∷ 101 ∷ 115 ∷ 32 ∷ 48 ∷ 32 ∷ 48 ∷ 10 ∷ 50 ∷ 32 ∷ 114 ∷ 101 ∷ 102 ∷ 117 ∷ 115 ∷ 101 ∷ 100 ∷ 32 ∷ 53 ∷ 32 ∷ 48 ∷ 10 ∷ []) } ∷
    -- a row after an event, and then an event
    record { input = sizes ++ (row ++ (101 ∷ 32 ∷ 49 ∷ 10 ∷ 114 ∷ 32 ∷ 49 ∷ 32 ∷ 48 ∷ 32 ∷ 48 ∷ 32 ∷ 48 ∷ 32 ∷ 48 ∷ 32 ∷ 48 ∷ 32 ∷ 48 ∷ 32 ∷ 48 ∷ 32 ∷ 48 ∷ 10 ∷ 101 ∷ 32 ∷ 49 ∷ 10 ∷ [])); answers = header ++ ((49 ∷ 32 ∷ 121 ∷ 101 ∷ 115 ∷ 32 ∷ 48 ∷ 32 ∷ 48 ∷ 10 ∷ []) ++ bad_line) } ∷
    -- a second first line
    record { input = sizes ++ (50 ∷ 32 ∷ 54 ∷ 52 ∷ 10 ∷ []); answers = bad_line } ∷
    -- no first line
    record { input = row; answers = bad_line } ∷
    -- a leading zero
    record { input = 50 ∷ 32 ∷ 48 ∷ 54 ∷ 52 ∷ 10 ∷ []; answers = bad_line } ∷
    -- a carriage return
    record { input = 50 ∷ 32 ∷ 54 ∷ 52 ∷ 13 ∷ 10 ∷ []; answers = bad_line } ∷
    []

limits : prints cases ≡ true
unfolding row sizes bad_line header prints cases Numeral.digits Numeral.numeral Format.spaced Format.text Answers.word_line Answers.no_start Answers.answered Answers.answer_line Reading.numbers_from Reading.row_with Reading.event_with Reading.sizes_with Reading.candidate Reading.all_fit Reading.all_zero Reading.right_line Reading.same_bytes Reading.line_of Output.silent Output.tell_bad Output.tell_sizes Output.tell_row Output.start_reply Output.values_asked Output.begins Output.due Output.judged Output.tell_event Output.event_of Output.tell Output.told Output.last_line Output.lines_from Output.output Bits.put Bits.number Bits.drop Bits.drops Tree.eval Tree.same Tree.mk Tree.leaf Tree.tree_from Tree.tree_of Tree.is_on Table.mem Table.push Table.add_tree Table.add_trees Table.at Table.find Table.ref_of Table.show Table.node_at Table.trees_of Kept.all_below Kept.above Kept.node_right Kept.equal_nodes Kept.same_trees Kept.levels Kept.zeros_from Kept.diagrams Kept.well_kept Sizes.sizes_of Sizes.same_numbers Sizes.sizes_right Qtl.free_arguments Qtl.free Rows.field Rows.uses Rows.use_of Rows.field_right Rows.pairs_used Rows.pair_right Rows.row_right Rows.disagree Rows.row_fault Rows.argument_at Rows.of_kind Rows.row_at Rows.rows_up_to Rows.count_of_rows Rows.rule_of Rows.follow Rows.formulas_from Rows.formulas Rows.formula_at Rows.closed Rows.first_below Rows.judge_rows Rows.check_rows Numbering.place Numbering.listed Numbering.noted Numbering.ask Numbering.repeats Numbering.fits Numbering.ask_arguments Numbering.ask_row Numbering.ask_rows Numbering.ask_facts Step.arguments_say Step.fact_says Step.atom_says Step.row_says Step.says_at Step.row_tree Step.row_trees Step.fresh Step.step Step.removals Step.removed Step.turns Step.atom_turns Step.counted Step.room_of Tables.most Tables.part Tables.list_of Tables.read Tables.padded Tables.lay_values Tables.kept_table Tables.lay_nodes Tables.lay_state Tables.free_level Tables.distinct Tables.list_right Tables.well_formed Outcome.k_right Outcome.capacity Outcome.nodes_right Outcome.values_right Outcome.work_size Outcome.cleared Outcome.fact_of Outcome.given Outcome.facts_of Outcome.agrees Outcome.all_agree Outcome.fact_right Outcome.all_right Outcome.count_right Outcome.shortest Outcome.judge_start Outcome.judge_event Outcome.state_of Outcome.settle_start Outcome.decide_start Outcome.start_outcome Outcome.shows Outcome.decide_event Outcome.verdict_of Outcome.settle_event Outcome.event_outcome Outcome.runs Outcome.answers Outcome.machine_of
limits = refl

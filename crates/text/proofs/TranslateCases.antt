-- What some texts translate to, worked out by the definitions: the cases of request A1's readings, and document 01's rule K.
-- Assumes nothing.
use mathlib.Core.Path.{◌≡◌, refl}
use mathlib.Core.List.{[], ◌∷◌, ◌++◌}
use lib.ListN.{replicate}
use Rattle.trees.specs.Kept.{all_below}
use Rattle.meaning.specs.Qtl.{free, free_arguments}
use Rattle.text.specs.Words.{is_letter, is_digit, is_word_byte, same, bytes_of, pick, reserved, word_of}
use Rattle.text.specs.Grammar.{level, right_level}
use Rattle.text.specs.Machine.{room_of, fill, pushed, closed, finished, at_operand, at_end, at_name, at_variable, at_dot, at_argument, after_argument, give, result}
use Rattle.text.specs.Reader.{signs, sign_among, class_of, grows, joins, counts, lead, begin, step, run, finish, start, read, halted, dead, place_from, place_of}
use Rattle.text.specs.Unfold.{value_after, atoms, term_variables, variables, listed, uses_after, first_uses, number_in, predicate_names, variable_names, argument_in, either, prefixed, connected, quantify, constant_of, unfolded, formula_of}
use Rattle.text.specs.Parts.{same_argument, same_arguments, same_formula, has, note, parts_after, parts, place_in, row_in, rows_of, mark_of, content_of, pairs_of, nine, numbers}
use Rattle.text.specs.Translate.{any_atom, too_large, too_many, count_of, clashes, sentence, padded, refuses, makes, judge_reading, answer_of}
use Rattle.text.specs.Translator.{judge_text, translate}

-- `p(x, 4294967296)` is refused with 4
too_large_law : translate 576 (112 ∷ 40 ∷ 120 ∷ 44 ∷ 32 ∷ 52 ∷ 50 ∷ 57 ∷ 52 ∷ 57 ∷ 54 ∷ 55 ∷ 50 ∷ 57 ∷ 54 ∷ 41 ∷ []) ≡ refuses 4 0
unfolding is_letter is_digit is_word_byte same bytes_of pick reserved word_of level right_level room_of fill pushed closed finished at_operand at_end at_name at_variable at_dot at_argument after_argument give result signs sign_among class_of grows joins counts lead begin step run finish start read halted dead place_from place_of value_after atoms term_variables variables listed uses_after first_uses number_in predicate_names variable_names argument_in either prefixed connected quantify constant_of unfolded formula_of same_argument same_arguments same_formula has note parts_after parts place_in row_in rows_of mark_of content_of pairs_of nine numbers any_atom too_large too_many count_of clashes sentence padded judge_reading answer_of judge_text translate free free_arguments all_below
too_large_law = refl

-- `p(4294967296` is refused with 3 at its end
no_close : translate 576 (112 ∷ 40 ∷ 52 ∷ 50 ∷ 57 ∷ 52 ∷ 57 ∷ 54 ∷ 55 ∷ 50 ∷ 57 ∷ 54 ∷ []) ≡ refuses 3 12
unfolding is_letter is_digit is_word_byte same bytes_of pick reserved word_of level right_level room_of fill pushed closed finished at_operand at_end at_name at_variable at_dot at_argument after_argument give result signs sign_among class_of grows joins counts lead begin step run finish start read halted dead place_from place_of value_after atoms term_variables variables listed uses_after first_uses number_in predicate_names variable_names argument_in either prefixed connected quantify constant_of unfolded formula_of same_argument same_arguments same_formula has note parts_after parts place_in row_in rows_of mark_of content_of pairs_of nine numbers any_atom too_large too_many count_of clashes sentence padded judge_reading answer_of judge_text translate free free_arguments all_below
no_close = refl

-- `p(x) & p` is refused with 7
two_counts : translate 576 (112 ∷ 40 ∷ 120 ∷ 41 ∷ 32 ∷ 38 ∷ 32 ∷ 112 ∷ []) ≡ refuses 7 0
unfolding is_letter is_digit is_word_byte same bytes_of pick reserved word_of level right_level room_of fill pushed closed finished at_operand at_end at_name at_variable at_dot at_argument after_argument give result signs sign_among class_of grows joins counts lead begin step run finish start read halted dead place_from place_of value_after atoms term_variables variables listed uses_after first_uses number_in predicate_names variable_names argument_in either prefixed connected quantify constant_of unfolded formula_of same_argument same_arguments same_formula has note parts_after parts place_in row_in rows_of mark_of content_of pairs_of nine numbers any_atom too_large too_many count_of clashes sentence padded judge_reading answer_of judge_text translate free free_arguments all_below
two_counts = refl

-- `p(x)` is refused with 8
open_variable : translate 576 (112 ∷ 40 ∷ 120 ∷ 41 ∷ []) ≡ refuses 8 0
unfolding is_letter is_digit is_word_byte same bytes_of pick reserved word_of level right_level room_of fill pushed closed finished at_operand at_end at_name at_variable at_dot at_argument after_argument give result signs sign_among class_of grows joins counts lead begin step run finish start read halted dead place_from place_of value_after atoms term_variables variables listed uses_after first_uses number_in predicate_names variable_names argument_in either prefixed connected quantify constant_of unfolded formula_of same_argument same_arguments same_formula has note parts_after parts place_in row_in rows_of mark_of content_of pairs_of nine numbers any_atom too_large too_many count_of clashes sentence padded judge_reading answer_of judge_text translate free free_arguments all_below
open_variable = refl

-- `!exists x . shelved(x) & !(!questioned(x) S confirmed(x))` makes document 01's nine rows of rule K, with predicates 0, 1, 2
rule_K : translate 576 (33 ∷ 101 ∷ 120 ∷ 105 ∷ 115 ∷ 116 ∷ 115 ∷ 32 ∷ 120 ∷ 32 ∷ 46 ∷ 32 ∷ 115 ∷ 104 ∷ 101 ∷ 108 ∷ 118 ∷ 101 ∷ 100 ∷ 40 ∷ 120 ∷ 41 ∷ 32 ∷ 38 ∷ 32 ∷ 33 ∷ 40 ∷ 33 ∷ 113 ∷ 117 ∷ 101 ∷ 115 ∷ 116 ∷ 105 ∷ 111 ∷ 110 ∷ 101 ∷ 100 ∷ 40 ∷ 120 ∷ 41 ∷ 32 ∷ 83 ∷ 32 ∷ 99 ∷ 111 ∷ 110 ∷ 102 ∷ 105 ∷ 114 ∷ 109 ∷ 101 ∷ 100 ∷ 40 ∷ 120 ∷ 41 ∷ 41 ∷ []) ≡ makes ((2 ∷ 0 ∷ 1 ∷ 0 ∷ 0 ∷ 0 ∷ 0 ∷ 0 ∷ 0 ∷ 2 ∷ 1 ∷ 1 ∷ 0 ∷ 0 ∷ 0 ∷ 0 ∷ 0 ∷ 0 ∷ 4 ∷ 1 ∷ 0 ∷ 0 ∷ 0 ∷ 0 ∷ 0 ∷ 0 ∷ 0 ∷ 2 ∷ 2 ∷ 1 ∷ 0 ∷ 0 ∷ 0 ∷ 0 ∷ 0 ∷ 0 ∷ 5 ∷ 2 ∷ 3 ∷ 0 ∷ 0 ∷ 0 ∷ 0 ∷ 0 ∷ 0 ∷ 4 ∷ 4 ∷ 0 ∷ 0 ∷ 0 ∷ 0 ∷ 0 ∷ 0 ∷ 0 ∷ 3 ∷ 0 ∷ 5 ∷ 0 ∷ 0 ∷ 0 ∷ 0 ∷ 0 ∷ 0 ∷ 7 ∷ 0 ∷ 6 ∷ 0 ∷ 0 ∷ 0 ∷ 0 ∷ 0 ∷ 0 ∷ 4 ∷ 7 ∷ 0 ∷ 0 ∷ 0 ∷ 0 ∷ 0 ∷ 0 ∷ 0 ∷ []) ++ replicate 495 0) 9 ((115 ∷ 104 ∷ 101 ∷ 108 ∷ 118 ∷ 101 ∷ 100 ∷ []) ∷ (113 ∷ 117 ∷ 101 ∷ 115 ∷ 116 ∷ 105 ∷ 111 ∷ 110 ∷ 101 ∷ 100 ∷ []) ∷ (99 ∷ 111 ∷ 110 ∷ 102 ∷ 105 ∷ 114 ∷ 109 ∷ 101 ∷ 100 ∷ []) ∷ []) ((120 ∷ []) ∷ [])
unfolding is_letter is_digit is_word_byte same bytes_of pick reserved word_of level right_level room_of fill pushed closed finished at_operand at_end at_name at_variable at_dot at_argument after_argument give result signs sign_among class_of grows joins counts lead begin step run finish start read halted dead place_from place_of value_after atoms term_variables variables listed uses_after first_uses number_in predicate_names variable_names argument_in either prefixed connected quantify constant_of unfolded formula_of same_argument same_arguments same_formula has note parts_after parts place_in row_in rows_of mark_of content_of pairs_of nine numbers any_atom too_large too_many count_of clashes sentence padded judge_reading answer_of judge_text translate free free_arguments all_below
rule_K = refl

-- `a -> b` makes seven rows: a, not a, not not a, b, not b, and, not
implication : translate 576 (97 ∷ 45 ∷ 62 ∷ 98 ∷ []) ≡ makes ((2 ∷ 0 ∷ 0 ∷ 0 ∷ 0 ∷ 0 ∷ 0 ∷ 0 ∷ 0 ∷ 4 ∷ 0 ∷ 0 ∷ 0 ∷ 0 ∷ 0 ∷ 0 ∷ 0 ∷ 0 ∷ 4 ∷ 1 ∷ 0 ∷ 0 ∷ 0 ∷ 0 ∷ 0 ∷ 0 ∷ 0 ∷ 2 ∷ 1 ∷ 0 ∷ 0 ∷ 0 ∷ 0 ∷ 0 ∷ 0 ∷ 0 ∷ 4 ∷ 3 ∷ 0 ∷ 0 ∷ 0 ∷ 0 ∷ 0 ∷ 0 ∷ 0 ∷ 3 ∷ 2 ∷ 4 ∷ 0 ∷ 0 ∷ 0 ∷ 0 ∷ 0 ∷ 0 ∷ 4 ∷ 5 ∷ 0 ∷ 0 ∷ 0 ∷ 0 ∷ 0 ∷ 0 ∷ 0 ∷ []) ++ replicate 513 0) 7 ((97 ∷ []) ∷ (98 ∷ []) ∷ []) []
unfolding is_letter is_digit is_word_byte same bytes_of pick reserved word_of level right_level room_of fill pushed closed finished at_operand at_end at_name at_variable at_dot at_argument after_argument give result signs sign_among class_of grows joins counts lead begin step run finish start read halted dead place_from place_of value_after atoms term_variables variables listed uses_after first_uses number_in predicate_names variable_names argument_in either prefixed connected quantify constant_of unfolded formula_of same_argument same_arguments same_formula has note parts_after parts place_in row_in rows_of mark_of content_of pairs_of nine numbers any_atom too_large too_many count_of clashes sentence padded judge_reading answer_of judge_text translate free free_arguments all_below
implication = refl

-- The pass over the words: rows and frames go from word to word, by what must come. A name's arguments and a quantifier's variable are
-- looked at in the words after it, so only the words at which an operand or an operator must come do anything.
-- Part of the machine, not of the meaning. Assumes nothing: these are definitions.
use Rattle.std.specs.Prelude.{ℕ, true, false, List, [], ◌∷◌, eqb, ltb}
use Rattle.meaning.specs.Rows
use Rattle.text.specs.Words.{Word, name, number, constant, prefix, binary, quantifier, opening, closing, comma, dot, once, historically, previously, negation, bytes_of}
use Rattle.text.specs.Unfold.{number_in}
use Rattle.text.specs.Parts.{nine}
use Rattle.text.specs.Emit.{Rowed, make_row, negated}
use Rattle.text.specs.Held.{Held, mark, applies, quantifies, Waiting, push_rows, Shut, shut_rows, end_rows}
use Rattle.spelling.specs.Codes.{mode_after}
use Rattle.atomic.specs.Arguments.{arguments_after}

-- the slot of the next word's name
unfoldable pub slot_after : List (List ℕ) → List Word → ℕ
slot_after vs [] = 0
slot_after vs (w ∷ ws) = number_in vs (bytes_of w)

-- one frame more
unfoldable pub stacked : Held → Shut → Shut
stacked h s = record { last = s.last; stack = h ∷ s.stack }

-- the last row, the frames as they were
unfoldable pub rowed : Rowed → Shut → Shut
rowed m s = record { last = m; stack = s.stack }

-- the frames that wait; there is no last row
unfoldable pub waiting : Waiting → Shut
waiting w = record { last = record { rows = w.rows; row = 0 }; stack = w.stack }

-- the row of true is made or found
unfoldable pub with_true : Shut → Shut
with_true s = rowed (make_row s.last.rows (nine Rows.truth)) s

-- a word comes where an operator must come
unfoldable pub at_operator : Word → Shut → Shut
at_operator (name p) s = s
at_operator (number ds) s = s
at_operator (constant b) s = s
at_operator (prefix o) s = s
at_operator (binary o) s = waiting (push_rows o s.last s.stack)
at_operator (quantifier q) s = s
at_operator opening s = s
at_operator closing s = shut_rows s.last s.stack
at_operator comma s = s
at_operator dot s = s

module _ (ps vs : List (List ℕ)) where
  -- a word comes where an operand must come; the words after it are known
  unfoldable pub at_operand : Word → List Word → Shut → Shut
  at_operand (name p) ws s = rowed (make_row s.last.rows (nine (Rows.atom (number_in ps p) (arguments_after vs ws)))) s
  at_operand (number ds) ws s = s
  at_operand (constant true) ws s = with_true s
  at_operand (constant false) ws s = rowed (negated (with_true s).last) s
  at_operand (prefix once) ws s = stacked (applies once (with_true s).last.row) (with_true s)
  at_operand (prefix historically) ws s = stacked (applies historically (with_true s).last.row) (with_true s)
  at_operand (prefix previously) ws s = stacked (applies previously 0) s
  at_operand (prefix negation) ws s = stacked (applies negation 0) s
  at_operand (binary o) ws s = s
  at_operand (quantifier q) ws s = stacked (quantifies q (slot_after vs ws)) s
  at_operand opening ws s = stacked mark s
  at_operand closing ws s = s
  at_operand comma ws s = s
  at_operand dot ws s = s

  -- by what must come: 0 an operand; 1 and 2 an operator
  unfoldable pub at_mode : ℕ → Word → List Word → Shut → Shut
  at_mode m w ws s = elim (eqb m 0) [ true ↦ at_operand w ws s | false ↦ elim (ltb m 3) [ true ↦ at_operator w s | false ↦ s ] ]

  -- the words come one after the other
  unfoldable pub driven : ℕ → List Word → Shut → Shut
  driven m [] s = s
  driven m (w ∷ ws) s = driven (mode_after m w) ws (at_mode m w ws s)

  -- the rows of all words, and the last of them
  unfoldable pub driven_all : List Word → Rowed
  driven_all ws =
      let s : Shut = driven 0 ws (record { last = record { rows = []; row = 0 }; stack = [] }) in
      end_rows s.last s.stack

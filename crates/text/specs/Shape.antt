-- What refusal 3 needs of the machine: what must come, and how many parentheses are open. No readings and no frames.
-- Part of the machine, not of the meaning. Assumes nothing: these are definitions.
use Rattle.std.specs.Prelude.{ℕ, zero, suc, Bool, true, false, List, [], ◌∷◌}
use Rattle.text.specs.Words.{Word, name, number, constant, prefix, binary, quantifier, opening, closing, comma, dot}
use Rattle.text.specs.Machine.{Frame, group, applied, binding, left, Stage, wants, ended, named, binds, bound, argues, argued, stopped, Result, refused, reads}

-- what must come: an operand; an operator, `)` or the end (also `(` after a name); a variable; `.`; an argument; `,` or `)`; nothing
pub data Mode : Type 0 where
  operand operator call slot point argument separator nowhere : Mode

pub record Shape : Type 0 where
  pub mode : Mode
  pub depth : ℕ

-- the open parentheses among the frames
unfoldable pub parens : List Frame → ℕ
parens [] = 0
parens (group ∷ ks) = suc (parens ks)
parens (applied o ∷ ks) = parens ks
parens (binding q x ∷ ks) = parens ks
parens (left o f ∷ ks) = parens ks

-- the shape of a stage
unfoldable pub shape : Stage → Shape
shape (wants ks) = record { mode = operand; depth = parens ks }
shape (ended f ks) = record { mode = operator; depth = parens ks }
shape (named p ks) = record { mode = call; depth = parens ks }
shape (binds q ks) = record { mode = slot; depth = parens ks }
shape (bound q x ks) = record { mode = point; depth = parens ks }
shape (argues p gs ks) = record { mode = argument; depth = parens ks }
shape (argued p gs ks) = record { mode = separator; depth = parens ks }
shape stopped = record { mode = nowhere; depth = 0 }

-- nothing more can come
unfoldable pub halt : Shape
halt = record { mode = nowhere; depth = 0 }

-- `)` closes the last open parenthesis
unfoldable pub shut : ℕ → Shape
shut zero = halt
shut (suc d) = record { mode = operator; depth = d }

-- which words each mode takes, and where they lead
unfoldable pub next : Mode → ℕ → Word → Shape
next operand d (name p) = record { mode = call; depth = d }
next operand d (number ds) = halt
next operand d (constant b) = record { mode = operator; depth = d }
next operand d (prefix o) = record { mode = operand; depth = d }
next operand d (binary o) = halt
next operand d (quantifier q) = record { mode = slot; depth = d }
next operand d opening = record { mode = operand; depth = suc d }
next operand d closing = halt
next operand d comma = halt
next operand d dot = halt
next operator d (name p) = halt
next operator d (number ds) = halt
next operator d (constant b) = halt
next operator d (prefix o) = halt
next operator d (binary o) = record { mode = operand; depth = d }
next operator d (quantifier q) = halt
next operator d opening = halt
next operator d closing = shut d
next operator d comma = halt
next operator d dot = halt
next call d (name p) = halt
next call d (number ds) = halt
next call d (constant b) = halt
next call d (prefix o) = halt
next call d (binary o) = record { mode = operand; depth = d }
next call d (quantifier q) = halt
next call d opening = record { mode = argument; depth = d }
next call d closing = shut d
next call d comma = halt
next call d dot = halt
next slot d (name p) = record { mode = point; depth = d }
next slot d (number ds) = halt
next slot d (constant b) = halt
next slot d (prefix o) = halt
next slot d (binary o) = halt
next slot d (quantifier q) = halt
next slot d opening = halt
next slot d closing = halt
next slot d comma = halt
next slot d dot = halt
next point d (name p) = halt
next point d (number ds) = halt
next point d (constant b) = halt
next point d (prefix o) = halt
next point d (binary o) = halt
next point d (quantifier q) = halt
next point d opening = halt
next point d closing = halt
next point d comma = halt
next point d dot = record { mode = operand; depth = d }
next argument d (name p) = record { mode = separator; depth = d }
next argument d (number ds) = record { mode = separator; depth = d }
next argument d (constant b) = halt
next argument d (prefix o) = halt
next argument d (binary o) = halt
next argument d (quantifier q) = halt
next argument d opening = halt
next argument d closing = halt
next argument d comma = halt
next argument d dot = halt
next separator d (name p) = halt
next separator d (number ds) = halt
next separator d (constant b) = halt
next separator d (prefix o) = halt
next separator d (binary o) = halt
next separator d (quantifier q) = halt
next separator d opening = halt
next separator d closing = record { mode = operator; depth = d }
next separator d comma = record { mode = argument; depth = d }
next separator d dot = halt
next nowhere d w = halt

-- the end may come
unfoldable pub may_end : Mode → ℕ → Bool
may_end operand d = false
may_end operator zero = true
may_end operator (suc d) = false
may_end call zero = true
may_end call (suc d) = false
may_end slot d = false
may_end point d = false
may_end argument d = false
may_end separator d = false
may_end nowhere d = false

-- something is read
unfoldable pub is_read : Result → Bool
is_read refused = false
is_read (reads f) = true

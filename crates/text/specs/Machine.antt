-- The machine that reads a rule text byte by byte: what is pending of a word, what must come, and the frames that wait for their
-- operand. Total: a byte at which no rule text can go on leads to `stopped`. Part of the machine, not of the meaning. Assumes nothing: these are definitions.
use Rattle.std.specs.Prelude.{ℕ, true, false, List, [], ◌∷◌, ◌++◌, ltb}
use Rattle.text.specs.Words.{Word, name, number, constant, prefix, binary, quantifier, opening, closing, comma, dot, Prefix, Binary, Quantifier}
use Rattle.text.specs.Grammar.{Term, variable, digits, Reading, truth, atom, under, joined, quantified, grouped, level, right_level}

-- what waits for an operand: a parenthesis, a prefix operator, a quantifier with its variable, an operator with its left operand
pub data Frame : Type 0 where
  group : Frame
  applied : Prefix → Frame
  binding : Quantifier → List ℕ → Frame
  left : Binary → Reading → Frame

-- the loosest level of an operand that the frame may take
unfoldable pub room_of : Frame → ℕ
room_of group = 4
room_of (applied o) = 0
room_of (binding q x) = 4
room_of (left o f) = right_level o

-- the frame with its operand
unfoldable pub fill : Frame → Reading → Reading
fill group f = grouped f
fill (applied o) f = under o f
fill (binding q x) f = quantified q x f
fill (left o f) g = joined o f g

-- what must come: an operand; (an operand or a name has ended) an operator, `)` or the end; a variable; `.`; an argument;
-- (an argument has ended) `,` or `)`; nothing more
pub data Stage : Type 0 where
  wants : List Frame → Stage
  ended : Reading → List Frame → Stage
  named : List ℕ → List Frame → Stage
  binds : Quantifier → List Frame → Stage
  bound : Quantifier → List ℕ → List Frame → Stage
  argues : List ℕ → List Term → List Frame → Stage
  argued : List ℕ → List Term → List Frame → Stage
  stopped : Stage

-- an operator of the level has come: the frames that bind tighter take their operand
unfoldable pub pushed : Binary → Reading → List Frame → Stage
pushed o f [] = wants (left o f ∷ [])
pushed o f (k ∷ ks) = elim (ltb (room_of k) (level o)) [ true ↦ pushed o (fill k f) ks | false ↦ wants (left o f ∷ k ∷ ks) ]

-- `)` has come: the frames take their operand, up to the last parenthesis
unfoldable pub closed : Reading → List Frame → Stage
closed f [] = stopped
closed f (group ∷ ks) = ended (grouped f) ks
closed f (applied o ∷ ks) = closed (under o f) ks
closed f (binding q x ∷ ks) = closed (quantified q x f) ks
closed f (left o g ∷ ks) = closed (joined o g f) ks

-- what is read in the end
pub data Result : Type 0 where
  refused : Result
  reads : Reading → Result

-- the end has come: all frames take their operand, and no parenthesis is left
unfoldable pub finished : Reading → List Frame → Result
finished f [] = reads f
finished f (group ∷ ks) = refused
finished f (applied o ∷ ks) = finished (under o f) ks
finished f (binding q x ∷ ks) = finished (quantified q x f) ks
finished f (left o g ∷ ks) = finished (joined o g f) ks

-- which words each stage takes, and where they lead
unfoldable pub at_operand : List Frame → Word → Stage
at_operand ks (name p) = named p ks
at_operand ks (number ds) = stopped
at_operand ks (constant b) = ended (truth b) ks
at_operand ks (prefix o) = wants (applied o ∷ ks)
at_operand ks (binary o) = stopped
at_operand ks (quantifier q) = binds q ks
at_operand ks opening = wants (group ∷ ks)
at_operand ks closing = stopped
at_operand ks comma = stopped
at_operand ks dot = stopped

unfoldable pub at_end : Reading → List Frame → Word → Stage
at_end f ks (name p) = stopped
at_end f ks (number ds) = stopped
at_end f ks (constant b) = stopped
at_end f ks (prefix o) = stopped
at_end f ks (binary o) = pushed o f ks
at_end f ks (quantifier q) = stopped
at_end f ks opening = stopped
at_end f ks closing = closed f ks
at_end f ks comma = stopped
at_end f ks dot = stopped

-- a name may have arguments
unfoldable pub at_name : List ℕ → List Frame → Word → Stage
at_name p ks (name x) = stopped
at_name p ks (number ds) = stopped
at_name p ks (constant b) = stopped
at_name p ks (prefix o) = stopped
at_name p ks (binary o) = pushed o (atom p []) ks
at_name p ks (quantifier q) = stopped
at_name p ks opening = argues p [] ks
at_name p ks closing = closed (atom p []) ks
at_name p ks comma = stopped
at_name p ks dot = stopped

unfoldable pub at_variable : Quantifier → List Frame → Word → Stage
at_variable q ks (name x) = bound q x ks
at_variable q ks (number ds) = stopped
at_variable q ks (constant b) = stopped
at_variable q ks (prefix o) = stopped
at_variable q ks (binary o) = stopped
at_variable q ks (quantifier r) = stopped
at_variable q ks opening = stopped
at_variable q ks closing = stopped
at_variable q ks comma = stopped
at_variable q ks dot = stopped

unfoldable pub at_dot : Quantifier → List ℕ → List Frame → Word → Stage
at_dot q x ks (name p) = stopped
at_dot q x ks (number ds) = stopped
at_dot q x ks (constant b) = stopped
at_dot q x ks (prefix o) = stopped
at_dot q x ks (binary o) = stopped
at_dot q x ks (quantifier r) = stopped
at_dot q x ks opening = stopped
at_dot q x ks closing = stopped
at_dot q x ks comma = stopped
at_dot q x ks dot = wants (binding q x ∷ ks)

unfoldable pub at_argument : List ℕ → List Term → List Frame → Word → Stage
at_argument p gs ks (name x) = argued p (gs ++ (variable x ∷ [])) ks
at_argument p gs ks (number ds) = argued p (gs ++ (digits ds ∷ [])) ks
at_argument p gs ks (constant b) = stopped
at_argument p gs ks (prefix o) = stopped
at_argument p gs ks (binary o) = stopped
at_argument p gs ks (quantifier q) = stopped
at_argument p gs ks opening = stopped
at_argument p gs ks closing = stopped
at_argument p gs ks comma = stopped
at_argument p gs ks dot = stopped

unfoldable pub after_argument : List ℕ → List Term → List Frame → Word → Stage
after_argument p gs ks (name x) = stopped
after_argument p gs ks (number ds) = stopped
after_argument p gs ks (constant b) = stopped
after_argument p gs ks (prefix o) = stopped
after_argument p gs ks (binary o) = stopped
after_argument p gs ks (quantifier q) = stopped
after_argument p gs ks opening = stopped
after_argument p gs ks closing = ended (atom p gs) ks
after_argument p gs ks comma = argues p gs ks
after_argument p gs ks dot = stopped

-- a word comes
unfoldable pub give : Stage → Word → Stage
give (wants ks) w = at_operand ks w
give (ended f ks) w = at_end f ks w
give (named p ks) w = at_name p ks w
give (binds q ks) w = at_variable q ks w
give (bound q x ks) w = at_dot q x ks w
give (argues p gs ks) w = at_argument p gs ks w
give (argued p gs ks) w = after_argument p gs ks w
give stopped w = stopped

-- the words come one after the other
unfoldable pub give_all : Stage → List Word → Stage
give_all t [] = t
give_all t (w ∷ ws) = give_all (give t w) ws

-- the end comes
unfoldable pub result : Stage → Result
result (wants ks) = refused
result (ended f ks) = finished f ks
result (named p ks) = finished (atom p []) ks
result (binds q ks) = refused
result (bound q x ks) = refused
result (argues p gs ks) = refused
result (argued p gs ks) = refused
result stopped = refused

-- What rows and frames show after the words of a reading, and what an operator, `)` and the end make of it. Assumes nothing.
use Prim.Native.Nat.{ℕ}
use mathlib.Core.Path.{◌≡◌}
use mathlib.Core.List.{List, []}
use Rattle.text.specs.Words.{binary, closing, Binary}
use Rattle.text.specs.Grammar.{Reading, atom}
use Rattle.text.specs.Machine.{Frame, Stage, wants, ended, named, binds, bound, argues, argued, stopped, at_end, at_name, give, reads, result}
use Rattle.text.specs.Unfold.{unfolded}
use Rattle.text.specs.Parts.{parts}
use Rattle.text.specs.Held.{push_rows, Shut, shut_rows, end_rows}
use Rattle.text.proofs.RowedLaws.{Stood}
use Rattle.text.proofs.HeldLaws.{Ended}
use Rattle.text.proofs.StackLaws.{Waits, WaitsAt, push_waits, EndedAt, shut_ended, end_rows_law}

module _ (ps vs : List (List ℕ)) where
  -- the frames wait for an operand
  pub record WaitsFor (ks : List Frame) (s : Shut) : Type 0 where
    pub waits : Waits ps vs ks (record { rows = s.last.rows; stack = s.stack })

  -- an operand has ended, or a name that may be one
  abbrev pub AtEdge : Stage → Shut → Type 0
  AtEdge (wants ks) s = ⊥
  AtEdge (ended f ks) s = Ended ps vs f ks s.last s.stack
  AtEdge (named p ks) s = Ended ps vs (atom p []) ks s.last s.stack
  AtEdge (binds q ks) s = ⊥
  AtEdge (bound q x ks) s = ⊥
  AtEdge (argues p gs ks) s = ⊥
  AtEdge (argued p gs ks) s = ⊥
  AtEdge stopped s = ⊥

  pub edge_push : (t : Stage) (o : Binary) (s : Shut) → AtEdge t s → WaitsAt ps vs (give t (binary o)) (push_rows o s.last s.stack)
  unfolding give at_end at_name
  edge_push (wants ks) o s e = absurd e
  edge_push (ended f ks) o s e = push_waits ps vs o f ks s.last s.stack e
  edge_push (named p ks) o s e = push_waits ps vs o (atom p []) ks s.last s.stack e
  edge_push (binds q ks) o s e = absurd e
  edge_push (bound q x ks) o s e = absurd e
  edge_push (argues p gs ks) o s e = absurd e
  edge_push (argued p gs ks) o s e = absurd e
  edge_push stopped o s e = absurd e

  pub edge_shut : (t : Stage) (s : Shut) → AtEdge t s → EndedAt ps vs (give t closing) (shut_rows s.last s.stack)
  unfolding give at_end at_name
  edge_shut (wants ks) s e = absurd e
  edge_shut (ended f ks) s e = shut_ended ps vs f ks s.last s.stack e
  edge_shut (named p ks) s e = shut_ended ps vs (atom p []) ks s.last s.stack e
  edge_shut (binds q ks) s e = absurd e
  edge_shut (bound q x ks) s e = absurd e
  edge_shut (argues p gs ks) s e = absurd e
  edge_shut (argued p gs ks) s e = absurd e
  edge_shut stopped s e = absurd e

  pub edge_end : (t : Stage) (s : Shut) (g : Reading) → AtEdge t s → result t ≡ reads g → Stood (parts (unfolded ps vs g)) (unfolded ps vs g) (end_rows s.last s.stack)
  unfolding result
  edge_end (wants ks) s g e z = absurd e
  edge_end (ended f ks) s g e z = end_rows_law ps vs f ks s.last s.stack g e z
  edge_end (named p ks) s g e z = end_rows_law ps vs (atom p []) ks s.last s.stack g e z
  edge_end (binds q ks) s g e z = absurd e
  edge_end (bound q x ks) s g e z = absurd e
  edge_end (argues p gs ks) s g e z = absurd e
  edge_end (argued p gs ks) s g e z = absurd e
  edge_end stopped s g e z = absurd e

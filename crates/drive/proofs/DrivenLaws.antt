-- The pass over the words of a reading makes the rows of its formula. Assumes nothing.
use Prim.Native.Nat.{ℕ, ◌≤◌}
use native.Mathlib.Omega.{arith}
use mathlib.Core.Path.{◌≡◌, refl, sym, ap, ◌∙◌}
use mathlib.Core.Bool.{Bool, true, false}
use mathlib.Core.List.{List, [], ◌∷◌, ◌++◌, map, append_assoc, append-nil}
use lib.Dec.{ltb}
use lib.ListN.{length, length-map}
use borrow.Author.Tests.{ltb-false}
use Rattle.text.specs.Words.{Word, name, constant, prefix, binary, quantifier, opening, closing, comma, dot, Prefix, once, historically, previously, negation, Binary, bytes_of}
use Rattle.text.specs.Grammar.{Term, variable, digits, Reading, truth, atom, under, joined, quantified, grouped, term_word, terms_words, argument_words, words, left_level, level, rank, open_ended, Fine}
use Rattle.text.specs.Machine.{Frame, group, applied, binding, left, room_of, wants, ended, finished, closed}
use Rattle.text.specs.Unfold.{atoms, number_in, argument_in, unfolded}
use Rattle.text.specs.Translate.{any_atom, too_many}
use Rattle.text.specs.Parts.{parts}
use Rattle.text.specs.Emit.{noted, nines}
use Rattle.text.specs.Held.{Held, mark, quantifies, push_rows, Shut, shut_rows}
use Rattle.text.proofs.LimitLaws.{or_none, any_split}
use Rattle.text.proofs.RowedLaws.{Stood}
use Rattle.text.proofs.HeldLaws.{empty, Ended}
use Rattle.text.proofs.StackLaws.{Waits, WaitsAt}
use Rattle.text.proofs.OperandLaws.{atom_ended, true_ended, false_ended, group_waits, binding_waits, applied_waiting, prefix_waits}
use Rattle.text.proofs.WordLaws.{room, edge, left_le, rank_le, edge_operator, edge_closing, edge_result, pushed_waits}
use Rattle.spelling.specs.Codes.{kind_of, nexts, mode_after}
use Rattle.census.proofs.EventLaws.{Follows, none, operator}
use Rattle.census.proofs.EventLaws
use Rattle.atomic.specs.Arguments.{arguments_after}
use Rattle.atomic.proofs.WholeLaws.{whole}
use Rattle.drive.specs.Drives.{slot_after, stacked, rowed, waiting, with_true, at_operand, at_operator, at_mode, driven, driven_all}
use Rattle.drive.proofs.EdgeLaws.{WaitsFor, AtEdge, edge_push, edge_shut, edge_end}

-- no atom has more than 3 arguments
abbrev pub Few : Reading → Type 0
Few (truth b) = Unit {0}
Few (atom p gs) = length gs ≤ 3
Few (under o f) = Few f
Few (joined o f g) = Few f × Few g
Few (quantified q x f) = Few f
Few (grouped f) = Few f

pub few_atoms : (f : Reading) → any_atom (λ a. too_many a.terms) (atoms f) ≡ false → Few f
unfolding atoms
few_atoms (truth b) e = tt
few_atoms (atom p gs) e = ltb-false 3 (length gs) (unfold any_atom too_many in (or_none (ltb 3 (length gs)) false e).0)
few_atoms (under o f) e = few_atoms f e
few_atoms (joined o f g) e =
    let r = any_split (λ a. too_many a.terms) (atoms f) (atoms g) e in
    (few_atoms f r.0, few_atoms g r.1)
few_atoms (quantified q x f) e = few_atoms f e
few_atoms (grouped f) e = few_atoms f e

module _ (ps vs : List (List ℕ)) where
  -- after an operand, a name or another
  called_driven : {rest : List Word} (s : Shut) → Follows rest → driven ps vs 2 rest s ≡ driven ps vs 1 rest s
  unfolding driven at_mode mode_after nexts kind_of
  called_driven s none = refl
  called_driven s (operator o ws) = refl
  called_driven s (EventLaws.closed ws) = refl

  -- arguments are passed over
  term_driven : (g : Term) (ws : List Word) (s : Shut) → driven ps vs 5 (term_word g ∷ ws) s ≡ driven ps vs 6 ws s
  unfolding driven at_mode mode_after nexts kind_of term_word
  term_driven (variable x) ws s = refl
  term_driven (digits ds) ws s = refl

  terms_driven : (gs : List Term) (rest : List Word) (s : Shut) → driven ps vs 6 (terms_words gs ++ rest) s ≡ driven ps vs 1 rest s
  unfolding terms_words
  terms_driven [] rest s = unfold driven at_mode mode_after nexts kind_of in refl
  terms_driven (g ∷ gs) rest s =
      let here : driven ps vs 6 (comma ∷ (term_word g ∷ (terms_words gs ++ rest))) s ≡ driven ps vs 5 (term_word g ∷ (terms_words gs ++ rest)) s =
      unfold driven at_mode mode_after nexts kind_of in refl in
      here ∙ term_driven g (terms_words gs ++ rest) s ∙ terms_driven gs rest s

  arguments_driven : (gs : List Term) (rest : List Word) (s : Shut) → Follows rest → driven ps vs 2 (argument_words gs ++ rest) s ≡ driven ps vs 1 rest s
  unfolding argument_words
  arguments_driven [] rest s h = called_driven s h
  arguments_driven (g ∷ gs) rest s h =
      let here : driven ps vs 2 (opening ∷ (term_word g ∷ (terms_words gs ++ rest))) s ≡ driven ps vs 5 (term_word g ∷ (terms_words gs ++ rest)) s =
      unfold driven at_mode at_operator mode_after nexts kind_of in refl in
      here ∙ term_driven g (terms_words gs ++ rest) s ∙ terms_driven gs rest s

  -- the words of a reading lead to its edge
  pub record Led (f : Reading) (ks : List Frame) (rest : List Word) (s : Shut) : Type 0 where
    pub after : Shut
    pub same : driven ps vs 0 (words f ++ rest) s ≡ driven ps vs 1 rest after
    pub at_edge : AtEdge ps vs (edge f ks) after

  -- the frames wait, the rows being those of the frames below
  waits_stacked : (h : Held) (ks : List Frame) (s : Shut) → Waits ps vs ks (record { rows = s.last.rows; stack = h ∷ s.stack }) → WaitsFor ps vs ks (stacked h s)
  unfolding stacked
  waits_stacked h ks s w = record { waits = w }

  prefix_driven : (o : Prefix) (ks : List Frame) (ws : List Word) (s : Shut) → WaitsFor ps vs ks s → WaitsFor ps vs (applied o ∷ ks) (at_operand ps vs (prefix o) ws s)
  unfolding at_operand stacked with_true rowed
  prefix_driven once ks ws s h = record { waits = unfold applied_waiting in prefix_waits ps vs ks (record { rows = s.last.rows; stack = s.stack }) h.waits once }
  prefix_driven historically ks ws s h = record { waits = unfold applied_waiting in prefix_waits ps vs ks (record { rows = s.last.rows; stack = s.stack }) h.waits historically }
  prefix_driven previously ks ws s h = record { waits = unfold applied_waiting in prefix_waits ps vs ks (record { rows = s.last.rows; stack = s.stack }) h.waits previously }
  prefix_driven negation ks ws s h = record { waits = unfold applied_waiting in prefix_waits ps vs ks (record { rows = s.last.rows; stack = s.stack }) h.waits negation }

  truth_driven : (b : Bool) (ks : List Frame) (ws : List Word) (s : Shut) → WaitsFor ps vs ks s → Ended ps vs (truth b) ks (at_operand ps vs (constant b) ws s).last (at_operand ps vs (constant b) ws s).stack
  unfolding at_operand with_true rowed
  truth_driven true ks ws s h = true_ended ps vs ks (record { rows = s.last.rows; stack = s.stack }) h.waits
  truth_driven false ks ws s h = false_ended ps vs ks (record { rows = s.last.rows; stack = s.stack }) h.waits

  atom_driven : (p : List ℕ) (gs : List Term) (ks : List Frame) (ws : List Word) (s : Shut) → arguments_after vs ws ≡ map (argument_in vs) gs → length gs ≤ 3 → WaitsFor ps vs ks s
      → Ended ps vs (atom p gs) ks (at_operand ps vs (name p) ws s).last (at_operand ps vs (name p) ws s).stack
  unfolding at_operand rowed
  atom_driven p gs ks ws s e l h =
      rw e (atom_ended ps vs ks (record { rows = s.last.rows; stack = s.stack }) h.waits p gs (omega (arith, length-map gs (argument_in vs))))

  atom_edge : (p : List ℕ) (gs : List Term) (ks : List Frame) (s : Shut) → Ended ps vs (atom p gs) ks s.last s.stack → AtEdge ps vs (edge (atom p gs) ks) s
  unfolding edge
  atom_edge p [] ks s e = e
  atom_edge p (g ∷ gs) ks s e = e

  -- an operator comes after an operand, and `)`
  operator_driven : (o : Binary) (ws : List Word) (s : Shut) → driven ps vs 1 (binary o ∷ ws) s ≡ driven ps vs 0 ws (waiting (push_rows o s.last s.stack))
  unfolding driven at_mode at_operator mode_after nexts kind_of
  operator_driven o ws s = refl

  closing_driven : (ws : List Word) (s : Shut) → driven ps vs 1 (closing ∷ ws) s ≡ driven ps vs 1 ws (shut_rows s.last s.stack)
  unfolding driven at_mode at_operator mode_after nexts kind_of
  closing_driven ws s = refl

  -- an operator waits for its right operand
  joined_driven : (o : Binary) (f : Reading) (ks : List Frame) (s : Shut) → Fine f → rank f ≤ left_level o → open_ended f ≡ false → level o ≤ room ks
      → AtEdge ps vs (edge f ks) s → WaitsFor ps vs (left o f ∷ ks) (waiting (push_rows o s.last s.stack))
  unfolding waiting
  joined_driven o f ks s h r c l e =
      let at : WaitsAt ps vs (wants (left o f ∷ ks)) (push_rows o s.last s.stack) =
      rw (edge_operator o f ks h r c ∙ pushed_waits o f ks l) at (edge_push ps vs (edge f ks) o s e) in
      record { waits = record { rowing = at.rowing; shown = at.shown } }

  -- `)` closes its parenthesis
  grouped_driven : (f : Reading) (ks : List Frame) (s : Shut) → AtEdge ps vs (edge f (group ∷ ks)) s → AtEdge ps vs (ended (grouped f) ks) (shut_rows s.last s.stack)
  unfolding closed
  grouped_driven f ks s e = rw (edge_closing f (group ∷ ks)) at (edge_shut ps vs (edge f (group ∷ ks)) s e)

  pub led : (f : Reading) (ks : List Frame) (rest : List Word) (s : Shut) → Fine f → rank f ≤ room ks → Few f → Follows rest → WaitsFor ps vs ks s → Led f ks rest s
  unfolding words edge
  led (truth b) ks rest s h r few z w = record {
    after = at_operand ps vs (constant b) rest s;
    same = unfold driven at_mode mode_after nexts kind_of in refl;
    at_edge = truth_driven b ks rest s w;
  }
  led (atom p gs) ks rest s h r few z w = record {
    after = at_operand ps vs (name p) (argument_words gs ++ rest) s;
    same =
        let here : driven ps vs 0 (name p ∷ (argument_words gs ++ rest)) s ≡ driven ps vs 2 (argument_words gs ++ rest) (at_operand ps vs (name p) (argument_words gs ++ rest) s) =
        unfold driven at_mode mode_after nexts kind_of in refl in
        here ∙ arguments_driven gs rest (at_operand ps vs (name p) (argument_words gs ++ rest) s) z;
    at_edge = atom_edge p gs ks (at_operand ps vs (name p) (argument_words gs ++ rest) s) (atom_driven p gs ks (argument_words gs ++ rest) s (whole vs gs rest z) few w);
  }
  led (under o f) ks rest s h r few z w =
      let here : driven ps vs 0 (prefix o ∷ (words f ++ rest)) s ≡ driven ps vs 0 (words f ++ rest) (at_operand ps vs (prefix o) (words f ++ rest) s) =
      unfold driven at_mode mode_after nexts kind_of in refl in
      let l : Led f (applied o ∷ ks) rest (at_operand ps vs (prefix o) (words f ++ rest) s) =
      led f (applied o ∷ ks) rest (at_operand ps vs (prefix o) (words f ++ rest) s) h.1 (unfold room room_of in h.0) few z (prefix_driven o ks (words f ++ rest) s w) in
      record { after = l.after; same = here ∙ l.same; at_edge = l.at_edge }
  led (joined o f g) ks rest s h r few z w =
      let whole : level o ≤ room ks = unfold rank in r in
      let l : Led f ks (binary o ∷ (words g ++ rest)) s =
      led f ks (binary o ∷ (words g ++ rest)) s h.3 (omega (arith, h.0, left_le o)) few.0 (operator o (words g ++ rest)) w in
      let m : Led g (left o f ∷ ks) rest (waiting (push_rows o l.after.last l.after.stack)) =
      led g (left o f ∷ ks) rest (waiting (push_rows o l.after.last l.after.stack)) h.4 (unfold room room_of in h.2) few.1 z
      (joined_driven o f ks l.after h.3 h.0 h.1 whole l.at_edge) in
      record {
        after = m.after;
        same = ap (λ (ws : List Word). driven ps vs 0 ws s) (append_assoc (words f) (binary o ∷ words g) rest) ∙ l.same ∙ operator_driven o (words g ++ rest) l.after ∙ m.same;
        at_edge = m.at_edge;
      }
  led (quantified q x f) ks rest s h r few z w =
      let here : driven ps vs 0 (quantifier q ∷ (name x ∷ (dot ∷ (words f ++ rest)))) s ≡ driven ps vs 0 (words f ++ rest) (stacked (quantifies q (number_in vs x)) s) =
      unfold driven at_mode at_operand slot_after bytes_of mode_after nexts kind_of in refl in
      let l : Led f (binding q x ∷ ks) rest (stacked (quantifies q (number_in vs x)) s) =
      led f (binding q x ∷ ks) rest (stacked (quantifies q (number_in vs x)) s) h (unfold room room_of in rank_le f) few z
      (waits_stacked (quantifies q (number_in vs x)) (binding q x ∷ ks) s (binding_waits ps vs ks (record { rows = s.last.rows; stack = s.stack }) w.waits q x)) in
      record { after = l.after; same = here ∙ l.same; at_edge = l.at_edge }
  led (grouped f) ks rest s h r few z w =
      let here : driven ps vs 0 (opening ∷ (words f ++ (closing ∷ rest))) s ≡ driven ps vs 0 (words f ++ (closing ∷ rest)) (stacked mark s) =
      unfold driven at_mode at_operand mode_after nexts kind_of in refl in
      let l : Led f (group ∷ ks) (closing ∷ rest) (stacked mark s) =
      led f (group ∷ ks) (closing ∷ rest) (stacked mark s) h (unfold room room_of in rank_le f) few (EventLaws.closed rest)
      (waits_stacked mark (group ∷ ks) s (group_waits ps vs ks (record { rows = s.last.rows; stack = s.stack }) w.waits)) in
      record {
        after = shut_rows l.after.last l.after.stack;
        same =
            ap (λ (ws : List Word). driven ps vs 0 (opening ∷ ws) s) (append_assoc (words f) (closing ∷ []) rest)
            ∙ here ∙ l.same ∙ closing_driven rest l.after;
        at_edge = grouped_driven f ks l.after l.at_edge;
      }

  nothing_waits : WaitsFor ps vs [] (record { last = record { rows = []; row = 0 }; stack = [] })
  unfolding noted
  nothing_waits = record { waits = record { rowing = record { rows_are = unfold nines in refl; placed = tt }; shown = empty } }

  -- the rows of a reading are those of its formula's parts
  pub driven_rows : (f : Reading) → Fine f → Few f → Stood (parts (unfolded ps vs f)) (unfolded ps vs f) (driven_all ps vs (words f))
  unfolding driven_all
  driven_rows f h few =
      let l : Led f [] [] (record { last = record { rows = []; row = 0 }; stack = [] }) =
      led f [] [] (record { last = record { rows = []; row = 0 }; stack = [] }) h (unfold room in rank_le f) few none nothing_waits in
      let e : driven ps vs 0 (words f) (record { last = record { rows = []; row = 0 }; stack = [] }) ≡ l.after =
      ap (λ (ws : List Word). driven ps vs 0 ws (record { last = record { rows = []; row = 0 }; stack = [] })) (sym (append-nil (words f))) ∙ l.same ∙ unfold driven in refl in
      rw e (edge_end ps vs (edge f []) l.after f l.at_edge (edge_result f [] ∙ unfold finished in refl))

-- A start or an event on the parts of the tables that the sizes ask for leaves what specs/Lefts says. Assumes nothing.
use Prim.Native.Nat.{ℕ, ◌+◌}
use mathlib.Core.Path.{◌≡◌, refl, sym, ap, ◌∙◌}
use mathlib.Core.Bool.{Bool, true, false}
use mathlib.Core.List.{List, [], ◌∷◌, ◌++◌}
use Rattle.std.specs.Prelude.{None, Some}
use lib.ListN.{take, drop}
use denote.Enum.Declared.{tag_of}
use types.Run.{OneOf, hit, miss}
use Rattle.meaning.specs.declared.Event.{Event}
use Rattle.meaning.specs.declared.Turn.{Turn}
use Rattle.meaning.specs.declared.Answer.{Answer}
use Rattle.meaning.specs.declared.Answer.TheVariants.{Started, Verdict, Refused}
use Rattle.meaning.specs.contracts.Answer.{the_type}
use Rattle.meaning.specs.Outcome.{StartOutcome, start_outcome, EventOutcome, event_outcome}
use Rattle.monitor.specs.Calls.{Starts, machine, Happens}
use Rattle.answers.specs.declared.Said.TheVariants as said
use Rattle.session.specs.declared.Part.TheVariants.{Events, Over}
use Rattle.session.specs.declared.Session.{Session}
use Rattle.session.specs.declared.After.{After}
use Rattle.session.specs.declared.Lent.{Lent}
use Rattle.session.specs.Sessions.{Sized, machine_of}
use Rattle.session.specs.Lefts.{turned_to, saying, started, begun_as, begin_left, Begins, happen_left, happened, Judges}

-- a start that is refused
begun_refused : (a : Answer) (s : Session) (o : StartOutcome) (number place : ℕ) → Refused number place ≡ a
    → saying (turned_to s Over) false (Some (said.NoStart number place)) ≡ begun_as a s o
unfolding begun_as
begun_refused a s o number place e = rw (← e)

-- an answer that is no refusal is one of the others
pub but_refused : (a : Answer) → ((number place : ℕ) → a ≡ Refused number place → ⊥) → OneOf (0 ∷ 1 ∷ []) (tag_of the_type a)
but_refused Started n = hit (0 ∷ 1 ∷ []) 0 tt
but_refused (Verdict holds kept room) n = hit (0 ∷ 1 ∷ []) 1 tt
but_refused (Refused number place) n = absurd (n number place refl)

-- any other start
begun_other : (a : Answer) (s : Session) (o : StartOutcome) → OneOf (0 ∷ 1 ∷ []) (tag_of the_type a)
    → saying (record { part = Events; k = s.k; c = s.c; rows = s.rows; ordinal = s.ordinal; state = o.state }) true None ≡ begun_as a s o
unfolding begun_as
begun_other Started s o m = refl
begun_other (Verdict holds kept room) s o m = refl
begun_other (Refused number place) s o m = absurd (miss (0 ∷ 1 ∷ []) 2 tt m)

module _ (s : Session) (lent : Lent) (sized : Sized s lent) where
  start_lent : (rows nodes values : List ℕ)
      → start_outcome s.k (take lent.rows rows) (take lent.nodes nodes) (take lent.values values) ≡ started s rows nodes values
  unfolding started
  start_lent rows nodes values =
      let r = sized.rows_are in
      let n = sized.nodes_are in
      let v = sized.values_are in
      λ i. start_outcome s.k (take (r i) rows) (take (n i) nodes) (take (v i) values)

  event_lent : (e : Event) (rows nodes values work : List ℕ)
      → event_outcome (take lent.rows rows) (machine s.state (take lent.nodes nodes) (take lent.values values) (take lent.work work)) e
      ≡ event_outcome (take s.rows rows) (machine_of s nodes values work) e
  unfolding machine_of
  event_lent e rows nodes values work =
      let r = sized.rows_are in
      let n = sized.nodes_are in
      let v = sized.values_are in
      let w = sized.work_is in
      λ i. event_outcome (take (r i) rows) (machine s.state (take (n i) nodes) (take (v i) values) (take (w i) work)) e

  module _ (rows nodes values : List ℕ) (t : Turn) (ns vs : List ℕ)
      (starts : Starts s.k (take lent.rows rows) (take lent.nodes nodes) (take lent.values values) t ns vs) {nodes' values' : List ℕ}
      (nodes_are : nodes' ≡ ns ++ drop lent.nodes nodes) (values_are : values' ≡ vs ++ drop lent.values values) where
    begin_left_law : (r : After) → r ≡ begun_as (started s rows nodes values).answer s (started s rows nodes values)
        → Begins (begin_left s (started s rows nodes values) nodes values) r nodes' values'
    unfolding begin_left
    begin_left_law r e =
        let same = start_lent rows nodes values in
        let n = sized.nodes_are in
        let v = sized.values_are in
        record {
          after_is = e;
          nodes_are = nodes_are ∙ (λ i. (starts.nodes_are ∙ ap (λ (o : StartOutcome). o.nodes) same) i ++ drop (n i) nodes);
          values_are = values_are ∙ (λ i. (starts.values_are ∙ ap (λ (o : StartOutcome). o.values) same) i ++ drop (v i) values);
        }

    pub begin_refused : {number place : ℕ} → t.answer ≡ Refused number place
        → Begins (begin_left s (started s rows nodes values) nodes values) (saying (turned_to s Over) false (Some (said.NoStart number place))) nodes' values'
    begin_refused {number} {place} e =
        let answer = sym e ∙ starts.answer ∙ ap (λ (o : StartOutcome). o.answer) (start_lent rows nodes values) in
        begin_left_law (saying (turned_to s Over) false (Some (said.NoStart number place)))
        (begun_refused (started s rows nodes values).answer s (started s rows nodes values) number place answer)

    pub begin_started : OneOf (0 ∷ 1 ∷ []) (tag_of the_type t.answer)
        → Begins
        (begin_left s (started s rows nodes values) nodes values)
        (saying (record { part = Events; k = s.k; c = s.c; rows = s.rows; ordinal = s.ordinal; state = t.state }) true None)
        nodes'
        values'
    begin_started m =
        let same = start_lent rows nodes values in
        let answer = starts.answer ∙ ap (λ (o : StartOutcome). o.answer) same in
        let state = starts.state ∙ ap (λ (o : StartOutcome). o.state) same in
        begin_left_law (saying (record { part = Events; k = s.k; c = s.c; rows = s.rows; ordinal = s.ordinal; state = t.state }) true None)
        ((λ i. saying (record { part = Events; k = s.k; c = s.c; rows = s.rows; ordinal = s.ordinal; state = state i }) true None)
        ∙ begun_other (started s rows nodes values).answer s (started s rows nodes values) (rw (← answer) m))

  pub happen_left_law : (h : Bool) (e : Event) (rows nodes values work : List ℕ) (t : Turn) (ns vs ws : List ℕ)
      → Happens (take lent.rows rows) (machine s.state (take lent.nodes nodes) (take lent.values values) (take lent.work work)) e t ns vs ws
      → {nodes' values' work' : List ℕ} → nodes' ≡ ns ++ drop lent.nodes nodes → values' ≡ vs ++ drop lent.values values
      → work' ≡ ws ++ drop lent.work work
      → Judges
      (happened s h e rows nodes values work)
      (saying (record { part = Events; k = s.k; c = s.c; rows = s.rows; ordinal = s.ordinal + 1; state = t.state }) h (Some (said.Event (s.ordinal + 1) t.answer)))
      nodes'
      values'
      work'
  unfolding happened happen_left
  happen_left_law h e rows nodes values work t ns vs ws p nodes_are values_are work_is =
      let same = event_lent e rows nodes values work in
      let answer = p.answer ∙ ap (λ (o : EventOutcome). o.answer) same in
      let state = p.state ∙ ap (λ (o : EventOutcome). o.left.state) same in
      let n = sized.nodes_are in
      let v = sized.values_are in
      let w = sized.work_is in
      record {
        after_is = λ i. saying (record { part = Events; k = s.k; c = s.c; rows = s.rows; ordinal = s.ordinal + 1; state = state i }) h (Some (said.Event (s.ordinal + 1) (answer i)));
        nodes_are = nodes_are ∙ (λ i. (p.nodes_are ∙ ap (λ (o : EventOutcome). o.left.nodes) same) i ++ drop (n i) nodes);
        values_are = values_are ∙ (λ i. (p.values_are ∙ ap (λ (o : EventOutcome). o.left.values) same) i ++ drop (v i) values);
        work_is = work_is ∙ (λ i. (p.work_is ∙ ap (λ (o : EventOutcome). o.left.work) same) i ++ drop (w i) work);
      }

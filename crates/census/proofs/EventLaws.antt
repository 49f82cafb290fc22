-- The events of the words of a reading are the reading's. Assumes nothing.
use Prim.Native.Nat.{◌+◌}
use native.Mathlib.Omega.{arith}
use mathlib.Core.Path.{◌≡◌, refl, sym, ap, ◌∙◌}
use mathlib.Core.List.{List, [], ◌∷◌, ◌++◌, append_assoc, append-nil}
use lib.ListN.{length}
use Rattle.text.specs.Words.{Word, name, prefix, binary, quantifier, opening, closing, comma, dot, Binary}
use Rattle.text.specs.Grammar.{Term, variable, digits, Reading, truth, atom, under, joined, quantified, grouped, term_word, terms_words, argument_words, words}
use Rattle.spelling.specs.Codes.{kind_of, nexts, mode_after}
use Rattle.census.specs.Folds.{comma_of, commas_in, arguments_in, Event, call, binds, opens, closes, named, event_of, events, term_events, events_of}

-- what follows an operand: an operator, `)` or nothing
pub data Follows : List Word → Type 0 where
  none : Follows []
  operator : (o : Binary) (ws : List Word) → Follows (binary o ∷ ws)
  closed : (ws : List Word) → Follows (closing ∷ ws)

no_arguments : {rest : List Word} → Follows rest → arguments_in rest ≡ 0
unfolding arguments_in kind_of
no_arguments none = refl
no_arguments (operator o ws) = refl
no_arguments (closed ws) = refl

called_ended : {rest : List Word} → Follows rest → events 2 rest ≡ events 1 rest
unfolding events event_of mode_after nexts kind_of
called_ended none = refl
called_ended (operator o ws) = refl
called_ended (closed ws) = refl

term_kind : (g : Term) (ws : List Word) → commas_in (term_word g ∷ ws) ≡ commas_in ws
unfolding term_word commas_in comma_of kind_of
term_kind (variable x) ws = omega arith
term_kind (digits ds) ws = omega arith

count_commas : (gs : List Term) (rest : List Word) → commas_in (terms_words gs ++ rest) ≡ length gs
unfolding terms_words
count_commas [] rest = unfold commas_in kind_of in refl
count_commas (g ∷ gs) rest =
    let here : commas_in (comma ∷ (term_word g ∷ (terms_words gs ++ rest))) ≡ 1 + commas_in (term_word g ∷ (terms_words gs ++ rest)) =
    unfold commas_in comma_of kind_of in refl in
    here ∙ rw (term_kind g (terms_words gs ++ rest), count_commas gs rest) (omega arith)

count_arguments : (gs : List Term) (rest : List Word) → Follows rest → arguments_in (argument_words gs ++ rest) ≡ length gs
unfolding argument_words
count_arguments [] rest h = no_arguments h
count_arguments (g ∷ gs) rest h =
    let here : arguments_in (opening ∷ (term_word g ∷ (terms_words gs ++ rest))) ≡ commas_in (term_word g ∷ (terms_words gs ++ rest)) + 1 =
    unfold arguments_in kind_of in refl in
    here ∙ rw (term_kind g (terms_words gs ++ rest), count_commas gs rest) (omega arith)

term_event : (g : Term) (ws : List Word) → events 5 (term_word g ∷ ws) ≡ term_events (g ∷ []) ++ events 6 ws
unfolding term_word events event_of named mode_after nexts kind_of term_events
term_event (variable x) ws = refl
term_event (digits ds) ws = refl

terms_more : (g : Term) (gs : List Term) → term_events (g ∷ gs) ≡ term_events (g ∷ []) ++ term_events gs
unfolding term_events
terms_more (variable x) gs = refl
terms_more (digits ds) gs = refl

rest_events : (gs : List Term) (rest : List Word) → events 6 (terms_words gs ++ rest) ≡ term_events gs ++ events 1 rest
unfolding terms_words
rest_events [] rest = unfold events event_of mode_after nexts kind_of term_events in refl
rest_events (g ∷ gs) rest =
    let here : events 6 (comma ∷ (term_word g ∷ (terms_words gs ++ rest))) ≡ events 5 (term_word g ∷ (terms_words gs ++ rest)) =
    unfold events event_of mode_after nexts kind_of in refl in
    here ∙ term_event g (terms_words gs ++ rest)
    ∙ rw (rest_events gs rest, terms_more g gs) (sym (append_assoc (term_events (g ∷ [])) (term_events gs) (events 1 rest)))

argument_events : (gs : List Term) (rest : List Word) → Follows rest → events 2 (argument_words gs ++ rest) ≡ term_events gs ++ events 1 rest
unfolding argument_words
argument_events [] rest h = unfold term_events in called_ended h
argument_events (g ∷ gs) rest h =
    let here : events 2 (opening ∷ (term_word g ∷ (terms_words gs ++ rest))) ≡ events 5 (term_word g ∷ (terms_words gs ++ rest)) =
    unfold events event_of mode_after nexts kind_of in refl in
    here ∙ term_event g (terms_words gs ++ rest)
    ∙ rw (rest_events gs rest, terms_more g gs) (sym (append_assoc (term_events (g ∷ [])) (term_events gs) (events 1 rest)))

-- the words of an operand and what follows it
pub reading_events : (f : Reading) (rest : List Word) → Follows rest → events 0 (words f ++ rest) ≡ events_of f ++ events 1 rest
unfolding words events_of
reading_events (truth b) rest h = unfold events event_of mode_after nexts kind_of in refl
reading_events (atom p gs) rest h =
    let here : events 0 (name p ∷ (argument_words gs ++ rest)) ≡ call p (arguments_in (argument_words gs ++ rest)) ∷ events 2 (argument_words gs ++ rest) =
    unfold events event_of named mode_after nexts kind_of in refl in
    here ∙ rw (count_arguments gs rest h, argument_events gs rest h)
reading_events (under o f) rest h =
    let here : events 0 (prefix o ∷ (words f ++ rest)) ≡ events 0 (words f ++ rest) = unfold events event_of mode_after nexts kind_of in refl in
    here ∙ reading_events f rest h
reading_events (joined o f g) rest h =
    let here : events 1 (binary o ∷ (words g ++ rest)) ≡ events 0 (words g ++ rest) = unfold events event_of mode_after nexts kind_of in refl in
    ap (events 0) (append_assoc (words f) (binary o ∷ words g) rest)
    ∙ reading_events f (binary o ∷ (words g ++ rest)) (operator o (words g ++ rest))
    ∙ rw (here, reading_events g rest h) (sym (append_assoc (events_of f) (events_of g) (events 1 rest)))
reading_events (quantified q x f) rest h =
    let here : events 0 (quantifier q ∷ (name x ∷ (dot ∷ (words f ++ rest)))) ≡ binds x ∷ events 0 (words f ++ rest) =
    unfold events event_of named mode_after nexts kind_of in refl in
    here ∙ ap (λ (es : List Event). binds x ∷ es) (reading_events f rest h)
reading_events (grouped f) rest h =
    let here : events 0 (opening ∷ (words f ++ (closing ∷ rest))) ≡ opens ∷ events 0 (words f ++ (closing ∷ rest)) =
    unfold events event_of mode_after nexts kind_of in refl in
    let last : events 1 (closing ∷ rest) ≡ closes ∷ events 1 rest = unfold events event_of mode_after nexts kind_of in refl in
    ap (λ (ws : List Word). events 0 (opening ∷ ws)) (append_assoc (words f) (closing ∷ []) rest)
    ∙ here
    ∙ ap (λ (es : List Event). opens ∷ es) (reading_events f (closing ∷ rest) (closed rest) ∙ rw last (sym (append_assoc (events_of f) (closes ∷ []) (events 1 rest))))

pub all_events : (f : Reading) → events 0 (words f) ≡ events_of f
all_events f = ap (events 0) (sym (append-nil (words f))) ∙ reading_events f [] none ∙ unfold events in append-nil (events_of f)

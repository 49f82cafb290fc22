-- What the events of a reading tell is what the refusals ask of the reading. Assumes nothing.
use Prim.Native.Nat.{ℕ}
use mathlib.Core.Path.{◌≡◌, refl, sym, ap, ◌∙◌}
use mathlib.Core.Bool.{Bool, true, false, ◌&&◌, ◌||◌, or_assoc}
use mathlib.Core.List.{List, [], ◌∷◌, ◌++◌, append_assoc, append-nil}
use lib.Dec.{eqb, ltb}
use lib.ListN.{length}
use Rattle.text.specs.Words.{Word, name, number, constant, prefix, binary, quantifier, opening, closing, comma, dot, bytes_of}
use Rattle.text.specs.Grammar.{Term, variable, digits, Reading, truth, atom, under, joined, quantified, grouped}
use Rattle.text.specs.Unfold.{Atom, atoms, value_after}
use Rattle.text.specs.Translate.{any_atom, too_large, too_many}
use Rattle.spelling.specs.Codes.{code_of, kind_of}
use Rattle.spelling.proofs.KindLaws.{name_kind, number_kind}
use Rattle.census.specs.Folds.{arguments_in, Event, call, uses, binds, opens, closes, named, event_of, term_events, events_of, large, large_in, many_in}
use Rattle.census.specs.Told.{large_code}

any_append : (t : Atom → Bool) (xs ys : List Atom) → any_atom t (xs ++ ys) ≡ (any_atom t xs || any_atom t ys)
unfolding any_atom
any_append t [] ys = refl
any_append t (a ∷ xs) ys = rw (any_append t xs ys) (sym (or_assoc (t a) (any_atom t xs) (any_atom t ys)))

or_false : (a : Bool) → (a || false) ≡ a
or_false true = refl
or_false false = refl

-- refusal 4
terms_large : (gs : List Term) (es : List Event) → large_in (term_events gs ++ es) ≡ (too_large gs || large_in es)
unfolding term_events large_in large too_large
terms_large [] es = refl
terms_large (variable x ∷ gs) es = terms_large gs es
terms_large (digits ds ∷ gs) es = rw (terms_large gs es) (sym (or_assoc (ltb 4294967295 (value_after 0 ds)) (too_large gs) (large_in es)))

large_more : (f : Reading) (es : List Event) → large_in (events_of f ++ es) ≡ (any_atom (λ a. too_large a.terms) (atoms f) || large_in es)
unfolding events_of atoms large_in
large_more (truth b) es = unfold any_atom in refl
large_more (atom p gs) es = unfold any_atom in (terms_large gs es ∙ rw (or_false (too_large gs)))
large_more (under o f) es = large_more f es
large_more (joined o f g) es =
    ap large_in (append_assoc (events_of f) (events_of g) es)
    ∙ large_more f (events_of g ++ es)
    ∙ rw (large_more g es, any_append (λ a. too_large a.terms) (atoms f) (atoms g))
    (sym (or_assoc (any_atom (λ a. too_large a.terms) (atoms f)) (any_atom (λ a. too_large a.terms) (atoms g)) (large_in es)))
large_more (quantified q x f) es = large_more f es
large_more (grouped f) es = (ap large_in (append_assoc (events_of f) (closes ∷ []) es) ∙ large_more f (closes ∷ es))

pub large_of : (f : Reading) → any_atom (λ a. too_large a.terms) (atoms f) ≡ large_in (events_of f)
large_of f = sym (ap large_in (sym (append-nil (events_of f))) ∙ large_more f [] ∙ unfold large_in in or_false (any_atom (λ a. too_large a.terms) (atoms f)))

-- refusal 5
terms_many : (gs : List Term) (es : List Event) → many_in (term_events gs ++ es) ≡ many_in es
unfolding term_events many_in
terms_many [] es = refl
terms_many (variable x ∷ gs) es = terms_many gs es
terms_many (digits ds ∷ gs) es = terms_many gs es

many_more : (f : Reading) (es : List Event) → many_in (events_of f ++ es) ≡ (any_atom (λ a. too_many a.terms) (atoms f) || many_in es)
unfolding events_of atoms many_in
many_more (truth b) es = unfold any_atom in refl
many_more (atom p gs) es = unfold any_atom too_many in rw (terms_many gs es, or_false (ltb 3 (length gs)))
many_more (under o f) es = many_more f es
many_more (joined o f g) es =
    ap many_in (append_assoc (events_of f) (events_of g) es)
    ∙ many_more f (events_of g ++ es)
    ∙ rw (many_more g es, any_append (λ a. too_many a.terms) (atoms f) (atoms g))
    (sym (or_assoc (any_atom (λ a. too_many a.terms) (atoms f)) (any_atom (λ a. too_many a.terms) (atoms g)) (many_in es)))
many_more (quantified q x f) es = many_more f es
many_more (grouped f) es = (ap many_in (append_assoc (events_of f) (closes ∷ []) es) ∙ many_more f (closes ∷ es))

pub many_of : (f : Reading) → any_atom (λ a. too_many a.terms) (atoms f) ≡ many_in (events_of f)
many_of f = sym (ap many_in (sym (append-nil (events_of f))) ∙ many_more f [] ∙ unfold many_in in or_false (any_atom (λ a. too_many a.terms) (atoms f)))

-- one word more
named_large : (m : ℕ) (x : List ℕ) (n : ℕ) (es : List Event) → large_in (named m x n ++ es) ≡ large_in es
unfolding named large_in
named_large m x n es = go (eqb m 0) (eqb m 3) (eqb m 5)
  where
    go : (a b c : Bool) → large_in (elim a [ true ↦ call x n ∷ [] | false ↦ elim b [ true ↦ binds x ∷ [] | false ↦ elim c [ true ↦ uses x ∷ [] | false ↦ [] ] ] ] ++ es) ≡ large_in es
    go true b c = refl
    go false true c = refl
    go false false true = refl
    go false false false = refl

kinds : (m : ℕ) (w : Word) (ws : List Word) (es : List Event) → large_in (event_of m w ws ++ es) ≡ ((eqb (kind_of w) 1 && large (bytes_of w)) || large_in es)
unfolding event_of kind_of bytes_of large_in
kinds m (name x) ws es = named_large m x (arguments_in ws) es
kinds m (number ds) ws es = refl
kinds m (constant b) ws es = refl
kinds m (prefix o) ws es = refl
kinds m (binary o) ws es = refl
kinds m (quantifier q) ws es = refl
kinds m opening ws es = opened (eqb m 0)
  where
    opened : (a : Bool) → large_in (elim a [ true ↦ opens ∷ [] | false ↦ [] ] ++ es) ≡ large_in es
    opened true = refl
    opened false = refl
kinds m closing ws es = closed (eqb m 6)
  where
    closed : (a : Bool) → large_in (elim a [ true ↦ [] | false ↦ closes ∷ [] ] ++ es) ≡ large_in es
    closed true = refl
    closed false = refl
kinds m comma ws es = refl
kinds m dot ws es = refl

pub large_step : (m : ℕ) (w : Word) (ws : List Word) (es : List Event) → large_in (event_of m w ws ++ es) ≡ (large_code (code_of w) (bytes_of w) || large_in es)
unfolding large_code
large_step m w ws es = kinds m w ws es ∙ ap (λ (b : Bool). (b && large (bytes_of w)) || large_in es) (sym (number_kind w))

named_many : (m : ℕ) (x : List ℕ) (n : ℕ) (es : List Event) → many_in (named m x n ++ es) ≡ (((eqb m 0 && true) && ltb 3 n) || many_in es)
unfolding named many_in
named_many m x n es = go (eqb m 0) (eqb m 3) (eqb m 5)
  where
    go : (a b c : Bool) → many_in (elim a [ true ↦ call x n ∷ [] | false ↦ elim b [ true ↦ binds x ∷ [] | false ↦ elim c [ true ↦ uses x ∷ [] | false ↦ [] ] ] ] ++ es)
        ≡ (((a && true) && ltb 3 n) || many_in es)
    go true b c = refl
    go false true c = refl
    go false false true = refl
    go false false false = refl

unnamed : (a t : Bool) → ((a && false) && t) ≡ false
unnamed true t = refl
unnamed false t = refl

many_kinds : (m : ℕ) (w : Word) (ws : List Word) (es : List Event)
    → many_in (event_of m w ws ++ es) ≡ (((eqb m 0 && eqb (kind_of w) 0) && ltb 3 (arguments_in ws)) || many_in es)
unfolding event_of kind_of many_in
many_kinds m (name x) ws es = named_many m x (arguments_in ws) es
many_kinds m (number ds) ws es = rw (unnamed (eqb m 0) (ltb 3 (arguments_in ws)))
many_kinds m (constant b) ws es = rw (unnamed (eqb m 0) (ltb 3 (arguments_in ws)))
many_kinds m (prefix o) ws es = rw (unnamed (eqb m 0) (ltb 3 (arguments_in ws)))
many_kinds m (binary o) ws es = rw (unnamed (eqb m 0) (ltb 3 (arguments_in ws)))
many_kinds m (quantifier q) ws es = rw (unnamed (eqb m 0) (ltb 3 (arguments_in ws)))
many_kinds m opening ws es = rw (unnamed (eqb m 0) (ltb 3 (arguments_in ws))) (opened (eqb m 0))
  where
    opened : (a : Bool) → many_in (elim a [ true ↦ opens ∷ [] | false ↦ [] ] ++ es) ≡ many_in es
    opened true = refl
    opened false = refl
many_kinds m closing ws es = rw (unnamed (eqb m 0) (ltb 3 (arguments_in ws))) (closed (eqb m 6))
  where
    closed : (a : Bool) → many_in (elim a [ true ↦ [] | false ↦ closes ∷ [] ] ++ es) ≡ many_in es
    closed true = refl
    closed false = refl
many_kinds m comma ws es = rw (unnamed (eqb m 0) (ltb 3 (arguments_in ws)))
many_kinds m dot ws es = rw (unnamed (eqb m 0) (ltb 3 (arguments_in ws)))

pub many_step : (m : ℕ) (w : Word) (ws : List Word) (es : List Event)
    → many_in (event_of m w ws ++ es) ≡ (((eqb m 0 && eqb (code_of w) 0) && ltb 3 (arguments_in ws)) || many_in es)
many_step m w ws es = many_kinds m w ws es ∙ ap (λ (b : Bool). ((eqb m 0 && b) && ltb 3 (arguments_in ws)) || many_in es) (sym (name_kind w))

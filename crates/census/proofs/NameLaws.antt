-- The names of predicates and of variables, by events. Assumes nothing.
use Prim.Native.Nat.{ℕ}
use mathlib.Core.Path.{◌≡◌, refl, sym, ap, ◌∙◌}
use mathlib.Core.Bool.{Bool, true, false, ◌&&◌, ◌||◌}
use mathlib.Core.List.{List, [], ◌∷◌, ◌++◌, append_assoc, append-nil, map}
use lib.Dec.{eqb}
use borrow.Author.Tests.{eqb-true}
use Rattle.text.specs.Words.{Word, name, number, constant, prefix, binary, quantifier, opening, closing, comma, dot, bytes_of}
use Rattle.text.specs.Grammar.{Term, variable, digits, Reading, truth, atom, under, joined, quantified, grouped}
use Rattle.text.specs.Unfold.{Atom, atoms, term_variables, variables}
use Rattle.spelling.specs.Codes.{code_of, kind_of}
use Rattle.spelling.proofs.KindLaws.{name_kind}
use Rattle.census.specs.Folds.{arguments_in, Event, call, uses, value, binds, opens, closes, named, event_of, term_events, events_of, named_by, names_in}
use Rattle.census.specs.Tables.{asked_for, name_code}

names_append : (b : Bool) (es fs : List Event) → names_in b (es ++ fs) ≡ names_in b es ++ names_in b fs
unfolding names_in
names_append b [] fs = refl
names_append b (e ∷ es) fs = rw (names_append b es fs) (sym (append_assoc (named_by b e) (names_in b es) (names_in b fs)))

names_closed : (b : Bool) (es : List Event) → names_in b (es ++ (closes ∷ [])) ≡ names_in b es
names_closed b es = names_append b es (closes ∷ []) ∙ last b (names_in b es)
  where
    last : (b : Bool) (l : List (List ℕ)) → l ++ names_in b (closes ∷ []) ≡ l
    last true l = unfold names_in named_by in append-nil l
    last false l = unfold names_in named_by in append-nil l

terms_variables : (gs : List Term) → names_in false (term_events gs) ≡ term_variables gs
unfolding term_events names_in named_by term_variables
terms_variables [] = refl
terms_variables (variable x ∷ gs) = ap (λ (l : List (List ℕ)). x ∷ l) (terms_variables gs)
terms_variables (digits ds ∷ gs) = terms_variables gs

terms_none : (gs : List Term) → names_in true (term_events gs) ≡ []
unfolding term_events names_in named_by
terms_none [] = refl
terms_none (variable x ∷ gs) = terms_none gs
terms_none (digits ds ∷ gs) = terms_none gs

pub variables_of : (f : Reading) → names_in false (events_of f) ≡ variables f
unfolding events_of variables names_in named_by
variables_of (truth b) = refl
variables_of (atom p gs) = terms_variables gs
variables_of (under o f) = variables_of f
variables_of (joined o f g) = names_append false (events_of f) (events_of g) ∙ rw (variables_of f, variables_of g)
variables_of (quantified q x f) = ap (λ (l : List (List ℕ)). x ∷ l) (variables_of f)
variables_of (grouped f) = names_closed false (events_of f) ∙ variables_of f

map_append : (xs ys : List Atom) → map (λ (a : Atom). a.called) (xs ++ ys) ≡ map (λ (a : Atom). a.called) xs ++ map (λ (a : Atom). a.called) ys
map_append [] ys = refl
map_append (a ∷ xs) ys = ap (λ (l : List (List ℕ)). a.called ∷ l) (map_append xs ys)

pub predicates_of : (f : Reading) → names_in true (events_of f) ≡ map (λ (a : Atom). a.called) (atoms f)
unfolding events_of atoms names_in named_by
predicates_of (truth b) = refl
predicates_of (atom p gs) = ap (λ (l : List (List ℕ)). p ∷ l) (terms_none gs)
predicates_of (under o f) = predicates_of f
predicates_of (joined o f g) = names_append true (events_of f) (events_of g) ∙ rw (predicates_of f, predicates_of g) (sym (map_append (atoms f) (atoms g)))
predicates_of (quantified q x f) = predicates_of f
predicates_of (grouped f) = names_closed true (events_of f) ∙ predicates_of f

-- one word more
named_true : (m : ℕ) (x : List ℕ) (n : ℕ) → names_in true (named m x n) ≡ asked_for (eqb m 0) x
unfolding named names_in named_by asked_for
named_true m x n = go (eqb m 0) (eqb m 3) (eqb m 5)
  where
    go : (a b c : Bool) → names_in true (elim a [ true ↦ call x n ∷ [] | false ↦ elim b [ true ↦ binds x ∷ [] | false ↦ elim c [ true ↦ uses x ∷ [] | false ↦ [] ] ] ]) ≡ asked_for a x
    go true b c = refl
    go false true c = refl
    go false false true = refl
    go false false false = refl

-- the modes of predicates and variables are apart
modes_apart : (m : ℕ) → eqb m 0 ≡ true → (eqb m 3 || eqb m 5) ≡ false
modes_apart m e =
    let z : m ≡ 0 = eqb-true m 0 e in
    rw z

named_false : (m : ℕ) (x : List ℕ) (n : ℕ) → names_in false (named m x n) ≡ asked_for (eqb m 3 || eqb m 5) x
unfolding named names_in named_by asked_for
named_false m x n = go (eqb m 0) (eqb m 3) (eqb m 5) (modes_apart m)
  where
    go : (a b c : Bool) → (a ≡ true → (b || c) ≡ false)
        → names_in false (elim a [ true ↦ call x n ∷ [] | false ↦ elim b [ true ↦ binds x ∷ [] | false ↦ elim c [ true ↦ uses x ∷ [] | false ↦ [] ] ] ]) ≡ asked_for (b || c) x
    go true b c h = rw (h refl)
    go false true c h = refl
    go false false true h = refl
    go false false false h = refl

empty : (p : Bool) → names_in p [] ≡ []
unfolding names_in
empty p = refl

valued : (ds : List ℕ) (p : Bool) → names_in p (value ds ∷ []) ≡ []
unfolding names_in named_by
valued ds true = refl
valued ds false = refl

opened : (p a : Bool) → names_in p (elim a [ true ↦ opens ∷ [] | false ↦ [] ]) ≡ []
unfolding names_in named_by
opened true true = refl
opened true false = refl
opened false true = refl
opened false false = refl

closed : (p a : Bool) → names_in p (elim a [ true ↦ [] | false ↦ closes ∷ [] ]) ≡ []
unfolding names_in named_by
closed true true = refl
closed true false = refl
closed false true = refl
closed false false = refl

unfoldable name_kind_law : Bool → ℕ → Word → Bool
name_kind_law true m w = eqb (kind_of w) 0 && eqb m 0
name_kind_law false m w = eqb (kind_of w) 0 && (eqb m 3 || eqb m 5)

kind_code : (p : Bool) (m : ℕ) (w : Word) → name_code p m (code_of w) ≡ name_kind_law p m w
unfolding name_code name_kind_law
kind_code true m w = ap (λ (b : Bool). b && eqb m 0) (name_kind w)
kind_code false m w = ap (λ (b : Bool). b && (eqb m 3 || eqb m 5)) (name_kind w)

by_kind : (p : Bool) (m : ℕ) (w : Word) (ws : List Word) → names_in p (event_of m w ws) ≡ asked_for (name_kind_law p m w) (bytes_of w)
unfolding event_of kind_of bytes_of name_kind_law
by_kind true m (name x) ws = named_true m x (arguments_in ws)
by_kind false m (name x) ws = named_false m x (arguments_in ws)
by_kind true m (number ds) ws = valued ds true ∙ unfold asked_for in refl
by_kind false m (number ds) ws = valued ds false ∙ unfold asked_for in refl
by_kind true m (constant b) ws = empty true ∙ unfold asked_for in refl
by_kind false m (constant b) ws = empty false ∙ unfold asked_for in refl
by_kind true m (prefix o) ws = empty true ∙ unfold asked_for in refl
by_kind false m (prefix o) ws = empty false ∙ unfold asked_for in refl
by_kind true m (binary o) ws = empty true ∙ unfold asked_for in refl
by_kind false m (binary o) ws = empty false ∙ unfold asked_for in refl
by_kind true m (quantifier q) ws = empty true ∙ unfold asked_for in refl
by_kind false m (quantifier q) ws = empty false ∙ unfold asked_for in refl
by_kind true m opening ws = opened true (eqb m 0) ∙ unfold asked_for in refl
by_kind false m opening ws = opened false (eqb m 0) ∙ unfold asked_for in refl
by_kind true m closing ws = closed true (eqb m 6) ∙ unfold asked_for in refl
by_kind false m closing ws = closed false (eqb m 6) ∙ unfold asked_for in refl
by_kind true m comma ws = empty true ∙ unfold asked_for in refl
by_kind false m comma ws = empty false ∙ unfold asked_for in refl
by_kind true m dot ws = empty true ∙ unfold asked_for in refl
by_kind false m dot ws = empty false ∙ unfold asked_for in refl

pub name_step : (p : Bool) (m : ℕ) (w : Word) (ws : List Word) (es : List Event)
    → names_in p (event_of m w ws ++ es) ≡ asked_for (name_code p m (code_of w)) (bytes_of w) ++ names_in p es
name_step p m w ws es = names_append p (event_of m w ws) es ∙ rw (by_kind p m w ws, kind_code p m w)

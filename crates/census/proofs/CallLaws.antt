-- Names with counts, one after the other. Assumes nothing.
use Prim.Native.Nat.{ℕ, suc, ◌≤◌, ◌<◌}
use native.Mathlib.Omega.{arith}
use mathlib.Core.Path.{◌≡◌, refl, sym, ap, ◌∙◌}
use mathlib.Core.Bool.{Bool, true, false, not, ◌&&◌, ◌||◌, or_assoc}
use mathlib.Core.List.{List, [], ◌∷◌, ◌++◌, append-nil, map}
use lib.Dec.{eqb}
use lib.ListN.{length, get_or, get_or-append, length-append}
use lib.Seq.{get_or-append_seam}
use Rattle.trees.proofs.Tests.{false_true, or_r, or_cases, lt_or_ge}
use mathlib.Core.Logic.{⊎_elim}
use Rattle.std.specs.Prelude.{Some, None}
use Rattle.text.specs.Words.{Word, name, number, constant, prefix, binary, quantifier, opening, closing, comma, dot, same, bytes_of}
use Rattle.text.specs.Grammar.{Term, variable, digits, Reading, truth, atom, under, joined, quantified, grouped}
use Rattle.text.specs.Unfold.{Atom, atoms, listed, number_in, uses_after, first_uses}
use Rattle.text.specs.Translate.{any_atom, count_of, clashes}
use Rattle.text.proofs.NameLaws.{same_refl}
use Rattle.spelling.specs.Codes.{code_of, kind_of}
use Rattle.spelling.proofs.KindLaws.{name_kind}
use Rattle.census.specs.Folds.{arguments_in, Event, call, uses, value, binds, opens, closes, named, event_of, term_events, events_of}
use Rattle.census.specs.Tables.{name_code}
use Rattle.census.specs.Scopes.{Distinct}
use Rattle.census.specs.Clashes.{Call, calls_in, seen, count_in, any_clash, marking, mark_of}

-- the calls of a reading
calls_append : (es fs : List Event) → calls_in (es ++ fs) ≡ calls_in es ++ calls_in fs
unfolding calls_in
calls_append [] fs = refl
calls_append (call p n ∷ es) fs = ap (λ (cs : List Call). record { called = p; count = n } ∷ cs) (calls_append es fs)
calls_append (uses x ∷ es) fs = calls_append es fs
calls_append (value ds ∷ es) fs = calls_append es fs
calls_append (binds x ∷ es) fs = calls_append es fs
calls_append (opens ∷ es) fs = calls_append es fs
calls_append (closes ∷ es) fs = calls_append es fs

terms_calls : (gs : List Term) → calls_in (term_events gs) ≡ []
unfolding term_events calls_in
terms_calls [] = refl
terms_calls (variable x ∷ gs) = terms_calls gs
terms_calls (digits ds ∷ gs) = terms_calls gs

unfoldable pub call_of : Atom → Call
call_of a = record { called = a.called; count = length a.terms }

map_append : (xs ys : List Atom) → map call_of (xs ++ ys) ≡ map call_of xs ++ map call_of ys
map_append [] ys = refl
map_append (a ∷ xs) ys = ap (λ (cs : List Call). call_of a ∷ cs) (map_append xs ys)

calls_closed : (es : List Event) → calls_in (es ++ (closes ∷ [])) ≡ calls_in es
calls_closed es = calls_append es (closes ∷ []) ∙ unfold calls_in in append-nil (calls_in es)

pub calls_of : (f : Reading) → calls_in (events_of f) ≡ map call_of (atoms f)
unfolding events_of atoms calls_in call_of
calls_of (truth b) = refl
calls_of (atom p gs) = ap (λ (cs : List Call). record { called = p; count = length gs } ∷ cs) (terms_calls gs)
calls_of (under o f) = calls_of f
calls_of (joined o f g) = calls_append (events_of f) (events_of g) ∙ rw (calls_of f, calls_of g) (sym (map_append (atoms f) (atoms g)))
calls_of (quantified q x f) = calls_of f
calls_of (grouped f) = calls_closed (events_of f) ∙ calls_of f

-- refusal 7 by calls
counts_same : (xs : List Atom) (p : List ℕ) → count_in (map call_of xs) p ≡ count_of xs p
unfolding count_in count_of call_of
counts_same [] p = refl
counts_same (a ∷ xs) p = go (same a.called p) (counts_same xs p)
  where
    go : (q : Bool) → count_in (map call_of xs) p ≡ count_of xs p
        → ◌≡◌ {A = ℕ} (elim q [ true ↦ length a.terms | false ↦ count_in (map call_of xs) p ]) (elim q [ true ↦ length a.terms | false ↦ count_of xs p ])
    go true ih = refl
    go false ih = ih

clash_among : (all : List Atom) (xs : List Atom) → any_clash (map call_of all) (map call_of xs) ≡ any_atom (λ a. not (eqb (length a.terms) (count_of all a.called))) xs
unfolding any_clash any_atom call_of
clash_among all [] = refl
clash_among all (a ∷ xs) = rw (counts_same all a.called, clash_among all xs)

pub clash_of : (f : Reading) → clashes (atoms f) ≡ any_clash (calls_in (events_of f)) (calls_in (events_of f))
unfolding clashes
clash_of f = sym (rw (calls_of f) (clash_among (atoms f) (atoms f)))

-- one word more
unfoldable pub calls_by : Bool → List ℕ → ℕ → List Call
calls_by true x m = record { called = x; count = m } ∷ []
calls_by false x m = []

named_calls : (m : ℕ) (x : List ℕ) (n : ℕ) → calls_in (named m x n) ≡ calls_by (eqb m 0) x n
unfolding named calls_in calls_by
named_calls m x n = go (eqb m 0) (eqb m 3) (eqb m 5)
  where
    go : (a b c : Bool) → calls_in (elim a [ true ↦ call x n ∷ [] | false ↦ elim b [ true ↦ binds x ∷ [] | false ↦ elim c [ true ↦ uses x ∷ [] | false ↦ [] ] ] ]) ≡ calls_by a x n
    go true b c = refl
    go false true c = refl
    go false false true = refl
    go false false false = refl

opened : (a : Bool) → calls_in (elim a [ true ↦ opens ∷ [] | false ↦ [] ]) ≡ []
unfolding calls_in
opened true = refl
opened false = refl

closed : (a : Bool) → calls_in (elim a [ true ↦ [] | false ↦ closes ∷ [] ]) ≡ []
unfolding calls_in
closed true = refl
closed false = refl

by_kind : (m : ℕ) (w : Word) (ws : List Word) → calls_in (event_of m w ws) ≡ calls_by (eqb (kind_of w) 0 && eqb m 0) (bytes_of w) (arguments_in ws)
unfolding event_of kind_of bytes_of calls_by calls_in
by_kind m (name x) ws = named_calls m x (arguments_in ws)
by_kind m (number ds) ws = refl
by_kind m (constant b) ws = refl
by_kind m (prefix o) ws = refl
by_kind m (binary o) ws = refl
by_kind m (quantifier q) ws = refl
by_kind m opening ws = opened (eqb m 0)
by_kind m closing ws = closed (eqb m 6)
by_kind m comma ws = refl
by_kind m dot ws = refl

pub call_step : (m : ℕ) (w : Word) (ws : List Word) (es : List Event)
    → calls_in (event_of m w ws ++ es) ≡ calls_by (name_code true m (code_of w)) (bytes_of w) (arguments_in ws) ++ calls_in es
unfolding name_code
call_step m w ws es = calls_append (event_of m w ws) es ∙ rw (by_kind m w ws, name_kind w)

-- calls one after the other
pub count_seen : (cs ds : List Call) (p : List ℕ) → seen cs p ≡ true → count_in (cs ++ ds) p ≡ count_in cs p
unfolding seen count_in
count_seen [] ds p e = absurd (false_true refl e)
count_seen (c ∷ cs) ds p e = go (same c.called p) e (count_seen cs ds p)
  where
    go : (q : Bool) → (q || seen cs p) ≡ true → (seen cs p ≡ true → count_in (cs ++ ds) p ≡ count_in cs p)
        → ◌≡◌ {A = ℕ} (elim q [ true ↦ c.count | false ↦ count_in (cs ++ ds) p ]) (elim q [ true ↦ c.count | false ↦ count_in cs p ])
    go true e ih = refl
    go false e ih = ih e

pub count_unseen : (cs ds : List Call) (p : List ℕ) (m : ℕ) → seen cs p ≡ false → count_in (cs ++ (record { called = p; count = m } ∷ ds)) p ≡ m
unfolding seen count_in
count_unseen [] ds p m e = rw (same_refl p, count_in)
count_unseen (c ∷ cs) ds p m e = go (same c.called p) e (count_unseen cs ds p m)
  where
    go : (q : Bool) → (q || seen cs p) ≡ false → (seen cs p ≡ false → count_in (cs ++ (record { called = p; count = m } ∷ ds)) p ≡ m)
        → ◌≡◌ {A = ℕ} (elim q [ true ↦ c.count | false ↦ count_in (cs ++ (record { called = p; count = m } ∷ ds)) p ]) m
    go true e ih = absurd (false_true e refl)
    go false e ih = ih e

count_other : (cs : List Call) (x : List ℕ) (m : ℕ) (p : List ℕ) → same x p ≡ false → count_in (cs ++ (record { called = x; count = m } ∷ [])) p ≡ count_in cs p
unfolding count_in
count_other [] x m p e = rw (e, count_in)
count_other (c ∷ cs) x m p e = go (same c.called p) (count_other cs x m p e)
  where
    go : (q : Bool) → count_in (cs ++ (record { called = x; count = m } ∷ [])) p ≡ count_in cs p
        → ◌≡◌ {A = ℕ} (elim q [ true ↦ c.count | false ↦ count_in (cs ++ (record { called = x; count = m } ∷ [])) p ]) (elim q [ true ↦ c.count | false ↦ count_in cs p ])
    go true ih = refl
    go false ih = ih

seen_snoc : (cs : List Call) (x : List ℕ) (m : ℕ) (p : List ℕ) → seen (cs ++ (record { called = x; count = m } ∷ [])) p ≡ (seen cs p || same x p)
unfolding seen
seen_snoc [] x m p = go (same x p)
  where
    go : (q : Bool) → (q || false) ≡ q
    go true = refl
    go false = refl
seen_snoc (c ∷ cs) x m p = rw (seen_snoc cs x m p) (sym (or_assoc (same c.called p) (seen cs p) (same x p)))

pub seen_more : (cs : List Call) (x : List ℕ) (m : ℕ) (p : List ℕ) → seen (cs ++ (record { called = x; count = m } ∷ [])) p ≡ true → seen cs p ≡ false → same x p ≡ true
seen_more cs x m p e n = ⊎_elim (λ s. absurd (false_true n s)) (λ s. s) (or_cases (seen cs p) (same x p) (sym (seen_snoc cs x m p) ∙ e))

or_false : (q : Bool) → (q || false) ≡ q
or_false true = refl
or_false false = refl

pub mark_other : (cs : List Call) (x : List ℕ) (m : ℕ) (p : List ℕ) → same x p ≡ false → mark_of (cs ++ (record { called = x; count = m } ∷ [])) p ≡ mark_of cs p
unfolding mark_of
mark_other cs x m p e =
    let z : seen (cs ++ (record { called = x; count = m } ∷ [])) p ≡ seen cs p = seen_snoc cs x m p ∙ rw e (or_false (seen cs p)) in
    rw (z, count_other cs x m p e)

pub mark_seen : (cs : List Call) (p : List ℕ) → seen cs p ≡ true → mark_of cs p ≡ Some (count_in cs p)
unfolding mark_of marking
mark_seen cs p e = rw (e, marking)

pub mark_unseen : (cs : List Call) (p : List ℕ) → seen cs p ≡ false → mark_of cs p ≡ None
unfolding mark_of marking
mark_unseen cs p e = rw (e, marking)

seen_there : (cs : List Call) (x : List ℕ) (m : ℕ) → seen (cs ++ (record { called = x; count = m } ∷ [])) x ≡ true
seen_there cs x m = seen_snoc cs x m x ∙ or_r (seen cs x) (same x x) (same_refl x)

pub mark_new : (cs : List Call) (x : List ℕ) (m : ℕ) → seen cs x ≡ false → mark_of (cs ++ (record { called = x; count = m } ∷ [])) x ≡ Some m
mark_new cs x m e = mark_seen (cs ++ (record { called = x; count = m } ∷ [])) x (seen_there cs x m) ∙ ap Some (count_unseen cs [] x m e)

pub mark_old : (cs : List Call) (x : List ℕ) (m : ℕ) → seen cs x ≡ true → mark_of (cs ++ (record { called = x; count = m } ∷ [])) x ≡ mark_of cs x
mark_old cs x m e =
    mark_seen (cs ++ (record { called = x; count = m } ∷ [])) x (seen_there cs x m)
    ∙ ap Some (count_seen cs (record { called = x; count = m } ∷ []) x e) ∙ sym (mark_seen cs x e)

pub any_append : (all cs ds : List Call) → any_clash all (cs ++ ds) ≡ (any_clash all cs || any_clash all ds)
unfolding any_clash
any_append all [] ds = refl
any_append all (c ∷ cs) ds = rw (any_append all cs ds) (sym (or_assoc (not (eqb c.count (count_in all c.called))) (any_clash all cs) (any_clash all ds)))

-- the names in order of first use are different
number_longer : (ns : List (List ℕ)) (x y : List ℕ) → number_in ns y < length ns → number_in (ns ++ (x ∷ [])) y ≡ number_in ns y
unfolding number_in
number_longer [] x y h = absurd (omega arith)
number_longer (z ∷ ns) x y h = go (same z y) h (number_longer ns x y)
  where
    go : (q : Bool) → elim q [ true ↦ 0 | false ↦ suc (number_in ns y) ] < suc (length ns) → (number_in ns y < length ns → number_in (ns ++ (x ∷ [])) y ≡ number_in ns y)
        → ◌≡◌ {A = ℕ} (elim q [ true ↦ 0 | false ↦ suc (number_in (ns ++ (x ∷ [])) y) ]) (elim q [ true ↦ 0 | false ↦ suc (number_in ns y) ])
    go true h ih = refl
    go false h ih = ap suc (ih (omega arith))

pub number_last : (ns : List (List ℕ)) (x : List ℕ) → listed ns x ≡ false → number_in (ns ++ (x ∷ [])) x ≡ length ns
unfolding number_in listed
number_last [] x h = rw (same_refl x, number_in)
number_last (z ∷ ns) x h = go (same z x) h (number_last ns x)
  where
    go : (q : Bool) → (q || listed ns x) ≡ false → (listed ns x ≡ false → number_in (ns ++ (x ∷ [])) x ≡ length ns)
        → ◌≡◌ {A = ℕ} (elim q [ true ↦ 0 | false ↦ suc (number_in (ns ++ (x ∷ [])) x) ]) (suc (length ns))
    go true h ih = absurd (false_true h refl)
    go false h ih = ap suc (ih h)

distinct_snoc : (ns : List (List ℕ)) (x : List ℕ) → Distinct ns → listed ns x ≡ false → Distinct (ns ++ (x ∷ []))
distinct_snoc ns x d h j l = ⊎_elim
    (λ (q : j < length ns).
    let z : get_or (ns ++ (x ∷ [])) j [] ≡ get_or ns j [] = get_or-append ns (x ∷ []) [] j q in
    rw z (number_longer ns x (get_or ns j []) (rw (d j q) q) ∙ d j q))
    (λ (q : length ns ≤ j).
    let e : j ≡ length ns = omega (arith, length-append ns (x ∷ [])) in
    rw (e, get_or-append_seam ns x [] []) (number_last ns x h))
    (lt_or_ge j (length ns))

distinct_uses : (done xs : List (List ℕ)) → Distinct done → Distinct (uses_after done xs)
unfolding uses_after
distinct_uses done [] d = d
distinct_uses done (x ∷ xs) d = distinct_uses (elim (listed done x) [ true ↦ done | false ↦ done ++ (x ∷ []) ]) xs (go (listed done x) refl)
  where
    go : (q : Bool) → listed done x ≡ q → Distinct (elim q [ true ↦ done | false ↦ done ++ (x ∷ []) ])
    go true e = d
    go false e = distinct_snoc done x d e

pub distinct_first : (xs : List (List ℕ)) → Distinct (first_uses xs)
unfolding first_uses
distinct_first xs = distinct_uses [] xs (λ j h. absurd (omega arith))

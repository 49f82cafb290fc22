-- Free variables by events are those by readings. Assumes nothing.
use Prim.Native.Nat.{ℕ, suc, ◌-◌, ◌≤◌, ◌<◌}
use native.Mathlib.Omega.{arith}
use mathlib.Core.Path.{◌≡◌, refl, sym, ap, ◌∙◌}
use mathlib.Core.Bool.{Bool, true, false, not, ◌||◌, or_assoc}
use mathlib.Core.List.{List, [], ◌∷◌, ◌++◌, append_assoc, append-nil}
use mathlib.Core.Logic.{◌⊎◌, inl, inr, ⊎_elim}
use lib.Dec.{eqb}
use borrow.Author.Tests.{ne_eqb, eqb-true, lt-ltb, le-ltb}
use Rattle.trees.proofs.Tests.{bool, false_true}
use Rattle.text.specs.Words.{same}
use Rattle.text.specs.Grammar.{Term, variable, digits, Reading, truth, atom, under, joined, quantified, grouped, open_ended, Fine}
use Rattle.text.specs.Unfold.{listed}
use Rattle.text.specs.Scope.{loose_terms, loose}
use Rattle.census.specs.Folds.{Event, call, uses, value, binds, opens, closes, term_events, events_of}
use Rattle.census.specs.Scopes.{lowered, binding_at, bind_in, close_in, loose_in}

-- only the depths count
pub loose_same : (es : List Event) (d : ℕ) (env env' : List ℕ → ℕ) → ((y : List ℕ) → env y ≡ env' y) → loose_in d env es ≡ loose_in d env' es
unfolding loose_in
loose_same [] d env env' h = refl
loose_same (call p n ∷ es) d env env' h = loose_same es d env env' h
loose_same (uses x ∷ es) d env env' h = rw (h x, loose_same es d env env' h)
loose_same (value ds ∷ es) d env env' h = loose_same es d env env' h
loose_same (binds x ∷ es) d env env' h = loose_same es d (bind_in d x env) (bind_in d x env') (λ y. ap (binding_at d (same x y)) (h y))
loose_same (opens ∷ es) d env env' h = loose_same es (suc d) env env' h
loose_same (closes ∷ es) d env env' h = loose_same es (d - 1) (close_in (d - 1) env) (close_in (d - 1) env') (λ y. ap (lowered (d - 1)) (h y))

-- the bindings that an operand leaves: those of the quantifiers that reach to its end
unfoldable pub trail : ℕ → Reading → (List ℕ → ℕ) → List ℕ → ℕ
trail d (truth b) env = env
trail d (atom p gs) env = env
trail d (under o f) env = trail d f env
trail d (joined o f g) env = trail d g env
trail d (quantified q x f) env = trail d f (bind_in d x env)
trail d (grouped f) env = env

trail_none : (d : ℕ) (f : Reading) (env : List ℕ → ℕ) → open_ended f ≡ false → trail d f env ≡ env
unfolding trail open_ended
trail_none d (truth b) env e = refl
trail_none d (atom p gs) env e = refl
trail_none d (under o f) env e = trail_none d f env e
trail_none d (joined o f g) env e = trail_none d g env e
trail_none d (quantified q x f) env e = absurd (false_true e refl)
trail_none d (grouped f) env e = refl

-- a name bound by it was not bound
binding_cases : (d : ℕ) (q : Bool) (s : ℕ) → (binding_at d q s ≡ s) ⊎ ((s ≡ 0) × (binding_at d q s ≡ d))
unfolding binding_at
binding_cases d false s = inl refl
binding_cases d true s = ⊎_elim
    (λ (e : eqb s 0 ≡ true). inr (eqb-true s 0 e, rw (e, binding_at)))
    (λ (e : eqb s 0 ≡ false). inl (rw (e, binding_at)))
    (bool (eqb s 0))

trail_cases : (d : ℕ) (f : Reading) (env : List ℕ → ℕ) (y : List ℕ) → (trail d f env y ≡ env y) ⊎ ((env y ≡ 0) × (trail d f env y ≡ d))
unfolding trail
trail_cases d (truth b) env y = inl refl
trail_cases d (atom p gs) env y = inl refl
trail_cases d (under o f) env y = trail_cases d f env y
trail_cases d (joined o f g) env y = trail_cases d g env y
trail_cases d (quantified q x f) env y = ⊎_elim
    (λ e. ⊎_elim (λ u. inl (e ∙ u)) (λ u. inr (u.0, e ∙ u.1)) (binding_cases d (same x y) (env y)))
    (λ e. ⊎_elim (λ u. inr (sym u ∙ e.0, e.1)) (λ u. inr (u.0, e.1)) (binding_cases d (same x y) (env y)))
    (trail_cases d f (bind_in d x env) y)
trail_cases d (grouped f) env y = inl refl

lower_over : (d s : ℕ) → d < s → lowered d s ≡ 0
unfolding lowered
lower_over d s h = rw (lt-ltb d s h, lowered)

lower_kept : (d s : ℕ) → s ≤ d → lowered d s ≡ s
unfolding lowered
lower_kept d s h = rw (le-ltb d s h, lowered)

-- past the parenthesis the bindings are those before it
close_trail : (d : ℕ) (f : Reading) (env : List ℕ → ℕ) (y : List ℕ) → env y ≤ d → lowered d (trail (suc d) f env y) ≡ env y
close_trail d f env y h = ⊎_elim
    (λ e. ap (lowered d) e ∙ lower_kept d (env y) h)
    (λ e. ap (lowered d) e.1 ∙ lower_over d (suc d) (omega arith) ∙ sym e.0)
    (trail_cases (suc d) f env y)

-- the names bound are those with a depth
abbrev Bound : List (List ℕ) → (List ℕ → ℕ) → Type 0
Bound names env = (y : List ℕ) → listed names y ≡ not (eqb (env y) 0)

bound_more : (names : List (List ℕ)) (env : List ℕ → ℕ) (d : ℕ) (x : List ℕ) → 1 ≤ d → Bound names env → Bound (x ∷ names) (bind_in d x env)
unfolding listed binding_at
bound_more names env d x h b y = rw (b y) (go (same x y) (env y))
  where
    go : (q : Bool) (s : ℕ) → (q || not (eqb s 0)) ≡ not (eqb (binding_at d q s) 0)
    go false s = refl
    go true s = ⊎_elim
        (λ (e : eqb s 0 ≡ true). sym (ap (λ (u : ℕ). not (eqb u 0)) (new e) ∙ rw (ne_eqb d 0 (λ u. omega arith))))
        (λ (e : eqb s 0 ≡ false). sym (ap (λ (u : ℕ). not (eqb u 0)) (old e) ∙ rw e))
        (bool (eqb s 0))
      where
        new : eqb s 0 ≡ true → binding_at d true s ≡ d
        new e = rw (e, binding_at)

        old : eqb s 0 ≡ false → binding_at d true s ≡ s
        old e = rw (e, binding_at)

not_not : (q : Bool) → not (not q) ≡ q
not_not true = refl
not_not false = refl

terms_loose : (gs : List Term) (names : List (List ℕ)) (d : ℕ) (env : List ℕ → ℕ) (es : List Event) → Bound names env
    → loose_in d env (term_events gs ++ es) ≡ (loose_terms names gs || loose_in d env es)
unfolding term_events loose_in loose_terms
terms_loose [] names d env es b = refl
terms_loose (variable x ∷ gs) names d env es b =
    rw (terms_loose gs names d env es b, b x, not_not (eqb (env x) 0)) (sym (or_assoc (eqb (env x) 0) (loose_terms names gs) (loose_in d env es)))
terms_loose (digits ds ∷ gs) names d env es b = terms_loose gs names d env es b

binding_le : (d : ℕ) (q : Bool) (s : ℕ) → s ≤ d → binding_at d q s ≤ d
binding_le d q s h = ⊎_elim (λ e. omega arith) (λ e. omega (arith, e.1)) (binding_cases d q s)

pub loose_more : (f : Reading) → Fine f → (names : List (List ℕ)) (d : ℕ) (env : List ℕ → ℕ) (es : List Event) → 1 ≤ d → ((y : List ℕ) → env y ≤ d) → Bound names env
    → loose_in d env (events_of f ++ es) ≡ (loose names f || loose_in d (trail d f env) es)
unfolding events_of loose trail
loose_more (truth b) h names d env es l m o = refl
loose_more (atom p gs) h names d env es l m o = unfold loose_in in terms_loose gs names d env es o
loose_more (under o f) h names d env es l m b = loose_more f h.1 names d env es l m b
loose_more (joined o f g) h names d env es l m b =
    ap (loose_in d env) (append_assoc (events_of f) (events_of g) es)
    ∙ loose_more f h.3 names d env (events_of g ++ es) l m b
    ∙ rw (trail_none d f env h.1, loose_more g h.4 names d env es l m b) (sym (or_assoc (loose names f) (loose names g) (loose_in d (trail d g env) es)))
loose_more (quantified q x f) h names d env es l m b =
    opening_step (loose_more f h (x ∷ names) d (bind_in d x env) es l (λ y. binding_le d (same x y) (env y) (m y)) (bound_more names env d x l b))
  where
    opening_step : loose_in d (bind_in d x env) (events_of f ++ es) ≡ (loose (x ∷ names) f || loose_in d (trail d f (bind_in d x env)) es)
        → loose_in d env (binds x ∷ (events_of f ++ es)) ≡ (loose (x ∷ names) f || loose_in d (trail d f (bind_in d x env)) es)
    opening_step e = unfold loose_in in e
loose_more (grouped f) h names d env es l m b =
    grouped_step (loose_more f h names (suc d) env (closes ∷ es) (omega arith) (λ y. omega (arith, m y)) b)
  where
    grouped_step : loose_in (suc d) env (events_of f ++ (closes ∷ es)) ≡ (loose names f || loose_in (suc d) (trail (suc d) f env) (closes ∷ es))
        → loose_in d env (opens ∷ ((events_of f ++ (closes ∷ [])) ++ es)) ≡ (loose names f || loose_in d env es)
    grouped_step e =
        let one : loose_in d env (opens ∷ ((events_of f ++ (closes ∷ [])) ++ es)) ≡ loose_in (suc d) env ((events_of f ++ (closes ∷ [])) ++ es) = unfold loose_in in refl in
        let two : loose_in (suc d) (trail (suc d) f env) (closes ∷ es) ≡ loose_in (suc d - 1) (close_in (suc d - 1) (trail (suc d) f env)) es = unfold loose_in in refl in
        let z : suc d - 1 ≡ d = omega arith in
        one ∙ ap (loose_in (suc d) env) (append_assoc (events_of f) (closes ∷ []) es) ∙ e
        ∙ ap (λ (q : Bool). loose names f || q) (two ∙ rw z (loose_same es d (close_in d (trail (suc d) f env)) env (λ y. close_trail d f env y (m y))))

pub loose_of : (f : Reading) → Fine f → loose [] f ≡ loose_in 1 (λ y. 0) (events_of f)
loose_of f h =
    sym (ap (loose_in 1 (λ y. 0)) (sym (append-nil (events_of f))) ∙ loose_more f h [] 1 (λ y. 0) [] (omega arith) (λ y. omega arith) (λ y. unfold listed in refl)
    ∙ unfold loose_in in or_false (loose [] f))
  where
    or_false : (q : Bool) → (q || false) ≡ q
    or_false true = refl
    or_false false = refl

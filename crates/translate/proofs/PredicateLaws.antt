-- There are no more predicates than rows: each new name makes a new atom. Assumes nothing.
use Prim.Native.Nat.{ℕ, suc, ◌≤◌, ◌<◌}
use native.Mathlib.Omega.{arith}
use mathlib.Core.Path.{◌≡◌, refl, sym, ap, ◌∙◌}
use mathlib.Core.Bool.{Bool, true, false}
use mathlib.Core.List.{List, [], ◌∷◌, ◌++◌, map}
use mathlib.Core.Logic.{⊎_elim}
use lib.ListN.{length, length-append, length-map}
use borrow.Author.Tests.{ne_eqb}
use Rattle.trees.proofs.Tests.{bool}
use Rattle.meaning.specs.Qtl.{Argument, Formula}
use Rattle.meaning.specs.Qtl
use Rattle.text.specs.Words.{Prefix, once, historically, previously, negation, Binary, sinces, ands, ors, implies, Quantifier, universal, existential}
use Rattle.text.specs.Grammar.{Reading, truth, atom, under, joined, quantified, grouped}
use Rattle.text.specs.Unfold.{Atom, atoms, listed, uses_after, first_uses, number_in, predicate_names, variable_names, argument_in, either, prefixed, connected, quantify, constant_of, unfolded, formula_of}
use Rattle.text.specs.Parts.{same_formula, has, note, parts_after, parts, row_in, rows_of}
use Rattle.text.proofs.PlaceLaws.{note_old, note_new}
use Rattle.text.proofs.PartsLaws.{note_longer}
use Rattle.text.proofs.NameLaws.{listed_last, number_lt, number_keeps, uses_append}
use Rattle.text.proofs.LimitLaws.{map_split}
use Rattle.census.proofs.CallLaws.{number_last}

-- atoms have predicates below the number
abbrev Under : ℕ → Formula → Type 0
Under d Qtl.truth = Unit {0}
Under d (Qtl.atom p gs) = p < d
Under d (Qtl.both f g) = Unit {0}
Under d (Qtl.neg f) = Unit {0}
Under d (Qtl.since f g) = Unit {0}
Under d (Qtl.previous f) = Unit {0}
Under d (Qtl.exists x f) = Unit {0}

abbrev AllUnder : ℕ → List Formula → Type 0
AllUnder d [] = Unit {0}
AllUnder d (f ∷ fs) = Under d f × AllUnder d fs

under_more : (d : ℕ) (f : Formula) → Under d f → Under (suc d) f
under_more d Qtl.truth u = tt
under_more d (Qtl.atom p gs) u = omega arith
under_more d (Qtl.both f g) u = tt
under_more d (Qtl.neg f) u = tt
under_more d (Qtl.since f g) u = tt
under_more d (Qtl.previous f) u = tt
under_more d (Qtl.exists x f) u = tt

all_more : (d : ℕ) (fs : List Formula) → AllUnder d fs → AllUnder (suc d) fs
all_more d [] u = tt
all_more d (f ∷ fs) u = (under_more d f u.0, all_more d fs u.1)

all_snoc : (d : ℕ) (fs : List Formula) (f : Formula) → AllUnder d fs → Under d f → AllUnder d (fs ++ (f ∷ []))
all_snoc d [] f u v = (v, tt)
all_snoc d (g ∷ fs) f u v = (u.0, all_snoc d fs f u.1 v)

-- an atom with the next number is new
other_formula : (d : ℕ) (gs : List Argument) (f : Formula) → Under d f → same_formula f (Qtl.atom d gs) ≡ false
unfolding same_formula
other_formula d gs Qtl.truth u = refl
other_formula d gs (Qtl.atom p hs) u = rw (ne_eqb p d (λ e. omega arith))
other_formula d gs (Qtl.both f g) u = refl
other_formula d gs (Qtl.neg f) u = refl
other_formula d gs (Qtl.since f g) u = refl
other_formula d gs (Qtl.previous f) u = refl
other_formula d gs (Qtl.exists x f) u = refl

new_atom : (d : ℕ) (gs : List Argument) (fs : List Formula) → AllUnder d fs → has fs (Qtl.atom d gs) ≡ false
unfolding has
new_atom d gs [] u = refl
new_atom d gs (f ∷ fs) u = rw (other_formula d gs f u.0) (new_atom d gs fs u.1)

-- the names so far are no more than the parts so far, and number the atoms among them
record Room (done : List (List ℕ)) (fs : List Formula) : Type 0 where
  fewer : length done ≤ length fs
  below : AllUnder (length done) fs

note_under : (d : ℕ) (fs : List Formula) (f : Formula) → AllUnder d fs → Under d f → AllUnder d (note fs f)
note_under d fs f u v = ⊎_elim (λ e. rw (note_old fs f e) u) (λ e. rw (note_new fs f e) (all_snoc d fs f u v)) (bool (has fs f))

noted : (done : List (List ℕ)) (fs : List Formula) (f : Formula) → Under (length done) f → Room done fs → Room done (note fs f)
noted done fs f v r = record { fewer = omega (arith, r.fewer, note_longer fs f); below = note_under (length done) fs f r.below v }

-- a name alone, or with its arguments
one_use : (done : List (List ℕ)) (x : List ℕ) (q : Bool) → listed done x ≡ q → uses_after done (x ∷ []) ≡ elim q [ true ↦ done | false ↦ done ++ (x ∷ []) ]
unfolding uses_after
one_use done x q e = rw (e, uses_after)

atom_room : (done : List (List ℕ)) (fs : List Formula) (x : List ℕ) (gs : List Argument) (more ps : List (List ℕ)) → ps ≡ uses_after (uses_after done (x ∷ [])) more → Room done fs
    → Room (uses_after done (x ∷ [])) (note fs (Qtl.atom (number_in ps x) gs))
atom_room done fs x gs more ps e r = go (listed done x) refl
  where
    go : (q : Bool) → listed done x ≡ q → Room (uses_after done (x ∷ [])) (note fs (Qtl.atom (number_in ps x) gs))
    go true h =
        let o : uses_after done (x ∷ []) ≡ done = one_use done x true h in
        let p : ps ≡ uses_after done more = rw o at e in
        let n : number_in ps x ≡ number_in done x = ap (λ (l : List (List ℕ)). number_in l x) p ∙ number_keeps done more x h in
        rw (o, n) (noted done fs (Qtl.atom (number_in done x) gs) (number_lt done x h) r)
    go false h =
        let o : uses_after done (x ∷ []) ≡ done ++ (x ∷ []) = one_use done x false h in
        let p : ps ≡ uses_after (done ++ (x ∷ [])) more = rw o at e in
        let n : number_in ps x ≡ length done = ap (λ (l : List (List ℕ)). number_in l x) p ∙ number_keeps (done ++ (x ∷ [])) more x (listed_last done x) ∙ number_last done x h in
        let l : length (done ++ (x ∷ [])) ≡ suc (length done) = length-append done (x ∷ []) ∙ omega arith in
        rw (o, n, note_new fs (Qtl.atom (length done) gs) (new_atom (length done) gs fs r.below)) (record {
          fewer = omega (arith, l, length-append fs (Qtl.atom (length done) gs ∷ []), r.fewer);
          below = rw l (all_snoc (suc (length done)) fs (Qtl.atom (length done) gs) (all_more (length done) fs r.below) (omega arith));
        })

-- the names of a reading's predicates, in order
abbrev called : Reading → List (List ℕ)
called f = map (λ (a : Atom). a.called) (atoms f)

-- each operator's parts
prefixed_room : (o : Prefix) (done done' : List (List ℕ)) (fs : List Formula) (f : Formula) → ((gs : List Formula) → Room done gs → Room done' (parts_after gs f)) → Room done fs
    → Room done' (parts_after fs (prefixed o f))
unfolding prefixed parts_after
prefixed_room once done done' fs f h r = noted done' (parts_after (note fs Qtl.truth) f) (Qtl.since Qtl.truth f) tt (h (note fs Qtl.truth) (noted done fs Qtl.truth tt r))
prefixed_room historically done done' fs f h r =
    let a = h (note fs Qtl.truth) (noted done fs Qtl.truth tt r) in
    noted done' _ (Qtl.neg (Qtl.since Qtl.truth (Qtl.neg f))) tt (noted done' _ (Qtl.since Qtl.truth (Qtl.neg f)) tt (noted done' _ (Qtl.neg f) tt a))
prefixed_room previously done done' fs f h r = noted done' (parts_after fs f) (Qtl.previous f) tt (h fs r)
prefixed_room negation done done' fs f h r = noted done' (parts_after fs f) (Qtl.neg f) tt (h fs r)

connected_room : (o : Binary) (done mid done' : List (List ℕ)) (fs : List Formula) (f g : Formula) → ((gs : List Formula) → Room done gs → Room mid (parts_after gs f))
    → ((gs : List Formula) → Room mid gs → Room done' (parts_after gs g)) → Room done fs → Room done' (parts_after fs (connected o f g))
unfolding connected either parts_after
connected_room sinces done mid done' fs f g h k r = noted done' _ (Qtl.since f g) tt (k (parts_after fs f) (h fs r))
connected_room ands done mid done' fs f g h k r = noted done' _ (Qtl.both f g) tt (k (parts_after fs f) (h fs r))
connected_room ors done mid done' fs f g h k r =
    noted done' _ (Qtl.neg (Qtl.both (Qtl.neg f) (Qtl.neg g))) tt (noted done' _ (Qtl.both (Qtl.neg f) (Qtl.neg g)) tt (noted done' _ (Qtl.neg g) tt
    (k (note (parts_after fs f) (Qtl.neg f)) (noted mid (parts_after fs f) (Qtl.neg f) tt (h fs r)))))
connected_room implies done mid done' fs f g h k r =
    noted done' _ (Qtl.neg (Qtl.both (Qtl.neg (Qtl.neg f)) (Qtl.neg g))) tt (noted done' _ (Qtl.both (Qtl.neg (Qtl.neg f)) (Qtl.neg g)) tt (noted done' _ (Qtl.neg g) tt
    (k (note (note (parts_after fs f) (Qtl.neg f)) (Qtl.neg (Qtl.neg f)))
    (noted mid (note (parts_after fs f) (Qtl.neg f)) (Qtl.neg (Qtl.neg f)) tt (noted mid (parts_after fs f) (Qtl.neg f) tt (h fs r))))))

quantify_room : (q : Quantifier) (v : ℕ) (done done' : List (List ℕ)) (fs : List Formula) (f : Formula) → Room done fs → Room done' (parts_after fs f)
    → Room done' (parts_after fs (quantify q v f))
unfolding quantify parts_after
quantify_room universal v done done' fs f r a =
    noted done' _ (Qtl.neg (Qtl.exists v (Qtl.neg f))) tt (noted done' _ (Qtl.exists v (Qtl.neg f)) tt (noted done' (parts_after fs f) (Qtl.neg f) tt a))
quantify_room existential v done done' fs f r a = noted done' (parts_after fs f) (Qtl.exists v f) tt a

constant_room : (b : Bool) (done : List (List ℕ)) (fs : List Formula) → Room done fs → Room done (parts_after fs (constant_of b))
unfolding constant_of parts_after
constant_room true done fs r = noted done fs Qtl.truth tt r
constant_room false done fs r = noted done (note fs Qtl.truth) (Qtl.neg Qtl.truth) tt (noted done fs Qtl.truth tt r)

module _ (ps vs : List (List ℕ)) where
  reading_room : (f : Reading) (done : List (List ℕ)) (more : List (List ℕ)) → ps ≡ uses_after (uses_after done (called f)) more → (fs : List Formula) → Room done fs
      → Room (uses_after done (called f)) (parts_after fs (unfolded ps vs f))
  unfolding unfolded atoms
  reading_room (truth b) done more e fs r = unfold uses_after in constant_room b done fs r
  reading_room (atom p gs) done more e fs r = unfold parts_after in atom_room done fs p (map (argument_in vs) gs) more ps e r
  reading_room (under o f) done more e fs r = prefixed_room o done (uses_after done (called f)) fs (unfolded ps vs f) (λ gs k. reading_room f done more e gs k) r
  reading_room (joined o f g) done more e fs r =
      let s : called (joined o f g) ≡ called f ++ called g = map_split (atoms f) (atoms g) in
      let u : uses_after done (called (joined o f g)) ≡ uses_after (uses_after done (called f)) (called g) = rw s (uses_append done (called f) (called g)) in
      let e' : ps ≡ uses_after (uses_after (uses_after done (called f)) (called g)) more = rw u at e in
      let e'' : ps ≡ uses_after (uses_after done (called f)) (called g ++ more) = e' ∙ sym (uses_append (uses_after done (called f)) (called g) more) in
      rw u (connected_room o done (uses_after done (called f)) (uses_after (uses_after done (called f)) (called g)) fs (unfolded ps vs f) (unfolded ps vs g)
      (λ gs k. reading_room f done (called g ++ more) e'' gs k) (λ gs k. reading_room g (uses_after done (called f)) more e' gs k) r)
  reading_room (quantified q x f) done more e fs r = quantify_room q (number_in vs x) done (uses_after done (called f)) fs (unfolded ps vs f) r (reading_room f done more e fs r)
  reading_room (grouped f) done more e fs r = reading_room f done more e fs r

-- so 64 rows have at most 64 predicates
pub few_predicates : (f : Reading) → length (predicate_names f) ≤ length (rows_of (formula_of f))
unfolding formula_of predicate_names first_uses rows_of parts
few_predicates f =
    let r : Room (uses_after [] (called f)) (parts_after [] (unfolded (uses_after [] (called f)) (variable_names f) f)) =
    reading_room (uses_after [] (called f)) (variable_names f) f [] [] (unfold uses_after in refl) [] (record { fewer = omega arith; below = tt }) in
    omega (arith, r.fewer, length-map (parts_after [] (unfolded (uses_after [] (called f)) (variable_names f) f)) (row_in (parts_after [] (unfolded (uses_after [] (called f)) (variable_names f) f))))

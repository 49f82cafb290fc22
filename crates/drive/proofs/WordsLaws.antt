-- The words of a reading that refusals 4 and 5 let pass: no large constant, and no name with more than 3 arguments. Assumes nothing.
use Prim.Native.Nat.{ℕ, ◌≤◌}
use native.Mathlib.Omega.{arith}
use mathlib.Core.Path.{◌≡◌, refl}
use mathlib.Core.Bool.{Bool, true, false}
use mathlib.Core.List.{List, [], ◌∷◌, ◌++◌, append_assoc, append-nil}
use lib.Dec.{ltb}
use lib.ListN.{length, length-map}
use borrow.Author.Tests.{ltb-false}
use Rattle.text.specs.Words.{Word, name, number, constant, prefix, binary, quantifier, opening, closing, comma, dot, Prefix, once, historically, previously, negation, Binary, sinces, ands, ors, implies, Quantifier, universal, existential, bytes_of}
use Rattle.text.specs.Grammar.{Term, variable, digits, Reading, truth, atom, under, joined, quantified, grouped, term_word, terms_words, argument_words, words}
use Rattle.text.specs.Unfold.{atoms, argument_in, value_after}
use Rattle.text.specs.Translate.{any_atom, too_large}
use Rattle.text.proofs.LimitLaws.{or_none, any_split}
use Rattle.spelling.specs.Codes.{code_of, kind_of, nexts, mode_after}
use Rattle.census.proofs.EventLaws.{Follows, none, operator}
use Rattle.census.proofs.EventLaws
use Rattle.atomic.specs.Arguments.{arguments_after, Small}
use Rattle.atomic.proofs.WholeLaws.{whole}
use Rattle.drive.proofs.DrivenLaws.{Few}

-- no constant is large
small_append : (us ws : List Word) → Small us → Small ws → Small (us ++ ws)
small_append [] ws h k = k
small_append (u ∷ us) ws h k = (h.0, small_append us ws h.1 k)

no_number : (w : Word) (ws : List Word) → (code_of w ≡ 1 → ⊥) → Small ws → Small (w ∷ ws)
no_number w ws n h = ((λ e. absurd (n e)), h)

constant_code : (b : Bool) → code_of (constant b) ≡ 1 → ⊥
unfolding code_of
constant_code true e = omega arith
constant_code false e = omega arith

prefix_code : (o : Prefix) → code_of (prefix o) ≡ 1 → ⊥
unfolding code_of
prefix_code once e = omega arith
prefix_code historically e = omega arith
prefix_code previously e = omega arith
prefix_code negation e = omega arith

binary_code : (o : Binary) → code_of (binary o) ≡ 1 → ⊥
unfolding code_of
binary_code sinces e = omega arith
binary_code ands e = omega arith
binary_code ors e = omega arith
binary_code implies e = omega arith

quantifier_code : (q : Quantifier) → code_of (quantifier q) ≡ 1 → ⊥
unfolding code_of
quantifier_code universal e = omega arith
quantifier_code existential e = omega arith

small_name : (x : List ℕ) (ws : List Word) → Small ws → Small (name x ∷ ws)
small_name x ws h = no_number (name x) ws (λ e. unfold code_of in omega arith) h

small_terms : (gs : List Term) → too_large gs ≡ false → Small (terms_words gs)
unfolding too_large terms_words term_word
small_terms [] e = no_number closing [] (λ z. unfold code_of in omega arith) tt
small_terms (variable x ∷ gs) e = no_number comma (name x ∷ terms_words gs) (λ z. unfold code_of in omega arith) (small_name x (terms_words gs) (small_terms gs e))
small_terms (digits ds ∷ gs) e =
    let r = or_none (ltb 4294967295 (value_after 0 ds)) (too_large gs) e in
    no_number comma (number ds ∷ terms_words gs) (λ z. unfold code_of in omega arith)
    ((λ z. unfold bytes_of in omega (arith, ltb-false 4294967295 (value_after 0 ds) r.0)), small_terms gs r.1)

comma_tail : (g : Term) (gs : List Term) → Small (terms_words (g ∷ gs)) → Small (term_word g ∷ terms_words gs)
unfolding terms_words
comma_tail g gs h = h.1

small_arguments : (gs : List Term) → too_large gs ≡ false → Small (argument_words gs)
unfolding argument_words
small_arguments [] e = tt
small_arguments (g ∷ gs) e = no_number opening (term_word g ∷ terms_words gs) (λ z. unfold code_of in omega arith) (comma_tail g gs (small_terms (g ∷ gs) e))

pub small_words : (f : Reading) → any_atom (λ a. too_large a.terms) (atoms f) ≡ false → Small (words f)
unfolding words atoms
small_words (truth b) e = no_number (constant b) [] (constant_code b) tt
small_words (atom p gs) e = small_name p (argument_words gs) (small_arguments gs (unfold any_atom in (or_none (too_large gs) false e).0))
small_words (under o f) e = no_number (prefix o) (words f) (prefix_code o) (small_words f e)
small_words (joined o f g) e =
    let r = any_split (λ a. too_large a.terms) (atoms f) (atoms g) e in
    small_append (words f) (binary o ∷ words g) (small_words f r.0) (no_number (binary o) (words g) (binary_code o) (small_words g r.1))
small_words (quantified q x f) e =
    no_number (quantifier q) (name x ∷ dot ∷ words f) (quantifier_code q)
    (small_name x (dot ∷ words f) (no_number dot (words f) (λ z. unfold code_of in omega arith) (small_words f e)))
small_words (grouped f) e =
    no_number opening (words f ++ (closing ∷ [])) (λ z. unfold code_of in omega arith)
    (small_append (words f) (closing ∷ []) (small_words f e) (no_number closing [] (λ z. unfold code_of in omega arith) tt))

module _ (vs : List (List ℕ)) where
  -- a name where an operand must come has at most 3 arguments
  abbrev pub FewFrom : ℕ → List Word → Type 0
  FewFrom m [] = Unit {0}
  FewFrom m (w ∷ ws) = (m ≡ 0 → code_of w ≡ 0 → length (arguments_after vs ws) ≤ 3) × FewFrom (mode_after m w) ws

  -- any other word, and any other mode
  past : (m n : ℕ) (w : Word) (ws : List Word) → (m ≡ 0 → code_of w ≡ 0 → ⊥) → mode_after m w ≡ n → FewFrom n ws → FewFrom m (w ∷ ws)
  past m n w ws h e k = ((λ z y. absurd (h z y)), rw e k)

  few_called : {rest : List Word} → Follows rest → FewFrom 1 rest → FewFrom 2 rest
  few_called none h = tt
  few_called (operator o ws) h = past 2 0 (binary o) ws (λ z y. omega arith) (unfold mode_after nexts kind_of in refl) (unfold mode_after nexts kind_of in h.1)
  few_called (EventLaws.closed ws) h = past 2 1 closing ws (λ z y. omega arith) (unfold mode_after nexts kind_of in refl) (unfold mode_after nexts kind_of in h.1)

  few_term : (g : Term) (ws : List Word) → FewFrom 6 ws → FewFrom 5 (term_word g ∷ ws)
  unfolding term_word
  few_term (variable x) ws h = past 5 6 (name x) ws (λ z y. omega arith) (unfold mode_after nexts kind_of in refl) h
  few_term (digits ds) ws h = past 5 6 (number ds) ws (λ z y. omega arith) (unfold mode_after nexts kind_of in refl) h

  few_terms : (gs : List Term) (rest : List Word) → FewFrom 1 rest → FewFrom 6 (terms_words gs ++ rest)
  unfolding terms_words
  few_terms [] rest h = past 6 1 closing rest (λ z y. omega arith) (unfold mode_after nexts kind_of in refl) h
  few_terms (g ∷ gs) rest h =
      past 6 5 comma (term_word g ∷ (terms_words gs ++ rest)) (λ z y. omega arith) (unfold mode_after nexts kind_of in refl) (few_term g (terms_words gs ++ rest) (few_terms gs rest h))

  few_arguments : (gs : List Term) (rest : List Word) → Follows rest → FewFrom 1 rest → FewFrom 2 (argument_words gs ++ rest)
  unfolding argument_words
  few_arguments [] rest z h = few_called z h
  few_arguments (g ∷ gs) rest z h =
      past 2 5 opening (term_word g ∷ (terms_words gs ++ rest)) (λ z y. omega arith) (unfold mode_after nexts kind_of in refl) (few_term g (terms_words gs ++ rest) (few_terms gs rest h))

  constant_name : (b : Bool) → code_of (constant b) ≡ 0 → ⊥
  unfolding code_of
  constant_name true e = omega arith
  constant_name false e = omega arith

  prefix_name : (o : Prefix) → code_of (prefix o) ≡ 0 → ⊥
  unfolding code_of
  prefix_name once e = omega arith
  prefix_name historically e = omega arith
  prefix_name previously e = omega arith
  prefix_name negation e = omega arith

  quantifier_name : (q : Quantifier) → code_of (quantifier q) ≡ 0 → ⊥
  unfolding code_of
  quantifier_name universal e = omega arith
  quantifier_name existential e = omega arith

  name_second : (p : List ℕ) (ws : List Word) → FewFrom 2 ws → FewFrom (mode_after 0 (name p)) ws
  unfolding mode_after nexts kind_of
  name_second p ws h = h

  few_reading : (f : Reading) (rest : List Word) → Few f → Follows rest → FewFrom 1 rest → FewFrom 0 (words f ++ rest)
  unfolding words
  few_reading (truth b) rest h z k = past 0 1 (constant b) rest (λ a y. constant_name b y) (unfold mode_after nexts kind_of in refl) k
  few_reading (atom p gs) rest h z k = (
    (λ a y. rw (whole vs gs rest z) (omega (arith, length-map gs (argument_in vs)))),
    name_second p (argument_words gs ++ rest) (few_arguments gs rest z k),
  )
  few_reading (under o f) rest h z k = past 0 0 (prefix o) (words f ++ rest) (λ a y. prefix_name o y) (unfold mode_after nexts kind_of in refl) (few_reading f rest h z k)
  few_reading (joined o f g) rest h z k =
      rw (append_assoc (words f) (binary o ∷ words g) rest)
      (few_reading f (binary o ∷ (words g ++ rest)) h.0 (operator o (words g ++ rest))
      (past 1 0 (binary o) (words g ++ rest) (λ a y. omega arith) (unfold mode_after nexts kind_of in refl) (few_reading g rest h.1 z k)))
  few_reading (quantified q x f) rest h z k =
      past 0 3 (quantifier q) (name x ∷ (dot ∷ (words f ++ rest))) (λ a y. quantifier_name q y) (unfold mode_after nexts kind_of in refl)
      (past 3 4 (name x) (dot ∷ (words f ++ rest)) (λ a y. omega arith) (unfold mode_after nexts kind_of in refl)
      (past 4 0 dot (words f ++ rest) (λ a y. omega arith) (unfold mode_after nexts kind_of in refl) (few_reading f rest h z k)))
  few_reading (grouped f) rest h z k =
      past 0 0 opening ((words f ++ (closing ∷ [])) ++ rest) (λ a y. unfold code_of in omega arith) (unfold mode_after nexts kind_of in refl)
      (rw (append_assoc (words f) (closing ∷ []) rest)
      (few_reading f (closing ∷ rest) h (EventLaws.closed rest) (past 1 1 closing rest (λ a y. omega arith) (unfold mode_after nexts kind_of in refl) k)))

  pub few_words : (f : Reading) → Few f → FewFrom 0 (words f)
  few_words f h = rw (← (append-nil (words f))) (few_reading f [] h none tt)

-- The arguments that are read after an atom's name are the atom's. Assumes nothing.
use Prim.Native.Nat.{ℕ}
use mathlib.Core.Path.{◌≡◌, refl, ap, ◌∙◌}
use mathlib.Core.List.{List, [], ◌∷◌, ◌++◌, map}
use Rattle.meaning.specs.Qtl.{Argument}
use Rattle.text.specs.Words.{Word, opening, comma, bytes_of}
use Rattle.text.specs.Grammar.{Term, variable, digits, term_word, terms_words, argument_words}
use Rattle.text.specs.Unfold.{argument_in}
use Rattle.spelling.specs.Codes.{code_of, kind_of}
use Rattle.census.proofs.EventLaws.{Follows, none, operator, closed}
use Rattle.atomic.specs.Arguments.{argument_of, arguments_in, arguments_after}

term_in : (vs : List (List ℕ)) (g : Term) (ws : List Word) → arguments_in vs (term_word g ∷ ws) ≡ argument_in vs g ∷ arguments_in vs ws
unfolding term_word arguments_in argument_of argument_in kind_of code_of bytes_of
term_in vs (variable x) ws = refl
term_in vs (digits ds) ws = refl

comma_in : (vs : List (List ℕ)) (ws : List Word) → arguments_in vs (comma ∷ ws) ≡ arguments_in vs ws
unfolding arguments_in argument_of kind_of code_of
comma_in vs ws = refl

terms_in : (vs : List (List ℕ)) (gs : List Term) (rest : List Word) → arguments_in vs (terms_words gs ++ rest) ≡ map (argument_in vs) gs
unfolding terms_words
terms_in vs [] rest = unfold arguments_in kind_of in refl
terms_in vs (g ∷ gs) rest =
    comma_in vs (term_word g ∷ (terms_words gs ++ rest)) ∙ term_in vs g (terms_words gs ++ rest)
    ∙ ap (λ (l : List Argument). argument_in vs g ∷ l) (terms_in vs gs rest)

none_follow : (vs : List (List ℕ)) {rest : List Word} → Follows rest → arguments_after vs rest ≡ []
unfolding arguments_after kind_of
none_follow vs none = refl
none_follow vs (operator o ws) = refl
none_follow vs (closed ws) = refl

-- after the name of an atom with these arguments
pub whole : (vs : List (List ℕ)) (gs : List Term) (rest : List Word) → Follows rest → arguments_after vs (argument_words gs ++ rest) ≡ map (argument_in vs) gs
unfolding argument_words
whole vs [] rest h = none_follow vs h
whole vs (g ∷ gs) rest h =
    let here : arguments_after vs (opening ∷ (term_word g ∷ (terms_words gs ++ rest))) ≡ arguments_in vs (term_word g ∷ (terms_words gs ++ rest)) =
    unfold arguments_after kind_of in refl in
    here ∙ term_in vs g (terms_words gs ++ rest) ∙ ap (λ (l : List Argument). argument_in vs g ∷ l) (terms_in vs gs rest)

-- Which word letters spell: a reserved word by its length and bytes, and else a name. Assumes nothing.
use Prim.Native.Nat.{ℕ}
use mathlib.Core.Path.{◌≡◌, refl, ap, ◌∙◌}
use mathlib.Core.Bool.{true, false}
use mathlib.Core.Logic.{◌⊎◌, inl, inr, ⊎_elim}
use mathlib.Core.List.{List, [], ◌∷◌}
use lib.ListN.{length, get_or}
use Rattle.trees.proofs.Tests.{bool}
use Rattle.text.specs.Words.{same, Word, constant, prefix, binary, quantifier, once, historically, sinces, universal, existential, bytes_of, pick, reserved, word_of}
use Rattle.text.proofs.ClassLaws.{same_true}
use Rattle.spelling.specs.Codes.{code_of}

pick_past : (w : Word) (ws : List Word) (bs : List ℕ) → same bs (bytes_of w) ≡ false → pick (w ∷ ws) bs ≡ pick ws bs
unfolding pick
pick_past w ws bs e = rw (e, pick)

no_reserved : (w : List ℕ) → same w (102 ∷ 111 ∷ 114 ∷ 97 ∷ 108 ∷ 108 ∷ []) ≡ false → same w (101 ∷ 120 ∷ 105 ∷ 115 ∷ 116 ∷ 115 ∷ []) ≡ false → same w (80 ∷ []) ≡ false → same w (72 ∷ []) ≡ false → same w (83 ∷ []) ≡ false → same w (116 ∷ 114 ∷ 117 ∷ 101 ∷ []) ≡ false → same w (102 ∷ 97 ∷ 108 ∷ 115 ∷ 101 ∷ []) ≡ false → code_of (word_of w) ≡ 0
unfolding word_of reserved bytes_of pick code_of
no_reserved w e0 e1 e2 e3 e4 e5 e6 =
    ap code_of (pick_past (quantifier universal) (quantifier existential ∷ prefix once ∷ prefix historically ∷ binary sinces ∷ constant true ∷ constant false ∷ []) w e0
    ∙ pick_past (quantifier existential) (prefix once ∷ prefix historically ∷ binary sinces ∷ constant true ∷ constant false ∷ []) w e1
    ∙ pick_past (prefix once) (prefix historically ∷ binary sinces ∷ constant true ∷ constant false ∷ []) w e2
    ∙ pick_past (prefix historically) (binary sinces ∷ constant true ∷ constant false ∷ []) w e3
    ∙ pick_past (binary sinces) (constant true ∷ constant false ∷ []) w e4
    ∙ pick_past (constant true) (constant false ∷ []) w e5
    ∙ pick_past (constant false) ([]) w e6)

-- a name, or the length and bytes of a reserved word
pub name_or_reserved : (w : List ℕ) → (code_of (word_of w) ≡ 0) ⊎ (((length w ≡ 6) × (get_or w 0 0 ≡ 102) × (get_or w 1 0 ≡ 111) × (get_or w 2 0 ≡ 114) × (get_or w 3 0 ≡ 97) × (get_or w 4 0 ≡ 108) × (get_or w 5 0 ≡ 108)) ⊎ (((length w ≡ 6) × (get_or w 0 0 ≡ 101) × (get_or w 1 0 ≡ 120) × (get_or w 2 0 ≡ 105) × (get_or w 3 0 ≡ 115) × (get_or w 4 0 ≡ 116) × (get_or w 5 0 ≡ 115)) ⊎ (((length w ≡ 1) × (get_or w 0 0 ≡ 80)) ⊎ (((length w ≡ 1) × (get_or w 0 0 ≡ 72)) ⊎ (((length w ≡ 1) × (get_or w 0 0 ≡ 83)) ⊎ (((length w ≡ 4) × (get_or w 0 0 ≡ 116) × (get_or w 1 0 ≡ 114) × (get_or w 2 0 ≡ 117) × (get_or w 3 0 ≡ 101)) ⊎ ((length w ≡ 5) × (get_or w 0 0 ≡ 102) × (get_or w 1 0 ≡ 97) × (get_or w 2 0 ≡ 108) × (get_or w 3 0 ≡ 115) × (get_or w 4 0 ≡ 101))))))))
name_or_reserved w =
    ⊎_elim (λ (e : same w (102 ∷ 111 ∷ 114 ∷ 97 ∷ 108 ∷ 108 ∷ []) ≡ true). inr (inl (rw (same_true w (102 ∷ 111 ∷ 114 ∷ 97 ∷ 108 ∷ 108 ∷ []) e) (refl, refl, refl, refl, refl, refl, refl)))) (λ e0.
    ⊎_elim (λ (e : same w (101 ∷ 120 ∷ 105 ∷ 115 ∷ 116 ∷ 115 ∷ []) ≡ true). inr (inr (inl (rw (same_true w (101 ∷ 120 ∷ 105 ∷ 115 ∷ 116 ∷ 115 ∷ []) e) (refl, refl, refl, refl, refl, refl, refl))))) (λ e1.
    ⊎_elim (λ (e : same w (80 ∷ []) ≡ true). inr (inr (inr (inl (rw (same_true w (80 ∷ []) e) (refl, refl)))))) (λ e2.
    ⊎_elim (λ (e : same w (72 ∷ []) ≡ true). inr (inr (inr (inr (inl (rw (same_true w (72 ∷ []) e) (refl, refl))))))) (λ e3.
    ⊎_elim (λ (e : same w (83 ∷ []) ≡ true). inr (inr (inr (inr (inr (inl (rw (same_true w (83 ∷ []) e) (refl, refl)))))))) (λ e4.
    ⊎_elim (λ (e : same w (116 ∷ 114 ∷ 117 ∷ 101 ∷ []) ≡ true). inr (inr (inr (inr (inr (inr (inl (rw (same_true w (116 ∷ 114 ∷ 117 ∷ 101 ∷ []) e) (refl, refl, refl, refl, refl))))))))) (λ e5.
    ⊎_elim (λ (e : same w (102 ∷ 97 ∷ 108 ∷ 115 ∷ 101 ∷ []) ≡ true). inr (inr (inr (inr (inr (inr (inr ((rw (same_true w (102 ∷ 97 ∷ 108 ∷ 115 ∷ 101 ∷ []) e) (refl, refl, refl, refl, refl, refl)))))))))) (λ e6.
    inl (no_reserved w e0 e1 e2 e3 e4 e5 e6)) (bool (same w (102 ∷ 97 ∷ 108 ∷ 115 ∷ 101 ∷ [])))) (bool (same w (116 ∷ 114 ∷ 117 ∷ 101 ∷ [])))) (bool (same w (83 ∷ [])))) (bool (same w (72 ∷ [])))) (bool (same w (80 ∷ [])))) (bool (same w (101 ∷ 120 ∷ 105 ∷ 115 ∷ 116 ∷ 115 ∷ [])))) (bool (same w (102 ∷ 111 ∷ 114 ∷ 97 ∷ 108 ∷ 108 ∷ [])))

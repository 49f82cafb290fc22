-- One call more, and what is noted of each name. Assumes nothing.
use Prim.Native.Nat.{ℕ, ◌<◌}
use mathlib.Core.Path.{◌≡◌, refl, sym, ap, ◌∙◌}
use mathlib.Core.Bool.{true, false}
use mathlib.Core.List.{List, [], ◌∷◌, ◌++◌}
use lib.ListN.{length, get_or, set}
use lib.Seq.{get_or-set_same, get_or-set_other}
use borrow.Author.Tests.{ne_eqb, eq-eqb}
use Rattle.trees.proofs.Tests.{false_true, bool, or_r}
use mathlib.Core.Logic.{⊎_elim}
use Rattle.std.specs.Prelude.{Option, Some, None}
use Rattle.text.specs.Words.{same}
use Rattle.text.specs.Unfold.{listed, number_in}
use Rattle.text.proofs.NameLaws.{number_at, same_refl}
use Rattle.text.proofs.ClassLaws.{same_true}
use Rattle.census.specs.Clashes.{Call, seen, count_in, any_clash, mark_of}
use Rattle.census.specs.Scopes.{Distinct}
use Rattle.census.proofs.CallLaws.{mark_other, mark_new, mark_old, any_append}

abbrev pub Marks : List (List ℕ) → List (Option ℕ) → List Call → Type 0
Marks ns counts done = (j : ℕ) → j < length ns → get_or counts j None ≡ mark_of done (get_or ns j [])

module _ (ns : List (List ℕ)) (counts : List (Option ℕ)) (done : List Call) (x : List ℕ) (m : ℕ) where
  pub marks_set : Distinct ns → Marks ns counts done → listed ns x ≡ true → number_in ns x < length counts → seen done x ≡ false
      → Marks ns (set counts (number_in ns x) (Some m)) (done ++ (record { called = x; count = m } ∷ []))
  marks_set d k l h s j q = ⊎_elim here other (bool (same x (get_or ns j [])))
    where
      here : same x (get_or ns j []) ≡ true → get_or (set counts (number_in ns x) (Some m)) j None ≡ mark_of (done ++ (record { called = x; count = m } ∷ [])) (get_or ns j [])
      here e =
          let y : x ≡ get_or ns j [] = same_true x (get_or ns j []) e in
          let i : number_in ns x ≡ j = ap (number_in ns) y ∙ d j q in
          ap (λ (u : ℕ). get_or (set counts (number_in ns x) (Some m)) u None) (sym i) ∙ get_or-set_same counts (number_in ns x) (Some m) None h ∙ sym (mark_new done x m s)
          ∙ ap (mark_of (done ++ (record { called = x; count = m } ∷ []))) y

      other : same x (get_or ns j []) ≡ false → get_or (set counts (number_in ns x) (Some m)) j None ≡ mark_of (done ++ (record { called = x; count = m } ∷ [])) (get_or ns j [])
      other e =
          get_or-set_other counts (number_in ns x) j (Some m) None (λ u. false_same (ap (λ (v : ℕ). get_or ns v []) u ∙ number_at ns x l) e)
          ∙ k j q ∙ sym (mark_other done x m (get_or ns j []) e)
        where
          false_same : get_or ns j [] ≡ x → same x (get_or ns j []) ≡ false → ⊥
          false_same u v = false_true (ap (same x) (sym u) ∙ v) (same_refl x)

  pub marks_keep : Marks ns counts done → seen done x ≡ true → Marks ns counts (done ++ (record { called = x; count = m } ∷ []))
  marks_keep k s j q = ⊎_elim here other (bool (same x (get_or ns j [])))
    where
      here : same x (get_or ns j []) ≡ true → get_or counts j None ≡ mark_of (done ++ (record { called = x; count = m } ∷ [])) (get_or ns j [])
      here e =
          let y : x ≡ get_or ns j [] = same_true x (get_or ns j []) e in
          k j q ∙ ap (mark_of done) (sym y) ∙ sym (mark_old done x m s) ∙ ap (mark_of (done ++ (record { called = x; count = m } ∷ []))) y

      other : same x (get_or ns j []) ≡ false → get_or counts j None ≡ mark_of (done ++ (record { called = x; count = m } ∷ [])) (get_or ns j [])
      other e = k j q ∙ sym (mark_other done x m (get_or ns j []) e)

module _ (done : List Call) (x : List ℕ) (m : ℕ) where
  module _ (all : List Call) where
    pub agreed_more : any_clash all done ≡ false → count_in all x ≡ m → any_clash all (done ++ (record { called = x; count = m } ∷ [])) ≡ false
    unfolding any_clash
    agreed_more a e = any_append all done (record { called = x; count = m } ∷ []) ∙ rw (a, e, eq-eqb m m refl)

    pub clash_found : (rest : List Call) → all ≡ done ++ (record { called = x; count = m } ∷ rest) → (m ≡ count_in all x → ⊥) → any_clash all all ≡ true
    unfolding any_clash
    clash_found rest e n =
        ap (any_clash all) e ∙ any_append all done (record { called = x; count = m } ∷ rest)
        ∙ rw (ne_eqb m (count_in all x) n) (or_r (any_clash all done) true refl)

-- What may come, by the number of the mode. Assumes nothing.
use Prim.Native.Nat.{ℕ, zero, suc}
use mathlib.Core.Path.{◌≡◌, refl, sym, ap, ◌∙◌}
use mathlib.Core.Bool.{Bool, true, false, ◌||◌}
use mathlib.Core.List.{[], ◌∷◌}
use lib.Dec.{eqb}
use borrow.Author.Tests.{ne_eqb}
use Rattle.trees.proofs.Tests.{false_true}
use Rattle.text.specs.Machine.{Stage, wants, ended, named, binds, bound, argues, argued, stopped}
use Rattle.text.specs.Reader.{gap, letters, at, grows, joins, lead, begin}
use Rattle.text.specs.Shape.{Mode, operand, operator, call, slot, point, argument, separator, nowhere, shape, may_end}
use Rattle.text.proofs.ShapeLaws.{shape_result}
use Rattle.spelling.specs.Codes.{mode_number}
use Rattle.scan.specs.Looks.{Joins, Grows, Leads, MayEnd}

joins_mode : (t : Stage) → (eqb (mode_number (shape t).mode) 1 || eqb (mode_number (shape t).mode) 2) ≡ joins t
unfolding joins shape mode_number
joins_mode (wants ks) = refl
joins_mode (ended f ks) = refl
joins_mode (named p ks) = refl
joins_mode (binds q ks) = refl
joins_mode (bound q x ks) = refl
joins_mode (argues p gs ks) = refl
joins_mode (argued p gs ks) = refl
joins_mode stopped = refl

grows_mode : (t : Stage) → (eqb (mode_number (shape t).mode) 0 || (eqb (mode_number (shape t).mode) 3 || eqb (mode_number (shape t).mode) 5)) ≡ grows t
unfolding grows shape mode_number
grows_mode (wants ks) = refl
grows_mode (ended f ks) = refl
grows_mode (named p ks) = refl
grows_mode (binds q ks) = refl
grows_mode (bound q x ks) = refl
grows_mode (argues p gs ks) = refl
grows_mode (argued p gs ks) = refl
grows_mode stopped = refl

pub joins_is : (mode : ℕ) (r : Bool) → r ≡ (eqb mode 1 || eqb mode 2) → Joins mode r
joins_is mode r e = λ t m. e ∙ rw m (joins_mode t)

pub grows_is : (mode : ℕ) (r : Bool) → r ≡ (eqb mode 0 || (eqb mode 3 || eqb mode 5)) → Grows mode r
grows_is mode r e = λ t m. e ∙ rw m (grows_mode t)

-- a letter that may begin a word, or not
lead_yes : (g j : Bool) (b : ℕ) (t : Stage) → g ≡ true → lead g j b t ≡ at (letters (b ∷ [])) t
unfolding lead
lead_yes true j b t e = refl
lead_yes false j b t e = absurd (false_true refl e)

lead_no : (g j : Bool) (b : ℕ) (t : Stage) → g ≡ false → (b ≡ 83 → ⊥) → lead g j b t ≡ at gap stopped
unfolding lead
lead_no true j b t e n = absurd (false_true e refl)
lead_no false true b t e n = rw (ne_eqb b 83 n, lead)
lead_no false false b t e n = refl

lead_since : (g : Bool) (b : ℕ) (t : Stage) → g ≡ false → b ≡ 83 → lead g true b t ≡ at (letters (b ∷ [])) t
unfolding lead
lead_since true b t e z = absurd (false_true e refl)
lead_since false b t e z = rw z

lead_none : (g : Bool) (b : ℕ) (t : Stage) → g ≡ false → lead g false b t ≡ at gap stopped
unfolding lead
lead_none true b t e = absurd (false_true e refl)
lead_none false b t e = refl

module _ (mode b : ℕ) (g : Bool) (gr : Grows mode g) where
  pub leads_grown : g ≡ true → Leads mode b true
  unfolding begin
  leads_grown e = record { yes = λ t m z. lead_yes (grows t) (joins t) b t (sym (gr t m) ∙ e); no = λ t m z. absurd (false_true z refl) }

  pub leads_other : g ≡ false → (b ≡ 83 → ⊥) → Leads mode b false
  unfolding begin
  leads_other e n = record { yes = λ t m z. absurd (false_true refl z); no = λ t m z. lead_no (grows t) (joins t) b t (sym (gr t m) ∙ e) n }

  pub leads_since : g ≡ false → b ≡ 83 → (j : Bool) → Joins mode j → Leads mode b j
  unfolding begin lead
  leads_since e n j jo = record {
    yes = λ t m z. rw (sym (jo t m) ∙ z, lead) (lead_since (grows t) b t (sym (gr t m) ∙ e) n);
    no = λ t m z. rw (sym (jo t m) ∙ z, lead) (lead_none (grows t) b t (sym (gr t m) ∙ e));
  }

-- the end
end_deep : (m : Mode) (d : ℕ) → (d ≡ 0 → ⊥) → may_end m d ≡ false
unfolding may_end
end_deep operand d n = refl
end_deep operator zero n = absurd (n refl)
end_deep operator (suc d) n = refl
end_deep call zero n = absurd (n refl)
end_deep call (suc d) n = refl
end_deep slot d n = refl
end_deep point d n = refl
end_deep argument d n = refl
end_deep separator d n = refl
end_deep nowhere d n = refl

end_joins : (t : Stage) → joins t ≡ may_end (shape t).mode 0
unfolding joins may_end shape
end_joins (wants ks) = refl
end_joins (ended f ks) = refl
end_joins (named p ks) = refl
end_joins (binds q ks) = refl
end_joins (bound q x ks) = refl
end_joins (argues p gs ks) = refl
end_joins (argued p gs ks) = refl
end_joins stopped = refl

pub end_no : (mode depth : ℕ) → (depth ≡ 0 → ⊥) → MayEnd mode depth false
end_no mode depth n = λ t s. sym (shape_result t ∙ end_deep (shape t).mode (shape t).depth (λ e. n (s.depth_is ∙ e)))

pub end_yes : (mode depth : ℕ) (j : Bool) → depth ≡ 0 → Joins mode j → MayEnd mode depth j
end_yes mode depth j e jo = λ t s. jo t s.mode_is ∙ end_joins t ∙ ap (may_end (shape t).mode) (sym e ∙ s.depth_is) ∙ sym (shape_result t)

-- A formula reads its free variables and the facts up to its position only, in whatever order; a sentence's diagram is a leaf. Assumes nothing.
use Prim.Native.Nat.{ℕ, zero, suc, ◌*◌, ◌≤◌, ◌<◌}
use mathlib.Core.Path.{◌≡◌, refl, ap, sym, ◌∙◌}
use mathlib.Core.Bool.{Bool, true, false}
use mathlib.Core.List.{List, [], ◌∷◌}
use mathlib.Core.Logic.{◌↔◌, inl, inr}
use native.Mathlib.Decide.{ℕ_discrete}
use native.Mathlib.Omega.{arith}
use lib.Dec.{eqb}
use borrow.Author.Tests.{ne_eqb}
use Rattle.trees.specs.Bits.{Bits, number}
use Rattle.trees.specs.Tree.{Tree, off, on, eval, Fine, is_on}
use Rattle.trees.proofs.Tests.{or_l, or_r, eqb_same, false_true, not_true}
use Rattle.trees.proofs.TreeLaws.{canon, fine_off, fine_on}
use Rattle.meaning.specs.Qtl.{Argument, variable, constant, Fact, Formula, Assignment, bind, Matches, Some, SameFacts, Matching, Holds, free, free_arguments}
use Rattle.meaning.specs.Qtl
use Rattle.meaning.specs.Numbering.{Lists, Shows}
use Rattle.meaning.proofs.ValuesLaws.{value_of}
use Rattle.meaning.proofs.Simulation.{Sim, bind_own, bind_other}

-- assignments alike on F
abbrev pub Alike : (ℕ → Bool) → Assignment → Assignment → Type 0
Alike F a b = (v : ℕ) → F v ≡ true → a v ≡ b v

matches_alike : (gs : List Argument) (xs : List ℕ) (a b : Assignment) → Alike (free_arguments gs) a b → Matches a gs xs → Matches b gs xs
unfolding free_arguments
matches_alike [] [] a b h p = tt
matches_alike [] (x ∷ xs) a b h p = p
matches_alike (g ∷ gs) [] a b h p = p
matches_alike (variable w ∷ gs) (x ∷ xs) a b h p =
    (sym (h w (or_l (eqb w w) (free_arguments gs w) (eqb_same w))) ∙ p.0, matches_alike gs xs a b (λ v e. h v (or_r (eqb w v) (free_arguments gs v) e)) p.1)
matches_alike (constant c ∷ gs) (x ∷ xs) a b h p = (p.0, matches_alike gs xs a b h p.1)

some_alike : (q : ℕ) (gs : List Argument) (es : List Fact) (a b : Assignment) → Alike (free_arguments gs) a b → Some (Matching a q gs) es → Some (Matching b q gs) es
some_alike q gs [] a b h p = p
some_alike q gs (e ∷ es) a b h (inl p) = inl (p.0, matches_alike gs e.values a b h p.1)
some_alike q gs (e ∷ es) a b h (inr p) = inr (some_alike q gs es a b h p)

bind_alike : (f : Formula) (x y : ℕ) (a b : Assignment) → Alike (free (Qtl.exists x f)) a b → Alike (free f) (bind a x y) (bind b x y)
unfolding free
bind_alike f x y a b h v e = elim (ℕ_discrete v x) [
  | yes p ↦ rw (p, bind_own a x y, bind_own b x y)
  | no p ↦ bind_other a x y v p ∙ (h v (rw (ne_eqb x v (λ q. p (sym q))) e) ∙ sym (bind_other b x y v p))
]

-- what some fact of a list has, some fact of the same facts has
some_fact : (P : Fact → Type 0) (es : List Fact) → Some P es → (f : Fact) × Some (λ e. e ≡ f) es × P f
some_fact P [] p = absurd p
some_fact P (e ∷ es) (inl p) = (e, inl refl, p)
some_fact P (e ∷ es) (inr p) = let f = some_fact P es p in (f.0, inr f.1, f.2)

fact_some : (P : Fact → Type 0) (es : List Fact) (f : Fact) → Some (λ e. e ≡ f) es → P f → Some P es
fact_some P [] f i p = i
fact_some P (e ∷ es) f (inl q) p = inl (rw q p)
fact_some P (e ∷ es) f (inr i) p = inr (fact_some P es f i p)

some_same : (P : Fact → Type 0) (es fs : List Fact) → SameFacts es fs → Some P es → Some P fs
some_same P es fs t p = let f = some_fact P es p in fact_some P fs f.0 ((t f.0).0 f.1) f.2

-- the same facts up to a position
abbrev pub AlikeTo : ℕ → (ℕ → List Fact) → (ℕ → List Fact) → Type 0
AlikeTo i σ τ = (j : ℕ) → 0 < j → j ≤ i → SameFacts (σ j) (τ j)

pub same_refl : (es fs : List Fact) → es ≡ fs → SameFacts es fs
same_refl es fs e f = rw e (λ p. p, λ p. p)

pub same_turn : (es fs : List Fact) → SameFacts es fs → SameFacts fs es
same_turn es fs t f = ((t f).1, (t f).0)

abbrev Reads : Formula → Type 0
Reads f = (σ τ : ℕ → List Fact) (i : ℕ) (a b : Assignment) → AlikeTo i σ τ → Alike (free f) a b → Holds σ f i a → Holds τ f i b

turn : (i : ℕ) (σ τ : ℕ → List Fact) → AlikeTo i σ τ → AlikeTo i τ σ
turn i σ τ t j p q = same_turn (σ j) (τ j) (t j p q)

since_reads : (f g : Formula) → Reads f → Reads g → Reads (Qtl.since f g)
unfolding free
since_reads f g rf rg σ τ zero a b t h p = p
since_reads f g rf rg σ τ (suc i) a b t h (inl p) = inl (rg σ τ (suc i) a b t (λ v e. h v (or_r (free f v) (free g v) e)) p)
since_reads f g rf rg σ τ (suc i) a b t h (inr p) =
    inr (rf σ τ (suc i) a b t (λ v e. h v (or_l (free f v) (free g v) e)) p.0, since_reads f g rf rg σ τ i a b (λ j q r. t j q (omega arith)) h p.1)

-- a formula reads its free variables, and the events up to its position
pub holds_reads : (f : Formula) → Reads f
unfolding free
holds_reads Qtl.truth σ τ zero a b t h p = p
holds_reads Qtl.truth σ τ (suc i) a b t h p = p
holds_reads (Qtl.atom q gs) σ τ zero a b t h p = p
holds_reads (Qtl.atom q gs) σ τ (suc i) a b t h p =
    some_same (Matching b q gs) (σ (suc i)) (τ (suc i)) (t (suc i) (omega arith) (omega arith)) (some_alike q gs (σ (suc i)) a b h p)
holds_reads (Qtl.both f g) σ τ zero a b t h p = p
holds_reads (Qtl.both f g) σ τ (suc i) a b t h p =
    (holds_reads f σ τ (suc i) a b t (λ v e. h v (or_l (free f v) (free g v) e)) p.0, holds_reads g σ τ (suc i) a b t (λ v e. h v (or_r (free f v) (free g v) e)) p.1)
holds_reads (Qtl.neg f) σ τ zero a b t h p = p
holds_reads (Qtl.neg f) σ τ (suc i) a b t h p = λ q. p (holds_reads f τ σ (suc i) b a (turn (suc i) σ τ t) (λ v e. sym (h v e)) q)
holds_reads (Qtl.since f g) σ τ i a b t h p = since_reads f g (holds_reads f) (holds_reads g) σ τ i a b t h p
holds_reads (Qtl.previous f) σ τ zero a b t h p = p
holds_reads (Qtl.previous f) σ τ (suc i) a b t h p = holds_reads f σ τ i a b (λ j q r. t j q (omega arith)) h p
holds_reads (Qtl.exists x f) σ τ zero a b t h p = p
holds_reads (Qtl.exists x f) σ τ (suc i) a b t h p =
    (p.0, holds_reads f σ τ (suc i) (bind a x p.0) (bind b x p.0) t (bind_alike f x p.0 a b h) p.1)

-- every setting of the bits shows some assignment
pub some_assignment : (k : ℕ) (L : Lists) (s : Bits) → (a : Assignment) × Shows k L s a
some_assignment k L s = (λ v. (value_of (L v) (number s (v * k) k)).0, λ v h. (value_of (L v) (number s (v * k) k)).1)

-- the diagram of a sentence is yes exactly if it holds
pub sentence : (k : ℕ) (L : Lists) (t : Tree) (σ : ℕ → List Fact) (f : Formula) (i : ℕ) → ((v : ℕ) → free f v ≡ false) → Fine 0 (4 * k) t
    → Sim k L (eval t) (λ a. Holds σ f i a) → (a : Assignment) → (is_on t ≡ true) ↔ Holds σ f i a
unfolding eval is_on
sentence k L t σ f i c fine s a = go (eval t dark) refl
  where
    dark : Bits
    dark l = false

    any : (a b : Assignment) → Holds σ f i a → Holds σ f i b
    any a b p = holds_reads f σ σ i a b (λ j q r. same_refl (σ j) (σ j) refl) (λ v e. absurd (false_true (c v) e)) p

    A : Bits → Assignment
    A e = (some_assignment k L e).0

    says : (e : Bits) → (eval t e ≡ true) ↔ Holds σ f i (A e)
    says e = s.means e (A e) (some_assignment k L e).1

    alike : (x : Bool) → eval t dark ≡ x → (e : Bits) → eval t e ≡ x
    alike true q e = (says e).1 (any (A dark) (A e) ((says dark).0 q))
    alike false q e = not_true (eval t e) λ z. false_true q ((says dark).1 (any (A e) (A dark) ((says e).0 z)))

    go : (x : Bool) → eval t dark ≡ x → (is_on t ≡ true) ↔ Holds σ f i a
    go true q = (λ z. any (A dark) a ((says dark).0 q), λ z. ap is_on (canon (4 * k) t on fine (fine_on 0 (4 * k)) (alike true q)))
    go false q = (
      λ z. absurd (false_true (ap is_on (canon (4 * k) t off fine (fine_off 0 (4 * k)) (alike false q))) z),
      λ z. absurd (false_true q ((says dark).1 (any a (A dark) z))),
    )

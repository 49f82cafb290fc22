-- Records in two parts, the second after what the first leaves open: moments, breach and the open moment. Assumes nothing.
use Prim.Native.Nat.{ℕ, suc}
use native.Mathlib.Omega.{arith}
use mathlib.Core.Path.{◌≡◌, refl, sym, ap, ◌∙◌}
use mathlib.Core.Bool.{Bool, true, false, ◌||◌}
use mathlib.Core.List.{List, [], ◌∷◌, ◌++◌}
use lib.Dec.{eqb, leb}
use lib.ListN.{length, length-append}
use borrow.Author.Tests.{leb-true, le-leb}
use Rattle.cards.specs.Moments.{Record, flagged, open_of, longer, ended, stamped, together, all_together, unbroken}
use Rattle.cards.proofs.Tests.{or_no, clash, and_left, and_right, and_both, or_none}
use Rattle.cards.proofs.MomentLaws.{flagged_append, open_none, ended_none, ended_here, ended_more, open_more, open_append, open_unflagged}

-- records that end no moment have no flagged one
ended_nothing : (xs : List Record) → ended xs ≡ [] → flagged xs ≡ false
unfolding flagged longer
ended_nothing [] e = refl
ended_nothing (x ∷ xs) e = go x.last refl (ended_nothing xs)
  where
    shorter : (ms : List (List Record)) → longer x ms ≡ [] → ms ≡ []
    shorter [] h = refl
    shorter (m ∷ ms) h = absurd (let z : ◌≡◌ {A = ℕ} 0 1 = cc in omega arith)

    go : (q : Bool) → x.last ≡ q → (ended xs ≡ [] → flagged xs ≡ false) → (x.last || flagged xs) ≡ false
    go true f ih = let h = ended_here x xs f in absurd (let z : ◌≡◌ {A = ℕ} 0 1 = cc in omega arith)
    go false f ih = rw f (ih (shorter (ended xs) (sym (ended_more x xs f) ∙ e)))

longer_append : (x : Record) (xs : List Record) (ms : List (List Record)) → flagged xs ≡ true → longer x (ended xs ++ ms) ≡ longer x (ended xs) ++ ms
unfolding longer
longer_append x xs ms e = go (ended xs) refl
  where
    go : (es : List (List Record)) → ended xs ≡ es → longer x (es ++ ms) ≡ longer x es ++ ms
    go [] h = absurd (clash (sym (ended_nothing xs h) ∙ e))
    go (m ∷ es) h = refl

-- the moments of two parts
pub ended_append : (xs ys : List Record) → ended (xs ++ ys) ≡ ended xs ++ ended (open_of xs ++ ys)
unfolding ended open_of
ended_append [] ys = refl
ended_append (x ∷ xs) ys = go (flagged (x ∷ xs)) refl x.last refl (ended_append xs ys)
  where
    go : (p : Bool) → flagged (x ∷ xs) ≡ p → (q : Bool) → x.last ≡ q → ended (xs ++ ys) ≡ ended xs ++ ended (open_of xs ++ ys)
        → ended (x ∷ (xs ++ ys)) ≡ ended (x ∷ xs) ++ ended (open_of (x ∷ xs) ++ ys)
    go false e q f ih = rw (ended_none (x ∷ xs) e, open_none (x ∷ xs) e)
    go true e true f ih = rw (ended_here x (xs ++ ys) f, ended_here x xs f, open_more x xs e, ih)
    go true e false f ih =
        let more : flagged xs ≡ true = unfold flagged in rw f at e in
        rw (ended_more x (xs ++ ys) f, ended_more x xs f, open_more x xs e, ih) (longer_append x xs (ended (open_of xs ++ ys)) more)

-- the open moment of two parts
open_plain : (xs ys : List Record) → flagged ys ≡ false → open_of (xs ++ ys) ≡ open_of xs ++ ys
open_plain [] ys e = unfold open_of in open_none ys e
open_plain (x ∷ xs) ys e = go (flagged (x ∷ xs)) refl (open_plain xs ys e)
  where
    all : flagged (x ∷ (xs ++ ys)) ≡ flagged (x ∷ xs)
    all = flagged_append (x ∷ xs) ys ∙ rw e (or_no (flagged (x ∷ xs)))

    go : (q : Bool) → flagged (x ∷ xs) ≡ q → open_of (xs ++ ys) ≡ open_of xs ++ ys → open_of (x ∷ (xs ++ ys)) ≡ open_of (x ∷ xs) ++ ys
    go true f ih = open_more x (xs ++ ys) (all ∙ f) ∙ ih ∙ ap (λ (l : List Record). l ++ ys) (sym (open_more x xs f))
    go false f ih = open_none (x ∷ (xs ++ ys)) (all ∙ f) ∙ ap (λ (l : List Record). l ++ ys) (sym (open_none (x ∷ xs) f))

pub open_both : (xs ys : List Record) → open_of (xs ++ ys) ≡ open_of (open_of xs ++ ys)
open_both xs ys = go (flagged ys) refl
  where
    go : (q : Bool) → flagged ys ≡ q → open_of (xs ++ ys) ≡ open_of (open_of xs ++ ys)
    go true e = open_append xs ys e ∙ sym (open_append (open_of xs) ys e)
    go false e =
        open_plain xs ys e ∙ sym (open_plain (open_of xs) ys e ∙ ap (λ (l : List Record). l ++ ys) (open_none (open_of xs) (open_unflagged xs)))

-- the beginning of a moment
stamped_prefix : (s : ℕ) (xs ys : List Record) → stamped s (xs ++ ys) ≡ true → stamped s xs ≡ true
unfolding stamped
stamped_prefix s [] ys e = refl
stamped_prefix s (x ∷ xs) ys e =
    and_both (eqb x.stamp s) (stamped s xs) (and_left (eqb x.stamp s) (stamped s (xs ++ ys)) e)
    (stamped_prefix s xs ys (and_right (eqb x.stamp s) (stamped s (xs ++ ys)) e))

together_prefix : (xs ys : List Record) → together (xs ++ ys) ≡ true → together xs ≡ true
unfolding together
together_prefix [] ys e = refl
together_prefix (x ∷ xs) ys e =
    and_both (leb (suc (length xs)) 8) (stamped x.stamp xs)
    (le-leb (suc (length xs)) 8
    (omega (arith, leb-true (suc (length (xs ++ ys))) 8 (and_left (leb (suc (length (xs ++ ys))) 8) (stamped x.stamp (xs ++ ys)) e), length-append xs ys)))
    (stamped_prefix x.stamp xs ys (and_right (leb (suc (length (xs ++ ys))) 8) (stamped x.stamp (xs ++ ys)) e))

-- the first moment begins with the open records
record Begins (xs : List Record) (es : List (List Record)) : Type 0 where
  first : List Record
  others : List (List Record)
  whole : es ≡ (xs ++ first) ∷ others

begins : (xs ys : List Record) → flagged xs ≡ false → flagged ys ≡ true → Begins xs (ended (xs ++ ys))
unfolding flagged longer
begins [] ys e f = go (ended ys) refl
  where
    go : (es : List (List Record)) → ended ys ≡ es → Begins [] (ended ys)
    go [] h = absurd (clash (sym (ended_nothing ys h) ∙ f))
    go (m ∷ ms) h = record { first = m; others = ms; whole = h }
begins (x ∷ xs) ys e f =
    let both : (x.last ≡ false) × (flagged xs ≡ false) = or_none x.last (flagged xs) e in
    let b : Begins xs (ended (xs ++ ys)) = begins xs ys both.1 f in
    record { first = b.first; others = b.others; whole = ended_more x (xs ++ ys) both.0 ∙ rw b.whole }

pub together_open : (xs ys : List Record) → flagged xs ≡ false → unbroken (xs ++ ys) ≡ true → together xs ≡ true
unfolding unbroken all_together
together_open xs ys plain u = go (flagged ys) refl
  where
    go : (q : Bool) → flagged ys ≡ q → together xs ≡ true
    go true f =
        let b : Begins xs (ended (xs ++ ys)) = begins xs ys plain f in
        let t : all_together (ended (xs ++ ys)) ≡ true = and_left (all_together (ended (xs ++ ys))) (together (open_of (xs ++ ys))) u in
        together_prefix xs b.first (and_left (together (xs ++ b.first)) (all_together b.others) (rw b.whole at t))
    go false f =
        let none : flagged (xs ++ ys) ≡ false = flagged_append xs ys ∙ rw (plain, f) in
        together_prefix xs ys (rw (open_none (xs ++ ys) none) at (and_right (all_together (ended (xs ++ ys))) (together (open_of (xs ++ ys))) u))

-- moments of two lists
all_left : (xs ys : List (List Record)) → all_together (xs ++ ys) ≡ true → all_together xs ≡ true
unfolding all_together
all_left [] ys e = refl
all_left (x ∷ xs) ys e =
    and_both (together x) (all_together xs) (and_left (together x) (all_together (xs ++ ys)) e) (all_left xs ys (and_right (together x) (all_together (xs ++ ys)) e))

all_right : (xs ys : List (List Record)) → all_together (xs ++ ys) ≡ true → all_together ys ≡ true
unfolding all_together
all_right [] ys e = e
all_right (x ∷ xs) ys e = all_right xs ys (and_right (together x) (all_together (xs ++ ys)) e)

-- no breach in two parts: none in the second after what the first leaves open, and none in the first
pub unbroken_rest : (xs ys : List Record) → unbroken (xs ++ ys) ≡ true → unbroken (open_of xs ++ ys) ≡ true
unfolding unbroken
unbroken_rest xs ys u =
    and_both (all_together (ended (open_of xs ++ ys))) (together (open_of (open_of xs ++ ys)))
    (all_right (ended xs) (ended (open_of xs ++ ys))
    (rw (ended_append xs ys) at (and_left (all_together (ended (xs ++ ys))) (together (open_of (xs ++ ys))) u)))
    (rw (open_both xs ys) at (and_right (all_together (ended (xs ++ ys))) (together (open_of (xs ++ ys))) u))

pub unbroken_first : (xs ys : List Record) → unbroken (xs ++ ys) ≡ true → unbroken xs ≡ true
unfolding unbroken
unbroken_first xs ys u =
    and_both (all_together (ended xs)) (together (open_of xs))
    (all_left (ended xs) (ended (open_of xs ++ ys))
    (rw (ended_append xs ys) at (and_left (all_together (ended (xs ++ ys))) (together (open_of (xs ++ ys))) u)))
    (together_open (open_of xs) ys (open_unflagged xs) (unbroken_rest xs ys u))

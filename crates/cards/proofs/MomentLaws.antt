-- Laws of records in a row: flagged ones, whole moments, the open one. Assumes nothing.
use Prim.Native.Nat.{ℕ}
use mathlib.Core.Path.{◌≡◌, refl, sym, ap, ◌∙◌}
use mathlib.Core.Bool.{Bool, true, false, ◌||◌}
use native.Mathlib.Omega.{arith}
use mathlib.Core.List.{List, [], ◌∷◌, ◌++◌, append-nil}
use lib.ListN.{drop}
use Rattle.cards.specs.Moments.{Record, flagged, whole, open_of, past_first, longer, ended, together, all_together, unbroken}
use Rattle.cards.proofs.Tests.{or_no, clash, and_left, and_right, and_both, or_none}

-- a flagged record of two lists is in one of them
pub flagged_append : (xs ys : List Record) → flagged (xs ++ ys) ≡ (flagged xs || flagged ys)
unfolding flagged
flagged_append [] ys = refl
flagged_append (x ∷ xs) ys = go x.last (flagged_append xs ys)
  where
    go : (q : Bool) → flagged (xs ++ ys) ≡ (flagged xs || flagged ys) → (q || flagged (xs ++ ys)) ≡ ((q || flagged xs) || flagged ys)
    go true e = refl
    go false e = e

-- without a flagged record there is no whole moment, and all is open
pub whole_none : (xs : List Record) → flagged xs ≡ false → whole xs ≡ []
unfolding whole
whole_none [] e = refl
whole_none (x ∷ xs) e = rw (e, whole)

pub open_none : (xs : List Record) → flagged xs ≡ false → open_of xs ≡ xs
unfolding open_of
open_none [] e = refl
open_none (x ∷ xs) e = rw (e, open_of)

pub past_none : (xs : List Record) → flagged xs ≡ false → past_first xs ≡ []
unfolding flagged past_first
past_none [] e = refl
past_none (x ∷ xs) e =
    let both : (x.last ≡ false) × (flagged xs ≡ false) = or_none x.last (flagged xs) e in
    rw both.0 (past_none xs both.1)

pub ended_none : (xs : List Record) → flagged xs ≡ false → ended xs ≡ []
unfolding flagged ended longer
ended_none [] e = refl
ended_none (x ∷ xs) e =
    let both : (x.last ≡ false) × (flagged xs ≡ false) = or_none x.last (flagged xs) e in
    rw (both.0, ended_none xs both.1)

-- a list with a flagged record in its tail
pub whole_more : (x : Record) (xs : List Record) → flagged (x ∷ xs) ≡ true → whole (x ∷ xs) ≡ x ∷ whole xs
unfolding whole
whole_more x xs e = rw (e, whole)

pub open_more : (x : Record) (xs : List Record) → flagged (x ∷ xs) ≡ true → open_of (x ∷ xs) ≡ open_of xs
unfolding open_of
open_more x xs e = rw (e, open_of)

-- the open moment has no flagged record
pub open_unflagged : (xs : List Record) → flagged (open_of xs) ≡ false
unfolding open_of flagged
open_unflagged [] = refl
open_unflagged (x ∷ xs) = go (flagged (x ∷ xs)) refl (open_unflagged xs)
  where
    go : (q : Bool) → flagged (x ∷ xs) ≡ q → flagged (open_of xs) ≡ false → flagged (open_of (x ∷ xs)) ≡ false
    go true e ih = rw (open_more x xs e) ih
    go false e ih = rw (open_none (x ∷ xs) e) e

-- whole moments, and then the open one
pub whole_open : (xs : List Record) → whole xs ++ open_of xs ≡ xs
unfolding whole open_of
whole_open [] = refl
whole_open (x ∷ xs) = go (flagged (x ∷ xs)) refl (whole_open xs)
  where
    go : (q : Bool) → flagged (x ∷ xs) ≡ q → whole xs ++ open_of xs ≡ xs → whole (x ∷ xs) ++ open_of (x ∷ xs) ≡ x ∷ xs
    go true e ih = rw (whole_more x xs e, open_more x xs e) (ap (λ (l : List Record). x ∷ l) ih)
    go false e ih = rw (whole_none (x ∷ xs) e, open_none (x ∷ xs) e)

-- a flagged record stays among the whole moments
pub flagged_whole : (xs : List Record) → flagged (whole xs) ≡ flagged xs
unfolding flagged whole
flagged_whole [] = refl
flagged_whole (x ∷ xs) = go (flagged (x ∷ xs)) refl (flagged_whole xs)
  where
    go : (q : Bool) → flagged (x ∷ xs) ≡ q → flagged (whole xs) ≡ flagged xs → flagged (whole (x ∷ xs)) ≡ flagged (x ∷ xs)
    go true e ih = rw (whole_more x xs e) (ap (λ (b : Bool). x.last || b) ih)
    go false e ih = rw (whole_none (x ∷ xs) e) (sym e)

-- whole moments leave none open
pub open_whole : (xs : List Record) → open_of (whole xs) ≡ []
unfolding open_of whole flagged
open_whole [] = refl
open_whole (x ∷ xs) = go (flagged (x ∷ xs)) refl (open_whole xs)
  where
    go : (q : Bool) → flagged (x ∷ xs) ≡ q → open_of (whole xs) ≡ [] → open_of (whole (x ∷ xs)) ≡ []
    go true e ih =
        let f : flagged (x ∷ whole xs) ≡ true = ap (λ (b : Bool). x.last || b) (flagged_whole xs) ∙ e in
        rw (whole_more x xs e) (open_more x (whole xs) f ∙ ih)
    go false e ih = rw (whole_none (x ∷ xs) e)

-- a record ends a moment, or begins a longer one
pub ended_here : (x : Record) (xs : List Record) → x.last ≡ true → ended (x ∷ xs) ≡ (x ∷ []) ∷ ended xs
unfolding ended
ended_here x xs f = ap (λ (q : Bool). ends_by q) f
  where
    ends_by : Bool → List (List Record)
    ends_by q = elim q [ true ↦ (x ∷ []) ∷ ended xs | false ↦ longer x (ended xs) ]

pub ended_more : (x : Record) (xs : List Record) → x.last ≡ false → ended (x ∷ xs) ≡ longer x (ended xs)
unfolding ended
ended_more x xs f = ap (λ (q : Bool). ends_by q) f
  where
    ends_by : Bool → List (List Record)
    ends_by q = elim q [ true ↦ (x ∷ []) ∷ ended xs | false ↦ longer x (ended xs) ]

ended_same : (x : Record) (xs ys : List Record) → ended xs ≡ ended ys → ended (x ∷ xs) ≡ ended (x ∷ ys)
ended_same x xs ys e = go x.last refl
  where
    go : (q : Bool) → x.last ≡ q → ended (x ∷ xs) ≡ ended (x ∷ ys)
    go true f = ended_here x xs f ∙ rw e (sym (ended_here x ys f))
    go false f = ended_more x xs f ∙ rw e (sym (ended_more x ys f))

pub ended_whole : (xs : List Record) → ended (whole xs) ≡ ended xs
unfolding ended whole
ended_whole [] = refl
ended_whole (x ∷ xs) = go (flagged (x ∷ xs)) refl (ended_whole xs)
  where
    go : (q : Bool) → flagged (x ∷ xs) ≡ q → ended (whole xs) ≡ ended xs → ended (whole (x ∷ xs)) ≡ ended (x ∷ xs)
    go true e ih = rw (whole_more x xs e) (ended_same x (whole xs) xs ih)
    go false e ih = rw (whole_none (x ∷ xs) e) (sym (ended_none (x ∷ xs) e))

-- records in two parts: a flagged one in the later part, or none there
pub whole_append : (xs ys : List Record) → flagged ys ≡ true → whole (xs ++ ys) ≡ xs ++ whole ys
unfolding whole flagged
whole_append [] ys e = refl
whole_append (x ∷ xs) ys e =
    let f : flagged (x ∷ (xs ++ ys)) ≡ true = go x.last (flagged xs) in
    rw (whole_more x (xs ++ ys) f) (ap (λ (l : List Record). x ∷ l) (whole_append xs ys e))
  where
    go : (p q : Bool) → (p || flagged (xs ++ ys)) ≡ true
    go true q = refl
    go false q = flagged_append xs ys ∙ rw e (last_true (flagged xs))
      where
        last_true : (b : Bool) → (b || true) ≡ true
        last_true true = refl
        last_true false = refl

pub whole_plain : (xs ys : List Record) → flagged ys ≡ false → whole (xs ++ ys) ≡ whole xs
unfolding whole flagged
whole_plain [] ys e = whole_none ys e
whole_plain (x ∷ xs) ys e = go (flagged (x ∷ xs)) refl (whole_plain xs ys e)
  where
    all : flagged (x ∷ (xs ++ ys)) ≡ flagged (x ∷ xs)
    all = flagged_append (x ∷ xs) ys ∙ rw e (or_no (flagged (x ∷ xs)))

    go : (q : Bool) → flagged (x ∷ xs) ≡ q → whole (xs ++ ys) ≡ whole xs → whole (x ∷ (xs ++ ys)) ≡ whole (x ∷ xs)
    go true f ih = whole_more x (xs ++ ys) (all ∙ f) ∙ ap (λ (l : List Record). x ∷ l) ih ∙ sym (whole_more x xs f)
    go false f ih = whole_none (x ∷ (xs ++ ys)) (all ∙ f) ∙ sym (whole_none (x ∷ xs) f)

-- the records after the first flagged one
pub past_append : (xs ys : List Record) → flagged xs ≡ true → past_first (xs ++ ys) ≡ past_first xs ++ ys
unfolding past_first flagged
past_append [] ys e = absurd (clash e)
past_append (x ∷ xs) ys e = go x.last refl (past_append xs ys)
  where
    go : (q : Bool) → x.last ≡ q → (flagged xs ≡ true → past_first (xs ++ ys) ≡ past_first xs ++ ys)
        → past_first (x ∷ (xs ++ ys)) ≡ past_first (x ∷ xs) ++ ys
    go true f ih = rw f
    go false f ih = rw f (ih (rw f at e))

pub past_plain : (xs ys : List Record) → flagged xs ≡ false → past_first (xs ++ ys) ≡ past_first ys
unfolding past_first flagged
past_plain [] ys e = refl
past_plain (x ∷ xs) ys e =
    let both : (x.last ≡ false) × (flagged xs ≡ false) = or_none x.last (flagged xs) e in
    rw both.0 (past_plain xs ys both.1)

-- past one that is not flagged, or past the first one
pub past_more : (x : Record) (xs : List Record) → x.last ≡ false → past_first (x ∷ xs) ≡ past_first xs
unfolding past_first
past_more x xs f = rw (f, past_first)

pub past_here : (x : Record) (xs : List Record) → x.last ≡ true → past_first (x ∷ xs) ≡ xs
unfolding past_first
past_here x xs f = rw (f, past_first)

pub past_whole : (xs : List Record) → past_first (whole xs) ≡ whole (past_first xs)
unfolding past_first whole
past_whole [] = refl
past_whole (x ∷ xs) = go (flagged (x ∷ xs)) refl x.last refl (past_whole xs)
  where
    go : (p : Bool) → flagged (x ∷ xs) ≡ p → (q : Bool) → x.last ≡ q → past_first (whole xs) ≡ whole (past_first xs)
        → past_first (whole (x ∷ xs)) ≡ whole (past_first (x ∷ xs))
    go true e true f ih = rw (whole_more x xs e) (past_here x (whole xs) f ∙ rw (past_here x xs f))
    go true e false f ih = rw (whole_more x xs e) (past_more x (whole xs) f ∙ ih ∙ rw (past_more x xs f))
    go false e q f ih = rw (whole_none (x ∷ xs) e, past_none (x ∷ xs) e)

pub open_past : (xs : List Record) → flagged xs ≡ true → open_of (past_first xs) ≡ open_of xs
unfolding past_first flagged
open_past [] e = absurd (clash e)
open_past (x ∷ xs) e = open_step x.last refl (open_past xs)
  where
    open_step : (q : Bool) → x.last ≡ q → (flagged xs ≡ true → open_of (past_first xs) ≡ open_of xs) → open_of (past_first (x ∷ xs)) ≡ open_of (x ∷ xs)
    open_step true f ih = rw (past_here x xs f, open_more x xs e)
    open_step false f ih = rw (past_more x xs f, open_more x xs e) (ih (rw f at e))

-- the first moment goes, the others stay
pub ended_past : (xs : List Record) → ended (past_first xs) ≡ drop 1 (ended xs)
unfolding ended past_first longer
ended_past [] = refl
ended_past (x ∷ xs) = go x.last refl (ended_past xs)
  where
    shorter : (ms : List (List Record)) → drop 1 (longer x ms) ≡ drop 1 ms
    shorter [] = refl
    shorter (m ∷ ms) = refl

    go : (q : Bool) → x.last ≡ q → ended (past_first xs) ≡ drop 1 (ended xs) → ended (past_first (x ∷ xs)) ≡ drop 1 (ended (x ∷ xs))
    go true f ih = rw f
    go false f ih = rw f (ih ∙ sym (shorter (ended xs)))

-- no breach comes in when records go
pub unbroken_whole : (xs : List Record) → unbroken xs ≡ true → unbroken (whole xs) ≡ true
unfolding unbroken together
unbroken_whole xs e =
    rw (ended_whole xs, open_whole xs) (and_both (all_together (ended xs)) true (and_left (all_together (ended xs)) (together (open_of xs)) e) refl)

pub unbroken_past : (xs : List Record) → unbroken xs ≡ true → unbroken (past_first xs) ≡ true
unfolding unbroken together
unbroken_past xs e =
    and_both (all_together (ended (past_first xs))) (together (open_of (past_first xs)))
    (rw (ended_past xs) (fewer (ended xs) (and_left (all_together (ended xs)) (together (open_of xs)) e)))
    (go (flagged xs) refl)
  where
    fewer : (ms : List (List Record)) → all_together ms ≡ true → all_together (drop 1 ms) ≡ true
    fewer [] h = h
    fewer (m ∷ ms) h = unfold all_together in and_right (together m) (all_together ms) h

    go : (q : Bool) → flagged xs ≡ q → together (open_of (past_first xs)) ≡ true
    go true f = rw (open_past xs f) (and_right (all_together (ended xs)) (together (open_of xs)) e)
    go false f = rw (past_none xs f) (unfold open_of together in refl)

-- where nothing is open after records that follow open ones, they end with a flagged one
pub open_append : (xs ys : List Record) → flagged ys ≡ true → open_of (xs ++ ys) ≡ open_of ys
unfolding flagged
open_append [] ys e = refl
open_append (x ∷ xs) ys e = rw (open_more x (xs ++ ys) (rw (flagged_append xs ys, e) (go x.last (flagged xs)))) (open_append xs ys e)
  where
    go : (p q : Bool) → (p || (q || true)) ≡ true
    go true q = refl
    go false true = refl
    go false false = refl

pub whole_all : (opened rs : List Record) → flagged opened ≡ false → open_of (opened ++ rs) ≡ [] → whole rs ≡ rs
whole_all opened rs plain e = go (flagged rs) refl
  where
    none : (xs ys : List Record) → xs ++ ys ≡ [] → ys ≡ []
    none [] ys h = h
    none (x ∷ xs) ys h = absurd (let z : ◌≡◌ {A = ℕ} 0 1 = cc in omega arith)

    go : (q : Bool) → flagged rs ≡ q → whole rs ≡ rs
    go true f = sym (append-nil (whole rs)) ∙ ap (λ (l : List Record). whole rs ++ l) (sym e ∙ open_append opened rs f) ∙ whole_open rs
    go false f =
        let plain-all : flagged (opened ++ rs) ≡ false = flagged_append opened rs ∙ rw (plain, f) in
        let r : rs ≡ [] = none opened rs (sym (open_none (opened ++ rs) plain-all) ∙ e) in
        rw r (unfold whole in refl)

-- A moment's records: they end just that moment, make no breach, and say the moment. Assumes nothing.
use Prim.Native.Nat.{ℕ, suc, ◌≤◌}
use native.Mathlib.Omega.{arith}
use mathlib.Core.Path.{◌≡◌, refl, ap, ◌∙◌}
use mathlib.Core.Bool.{true, false}
use mathlib.Core.List.{List, [], ◌∷◌, ◌++◌, map}
use lib.Dec.{leb}
use lib.ListN.{length}
use borrow.Author.Tests.{le-leb, eq-eqb}
use Rattle.cards.specs.Bytes.{joined}
use Rattle.cards.specs.Moments.{Record, Fact, Moment, flagged, open_of, longer, ended, stamped, together, all_together, unbroken, fact_of, moment_of}
use Rattle.cards.specs.Reading.{moments_of}
use Rattle.cards.specs.Writing.{Every, Fits, RightFact, RightMoment, record_for, records_for, records_of}
use Rattle.cards.proofs.Tests.{and_both}
use Rattle.cards.proofs.MomentLaws.{flagged_append, open_more}
use Rattle.cards.proofs.BlockLaws.{Says, right_says}

-- the last record is flagged
flagged_facts : (s : ℕ) (fs : List Fact) → 1 ≤ length fs → flagged (records_for s fs) ≡ true
unfolding flagged records_for record_for
flagged_facts s [] h = absurd (omega arith)
flagged_facts s (f ∷ []) h = refl
flagged_facts s (f ∷ g ∷ fs) h = flagged_facts s (g ∷ fs) (omega arith)

-- they end just one moment
ended_facts : (s : ℕ) (fs : List Fact) (ys : List Record) → 1 ≤ length fs → ended (records_for s fs ++ ys) ≡ records_for s fs ∷ ended ys
unfolding ended records_for record_for longer
ended_facts s [] ys h = absurd (omega arith)
ended_facts s (f ∷ []) ys h = refl
ended_facts s (f ∷ g ∷ fs) ys h = ap (longer (record_for s f false)) (ended_facts s (g ∷ fs) ys (omega arith))

-- a record that is not flagged changes nothing in that
unflagged : (s : ℕ) (f : Fact) (rs : List Record) → flagged (record_for s f false ∷ rs) ≡ flagged rs
unfolding flagged record_for
unflagged s f rs = refl

open_facts : (s : ℕ) (fs : List Fact) (ys : List Record) → 1 ≤ length fs → open_of (records_for s fs ++ ys) ≡ open_of ys
unfolding records_for
open_facts s [] ys h = absurd (omega arith)
open_facts s (f ∷ []) ys h = open_more (record_for s f true) ys (unfold flagged record_for in refl)
open_facts s (f ∷ g ∷ fs) ys h =
    let some : flagged (records_for s (g ∷ fs) ++ ys) ≡ true = flagged_append (records_for s (g ∷ fs)) ys ∙ rw (flagged_facts s (g ∷ fs) (omega arith)) in
    open_more (record_for s f false) (records_for s (g ∷ fs) ++ ys) (unflagged s f (records_for s (g ∷ fs) ++ ys) ∙ some) ∙ open_facts s (g ∷ fs) ys (omega arith)

-- they are together
length_facts : (s : ℕ) (fs : List Fact) → length (records_for s fs) ≡ length fs
unfolding records_for
length_facts s [] = refl
length_facts s (f ∷ []) = refl
length_facts s (f ∷ g ∷ fs) = ap suc (length_facts s (g ∷ fs))

stamped_facts : (s : ℕ) (fs : List Fact) → stamped s (records_for s fs) ≡ true
unfolding stamped records_for record_for
stamped_facts s [] = refl
stamped_facts s (f ∷ []) = rw (eq-eqb s s refl)
stamped_facts s (f ∷ g ∷ fs) = rw (eq-eqb s s refl) (stamped_facts s (g ∷ fs))

together_facts : (s : ℕ) (fs : List Fact) → length fs ≤ 8 → together (records_for s fs) ≡ true
unfolding together records_for record_for
together_facts s [] h = refl
together_facts s (f ∷ []) h = unfold stamped in refl
together_facts s (f ∷ g ∷ fs) h =
    and_both (leb (suc (length (records_for s (g ∷ fs)))) 8) (stamped s (records_for s (g ∷ fs)))
    (le-leb (suc (length (records_for s (g ∷ fs)))) 8 (omega (arith, length_facts s (g ∷ fs)))) (stamped_facts s (g ∷ fs))

-- they say the moment
facts_back : (s : ℕ) (fs : List Fact) → map fact_of (records_for s fs) ≡ fs
unfolding fact_of records_for record_for
facts_back s [] = refl
facts_back s (f ∷ []) = refl
facts_back s (f ∷ g ∷ fs) = ap (λ (l : List Fact). f ∷ l) (facts_back s (g ∷ fs))

moment_facts : (s : ℕ) (fs : List Fact) → 1 ≤ length fs → moment_of (records_for s fs) ≡ record { stamp = s; facts = fs }
unfolding moment_of records_for record_for
moment_facts s [] h = absurd (omega arith)
moment_facts s (f ∷ []) h = unfold fact_of in refl
moment_facts s (f ∷ g ∷ fs) h = ap (λ (l : List Fact). record { stamp = s; facts = l }) (facts_back s (f ∷ g ∷ fs))

-- each is read back from its bytes
says_facts : (s : ℕ) (fs : List Fact) → Fits s → Every RightFact fs → Every Says (records_for s fs)
unfolding records_for record_for
says_facts s [] h e = tt
says_facts s (f ∷ []) h e =
    (right_says (record_for s f true) (record { stamp = h; predicate = e.0.predicate; values = e.0.values; few = e.0.few }), tt)
says_facts s (f ∷ g ∷ fs) h e = (
  right_says (record_for s f false) (record { stamp = h; predicate = e.0.predicate; values = e.0.values; few = e.0.few }),
  says_facts s (g ∷ fs) h e.1,
)

-- the records of moments, one after the other: their moments, no open one, no breach, and each read back
pub ended_moments : (ms : List Moment) → Every RightMoment ms → ended (joined (map records_of ms)) ≡ map records_of ms
unfolding joined records_of
ended_moments [] h = unfold ended in refl
ended_moments (m ∷ ms) h =
    ended_facts m.stamp m.facts (joined (map records_of ms)) h.0.some
    ∙ ap (λ (l : List (List Record)). records_for m.stamp m.facts ∷ l) (ended_moments ms h.1)

pub open_moments : (ms : List Moment) → Every RightMoment ms → open_of (joined (map records_of ms)) ≡ []
unfolding joined records_of
open_moments [] h = unfold open_of in refl
open_moments (m ∷ ms) h = open_facts m.stamp m.facts (joined (map records_of ms)) h.0.some ∙ open_moments ms h.1

all_moments : (ms : List Moment) → Every RightMoment ms → all_together (map records_of ms) ≡ true
unfolding all_together records_of
all_moments [] h = refl
all_moments (m ∷ ms) h =
    and_both (together (records_for m.stamp m.facts)) (all_together (map records_of ms))
    (together_facts m.stamp m.facts h.0.few) (all_moments ms h.1)

pub unbroken_moments : (ms : List Moment) → Every RightMoment ms → unbroken (joined (map records_of ms)) ≡ true
unfolding unbroken together
unbroken_moments ms h = rw (ended_moments ms h, open_moments ms h) (rw (all_moments ms h))

pub moments_back : (ms : List Moment) → Every RightMoment ms → moments_of (joined (map records_of ms)) ≡ ms
unfolding moments_of
moments_back ms h = rw (ended_moments ms h) (each ms h)
  where
    each : (ns : List Moment) → Every RightMoment ns → map moment_of (map records_of ns) ≡ ns
    each [] k = refl
    each (n ∷ ns) k = rw (each ns k.1) (ap (λ (l : Moment). l ∷ ns) (unfold records_of in moment_facts n.stamp n.facts k.0.some))

says_append : (xs ys : List Record) → Every Says xs → Every Says ys → Every Says (xs ++ ys)
says_append [] ys a b = b
says_append (x ∷ xs) ys a b = (a.0, says_append xs ys a.1 b)

pub says_moments : (ms : List Moment) → Every RightMoment ms → Every Says (joined (map records_of ms))
unfolding joined records_of
says_moments [] h = tt
says_moments (m ∷ ms) h =
    says_append (records_for m.stamp m.facts) (joined (map records_of ms)) (says_facts m.stamp m.facts h.0.stamp h.0.facts)
    (says_moments ms h.1)

-- The count and the stamp of the open moment are enough: a breach is found with them, and they are carried on. Assumes nothing.
use Prim.Native.Nat.{ℕ, suc}
use mathlib.Core.Path.{◌≡◌, refl, sym, ap, ◌∙◌}
use mathlib.Core.Bool.{Bool, true, false, ◌&&◌}
use mathlib.Core.List.{List, [], ◌∷◌, ◌++◌, append-nil}
use lib.Dec.{eqb, leb, eqb-suc-zero}
use lib.ListN.{length}
use lib.Seq.{append_snoc}
use Rattle.cards.specs.Moments.{Record, flagged, open_of, longer, ended, stamped, together, all_together, unbroken}
use Rattle.cards.specs.Counting.{Open, stamp_of, opening_of, closed, more, belongs, next, open_after, all_belong}
use Rattle.cards.proofs.Tests.{and_yes, clash, and_right, or_none}
use Rattle.cards.proofs.MomentLaws.{flagged_append, open_none, ended_none, ended_here, ended_more, open_more, open_append}
use Rattle.cards.proofs.SplitLaws.{ended_append, open_both, together_open}

-- one record more at the end
length_snoc : (xs : List Record) (r : Record) → length (xs ++ (r ∷ [])) ≡ suc (length xs)
length_snoc [] r = refl
length_snoc (x ∷ xs) r = ap suc (length_snoc xs r)

open_snoc : (xs : List Record) (r : Record) → opening_of (xs ++ (r ∷ [])) ≡ more (length xs) (stamp_of xs) r.stamp
unfolding opening_of stamp_of more
open_snoc [] r = refl
open_snoc (x ∷ xs) r = rw (length_snoc xs r)

stamped_snoc : (s : ℕ) (xs : List Record) (r : Record) → stamped s (xs ++ (r ∷ [])) ≡ (stamped s xs && eqb r.stamp s)
unfolding stamped
stamped_snoc s [] r = and_yes (eqb r.stamp s)
stamped_snoc s (x ∷ xs) r = go (eqb x.stamp s) (stamped_snoc s xs r)
  where
    go : (q : Bool) → stamped s (xs ++ (r ∷ [])) ≡ (stamped s xs && eqb r.stamp s)
        → (q && stamped s (xs ++ (r ∷ []))) ≡ ((q && stamped s xs) && eqb r.stamp s)
    go true e = e
    go false e = refl

-- the open records and one more are together exactly if it can belong
together_snoc : (xs : List Record) (r : Record) → together xs ≡ true → together (xs ++ (r ∷ [])) ≡ belongs (opening_of xs) r
unfolding together belongs opening_of stamp_of stamped
together_snoc [] r e = refl
together_snoc (x ∷ xs) r e =
    rw (length_snoc xs r, stamped_snoc x.stamp xs r, and_right (leb (suc (length xs)) 8) (stamped x.stamp xs) e, eqb-suc-zero (length xs))

-- a flagged record ends the open moment
ends_one : (xs : List Record) (r : Record) → flagged xs ≡ false → r.last ≡ true → ended (xs ++ (r ∷ [])) ≡ (xs ++ (r ∷ [])) ∷ []
unfolding flagged longer
ends_one [] r plain f = ended_here r [] f ∙ ap (λ (l : List (List Record)). (r ∷ []) ∷ l) (ended_none [] refl)
ends_one (x ∷ xs) r plain f =
    let both : (x.last ≡ false) × (flagged xs ≡ false) = or_none x.last (flagged xs) plain in
    ended_more x (xs ++ (r ∷ [])) both.0 ∙ ap (longer x) (ends_one xs r both.1 f)

leaves_none : (xs : List Record) (r : Record) → r.last ≡ true → open_of (xs ++ (r ∷ [])) ≡ []
unfolding flagged
leaves_none xs r f =
    let one : flagged (r ∷ []) ≡ true = rw f in
    open_append xs (r ∷ []) one ∙ open_more r [] one ∙ open_none [] refl

and_assoc : (a b c : Bool) → ((a && b) && c) ≡ (a && (b && c))
and_assoc true b c = refl
and_assoc false b c = refl

unbroken_ended : (xs : List Record) (r : Record) (rs : List Record) → flagged xs ≡ false → r.last ≡ true
    → unbroken ((xs ++ (r ∷ [])) ++ rs) ≡ (together (xs ++ (r ∷ [])) && unbroken rs)
unfolding unbroken all_together
unbroken_ended xs r rs plain f =
    rw (ended_append (xs ++ (r ∷ [])) rs, open_both (xs ++ (r ∷ [])) rs, leaves_none xs r f, ends_one xs r plain f)
    (and_assoc (together (xs ++ (r ∷ []))) (all_together (ended rs)) (together (open_of rs)))

-- one record more keeps the open moment plain
plain_snoc : (xs : List Record) (r : Record) → flagged xs ≡ false → r.last ≡ false → flagged (xs ++ (r ∷ [])) ≡ false
unfolding flagged
plain_snoc xs r plain f = flagged_append xs (r ∷ []) ∙ rw (plain, f)

next_last : (o : Open) (r : Record) → r.last ≡ true → next o r ≡ closed
unfolding next
next_last o r f = rw (f, next)

next_more : (o : Open) (r : Record) → r.last ≡ false → next o r ≡ more o.count o.stamp r.stamp
unfolding next
next_more o r f = rw (f, next)

next_open : (xs : List Record) (r : Record) → r.last ≡ false → next (opening_of xs) r ≡ opening_of (xs ++ (r ∷ []))
unfolding opening_of
next_open xs r f = next_more (opening_of xs) r f ∙ sym (unfold opening_of in open_snoc xs r)

pub none_open : opening_of [] ≡ closed
unfolding opening_of closed stamp_of
none_open = refl

pub no_flag : flagged [] ≡ false
unfolding flagged
no_flag = refl

-- what is open, carried on record by record
pub counted_open : (xs rs : List Record) → flagged xs ≡ false → opening_of (open_of (xs ++ rs)) ≡ open_after (opening_of xs) rs
unfolding open_after
counted_open xs [] plain = rw (append-nil xs, open_none xs plain)
counted_open xs (r ∷ rs) plain = go r.last refl (counted_open [] rs no_flag) (counted_open (xs ++ (r ∷ [])) rs)
  where
    go : (q : Bool) → r.last ≡ q → opening_of (open_of rs) ≡ open_after (opening_of []) rs
        → (flagged (xs ++ (r ∷ [])) ≡ false → opening_of (open_of ((xs ++ (r ∷ [])) ++ rs)) ≡ open_after (opening_of (xs ++ (r ∷ []))) rs)
        → opening_of (open_of (xs ++ (r ∷ rs))) ≡ open_after (next (opening_of xs) r) rs
    go true f none ih =
        ap (λ (l : List Record). opening_of (open_of l)) (sym (append_snoc xs r rs))
        ∙ ap opening_of (open_both (xs ++ (r ∷ [])) rs ∙ ap (λ (l : List Record). open_of (l ++ rs)) (leaves_none xs r f))
        ∙ none ∙ ap (λ (o : Open). open_after o rs) (none_open ∙ sym (next_last (opening_of xs) r f))
    go false f none ih =
        ap (λ (l : List Record). opening_of (open_of l)) (sym (append_snoc xs r rs))
        ∙ ih (plain_snoc xs r plain f) ∙ ap (λ (o : Open). open_after o rs) (sym (next_open xs r f))

open_unbroken : (xs : List Record) → flagged xs ≡ false → together xs ≡ true → unbroken xs ≡ true
unfolding unbroken all_together
open_unbroken xs plain t = rw (ended_none xs plain, open_none xs plain) t

-- a breach, found record by record
pub counted_unbroken : (xs rs : List Record) → flagged xs ≡ false → together xs ≡ true → unbroken (xs ++ rs) ≡ all_belong (opening_of xs) rs
unfolding all_belong
counted_unbroken xs [] plain t = rw (append-nil xs) (open_unbroken xs plain t)
counted_unbroken xs (r ∷ rs) plain t =
    go r.last refl (belongs (opening_of xs) r) refl (counted_unbroken [] rs no_flag (unfold together in refl)) (counted_unbroken (xs ++ (r ∷ [])) rs)
  where
    one : together (xs ++ (r ∷ [])) ≡ belongs (opening_of xs) r
    one = together_snoc xs r t

    go : (q : Bool) → r.last ≡ q → (p : Bool) → belongs (opening_of xs) r ≡ p → unbroken rs ≡ all_belong (opening_of []) rs
        → (flagged (xs ++ (r ∷ [])) ≡ false → together (xs ++ (r ∷ [])) ≡ true → unbroken ((xs ++ (r ∷ [])) ++ rs) ≡ all_belong (opening_of (xs ++ (r ∷ []))) rs)
        → unbroken (xs ++ (r ∷ rs)) ≡ (belongs (opening_of xs) r && all_belong (next (opening_of xs) r) rs)
    go true f p b none ih =
        ap unbroken (sym (append_snoc xs r rs)) ∙ unbroken_ended xs r rs plain f
        ∙ rw (one, none, next_last (opening_of xs) r f, none_open)
    go false f true b none ih =
        ap unbroken (sym (append_snoc xs r rs)) ∙ ih (plain_snoc xs r plain f) (one ∙ b) ∙ rw (b, next_open xs r f)
    go false f false b none ih = ap unbroken (sym (append_snoc xs r rs)) ∙ broken (unbroken ((xs ++ (r ∷ [])) ++ rs)) refl ∙ rw b
      where
        broken : (w : Bool) → unbroken ((xs ++ (r ∷ [])) ++ rs) ≡ w → w ≡ false
        broken true u = absurd (clash (sym (one ∙ b) ∙ together_open (xs ++ (r ∷ [])) rs (plain_snoc xs r plain f) u))
        broken false u = refl

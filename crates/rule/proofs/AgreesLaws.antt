-- Laws of the question about an event's counts: it asks, of each fact, each atom of the rule. Assumes nothing.
use Prim.Native.Nat.{ℕ, zero, suc, min, ◌≤◌, ◌<◌}
use mathlib.Core.Path.{◌≡◌, refl, sym, ◌∙◌}
use mathlib.Core.Bool.{Bool, true, false, not, ◌&&◌, ◌||◌}
use mathlib.Core.List.{List, [], ◌∷◌, ◌++◌}
use native.Mathlib.Omega.{arith}
use lib.Dec.{eqb, leb}
use lib.ListN.{length, get_or, take, length-take}
use borrow.Author.Tests.{ne_eqb, le-leb, lt-leb}
use Rattle.std.specs.List.{list_all, range_with_len}
use Rattle.std.proofs.lemmas.List.FromFn.{length-range_with_len, get_or-range_with_len}
use Rattle.std.proofs.lemmas.List.Sums.{AllPass-from_list_all, list_all-from_AllPass}
use Rattle.trees.specs.Kept.{all_below}
use Rattle.trees.proofs.Tests.{false_true, not_true}
use Rattle.trees.proofs.KeptLaws.{all_at, all_of}
use Rattle.meaning.specs.declared.Event.{Event}
use Rattle.meaning.specs.declared.Fact.{Fact as Given}
use Rattle.meaning.specs.Qtl.{Argument}
use Rattle.meaning.specs.Rows.{Row, field, argument_at, of_kind, row_at, rows_up_to, count_of_rows, rule_of}
use Rattle.meaning.specs.Outcome.{given, agrees, all_agree, fact_right, all_right, count_right}
use Rattle.rule.specs.Checking.{atom_of, other_count, FactAgrees, Agrees}

-- a fact agrees with a row unless the row is an atom of its predicate with another count
agrees_kind : (f : Given) (k p q n : ℕ) (gs : List Argument) → length gs ≡ n
    → agrees f (of_kind k p q gs) ≡ not ((eqb k 2 && eqb f.predicate p) && not (eqb n f.count))
unfolding agrees of_kind
agrees_kind f zero p q n gs h = refl
agrees_kind f (suc zero) p q n gs h = refl
agrees_kind f (suc (suc zero)) p q n gs h = rw h (both_ways (eqb f.predicate p) (eqb n f.count))
  where
    both_ways : (a b : Bool) → (not a || b) ≡ not (a && not b)
    both_ways true true = refl
    both_ways true false = refl
    both_ways false b = refl
agrees_kind f (suc (suc (suc zero))) p q n gs h = refl
agrees_kind f (suc (suc (suc (suc zero)))) p q n gs h = refl
agrees_kind f (suc (suc (suc (suc (suc zero))))) p q n gs h = refl
agrees_kind f (suc (suc (suc (suc (suc (suc zero)))))) p q n gs h = refl
agrees_kind f (suc (suc (suc (suc (suc (suc (suc k))))))) p q n gs h = rw (ne_eqb (suc (suc (suc (suc (suc (suc (suc k))))))) 2 (λ z. omega arith))

-- the same of the row at place i
agrees_at : (raw : List ℕ) (f : Given) (i : ℕ) → agrees f (row_at raw i) ≡ not (other_count raw i f.predicate f.count)
unfolding row_at other_count atom_of
agrees_at raw f i = agrees_kind f (field raw i 0) (field raw i 1) (field raw i 2) (min (field raw i 2) 3) _
    (length-take (field raw i 2) (argument_at raw i 0 ∷ argument_at raw i 1 ∷ argument_at raw i 2 ∷ []))

-- one more row
agree_more : (f : Given) (rs : List Row) (r : Row) → all_agree f (rs ++ r ∷ []) ≡ (all_agree f rs && agrees f r)
unfolding all_agree
agree_more f [] r = last (agrees f r)
  where
    last : (b : Bool) → (b && true) ≡ b
    last true = refl
    last false = refl
agree_more f (x ∷ rs) r = rw (agree_more f rs r) (regroup (agrees f x) (all_agree f rs) (agrees f r))
  where
    regroup : (a b c : Bool) → (a && (b && c)) ≡ ((a && b) && c)
    regroup true b c = refl
    regroup false b c = refl

-- all rows, by their places
agree_all : (raw : List ℕ) (f : Given) (n : ℕ) → all_agree f (rows_up_to raw n) ≡ all_below n (λ j. not (other_count raw j f.predicate f.count))
unfolding rows_up_to all_below all_agree
agree_all raw f zero = refl
agree_all raw f (suc n) = agree_more f (rows_up_to raw n) (row_at raw n) ∙ rw (agree_all raw f n, agrees_at raw f n)

-- the whole test of a fact, by the places of the rows
fact_is : (raw : List ℕ) (f : Given) → fact_right (rule_of raw) f ≡ (leb f.count 3 && all_below (count_of_rows raw) (λ j. not (other_count raw j f.predicate f.count)))
unfolding fact_right rule_of
fact_is raw f = rw (agree_all raw f (count_of_rows raw))

-- a fact has more than three values
pub counts_high : (raw : List ℕ) (p n : ℕ) → 3 < n → FactAgrees raw p n false
counts_high raw p n h = record { each = λ f fp fn. sym (fact_is raw f ∙ rw (fn, lt-leb n 3 h)) }

-- the numbers below n, tested one after the other
pub all_numbers : (n : ℕ) (f : ℕ → Bool) → list_all f (range_with_len 0 n) ≡ all_below n f
all_numbers n f = go (list_all f (range_with_len 0 n)) refl
  where
    at : (k d : ℕ) → k < n → get_or (range_with_len 0 n) k d ≡ k
    at k d l = get_or-range_with_len 0 n k d l ∙ omega arith

    go : (t : Bool) → list_all f (range_with_len 0 n) ≡ t → t ≡ all_below n f
    go true e = sym (all_of n f (λ k l. rw (at k 0 l) at (AllPass-from_list_all f _ e k 0 (rw (length-range_with_len 0 n) l))))
    go false e = sym (not_true (all_below n f) (λ h. false_true e (list_all-from_AllPass f (range_with_len 0 n) (λ k d l. let m : k < n = rw (length-range_with_len 0 n) at l in rw (at k d m) (all_at n f h k m)))))

-- no atom of the predicate has another count
pub counts_all : (raw : List ℕ) (p n : ℕ) {r : Bool} → n ≤ 3 → r ≡ all_below (count_of_rows raw) (λ j. not (other_count raw j p n)) → FactAgrees raw p n r
counts_all raw p n l e = record { each = λ f fp fn. e ∙ sym (fact_is raw f ∙ rw (fp, fn, le-leb n 3 l) refl) }

-- what a read past the facts would give
abbrev pub no_fact : Given
no_fact = record { predicate = 0; count = 0; values = [] }

-- facts that are all right
facts_all : (rule : List Row) (fs : List Given) → list_all (fact_right rule) fs ≡ all_right rule fs
unfolding all_right
facts_all rule [] = refl
facts_all rule (f ∷ fs) = rw (facts_all rule fs)

-- what is found of a fact's predicate and count is found of the fact
pub fact_found : (raw : List ℕ) (f : Given) (r : Bool) → FactAgrees raw f.predicate f.count r → r ≡ fact_right (rule_of raw) f
fact_found raw f r a = a.each f refl refl

-- an event of more than eight facts, and one of no more
pub event_high : (raw : List ℕ) (e : Event) → 8 < e.count → Agrees raw e false
unfolding count_right
event_high raw e h = rw (lt-leb e.count 8 h)

pub event_all : (raw : List ℕ) (e : Event) {r : Bool} → e.count ≤ 8 → r ≡ list_all (fact_right (rule_of raw)) (take e.count e.facts) → Agrees raw e r
unfolding count_right given
event_all raw e k h = h ∙ facts_all (rule_of raw) (take e.count e.facts) ∙ rw (le-leb e.count 8 k)

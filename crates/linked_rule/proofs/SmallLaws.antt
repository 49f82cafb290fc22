-- What is told fits into 32 bits. Assumes nothing.
use Prim.Native.Nat.{ℕ, ◌-◌, ◌≤◌}
use native.Mathlib.Omega.{arith}
use mathlib.Core.Path.{◌≡◌, refl, ap}
use mathlib.Core.Bool.{Bool, true, false}
use mathlib.Core.List.{List}
use lib.Dec.{leb}
use lib.ListN.{length, take, length-drop, length-replicate}
use lib.Seq.{length-take-le}
use borrow.Author.Tests.{leb-true}
use Rattle.std.specs.Prelude.{Result, Ok, Err}
use Rattle.text.specs.Grammar.{Reading}
use Rattle.text.specs.Unfold.{atoms, variable_names, formula_of}
use Rattle.text.specs.Parts.{rows_of}
use Rattle.text.specs.Translate.{any_atom, too_large, too_many, clashes, sentence, Answer, refuses, makes, judge_reading, answer_of, Says, wrong_slice, too_long, no_text, a_text}
use Rattle.census.specs.declared.spans.Span.{Span}
use Rattle.census.specs.Tables.{nowhere, names_at}
use Rattle.census.proofs.TableLaws.{table_length}
use Rattle.translate.specs.declared.Translation.{Translation}
use Rattle.translate.specs.declared.refusals.Refusal.{Refusal}
use Rattle.translate.specs.Translated.{Named, Translated}
use Rattle.translate.proofs.PredicateLaws.{few_predicates}
use Rattle.linked_rule.specs.Ruling.{Small}

-- places are in the text, and the counts are below their limits
abbrev Little : Answer → Type 0
Little (refuses n i) = i ≤ 4096
Little (makes ns n ps vs) = (n ≤ 64) × (length ps ≤ 64) × (length vs ≤ 4)

judge_small : (a b c d e g : Bool) (f : Reading) → (c ≡ true → length (variable_names f) ≤ 4) → (g ≡ true → length (rows_of (formula_of f)) ≤ 64) → Little (judge_reading a b c d e g f)
unfolding judge_reading
judge_small true b c d e g f h k = omega arith
judge_small false true c d e g f h k = omega arith
judge_small false false false d e g f h k = omega arith
judge_small false false true true e g f h k = omega arith
judge_small false false true false false g f h k = omega arith
judge_small false false true false true false f h k = omega arith
judge_small false false true false true true f h k = (k refl, omega (arith, k refl, few_predicates f), h refl)

answer_small : (f : Reading) → Little (answer_of f)
unfolding answer_of
answer_small f =
    judge_small (any_atom (λ a. too_large a.terms) (atoms f)) (any_atom (λ a. too_many a.terms) (atoms f)) (leb (length (variable_names f)) 4) (clashes (atoms f))
    (sentence (formula_of f)) (leb (length (rows_of (formula_of f))) 64) f
    (λ e. leb-true (length (variable_names f)) 4 e) (λ e. leb-true (length (rows_of (formula_of f))) 64 e)

says_small : {size : ℕ} {bytes : List ℕ} {a : Answer} → Says size bytes a → Little a
says_small (wrong_slice n) = omega arith
says_small (too_long e l) = omega arith
says_small (no_text e l none i p) = omega (arith, p.inside)
says_small (a_text e l f h) = answer_small f

-- names that are laid in m places take them all
named_length : {text : List ℕ} {spans : List Span} {n m : ℕ} → Named text spans n m → n ≤ m → length spans ≡ m
named_length {spans = spans} {n = n} {m = m} k l =
    omega (arith, k.here, ap length k.rest, length-drop n spans, length-replicate {A = Span} (m - n) nowhere)

count_small : {text : List ℕ} {spans : List Span} {n m : ℕ} → Named text spans n m → length (names_at text (take n spans)) ≤ m → n ≤ m
count_small {text = text} {spans = spans} {n = n} k l = omega (arith, l, table_length text (take n spans), length-take-le n spans k.here)

pub told_small : (text before after : List ℕ) (told : Result Translation Refusal) → Translated text before after told → Small told
told_small text before after (Err r) t = says_small t.0
told_small text before after (Ok a) t =
    let s : (a.rows ≤ 64) × (length (names_at text (take a.predicates a.predicate_names)) ≤ 64) × (length (names_at text (take a.variables a.variable_names)) ≤ 4) = says_small t.0 in
    let p : a.predicates ≤ 64 = count_small t.1 s.1 in
    let v : a.variables ≤ 4 = count_small t.2 s.2 in
    (s.0, p, v, named_length t.1 p, named_length t.2 v)

-- The answer's numbers are written one after the other. Assumes nothing.
use Prim.Native.Nat.{ℕ, ◌+◌, ◌*◌, ◌≤◌, ◌<◌}
use native.Mathlib.Omega.{arith}
use native.Mathlib.Numerals.{add-one}
use mathlib.Core.Path.{◌≡◌, refl, sym, ap, ◌∙◌}
use mathlib.Core.Bool.{true, false}
use mathlib.Core.List.{List, [], ◌++◌, map, append_assoc, append-nil}
use lib.ListN.{length, take, drop, set, get_or, replicate, length-append, length-map, get_or-map}
use lib.Seq.{paste, paste-suc, take-length, take_at, drop-append-add, drop-drop, length-take-le}
use Rattle.std.proofs.Common.{take-append-drop}
use Rattle.std.specs.Prelude.{Result, Ok, Err}
use Rattle.census.specs.declared.spans.Span.{Span}
use Rattle.census.specs.Tables.{nowhere}
use Rattle.translate.specs.declared.Translation.{Translation}
use Rattle.translate.specs.declared.refusals.Refusal.{Refusal}
use Rattle.translate.specs.Refusals.{number_of, place_of}
use Rattle.translate.specs.Translated.{Translated}
use Rattle.linked_rule.specs.Ruling.{places, packed_told, packed_names, packed, LinkedRule}

-- a number of one name more
pub put_more : (d : List ℕ) (at : ℕ) (f : Span → ℕ) (spans : List Span) (to : List ℕ) (i v : ℕ) → to ≡ paste d at (map f spans) i → v ≡ f (get_or spans i nowhere) → i < length spans
    → at + length spans ≤ length d → set to (at + i) v ≡ paste d at (map f spans) (i + 1)
put_more d at f spans to i v e z l r =
    rw (e, z, ← (get_or-map f spans i nowhere), add-one) (paste-suc d at (map f spans) i (f nowhere) (omega arith) (omega (arith, length-map spans f)))

pub put_all : (d : List ℕ) (at : ℕ) (f : Span → ℕ) (spans : List Span) (to : List ℕ) (i : ℕ) → to ≡ paste d at (map f spans) i → length spans ≤ i → i ≤ length spans
    → to ≡ take at d ++ map f spans ++ drop (at + length spans) d
put_all d at f spans to i e l m =
    let z : i ≡ length (map f spans) = omega (arith, length-map spans f) in
    let y : length (map f spans) ≡ length spans = length-map spans f in
    e ∙ rw (z, take-length, y) refl

-- numbers written behind those that are done
pub record Writing (done rest now : List ℕ) (at : ℕ) : Type 0 where
  pub is : now ≡ done ++ rest
  pub long : length done ≡ at

pub write_begins : (at : ℕ) (now : List ℕ) → at ≤ length now → Writing (take at now) (drop at now) now at
write_begins at now h = record { is = sym (take-append-drop at now); long = length-take-le at now h }

pub write_more : (done rest now xs now' : List ℕ) (at : ℕ) → Writing done rest now at → now' ≡ take at now ++ xs ++ drop (at + length xs) now
    → Writing (done ++ xs) (drop (length xs) rest) now' (at + length xs)
write_more done rest now xs now' at w e =
    let a : take at now ≡ done = ap (take at) w.is ∙ take_at done rest at w.long in
    let b : drop (at + length xs) now ≡ drop (length xs) rest =
    ap (λ (k : ℕ). drop (k + length xs) now) (sym w.long) ∙ ap (drop (length done + length xs)) w.is ∙ drop-append-add done rest (length xs) in
    record {
      is = e ∙ rw (a, b) refl;
      long = length-append done xs ∙ ap (λ (k : ℕ). k + length xs) w.long;
    }

places_length : (spans : List Span) → length (places spans) ≡ 2 * length spans
unfolding places
places_length spans = length-append (map (λ s. s.start) spans) (map (λ s. s.length) spans) ∙ omega (arith, length-map spans (λ s. s.start), length-map spans (λ s. s.length))

pub places_written : (d : List ℕ) (at : ℕ) (spans : List Span) (one two : List ℕ) → at ≤ length d → one ≡ take at d ++ map (λ s. s.start) spans ++ drop (at + length spans) d
    → two ≡ take (at + length spans) one ++ map (λ s. s.length) spans ++ drop ((at + length spans) + length spans) one → two ≡ take at d ++ places spans ++ drop (at + 2 * length spans) d
unfolding places
places_written d at spans one two h e f =
    let n : length (map (λ (s : Span). s.start) spans) ≡ length spans = length-map spans (λ s. s.start) in
    let m : length (map (λ (s : Span). s.length) spans) ≡ length spans = length-map spans (λ s. s.length) in
    let w1 : Writing (take at d ++ map (λ s. s.start) spans) (drop (length spans) (drop at d)) one (at + length spans) =
    rw n at (write_more (take at d) (drop at d) d (map (λ s. s.start) spans) one at (write_begins at d h) (rw n e)) in
    let w2 : Writing ((take at d ++ map (λ s. s.start) spans) ++ map (λ s. s.length) spans) (drop (length spans) (drop (length spans) (drop at d))) two ((at + length spans) + length spans) =
    rw m at (write_more (take at d ++ map (λ s. s.start) spans) (drop (length spans) (drop at d)) one (map (λ s. s.length) spans) two (at + length spans) w1 (rw m f)) in
    let z : (at + length spans) + length spans ≡ at + 2 * length spans = omega arith in
    w2.is ∙ rw (append_assoc (take at d) (map (λ s. s.start) spans) (map (λ s. s.length) spans), drop-drop (length spans) at d, drop-drop (length spans) (at + length spans) d, z) refl

-- a refusal, and a text that is taken
pub refused_put : (r : Refusal) (zeros : List ℕ) (number place : ℕ) → zeros ≡ replicate 141 0 → number ≡ number_of r → place ≡ place_of r → set (set zeros 0 number) 1 place ≡ packed (Err r)
unfolding packed packed_told packed_names
refused_put r zeros number place e a b = rw (e, a, b) refl

module _ (t : Translation) (zeros one two : List ℕ) (e : zeros ≡ replicate 141 0) (a : length t.predicate_names ≡ 64) (b : length t.variable_names ≡ 4) where
  pub taken_put : one ≡ take 5 (set (set (set zeros 2 t.rows) 3 t.predicates) 4 t.variables) ++ places t.predicate_names ++ drop (5 + 2 * length t.predicate_names) (set (set (set zeros 2 t.rows) 3 t.predicates) 4 t.variables)
      → two ≡ take 133 one ++ places t.variable_names ++ drop (133 + 2 * length t.variable_names) one → two ≡ packed (Ok t)
  unfolding packed packed_told packed_names
  taken_put f g =
      let now : List ℕ = set (set (set (replicate 141 0) 2 t.rows) 3 t.predicates) 4 t.variables in
      let n : length (places t.predicate_names) ≡ 128 = places_length t.predicate_names ∙ omega arith in
      let m : length (places t.variable_names) ≡ 8 = places_length t.variable_names ∙ omega arith in
      let f' : one ≡ take 5 now ++ places t.predicate_names ++ drop (5 + length (places t.predicate_names)) now = f ∙ rw (e, places_length t.predicate_names) refl in
      let g' : two ≡ take 133 one ++ places t.variable_names ++ drop (133 + length (places t.variable_names)) one = g ∙ rw (places_length t.variable_names) refl in
      let w1 : Writing (take 5 now ++ places t.predicate_names) (drop 128 (drop 5 now)) one 133 =
      rw n at (write_more (take 5 now) (drop 5 now) now (places t.predicate_names) one 5 (write_begins 5 now (omega arith)) f') in
      let w2 = write_more (take 5 now ++ places t.predicate_names) (drop 128 (drop 5 now)) one (places t.variable_names) two 133 w1 g' in
      let z : drop (length (places t.variable_names)) (drop 128 (drop 5 now)) ≡ [] = rw m refl in
      w2.is ∙ rw z (append-nil ((take 5 now ++ places t.predicate_names) ++ places t.variable_names) ∙ append_assoc (take 5 now) (places t.predicate_names) (places t.variable_names))

-- the call
pub rule_made : (text rows answer rows' answer' : List ℕ) (told : Result Translation Refusal) → length answer ≡ 141 → Translated text rows rows' told → answer' ≡ packed told
    → LinkedRule text rows answer true rows' answer'
rule_made text rows answer rows' answer' told l t e = record { made = λ k. (refl, record { told = told; translated = t; answer_is = e }); unmade = λ n. absurd (n l) }

pub rule_unmade : (text rows answer : List ℕ) → (length answer ≡ 141 → ⊥) → LinkedRule text rows answer false rows answer
rule_unmade text rows answer n = record { made = λ k. absurd (n k); unmade = λ k. (refl, refl, refl) }

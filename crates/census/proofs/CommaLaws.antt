-- Counting the arguments after a name. Assumes nothing.
use Prim.Native.Nat.{ℕ, ◌+◌, ◌≤◌, ◌<◌}
use native.Mathlib.Omega.{arith}
use mathlib.Core.Path.{◌≡◌, refl, sym, ap, ◌∙◌}
use mathlib.Core.Bool.{Bool, true, false, ◌&&◌}
use mathlib.Core.List.{List, [], ◌∷◌}
use lib.Dec.{eqb, ltb}
use lib.ListN.{length, drop}
use borrow.Author.Tests.{ne_eqb, eq-eqb}
use Rattle.text.specs.Words.{Word, wordy, Spelled}
use Rattle.std.specs.Prelude.{Some, None}
use Rattle.spelling.specs.declared.words.Taken.{Taken}
use Rattle.spelling.specs.Kinds.{kind_code}
use native.Mathlib.Nat.{add-zero}
use Rattle.spelling.specs.Codes.{code_of, Spells, Next}
use Rattle.spelling.proofs.KindLaws.{opening_kind, closing_kind, comma_kind}
use Rattle.census.specs.Folds.{Lexed, comma_of, commas_in, arguments_in}
use Rattle.census.specs.Told.{comma_code, Commas, Counts, Wide}

-- the words left, with their commas
pub record Rest (text : List ℕ) (at n : ℕ) (ws : List Word) : Type 0 where
  pub us : List Word
  pub spells : Spells us (drop at text)
  pub counts : commas_in ws ≡ n + commas_in us

-- the commas so far, and those of the words left
pub record Counting (text : List ℕ) (from n at : ℕ) : Type 0 where
  pub lexed : Lexed text at
  pub few : n ≤ at
  pub passed : (ws : List Word) → Spells ws (drop from text) → Rest text at n ws

pub count_begins : (text : List ℕ) (from : ℕ) → Lexed text from → Counting text from 0 from
count_begins text from l = record {
  lexed = l;
  few = omega arith;
  passed = λ ws s. record { us = ws; spells = s; counts = omega arith };
}

-- a word by number
comma_code_law : (w : Word) → comma_of w ≡ comma_code (code_of w)
unfolding comma_of comma_code
comma_code_law w = ap (λ (b : Bool). elim b as (λ _. ℕ) [ true ↦ 1 | false ↦ 0 ]) (sym (comma_kind w))

commas_none : commas_in [] ≡ 0
unfolding commas_in
commas_none = refl

commas_closed : (w : Word) (ws : List Word) → code_of w ≡ 15 → commas_in (w ∷ ws) ≡ 0
unfolding commas_in
commas_closed w ws e = rw (sym (closing_kind w) ∙ eq-eqb (code_of w) 15 e, commas_in)

commas_more : (w : Word) (ws : List Word) → (code_of w ≡ 15 → ⊥) → commas_in (w ∷ ws) ≡ comma_code (code_of w) + commas_in ws
unfolding commas_in
commas_more w ws n = rw (sym (closing_kind w) ∙ ne_eqb (code_of w) 15 n, commas_in, ← (comma_code_law w))

module _ (text : List ℕ) (from n at : ℕ) (k : Counting text from n at) where
  -- no word is left
  pub count_ends : ((v : Bool) (ws : List Word) → Spelled v ws (drop at text) → Next text at ws None) → Commas text from n
  count_ends x = record {
    few = omega (arith, k.few, k.lexed.inside);
    are = λ ws s.
        let r : Rest text at n ws = k.passed ws s in
        let z : commas_in r.us ≡ 0 = ended r.us (x r.spells.after r.us r.spells.spelled) in
        omega (arith, r.counts);
  }
    where
      ended : (us : List Word) → Next text at us None → commas_in us ≡ 0
      ended [] y = commas_none
      ended (w ∷ us) y = absurd y

  module _ (taken : Taken) (x : (v : Bool) (ws : List Word) → Spelled v ws (drop at text) → Next text at ws (Some taken)) where
    pub count_shut : kind_code taken.word ≡ 15 → Commas text from n
    count_shut e = record {
      few = omega (arith, k.few, k.lexed.inside);
      are = λ ws s.
          let r : Rest text at n ws = k.passed ws s in
          let z : commas_in r.us ≡ 0 = shut r.us (x r.spells.after r.us r.spells.spelled) in
          omega (arith, r.counts);
    }
      where
        shut : (us : List Word) → Next text at us (Some taken) → commas_in us ≡ 0
        shut [] y = absurd y
        shut (w ∷ us) y = commas_closed w us (sym y.code_is ∙ e)

    lexed_on : (us : List Word) → Next text at us (Some taken) → (Lexed text taken.past) × (at < taken.past)
    lexed_on [] y = absurd y
    lexed_on (w ∷ us) y = (
      record { inside = y.high; words = us; spells = record { after = wordy w; spelled = y.rest } },
      omega (arith, y.low, y.long),
    )

    after : (Lexed text taken.past) × (at < taken.past)
    after = lexed_on k.lexed.words (x k.lexed.spells.after k.lexed.words k.lexed.spells.spelled)

    pub count_inside : at < taken.past
    count_inside = after.1

    pub count_past : taken.past ≤ length text
    count_past = after.0.inside

    pub count_more : (kind_code taken.word ≡ 15 → ⊥) → (m : ℕ) → m ≡ comma_code (kind_code taken.word) → m ≤ 1 → Counting text from (n + m) taken.past
    count_more f m c o = record {
      lexed = after.0;
      few = omega (arith, k.few, after.1);
      passed = λ ws s.
          let r : Rest text at n ws = k.passed ws s in
          on ws r.us (x r.spells.after r.us r.spells.spelled) r.counts;
    }
      where
        on : (ws us : List Word) → Next text at us (Some taken) → commas_in ws ≡ n + commas_in us → Rest text taken.past (n + m) ws
        on ws [] y z = absurd y
        on ws (w ∷ us) y z =
            let d : commas_in (w ∷ us) ≡ comma_code (kind_code taken.word) + commas_in us = commas_more w us (λ q. f (y.code_is ∙ q)) ∙ ap (λ (i : ℕ). comma_code i + commas_in us) (sym y.code_is) in
            record { us = us; spells = record { after = wordy w; spelled = y.rest }; counts = omega arith }

    pub count_comma : kind_code taken.word ≡ 16 → Counting text from (n + 1) taken.past
    unfolding comma_code
    count_comma e = count_more (λ q. omega arith) 1 (rw e) (omega arith)

    pub count_other : (kind_code taken.word ≡ 15 → ⊥) → (kind_code taken.word ≡ 16 → ⊥) → Counting text from n taken.past
    unfolding comma_code
    count_other f g = rw (← (add-zero n)) (count_more f 0 (rw (ne_eqb (kind_code taken.word) 16 g, comma_code)) (omega arith))

-- the arguments after a name
arguments_none : arguments_in [] ≡ 0
unfolding arguments_in
arguments_none = refl

arguments_other : (w : Word) (ws : List Word) → (code_of w ≡ 14 → ⊥) → arguments_in (w ∷ ws) ≡ 0
unfolding arguments_in
arguments_other w ws n = rw (sym (opening_kind w) ∙ ne_eqb (code_of w) 14 n, arguments_in)

arguments_some : (w : Word) (ws : List Word) → code_of w ≡ 14 → arguments_in (w ∷ ws) ≡ commas_in ws + 1
unfolding arguments_in
arguments_some w ws e = rw (sym (opening_kind w) ∙ eq-eqb (code_of w) 14 e, arguments_in)

module _ (text : List ℕ) (at : ℕ) where
  pub arguments_ends : ((v : Bool) (ws : List Word) → Spelled v ws (drop at text) → Next text at ws None) → Counts text at 0
  arguments_ends x = record { few = omega arith; are = λ ws s. by ws (x s.after ws s.spelled) }
    where
      by : (ws : List Word) → Next text at ws None → 0 ≡ arguments_in ws
      by [] y = sym arguments_none
      by (w ∷ ws) y = absurd y

  module _ (taken : Taken) (x : (v : Bool) (ws : List Word) → Spelled v ws (drop at text) → Next text at ws (Some taken)) where
    pub arguments_no : (kind_code taken.word ≡ 14 → ⊥) → Counts text at 0
    arguments_no n = record { few = omega arith; are = λ ws s. by ws (x s.after ws s.spelled) }
      where
        by : (ws : List Word) → Next text at ws (Some taken) → 0 ≡ arguments_in ws
        by [] y = absurd y
        by (w ∷ ws) y = sym (arguments_other w ws (λ q. n (y.code_is ∙ q)))

    pub arguments_lexed : Lexed text at → Lexed text taken.past
    arguments_lexed l = by l.words (x l.spells.after l.words l.spells.spelled)
      where
        by : (ws : List Word) → Next text at ws (Some taken) → Lexed text taken.past
        by [] y = absurd y
        by (w ∷ ws) y = record { inside = y.high; words = ws; spells = record { after = wordy w; spelled = y.rest } }

    pub arguments_yes : (n : ℕ) → kind_code taken.word ≡ 14 → Commas text taken.past n → Counts text at (n + 1)
    arguments_yes n e c = record { few = omega (arith, c.few); are = λ ws s. by ws (x s.after ws s.spelled) }
      where
        by : (ws : List Word) → Next text at ws (Some taken) → n + 1 ≡ arguments_in ws
        by [] y = absurd y
        by (w ∷ ws) y =
            let z : n ≡ commas_in ws = c.are ws (record { after = wordy w; spelled = y.rest }) in
            rw (arguments_some w ws (sym y.code_is ∙ e), z)

-- a name with more than 3
pub wide_mode : (text : List ℕ) (mode word past : ℕ) → (mode ≡ 0 → ⊥) → Wide text mode word past false
wide_mode text mode word past n ws s = rw (ne_eqb mode 0 n)

pub wide_word : (text : List ℕ) (mode word past : ℕ) → (word ≡ 0 → ⊥) → Wide text mode word past false
wide_word text mode word past n ws s = rw (ne_eqb word 0 n) (go (eqb mode 0))
  where
    go : (a : Bool) → false ≡ ((a && false) && ltb 3 (arguments_in ws))
    go true = refl
    go false = refl

pub wide_count : (text : List ℕ) (mode word past n : ℕ) → mode ≡ 0 → word ≡ 0 → Counts text past n → Wide text mode word past (ltb 3 n)
wide_count text mode word past n e f c ws s = rw (e, f, c.are ws s)

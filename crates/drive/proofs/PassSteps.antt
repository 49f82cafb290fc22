-- The pass over the words of a text, word by word. Assumes nothing.
use Prim.Native.Nat.{ℕ, ◌+◌, ◌≤◌, ◌<◌}
use native.Mathlib.Omega.{arith}
use mathlib.Core.Path.{◌≡◌, refl, ap, ◌∙◌}
use mathlib.Core.Bool.{Bool, false}
use mathlib.Core.List.{List, [], ◌∷◌}
use lib.ListN.{length, drop}
use Rattle.std.specs.Prelude.{Option, Some, None, ◌⊎◌}
use Rattle.std.proofs.Common.{inl, inr}
use Rattle.text.specs.Words.{Word, wordy, Spelled}
use Rattle.text.specs.Grammar.{Reading, words, RuleText, HasReading}
use Rattle.text.specs.Unfold.{predicate_names, variable_names, unfolded, formula_of}
use Rattle.text.specs.Parts.{parts}
use Rattle.text.specs.Emit.{nines}
use Rattle.text.specs.Held.{Held, Shut, end_rows}
use Rattle.text.proofs.RuleTexts.{unique}
use Rattle.text.proofs.RowedLaws.{Stood}
use Rattle.spelling.specs.declared.words.Taken.{Taken}
use Rattle.spelling.specs.declared.modes.Mode.{Mode}
use Rattle.spelling.specs.declared.modes.Mode.TheVariants.{Operand, Operator, AfterName, Variable, AfterVariable, Argument, AfterArgument, Nothing}
use Rattle.spelling.specs.Kinds.{kind_code}
use Rattle.spelling.specs.Modes.{mode_code}
use Rattle.spelling.specs.Codes.{mode_after, next_mode, Spells, First, Next}
use Rattle.spelling.proofs.KindLaws.{next_is}
use Rattle.census.specs.Folds.{Lexed}
use Rattle.census.specs.Tables.{Within}
use Rattle.rowing.specs.Denoted.{Holds}
use Rattle.rowing.specs.Stacking.{Finishes}
use Rattle.atomic.specs.Arguments.{Small}
use Rattle.drive.specs.Drives.{at_operand, at_mode, driven, driven_all}
use Rattle.drive.specs.Driving.{state, Coming, Moves, Operates, Passed, RowsOf}
use Rattle.drive.proofs.DrivenLaws.{few_atoms, driven_rows}
use Rattle.rowing.proofs.LongerLaws.{end_longer}
use Rattle.drive.proofs.LongerLaws.{driven_longer}
use Rattle.drive.proofs.WordsLaws.{small_words, FewFrom, few_words}

-- by what must come
module _ (ps vs : List (List ℕ)) (text : List ℕ) (code from past : ℕ) (table : List (List ℕ)) (row : ℕ) (stack : List Held) (table' : List (List ℕ)) (row' : Option ℕ) (stack' : List Held) where
  pub one_operand : Moves vs (at_operand ps vs) text 0 code from past table row stack table' row' stack' → Moves vs (at_mode ps vs 0) text 0 code from past table row stack table' row' stack'
  unfolding at_mode
  one_operand m = m

  pub one_operator : (mode : Mode) → (mode ≡ Operator) ⊎ (mode ≡ AfterName) → Operates code table row stack table' row' stack'
      → Moves vs (at_mode ps vs (mode_code mode)) text (mode_code mode) code from past table row stack table' row' stack'
  unfolding at_mode
  one_operator mode (inl e) m = rw e (λ w ws c. m w c.code_is)
  one_operator mode (inr e) m = rw e (λ w ws c. m w c.code_is)

pub one_none : (ps vs : List (List ℕ)) (text : List ℕ) (code from past : ℕ) (table : List (List ℕ)) (row : ℕ) (stack : List Held) (mode : Mode) → (mode ≡ Operand → ⊥) → (mode ≡ Operator → ⊥) → (mode ≡ AfterName → ⊥)
    → Moves vs (at_mode ps vs (mode_code mode)) text (mode_code mode) code from past table row stack table (Some row) stack
unfolding at_mode
one_none ps vs text code from past table row stack Operand a b c = absurd (a refl)
one_none ps vs text code from past table row stack Operator a b c = absurd (b refl)
one_none ps vs text code from past table row stack AfterName a b c = absurd (c refl)
one_none ps vs text code from past table row stack Variable a b c = λ w ws d. refl
one_none ps vs text code from past table row stack AfterVariable a b c = λ w ws d. refl
one_none ps vs text code from past table row stack Argument a b c = λ w ws d. refl
one_none ps vs text code from past table row stack AfterArgument a b c = λ w ws d. refl
one_none ps vs text code from past table row stack Nothing a b c = λ w ws d. refl

-- what the words left are to make of rows and frames
pub record Left (ps vs : List (List ℕ)) (text : List ℕ) (at mode : ℕ) (s : Shut) : Type 0 where
  pub reading : Reading
  pub is : RuleText text reading
  pub left_words : List Word
  pub spells : Spells left_words (drop at text)
  pub small : Small left_words
  pub few : FewFrom vs mode left_words
  pub goes : end_rows (driven ps vs mode left_words s).last (driven ps vs mode left_words s).stack ≡ driven_all ps vs (words reading)

pub record Driving (ps vs : List (List ℕ)) (text : List ℕ) (table : List (List ℕ)) (row : ℕ) (stack : List Held) (mode at : ℕ) : Type 0 where
  pub inside : at ≤ length text
  pub near : length stack ≤ at
  pub left : Left ps vs text at mode (state table row stack)

module _ (ps vs : List (List ℕ)) (text : List ℕ) where
  pub drive_begins : (table : List (List ℕ)) (stack : List Held) → table ≡ [] → stack ≡ [] → HasReading text → Passed text → Driving ps vs text table 0 stack 0 0
  drive_begins table stack e z h p = rw (e, z) (record {
    inside = omega arith;
    near = omega arith;
    left = record {
      reading = h.reading;
      is = h.text;
      left_words = words h.reading;
      spells = record { after = false; spelled = h.text.spelled };
      small = small_words h.reading (p.small h.reading h.text);
      few = few_words vs h.reading (few_atoms h.reading (p.few h.reading h.text));
      goes = unfold driven_all in refl;
    };
  })

  -- the rows of the pass are the rows of every reading's formula
  module _ (p : Passed text) (ps-are : (f : Reading) → RuleText text f → ps ≡ predicate_names f) (vs-are : (f : Reading) → RuleText text f → vs ≡ variable_names f) where
    pub rows_told : {A : Type 0} (f : Reading) → RuleText text f → (table : List (List ℕ)) (r : Option A) → Holds table r (driven_all ps vs (words f)).rows → RowsOf text table r
    unfolding formula_of
    rows_told f h table r z g k =
        let e : f ≡ g = unique text f g h k in
        let s : Stood (parts (unfolded ps vs f)) (unfolded ps vs f) (driven_all ps vs (words f)) = driven_rows ps vs f h.fine (few_atoms f (p.few f h)) in
        let y : Holds table r (nines (parts (unfolded ps vs f)) (parts (unfolded ps vs f))) = rw s.rowing.rows_are at z in
        rw (← e, ← (ps-are f h), ← (vs-are f h)) y

    module _ (table : List (List ℕ)) (row : ℕ) (stack : List Held) (mode at : ℕ) (d : Driving ps vs text table row stack mode at) where
      module _ (n : (v : Bool) (ws : List Word) → Spelled v ws (drop at text) → Next text at ws None) where
        no_more : (ws : List Word) → Next text at ws None → ws ≡ []
        no_more [] k = refl
        no_more (w ∷ ws) k = absurd k

        -- the end comes: no word is left
        ended : (ws : List Word) → ws ≡ [] → end_rows (driven ps vs mode ws (state table row stack)).last (driven ps vs mode ws (state table row stack)).stack ≡ driven_all ps vs (words d.left.reading)
            → end_rows (record { rows = table; row = row }) stack ≡ driven_all ps vs (words d.left.reading)
        unfolding driven
        ended ws e z = rw e at z

        end_is : end_rows (record { rows = table; row = row }) stack ≡ driven_all ps vs (words d.left.reading)
        end_is = ended d.left.left_words (no_more d.left.left_words (n d.left.spells.after d.left.left_words d.left.spells.spelled)) d.left.goes

        pub drive_ends : {A : Type 0} (table' : List (List ℕ)) (row' : ℕ) (x : A) → Finishes table row stack table' (Some row') → RowsOf text table' (Some x)
        drive_ends table' row' x f = rows_told d.left.reading d.left.is table' (Some x) (rw (← end_is, ← f) refl)

        pub drive_ends_over : (A : Type 0) (table' : List (List ℕ)) → Finishes table row stack table' None → RowsOf {A = A} text table' None
        drive_ends_over A table' f = rows_told {A = A} d.left.reading d.left.is table' None (rw end_is at f)

      module _ (t : Taken) (n : (v : Bool) (ws : List Word) → Spelled v ws (drop at text) → Next text at ws (Some t)) where
        -- the first word left, and the others
        pub record Step : Type 0 where
          pub w : Word
          pub ws : List Word
          pub first : First text at w ws (kind_code t.word) t.from t.past
          pub coming : Coming vs text mode (kind_code t.word) t.from t.past w ws
          pub few_on : FewFrom vs (mode_after mode w) ws
          pub goes : end_rows (driven ps vs (mode_after mode w) ws (at_mode ps vs mode w ws (state table row stack))).last
              (driven ps vs (mode_after mode w) ws (at_mode ps vs mode w ws (state table row stack))).stack
              ≡ driven_all ps vs (words d.left.reading)

        step_by : (us : List Word) → Small us → FewFrom vs mode us → Next text at us (Some t)
            → end_rows (driven ps vs mode us (state table row stack)).last (driven ps vs mode us (state table row stack)).stack ≡ driven_all ps vs (words d.left.reading) → Step
        unfolding driven
        step_by [] q f k g = absurd k
        step_by (w ∷ ws) q f k g = record {
          w = w;
          ws = ws;
          first = k;
          coming = record { code_is = k.code_is; bytes_are = k.bytes_are; rest = record { after = wordy w; spelled = k.rest }; small = q.1; few = f.0 };
          few_on = f.1;
          goes = g;
        }

        step : Step
        step = step_by d.left.left_words d.left.small d.left.few (n d.left.spells.after d.left.left_words d.left.spells.spelled) d.left.goes

        pub drive_within : Within text t.from t.past
        drive_within = record { order = omega (arith, step.first.long); inside = step.first.high }

        pub drive_lexed : Lexed text t.past
        drive_lexed = record { inside = step.first.high; words = step.ws; spells = step.coming.rest }

        pub drive_grows : at < t.past
        drive_grows = omega (arith, step.first.low, step.first.long)

        -- a 65th row: there are more than 64
        pub drive_full : (A : Type 0) (table' : List (List ℕ)) (stack' : List Held)
            → Moves vs (at_mode ps vs mode) text mode (kind_code t.word) t.from t.past table row stack table' None stack' → RowsOf {A = A} text table' None
        drive_full A table' stack' m =
            let s : Shut = at_mode ps vs mode step.w step.ws (state table row stack) in
            let over : 64 < length s.last.rows = m step.w step.ws step.coming in
            let e : Shut = driven ps vs (mode_after mode step.w) step.ws s in
            rows_told {A = A} d.left.reading d.left.is table' None
            (rw (← step.goes) (omega (arith, over, driven_longer ps vs (mode_after mode step.w) step.ws s, end_longer e.last e.stack)))

        pub drive_more : (mode' : ℕ) (table' : List (List ℕ)) (row' : ℕ) (stack' : List Held)
            → Moves vs (at_mode ps vs mode) text mode (kind_code t.word) t.from t.past table row stack table' (Some row') stack'
            → length stack' ≤ length stack + 1 → mode' ≡ next_mode mode (kind_code t.word) → Driving ps vs text table' row' stack' mode' t.past
        drive_more mode' table' row' stack' m l q =
            let o : mode' ≡ mode_after mode step.w = q ∙ ap (next_mode mode) step.first.code_is ∙ next_is mode step.w in
            record {
              inside = step.first.high;
              near = omega (arith, l, d.near, drive_grows);
              left = rw (o, m step.w step.ws step.coming) (record {
                reading = d.left.reading;
                is = d.left.is;
                left_words = step.ws;
                spells = step.coming.rest;
                small = step.coming.small;
                few = step.few_on;
                goes = step.goes;
              });
            }

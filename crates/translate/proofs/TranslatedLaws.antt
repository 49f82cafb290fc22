-- What each way through the call promises. Assumes nothing.
use Prim.Native.Nat.{ℕ, ◌≤◌, ◌<◌}
use native.Mathlib.Omega.{arith}
use mathlib.Core.Path.{◌≡◌, refl, sym, ap, ◌∙◌}
use mathlib.Core.Bool.{Bool, true, false}
use mathlib.Core.List.{List}
use lib.ListN.{length, take, length-take}
use Rattle.std.specs.Option.{ok_or}
use Rattle.std.specs.List.{flat_map}
use Rattle.std.specs.Prelude.{Option, Some, None, Err}
use Rattle.text.specs.Grammar.{Reading, RuleText, HasReading, Place}
use Rattle.text.specs.Unfold.{variable_names, formula_of}
use Rattle.text.specs.Parts.{rows_of}
use Rattle.text.specs.Translate.{Answer, refuses, makes, answer_of, Says, wrong_slice, too_long, no_text, a_text}
use Rattle.census.specs.declared.spans.Span.{Span}
use Rattle.census.specs.Tables.{nowhere, names_at, Table}
use Rattle.census.specs.Noting.{names_for, Told, ToldNames}
use Rattle.census.specs.Clashes.{Predicates, ToldClash}
use Rattle.census.specs.Scopes.{Variables, ToldLoose}
use Rattle.census.proofs.TableLaws.{table_length}
use Rattle.drive.specs.Driving.{Passed, RowsOf}
use Rattle.translate.specs.declared.refusals.Refusal.{Refusal}
use Rattle.translate.specs.declared.refusals.Refusal.TheVariants.{LargeConstant, ManyArguments, WrongSlice, TooLong, NoText, ManyVariables, TwoCounts, FreeVariable, ManyRows}
use Rattle.translate.specs.Refusals.{number_of, place_of}
use Rattle.translate.specs.Translated.{laid, Named, Limits}
use Rattle.translate.proofs.PredicateLaws.{few_predicates}
use Rattle.translate.proofs.AnswerLaws.{answer_4, answer_5, answer_6, answer_7, answer_8, answer_9, answer_rows}
use Rattle.translate.proofs.RowsTold.{many_rows, told_count, told_rows, laid_names, laid_named}

-- refusals 1 to 3
pub says_1 : (text before : List ℕ) → (length before ≡ 576 → ⊥) → Says (length before) text (refuses 1 0)
says_1 text before n = wrong_slice n

pub says_2 : (text before : List ℕ) → length before ≡ 576 → 4096 < length text → Says (length before) text (refuses 2 0)
says_2 text before e l = too_long e l

pub says_3 : (text before : List ℕ) (i : ℕ) → length before ≡ 576 → length text ≤ 4096 → ((f : Reading) → RuleText text f → ⊥) × Place text i → Says (length before) text (refuses 3 i)
says_3 text before i e l h = no_text e l h.0 i h.1

-- the tables that the names are in
pub variables_known : (text : List ℕ) (spans : List Span) (n : ℕ) → Told false text spans n → length spans ≡ 4 → Variables text (take n spans)
variables_known text spans n t e = record { few = omega (arith, length-take n spans); names = unfold names_for in t.names }

pub predicates_known : (text : List ℕ) (spans : List Span) (n : ℕ) → Told true text spans n → length spans ≡ 4096 → Predicates text (take n spans)
predicates_known text spans n t e = record { few = omega (arith, length-take n spans); names = unfold names_for in t.names }

module _ (text before : List ℕ) (h : HasReading text) (l : length text ≤ 4096) (z : length before ≡ 576) where
  answered : (a : Answer) → answer_of h.reading ≡ a → Says (length before) text a
  answered a e = rw (← e) (a_text z l h.reading h.text)

  pub says_limit : (r : Refusal) → Limits {A = Unit {0}} text (Err r) → Says (length before) text (refuses (number_of r) (place_of r))
  says_limit WrongSlice k = absurd k
  says_limit TooLong k = absurd k
  says_limit (NoText place) k = absurd k
  says_limit LargeConstant k = answered (refuses 4 0) (answer_4 h.reading (k h.reading h.text))
  says_limit ManyArguments k = answered (refuses 5 0) (answer_5 h.reading (k.0 h.reading h.text) (k.1 h.reading h.text))
  says_limit ManyVariables k = absurd k
  says_limit TwoCounts k = absurd k
  says_limit FreeVariable k = absurd k
  says_limit ManyRows k = absurd k

  module _ (p : Passed text) where
    pub says_6 : (spans : List Span) → ToldNames false text spans None → length spans ≡ 4 → Says (length before) text (refuses 6 0)
    unfolding names_for
    says_6 spans t e = answered (refuses 6 0) (answer_6 h.reading (p.small h.reading h.text) (p.few h.reading h.text) (omega (arith, t.over h.reading h.text)))

    module _ (vs : List Span) (v : Variables text vs) where
      four : length (variable_names h.reading) ≤ 4
      four = omega (arith, ap length (v.names h.reading h.text), table_length text vs, v.few)

      pub says_7 : (r : Bool) → ToldClash text r → r ≡ true → Says (length before) text (refuses 7 0)
      says_7 r t e = answered (refuses 7 0) (answer_7 h.reading (p.small h.reading h.text) (p.few h.reading h.text) four (sym (t h.reading h.text) ∙ e))

      module _ (c : Bool) (ct : ToldClash text c) (ce : c ≡ false) where
        pub says_8 : (r : Bool) → ToldLoose text r → r ≡ true → Says (length before) text (refuses 8 0)
        says_8 r t e = answered (refuses 8 0)
            (answer_8 h.reading (p.small h.reading h.text) (p.few h.reading h.text) four (sym (ct h.reading h.text) ∙ ce) (sym (t h.reading h.text) ∙ e))

        module _ (o : Bool) (ot : ToldLoose text o) (oe : o ≡ false) (table : List (List ℕ)) where
          pub says_9 : (r : Option (Unit {0})) (e : Refusal) → RowsOf text table r → Err e ≡ ok_or r ManyRows → Says (length before) text (refuses (number_of e) (place_of e))
          says_9 (Some x) e rows z = absurd cc
          says_9 None e rows z =
              let y : e ≡ ManyRows = cc in
              rw y (answered (refuses 9 0)
              (answer_9 h.reading (p.small h.reading h.text) (p.few h.reading h.text) four (sym (ct h.reading h.text) ∙ ce) (sym (ot h.reading h.text) ∙ oe)
              (many_rows (formula_of h.reading) (rows h.reading h.text))))

          module _ (x : Unit {0}) (rows : RowsOf text table (Some x)) (few : length table ≤ 64) (ps : List Span) (q : Predicates text ps) where
            count_is : length (rows_of (formula_of h.reading)) ≡ length table
            count_is = told_count (formula_of h.reading) table (rows h.reading h.text)

            -- there is room for their names
            pub few_names : length ps ≤ 64
            few_names = omega (arith, ap length (q.names h.reading h.text), table_length text ps, few_predicates h.reading, count_is)

            pub says_rows : Says (length before) text (makes (laid 0 576 (flat_map (λ x. x) table)) (length table) (names_at text ps) (names_at text vs))
            says_rows = answered (makes (laid 0 576 (flat_map (λ x. x) table)) (length table) (names_at text ps) (names_at text vs))
                (answer_rows h.reading (p.small h.reading h.text) (p.few h.reading h.text) four (sym (ct h.reading h.text) ∙ ce) (sym (ot h.reading h.text) ∙ oe) (omega (arith, count_is))
                ∙ rw (count_is, ← (told_rows (formula_of h.reading) table (rows h.reading h.text)), ← (q.names h.reading h.text), ← (v.names h.reading h.text)))

            -- what was written, as the code lays it
            pub rows_written : (made : List (List ℕ)) (numbers to : List ℕ) (pn vn : List Span) → made ≡ table → numbers ≡ flat_map (λ x. x) made
                → to ≡ laid 0 (length before) numbers → Table text ps → Table text vs → pn ≡ laid nowhere 64 ps → vn ≡ laid nowhere 4 vs
                → Says (length before) text (makes to (length made) (names_at text (take (length ps) pn)) (names_at text (take (length vs) vn)))
                × Named text pn (length ps) 64 × Named text vn (length vs) 4
            rows_written made numbers to pn vn m n e t u b c =
                let l : to ≡ laid 0 576 (flat_map (λ x. x) table) = e ∙ rw (z, n, m) refl in
                rw (l, m, b, c, laid_names text ps 64 few_names, laid_names text vs 4 v.few) (says_rows, laid_named text ps 64 few_names t, laid_named text vs 4 v.few u)

-- The answer to a text by what the passes tell of it. Assumes nothing.
use Prim.Native.Nat.{◌≤◌, ◌<◌}
use mathlib.Core.Path.{◌≡◌}
use mathlib.Core.Bool.{true, false}
use mathlib.Core.List.{[]}
use lib.ListN.{length}
use borrow.Author.Tests.{le-leb, lt-leb}
use Rattle.text.specs.Grammar.{Reading}
use Rattle.text.specs.Unfold.{atoms, predicate_names, variable_names, formula_of}
use Rattle.text.specs.Parts.{rows_of, numbers}
use Rattle.text.specs.Scope.{loose}
use Rattle.text.specs.Translate.{any_atom, too_large, too_many, clashes, padded, refuses, makes, judge_reading, answer_of}
use Rattle.text.proofs.LooseLaws.{scope}

-- which refusal a reading is answered with
module _ (f : Reading) where
  pub answer_4 : any_atom (λ a. too_large a.terms) (atoms f) ≡ true → answer_of f ≡ refuses 4 0
  unfolding answer_of judge_reading
  answer_4 e = rw e

  module _ (small : any_atom (λ a. too_large a.terms) (atoms f) ≡ false) where
    pub answer_5 : any_atom (λ a. too_many a.terms) (atoms f) ≡ true → answer_of f ≡ refuses 5 0
    unfolding answer_of judge_reading
    answer_5 e = rw (small, e)

    module _ (few : any_atom (λ a. too_many a.terms) (atoms f) ≡ false) where
      pub answer_6 : 4 < length (variable_names f) → answer_of f ≡ refuses 6 0
      unfolding answer_of judge_reading
      answer_6 l = rw (small, few, lt-leb (length (variable_names f)) 4 l)

      module _ (four : length (variable_names f) ≤ 4) where
        pub answer_7 : clashes (atoms f) ≡ true → answer_of f ≡ refuses 7 0
        unfolding answer_of judge_reading
        answer_7 e = rw (small, few, le-leb (length (variable_names f)) 4 four, e)

        module _ (agree : clashes (atoms f) ≡ false) where
          pub answer_8 : loose [] f ≡ true → answer_of f ≡ refuses 8 0
          unfolding answer_of judge_reading
          answer_8 e = rw (small, few, le-leb (length (variable_names f)) 4 four, agree, scope f four, e)

          module _ (closed : loose [] f ≡ false) where
            pub answer_9 : 64 < length (rows_of (formula_of f)) → answer_of f ≡ refuses 9 0
            unfolding answer_of judge_reading
            answer_9 l = rw (small, few, le-leb (length (variable_names f)) 4 four, agree, scope f four, closed, lt-leb (length (rows_of (formula_of f))) 64 l)

            pub answer_rows : length (rows_of (formula_of f)) ≤ 64
                → answer_of f ≡ makes (padded (numbers (rows_of (formula_of f)))) (length (rows_of (formula_of f))) (predicate_names f) (variable_names f)
            unfolding answer_of judge_reading
            answer_rows l = rw (small, few, le-leb (length (variable_names f)) 4 four, agree, scope f four, closed, le-leb (length (rows_of (formula_of f))) 64 l)

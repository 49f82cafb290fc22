-- The arguments of an atom, word by word. Assumes nothing.
use Prim.Native.Nat.{ℕ, ◌-◌, ◌≤◌, ◌<◌}
use native.Mathlib.Omega.{arith}
use mathlib.Core.Path.{◌≡◌, refl, sym, ap, ◌∙◌}
use mathlib.Core.Bool.{Bool}
use mathlib.Core.List.{List, [], ◌∷◌, ◌++◌, append_assoc, append-nil}
use lib.ListN.{length, take, drop, length-append}
use borrow.Author.Tests.{ne_eqb, eq-eqb}
use Rattle.meaning.specs.Qtl.{Argument}
use Rattle.meaning.specs.Rows
use Rattle.text.specs.Words.{Word, wordy, bytes_of, Spelled}
use Rattle.text.specs.Parts.{nine, pairs_of}
use Rattle.spelling.specs.Codes.{code_of, Spells, Next}
use Rattle.std.specs.Prelude.{Some, None}
use Rattle.spelling.specs.declared.words.Taken.{Taken}
use Rattle.spelling.specs.Kinds.{kind_code}
use Rattle.spelling.proofs.KindLaws.{opening_kind, closing_kind}
use Rattle.census.specs.Folds.{Lexed}
use Rattle.census.specs.Tables.{Within}
use Rattle.atomic.specs.Arguments.{argument_of, Adds, arguments_in, arguments_after, Small, Collects, Numbers}

-- the arguments so far and those of the words left
pub record Left (vs : List (List ℕ)) (text now : List ℕ) (at p : ℕ) (whole : List Argument) : Type 0 where
  pub done : List Argument
  pub us : List Word
  pub spells : Spells us (drop at text)
  pub small : Small us
  pub so : now ≡ nine (Rows.atom p done)
  pub all : whole ≡ done ++ arguments_in vs us

pub record Collecting (vs : List (List ℕ)) (text before : List ℕ) (from : ℕ) (now : List ℕ) (at : ℕ) : Type 0 where
  pub lexed : Lexed text at
  pub passed : (p : ℕ) (gs : List Argument) (ws : List Word) → before ≡ nine (Rows.atom p gs) → Spells ws (drop from text) → Small ws → length (gs ++ arguments_in vs ws) ≤ 3
      → Left vs text now at p (gs ++ arguments_in vs ws)

pub collect_begins : (vs : List (List ℕ)) (text before : List ℕ) (from : ℕ) → Lexed text from → Collecting vs text before from before from
collect_begins vs text before from l = record {
  lexed = l;
  passed = λ p gs ws b s m f. record { done = gs; us = ws; spells = s; small = m; so = b; all = refl };
}

none_in : (vs : List (List ℕ)) → arguments_in vs [] ≡ []
unfolding arguments_in
none_in vs = refl

closed_in : (vs : List (List ℕ)) (w : Word) (ws : List Word) → code_of w ≡ 15 → arguments_in vs (w ∷ ws) ≡ []
unfolding arguments_in
closed_in vs w ws e = rw (sym (closing_kind w) ∙ eq-eqb (code_of w) 15 e, arguments_in)

more_in : (vs : List (List ℕ)) (w : Word) (ws : List Word) → (code_of w ≡ 15 → ⊥) → arguments_in vs (w ∷ ws) ≡ argument_of vs (code_of w) (bytes_of w) ++ arguments_in vs ws
unfolding arguments_in
more_in vs w ws n = rw (sym (closing_kind w) ∙ ne_eqb (code_of w) 15 n, arguments_in)

module _ (vs : List (List ℕ)) (text before : List ℕ) (from : ℕ) (now : List ℕ) (at : ℕ) (k : Collecting vs text before from now at) where
  finished : ((us : List Word) → Spells us (drop at text) → arguments_in vs us ≡ []) → Collects vs text before from now
  finished h p gs ws b s m f =
      let r : Left vs text now at p (gs ++ arguments_in vs ws) = k.passed p gs ws b s m f in
      r.so ∙ ap (λ (l : List Argument). nine (Rows.atom p l)) (sym (r.all ∙ rw (h r.us r.spells) (append-nil r.done)))

  -- no word is left
  pub collect_ends : ((v : Bool) (ws : List Word) → Spelled v ws (drop at text) → Next text at ws None) → Collects vs text before from now
  collect_ends x = finished (λ us s. ended us (x s.after us s.spelled))
    where
      ended : (us : List Word) → Next text at us None → arguments_in vs us ≡ []
      ended [] y = none_in vs
      ended (w ∷ us) y = absurd y

  module _ (taken : Taken) (x : (v : Bool) (ws : List Word) → Spelled v ws (drop at text) → Next text at ws (Some taken)) where
    pub collect_shut : kind_code taken.word ≡ 15 → Collects vs text before from now
    collect_shut e = finished (λ us s. shut us (x s.after us s.spelled))
      where
        shut : (us : List Word) → Next text at us (Some taken) → arguments_in vs us ≡ []
        shut [] y = absurd y
        shut (w ∷ us) y = closed_in vs w us (sym y.code_is ∙ e)

    after : (us : List Word) → Next text at us (Some taken) → (Lexed text taken.past) × (at < taken.past) × (taken.from ≤ taken.past)
    after [] y = absurd y
    after (w ∷ us) y = (
      record { inside = y.high; words = us; spells = record { after = wordy w; spelled = y.rest } },
      omega (arith, y.low, y.long),
      omega (arith, y.long),
    )

    pub collect_past : (Lexed text taken.past) × (at < taken.past) × (taken.from ≤ taken.past)
    collect_past = after k.lexed.words (x k.lexed.spells.after k.lexed.words k.lexed.spells.spelled)

    pub collect_within : Within text taken.from taken.past
    collect_within = record { order = collect_past.2; inside = collect_past.0.inside }

    module _ (f : kind_code taken.word ≡ 15 → ⊥) (now' : List ℕ) (a : Adds vs now (kind_code taken.word) (take (taken.past - taken.from) (drop taken.from text)) now') where
      on : (p : ℕ) (whole : List Argument) → length whole ≤ 3 → (done : List Argument) (us : List Word) → Next text at us (Some taken) → Small us → now ≡ nine (Rows.atom p done)
          → whole ≡ done ++ arguments_in vs us → Left vs text now' taken.past p whole
      on p whole l done [] y m b z = absurd y
      on p whole l done (w ∷ us) y m b z =
          let arg : argument_of vs (kind_code taken.word) (take (taken.past - taken.from) (drop taken.from text)) ≡ argument_of vs (code_of w) (bytes_of w) = rw (y.code_is, y.bytes_are) in
          let next : whole ≡ (done ++ argument_of vs (code_of w) (bytes_of w)) ++ arguments_in vs us =
          z ∙ rw (more_in vs w us (λ q. f (y.code_is ∙ q))) (sym (append_assoc done (argument_of vs (code_of w) (bytes_of w)) (arguments_in vs us))) in
          let few : length (done ++ argument_of vs (code_of w) (bytes_of w)) ≤ 3 =
          omega (arith, ap length next, length-append (done ++ argument_of vs (code_of w) (bytes_of w)) (arguments_in vs us)) in
          record {
            done = done ++ argument_of vs (code_of w) (bytes_of w);
            us = us;
            spells = record { after = wordy w; spelled = y.rest };
            small = m.1;
            so = a.adds p done b (rw arg few) (λ q. rw y.bytes_are (m.0 (sym y.code_is ∙ q))) ∙ ap (λ (l : List Argument). nine (Rows.atom p (done ++ l))) arg;
            all = next;
          }

      pub collect_more : Collecting vs text before from now' taken.past
      collect_more = record {
        lexed = collect_past.0;
        passed = λ p gs ws b s m l.
            let r : Left vs text now at p (gs ++ arguments_in vs ws) = k.passed p gs ws b s m l in
            on p (gs ++ arguments_in vs ws) l r.done r.us (x r.spells.after r.us r.spells.spelled) r.small r.so r.all;
      }

-- the whole atom
none_after : (vs : List (List ℕ)) → arguments_after vs [] ≡ []
unfolding arguments_after
none_after vs = refl

no_arguments : (vs : List (List ℕ)) (w : Word) (ws : List Word) → (code_of w ≡ 14 → ⊥) → arguments_after vs (w ∷ ws) ≡ []
unfolding arguments_after
no_arguments vs w ws n = rw (sym (opening_kind w) ∙ ne_eqb (code_of w) 14 n, arguments_after)

some_arguments : (vs : List (List ℕ)) (w : Word) (ws : List Word) → code_of w ≡ 14 → arguments_after vs (w ∷ ws) ≡ arguments_in vs ws
unfolding arguments_after
some_arguments vs w ws e = rw (sym (opening_kind w) ∙ eq-eqb (code_of w) 14 e, arguments_after)

alone : (p : ℕ) → 2 ∷ p ∷ 0 ∷ 0 ∷ 0 ∷ 0 ∷ 0 ∷ 0 ∷ 0 ∷ [] ≡ nine (Rows.atom p [])
unfolding nine pairs_of
alone p = refl

module _ (vs : List (List ℕ)) (text : List ℕ) (p at : ℕ) where
  pub atom_ends : ((v : Bool) (ws : List Word) → Spelled v ws (drop at text) → Next text at ws None) → Numbers vs text p at (2 ∷ p ∷ 0 ∷ 0 ∷ 0 ∷ 0 ∷ 0 ∷ 0 ∷ 0 ∷ [])
  atom_ends x ws s m l = alone p ∙ ap (λ (gs : List Argument). nine (Rows.atom p gs)) (sym (by ws (x s.after ws s.spelled)))
    where
      by : (ws : List Word) → Next text at ws None → arguments_after vs ws ≡ []
      by [] y = none_after vs
      by (w ∷ ws) y = absurd y

  module _ (taken : Taken) (x : (v : Bool) (ws : List Word) → Spelled v ws (drop at text) → Next text at ws (Some taken)) where
    pub atom_alone : (kind_code taken.word ≡ 14 → ⊥) → Numbers vs text p at (2 ∷ p ∷ 0 ∷ 0 ∷ 0 ∷ 0 ∷ 0 ∷ 0 ∷ 0 ∷ [])
    atom_alone n ws s m l = alone p ∙ ap (λ (gs : List Argument). nine (Rows.atom p gs)) (sym (by ws (x s.after ws s.spelled)))
      where
        by : (ws : List Word) → Next text at ws (Some taken) → arguments_after vs ws ≡ []
        by [] y = absurd y
        by (w ∷ ws) y = no_arguments vs w ws (λ q. n (y.code_is ∙ q))

    pub atom_lexed : Lexed text at → Lexed text taken.past
    atom_lexed l = by l.words (x l.spells.after l.words l.spells.spelled)
      where
        by : (ws : List Word) → Next text at ws (Some taken) → Lexed text taken.past
        by [] y = absurd y
        by (w ∷ ws) y = record { inside = y.high; words = ws; spells = record { after = wordy w; spelled = y.rest } }

    pub atom_some : (after : List ℕ) → kind_code taken.word ≡ 14 → Collects vs text (2 ∷ p ∷ 0 ∷ 0 ∷ 0 ∷ 0 ∷ 0 ∷ 0 ∷ 0 ∷ []) taken.past after → Numbers vs text p at after
    atom_some after e c ws s m l = by ws (x s.after ws s.spelled) m l
      where
        by : (ws : List Word) → Next text at ws (Some taken) → Small ws → length (arguments_after vs ws) ≤ 3 → after ≡ nine (Rows.atom p (arguments_after vs ws))
        by [] y m l = absurd y
        by (w ∷ ws) y m l =
            let z : arguments_after vs (w ∷ ws) ≡ arguments_in vs ws = some_arguments vs w ws (sym y.code_is ∙ e) in
            rw z (c p [] ws (alone p) (record { after = wordy w; spelled = y.rest }) m.1 (rw z at l))

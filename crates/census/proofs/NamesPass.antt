-- The pass over names, word by word. Assumes nothing.
use Prim.Native.Nat.{ℕ, ◌-◌, ◌≤◌, ◌<◌}
use native.Mathlib.Omega.{arith}
use mathlib.Core.Path.{◌≡◌, refl, sym, ap, ◌∙◌}
use mathlib.Core.Bool.{Bool, true, false}
use mathlib.Core.List.{List, [], ◌∷◌, ◌++◌}
use lib.ListN.{length, take, drop, length-append}
use Rattle.text.specs.Words.{Spelled, Word, bytes_of}
use Rattle.text.specs.Grammar.{Reading, HasReading}
use Rattle.text.specs.Unfold.{listed, uses_after, first_uses, predicate_names, variable_names}
use Rattle.text.proofs.NameLaws.{uses_append}
use Rattle.std.specs.Prelude.{Some, None}
use Rattle.spelling.specs.declared.words.Taken.{Taken}
use Rattle.spelling.specs.Kinds.{kind_code}
use Rattle.spelling.specs.Codes.{code_of, next_mode, Next, mode_after}
use Rattle.spelling.proofs.KindLaws.{next_is}
use Rattle.census.specs.Folds.{Event, events, events_of, names_in}
use Rattle.census.specs.declared.spans.Span.{Span}
use Rattle.census.specs.Tables.{names_at, Table, Within, asked_for, name_code}
use Rattle.census.specs.Noting.{Noted, NotedIn, names_for, Told, Over}
use Rattle.census.proofs.NameLaws.{variables_of, predicates_of, name_step}
use Rattle.census.proofs.PassLaws.{Passing, Stepped, pass_begins, pass_ends, pass_steps, pass_on, of_all}

-- the names so far and those of the events left
abbrev pub Names : Bool → List (List ℕ) → Reading → List Event → Type 0
Names b done f es = names_for b f ≡ uses_after done (names_in b es)

names_all : (b : Bool) (f : Reading) → names_for b f ≡ uses_after [] (names_in b (events_of f))
unfolding names_for predicate_names variable_names first_uses
names_all true f = rw (predicates_of f)
names_all false f = rw (variables_of f)

uses_longer : (done xs : List (List ℕ)) → length done ≤ length (uses_after done xs)
unfolding uses_after
uses_longer done [] = omega arith
uses_longer done (x ∷ xs) = go (listed done x) (uses_longer done xs) (uses_longer (done ++ (x ∷ [])) xs)
  where
    go : (q : Bool) → length done ≤ length (uses_after done xs) → length (done ++ (x ∷ [])) ≤ length (uses_after (done ++ (x ∷ [])) xs)
        → length done ≤ length (uses_after (elim q [ true ↦ done | false ↦ done ++ (x ∷ []) ]) xs)
    go true a b = a
    go false a b = omega (arith, length-append done (x ∷ []))

pub record Naming (b : Bool) (text : List ℕ) (spans : List Span) (n mode at : ℕ) : Type 0 where
  pub few : n ≤ at
  pub room : n ≤ length spans
  pub table : Table text (take n spans)
  pub pass : Passing (Names b (names_at text (take n spans))) text at mode

pub names_begin : (b : Bool) (text : List ℕ) (spans : List Span) → HasReading text → Naming b text spans 0 0 0
unfolding names_at
names_begin b text spans h = record {
  few = omega arith;
  room = omega arith;
  table = record { inside = λ k q. absurd (omega arith) };
  pass = pass_begins (Names b []) text h (names_all b h.reading);
}

module _ (b : Bool) (text : List ℕ) (spans : List Span) (n mode at : ℕ) (k : Naming b text spans n mode at) where
  pub names_ends : ((v : Bool) (ws : List Word) → Spelled v ws (drop at text) → Next text at ws None) → Told b text spans n
  unfolding names_in uses_after
  names_ends l = record {
    few = omega (arith, k.few, k.pass.inside);
    room = k.room;
    table = k.table;
    names = of_all text k.pass.reading (names_at text (take n spans)) (names_for b) k.pass.is (sym (pass_ends (Names b (names_at text (take n spans))) text at mode k.pass l));
  }

  module _ (taken : Taken) (x : (v : Bool) (ws : List Word) → Spelled v ws (drop at text) → Next text at ws (Some taken)) where
    stepped : Stepped (Names b (names_at text (take n spans))) text at mode (kind_code taken.word) taken.from taken.past
    stepped = pass_steps (Names b (names_at text (take n spans))) text at mode k.pass taken x

    pub names_within : Within text taken.from taken.past
    names_within = record { order = omega (arith, stepped.first.long); inside = stepped.first.high }

    pub names_grow : at < taken.past
    names_grow = omega (arith, stepped.first.low, stepped.first.long)

    same_asked : (c d : ℕ) (y z : List ℕ) → c ≡ d → y ≡ z → asked_for (name_code b mode c) y ≡ asked_for (name_code b mode d) z
    same_asked c d y z p q = rw (p, q)

    told : names_for b stepped.reading
        ≡ uses_after (uses_after (names_at text (take n spans)) (asked_for (name_code b mode (kind_code taken.word)) (take (taken.past - taken.from) (drop taken.from text)))) (names_in b (events (mode_after mode stepped.w) stepped.ws))
    told =
        stepped.left
        ∙ ap (uses_after (names_at text (take n spans))) (name_step b mode stepped.w stepped.ws (events (mode_after mode stepped.w) stepped.ws)
        ∙ ap (λ (xs : List (List ℕ)). xs ++ names_in b (events (mode_after mode stepped.w) stepped.ws))
        (same_asked (code_of stepped.w) (kind_code taken.word) (bytes_of stepped.w) (take (taken.past - taken.from) (drop taken.from text)) (sym stepped.first.code_is) (sym stepped.first.bytes_are)))
        ∙ uses_append (names_at text (take n spans)) (asked_for (name_code b mode (kind_code taken.word)) (take (taken.past - taken.from) (drop taken.from text))) (names_in b (events (mode_after mode stepped.w) stepped.ws))

    module _ (spans' : List Span) where
      pub names_full : Noted text spans n (asked_for (name_code b mode (kind_code taken.word)) (take (taken.past - taken.from) (drop taken.from text))) spans' None → Over b text spans'
      names_full m = record {
        few = omega (arith, m.0, m.1, k.few, names_grow, stepped.first.high);
        over = λ f u. rw (← (of_all text stepped.reading (names_for b stepped.reading) (names_for b) stepped.is refl f u)) over_all;
      }
        where
          over_all : length spans' < length (names_for b stepped.reading)
          over_all =
              rw told
              (omega (
                arith,
                m.1,
                m.2,
                uses_longer (uses_after (names_at text (take n spans)) (asked_for (name_code b mode (kind_code taken.word)) (take (taken.past - taken.from) (drop taken.from text)))) (names_in b (events (mode_after mode stepped.w) stepped.ws)),
              ))

      pub names_more : (r mode' : ℕ) → NotedIn text spans n (asked_for (name_code b mode (kind_code taken.word)) (take (taken.past - taken.from) (drop taken.from text))) spans' r
          → mode' ≡ next_mode mode (kind_code taken.word) → Naming b text spans' r mode' taken.past
      names_more r mode' m q =
          let o : mode' ≡ mode_after mode stepped.w = q ∙ ap (next_mode mode) stepped.first.code_is ∙ next_is mode stepped.w in
          record {
            few = omega (arith, m.near, k.few, names_grow);
            room = m.room;
            table = m.table;
            pass = pass_on (Names b (names_at text (take n spans))) (Names b (names_at text (take r spans'))) text at mode (kind_code taken.word) taken.from taken.past mode' stepped o
                (told ∙ ap (λ (d : List (List ℕ)). uses_after d (names_in b (events (mode_after mode stepped.w) stepped.ws))) (sym m.names));
          }

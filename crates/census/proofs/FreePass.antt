-- The pass over free variables, word by word. Assumes nothing.
use Prim.Native.Nat.{ℕ, zero, suc, ◌+◌, ◌-◌, ◌≤◌, ◌<◌}
use native.Mathlib.Omega.{arith}
use mathlib.Core.Path.{◌≡◌, refl, sym, ap, ◌∙◌}
use mathlib.Core.Bool.{Bool, true, false, ◌||◌}
use mathlib.Core.List.{List, [], ◌∷◌, ◌++◌}
use lib.Dec.{eqb}
use lib.ListN.{length, take, drop, get_or, replicate}
use borrow.Author.Tests.{eqb-true}
use Rattle.trees.proofs.Tests.{false_true}
use Rattle.text.specs.Words.{Spelled, Word, name, number, constant, prefix, binary, quantifier, opening, closing, comma, dot, bytes_of}
use Rattle.text.specs.Grammar.{Reading, HasReading}
use Rattle.text.specs.Unfold.{listed, number_in, variables, variable_names}
use Rattle.text.specs.Scope.{loose}
use Rattle.text.proofs.NameLaws.{Listed, first_uses_list, listed_right, number_lt}
use Rattle.std.specs.Prelude.{Some, None}
use Rattle.spelling.specs.declared.words.Taken.{Taken}
use Rattle.spelling.specs.Kinds.{kind_code}
use Rattle.spelling.specs.Codes.{code_of, kind_of, next_mode, Next, mode_after}
use Rattle.spelling.proofs.KindLaws.{next_is, name_kind, opening_kind, closing_kind}
use Rattle.census.specs.declared.spans.Span.{Span}
use Rattle.census.specs.Folds.{Event, call, uses, binds, opens, closes, named, arguments_in, event_of, events, events_of, names_in}
use Rattle.census.specs.Tables.{names_at, Within, asked_for, name_code}
use Rattle.census.specs.Scopes.{loose_in, name_event, chosen, scope_event, Distinct, Scoped, After, Enters, Variables, ToldLoose}
use Rattle.census.proofs.NameLaws.{variables_of, name_step}
use Rattle.census.proofs.TableLaws.{table_length}
use Rattle.census.proofs.CallLaws.{distinct_first}
use Rattle.census.proofs.LooseLaws.{loose_of}
use Rattle.census.proofs.PassLaws.{Passing, Stepped, pass_begins, pass_ends, pass_steps, pass_on, of_all}

-- one word more, by number
named_loose : (m : ℕ) (x : List ℕ) (n d : ℕ) (env : List ℕ → ℕ) (es : List Event) → loose_in d env (named m x n ++ es) ≡ loose_in d env (name_event (eqb m 3) (eqb m 5) x ++ es)
unfolding named name_event loose_in
named_loose m x n d env es = go (eqb m 0) (eqb m 3) (eqb m 5) (apart m)
  where
    apart : (m : ℕ) → eqb m 0 ≡ true → (eqb m 3 || eqb m 5) ≡ false
    apart m e =
        let z : m ≡ 0 = eqb-true m 0 e in
        rw z

    go : (a b c : Bool) → (a ≡ true → (b || c) ≡ false)
        → loose_in d env (elim a [ true ↦ call x n ∷ [] | false ↦ elim b [ true ↦ binds x ∷ [] | false ↦ elim c [ true ↦ uses x ∷ [] | false ↦ [] ] ] ] ++ es)
        ≡ loose_in d env (name_event b c x ++ es)
    go true true c h = absurd (false_true (h refl) refl)
    go true false true h = absurd (false_true (h refl) refl)
    go true false false h = refl
    go false true c h = refl
    go false false true h = refl
    go false false false h = refl

unfoldable kind_event : ℕ → Word → List Event
kind_event m w = chosen (eqb (kind_of w) 0) (eqb (kind_of w) 6) (eqb (kind_of w) 7) (eqb m 0) (eqb m 3) (eqb m 5) (eqb m 6) (bytes_of w)

opened : (a b c e : Bool) (x : List ℕ) → elim a [ true ↦ opens ∷ [] | false ↦ [] ] ≡ chosen false true false a b c e x
unfolding chosen
opened true b c e x = refl
opened false b c e x = refl

shut : (a b c e : Bool) (x : List ℕ) → elim e [ true ↦ [] | false ↦ closes ∷ [] ] ≡ chosen false false true a b c e x
unfolding chosen
shut a b c true x = refl
shut a b c false x = refl

by_kind : (m : ℕ) (w : Word) (ws : List Word) (d : ℕ) (env : List ℕ → ℕ) (es : List Event) → loose_in d env (event_of m w ws ++ es) ≡ loose_in d env (kind_event m w ++ es)
unfolding event_of kind_of bytes_of kind_event chosen loose_in
by_kind m (name x) ws d env es = named_loose m x (arguments_in ws) d env es
by_kind m (number ds) ws d env es = refl
by_kind m (constant b) ws d env es = refl
by_kind m (prefix o) ws d env es = refl
by_kind m (binary o) ws d env es = refl
by_kind m (quantifier q) ws d env es = refl
by_kind m opening ws d env es = ap (λ (l : List Event). loose_in d env (l ++ es)) (opened (eqb m 0) (eqb m 3) (eqb m 5) (eqb m 6) (40 ∷ []))
by_kind m closing ws d env es = ap (λ (l : List Event). loose_in d env (l ++ es)) (shut (eqb m 0) (eqb m 3) (eqb m 5) (eqb m 6) (41 ∷ []))
by_kind m comma ws d env es = refl
by_kind m dot ws d env es = refl

coded_event : (m : ℕ) (w : Word) → scope_event m (code_of w) (bytes_of w) ≡ kind_event m w
unfolding scope_event kind_event
coded_event m w = rw (name_kind w, opening_kind w, closing_kind w)

-- the events left tell it
pub record Free (d : ℕ) (env : List ℕ → ℕ) (f : Reading) (es : List Event) : Type 0 where
  pub left : loose [] f ≡ loose_in d env es
  pub known : Listed (variable_names f) (names_in false es)

pub record Scoping (text : List ℕ) (spans : List Span) (since : List ℕ) (depth mode at : ℕ) : Type 0 where
  pub near : depth ≤ at + 1
  pub sized : length since ≡ 4
  pub env : List ℕ → ℕ
  pub scoped : Scoped (names_at text spans) since env
  pub pass : Passing (Free depth env) text at mode

all_listed : (f : Reading) → Listed (variable_names f) (names_in false (events_of f))
unfolding variable_names
all_listed f = rw (variables_of f) (first_uses_list (variables f))

pub scope_begins : (text : List ℕ) (spans : List Span) → HasReading text → Variables text spans → Scoping text spans (replicate 4 0) 1 0 0
scope_begins text spans h p = record {
  near = omega arith;
  sized = refl;
  env = λ y. 0;
  scoped = λ v q. zeros v;
  pass = pass_begins (Free 1 (λ y. 0)) text h (record { left = loose_of h.reading h.text.fine; known = all_listed h.reading });
}
  where
    zeros : (v : ℕ) → ◌≡◌ {A = ℕ} (get_or (replicate 4 0) v 0) 0
    zeros zero = refl
    zeros (suc zero) = refl
    zeros (suc (suc zero)) = refl
    zeros (suc (suc (suc zero))) = refl
    zeros (suc (suc (suc (suc v)))) = refl

asked_first : (ns : List (List ℕ)) (y : List ℕ) (xs : List (List ℕ)) → Listed ns (asked_for true y ++ xs) → listed ns y ≡ true
unfolding asked_for
asked_first ns y xs h = h.0

module _ (text : List ℕ) (spans : List Span) (since : List ℕ) (depth mode at : ℕ) (p : Variables text spans)
    (k : Scoping text spans since depth mode at) where
  none : Free depth k.env k.pass.reading [] → ToldLoose text false
  unfolding loose_in
  none x = of_all text k.pass.reading false (loose []) k.pass.is (sym x.left)

  pub scope_ends : ((v : Bool) (ws : List Word) → Spelled v ws (drop at text) → Next text at ws None) → ToldLoose text false
  scope_ends l = none (pass_ends (Free depth k.env) text at mode k.pass l)

  pub count : length (names_at text spans) ≡ length spans
  count = table_length text spans

  module _ (taken : Taken) (x : (v : Bool) (ws : List Word) → Spelled v ws (drop at text) → Next text at ws (Some taken)) where
    stepped : Stepped (Free depth k.env) text at mode (kind_code taken.word) taken.from taken.past
    stepped = pass_steps (Free depth k.env) text at mode k.pass taken x

    pub scope_within : Within text taken.from taken.past
    scope_within = record { order = omega (arith, stepped.first.long); inside = stepped.first.high }

    pub scope_grows : at < taken.past
    scope_grows = omega (arith, stepped.first.low, stepped.first.long)

    same_names : (c d : ℕ) (y z : List ℕ) → c ≡ d → y ≡ z → asked_for (name_code false mode c) y ≡ asked_for (name_code false mode d) z
    same_names c d y z u v = rw (u, v)

    all_names : Listed (variable_names stepped.reading) (asked_for (name_code false mode (kind_code taken.word)) (take (taken.past - taken.from) (drop taken.from text)) ++ names_in false (events (mode_after mode stepped.w) stepped.ws))
    all_names =
        rw (
          name_step false mode stepped.w stepped.ws (events (mode_after mode stepped.w) stepped.ws),
          same_names (code_of stepped.w) (kind_code taken.word) (bytes_of stepped.w) (take (taken.past - taken.from) (drop taken.from text)) (sym stepped.first.code_is) (sym stepped.first.bytes_are),
        )
        at stepped.left.known

    pub scope_listed : name_code false mode (kind_code taken.word) ≡ true → listed (names_at text spans) (take (taken.past - taken.from) (drop taken.from text)) ≡ true
    scope_listed z = rw (p.names stepped.reading stepped.is) (asked_first (variable_names stepped.reading) (take (taken.past - taken.from) (drop taken.from text)) (names_in false (events (mode_after mode stepped.w) stepped.ws)) (rw z at all_names))

    pub scope_number : name_code false mode (kind_code taken.word) ≡ true → number_in (names_at text spans) (take (taken.past - taken.from) (drop taken.from text)) < length spans
    scope_number z = omega (arith, number_lt (names_at text spans) (take (taken.past - taken.from) (drop taken.from text)) (scope_listed z), count)

    module _ (since' : List ℕ) (depth' : ℕ) (r : Bool)
        (t : Enters (names_at text spans) (scope_event mode (kind_code taken.word) (take (taken.past - taken.from) (drop taken.from text))) since since' depth depth' r) where
      different : Distinct (names_at text spans)
      different = rw (p.names stepped.reading stepped.is) (unfold variable_names in distinct_first (variables stepped.reading))

      after : After (names_at text spans) (scope_event mode (kind_code taken.word) (take (taken.past - taken.from) (drop taken.from text))) since' depth depth' r k.env
      after = t.after k.env k.sized different k.scoped

      same_event : (c d : ℕ) (y z : List ℕ) → c ≡ d → y ≡ z → scope_event mode c y ≡ scope_event mode d z
      same_event c d y z u v = rw (u, v)

      told : loose [] stepped.reading ≡ (r || loose_in depth' after.env' (events (mode_after mode stepped.w) stepped.ws))
      told =
          stepped.left.left
          ∙ by_kind mode stepped.w stepped.ws depth k.env (events (mode_after mode stepped.w) stepped.ws)
          ∙ ap (λ (l : List Event). loose_in depth k.env (l ++ events (mode_after mode stepped.w) stepped.ws))
          (sym (coded_event mode stepped.w) ∙ same_event (code_of stepped.w) (kind_code taken.word) (bytes_of stepped.w) (take (taken.past - taken.from) (drop taken.from text)) (sym stepped.first.code_is) (sym stepped.first.bytes_are))
          ∙ after.tells (events (mode_after mode stepped.w) stepped.ws)

      pub scope_loose : r ≡ true → ToldLoose text true
      scope_loose z = of_all text stepped.reading true (loose []) stepped.is (sym (told ∙ ap (λ (q : Bool). q || loose_in depth' after.env' (events (mode_after mode stepped.w) stepped.ws)) z))

      pub scope_more : (mode' : ℕ) → r ≡ false → mode' ≡ next_mode mode (kind_code taken.word) → Scoping text spans since' depth' mode' taken.past
      scope_more mode' z q =
          let o : mode' ≡ mode_after mode stepped.w = q ∙ ap (next_mode mode) stepped.first.code_is ∙ next_is mode stepped.w in
          record {
            near = omega (arith, t.near, k.near, scope_grows);
            sized = t.sized k.sized;
            env = after.env';
            scoped = after.scoped;
            pass = pass_on (Free depth k.env) (Free depth' after.env') text at mode (kind_code taken.word) taken.from taken.past mode' stepped o
                (record {
                  left = told ∙ ap (λ (q : Bool). q || loose_in depth' after.env' (events (mode_after mode stepped.w) stepped.ws)) z;
                  known = listed_right (variable_names stepped.reading) (asked_for (name_code false mode (kind_code taken.word)) (take (taken.past - taken.from) (drop taken.from text))) (names_in false (events (mode_after mode stepped.w) stepped.ws)) all_names;
                });
          }

-- The pass over counts, word by word. Assumes nothing.
use Prim.Native.Nat.{ℕ, ◌-◌, ◌<◌}
use native.Mathlib.Omega.{arith}
use mathlib.Core.Path.{◌≡◌, refl, sym, ap, ◌∙◌}
use mathlib.Core.Bool.{Bool, true, false, not}
use mathlib.Core.List.{List, [], ◌∷◌, ◌++◌, append_assoc, append-nil, map}
use lib.Dec.{eqb}
use lib.ListN.{length, take, drop, get_or, length-set}
use borrow.Author.Tests.{eq-eqb, eqb-true}
use Rattle.trees.proofs.Tests.{bool, false_true, not_true}
use mathlib.Core.Logic.{⊎_elim}
use Rattle.text.specs.Words.{Spelled, Word, bytes_of, wordy}
use Rattle.text.specs.Grammar.{Reading, HasReading}
use Rattle.text.specs.Unfold.{Atom, listed, number_in, atoms, predicate_names}
use Rattle.text.specs.Translate.{clashes}
use Rattle.text.proofs.NameLaws.{Listed, first_uses_list, listed_right, number_lt, number_at}
use Rattle.std.specs.Prelude.{Option, Some, None}
use Rattle.spelling.specs.declared.words.Taken.{Taken}
use Rattle.spelling.specs.Kinds.{kind_code}
use Rattle.spelling.specs.Codes.{code_of, next_mode, Next, mode_after, Spells}
use Rattle.spelling.proofs.KindLaws.{next_is}
use Rattle.census.specs.declared.spans.Span.{Span}
use Rattle.census.specs.Folds.{Event, Lexed, arguments_in, events, events_of, names_in}
use Rattle.census.specs.Tables.{names_at, Within, asked_for, name_code}
use Rattle.census.specs.Clashes.{Call, calls_in, seen, count_in, any_clash, marking, mark_of, Compared, Settled, Predicates, ToldClash}
use Rattle.census.proofs.NameLaws.{predicates_of, name_step}
use Rattle.census.proofs.TableLaws.{table_length}
use Rattle.census.specs.Scopes.{Distinct}
use Rattle.census.proofs.CallLaws.{distinct_first, clash_of, calls_by, call_step, count_seen, count_unseen, mark_seen, mark_unseen}
use Rattle.census.proofs.MarkLaws.{marks_set, marks_keep, agreed_more, clash_found}
use Rattle.census.proofs.PassLaws.{Passing, Stepped, pass_begins, pass_ends, pass_steps, pass_on, of_all, stepped_lexed}

-- the calls so far and those of the events left; none so far clashes; the names left are predicates
pub record Calls (done : List Call) (f : Reading) (es : List Event) : Type 0 where
  pub all : calls_in (events_of f) ≡ done ++ calls_in es
  pub agreed : any_clash (calls_in (events_of f)) done ≡ false
  pub known : Listed (predicate_names f) (names_in true es)

pub record Clashing (text : List ℕ) (spans : List Span) (counts : List (Option ℕ)) (mode at : ℕ) : Type 0 where
  pub sized : length counts ≡ 4096
  pub done : List Call
  pub marks : (k : ℕ) → k < length spans → get_or counts k None ≡ mark_of done (get_or (names_at text spans) k [])
  pub pass : Passing (Calls done) text at mode

not_so : (b : Bool) → not b ≡ false → b ≡ true
not_so true e = refl
not_so false e = absurd (false_true e refl)

not_same : (m : ℕ) → not (eqb m m) ≡ false
not_same m = rw (eq-eqb m m refl)

-- before the first name
none_marked : (p : List ℕ) → mark_of [] p ≡ None
unfolding mark_of marking seen
none_marked p = refl

all_listed : (f : Reading) → Listed (predicate_names f) (names_in true (events_of f))
unfolding predicate_names
all_listed f = rw (predicates_of f) (first_uses_list (map (λ (a : Atom). a.called) (atoms f)))

pub clash_begins : (text : List ℕ) (spans : List Span) (counts : List (Option ℕ)) → HasReading text → length counts ≡ 4096 → ((k : ℕ) → k < length spans → get_or counts k None ≡ None)
    → Clashing text spans counts 0 0
clash_begins text spans counts h s m = record {
  sized = s;
  done = [];
  marks = λ k q. m k q ∙ sym (none_marked (get_or (names_at text spans) k []));
  pass = pass_begins (Calls []) text h (record { all = refl; agreed = unfold any_clash in refl; known = all_listed h.reading });
}

asked_first : (ns : List (List ℕ)) (y : List ℕ) (xs : List (List ℕ)) → Listed ns (asked_for true y ++ xs) → listed ns y ≡ true
unfolding asked_for
asked_first ns y xs h = h.0

module _ (text : List ℕ) (spans : List Span) (counts : List (Option ℕ)) (mode at : ℕ) (p : Predicates text spans)
    (k : Clashing text spans counts mode at) where
  none : Calls k.done k.pass.reading [] → ToldClash text false
  none x =
      let all : calls_in (events_of k.pass.reading) ≡ k.done = x.all ∙ unfold calls_in in append-nil k.done in
      of_all text k.pass.reading false (λ f. clashes (atoms f)) k.pass.is
      (sym (clash_of k.pass.reading ∙ ap (any_clash (calls_in (events_of k.pass.reading))) all ∙ x.agreed))

  pub clash_ends : ((v : Bool) (ws : List Word) → Spelled v ws (drop at text) → Next text at ws None) → ToldClash text false
  clash_ends l = none (pass_ends (Calls k.done) text at mode k.pass l)

  module _ (taken : Taken) (x : (v : Bool) (ws : List Word) → Spelled v ws (drop at text) → Next text at ws (Some taken)) where
    stepped : Stepped (Calls k.done) text at mode (kind_code taken.word) taken.from taken.past
    stepped = pass_steps (Calls k.done) text at mode k.pass taken x

    pub clash_within : Within text taken.from taken.past
    clash_within = record { order = omega (arith, stepped.first.long); inside = stepped.first.high }

    pub clash_lexed : Lexed text taken.past
    clash_lexed = stepped_lexed (Calls k.done) text at mode (kind_code taken.word) taken.from taken.past stepped

    pub clash_grows : at < taken.past
    clash_grows = omega (arith, stepped.first.low, stepped.first.long)

    module _ (asked : Bool) (a : asked ≡ name_code true mode (kind_code taken.word)) where
      same_calls : (c d : ℕ) (y z : List ℕ) → c ≡ d → y ≡ z → calls_by (name_code true mode c) y (arguments_in stepped.ws) ≡ calls_by (name_code true mode d) z (arguments_in stepped.ws)
      same_calls c d y z u v = rw (u, v)

      calls_now : calls_by (name_code true mode (code_of stepped.w)) (bytes_of stepped.w) (arguments_in stepped.ws) ≡ calls_by asked (take (taken.past - taken.from) (drop taken.from text)) (arguments_in stepped.ws)
      calls_now =
          same_calls (code_of stepped.w) (kind_code taken.word) (bytes_of stepped.w) (take (taken.past - taken.from) (drop taken.from text)) (sym stepped.first.code_is) (sym stepped.first.bytes_are)
          ∙ ap (λ (q : Bool). calls_by q (take (taken.past - taken.from) (drop taken.from text)) (arguments_in stepped.ws)) (sym a)

      same_names : (c d : ℕ) (y z : List ℕ) → c ≡ d → y ≡ z → asked_for (name_code true mode c) y ≡ asked_for (name_code true mode d) z
      same_names c d y z u v = rw (u, v)

      names_now : asked_for (name_code true mode (code_of stepped.w)) (bytes_of stepped.w) ≡ asked_for asked (take (taken.past - taken.from) (drop taken.from text))
      names_now =
          same_names (code_of stepped.w) (kind_code taken.word) (bytes_of stepped.w) (take (taken.past - taken.from) (drop taken.from text)) (sym stepped.first.code_is) (sym stepped.first.bytes_are)
          ∙ ap (λ (q : Bool). asked_for q (take (taken.past - taken.from) (drop taken.from text))) (sym a)

      all_calls : calls_in (events_of stepped.reading) ≡ k.done ++ (calls_by asked (take (taken.past - taken.from) (drop taken.from text)) (arguments_in stepped.ws) ++ calls_in (events (mode_after mode stepped.w) stepped.ws))
      all_calls =
          stepped.left.all
          ∙ ap (λ (cs : List Call). k.done ++ cs) (call_step mode stepped.w stepped.ws (events (mode_after mode stepped.w) stepped.ws)
          ∙ ap (λ (cs : List Call). cs ++ calls_in (events (mode_after mode stepped.w) stepped.ws)) calls_now)

      all_names : Listed (predicate_names stepped.reading) (asked_for asked (take (taken.past - taken.from) (drop taken.from text)) ++ names_in true (events (mode_after mode stepped.w) stepped.ws))
      all_names =
          rw (name_step true mode stepped.w stepped.ws (events (mode_after mode stepped.w) stepped.ws), names_now) at stepped.left.known

      known_later : Listed (predicate_names stepped.reading) (names_in true (events (mode_after mode stepped.w) stepped.ws))
      known_later = listed_right (predicate_names stepped.reading) (asked_for asked (take (taken.past - taken.from) (drop taken.from text))) (names_in true (events (mode_after mode stepped.w) stepped.ws)) all_names

      -- the name is one of the table
      pub clash_listed : asked ≡ true → listed (names_at text spans) (take (taken.past - taken.from) (drop taken.from text)) ≡ true
      clash_listed z = rw (p.names stepped.reading stepped.is) (asked_first (predicate_names stepped.reading) (take (taken.past - taken.from) (drop taken.from text)) (names_in true (events (mode_after mode stepped.w) stepped.ws)) (rw z at all_names))

      pub clash_number : asked ≡ true → number_in (names_at text spans) (take (taken.past - taken.from) (drop taken.from text)) < length spans
      clash_number z =
          omega (
            arith,
            number_lt (names_at text spans) (take (taken.past - taken.from) (drop taken.from text)) (clash_listed z),
            table_length text spans,
          )

      module _ (counts' : List (Option ℕ)) (r : Bool) (t : Settled text (names_at text spans) asked taken.from taken.past counts counts' r) where
        left_spells : Spells stepped.ws (drop taken.past text)
        left_spells = record { after = wordy stepped.w; spelled = stepped.first.rest }

        module _ (z : asked ≡ true) where
          compared : Compared (get_or counts (number_in (names_at text spans) (take (taken.past - taken.from) (drop taken.from text))) None) (number_in (names_at text spans) (take (taken.past - taken.from) (drop taken.from text))) (arguments_in stepped.ws) counts counts' r
          compared = ((rw z at t) stepped.ws left_spells).1

          named_so : get_or (names_at text spans) (number_in (names_at text spans) (take (taken.past - taken.from) (drop taken.from text))) [] ≡ take (taken.past - taken.from) (drop taken.from text)
          named_so = number_at (names_at text spans) (take (taken.past - taken.from) (drop taken.from text)) (clash_listed z)

          marked : get_or counts (number_in (names_at text spans) (take (taken.past - taken.from) (drop taken.from text))) None ≡ mark_of k.done (take (taken.past - taken.from) (drop taken.from text))
          marked = k.marks (number_in (names_at text spans) (take (taken.past - taken.from) (drop taken.from text))) (clash_number z) ∙ ap (mark_of k.done) named_so

          calls_so : calls_in (events_of stepped.reading) ≡ k.done ++ (record { called = take (taken.past - taken.from) (drop taken.from text); count = arguments_in stepped.ws } ∷ calls_in (events (mode_after mode stepped.w) stepped.ws))
          calls_so = all_calls ∙ ap (λ (cs : List Call). k.done ++ (cs ++ calls_in (events (mode_after mode stepped.w) stepped.ws))) (by_asked asked z)
            where
              by_asked : (b : Bool) → b ≡ true → calls_by b (take (taken.past - taken.from) (drop taken.from text)) (arguments_in stepped.ws)
                  ≡ record { called = take (taken.past - taken.from) (drop taken.from text); count = arguments_in stepped.ws } ∷ []
              by_asked b e = rw e (unfold calls_by in refl)

          -- noted before, or not
          old_seen : (c : ℕ) → get_or counts (number_in (names_at text spans) (take (taken.past - taken.from) (drop taken.from text))) None ≡ Some c → seen k.done (take (taken.past - taken.from) (drop taken.from text)) ≡ true
          old_seen c u = ⊎_elim (λ q. q) (λ q. let y : mark_of k.done (take (taken.past - taken.from) (drop taken.from text)) ≡ None = mark_unseen k.done (take (taken.past - taken.from) (drop taken.from text)) q in let w : ◌≡◌ {A = Option ℕ} (Some c) None = sym u ∙ marked ∙ y in absurd (cc w)) (bool (seen k.done (take (taken.past - taken.from) (drop taken.from text))))

          new_unseen : get_or counts (number_in (names_at text spans) (take (taken.past - taken.from) (drop taken.from text))) None ≡ None → seen k.done (take (taken.past - taken.from) (drop taken.from text)) ≡ false
          new_unseen u = not_true (seen k.done (take (taken.past - taken.from) (drop taken.from text))) (λ q.
              let w : ◌≡◌ {A = Option ℕ} None (Some (count_in k.done (take (taken.past - taken.from) (drop taken.from text)))) = sym u ∙ marked ∙ mark_seen k.done (take (taken.past - taken.from) (drop taken.from text)) q in cc w)

          -- the count of the name in the whole text
          whole_seen : (c : ℕ) → get_or counts (number_in (names_at text spans) (take (taken.past - taken.from) (drop taken.from text))) None ≡ Some c → count_in (calls_in (events_of stepped.reading)) (take (taken.past - taken.from) (drop taken.from text)) ≡ c
          whole_seen c u =
              ap (λ (cs : List Call). count_in cs (take (taken.past - taken.from) (drop taken.from text))) calls_so
              ∙ count_seen k.done (record { called = take (taken.past - taken.from) (drop taken.from text); count = arguments_in stepped.ws } ∷ calls_in (events (mode_after mode stepped.w) stepped.ws)) (take (taken.past - taken.from) (drop taken.from text)) (old_seen c u)
              ∙ (let w : Some (count_in k.done (take (taken.past - taken.from) (drop taken.from text))) ≡ Some c = sym (mark_seen k.done (take (taken.past - taken.from) (drop taken.from text)) (old_seen c u)) ∙ sym marked ∙ u in cc w)

          whole_unseen : seen k.done (take (taken.past - taken.from) (drop taken.from text)) ≡ false → count_in (calls_in (events_of stepped.reading)) (take (taken.past - taken.from) (drop taken.from text)) ≡ arguments_in stepped.ws
          whole_unseen q =
              ap (λ (cs : List Call). count_in cs (take (taken.past - taken.from) (drop taken.from text))) calls_so
              ∙ count_unseen k.done (calls_in (events (mode_after mode stepped.w) stepped.ws)) (take (taken.past - taken.from) (drop taken.from text)) (arguments_in stepped.ws) q

          table_count : length (names_at text spans) ≡ length spans
          table_count = table_length text spans

          different : Distinct (names_at text spans)
          different = rw (p.names stepped.reading stepped.is) (unfold predicate_names in distinct_first (map (λ (a : Atom). a.called) (atoms stepped.reading)))

          clash_told : (c : ℕ) → get_or counts (number_in (names_at text spans) (take (taken.past - taken.from) (drop taken.from text))) None ≡ Some c → (c ≡ arguments_in stepped.ws → ⊥) → ToldClash text true
          clash_told c u v =
              of_all text stepped.reading true (λ f. clashes (atoms f)) stepped.is
              (sym (clash_of stepped.reading
              ∙ clash_found k.done (take (taken.past - taken.from) (drop taken.from text)) (arguments_in stepped.ws) (calls_in (events_of stepped.reading))
              (calls_in (events (mode_after mode stepped.w) stepped.ws)) calls_so (λ q. v (sym (whole_seen c u) ∙ sym q))))

          -- the pass goes on with one call more
          more_calls : (mode' : ℕ) → length counts' ≡ 4096 → mode' ≡ next_mode mode (kind_code taken.word)
              → ((j : ℕ) → j < length (names_at text spans) → get_or counts' j None ≡ mark_of (k.done ++ (record { called = take (taken.past - taken.from) (drop taken.from text); count = arguments_in stepped.ws } ∷ [])) (get_or (names_at text spans) j []))
              → count_in (calls_in (events_of stepped.reading)) (take (taken.past - taken.from) (drop taken.from text)) ≡ arguments_in stepped.ws
              → Clashing text spans counts' mode' taken.past
          more_calls mode' s q marks c =
              let o : mode' ≡ mode_after mode stepped.w = q ∙ ap (next_mode mode) stepped.first.code_is ∙ next_is mode stepped.w in
              record {
                sized = s;
                done = k.done ++ (record { called = take (taken.past - taken.from) (drop taken.from text); count = arguments_in stepped.ws } ∷ []);
                marks = λ j h. marks j (rw table_count h);
                pass = pass_on (Calls k.done) (Calls (k.done ++ (record { called = take (taken.past - taken.from) (drop taken.from text); count = arguments_in stepped.ws } ∷ []))) text at mode (kind_code taken.word) taken.from taken.past mode' stepped o
                    (record {
                      all = calls_so ∙ sym (append_assoc k.done (record { called = take (taken.past - taken.from) (drop taken.from text); count = arguments_in stepped.ws } ∷ []) (calls_in (events (mode_after mode stepped.w) stepped.ws)));
                      agreed = agreed_more k.done (take (taken.past - taken.from) (drop taken.from text)) (arguments_in stepped.ws) (calls_in (events_of stepped.reading)) stepped.left.agreed c;
                      known = known_later;
                    });
              }

          settled_more : (mode' : ℕ) → r ≡ false → mode' ≡ next_mode mode (kind_code taken.word) → Clashing text spans counts' mode' taken.past
          settled_more mode' f q = go (get_or counts (number_in (names_at text spans) (take (taken.past - taken.from) (drop taken.from text))) None) refl compared
            where
              go : (o : Option ℕ) → get_or counts (number_in (names_at text spans) (take (taken.past - taken.from) (drop taken.from text))) None ≡ o → Compared o (number_in (names_at text spans) (take (taken.past - taken.from) (drop taken.from text))) (arguments_in stepped.ws) counts counts' r
                  → Clashing text spans counts' mode' taken.past
              go None u e = more_calls mode' (ap length e.0 ∙ length-set counts (number_in (names_at text spans) (take (taken.past - taken.from) (drop taken.from text))) (Some (arguments_in stepped.ws)) ∙ k.sized) q
                  (rw e.0 (marks_set (names_at text spans) counts k.done (take (taken.past - taken.from) (drop taken.from text)) (arguments_in stepped.ws) different
                  (λ j h. k.marks j (rw table_count at h)) (clash_listed z) (omega (arith, clash_number z, p.few, k.sized, table_count)) (new_unseen u)))
                  (whole_unseen (new_unseen u))
              go (Some c) u e = more_calls mode' (ap length e.0 ∙ k.sized) q
                  (rw e.0 (marks_keep (names_at text spans) counts k.done (take (taken.past - taken.from) (drop taken.from text)) (arguments_in stepped.ws)
                  (λ j h. k.marks j (rw table_count at h)) (old_seen c u)))
                  (whole_seen c u ∙ eqb-true _ _ (not_so (eqb c (arguments_in stepped.ws)) (sym e.1 ∙ f)))

          settled_clash : r ≡ true → ToldClash text true
          settled_clash f = go (get_or counts (number_in (names_at text spans) (take (taken.past - taken.from) (drop taken.from text))) None) refl compared
            where
              go : (o : Option ℕ) → get_or counts (number_in (names_at text spans) (take (taken.past - taken.from) (drop taken.from text))) None ≡ o → Compared o (number_in (names_at text spans) (take (taken.past - taken.from) (drop taken.from text))) (arguments_in stepped.ws) counts counts' r → ToldClash text true
              go None u e = absurd (false_true e.1 f)
              go (Some c) u e = clash_told c u (λ v. false_true (e.1 ∙ rw v (not_same (arguments_in stepped.ws))) f)

        pub clash_yes : r ≡ true → ToldClash text true
        clash_yes f = ⊎_elim (λ z. settled_clash z f) (λ z. absurd (false_true (rw z at t).1 f)) (bool asked)

        pub clash_more : (mode' : ℕ) → r ≡ false → mode' ≡ next_mode mode (kind_code taken.word) → Clashing text spans counts' mode' taken.past
        clash_more mode' f q = ⊎_elim (λ z. settled_more z mode' f q) other (bool asked)
          where
            other : asked ≡ false → Clashing text spans counts' mode' taken.past
            other z =
                let e : counts' ≡ counts = (rw z at t).0 in
                let o : mode' ≡ mode_after mode stepped.w = q ∙ ap (next_mode mode) stepped.first.code_is ∙ next_is mode stepped.w in
                record {
                  sized = ap length e ∙ k.sized;
                  done = k.done;
                  marks = rw e k.marks;
                  pass = pass_on (Calls k.done) (Calls k.done) text at mode (kind_code taken.word) taken.from taken.past mode' stepped o
                      (record { all = all_calls ∙ none_called asked z; agreed = stepped.left.agreed; known = known_later });
                }
              where
                none_called : (b : Bool) → b ≡ false → k.done ++ (calls_by b (take (taken.past - taken.from) (drop taken.from text)) (arguments_in stepped.ws) ++ calls_in (events (mode_after mode stepped.w) stepped.ws))
                    ≡ k.done ++ calls_in (events (mode_after mode stepped.w) stepped.ws)
                none_called b e = rw e (unfold calls_by in refl)

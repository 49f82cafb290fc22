-- Tables of names: finding one, and one more. Assumes nothing.
use Prim.Native.Nat.{ℕ, suc, ◌+◌, ◌-◌, ◌≤◌, ◌<◌}
use native.Mathlib.Omega.{arith}
use native.Mathlib.Numerals.{add-one}
use mathlib.Core.Path.{◌≡◌, refl, sym, ap, ◌∙◌}
use mathlib.Core.Bool.{Bool, true, false, ◌||◌}
use mathlib.Core.List.{List, [], ◌∷◌, ◌++◌}
use lib.ListN.{length, take, drop, get_or, set, length-append, length-set}
use lib.Seq.{drop-cons, drop-length, length-take-le, take-suc-set, get_or-take, get_or-set_same, get_or-set_other}
use Rattle.trees.proofs.Tests.{not_true, lt_or_ge, false_true}
use mathlib.Core.Logic.{◌⊎◌, inl, inr}
use Rattle.std.specs.Str.{bytes_eq}
use Rattle.spelling.proofs.SameLaws.{equal_same}
use Rattle.std.specs.Prelude.{Option, Some, None, is_some, IsSome, unwrap_or}
use Rattle.text.specs.Words.{same}
use Rattle.text.specs.Unfold.{listed, number_in, uses_after}
use Rattle.text.proofs.NameLaws.{number_lt}
use Rattle.census.specs.declared.spans.Span.{Span}
use Rattle.census.specs.Tables.{names_at, nowhere, Table, Found, asked_for}
use Rattle.census.specs.Noting.{NotedIn, Noted}

-- the number of a name is its place, and the count where it is not there
pub number_listed : (ns : List (List ℕ)) (x : List ℕ) → number_in ns x < length ns → listed ns x ≡ true
unfolding number_in listed
number_listed [] x h = absurd (omega arith)
number_listed (y ∷ ns) x h = go (same y x) h (number_listed ns x)
  where
    go : (q : Bool) → elim q [ true ↦ 0 | false ↦ suc (number_in ns x) ] < suc (length ns) → (number_in ns x < length ns → listed ns x ≡ true) → (q || listed ns x) ≡ true
    go true h ih = refl
    go false h ih = ih (omega arith)

number_unlisted : (ns : List (List ℕ)) (x : List ℕ) → length ns ≤ number_in ns x → listed ns x ≡ false
number_unlisted ns x h = not_true (listed ns x) (λ e. omega (arith, number_lt ns x e))

pub table_length : (text : List ℕ) (spans : List Span) → length (names_at text spans) ≡ length spans
unfolding names_at
table_length text [] = refl
table_length text (s ∷ ss) = ap suc (table_length text ss)

found : (y : List ℕ) (ys : List (List ℕ)) (x : List ℕ) → same y x ≡ true → number_in (y ∷ ys) x ≡ 0
unfolding number_in
found y ys x e = rw (e, number_in)

unfound : (y : List ℕ) (ys : List (List ℕ)) (x : List ℕ) → same y x ≡ false → number_in (y ∷ ys) x ≡ suc (number_in ys x)
unfolding number_in
unfound y ys x e = rw (e, number_in)

no_name : (text x : List ℕ) → number_in (names_at text []) x ≡ 0
unfolding names_at number_in
no_name text x = refl

-- finding: the first i names are others
pub record Finding (text : List ℕ) (spans : List Span) (x : List ℕ) (i : ℕ) : Type 0 where
  pub rest : number_in (names_at text spans) x ≡ i + number_in (names_at text (drop i spans)) x

module _ (text : List ℕ) (spans : List Span) (x : List ℕ) where
  pub find_begins : Finding text spans x 0
  find_begins = record { rest = omega arith }

  module _ (i : ℕ) (f : Finding text spans x i) where
    module _ (h : i < length spans) (a b : ℕ) (s : a ≡ (get_or spans i nowhere).start) (l : b ≡ (get_or spans i nowhere).length) where
      here : names_at text (drop i spans) ≡ take ((a + b) - a) (drop a text) ∷ names_at text (drop (suc i) spans)
      unfolding names_at
      here =
          let n : (a + b) - a ≡ b = omega arith in
          rw (drop-cons spans i nowhere h, n, s, l)

      pub find_here : (r : Bool) → r ≡ bytes_eq (take ((a + b) - a) (drop a text)) x → r ≡ true → Found (names_at text spans) x (Some i)
      find_here r q e = (
        sym (f.rest ∙ rw (here, found _ (names_at text (drop (suc i) spans)) x (sym (equal_same _ x) ∙ sym q ∙ e)) (omega arith)),
        omega (arith, table_length text spans),
      )

      pub find_more : (r : Bool) → r ≡ bytes_eq (take ((a + b) - a) (drop a text)) x → r ≡ false → Finding text spans x (i + 1)
      find_more r q e = record { rest = f.rest ∙ rw (here, unfound _ (names_at text (drop (suc i) spans)) x (sym (equal_same _ x) ∙ sym q ∙ e), add-one i) (omega arith) }

    pub find_none : length spans ≤ i → i ≤ length spans → Found (names_at text spans) x None
    find_none k l =
        let e : i ≡ length spans = omega arith in
        let a : drop i spans ≡ [] = rw e (drop-length spans) in
        f.rest ∙ rw (a, no_name text x) (omega (arith, table_length text spans))

-- one name more
uses_old : (ns : List (List ℕ)) (x : List ℕ) → listed ns x ≡ true → uses_after ns (x ∷ []) ≡ ns
unfolding uses_after
uses_old ns x e = rw (e, uses_after)

uses_new : (ns : List (List ℕ)) (x : List ℕ) → listed ns x ≡ false → uses_after ns (x ∷ []) ≡ ns ++ (x ∷ [])
unfolding uses_after
uses_new ns x e = rw (e, uses_after)

names_snoc : (text : List ℕ) (ss : List Span) (s : Span) → names_at text (ss ++ (s ∷ [])) ≡ names_at text ss ++ (take s.length (drop s.start text) ∷ [])
unfolding names_at
names_snoc text [] s = refl
names_snoc text (r ∷ ss) s = ap (λ (ns : List (List ℕ)). take r.length (drop r.start text) ∷ ns) (names_snoc text ss s)

module _ (text : List ℕ) (spans : List Span) (n : ℕ) (room : n ≤ length spans) (t : Table text (take n spans)) where
  pub note_unasked : (asked : Bool) (x : List ℕ) → asked ≡ false → NotedIn text spans n (asked_for asked x) spans n
  unfolding asked_for uses_after
  note_unasked asked x e = record { same = refl; near = omega arith; room = room; table = t; names = rw e }

  module _ (asked : Bool) (x : List ℕ) (e : asked ≡ true) where
    asked_one : asked_for asked x ≡ x ∷ []
    unfolding asked_for
    asked_one = rw e

    pub note_old : (o : Option ℕ) → Found (names_at text (take n spans)) x o → is_some o ≡ true → NotedIn text spans n (asked_for asked x) spans n
    note_old None f h = absurd (false_true refl h)
    note_old (Some i) f h = record {
      same = refl;
      near = omega arith;
      room = room;
      table = t;
      names = rw asked_one (sym (uses_old (names_at text (take n spans)) x (number_listed (names_at text (take n spans)) x (omega (arith, f.0, f.1)))));
    }

    module _ (o : Option ℕ) (f : Found (names_at text (take n spans)) x o) (h : is_some o ≡ false) where
      unlisted : (o : Option ℕ) → Found (names_at text (take n spans)) x o → is_some o ≡ false → listed (names_at text (take n spans)) x ≡ false
      unlisted None f h = number_unlisted (names_at text (take n spans)) x (omega (arith, f))
      unlisted (Some i) f h = absurd (false_true h refl)

      new : uses_after (names_at text (take n spans)) (asked_for asked x) ≡ names_at text (take n spans) ++ (x ∷ [])
      new = rw asked_one (uses_new (names_at text (take n spans)) x (unlisted o f h))

      pub note_full : length spans ≤ n → Noted text spans n (asked_for asked x) spans None
      note_full z = (
        omega arith,
        refl,
        rw (new, length-append (names_at text (take n spans)) (x ∷ []), table_length text (take n spans), length-take-le n spans room) (omega arith),
      )

      pub note_new : (from long : ℕ) → n < length spans → x ≡ take long (drop from text) → from + long ≤ length text
          → NotedIn text spans n (asked_for asked x) (set spans n (record { start = from; length = long })) (n + 1)
      note_new from long z y b = record {
        same = length-set spans n (record { start = from; length = long });
        near = omega arith;
        room = rw (length-set spans n (record { start = from; length = long })) (omega arith);
        table = record { inside = λ j q. places j (omega (arith, q, length-take-le (n + 1) (set spans n (record { start = from; length = long })) (rw (length-set spans n (record { start = from; length = long })) (omega arith)))) (lt_or_ge j n) };
        names = rw (new, shown, y);
      }
        where
          one : Span
          one = record { start = from; length = long }

          places : (j : ℕ) → j < n + 1 → (j < n) ⊎ (n ≤ j)
              → (get_or (take (n + 1) (set spans n one)) j nowhere).start + (get_or (take (n + 1) (set spans n one)) j nowhere).length ≤ length text
          places j q (inl h) =
              let w : (get_or (take n spans) j nowhere).start + (get_or (take n spans) j nowhere).length ≤ length text = t.inside j (omega (arith, length-take-le n spans room)) in
              rw (get_or-take (n + 1) (set spans n one) j nowhere q, get_or-set_other spans n j one nowhere (λ u. omega arith)) (rw (get_or-take n spans j nowhere h) at w)
          places j q (inr h) =
              let u : j ≡ n = omega arith in
              rw (get_or-take (n + 1) (set spans n one) j nowhere q, u, get_or-set_same spans n one nowhere z) b

          shown : names_at text (take (n + 1) (set spans n (record { start = from; length = long }))) ≡ names_at text (take n spans) ++ (take long (drop from text) ∷ [])
          shown = rw (add-one n, take-suc-set spans n (record { start = from; length = long }) z) (names_snoc text (take n spans) (record { start = from; length = long }))

-- a name that is there is found
pub find_lists : (ns : List (List ℕ)) (x : List ℕ) (o : Option ℕ) → Found ns x o → number_in ns x < length ns → IsSome o
find_lists ns x None f h = absurd (omega (arith, f))
find_lists ns x (Some i) f h = refl

pub find_number : (ns : List (List ℕ)) (x : List ℕ) (o : Option ℕ) (i : ℕ) → Found ns x o → o ≡ Some i → (i ≡ number_in ns x) × (i < length ns)
find_number ns x o i f e = rw e at f

-- the number of any name, one that is not there being after the others
pub find_slot : (text : List ℕ) (spans : List Span) (x : List ℕ) (o : Option ℕ) (r : ℕ) → Found (names_at text spans) x o → r ≡ unwrap_or o (length spans)
    → (r ≡ number_in (names_at text spans) x) × (r ≤ length spans)
find_slot text spans x None r f e = (omega (arith, f, e, table_length text spans), omega arith)
find_slot text spans x (Some i) r f e = (omega (arith, f.0, e), omega (arith, f.1, e, table_length text spans))

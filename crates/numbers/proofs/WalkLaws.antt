-- Laws of the walk over arguments and rows: what each step carries, the walk carries. Assumes nothing.
use Prim.Native.Nat.{ℕ, zero, suc, ◌+◌, ◌*◌, ◌≤◌, ◌<◌}
use mathlib.Core.Path.{◌≡◌, refl, ap, sym, ◌∙◌}
use mathlib.Core.Bool.{true, false}
use mathlib.Core.List.{List, [], ◌∷◌, ◌++◌}
use mathlib.Core.Logic.{◌⊎◌, inl, inr, ⊎_elim}
use native.Mathlib.Numerals.{add-one}
use native.Mathlib.Omega.{arith}
use lib.ListN.{length, get_or, take, get_or-eq_default}
use lib.Seq.{take-suc, take_all, length-take-le}
use Rattle.trees.proofs.Tests.{lt_or_ge, false_true}
use Rattle.meaning.specs.declared.Fact.{Fact as Handed}
use Rattle.meaning.specs.Qtl.{Argument, variable, constant, Fact}
use Rattle.meaning.specs.Rows.{Row, truth, atom, both, neg, since, previous, exists, row_right, argument_at, row_at, rows_up_to}
use Rattle.meaning.specs.Numbering.{Lists, ask, ask_arguments, ask_row, ask_rows}
use Rattle.meaning.specs.Outcome.{fact_of}
use Rattle.meaning.proofs.RowsLaws.{ArgumentOk, ArgumentsOk, row_ok}
use Rattle.numbers.specs.Matching.{matches_row, arguments_in, arguments_of, Sized, Readable}
use Rattle.numbers.specs.Asking.{Sheet, AsksFor, AskedBy, Steady, Carried, Pair, AtPlace, AtPlaces, ask_one, Asking}
use Rattle.numbers.proofs.MatchingLaws.{values_length, arguments_length, argument_is, is_variable, is_constant, atom_is, match_kind, match_count}
use Rattle.numbers.proofs.TallyLaws.{same_or_not}

-- from the counts `before` and the lists L on
module _ (before : List ℕ) (L : Lists) where
  -- nothing is asked
  carried_none : (ys : List ℕ) (f : Lists → Lists) (P : ℕ → ℕ → Type 0) (a : Sheet) → ((M : Lists) → f M ≡ M) → ((v j : ℕ) → P v j → ⊥) → Steady before a → Carried before L ys f P a a
  carried_none ys f P a e none st = record {
    steady = st;
    fewer = λ v h. omega arith;
    lists = λ M t. rw (e M) t;
    kept = λ v j h k g. g;
    asked = λ v j h k p. absurd (none v j p);
    only = λ v j h k g. inl g;
  }

  -- one step after another: what either asks is asked
  carried_then : (ys : List ℕ) (f g h : Lists → Lists) (P Q R : ℕ → ℕ → Type 0) (a b r : Sheet) → ((M : Lists) → h M ≡ g (f M))
      → ((v j : ℕ) → R v j → P v j ⊎ Q v j) → ((v j : ℕ) → P v j ⊎ Q v j → R v j) → Carried before L ys f P a b → Carried before L ys g Q b r → Carried before L ys h R a r
  carried_then ys f g h P Q R a b r e into from p q = record {
    steady = q.steady;
    fewer = λ v h. omega (arith, p.fewer v h, q.fewer v h);
    lists = λ M t. rw (e M) (q.lists (f M) (p.lists M t));
    kept = λ v j h k z. q.kept v j h k (p.kept v j h k z);
    asked = λ v j h k z. ⊎_elim (λ x. q.kept v j h k (p.asked v j h k x)) (λ x. q.asked v j h k x) (into v j z);
    only = λ v j h k z. ⊎_elim
        (λ x. ⊎_elim (λ y. inl y) (λ y. inr (from v j (inl y))) (p.only v j h k x))
        (λ x. inr (from v j (inr x)))
        (q.only v j h k z);
  }

  -- the same step and the same pairs, said in other words
  carried_as : (ys : List ℕ) (f g : Lists → Lists) (P Q : ℕ → ℕ → Type 0) (a r : Sheet) → ((M : Lists) → g M ≡ f M) → ((v j : ℕ) → Q v j → P v j) → ((v j : ℕ) → P v j → Q v j)
      → Carried before L ys f P a r → Carried before L ys g Q a r
  carried_as ys f g P Q a r e into from p = record {
    steady = p.steady;
    fewer = p.fewer;
    lists = λ M t. rw (e M) (p.lists M t);
    kept = p.kept;
    asked = λ v j h k z. p.asked v j h k (into v j z);
    only = λ v j h k z. ⊎_elim (λ x. inl x) (λ x. inr (from v j x)) (p.only v j h k z);
  }

-- a variable is no constant, and which it is shows
not_both : (g : Argument) (v c : ℕ) → g ≡ variable v → g ≡ constant c → ⊥
not_both g v c e f = let z : ◌≡◌ {A = ℕ} 0 1 = cc in omega arith

one_name : (g : Argument) (v w : ℕ) → g ≡ variable v → g ≡ variable w → v ≡ w
one_name g v w e f = cc

-- the argument at place j of row i, where it is a constant and where it is a variable
module _ (before : List ℕ) (L : Lists) (ys raw : List ℕ) (i j y : ℕ) where
  pub one_constant : (a : Sheet) → Steady before a → (get_or raw (9 * i + (3 + 2 * j)) 0 ≡ 0 → ⊥) → Carried before L ys (ask_one (argument_at raw i j) y) (AtPlace raw i j) a a
  unfolding ask_one
  one_constant a st h =
      carried_none before L ys (ask_one (argument_at raw i j) y) (AtPlace raw i j) a (λ M. rw (is_constant raw i j h))
      (λ v k p. not_both (argument_at raw i j) v (get_or raw (9 * i + (4 + 2 * j)) 0) p.0 (is_constant raw i j h)) st

  pub one_variable : (a r : Sheet) → get_or raw (9 * i + (3 + 2 * j)) 0 ≡ 0 → Carried before L ys (λ M. ask M (get_or raw (9 * i + (4 + 2 * j)) 0) y) (Pair (get_or raw (9 * i + (4 + 2 * j)) 0) j) a r
      → Carried before L ys (ask_one (argument_at raw i j) y) (AtPlace raw i j) a r
  unfolding ask_one
  one_variable a r h p =
      let x = get_or raw (9 * i + (4 + 2 * j)) 0 in
      carried_as before L ys (λ M. ask M x y) (ask_one (argument_at raw i j) y) (Pair x j) (AtPlace raw i j) a r (λ M. rw (is_variable raw i j h))
      (λ v k q. (one_name (argument_at raw i j) v x q.0 (is_variable raw i j h), q.1))
      (λ v k q. (is_variable raw i j h ∙ ap variable (sym q.0), q.1)) p

-- the arguments in order
ask_snoc : (gs : List Argument) (ys : List ℕ) (g : Argument) (y : ℕ) (M : Lists) → length gs ≡ length ys → ask_arguments M (gs ++ g ∷ []) (ys ++ y ∷ []) ≡ ask_one g y (ask_arguments M gs ys)
unfolding ask_arguments ask_one
ask_snoc [] [] (variable v) y M e = refl
ask_snoc [] [] (constant c) y M e = refl
ask_snoc [] (z ∷ zs) g y M e = absurd (omega arith)
ask_snoc (h ∷ gs) [] g y M e = absurd (omega arith)
ask_snoc (variable v ∷ gs) (z ∷ zs) g y M e = ask_snoc gs zs g y (ask M v z) (omega arith)
ask_snoc (constant c ∷ gs) (z ∷ zs) g y M e = ask_snoc gs zs g y M (omega arith)

pub arguments_none : (before : List ℕ) (L : Lists) (ys raw : List ℕ) (i : ℕ) (gs : List Argument) (a : Sheet) → Steady before a
    → Carried before L ys (λ M. ask_arguments M (take 0 gs) (take 0 ys)) (AtPlaces raw i 0) a a
unfolding ask_arguments
arguments_none before L ys raw i gs a st = carried_none before L ys (λ M. ask_arguments M (take 0 gs) (take 0 ys)) (AtPlaces raw i 0) a (λ M. refl) (λ v k p. let h = p.1 in omega arith) st

module _ (before : List ℕ) (L : Lists) (raw : List ℕ) (i : ℕ) (e : Handed) (r : Readable raw i e) where
  pub arguments_more : (j : ℕ) (a b c : Sheet) → j < e.count
      → Carried before L (fact_of e).values (λ M. ask_arguments M (take j (arguments_of raw i e.count)) (take j (fact_of e).values)) (AtPlaces raw i j) a b
      → Carried before L (fact_of e).values (ask_one (argument_at raw i j) (get_or (fact_of e).values j 0)) (AtPlace raw i j) b c
      → Carried before L (fact_of e).values (λ M. ask_arguments M (take (j + 1) (arguments_of raw i e.count)) (take (j + 1) (fact_of e).values)) (AtPlaces raw i (j + 1)) a c
  arguments_more j a b c h p q =
      let gs = arguments_of raw i e.count in
      let ys = (fact_of e).values in
      let m : length gs ≡ e.count = arguments_length raw i e.count r.sized.few in
      let n : length ys ≡ e.count = values_length e r.sized in
      let u : length (take j gs) ≡ length (take j ys) = length-take-le j gs (omega arith) ∙ sym (length-take-le j ys (omega arith)) in
      carried_then before L ys (λ M. ask_arguments M (take j gs) (take j ys)) (ask_one (argument_at raw i j) (get_or ys j 0)) (λ M. ask_arguments M (take (j + 1) gs) (take (j + 1) ys))
      (AtPlaces raw i j) (AtPlace raw i j) (AtPlaces raw i (j + 1)) a b c
      (λ M. rw (add-one j, take-suc gs j (constant 0) (omega arith), take-suc ys j 0 (omega arith), argument_is raw i e.count j h r.sized.few)
      (ask_snoc (take j gs) (take j ys) (argument_at raw i j) (get_or ys j 0) M u)) into from p q
    where
      into : (v k : ℕ) → AtPlaces raw i (j + 1) v k → AtPlaces raw i j v k ⊎ AtPlace raw i j v k
      into v k x = ⊎_elim (λ l. inl (x.0, l)) (λ l. let w = x.1 in let z : k ≡ j = omega arith in inr (rw (← z) x.0, z)) (lt_or_ge k j)

      from : (v k : ℕ) → AtPlaces raw i j v k ⊎ AtPlace raw i j v k → AtPlaces raw i (j + 1) v k
      from v k x = ⊎_elim
          (λ l. let w = l.1 in (l.0, omega arith))
          (λ l. let z : k ≡ j = l.1 in (rw z l.0, omega arith))
          x

  pub arguments_all : (j : ℕ) (a b : Sheet) → j ≡ e.count
      → Carried before L (fact_of e).values (λ M. ask_arguments M (take j (arguments_of raw i e.count)) (take j (fact_of e).values)) (AtPlaces raw i j) a b
      → Carried before L (fact_of e).values (λ M. ask_arguments M (arguments_of raw i e.count) (fact_of e).values) (AtPlaces raw i e.count) a b
  arguments_all j a b h p =
      let gs = arguments_of raw i e.count in
      let ys = (fact_of e).values in
      carried_as before L ys (λ M. ask_arguments M (take j gs) (take j ys)) (λ M. ask_arguments M gs ys) (AtPlaces raw i j) (AtPlaces raw i e.count) a b
      (λ M. rw (take_all j gs (omega (arith, arguments_length raw i e.count r.sized.few)), take_all j ys (omega (arith, values_length e r.sized))))
      (λ v k q. let l = q.1 in (q.0, omega arith)) (λ v k q. let l = q.1 in (q.0, omega arith)) p

-- a row that matches is an atom of the fact's count
matched : (raw : List ℕ) (i : ℕ) (e : Handed) → Sized e → row_right raw i ≡ true → matches_row (fact_of e) (row_at raw i) ≡ true
    → (get_or raw (9 * i) 0 ≡ 2) × (get_or raw (9 * i + 2) 0 ≡ e.count)
matched raw i e s right h = ⊎_elim
    (λ k. (k, ⊎_elim (λ q. q) (λ q. absurd (false_true (sym (match_count raw i e k right s q)) h)) (same_or_not (get_or raw (9 * i + 2) 0) e.count)))
    (λ k. absurd (false_true (sym (match_kind raw i e k)) h))
    (same_or_not (get_or raw (9 * i) 0) 2)

ok_at : (gs : List Argument) (j : ℕ) → ArgumentsOk gs → j < length gs → ArgumentOk (get_or gs j (constant 0))
ok_at [] j o h = absurd (omega arith)
ok_at (g ∷ gs) zero o h = o.0
ok_at (g ∷ gs) (suc j) o h = ok_at gs j o.1 (omega arith)

pub asking_of : (raw : List ℕ) (i : ℕ) (e : Handed) → Readable raw i e → row_right raw i ≡ true → matches_row (fact_of e) (row_at raw i) ≡ true → Asking raw i e
asking_of raw i e r right h = record { readable = r; variables = vars }
  where
    two : get_or raw (9 * i) 0 ≡ 2
    two = (matched raw i e r.sized right h).0

    count : get_or raw (9 * i + 2) 0 ≡ e.count
    count = (matched raw i e r.sized right h).1

    ok : ArgumentsOk (arguments_of raw i e.count)
    ok = rw (atom_is raw i two, count) at (row_ok raw i right)

    vars : (j : ℕ) → j < e.count → get_or raw (9 * i + (3 + 2 * j)) 0 ≡ 0 → get_or raw (9 * i + (4 + 2 * j)) 0 < 4
    vars j k z =
        rw (argument_is raw i e.count j k r.sized.few, is_variable raw i j z) at
        (ok_at (arguments_of raw i e.count) j ok (rw (arguments_length raw i e.count r.sized.few) k))

-- a row that matches asks by its arguments, and one that does not asks nothing
ask_matched : (e : Fact) (M : Lists) (p : ℕ) (gs : List Argument) → matches_row e (atom p gs) ≡ true → ask_row e M (atom p gs) ≡ ask_arguments M gs e.values
unfolding ask_row matches_row
ask_matched e M p gs h = rw h

ask_unmatched : (e : Fact) (M : Lists) (r : Row) → matches_row e r ≡ false → ask_row e M r ≡ M
unfolding ask_row matches_row
ask_unmatched e M truth h = refl
ask_unmatched e M (atom p gs) h = rw h
ask_unmatched e M (both l r) h = refl
ask_unmatched e M (neg r) h = refl
ask_unmatched e M (since l r) h = refl
ask_unmatched e M (previous r) h = refl
ask_unmatched e M (exists x r) h = refl

-- what a row that matches asks for: its variables, at their places
names_in : (raw : List ℕ) (i n v j : ℕ) → n ≤ 3 → get_or (arguments_of raw i n) j (constant 0) ≡ variable v → AtPlaces raw i n v j
names_in raw i n v j few e = ⊎_elim
    (λ h. (sym (argument_is raw i n j h few) ∙ e, h))
    (λ h. let d : length (arguments_of raw i n) ≤ j = rw (arguments_length raw i n few) h in absurd (not_both (get_or (arguments_of raw i n) j (constant 0)) v 0 e (get_or-eq_default (arguments_of raw i n) (constant 0) d)))
    (lt_or_ge j n)

module _ (raw : List ℕ) (i : ℕ) (e : Handed) (s : Sized e) (right : row_right raw i ≡ true) where
  row_is : matches_row (fact_of e) (row_at raw i) ≡ true → row_at raw i ≡ atom (get_or raw (9 * i + 1) 0) (arguments_of raw i e.count)
  row_is h = let m = matched raw i e s right h in atom_is raw i m.0 ∙ ap (λ n. atom (get_or raw (9 * i + 1) 0) (arguments_of raw i n)) m.1

  pub asks_in : (v j : ℕ) → AsksFor (fact_of e) (row_at raw i) v j → AtPlaces raw i e.count v j
  unfolding arguments_in
  asks_in v j q = names_in raw i e.count v j s.few (rw (row_is q.matches) at q.names)

  asks_of : matches_row (fact_of e) (row_at raw i) ≡ true → (v j : ℕ) → AtPlaces raw i e.count v j → AsksFor (fact_of e) (row_at raw i) v j
  unfolding arguments_in
  asks_of h v j q = record { matches = h; names = rw (row_is h) (argument_is raw i e.count j q.1 s.few ∙ q.0) }

  row_matched : (before : List ℕ) (L : Lists) (a b : Sheet) → matches_row (fact_of e) (row_at raw i) ≡ true
      → Carried before L (fact_of e).values (λ M. ask_arguments M (arguments_of raw i e.count) (fact_of e).values) (AtPlaces raw i e.count) a b
      → Carried before L (fact_of e).values (λ M. ask_row (fact_of e) M (row_at raw i)) (AsksFor (fact_of e) (row_at raw i)) a b
  row_matched before L a b h p =
      let row = row_is h in
      let h' : matches_row (fact_of e) (atom (get_or raw (9 * i + 1) 0) (arguments_of raw i e.count)) ≡ true = rw row at h in
      carried_as before L (fact_of e).values (λ M. ask_arguments M (arguments_of raw i e.count) (fact_of e).values) (λ M. ask_row (fact_of e) M (row_at raw i))
      (AtPlaces raw i e.count) (AsksFor (fact_of e) (row_at raw i)) a b
      (λ M. rw (row, ask_matched (fact_of e) M (get_or raw (9 * i + 1) 0) (arguments_of raw i e.count) h')) asks_in (asks_of h) p

-- the rows in order
ask_rows_snoc : (e : Fact) (rs : List Row) (r : Row) (M : Lists) → ask_rows e M (rs ++ r ∷ []) ≡ ask_row e (ask_rows e M rs) r
unfolding ask_rows
ask_rows_snoc e [] r M = refl
ask_rows_snoc e (q ∷ rs) r M = ask_rows_snoc e rs r (ask_row e M q)

-- the walk over the first i rows
module _ (before : List ℕ) (L : Lists) (raw : List ℕ) (e : Handed) where
  abbrev pub Rows : ℕ → Sheet → Sheet → Type 0
  Rows i a b = Carried before L (fact_of e).values (λ M. ask_rows (fact_of e) M (rows_up_to raw i)) (AskedBy (fact_of e) raw i) a b

  pub rows_none : (a : Sheet) → Steady before a → Rows 0 a a
  unfolding ask_rows rows_up_to
  rows_none a st = carried_none before L (fact_of e).values (λ M. ask_rows (fact_of e) M (rows_up_to raw 0)) (AskedBy (fact_of e) raw 0) a (λ M. refl) (λ v j p. let h = p.1 in omega arith) st

  rows_more : (i : ℕ) (a b c : Sheet) → Rows i a b → Carried before L (fact_of e).values (λ M. ask_row (fact_of e) M (row_at raw i)) (AsksFor (fact_of e) (row_at raw i)) b c → Rows (i + 1) a c
  unfolding rows_up_to
  rows_more i a b c p q =
      carried_then before L (fact_of e).values (λ M. ask_rows (fact_of e) M (rows_up_to raw i)) (λ M. ask_row (fact_of e) M (row_at raw i)) (λ M. ask_rows (fact_of e) M (rows_up_to raw (i + 1)))
      (AskedBy (fact_of e) raw i) (AsksFor (fact_of e) (row_at raw i)) (AskedBy (fact_of e) raw (i + 1)) a b c
      (λ M. rw (add-one i) (ask_rows_snoc (fact_of e) (rows_up_to raw i) (row_at raw i) M)) into from p q
    where
      into : (v j : ℕ) → AskedBy (fact_of e) raw (i + 1) v j → AskedBy (fact_of e) raw i v j ⊎ AsksFor (fact_of e) (row_at raw i) v j
      into v j x = ⊎_elim
          (λ l. inl (x.0, l, x.2))
          (λ l. let w = x.1 in let z : x.0 ≡ i = omega arith in inr (rw z at x.2))
          (lt_or_ge x.0 i)

      from : (v j : ℕ) → AskedBy (fact_of e) raw i v j ⊎ AsksFor (fact_of e) (row_at raw i) v j → AskedBy (fact_of e) raw (i + 1) v j
      from v j x = ⊎_elim (λ l. let w = l.1 in (l.0, omega arith, l.2)) (λ l. (i, omega arith, l)) x

  -- a row that does not match is passed over, and one that does asks
  pub rows_pass : (i : ℕ) (a b : Sheet) → matches_row (fact_of e) (row_at raw i) ≡ false → Rows i a b → Rows (i + 1) a b
  rows_pass i a b n p =
      rows_more i a b b p
      (carried_none before L (fact_of e).values (λ M. ask_row (fact_of e) M (row_at raw i)) (AsksFor (fact_of e) (row_at raw i)) b
      (λ M. ask_unmatched (fact_of e) M (row_at raw i) n) (λ v j x. false_true n x.matches) p.steady)

  pub rows_ask : (i : ℕ) (a b c : Sheet) → Sized e → row_right raw i ≡ true → matches_row (fact_of e) (row_at raw i) ≡ true → Rows i a b
      → Carried before L (fact_of e).values (λ M. ask_arguments M (arguments_of raw i e.count) (fact_of e).values) (AtPlaces raw i e.count) b c → Rows (i + 1) a c
  rows_ask i a b c s right m p q = rows_more i a b c p (row_matched raw i e s right before L b c m q)

-- The plan that is read off the rows is the event's. Assumes nothing.
use Prim.Native.Nat.{ℕ, zero, suc, ◌<◌}
use mathlib.Core.Path.{◌≡◌, refl, ap, ap₂, sym, ◌∙◌}
use mathlib.Core.List.{List, [], ◌∷◌, ◌++◌, map}
use mathlib.Core.Logic.{⊎_elim}
use native.Mathlib.Nat.{eq-or-lt_of_le}
use native.Mathlib.Numerals.{add-one}
use native.Mathlib.Omega.{arith}
use lib.ListN.{length, get_or, length-append, length-map, get_or-append}
use lib.Seq.{get_or-append_seam}
use Rattle.meaning.specs.declared.Event.{Event}
use Rattle.meaning.specs.Qtl.{Argument}
use Rattle.meaning.specs.Rows.{Row, truth, atom, both, neg, since, previous, exists, count_of_rows, row_at, rule_of}
use Rattle.meaning.specs.Numbering.{Lists, ask_facts}
use Rattle.meaning.specs.Outcome.{facts_of}
use Rattle.meaning.proofs.RowsLaws.{rows_at, rows_length}
use Rattle.numbers.specs.Matching.{matches_row}
use Rattle.numbers.specs.Asking.{fact_at}
use Rattle.std.specs.Prelude.{Option, None}
use Rattle.making.specs.declared.Number.{Number}
use Rattle.diagram.specs.declared.Instruction.TheVariants.{Yes}
use Rattle.diagram.specs.Steps.{Turn, facts, does}
use Rattle.instructions.specs.Plan.{turn_of, task_of}
use Rattle.instructions.specs.Read.{row_turn, is_atom, instruction_read}
use Rattle.instructions.specs.Planned.{turns_to, asked, planned_to, planned}
use Rattle.instructions.proofs.ReadLaws.{NumbersRight, turn_reads}

-- a list that grows by one at its end, and what it has at a place
module _ {A : Type 0} (none : A) (at : ℕ → A) (up_to : ℕ → List A) (first : up_to 0 ≡ []) (next : (n : ℕ) → up_to (suc n) ≡ up_to n ++ at n ∷ []) where
  pub grown_length : (n : ℕ) → length (up_to n) ≡ n
  grown_length zero = rw first refl
  grown_length (suc n) = ap length (next n) ∙ length-append (up_to n) (at n ∷ []) ∙ rw (grown_length n) (add-one n)

  pub grown_at : (n i : ℕ) → i < n → get_or (up_to n) i none ≡ at i
  grown_at zero i h = absurd (omega arith)
  grown_at (suc n) i h = ap (λ (l : List A). get_or l i none) (next n) ∙ ⊎_elim
      (λ z.
      let q : i ≡ length (up_to n) = (let w : i ≡ n = omega arith in w) ∙ sym (grown_length n) in
      rw (q, get_or-append_seam (up_to n) (at n) [] none) (ap at (sym (grown_length n))))
      (λ k. get_or-append (up_to n) (at n ∷ []) none i (omega (arith, grown_length n)) ∙ grown_at n i (omega arith))
      (eq-or-lt_of_le h)

-- a plan has a task for each row, and it is what the row asks
module _ (raw : List ℕ) (e : Event) (given : List (Option Number)) where
  pub planned_length : (n : ℕ) → length (planned_to raw e given n) ≡ n
  unfolding planned_to
  planned_length = grown_length (does Yes) (λ i. asked (row_at raw i) e given) (planned_to raw e given) refl (λ n. refl)

  pub planned_at : (i : ℕ) → i < count_of_rows raw → get_or (planned raw e given) i (does Yes) ≡ asked (row_at raw i) e given
  unfolding planned planned_to
  planned_at i h = grown_at (does Yes) (λ j. asked (row_at raw j) e given) (planned_to raw e given) refl (λ n. refl) (count_of_rows raw) i h

-- so have the turns of a row
module _ (r : Row) (e : Event) (given : List (Option Number)) where
  pub turns_length : (n : ℕ) → length (turns_to r e given n) ≡ n
  unfolding turns_to
  turns_length = grown_length None (λ f. row_turn r (matches_row (fact_at e f) r) given f) (turns_to r e given) refl (λ n. refl)

  pub turns_at : (n f : ℕ) → f < n → get_or (turns_to r e given n) f None ≡ row_turn r (matches_row (fact_at e f) r) given f
  unfolding turns_to
  turns_at n f h = grown_at None (λ j. row_turn r (matches_row (fact_at e j) r) given j) (turns_to r e given) refl (λ n. refl) n f h

-- lists of one length with the same at each place are one
same_list : {A : Type 0} (none : A) (xs ys : List A) → length xs ≡ length ys → ((i : ℕ) → i < length xs → get_or xs i none ≡ get_or ys i none) → xs ≡ ys
same_list none [] [] n h = refl
same_list none [] (y ∷ ys) n h = absurd (omega arith)
same_list none (x ∷ xs) [] n h = absurd (omega arith)
same_list {A} none (x ∷ xs) (y ∷ ys) n h = ap₂ (λ (a : A) (l : List A). a ∷ l) (h 0 (omega arith)) (same_list none xs ys (omega arith) (λ i q. h (suc i) (omega arith)))

map_at : {A B : Type 0} (none : A) (other : B) (g : A → B) (xs : List A) (i : ℕ) → i < length xs → get_or (map g xs) i other ≡ g (get_or xs i none)
map_at none other g [] i h = absurd (omega arith)
map_at none other g (x ∷ xs) zero h = refl
map_at none other g (x ∷ xs) (suc i) h = map_at none other g xs i (omega arith)

module _ (e : Event) (given : List (Option Number)) (count : length (facts_of e) ≡ e.count) (L : Lists) where
  -- the turns of an atom are what its facts add
  turns_are : (p : ℕ) (gs : List Argument) → ((f : ℕ) → f < e.count → NumbersRight (fact_at e f) L (atom p gs) given f)
      → turns_to (atom p gs) e given e.count ≡ map (turn_of L p gs) (facts_of e)
  unfolding row_turn matches_row fact_at
  turns_are p gs n = same_list None _ _ (turns_length (atom p gs) e given e.count ∙ sym count ∙ sym (length-map (facts_of e) (turn_of L p gs)))
      (λ f h. let l : f < e.count = omega (arith, turns_length (atom p gs) e given e.count) in
      turns_at (atom p gs) e given e.count f l ∙ turn_reads L given f (fact_at e f) p gs (n f l)
      ∙ sym (map_at (record { predicate = 0; values = [] }) None (turn_of L p gs) (facts_of e) f (omega (arith, count))))

  -- what a row asks is what the plan has of it
  asks_task : (r : Row) → ((f : ℕ) → f < e.count → NumbersRight (fact_at e f) L r given f) → asked r e given ≡ task_of L (facts_of e) r
  unfolding asked is_atom instruction_read task_of
  asks_task truth n = refl
  asks_task (atom p gs) n = ap (λ (ts : List Turn). facts ts) (turns_are p gs n)
  asks_task (both l r) n = refl
  asks_task (neg r) n = refl
  asks_task (since l r) n = refl
  asks_task (previous r) n = refl
  asks_task (exists x r) n = refl

-- the plan asks of each row what the event asks of it
pub planned_is : (raw : List ℕ) (e : Event) (given : List (Option Number)) (L : Lists) → length (facts_of e) ≡ e.count
    → ((i f : ℕ) → i < count_of_rows raw → f < e.count → NumbersRight (fact_at e f) (ask_facts (facts_of e) L (rule_of raw)) (row_at raw i) given f)
    → (i : ℕ) → i < length (rule_of raw) → get_or (planned raw e given) i (does Yes) ≡ task_of (ask_facts (facts_of e) L (rule_of raw)) (facts_of e) (get_or (rule_of raw) i truth)
unfolding rule_of
planned_is raw e given L count n i h =
    let l : i < count_of_rows raw = rw rows_length at h in
    let a : get_or (rule_of raw) i truth ≡ row_at raw i = rows_at raw (count_of_rows raw) i l in
    planned_at raw e given i l ∙ asks_task e given count (ask_facts (facts_of e) L (rule_of raw)) (row_at raw i) (λ f q. n i f l q) ∙ ap (task_of (ask_facts (facts_of e) L (rule_of raw)) (facts_of e)) (sym a)

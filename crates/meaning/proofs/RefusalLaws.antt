-- Start and event refuse exactly as document 01's table says: the first sentence that applies is given. Assumes nothing.
use Prim.Native.Nat.{ℕ, zero, suc, ◌*◌, ◌<◌}
use mathlib.Core.Path.{◌≡◌, refl}
use mathlib.Core.Bool.{Bool, true, false, ◌&&◌}
use mathlib.Core.List.{List, []}
use mathlib.Core.Logic.{◌↔◌, ◌⊎◌, ⊎_elim}
use native.Mathlib.Nat.{eq-or-lt_of_le}
use native.Mathlib.Omega.{arith}
use lib.Dec.{ltb, leb}
use lib.ListN.{length}
use borrow.Author.Tests.{ltb-true, ltb-false, leb-false, lt-leb}
use Rattle.trees.specs.Room.{Room}
use Rattle.trees.proofs.Tests.{lt_or_ge, false_true, and_true_l}
use Rattle.trees.proofs.TreeLaws.{fine_off}
use Rattle.trees.proofs.RoomLaws.{room_one}
use Rattle.meaning.specs.declared.Event.{Event}
use Rattle.meaning.specs.Rows.{rule_of, Found, right, check_rows}
use Rattle.meaning.specs.Numbering.{ask_facts}
use Rattle.meaning.specs.Step.{step, counted, room_of}
use Rattle.meaning.specs.Tables.{read, well_formed}
use Rattle.meaning.specs.Outcome.{k_right, capacity, nodes_right, values_right, work_size, facts_of, count_right, shortest, Decision, taken, refused, judge_start, judge_event, decide_start, decide_event, Machine, shows}
use Rattle.meaning.specs.Refusals.{BadNodes, BadValues, BadWork, IllFormed, NoRoom, StartSentence, Sentence, First}
use Rattle.meaning.proofs.RowsLaws.{checked}
use Rattle.meaning.proofs.StepLaws.{AllFine, fine_rows}
use Rattle.meaning.proofs.ProperLaws.{read_fine}
use Rattle.meaning.proofs.RoomOfLaws.{room_is}
use Rattle.meaning.proofs.IllFormedLaws.{formed_bad}
use Rattle.meaning.proofs.RunLaws.{few}
use Rattle.meaning.proofs.ExactLaws.{k_bad, RowsFound, well, ill, rows_found, nodes_bad, values_bad, either_bad, count_bad, short_found}

-- no sentence below j applies
abbrev NoneBelow : (ℕ → ℕ → Type 0) → ℕ → Type 0
NoneBelow S j = (i p : ℕ) → i < j → S i p → ⊥

one_more : (S : ℕ → ℕ → Type 0) (j : ℕ) → NoneBelow S j → ((p : ℕ) → S j p → ⊥) → NoneBelow S (suc j)
one_more S j n h i p k z = ⊎_elim (λ e. let q : i ≡ j = omega arith in h p (rw q at z)) (λ l. n i p (omega arith) z) (eq-or-lt_of_le k)

-- a decision against the sentences: none applies, or the first that does, with its one place
pub data Judged (S : ℕ → ℕ → Type 0) : Decision → Type 0 where
  passes : ((n p : ℕ) → S n p → ⊥) → Judged S taken
  fails : (j q : ℕ) → S j q → NoneBelow S j → ((p : ℕ) → S j p → p ≡ q) → Judged S (refused j q)

same_number : (j q n p : ℕ) → refused j q ≡ refused n p → j ≡ n
same_number j q n p e = cc

same_place : (j q n p : ℕ) → refused j q ≡ refused n p → q ≡ p
same_place j q n p e = cc

-- a refusal is given exactly if it is the first that applies
pub exact : (S : ℕ → ℕ → Type 0) (d : Decision) → Judged S d → (n p : ℕ) → (d ≡ refused n p) ↔ First S n p
exact S d (passes h) n p = (λ e. absurd (let z : ◌≡◌ {A = ℕ} 0 1 = cc in omega arith), λ f. absurd (h n p f.applies))
exact S d (fails j q a none one) n p = (there, back)
  where
    there : refused j q ≡ refused n p → First S n p
    there e = rw (← same_number j q n p e, ← same_place j q n p e) (record { applies = a; none = none })

    back : First S n p → refused j q ≡ refused n p
    back f = ⊎_elim
        (λ l. absurd (none n p l f.applies))
        (λ l. ⊎_elim
        (λ r. absurd (f.none j q r a))
        (λ r. let z : n ≡ j = omega arith in rw (z, one p (rw z at f.applies)))
        (lt_or_ge j n))
        (lt_or_ge n j)

-- and what is taken is what no sentence refuses
pub exact_taken : (S : ℕ → ℕ → Type 0) (d : Decision) → Judged S d → (d ≡ taken) ↔ ((n p : ℕ) → S n p → ⊥)
exact_taken S d (passes h) = (λ e. h, λ z. refl)
exact_taken S d (fails j q a none one) = (λ e. absurd (let z : ◌≡◌ {A = ℕ} 0 1 = cc in omega arith), λ z. absurd (z j q a))

-- start
module _ (k : ℕ) (rows nodes values : List ℕ) where
  S : ℕ → ℕ → Type 0
  S = StartSentence k rows nodes values

  pub judged_start : Judged (StartSentence k rows nodes values) (decide_start k rows nodes values)
  unfolding decide_start judge_start S
  judged_start = one (k_right k) refl
    where
      zero_none : NoneBelow S 1
      zero_none zero p h z = z
      zero_none (suc i) p h z = absurd (omega arith)

      bad : ((nodes_right nodes && values_right k values) ≡ false) ↔ (BadNodes nodes ⊎ BadValues k values)
      bad = either_bad (nodes_right nodes) (values_right k values) _ _ (nodes_bad nodes) (values_bad k values)

      end : NoneBelow S 4 → (n p : ℕ) → S n p → ⊥
      end h zero p z = z
      end h (suc zero) p z = h 1 p (omega arith) z
      end h (suc (suc zero)) p z = h 2 p (omega arith) z
      end h (suc (suc (suc zero))) p z = h 3 p (omega arith) z
      end h (suc (suc (suc (suc n)))) p z = z

      three : NoneBelow S 3 → (b : Bool) → (nodes_right nodes && values_right k values) ≡ b → Judged S (judge_start true right b)
      three h false e = fails 3 0 (refl, bad.0 e) h (λ p z. z.0)
      three h true e = passes (end (one_more S 3 h (λ p z. false_true (bad.1 z.1) e)))

      two : NoneBelow S 2 → (f : Found) → RowsFound rows f → Judged S (judge_start true f (nodes_right nodes && values_right k values))
      two h f (well w) = three (one_more S 2 h w) (nodes_right nodes && values_right k values) refl
      two h f (ill p b u) = fails 2 p b h u

      one : (a : Bool) → k_right k ≡ a → Judged S (judge_start a (check_rows rows) (nodes_right nodes && values_right k values))
      one false e = fails 1 0 (refl, (k_bad k).0 e) zero_none (λ p z. z.0)
      one true e = two (one_more S 1 zero_none (λ p z. false_true ((k_bad k).1 z.1) e)) (check_rows rows) (rows_found rows)

-- event
module _ (rows : List ℕ) (m : Machine) (e : Event) where
  k : ℕ
  k = m.state.k

  C : ℕ
  C = capacity m.nodes

  W : ℕ
  W = shortest m.state.k (rule_of rows) (shows rows m) (facts_of e)

  abbrev R : ℕ
  R = room_of m.state.k (rule_of rows) (shows rows m) (facts_of e) (step m.state.k (rule_of rows) (shows rows m) (facts_of e))

  lengths : Bool
  lengths = nodes_right m.nodes && (values_right m.state.k m.values && leb (work_size (capacity m.nodes)) (length m.work))

  abbrev formed : Bool
  formed = well_formed m.state.k (capacity m.nodes) (rule_of rows) m.state m.nodes m.values

  Q : ℕ → ℕ → Type 0
  Q = Sentence rows m e

  bad_lengths : (lengths ≡ false) ↔ (BadNodes m.nodes ⊎ (BadValues m.state.k m.values ⊎ BadWork m.nodes m.work))
  unfolding lengths
  bad_lengths = either_bad (nodes_right m.nodes) (values_right m.state.k m.values && leb (work_size (capacity m.nodes)) (length m.work)) _ _ (nodes_bad m.nodes)
      (either_bad (values_right m.state.k m.values) (leb (work_size (capacity m.nodes)) (length m.work)) _ _ (values_bad m.state.k m.values)
      (leb-false _ _, lt-leb _ _))

  bad_formed : k_right m.state.k ≡ true → check_rows rows ≡ right → (formed ≡ false) ↔ IllFormed m.state.k (capacity m.nodes) (rule_of rows) m.state m.nodes m.values
  bad_formed a r = formed_bad m.state.k (capacity m.nodes) (rule_of rows) (few rows m.state.k (capacity m.nodes) a r) m.state m.nodes m.values

  positive : k_right m.state.k ≡ true → 0 < m.state.k
  unfolding k_right
  positive a = ltb-true 0 m.state.k (and_true_l (ltb 0 m.state.k) (leb m.state.k 10) a)

  -- the diagrams before and after are reduced and ordered
  fine_before : k_right m.state.k ≡ true → check_rows rows ≡ right → formed ≡ true → AllFine (4 * m.state.k) (shows rows m).trees
  unfolding shows read
  fine_before a r f = read_fine m.state.k (capacity m.nodes) (rule_of rows) m.state m.nodes m.values f (positive a) (checked rows r).rows

  fine_after : AllFine (4 * m.state.k) (shows rows m).trees → AllFine (4 * m.state.k) (step m.state.k (rule_of rows) (shows rows m) (facts_of e)).trees
  unfolding step
  fine_after w = fine_rows m.state.k (ask_facts (facts_of e) (shows rows m).lists (rule_of rows)) (facts_of e) (shows rows m).trees w (rule_of rows) [] (λ j. fine_off 0 (4 * m.state.k))

  -- the room of the outcome is document 01's
  pub event_room : k_right m.state.k ≡ true → check_rows rows ≡ right → formed ≡ true
      → Room (4 * m.state.k) (counted m.state.k (rule_of rows) (shows rows m) (facts_of e) (step m.state.k (rule_of rows) (shows rows m) (facts_of e))) R
  event_room a r f = let w = fine_before a r f in room_is m.state.k (rule_of rows) (checked rows r).rows (shows rows m) (facts_of e) _ w (fine_after w)

  no_room : k_right m.state.k ≡ true → check_rows rows ≡ right → formed ≡ true → (leb R C ≡ false) ↔ NoRoom rows m e
  unfolding C
  no_room a r f = (
    λ z. record { room = R; is = event_room a r f; over = leb-false R (capacity m.nodes) z },
    λ n. lt-leb R (capacity m.nodes) (let y = n.over in let x = room_one _ _ _ _ n.is (event_room a r f) in omega arith),
  )

  pub judged_event : Judged (Sentence rows m e) (decide_event rows m e)
  unfolding decide_event judge_start judge_event Q C W lengths k
  judged_event = one (k_right m.state.k) refl
    where
      count : Bool
      count = count_right (rule_of rows) e

      zero_none : NoneBelow Q 1
      zero_none zero p h z = z
      zero_none (suc i) p h z = absurd (omega arith)

      end : NoneBelow Q 8 → (n p : ℕ) → Q n p → ⊥
      end h zero p z = z
      end h (suc zero) p z = h 1 p (omega arith) z
      end h (suc (suc zero)) p z = h 2 p (omega arith) z
      end h (suc (suc (suc zero))) p z = h 3 p (omega arith) z
      end h (suc (suc (suc (suc zero)))) p z = h 4 p (omega arith) z
      end h (suc (suc (suc (suc (suc zero))))) p z = h 5 p (omega arith) z
      end h (suc (suc (suc (suc (suc (suc zero)))))) p z = h 6 p (omega arith) z
      end h (suc (suc (suc (suc (suc (suc (suc zero))))))) p z = h 7 p (omega arith) z
      end h (suc (suc (suc (suc (suc (suc (suc (suc n)))))))) p z = z

      seven : ((leb R C ≡ false) ↔ NoRoom rows m e) → NoneBelow Q 7 → (b : Bool) → leb R C ≡ b → Judged Q (judge_event taken true true false W b)
      seven n h false z = fails 7 0 (refl, n.0 z) h (λ p y. y.0)
      seven n h true z = passes (end (one_more Q 7 h (λ p y. false_true (n.1 y.1) z)))

      six : ((leb R C ≡ false) ↔ NoRoom rows m e) → NoneBelow Q 6 → (b : Bool) → ltb W 4 ≡ b → Judged Q (judge_event taken true true b W (leb R C))
      six n h true z = fails 6 W ((short_found rows m e).0 (ltb-true W 4 z)) h (λ p y. ((short_found rows m e).1 p y).1)
      six n h false z = seven n (one_more Q 6 h (λ p y. absurd (let x = ((short_found rows m e).1 p y).0 in let u = ltb-false W 4 z in omega arith))) (leb R C) refl

      five : ((leb R C ≡ false) ↔ NoRoom rows m e) → NoneBelow Q 5 → (b : Bool) → count ≡ b → Judged Q (judge_event taken true b (ltb W 4) W (leb R C))
      five n h false z = fails 5 0 (refl, (count_bad rows e).0 z) h (λ p y. y.0)
      five n h true z = six n (one_more Q 5 h (λ p y. false_true ((count_bad rows e).1 y.1) z)) (ltb W 4) refl

      four : k_right m.state.k ≡ true → check_rows rows ≡ right → NoneBelow Q 4 → (b : Bool) → formed ≡ b → Judged Q (judge_event taken b count (ltb W 4) W (leb R C))
      four a r h false z = fails 4 0 (refl, (bad_formed a r).0 z) h (λ p y. y.0)
      four a r h true z = five (no_room a r z) (one_more Q 4 h (λ p y. false_true ((bad_formed a r).1 y.1) z)) count refl

      three : k_right m.state.k ≡ true → check_rows rows ≡ right → NoneBelow Q 3 → (b : Bool) → lengths ≡ b
          → Judged Q (judge_event (judge_start true right b) formed count (ltb W 4) W (leb R C))
      three a r h false z = fails 3 0 (refl, bad_lengths.0 z) h (λ p y. y.0)
      three a r h true z = four a r (one_more Q 3 h (λ p y. false_true (bad_lengths.1 y.1) z)) formed refl

      two : k_right m.state.k ≡ true → NoneBelow Q 2 → (f : Found) → check_rows rows ≡ f → RowsFound rows f
          → Judged Q (judge_event (judge_start true f lengths) formed count (ltb W 4) W (leb R C))
      two a h f r (well w) = three a r (one_more Q 2 h w) lengths refl
      two a h f r (ill p b u) = fails 2 p b h u

      one : (a : Bool) → k_right m.state.k ≡ a → Judged Q (judge_event (judge_start a (check_rows rows) lengths) formed count (ltb W 4) W (leb R C))
      one false a = fails 1 0 (refl, (k_bad m.state.k).0 a) zero_none (λ p z. z.0)
      one true a = two a (one_more Q 1 zero_none (λ p z. false_true ((k_bad m.state.k).1 z.1) a)) (check_rows rows) refl (rows_found rows)

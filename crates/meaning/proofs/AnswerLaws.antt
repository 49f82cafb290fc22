-- What an answer of a running machine says. Assumes nothing.
use Prim.Native.Nat.{ℕ, suc, ◌-◌, ◌<◌}
use mathlib.Core.Path.{◌≡◌, refl, ap, sym, ◌∙◌}
use mathlib.Core.Bool.{Bool, true, false}
use mathlib.Core.List.{List, [], ◌∷◌, ◌++◌}
use mathlib.Core.Logic.{◌↔◌, ⊎_elim}
use native.Mathlib.Omega.{arith}
use lib.ListN.{length, get_or}
use Rattle.trees.specs.Tree.{off, is_on}
use Rattle.trees.proofs.Tests.{lt_or_ge}
use Rattle.meaning.specs.declared.State.{State}
use Rattle.meaning.specs.declared.Event.{Event}
use Rattle.meaning.specs.declared.Answer.TheVariants.{Verdict}
use Rattle.meaning.specs.Qtl.{Fact, Assignment, Holds, free}
use Rattle.meaning.specs.Rows.{rule_of, count_of_rows, formula_at, right, check_rows}
use Rattle.meaning.specs.Step.{says_at, Shown, step, room_of}
use Rattle.meaning.specs.Tables.{kept_table, lay_state}
use Rattle.meaning.specs.Verdicts.{Counts, Answered}
use Rattle.meaning.specs.Outcome.{k_right, facts_of, Decision, taken, refused, Machine, shows, decide_event, verdict_of, settle_event, event_outcome, log}
use Rattle.meaning.proofs.RowsLaws.{checked, rows_length, free_beyond}
use Rattle.meaning.proofs.VerdictLaws.{sentence}
use Rattle.meaning.proofs.RoomOfLaws.{room_is}
use Rattle.meaning.proofs.RunLaws.{Running, Laid, k_is, shows_is, laid_on, after_faithful}

-- the parts of a verdict
verdict_0 : (x y : Bool) (a b n r : ℕ) → Verdict x a b ≡ Verdict y n r → x ≡ y
verdict_0 x y a b n r e = cc

verdict_1 : (x y : Bool) (a b n r : ℕ) → Verdict x a b ≡ Verdict y n r → a ≡ n
verdict_1 x y a b n r e = cc

verdict_2 : (x y : Bool) (a b n r : ℕ) → Verdict x a b ≡ Verdict y n r → b ≡ r
verdict_2 x y a b n r e = cc

-- an answer that is a verdict tells that the event was taken
pub verdict_taken : (rows : List ℕ) (m : Machine) (e : Event) (y : Bool) (n r : ℕ) → (event_outcome rows m e).answer ≡ Verdict y n r → decide_event rows m e ≡ taken
unfolding event_outcome settle_event
verdict_taken rows m e y n r q = go (decide_event rows m e) q
  where
    go : (d : Decision) → (settle_event d rows m e).answer ≡ Verdict y n r → d ≡ taken
    go (refused j p) z = let x : ◌≡◌ {A = ℕ} 0 1 = cc in absurd (omega arith)
    go taken z = refl

-- and what is taken is answered by one
pub taken_verdict : (rows : List ℕ) (m : Machine) (e : Event) → decide_event rows m e ≡ taken
    → (event_outcome rows m e).answer ≡ verdict_of m.state.k (rule_of rows) (shows rows m) (facts_of e) (step m.state.k (rule_of rows) (shows rows m) (facts_of e))
unfolding event_outcome settle_event
taken_verdict rows m e d = rw d

-- the last row has no free variable
module _ (rows : List ℕ) (cr : check_rows rows ≡ right) where
  pub last_row : length (rule_of rows) - 1 < length (rule_of rows)
  unfolding rule_of
  last_row = let c = (checked rows cr).some in let l = rows_length rows (count_of_rows rows) in omega arith

  pub closed_all : (v : ℕ) → free (formula_at (rule_of rows) (length (rule_of rows) - 1)) v ≡ false
  closed_all v = ⊎_elim (λ h. (checked rows cr).sentence v h) (λ h. free_beyond (rule_of rows) (checked rows cr).rows (length (rule_of rows) - 1) v last_row h) (lt_or_ge v 4)

-- a machine that is the layout of s
module _ (rows : List ℕ) (k C : ℕ) (kr : k_right k ≡ true) (cr : check_rows rows ≡ right) (m : Machine) (s : Shown) (laid : Laid rows k C kr cr m s) (e : Event) (y : Bool) (n r : ℕ) where
  -- the verdict of the step, in its parts
  pub verdict_parts : decide_event rows m e ≡ taken → (event_outcome rows m e).answer ≡ Verdict y n r
      → (is_on (get_or (step k (rule_of rows) s (facts_of e)).trees (length (rule_of rows) - 1) off) ≡ y)
      × (length (kept_table (step k (rule_of rows) s (facts_of e))) ≡ n) × (room_of k (rule_of rows) s (facts_of e) (step k (rule_of rows) s (facts_of e)) ≡ r)
  unfolding verdict_of
  verdict_parts d q =
      let v = rw (shows_is rows k C kr cr m s laid, k_is rows k C kr cr m s laid) at (sym (taken_verdict rows m e d) ∙ q) in
      (verdict_0 _ y _ _ n r v, verdict_1 _ y _ _ n r v, verdict_2 _ y _ _ n r v)

  -- kept and room are document 01's
  pub counts_of : (event_outcome rows m e).answer ≡ Verdict y n r → Counts rows m e y n r (event_outcome rows m e).left
  counts_of q =
      let d = verdict_taken rows m e y n r q in
      let l = laid_on rows k C kr cr m s laid e d in
      let p = verdict_parts d q in
      let after = shows_is rows k C kr cr (event_outcome rows m e).left (step k (rule_of rows) s (facts_of e)) l in
      record {
        kept = sym p.1 ∙ sym (unfold lay_state in ap (λ (t : State). t.kept) l.state_is);
        nodes_kept = rw after (sym p.1);
        room =
            rw (shows_is rows k C kr cr m s laid, after, k_is rows k C kr cr m s laid)
            (rw p.2 at (room_is k (rule_of rows) (checked rows cr).rows s (facts_of e) (step k (rule_of rows) s (facts_of e)) laid.proper.fine l.proper.fine));
      }

module _ (rows : List ℕ) (k C : ℕ) (kr : k_right k ≡ true) (cr : check_rows rows ≡ right) (m : Machine) (fs : List (List Fact)) (run : Running rows k C kr cr m fs) (e : Event) where
  says : decide_event rows m e ≡ taken → (a : Assignment)
      → (is_on (get_or (step k (rule_of rows) run.s (facts_of e)).trees (length (rule_of rows) - 1) off) ≡ true)
      ↔ Holds (log (fs ++ facts_of e ∷ [])) (formula_at (rule_of rows) (length (rule_of rows) - 1)) (suc (length fs)) a
  unfolding formula_at
  says d a =
      let f = after_faithful rows k C kr cr m fs run e d in
      sentence k (step k (rule_of rows) run.s (facts_of e)).lists (get_or (step k (rule_of rows) run.s (facts_of e)).trees (length (rule_of rows) - 1) off)
      (log (fs ++ facts_of e ∷ [])) _ (suc (length fs)) (closed_all rows cr) (f.fine (length (rule_of rows) - 1)) (unfold says_at in f.means (length (rule_of rows) - 1) (last_row rows cr)) a

  -- a verdict was taken, and says what QTL says
  pub answered : (y : Bool) (n r : ℕ) → (event_outcome rows m e).answer ≡ Verdict y n r → Answered rows m e y n r (event_outcome rows m e).left fs
  answered y n r q =
      let d = verdict_taken rows m e y n r q in
      let p = verdict_parts rows k C kr cr m run.s run.laid e y n r d q in
      record {
        verdict = λ a. rw p.0 at (says d a);
        counts = counts_of rows k C kr cr m run.s run.laid e y n r q;
      }

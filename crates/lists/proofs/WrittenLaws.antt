-- What `ask` promises gives what the next steps of an event need: whether a variable is short, and what is written. Assumes nothing.
use Prim.Native.Nat.{ℕ, ◌+◌, ◌-◌, ◌*◌, ◌≤◌, ◌<◌}
use mathlib.Core.Path.{◌≡◌, ap, sym, ◌∙◌}
use mathlib.Core.Bool.{Bool}
use mathlib.Core.List.{List}
use native.Mathlib.Omega.{arith}
use lib.Dec.{ltb}
use lib.ListN.{length, get_or, take, drop, length-append}
use Rattle.meaning.specs.declared.Event.{Event}
use Rattle.meaning.specs.Rows.{first_below, rule_of}
use Rattle.meaning.specs.Numbering.{ask_facts}
use Rattle.meaning.specs.Step.{Shown}
use Rattle.meaning.specs.Tables.{most, list_of, lay_values}
use Rattle.meaning.specs.Outcome.{facts_of}
use Rattle.meaning.specs.Outcome
use Rattle.meaning.proofs.RowsLaws.{first_le, first_none, first_some}
use Rattle.numbers.specs.declared.Asked.{Asked}
use Rattle.numbers.specs.Asking.{bare, with_fresh, with_counts, Asks}
use Rattle.lists.specs.Writing.{Writable}
use Rattle.lists.proofs.WritingLaws.{first_is, lay_same}

-- a test that agrees below n gives the same least number
first_same : (n : ℕ) (f g : ℕ → Bool) → ((i : ℕ) → i < n → f i ≡ g i) → first_below n f ≡ first_below n g
first_same n f g e =
    first_is n f (first_below n g) (first_le n g) (λ i h. e i (omega (arith, first_le n g)) ∙ first_none n g i h) (λ h. e (first_below n g) h ∙ first_some n g h)

module _ (k : ℕ) (before values rows : List ℕ) (e : Event) (a : Asked) (t : Asks k before values rows e a) where
  -- refusal 6: what `shortest` gives of the counts is the lowest variable that is short
  pub shortest_is : (s : Shown) → s.lists ≡ list_of k (with_counts before) values
      → first_below 4 (λ v. ltb (most k) (get_or a.counts v 0)) ≡ Outcome.shortest k (rule_of rows) s (facts_of e)
  unfolding Outcome.shortest
  shortest_is s q =
      rw q (first_same 4 (λ v. ltb (most k) (get_or a.counts v 0)) (λ v. ltb (most k) (length (ask_facts (facts_of e) (list_of k (with_counts before) values) (rule_of rows) v)))
      (λ v h. ap (ltb (most k)) (sym (t.listing.counted v h))))

  -- the counts only grow
  grown : (v : ℕ) → v < 4 → get_or before v 0 ≤ get_or a.counts v 0
  unfolding with_fresh
  grown v h =
      let n : length (ask_facts (facts_of e) (list_of k (with_counts before) values) (rule_of rows) v) ≡ length (list_of k (with_counts before) values v) + length (take (get_or a.counts v 0 - get_or before v 0) (drop (24 * v) (bare a.fresh))) =
      ap length (t.listing.lists v h) ∙ length-append (list_of k (with_counts before) values v) (take (get_or a.counts v 0 - get_or before v 0) (drop (24 * v) (bare a.fresh))) in
      omega (arith, n, t.listing.counted v h, t.listing.start v h)

  -- where no variable is short, the fresh values can be written
  pub writable : k ≤ 10 → length values ≡ 4 * most k → lay_values k (list_of k (with_counts before) values) ≡ values → ((v : ℕ) → v < 4 → get_or a.counts v 0 ≤ most k)
      → Writable k before a values
  writable bits parts laid room = record { bits = bits; parts = parts; laid = laid; grown = grown; few = t.few; room = room }

  -- and what is written is the lists after the event
  pub written_is : lay_values k (with_fresh before a.counts (bare a.fresh) (list_of k (with_counts before) values)) ≡ lay_values k (ask_facts (facts_of e) (list_of k (with_counts before) values) (rule_of rows))
  unfolding with_fresh
  written_is = lay_same k (with_fresh before a.counts (bare a.fresh) (list_of k (with_counts before) values)) (ask_facts (facts_of e) (list_of k (with_counts before) values) (rule_of rows)) (λ v h. sym (t.listing.lists v h))

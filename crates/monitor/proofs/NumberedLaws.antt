-- Laws of how many values an event newly numbered. Assumes nothing.
use Prim.Native.Nat.{ℕ, ◌-◌, ◌*◌, ◌<◌}
use mathlib.Core.Path.{◌≡◌, refl, ap, ap₂, sym, ◌∙◌}
use mathlib.Core.Bool.{Bool}
use mathlib.Core.List.{List, [], ◌∷◌}
use native.Mathlib.Omega.{arith}
use lib.ListN.{length, get_or, take, drop, length-append}
use Rattle.meaning.specs.declared.State.{State}
use Rattle.meaning.specs.declared.Event.{Event}
use Rattle.meaning.specs.declared.Answer.{Answer}
use Rattle.meaning.specs.declared.Answer.TheVariants.{Started, Verdict, Refused}
use Rattle.meaning.specs.Rows.{rule_of}
use Rattle.meaning.specs.Numbering.{Lists, ask_facts}
use Rattle.meaning.specs.Step.{step}
use Rattle.meaning.specs.Outcome.{facts_of, Machine, shows}
use Rattle.numbers.specs.declared.Asked.{Asked}
use Rattle.numbers.specs.Asking.{with_fresh, bare, lists_before}
use Rattle.monitor.specs.declared.Figures.{Figures}
use Rattle.monitor.specs.declared.Said.{Said}
use Rattle.monitor.specs.Calls.{machine, Happens}
use Rattle.monitor.specs.Said.{turn_of, refused_said, taken_said}
use Rattle.monitor.specs.Events.{Asking, Ends}
use Rattle.monitor.specs.Numbered.{newly, numbered_told, Numbers, Grown, growth}
use Rattle.monitor.proofs.SaidLaws.{kept_looks}
use Rattle.monitor.proofs.WorkedLaws.{lists_are}

-- four numbers, one after the other
pub four_are : (ns : List ℕ) (f : ℕ → ℕ) → length ns ≡ 4 → ((v : ℕ) → v < 4 → get_or ns v 0 ≡ f v) → ns ≡ f 0 ∷ f 1 ∷ f 2 ∷ f 3 ∷ []
four_are (a ∷ b ∷ c ∷ d ∷ []) f n h = rw (sym (h 0 (omega arith)), sym (h 1 (omega arith)), sym (h 2 (omega arith)), sym (h 3 (omega arith))) refl
four_are [] f n h = absurd (omega arith)
four_are (a ∷ []) f n h = absurd (omega arith)
four_are (a ∷ b ∷ []) f n h = absurd (omega arith)
four_are (a ∷ b ∷ c ∷ []) f n h = absurd (omega arith)
four_are (a ∷ b ∷ c ∷ d ∷ x ∷ xs) f n h = absurd (omega arith)

-- a refused event numbers none
pub kept_numbers : (rows : List ℕ) (m : Machine) (e : Event) (f : Figures) (n p : ℕ) (t : Said) → t ≡ refused_said f n p → Numbers rows m e t.answer t.numbered
unfolding refused_said numbered_told
kept_numbers rows m e f n p t q = rw q (record { tells = refl })

-- so it has ended, where what happened is told
pub refused_ends : (rows : List ℕ) (m : Machine) (e : Event) (f : Figures) (n p : ℕ) (refs sizes nodes values work : List ℕ) → Happens rows m e (turn_of (refused_said f n p) refs sizes) nodes values work
    → Ends rows m e (refused_said f n p) refs sizes nodes values work
refused_ends rows m e f n p refs sizes nodes values work h = record { happens = h; looks = kept_looks rows m e f n p _ refl; numbers = kept_numbers rows m e f n p _ refl }

-- the counts do not ask what stands in the work slice
pub numbers_same : (rows : List ℕ) (s : State) (nodes values w w' : List ℕ) (e : Event) (a : Answer) (numbered : List ℕ) → Numbers rows (machine s nodes values w) e a numbered
    → Numbers rows (machine s nodes values w') e a numbered
unfolding numbered_told newly shows
numbers_same rows s nodes values w w' e Started numbered l = record { tells = l.tells }
numbers_same rows s nodes values w w' e (Verdict y kept room) numbered l = record { tells = l.tells }
numbers_same rows s nodes values w w' e (Refused n p) numbered l = record { tells = l.tells }

-- one that is taken numbers what it asked
module _ (rows masks : List ℕ) (m : Machine) (e : Event) (a : Asked) (s : Asking rows masks m e a) where
  abbrev old : Lists
  old = lists_before m.state.k m.state.counts m.values

  pub grown : Grown m.state.counts a.counts
  unfolding with_fresh
  grown v h =
      let l = s.asks.listing in
      let fresh = take (get_or a.counts v 0 - get_or m.state.counts v 0) (drop (24 * v) (bare a.fresh)) in
      omega (arith, l.start v h, l.counted v h, ap length (l.lists v h), length-append (old v) fresh)

  newly_at : (v : ℕ) → v < 4 → get_or a.counts v 0 - get_or m.state.counts v 0 ≡ newly rows m e v
  unfolding newly step
  newly_at v h =
      let l = s.asks.listing in
      let after : length (ask_facts (facts_of e) (shows rows m).lists (rule_of rows) v) ≡ get_or a.counts v 0 =
      ap (λ (L : Lists). length (ask_facts (facts_of e) L (rule_of rows) v)) (lists_are rows m) ∙ l.counted v h in
      let before : length ((shows rows m).lists v) ≡ get_or m.state.counts v 0 = ap (λ (L : Lists). length (L v)) (lists_are rows m) ∙ l.start v h in
      sym (ap₂ (λ (x y : ℕ). x - y) after before)

  pub taken_numbers : (f : Figures) (kept room : ℕ) (y : Bool) (complements swept : ℕ) (t : Said)
      → t ≡ taken_said f a.counts kept room y complements swept (growth m.state.counts a.counts) → Numbers rows m e t.answer t.numbered
  unfolding taken_said numbered_told growth
  taken_numbers f kept room y complements swept t q =
      rw q (record { tells = rw (newly_at 0 (omega arith), newly_at 1 (omega arith), newly_at 2 (omega arith), newly_at 3 (omega arith)) refl })

-- The scan: what it has passed, and what it answers. Assumes nothing.
use Prim.Native.Nat.{ℕ, suc, ◌+◌, ◌≤◌, ◌<◌}
use native.Mathlib.Omega.{arith}
use native.Mathlib.Numerals.{add-one}
use native.Mathlib.Nat.{zero-add}
use mathlib.Core.Path.{◌≡◌, refl, sym, ◌∙◌}
use mathlib.Core.Bool.{Bool, true, false}
use mathlib.Core.List.{List, []}
use mathlib.Core.Logic.{⊎_elim}
use lib.ListN.{length, drop, get_or}
use lib.Seq.{drop-cons, drop-length}
use Rattle.trees.proofs.Tests.{false_true}
use Rattle.std.specs.Prelude.{None}
use Rattle.text.specs.Grammar.{Reading, RuleText, HasReading, Place}
use Rattle.text.specs.Machine.{Stage, wants, ended, named, binds, bound, argues, argued, stopped, Result, refused, reads}
use Rattle.text.specs.Reader.{gap, letters, numerals, dash, State, at, grows, joins, counts, step, run, finish, start, read, place_from, place_of}
use Rattle.text.specs.Shape.{shape, is_read, parens}
use Rattle.text.proofs.RuleTexts.{correct, complete, place}
use Rattle.text.proofs.GoesOnLaws.{Going, Alive}
use Rattle.text.proofs.AliveLaws.{step_next, place_going, place_here}
use Rattle.text.proofs.FoundLaws.{stop_reads}
use Rattle.spelling.specs.Codes.{mode_number}
use Rattle.scan.specs.Looks.{Sound, Looks, Steps, StepsTo, Ending}

going_mode : (t : Stage) → (t ≡ stopped → ⊥) → mode_number (shape t).mode < 7
unfolding mode_number shape
going_mode (wants ks) n = omega arith
going_mode (ended f ks) n = omega arith
going_mode (named p ks) n = omega arith
going_mode (binds q ks) n = omega arith
going_mode (bound q x ks) n = omega arith
going_mode (argues p gs ks) n = omega arith
going_mode (argued p gs ks) n = omega arith
going_mode stopped n = absurd (n refl)

no_joins : joins stopped ≡ true → ⊥
unfolding joins
no_joins e = false_true refl e

no_grows : grows stopped ≡ true → ⊥
unfolding grows
no_grows e = false_true refl e

no_counts : counts stopped ≡ true → ⊥
unfolding counts
no_counts e = false_true refl e

-- a state that can go on has a mode below 7, and a stopped one has not
alive_mode : (text : List ℕ) (i pending from mode depth : ℕ) (s : State) → Looks text i pending from mode depth s → Alive s → mode < 7
alive_mode text i pending from mode depth (at gap t) l a = rw l.1.mode_is (going_mode t (λ e. subst_going t e a))
  where
    subst_going : (t : Stage) → t ≡ stopped → Going t → ⊥
    subst_going t e g = rw e at g
alive_mode text i pending from mode depth (at (letters w) t) l a =
    rw l.1.mode_is (going_mode t (λ e. ⊎_elim (λ g. no_grows (rw e at g)) (λ g. no_joins (rw e at g.0)) a))
alive_mode text i pending from mode depth (at (numerals w) t) l a = rw l.1.mode_is (going_mode t (λ e. no_counts (rw e at a)))
alive_mode text i pending from mode depth (at dash t) l a = rw l.1.mode_is (going_mode t (λ e. no_joins (rw e at a)))

stopped_mode : (text : List ℕ) (i pending from mode depth : ℕ) → Looks text i pending from mode depth (at gap stopped) → mode ≡ 7
unfolding shape mode_number
stopped_mode text i pending from mode depth l = l.1.mode_is

-- the bytes passed have led to a state that can go on, and what is left decides
pub record Scanning (text : List ℕ) (i pending from mode depth : ℕ) : Type 0 where
  pub inside : i ≤ length text
  pub sound : Sound i from mode depth
  pub state : State
  pub looks : Looks text i pending from mode depth state
  pub alive : Alive state
  pub reading : read text ≡ finish (run state (drop i text))
  pub placing : place_of text ≡ i + place_from state (drop i text)

pub scan_begins : (text : List ℕ) → Scanning text 0 0 0 0 0
unfolding read place_of start shape mode_number parens
scan_begins text = record {
  inside = omega arith;
  sound = record { live = λ e. omega arith; shallow = omega arith; past = omega arith };
  state = at gap (wants []);
  looks = (refl, record { mode_is = refl; depth_is = refl });
  alive = tt;
  reading = refl;
  placing = sym (zero-add (place_from (at gap (wants [])) text));
}

none_read : (text : List ℕ) → ((f : Reading) → read text ≡ reads f → ⊥) → (f : Reading) → RuleText text f → ⊥
none_read text n f h = n f (complete text f h)

module _ (text : List ℕ) (i pending from mode depth : ℕ) (c : Scanning text i pending from mode depth) where
  module _ (h : i < length text) where
    reading_on : read text ≡ finish (run (step c.state (get_or text i 0)) (drop (suc i) text))
    unfolding run
    reading_on = c.reading ∙ rw (drop-cons text i 0 h)

    pub scan_stops : StepsTo text i pending from mode depth None → ((f : Reading) → RuleText text f → ⊥) × Place text i
    scan_stops s = ⊎_elim
        (λ a. absurd (omega (arith, alive_mode text (i + 1) 0 0 7 0 (step c.state (get_or text i 0)) (s c.state c.looks) a)))
        (λ z.
        let p : place_of text ≡ i =
        c.placing ∙ rw (drop-cons text i 0 h, place_here c.state (get_or text i 0) (drop (suc i) text) z) (omega arith) in
        (none_read text (λ f r. stop_reads (drop (suc i) text) f (rw (← z) (sym reading_on ∙ r))), rw p at (place text)))
        (step_next c.state (get_or text i 0) c.alive)

    pub scan_more : (pending' from' mode' depth' : ℕ) → Steps text i pending from mode depth pending' from' mode' depth' → Scanning text (i + 1) pending' from' mode' depth'
    scan_more pending' from' mode' depth' s = ⊎_elim
        (λ a. record {
          inside = omega arith;
          sound = s.sound;
          state = step c.state (get_or text i 0);
          looks = after;
          alive = a;
          reading = rw (add-one i) reading_on;
          placing = c.placing ∙ rw (drop-cons text i 0 h, place_going c.state (get_or text i 0) (drop (suc i) text) a, add-one i) (omega arith);
        })
        (λ z. absurd (s.sound.live (stopped_mode text (i + 1) pending' from' mode' depth' (rw z at after))))
        (step_next c.state (get_or text i 0) c.alive)
      where
        after : Looks text (i + 1) pending' from' mode' depth' (step c.state (get_or text i 0))
        after = s.shows c.state c.looks

  module _ (h : length text ≤ i) (r : Bool) (e : Ending text pending from mode depth r) where
    at_end : i ≡ length text
    at_end = omega (arith, c.inside)

    none_left : drop i text ≡ []
    none_left = rw at_end (drop-length text)

    read_all : read text ≡ finish c.state
    unfolding run
    read_all = c.reading ∙ rw none_left

    told : r ≡ is_read (read text)
    told = rw read_all (e c.state (rw at_end at c.looks))

    reads_some : (q : Result) → read text ≡ q → is_read q ≡ true → HasReading text
    unfolding is_read
    reads_some refused z y = absurd (false_true refl y)
    reads_some (reads f) z y = record { reading = f; text = correct text f z }

    reads_none : (q : Result) (f : Reading) → q ≡ reads f → is_read q ≡ false → ⊥
    unfolding is_read
    reads_none refused f z y = let x : ◌≡◌ {A = ℕ} 0 1 = cc in omega arith
    reads_none (reads g) f z y = false_true y refl

    pub scan_whole : r ≡ true → HasReading text
    scan_whole z = reads_some (read text) refl (sym told ∙ z)

    pub scan_short : r ≡ false → ((f : Reading) → RuleText text f → ⊥) × Place text (length text)
    scan_short z =
        let p : place_of text ≡ length text = c.placing ∙ rw none_left (unfold place_from in omega arith) in
        (none_read text (λ f y. reads_none (read text) f y (sym told ∙ z)), rw p at (place text))

-- One byte more, by what is pending; and the end. Assumes nothing.
use Prim.Native.Nat.{ℕ, suc, ◌+◌, ◌-◌, ◌<◌}
use native.Mathlib.Omega.{arith}
use mathlib.Core.Path.{◌≡◌, refl, sym, ap, ◌∙◌}
use mathlib.Core.Bool.{Bool, true, false}
use mathlib.Core.List.{List, [], ◌∷◌, ◌++◌}
use lib.ListN.{length, take, drop, get_or, length-drop}
use lib.Seq.{take-suc, get_or-drop}
use borrow.Author.Tests.{ne_eqb}
use Rattle.std.specs.Prelude.{Option, Some, None}
use Rattle.std.specs.Bool.{MatchBool}
use Rattle.std.specs.Char.{IsAsciiDigit, IsNotAsciiDigit}
use Rattle.std.proofs.lemmas.Bool.Decides.{nat_tests}
use Rattle.text.specs.Words.{is_word_byte, is_digit, number, binary, implies, word_of}
use Rattle.text.specs.Machine.{Stage, stopped, give, result}
use Rattle.text.specs.Reader.{gap, letters, numerals, dash, State, at, class_of, grows, begin, step, finish}
use Rattle.text.specs.Shape.{shape, is_read}
use Rattle.spelling.specs.Codes.{code_of, mode_number}
use Rattle.scan.specs.Looks.{Sound, Looks, Gives, Begins, Steps, StepsTo, GivesTo, BeginsTo, EndsAfter, Grows, MayEnd, Ending}
use Rattle.scan.specs.declared.looks.Look.{Look}
use Rattle.scan.proofs.BeginLaws.{stopped_is, stays_stopped}

-- the machine's step, equation by equation
step_gap : (t : Stage) (b : ℕ) → step (at gap t) b ≡ begin t b (class_of b)
unfolding step
step_gap t b = refl

step_grown : (w : List ℕ) (t : Stage) (b : ℕ) → is_word_byte b ≡ true → grows t ≡ true → step (at (letters w) t) b ≡ at (letters (w ++ (b ∷ []))) t
unfolding step
step_grown w t b e g = rw (e, g, step)

step_ungrown : (w : List ℕ) (t : Stage) (b : ℕ) → is_word_byte b ≡ true → grows t ≡ false → step (at (letters w) t) b ≡ at gap stopped
unfolding step
step_ungrown w t b e g = rw (e, g, step)

step_ended : (w : List ℕ) (t : Stage) (b : ℕ) → is_word_byte b ≡ false → step (at (letters w) t) b ≡ begin (give t (word_of w)) b (class_of b)
unfolding step
step_ended w t b e = rw (e, step)

step_digit : (w : List ℕ) (t : Stage) (b : ℕ) → is_word_byte b ≡ true → is_digit b ≡ true → step (at (numerals w) t) b ≡ at (numerals (w ++ (b ∷ []))) t
unfolding step
step_digit w t b e g = rw (e, g, step)

step_undigit : (w : List ℕ) (t : Stage) (b : ℕ) → is_word_byte b ≡ true → is_digit b ≡ false → step (at (numerals w) t) b ≡ at gap stopped
unfolding step
step_undigit w t b e g = rw (e, g, step)

step_counted : (w : List ℕ) (t : Stage) (b : ℕ) → is_word_byte b ≡ false → step (at (numerals w) t) b ≡ begin (give t (number w)) b (class_of b)
unfolding step
step_counted w t b e = rw (e, step)

step_arrow : (t : Stage) (b : ℕ) → b ≡ 62 → step (at dash t) b ≡ at gap (give t (binary implies))
unfolding step
step_arrow t b e = rw e

step_no_arrow : (t : Stage) (b : ℕ) → (b ≡ 62 → ⊥) → step (at dash t) b ≡ at gap stopped
unfolding step
step_no_arrow t b n = rw (ne_eqb b 62 n, step)

-- a digit as std tests it
pub digit_as : (b : ℕ) (r : Bool) → MatchBool r (IsAsciiDigit b) (IsNotAsciiDigit b) → r ≡ is_digit b
unfolding is_digit
digit_as b r m = grind (arith, nat_tests)

number_code : (w : List ℕ) → code_of (number w) ≡ 1
unfolding code_of
number_code w = refl

arrow_code : code_of (binary implies) ≡ 11
unfolding code_of
arrow_code = refl

module _ (text : List ℕ) (i pending from mode depth : ℕ) (h : i < length text) (s : Sound i from mode depth) where
  stays : Sound (i + 1) from mode depth
  stays = record { live = s.live; shallow = omega (arith, s.shallow); past = omega (arith, s.past) }

  halted : Looks text (i + 1) 0 0 7 0 (at gap stopped)
  unfolding shape mode_number
  halted = (refl, record { mode_is = refl; depth_is = refl })

  more : (w : List ℕ) → take (i - from) (drop from text) ≡ w → take ((i + 1) - from) (drop from text) ≡ w ++ (get_or text i 0 ∷ [])
  more w e =
      let n : (i + 1) - from ≡ suc (i - from) = omega (arith, s.past) in
      let m : from + (i - from) ≡ i = omega (arith, s.past) in
      let l : i - from < length (drop from text) = simp length-drop (omega (arith, s.past)) in
      rw (n, take-suc (drop from text) (i - from) 0 l, get_or-drop from text (i - from) 0, m, e)

  -- nothing is pending
  pub gap_steps : (pending' from' mode' depth' : ℕ) → pending ≡ 0 → Begins text i mode depth pending' from' mode' depth'
      → Steps text i pending from mode depth pending' from' mode' depth'
  gap_steps pending' from' mode' depth' e b = record { sound = b.sound; shows = by }
    where
      by : (u : State) → Looks text i pending from mode depth u → Looks text (i + 1) pending' from' mode' depth' (step u (get_or text i 0))
      by (at gap t) l = rw (step_gap t (get_or text i 0)) (b.shows t l.1)
      by (at (letters w) t) l = absurd (omega (arith, l.0))
      by (at (numerals w) t) l = absurd (omega (arith, l.0))
      by (at dash t) l = absurd (omega (arith, l.0))

  pub gap_stops : pending ≡ 0 → BeginsTo text i mode depth None → StepsTo text i pending from mode depth None
  gap_stops e b = by
    where
      by : (u : State) → Looks text i pending from mode depth u → Looks text (i + 1) 0 0 7 0 (step u (get_or text i 0))
      by (at gap t) l = rw (step_gap t (get_or text i 0)) (b t l.1)
      by (at (letters w) t) l = absurd (omega (arith, l.0))
      by (at (numerals w) t) l = absurd (omega (arith, l.0))
      by (at dash t) l = absurd (omega (arith, l.0))

  pub gap_next : (o : Option Look) → pending ≡ 0 → BeginsTo text i mode depth o → StepsTo text i pending from mode depth o
  gap_next None e b = gap_stops e b
  gap_next (Some l) e b = gap_steps _ _ _ _ e b

  -- letters
  pub letters_more : (r : Bool) → pending ≡ 1 → is_word_byte (get_or text i 0) ≡ true → Grows mode r → r ≡ true → Steps text i pending from mode depth pending from mode depth
  letters_more r e b g z = record { sound = stays; shows = by }
    where
      by : (u : State) → Looks text i pending from mode depth u → Looks text (i + 1) pending from mode depth (step u (get_or text i 0))
      by (at gap t) l = absurd (omega (arith, l.0))
      by (at (letters w) t) l =
          rw (step_grown w t (get_or text i 0) b (sym (g t l.1.mode_is) ∙ z)) (e, l.1, more w l.2)
      by (at (numerals w) t) l = absurd (omega (arith, l.0))
      by (at dash t) l = absurd (omega (arith, l.0))

  pub letters_stop : (r : Bool) → pending ≡ 1 → is_word_byte (get_or text i 0) ≡ true → Grows mode r → r ≡ false → StepsTo text i pending from mode depth None
  letters_stop r e b g z = by
    where
      by : (u : State) → Looks text i pending from mode depth u → Looks text (i + 1) 0 0 7 0 (step u (get_or text i 0))
      by (at gap t) l = absurd (omega (arith, l.0))
      by (at (letters w) t) l = rw (step_ungrown w t (get_or text i 0) b (sym (g t l.1.mode_is) ∙ z)) halted
      by (at (numerals w) t) l = absurd (omega (arith, l.0))
      by (at dash t) l = absurd (omega (arith, l.0))

  pub letters_end : (word mode₁ depth₁ pending' from' mode' depth' : ℕ) → pending ≡ 1 → is_word_byte (get_or text i 0) ≡ false
      → word ≡ code_of (word_of (take (i - from) (drop from text))) → Gives mode depth word mode₁ depth₁ → Begins text i mode₁ depth₁ pending' from' mode' depth'
      → Steps text i pending from mode depth pending' from' mode' depth'
  letters_end word mode₁ depth₁ pending' from' mode' depth' e b c g k = record { sound = k.sound; shows = by }
    where
      by : (u : State) → Looks text i pending from mode depth u → Looks text (i + 1) pending' from' mode' depth' (step u (get_or text i 0))
      by (at gap t) l = absurd (omega (arith, l.0))
      by (at (letters w) t) l =
          rw (step_ended w t (get_or text i 0) b) (k.shows (give t (word_of w)) (g.gives t (word_of w) l.1 (c ∙ ap (λ (x : List ℕ). code_of (word_of x)) l.2)))
      by (at (numerals w) t) l = absurd (omega (arith, l.0))
      by (at dash t) l = absurd (omega (arith, l.0))

  pub letters_next : (word mode₁ depth₁ : ℕ) (o : Option Look) → pending ≡ 1 → is_word_byte (get_or text i 0) ≡ false
      → word ≡ code_of (word_of (take (i - from) (drop from text))) → Gives mode depth word mode₁ depth₁ → BeginsTo text i mode₁ depth₁ o
      → StepsTo text i pending from mode depth o
  letters_next word mode₁ depth₁ None e b c g k = by
    where
      by : (u : State) → Looks text i pending from mode depth u → Looks text (i + 1) 0 0 7 0 (step u (get_or text i 0))
      by (at gap t) l = absurd (omega (arith, l.0))
      by (at (letters w) t) l =
          rw (step_ended w t (get_or text i 0) b) (k (give t (word_of w)) (g.gives t (word_of w) l.1 (c ∙ ap (λ (x : List ℕ). code_of (word_of x)) l.2)))
      by (at (numerals w) t) l = absurd (omega (arith, l.0))
      by (at dash t) l = absurd (omega (arith, l.0))
  letters_next word mode₁ depth₁ (Some m) e b c g k = letters_end word mode₁ depth₁ _ _ _ _ e b c g k

  -- and a word that cannot come there
  pub letters_none : (word : ℕ) → pending ≡ 1 → is_word_byte (get_or text i 0) ≡ false
      → word ≡ code_of (word_of (take (i - from) (drop from text))) → GivesTo mode depth word None → StepsTo text i pending from mode depth None
  letters_none word e b c g = by
    where
      by : (u : State) → Looks text i pending from mode depth u → Looks text (i + 1) 0 0 7 0 (step u (get_or text i 0))
      by (at gap t) l = absurd (omega (arith, l.0))
      by (at (letters w) t) l =
          rw (step_ended w t (get_or text i 0) b) (stays_stopped text (i + 1) (give t (word_of w)) (get_or text i 0) (class_of (get_or text i 0)) (g t (word_of w) l.1 (c ∙ ap (λ (x : List ℕ). code_of (word_of x)) l.2)))
      by (at (numerals w) t) l = absurd (omega (arith, l.0))
      by (at dash t) l = absurd (omega (arith, l.0))

  -- digits
  pub digits_more : pending ≡ 2 → is_word_byte (get_or text i 0) ≡ true → is_digit (get_or text i 0) ≡ true → Steps text i pending from mode depth pending from mode depth
  digits_more e b z = record { sound = stays; shows = by }
    where
      by : (u : State) → Looks text i pending from mode depth u → Looks text (i + 1) pending from mode depth (step u (get_or text i 0))
      by (at gap t) l = absurd (omega (arith, l.0))
      by (at (letters w) t) l = absurd (omega (arith, l.0))
      by (at (numerals w) t) l = rw (step_digit w t (get_or text i 0) b z) (e, l.1)
      by (at dash t) l = absurd (omega (arith, l.0))

  pub digits_stop : pending ≡ 2 → is_word_byte (get_or text i 0) ≡ true → is_digit (get_or text i 0) ≡ false → StepsTo text i pending from mode depth None
  digits_stop e b z = by
    where
      by : (u : State) → Looks text i pending from mode depth u → Looks text (i + 1) 0 0 7 0 (step u (get_or text i 0))
      by (at gap t) l = absurd (omega (arith, l.0))
      by (at (letters w) t) l = absurd (omega (arith, l.0))
      by (at (numerals w) t) l = rw (step_undigit w t (get_or text i 0) b z) halted
      by (at dash t) l = absurd (omega (arith, l.0))

  pub digits_end : (mode₁ depth₁ pending' from' mode' depth' : ℕ) → pending ≡ 2 → is_word_byte (get_or text i 0) ≡ false
      → Gives mode depth 1 mode₁ depth₁ → Begins text i mode₁ depth₁ pending' from' mode' depth' → Steps text i pending from mode depth pending' from' mode' depth'
  digits_end mode₁ depth₁ pending' from' mode' depth' e b g k = record { sound = k.sound; shows = by }
    where
      by : (u : State) → Looks text i pending from mode depth u → Looks text (i + 1) pending' from' mode' depth' (step u (get_or text i 0))
      by (at gap t) l = absurd (omega (arith, l.0))
      by (at (letters w) t) l = absurd (omega (arith, l.0))
      by (at (numerals w) t) l = rw (step_counted w t (get_or text i 0) b) (k.shows (give t (number w)) (g.gives t (number w) l.1 (sym (number_code w))))
      by (at dash t) l = absurd (omega (arith, l.0))

  pub digits_next : (mode₁ depth₁ : ℕ) (o : Option Look) → pending ≡ 2 → is_word_byte (get_or text i 0) ≡ false → Gives mode depth 1 mode₁ depth₁ → BeginsTo text i mode₁ depth₁ o
      → StepsTo text i pending from mode depth o
  digits_next mode₁ depth₁ None e b g k = by
    where
      by : (u : State) → Looks text i pending from mode depth u → Looks text (i + 1) 0 0 7 0 (step u (get_or text i 0))
      by (at gap t) l = absurd (omega (arith, l.0))
      by (at (letters w) t) l = absurd (omega (arith, l.0))
      by (at (numerals w) t) l = rw (step_counted w t (get_or text i 0) b) (k (give t (number w)) (g.gives t (number w) l.1 (sym (number_code w))))
      by (at dash t) l = absurd (omega (arith, l.0))
  digits_next mode₁ depth₁ (Some m) e b g k = digits_end mode₁ depth₁ _ _ _ _ e b g k

  pub digits_none : pending ≡ 2 → is_word_byte (get_or text i 0) ≡ false → GivesTo mode depth 1 None → StepsTo text i pending from mode depth None
  digits_none e b g = by
    where
      by : (u : State) → Looks text i pending from mode depth u → Looks text (i + 1) 0 0 7 0 (step u (get_or text i 0))
      by (at gap t) l = absurd (omega (arith, l.0))
      by (at (letters w) t) l = absurd (omega (arith, l.0))
      by (at (numerals w) t) l =
          rw (step_counted w t (get_or text i 0) b) (stays_stopped text (i + 1) (give t (number w)) (get_or text i 0) (class_of (get_or text i 0)) (g t (number w) l.1 (sym (number_code w))))
      by (at dash t) l = absurd (omega (arith, l.0))

  -- `-`
  pub arrow_steps : (mode' depth' : ℕ) → (pending ≡ 0 → ⊥) → (pending ≡ 1 → ⊥) → (pending ≡ 2 → ⊥) → get_or text i 0 ≡ 62 → Gives mode depth 11 mode' depth'
      → Steps text i pending from mode depth 0 0 mode' depth'
  arrow_steps mode' depth' p q r e g = record { sound = record { live = g.live; shallow = omega (arith, g.near, s.shallow); past = omega arith }; shows = by }
    where
      by : (u : State) → Looks text i pending from mode depth u → Looks text (i + 1) 0 0 mode' depth' (step u (get_or text i 0))
      by (at gap t) l = absurd (p l.0)
      by (at (letters w) t) l = absurd (q l.0)
      by (at (numerals w) t) l = absurd (r l.0)
      by (at dash t) l = rw (step_arrow t (get_or text i 0) e) (refl, g.gives t (binary implies) l.1 (sym arrow_code))

  pub arrow_none : (pending ≡ 0 → ⊥) → (pending ≡ 1 → ⊥) → (pending ≡ 2 → ⊥) → get_or text i 0 ≡ 62 → GivesTo mode depth 11 None → StepsTo text i pending from mode depth None
  arrow_none p q r e g = by
    where
      by : (u : State) → Looks text i pending from mode depth u → Looks text (i + 1) 0 0 7 0 (step u (get_or text i 0))
      by (at gap t) l = absurd (p l.0)
      by (at (letters w) t) l = absurd (q l.0)
      by (at (numerals w) t) l = absurd (r l.0)
      by (at dash t) l = rw (step_arrow t (get_or text i 0) e) (refl, g t (binary implies) l.1 (sym arrow_code))

  pub arrow_stops : (pending ≡ 0 → ⊥) → (pending ≡ 1 → ⊥) → (pending ≡ 2 → ⊥) → (get_or text i 0 ≡ 62 → ⊥) → StepsTo text i pending from mode depth None
  arrow_stops p q r n = by
    where
      by : (u : State) → Looks text i pending from mode depth u → Looks text (i + 1) 0 0 7 0 (step u (get_or text i 0))
      by (at gap t) l = absurd (p l.0)
      by (at (letters w) t) l = absurd (q l.0)
      by (at (numerals w) t) l = absurd (r l.0)
      by (at dash t) l = rw (step_no_arrow t (get_or text i 0) n) halted

-- the end
module _ (text : List ℕ) (pending from mode depth : ℕ) where
  pub gap_ends : (r : Bool) → pending ≡ 0 → MayEnd mode depth r → Ending text pending from mode depth r
  unfolding finish
  gap_ends r e m (at gap t) l = m t l.1
  gap_ends r e m (at (letters w) t) l = absurd (omega (arith, l.0))
  gap_ends r e m (at (numerals w) t) l = absurd (omega (arith, l.0))
  gap_ends r e m (at dash t) l = absurd (omega (arith, l.0))

  pub letters_ends : (r : Bool) (word : ℕ) → pending ≡ 1 → word ≡ code_of (word_of (take (length text - from) (drop from text))) → EndsAfter mode depth word r → Ending text pending from mode depth r
  unfolding finish
  letters_ends r word e c g (at gap t) l = absurd (omega (arith, l.0))
  letters_ends r word e c g (at (letters w) t) l = g t (word_of w) l.1 (c ∙ ap (λ (x : List ℕ). code_of (word_of x)) l.2)
  letters_ends r word e c g (at (numerals w) t) l = absurd (omega (arith, l.0))
  letters_ends r word e c g (at dash t) l = absurd (omega (arith, l.0))

  pub digits_ends : (r : Bool) → pending ≡ 2 → EndsAfter mode depth 1 r → Ending text pending from mode depth r
  unfolding finish
  digits_ends r e g (at gap t) l = absurd (omega (arith, l.0))
  digits_ends r e g (at (letters w) t) l = absurd (omega (arith, l.0))
  digits_ends r e g (at (numerals w) t) l = g t (number w) l.1 (sym (number_code w))
  digits_ends r e g (at dash t) l = absurd (omega (arith, l.0))

  pub dash_ends : (pending ≡ 0 → ⊥) → (pending ≡ 1 → ⊥) → (pending ≡ 2 → ⊥) → Ending text pending from mode depth false
  unfolding finish is_read
  dash_ends p q r (at gap t) l = absurd (p l.0)
  dash_ends p q r (at (letters w) t) l = absurd (q l.0)
  dash_ends p q r (at (numerals w) t) l = absurd (r l.0)
  dash_ends p q r (at dash t) l = refl

-- the end after a word
pub after_ends : (mode depth word mode' depth' : ℕ) (r : Bool) → Gives mode depth word mode' depth' → MayEnd mode' depth' r → EndsAfter mode depth word r
after_ends mode depth word mode' depth' r g m t w s c = m (give t w) (g.gives t w s c)

pub after_none : (mode depth word : ℕ) → GivesTo mode depth word None → EndsAfter mode depth word false
unfolding result is_read
after_none mode depth word g t w s c = rw (stopped_is (give t w) (g t w s c).mode_is)

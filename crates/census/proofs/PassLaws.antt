-- A pass over the words of a rule text: what the words left are to tell, and one word more. Assumes nothing.
use Prim.Native.Nat.{ℕ, ◌≤◌}
use native.Mathlib.Omega.{arith}
use mathlib.Core.Path.{◌≡◌, refl, ap, ◌∙◌}
use mathlib.Core.Bool.{Bool, false}
use mathlib.Core.List.{List, [], ◌∷◌, ◌++◌}
use lib.ListN.{length, drop}
use Rattle.text.specs.Words.{Word, wordy, Spelled}
use Rattle.text.specs.Grammar.{Reading, words, RuleText, HasReading}
use Rattle.text.proofs.RuleTexts.{unique}
use Rattle.spelling.specs.Codes.{mode_after, Spells, First, Next}
use Rattle.std.specs.Prelude.{Some, None}
use Rattle.spelling.specs.declared.words.Taken.{Taken}
use Rattle.spelling.specs.Kinds.{kind_code}
use Rattle.census.specs.Folds.{Event, event_of, events, events_of, Lexed}
use Rattle.census.proofs.EventLaws.{all_events}

-- the words from the place on, with the mode at which they come, and what their events are to tell of the reading
pub record Passing (X : Reading → List Event → Type 0) (text : List ℕ) (at mode : ℕ) : Type 0 where
  pub inside : at ≤ length text
  pub reading : Reading
  pub is : RuleText text reading
  pub left_words : List Word
  pub spells : Spells left_words (drop at text)
  pub left : X reading (events mode left_words)

-- the first of them, and the rest
pub record Stepped (X : Reading → List Event → Type 0) (text : List ℕ) (at mode word from past : ℕ) : Type 0 where
  pub reading : Reading
  pub is : RuleText text reading
  pub w : Word
  pub ws : List Word
  pub first : First text at w ws word from past
  pub left : X reading (event_of mode w ws ++ events (mode_after mode w) ws)

module _ (X : Reading → List Event → Type 0) (text : List ℕ) where
  pub pass_begins : (h : HasReading text) → X h.reading (events_of h.reading) → Passing X text 0 0
  pass_begins h x = record {
    inside = omega arith;
    reading = h.reading;
    is = h.text;
    left_words = words h.reading;
    spells = record { after = false; spelled = h.text.spelled };
    left = rw (all_events h.reading) x;
  }

  module _ (at mode : ℕ) (p : Passing X text at mode) where
    none_tells : p.left_words ≡ [] → X p.reading []
    unfolding events
    none_tells e = rw e at p.left

    -- no word is left
    pub pass_ends : ((v : Bool) (ws : List Word) → Spelled v ws (drop at text) → Next text at ws None) → X p.reading []
    pass_ends n = none_tells (no_more p.left_words (n p.spells.after p.left_words p.spells.spelled))
      where
        no_more : (ws : List Word) → Next text at ws None → ws ≡ []
        no_more [] k = refl
        no_more (w ∷ ws) k = absurd k

    module _ (taken : Taken) (n : (v : Bool) (ws : List Word) → Spelled v ws (drop at text) → Next text at ws (Some taken)) where
      by : (ws : List Word) → p.left_words ≡ ws → Next text at ws (Some taken) → Stepped X text at mode (kind_code taken.word) taken.from taken.past
      unfolding events
      by [] z k = absurd k
      by (w ∷ ws) z k = record { reading = p.reading; is = p.is; w = w; ws = ws; first = k; left = rw z at p.left }

      -- a word comes
      pub pass_steps : Stepped X text at mode (kind_code taken.word) taken.from taken.past
      pass_steps = by p.left_words refl (n p.spells.after p.left_words p.spells.spelled)

-- and the pass goes on
pub pass_on : (X Y : Reading → List Event → Type 0) (text : List ℕ) (at mode word from past mode' : ℕ) (s : Stepped X text at mode word from past) → mode' ≡ mode_after mode s.w
    → Y s.reading (events (mode_after mode s.w) s.ws) → Passing Y text past mode'
pass_on X Y text at mode word from past mode' s e y = record {
  inside = s.first.high;
  reading = s.reading;
  is = s.is;
  left_words = s.ws;
  spells = record { after = wordy s.w; spelled = s.first.rest };
  left = rw e y;
}

-- what is left after the word spells words
pub stepped_lexed : (X : Reading → List Event → Type 0) (text : List ℕ) (at mode word from past : ℕ) → Stepped X text at mode word from past → Lexed text past
stepped_lexed X text at mode word from past s = record { inside = s.first.high; words = s.ws; spells = record { after = wordy s.w; spelled = s.first.rest } }

-- what is told of one reading is told of all
pub of_all : {A : Type 0} (text : List ℕ) (f : Reading) (r : A) (T : Reading → A) → RuleText text f → r ≡ T f → (g : Reading) → RuleText text g → r ≡ T g
of_all text f r T h e g k = e ∙ ap T (unique text f g h k)

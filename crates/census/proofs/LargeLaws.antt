-- Refusal 4, word by word. Assumes nothing.
use Prim.Native.Nat.{ℕ, ◌-◌, ◌≤◌, ◌<◌}
use native.Mathlib.Omega.{arith}
use mathlib.Core.Path.{◌≡◌, refl, sym, ap, ◌∙◌}
use mathlib.Core.Bool.{Bool, true, false, ◌||◌}
use mathlib.Core.List.{List, []}
use lib.ListN.{length, take, drop}
use borrow.Author.Tests.{lt-ltb, le-ltb}
use Rattle.text.specs.Words.{Spelled, Word, bytes_of}
use Rattle.text.specs.Grammar.{Reading, HasReading}
use Rattle.text.specs.Unfold.{atoms, value_after}
use Rattle.text.specs.Translate.{any_atom, too_large}
use Rattle.std.specs.Prelude.{Option, Some, None, is_none}
use Rattle.spelling.specs.declared.words.Taken.{Taken}
use Rattle.spelling.specs.Kinds.{kind_code}
use Rattle.spelling.specs.Codes.{code_of, Next, mode_after, Valued}
use Rattle.census.specs.Folds.{Event, events, large, large_in}
use Rattle.census.specs.Told.{large_code, ToldLarge}
use Rattle.census.proofs.TellLaws.{large_of, large_step}
use Rattle.census.proofs.PassLaws.{Passing, Stepped, pass_begins, pass_ends, pass_steps, pass_on, of_all}

pub large_value : (bs : List ℕ) (o : Option ℕ) → Valued (value_after 0 bs) o → is_none o ≡ large bs
unfolding large
large_value bs None v = sym (lt-ltb 4294967295 (value_after 0 bs) (omega arith))
large_value bs (Some n) v = sym (le-ltb 4294967295 (value_after 0 bs) (omega (arith, v.0, v.1)))

same_code : (a b : ℕ) (x y : List ℕ) → a ≡ b → x ≡ y → large_code a x ≡ large_code b y
same_code a b x y e z = rw (e, z)

-- the events left tell it
abbrev pub Large : Reading → List Event → Type 0
Large f es = any_atom (λ a. too_large a.terms) (atoms f) ≡ large_in es

-- the pass, its mode being of no concern
pub record Seeking (text : List ℕ) (at : ℕ) : Type 0 where
  pub mode : ℕ
  pub pass : Passing Large text at mode

pub seek_begins : (text : List ℕ) → HasReading text → Seeking text 0
seek_begins text h = record { mode = 0; pass = pass_begins Large text h (large_of h.reading) }

module _ (text : List ℕ) (at : ℕ) (s : Seeking text at) where
  none : Large s.pass.reading [] → ToldLarge text false
  none x = of_all text s.pass.reading false (λ f. any_atom (λ a. too_large a.terms) (atoms f)) s.pass.is (sym (unfold large_in in x))

  pub seek_ends : ((v : Bool) (ws : List Word) → Spelled v ws (drop at text) → Next text at ws None) → ToldLarge text false
  seek_ends l = none (pass_ends Large text at s.mode s.pass l)

  module _ (taken : Taken) (n : (v : Bool) (ws : List Word) → Spelled v ws (drop at text) → Next text at ws (Some taken)) where
    stepped : Stepped Large text at s.mode (kind_code taken.word) taken.from taken.past
    stepped = pass_steps Large text at s.mode s.pass taken n

    pub seek_inside : (taken.from ≤ taken.past) × (taken.past ≤ length text) × (at < taken.past)
    seek_inside = (omega (arith, stepped.first.long), stepped.first.high, omega (arith, stepped.first.low, stepped.first.long))

    told : any_atom (λ a. too_large a.terms) (atoms stepped.reading)
        ≡ (large_code (kind_code taken.word) (take (taken.past - taken.from) (drop taken.from text)) || large_in (events (mode_after s.mode stepped.w) stepped.ws))
    told =
        stepped.left ∙ large_step s.mode stepped.w stepped.ws (events (mode_after s.mode stepped.w) stepped.ws)
        ∙ ap (λ (b : Bool). b || large_in (events (mode_after s.mode stepped.w) stepped.ws))
        (same_code (code_of stepped.w) (kind_code taken.word) (bytes_of stepped.w) (take (taken.past - taken.from) (drop taken.from text)) (sym stepped.first.code_is) (sym stepped.first.bytes_are))

    pub seek_found : (r : Bool) → r ≡ large_code (kind_code taken.word) (take (taken.past - taken.from) (drop taken.from text)) → r ≡ true → ToldLarge text true
    seek_found r l z =
        of_all text stepped.reading true (λ f. any_atom (λ a. too_large a.terms) (atoms f)) stepped.is
        (sym (told ∙ rw (← l, z)))

    pub seek_more : (r : Bool) → r ≡ large_code (kind_code taken.word) (take (taken.past - taken.from) (drop taken.from text)) → r ≡ false → Seeking text taken.past
    seek_more r l z = record {
      mode = mode_after s.mode stepped.w;
      pass = pass_on Large Large text at s.mode (kind_code taken.word) taken.from taken.past (mode_after s.mode stepped.w) stepped refl ((told ∙ rw (← l, z)));
    }

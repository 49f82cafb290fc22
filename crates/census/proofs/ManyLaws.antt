-- Refusal 5, word by word. Assumes nothing.
use Prim.Native.Nat.{ℕ, ◌<◌}
use native.Mathlib.Omega.{arith}
use mathlib.Core.Path.{◌≡◌, sym, ap, ◌∙◌}
use mathlib.Core.Bool.{Bool, true, false, ◌&&◌, ◌||◌}
use mathlib.Core.List.{List, []}
use lib.Dec.{eqb, ltb}
use lib.ListN.{drop}
use Rattle.text.specs.Words.{Spelled, Word, wordy}
use Rattle.text.specs.Grammar.{Reading, HasReading}
use Rattle.text.specs.Unfold.{atoms}
use Rattle.text.specs.Translate.{any_atom, too_many}
use Rattle.std.specs.Prelude.{Some, None}
use Rattle.spelling.specs.declared.words.Taken.{Taken}
use Rattle.spelling.specs.Kinds.{kind_code}
use Rattle.spelling.specs.Codes.{code_of, next_mode, Next, mode_after}
use Rattle.spelling.proofs.KindLaws.{next_is}
use Rattle.census.specs.Folds.{Event, Lexed, events, many_in, arguments_in}
use Rattle.census.specs.Told.{Wide, ToldMany}
use Rattle.census.proofs.TellLaws.{many_of, many_step}
use Rattle.census.proofs.PassLaws.{Passing, Stepped, pass_begins, pass_ends, pass_steps, pass_on, stepped_lexed, of_all}

-- the events left tell it
abbrev pub Many : Reading → List Event → Type 0
Many f es = any_atom (λ a. too_many a.terms) (atoms f) ≡ many_in es

pub record Scanning (text : List ℕ) (at mode : ℕ) : Type 0 where
  pub pass : Passing Many text at mode

pub many_begins : (text : List ℕ) → HasReading text → Scanning text 0 0
many_begins text h = record { pass = pass_begins Many text h (many_of h.reading) }

same_name : (a b m : ℕ) (ws : List Word) → a ≡ b → ((eqb m 0 && eqb a 0) && ltb 3 (arguments_in ws)) ≡ ((eqb m 0 && eqb b 0) && ltb 3 (arguments_in ws))
same_name a b m ws e = rw e

module _ (text : List ℕ) (at mode : ℕ) (s : Scanning text at mode) where
  none : Many s.pass.reading [] → ToldMany text false
  none x = of_all text s.pass.reading false (λ f. any_atom (λ a. too_many a.terms) (atoms f)) s.pass.is (sym (unfold many_in in x))

  pub many_ends : ((v : Bool) (ws : List Word) → Spelled v ws (drop at text) → Next text at ws None) → ToldMany text false
  many_ends l = none (pass_ends Many text at mode s.pass l)

  module _ (taken : Taken) (n : (v : Bool) (ws : List Word) → Spelled v ws (drop at text) → Next text at ws (Some taken)) where
    stepped : Stepped Many text at mode (kind_code taken.word) taken.from taken.past
    stepped = pass_steps Many text at mode s.pass taken n

    pub many_lexed : Lexed text taken.past
    many_lexed = stepped_lexed Many text at mode (kind_code taken.word) taken.from taken.past stepped

    pub many_grows : at < taken.past
    many_grows = omega (arith, stepped.first.low, stepped.first.long)

    told : (r : Bool) → Wide text mode (kind_code taken.word) taken.past r
        → any_atom (λ a. too_many a.terms) (atoms stepped.reading) ≡ (r || many_in (events (mode_after mode stepped.w) stepped.ws))
    told r k =
        let z : r ≡ ((eqb mode 0 && eqb (kind_code taken.word) 0) && ltb 3 (arguments_in stepped.ws)) = k stepped.ws (record { after = wordy stepped.w; spelled = stepped.first.rest }) in
        stepped.left ∙ many_step mode stepped.w stepped.ws (events (mode_after mode stepped.w) stepped.ws)
        ∙ ap (λ (b : Bool). b || many_in (events (mode_after mode stepped.w) stepped.ws))
        (same_name (code_of stepped.w) (kind_code taken.word) mode stepped.ws (sym stepped.first.code_is) ∙ sym z)

    pub many_found : (r : Bool) → Wide text mode (kind_code taken.word) taken.past r → r ≡ true → ToldMany text true
    many_found r k z =
        of_all text stepped.reading true (λ f. any_atom (λ a. too_many a.terms) (atoms f)) stepped.is (sym (told r k ∙ rw z))

    pub many_more : (r : Bool) (mode' : ℕ) → Wide text mode (kind_code taken.word) taken.past r → r ≡ false → mode' ≡ next_mode mode (kind_code taken.word) → Scanning text taken.past mode'
    many_more r mode' k z q =
        let m : mode' ≡ mode_after mode stepped.w = q ∙ ap (next_mode mode) stepped.first.code_is ∙ next_is mode stepped.w in
        record { pass = pass_on Many Many text at mode (kind_code taken.word) taken.from taken.past mode' stepped m ((told r k ∙ rw z)) }

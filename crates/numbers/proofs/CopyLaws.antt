-- Laws of the copy that an event's answer is made of: a fact's numbers go to their places. Assumes nothing.
use Prim.Native.Nat.{ℕ, ◌+◌, ◌-◌, ◌*◌, ◌<◌}
use mathlib.Core.Path.{◌≡◌, ap, sym, ◌∙◌}
use mathlib.Core.List.{List, ◌++◌}
use mathlib.Core.Logic.{⊎_elim}
use native.Mathlib.Omega.{arith}
use lib.ListN.{length, get_or, take, drop, get_or-append}
use lib.Seq.{get_or-append-add, get_or-take, get_or-drop, length-take-le}
use borrow.Rule.Slice.PartMut.{put_mid, mid_len, same_len_mid}
use Rattle.std.specs.Prelude.{Option, None}
use Rattle.making.specs.declared.Number.{Number}
use Rattle.numbers.specs.Asking.{Put}
use Rattle.trees.proofs.Tests.{lt_or_ge}

-- twelve numbers in the place of those from 12 * f on
module _ (f : ℕ) (numbers given : List (Option Number)) (hf : f < 8) (size : length given ≡ 96) (dozen : length numbers ≡ 12) where
  abbrev r : List (Option Number)
  r = put_mid (12 * f) (12 * f + 12 - 12 * f) given numbers

  abbrev rest : List (Option Number)
  rest = drop (12 * f + 12 - 12 * f) (drop (12 * f) given)

  front : length (take (12 * f) given) ≡ 12 * f
  front = length-take-le (12 * f) given (omega arith)

  below : (i : ℕ) → i < 12 * f → get_or r i None ≡ get_or given i None
  below i h =
      get_or-append (take (12 * f) given) (numbers ++ rest) None i (omega (arith, front))
      ∙ get_or-take (12 * f) given i None h

  within : (i : ℕ) → get_or r (12 * f + i) None ≡ get_or (numbers ++ rest) i None
  within i =
      ap (λ (k : ℕ). get_or r (k + i) None) (sym front)
      ∙ get_or-append-add (take (12 * f) given) (numbers ++ rest) i None

  behind : (i : ℕ) → get_or r (12 * f + (12 + i)) None ≡ get_or given (12 * f + (12 + i)) None
  behind i =
      within (12 + i)
      ∙ ap (λ (k : ℕ). get_or (numbers ++ rest) (k + i) None) (sym dozen)
      ∙ get_or-append-add numbers rest i None
      ∙ get_or-drop (12 * f + 12 - 12 * f) (drop (12 * f) given) i None
      ∙ get_or-drop (12 * f) given (12 * f + 12 - 12 * f + i) None
      ∙ ap (λ (k : ℕ). get_or given k None) (omega arith)

  pub put_twelve : Put f numbers given r
  put_twelve = record {
    size = same_len_mid (12 * f) (12 * f + 12 - 12 * f) given numbers (dozen ∙ sym (mid_len (12 * f) (12 * f + 12) given (omega arith) ∙ omega arith));
    here = λ t h. within t ∙ get_or-append numbers rest None t (omega (arith, dozen));
    there = λ g t e h. ⊎_elim
        (λ l. below (12 * g + t) (omega (arith, e)))
        (λ l.
        let z : 12 * g + t ≡ 12 * f + (12 + (12 * g + t - (12 * f + 12))) = omega (arith, e) in
        rw z (behind (12 * g + t - (12 * f + 12))))
        (lt_or_ge g f);
  }

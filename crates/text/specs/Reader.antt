-- The reader: the machine of words, driven by bytes. A word of letters, digits and `_` is pending until another byte ends it.
-- Part of the machine, not of the meaning. Assumes nothing: these are definitions.
use Rattle.std.specs.Prelude.{ℕ, zero, suc, Bool, true, false, List, [], ◌∷◌, ◌++◌, eqb}
use Rattle.text.specs.Words.{is_letter, is_digit, is_word_byte, same, Word, number, prefix, binary, opening, closing, comma, dot, previously, negation, ands, ors, implies, bytes_of, word_of}
use Rattle.text.specs.Machine.{Stage, wants, ended, named, binds, bound, argues, argued, stopped, give, Result, refused, result}

-- what is pending: nothing; letters, digits and `_`; digits; `-`
pub data Pending : Type 0 where
  gap : Pending
  letters numerals : List ℕ → Pending
  dash : Pending

-- the machine between two bytes
pub data State : Type 0 where
  at : Pending → Stage → State

-- what a byte can begin: nothing (a space), a word of letters, a constant, `->`, a word of one sign
pub data Class : Type 0 where
  blank letter digit minus : Class
  sign : Word → Class
  foreign : Class

-- the words of one sign
unfoldable pub signs : List Word
signs =
    prefix previously ∷ prefix negation ∷ binary ands ∷ binary ors ∷ opening ∷ closing ∷ comma ∷ dot ∷ []

unfoldable pub sign_among : List Word → ℕ → Class
sign_among [] b = foreign
sign_among (w ∷ ws) b = elim (same (b ∷ []) (bytes_of w)) [ true ↦ sign w | false ↦ sign_among ws b ]

unfoldable pub class_of : ℕ → Class
class_of b =
    elim (is_letter b) [
      | true ↦ letter
      | false ↦ elim (is_digit b) [
        | true ↦ digit
        | false ↦
            elim (eqb b 32) [ true ↦ blank | false ↦ elim (eqb b 45) [ true ↦ minus | false ↦ sign_among signs b ] ]
      ]
    ]

-- a word of letters may come, of one letter or more
unfoldable pub grows : Stage → Bool
grows (wants ks) = true
grows (ended f ks) = false
grows (named p ks) = false
grows (binds q ks) = true
grows (bound q x ks) = false
grows (argues p gs ks) = true
grows (argued p gs ks) = false
grows stopped = false

-- an operator may come
unfoldable pub joins : Stage → Bool
joins (wants ks) = false
joins (ended f ks) = true
joins (named p ks) = true
joins (binds q ks) = false
joins (bound q x ks) = false
joins (argues p gs ks) = false
joins (argued p gs ks) = false
joins stopped = false

-- a constant may come
unfoldable pub counts : Stage → Bool
counts (wants ks) = false
counts (ended f ks) = false
counts (named p ks) = false
counts (binds q ks) = false
counts (bound q x ks) = false
counts (argues p gs ks) = true
counts (argued p gs ks) = false
counts stopped = false

-- a letter comes where nothing is pending: where an operator may come, the letter is `S`
unfoldable pub lead : Bool → Bool → ℕ → Stage → State
lead true j b t = at (letters (b ∷ [])) t
lead false true b t = elim (eqb b 83) [ true ↦ at (letters (b ∷ [])) t | false ↦ at gap stopped ]
lead false false b t = at gap stopped

-- a byte of the class comes where nothing is pending
unfoldable pub begin : Stage → ℕ → Class → State
begin t b blank = at gap t
begin t b letter = lead (grows t) (joins t) b t
begin t b digit = elim (counts t) [ true ↦ at (numerals (b ∷ [])) t | false ↦ at gap stopped ]
begin t b minus = elim (joins t) [ true ↦ at dash t | false ↦ at gap stopped ]
begin t b (sign w) = at gap (give t w)
begin t b foreign = at gap stopped

-- a byte comes
unfoldable pub step : State → ℕ → State
step (at gap t) b = begin t b (class_of b)
step (at (letters w) t) b =
    elim (is_word_byte b) [
      | true ↦ elim (grows t) [ true ↦ at (letters (w ++ (b ∷ []))) t | false ↦ at gap stopped ]
      | false ↦ begin (give t (word_of w)) b (class_of b)
    ]
step (at (numerals w) t) b =
    elim (is_word_byte b) [
      | true ↦ elim (is_digit b) [ true ↦ at (numerals (w ++ (b ∷ []))) t | false ↦ at gap stopped ]
      | false ↦ begin (give t (number w)) b (class_of b)
    ]
step (at dash t) b = elim (eqb b 62) [ true ↦ at gap (give t (binary implies)) | false ↦ at gap stopped ]

-- the bytes come one after the other
unfoldable pub run : State → List ℕ → State
run s [] = s
run s (b ∷ bs) = run (step s b) bs

-- the end comes
unfoldable pub finish : State → Result
finish (at gap t) = result t
finish (at (letters w) t) = result (give t (word_of w))
finish (at (numerals w) t) = result (give t (number w))
finish (at dash t) = refused

-- nothing is read yet
unfoldable pub start : State
start = at gap (wants [])

-- what the bytes read as
unfoldable pub read : List ℕ → Result
read bytes = finish (run start bytes)

-- the state has stopped
unfoldable pub halted : Stage → Bool
halted (wants ks) = false
halted (ended f ks) = false
halted (named p ks) = false
halted (binds q ks) = false
halted (bound q x ks) = false
halted (argues p gs ks) = false
halted (argued p gs ks) = false
halted stopped = true

unfoldable pub dead : State → Bool
dead (at gap t) = halted t
dead (at (letters w) t) = false
dead (at (numerals w) t) = false
dead (at dash t) = false

-- how many bytes come before the one at which the reader stops
unfoldable pub place_from : State → List ℕ → ℕ
place_from s [] = zero
place_from s (b ∷ bs) = elim (dead (step s b)) [ true ↦ zero | false ↦ suc (place_from (step s b) bs) ]

unfoldable pub place_of : List ℕ → ℕ
place_of bytes = place_from start bytes

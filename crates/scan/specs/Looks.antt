-- What the scan keeps between two bytes, and what it shows of the machine's state. Assumes nothing.
use Rattle.std.specs.Prelude.{ℕ, ◌+◌, ◌-◌, ◌*◌, ◌≤◌, ◌≡◌, Bool, true, false, List, [], ◌∷◌, length, take, drop, get_or, Option, Some, None}
use Rattle.text.specs.Words.{Word}
use Rattle.text.specs.Machine.{Stage, stopped, give, result}
use Rattle.text.specs.Reader.{gap, letters, numerals, dash, State, at, class_of, grows, joins, begin, step, finish, letter}
use Rattle.text.specs.Shape.{shape, is_read}
use Rattle.scan.specs.declared.looks.Shape.{Shape}
use Rattle.scan.specs.declared.looks.Look.{Look}
use Rattle.scan.specs.Pending.{pending_code, from_code}
use Rattle.spelling.specs.Modes.{mode_code}
use Rattle.spelling.specs.Codes.{code_of, mode_number}

-- the mode and the depth of a stage
pub record Shaped (mode depth : ℕ) (t : Stage) : Type 0 where
  pub mode_is : mode ≡ mode_number (shape t).mode
  pub depth_is : depth ≡ (shape t).depth

-- the numbers are in their ranges after so many bytes, and the machine has not stopped; with one byte two words may come
pub record Sound (i from mode depth : ℕ) : Type 0 where
  pub live : mode ≡ 7 → ⊥
  pub shallow : depth ≤ 2 * i
  pub past : from ≤ i

-- the numbers show the state after i bytes of the text
abbrev pub Looks : List ℕ → ℕ → ℕ → ℕ → ℕ → ℕ → State → Type 0
Looks text i pending from mode depth (at gap t) = (pending ≡ 0) × Shaped mode depth t
Looks text i pending from mode depth (at (letters w) t) = (pending ≡ 1) × Shaped mode depth t × (take (i - from) (drop from text) ≡ w)
Looks text i pending from mode depth (at (numerals w) t) = (pending ≡ 2) × Shaped mode depth t
Looks text i pending from mode depth (at dash t) = (pending ≡ 3) × Shaped mode depth t

-- a word comes
pub record Gives (mode depth word mode' depth' : ℕ) : Type 0 where
  pub live : mode' ≡ 7 → ⊥
  pub near : depth' ≤ depth + 1
  pub gives : (t : Stage) (w : Word) → Shaped mode depth t → word ≡ code_of w → Shaped mode' depth' (give t w)

abbrev pub GivesTo : ℕ → ℕ → ℕ → Option Shape → Type 0
GivesTo mode depth word None = (t : Stage) (w : Word) → Shaped mode depth t → word ≡ code_of w → Shaped 7 0 (give t w)
GivesTo mode depth word (Some s) = Gives mode depth word (mode_code s.mode) s.depth

-- a byte comes where nothing is pending
pub record Begins (text : List ℕ) (i mode depth pending' from' mode' depth' : ℕ) : Type 0 where
  pub sound : Sound (i + 1) from' mode' depth'
  pub shows : (t : Stage) → Shaped mode depth t → Looks text (i + 1) pending' from' mode' depth' (begin t (get_or text i 0) (class_of (get_or text i 0)))

abbrev pub BeginsTo : List ℕ → ℕ → ℕ → ℕ → Option Look → Type 0
BeginsTo text i mode depth None = (t : Stage) → Shaped mode depth t → Looks text (i + 1) 0 0 7 0 (begin t (get_or text i 0) (class_of (get_or text i 0)))
BeginsTo text i mode depth (Some l) = Begins text i mode depth (pending_code l.pending) (from_code l.pending) (mode_code l.shape.mode) l.shape.depth

-- a byte comes
pub record Steps (text : List ℕ) (i pending from mode depth pending' from' mode' depth' : ℕ) : Type 0 where
  pub sound : Sound (i + 1) from' mode' depth'
  pub shows : (s : State) → Looks text i pending from mode depth s → Looks text (i + 1) pending' from' mode' depth' (step s (get_or text i 0))

abbrev pub StepsTo : List ℕ → ℕ → ℕ → ℕ → ℕ → ℕ → Option Look → Type 0
StepsTo text i pending from mode depth None = (s : State) → Looks text i pending from mode depth s → Looks text (i + 1) 0 0 7 0 (step s (get_or text i 0))
StepsTo text i pending from mode depth (Some l) = Steps text i pending from mode depth (pending_code l.pending) (from_code l.pending) (mode_code l.shape.mode) l.shape.depth

-- what may come at a stage with the mode: an operator; a word of letters; one that begins with the letter; the end
abbrev pub Joins : ℕ → Bool → Type 0
Joins mode r = (t : Stage) → mode ≡ mode_number (shape t).mode → r ≡ joins t

abbrev pub Grows : ℕ → Bool → Type 0
Grows mode r = (t : Stage) → mode ≡ mode_number (shape t).mode → r ≡ grows t

pub record Leads (mode b : ℕ) (r : Bool) : Type 0 where
  pub yes : (t : Stage) → mode ≡ mode_number (shape t).mode → r ≡ true → begin t b letter ≡ at (letters (b ∷ [])) t
  pub no : (t : Stage) → mode ≡ mode_number (shape t).mode → r ≡ false → begin t b letter ≡ at gap stopped

abbrev pub MayEnd : ℕ → ℕ → Bool → Type 0
MayEnd mode depth r = (t : Stage) → Shaped mode depth t → r ≡ is_read (result t)

-- the end comes after a word
abbrev pub EndsAfter : ℕ → ℕ → ℕ → Bool → Type 0
EndsAfter mode depth word r = (t : Stage) (w : Word) → Shaped mode depth t → word ≡ code_of w → r ≡ is_read (result (give t w))

-- the end comes
abbrev pub Ending : List ℕ → ℕ → ℕ → ℕ → ℕ → Bool → Type 0
Ending text pending from mode depth r = (s : State) → Looks text (length text) pending from mode depth s → r ≡ is_read (finish s)

-- The theorems on rules typed as text, for any bytes and any row slice. Each is a sentence of request A1, proved where it says. Assumes nothing.
use Prim.Native.Nat.{ℕ, ◌≤◌}
use mathlib.Core.Path.{◌≡◌, refl, sym, ◌∙◌}
use mathlib.Core.List.{List}
use lib.ListN.{length}
use Rattle.text.specs.Grammar.{Reading, RuleText, Place}
use Rattle.text.specs.Machine.{reads}
use Rattle.text.specs.Reader.{read}
use Rattle.text.specs.Translate.{Answer, refuses, makes, answer_of, Says, a_text}
use Rattle.text.specs.Translator.{translate}
use Rattle.text.proofs.RuleTexts
use Rattle.text.proofs.Translations.{Made, made, NoText, three, says, says_translate}

-- what the machine reads is a reading of the text
pub correct : (bytes : List ℕ) (f : Reading) → read bytes ≡ reads f → RuleText bytes f
correct bytes f e = RuleTexts.correct bytes f e

-- every reading of a text is what the machine reads
pub complete : (bytes : List ℕ) (f : Reading) → RuleText bytes f → read bytes ≡ reads f
complete bytes f h = RuleTexts.complete bytes f h

-- "the grammar's reading being unique"
pub unambiguous : (bytes : List ℕ) (f g : Reading) → RuleText bytes f → RuleText bytes g → f ≡ g
unambiguous bytes f g h k = RuleTexts.unique bytes f g h k

-- every call has an answer, and two answers are the same: refusals come in 02's order
pub answered : (size : ℕ) (bytes : List ℕ) → Says size bytes (translate size bytes)
answered size bytes = says size bytes

pub one_answer : {size : ℕ} {bytes : List ℕ} {a b : Answer} → Says size bytes a → Says size bytes b → a ≡ b
one_answer s t = sym (says_translate s) ∙ says_translate t

-- a text is taken exactly if it is a rule text to which none of 4 to 9 applies
pub taken : (bytes : List ℕ) (f : Reading) (a : Answer) → length bytes ≤ 4096 → RuleText bytes f → Says 576 bytes a → a ≡ answer_of f
taken bytes f a l h s = one_answer s (a_text refl l f h)

-- "The rows must mean the text's formula": start finds the rows right, and the last row's formula is the text's
pub meant : {size : ℕ} {bytes ns : List ℕ} {n : ℕ} {ps vs : List (List ℕ)} → Says size bytes (makes ns n ps vs) → Made bytes ns n ps vs
meant {size} {bytes} {ns} {n} {ps} {vs} s = made size bytes ns n ps vs (says_translate s)

-- refusal 3: no rule text, and "the place of the first byte (or the end) at which no rule text can go on": a rule text begins with the bytes
-- before it, and none begins with these and the byte at it
pub place : {size : ℕ} {bytes : List ℕ} {i : ℕ} → Says size bytes (refuses 3 i) → NoText bytes i
place {size} {bytes} {i} s = three size bytes i (says_translate s)

-- there is one such place
pub one_place : (bytes : List ℕ) (i j : ℕ) → Place bytes i → Place bytes j → i ≡ j
one_place bytes i j p q = RuleTexts.place_same bytes i j p q

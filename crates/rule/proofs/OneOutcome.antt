-- Two outcomes that keep the promise of a public function are the same. Assumes nothing.
use Prim.Native.Nat.{ℕ, ◌%◌, ◌<◌}
use mathlib.Core.Path.{◌≡◌, ap, sym, ◌∙◌}
use mathlib.Core.Bool.{Bool}
use mathlib.Core.List.{List}
use mathlib.Core.Logic.{⊎_elim}
use native.Mathlib.Omega.{arith}
use lib.ListN.{length, get_or}
use lib.Seq.{ext_get_or}
use Rattle.trees.proofs.Tests.{lt_or_ge}
use Rattle.meaning.specs.declared.Event.{Event}
use Rattle.std.specs.Prelude.{Result, Ok, Err}
use Rattle.meaning.specs.Rows.{count_of_rows}
use Rattle.rule.specs.declared.Fault.{Fault}
use Rattle.rule.specs.declared.Row.{Row}
use Rattle.rule.specs.Decoded.{Decodes}
use Rattle.rule.specs.Masks.{has_bit}
use Rattle.rule.specs.Checking.{Free, Checks, Agrees}
use Rattle.rule.proofs.MasksLaws.{mask_has, mask_same}

-- two masks with the same bits
mask_one : (m n : ℕ) → m < 16 → n < 16 → ((v : ℕ) → v < 4 → has_bit m v ≡ has_bit n v) → m ≡ n
mask_one m n h k e =
    let p : m % 16 ≡ n % 16 = sym (mask_has m) ∙ mask_same (has_bit m) (has_bit n) e ∙ mask_has n in
    omega arith

-- the masks of a right rule
masks_one : (raw xs ys : List ℕ) → length xs ≡ length ys → Free raw xs → Free raw ys → xs ≡ ys
masks_one raw xs ys l a b = ext_get_or 0 xs ys l (λ i h. ⊎_elim
    (λ k. mask_one (get_or xs i 0) (get_or ys i 0) (a.small i) (b.small i) (λ v q. a.bits i v k q ∙ sym (b.bits i v k q)))
    (λ k. a.rest i k ∙ sym (b.rest i k))
    (lt_or_ge i (count_of_rows raw)))

-- `check`
pub one_outcome : (raw : List ℕ) (r s : Result (List ℕ) Fault) → Checks raw r → Checks raw s → r ≡ s
one_outcome raw (Ok xs) (Ok ys) a b = ap (λ (zs : List ℕ). Ok zs) (masks_one raw xs ys (a.1 ∙ sym b.1) a.2 b.2)
one_outcome raw (Ok xs) (Err f) a b = let e = sym a.0 ∙ b in cc
one_outcome raw (Err f) (Ok ys) a b = let e = sym b.0 ∙ a in cc
one_outcome raw (Err f) (Err g) a b =
    let e = sym a ∙ b in
    let z : f.row ≡ g.row = cc in
    ap (λ (p : ℕ). Err (record { row = p })) z

-- `row_at`
pub one_row : (raw : List ℕ) (i : ℕ) (r s : Row) → Decodes raw i r → Decodes raw i s → r ≡ s
one_row raw i r s a b = a.whole ∙ sym b.whole

-- `agrees`
pub one_answer : (raw : List ℕ) (e : Event) (a b : Bool) → Agrees raw e a → Agrees raw e b → a ≡ b
one_answer raw e a b f g = f ∙ sym g

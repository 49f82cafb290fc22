use Prim.Native.Nat.{ℕ, ◌+◌, ◌%◌, ◌≤◌, ◌<◌}
use native.Mathlib.Omega.{arith}
use native.Mathlib.Numerals.{add-one}
use mathlib.Core.Path.{◌≡◌, refl, sym, ap, ◌∙◌}
use mathlib.Core.List.{List, [], ◌∷◌}
use lib.ListN.{length, drop}
use lib.Seq.{drop-cons, drop-length}
use Rattle.cards.specs.Bytes.{sums, check}
use Rattle.card_block.proofs.sums.check_of.Invariants.{Sofar}
use Rattle.card_block.proofs.sums.check_of.Goals as goal

begins : (bytes : List ℕ) → Sofar bytes 0 0 0
unfolding check
begins bytes = record { within = omega arith; first = omega arith; second = omega arith; leads = refl }

goes_on : (bytes : List ℕ) (a b i x : ℕ) → i < length bytes → x ≡ lib.ListN.get_or bytes i 0 → Sofar bytes a b i
    → Sofar bytes ((a + x) % 255) ((b + (a + x) % 255) % 255) (i + 1)
unfolding sums
goes_on bytes a b i x h e s = record {
  within = omega arith;
  first = omega arith;
  second = omega arith;
  leads = rw (add-one, e) (ap (sums a b) (sym (drop-cons bytes i 0 h)) ∙ s.leads);
}

ends : (bytes : List ℕ) (a b i : ℕ) → length bytes ≤ i → Sofar bytes a b i → check bytes ≡ a ∷ b ∷ []
unfolding sums
ends bytes a b i h s =
    let all : i ≡ length bytes = omega (arith, s.within) in
    sym s.leads ∙ rw (all, drop-length bytes)

pub loop-byte-init : goal.loop-byte-init
loop-byte-init c = begins _

pub loop-byte-preserved : goal.loop-byte-preserved
loop-byte-preserved c = goes_on _ _ _ _ _ c.loop-byte-test.true c.from.ensures c.loop-byte.invariant

pub returns : goal.returns
returns c = ends _ _ _ _ (omega arith) c.loop-byte.invariant

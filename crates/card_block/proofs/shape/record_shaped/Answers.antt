-- `record_shaped` meets its contract. Assumes nothing.
use Prim.Native.Nat.{ℕ, ◌+◌, ◌-◌, ◌*◌}
use mathlib.Core.Path.{◌≡◌, ap, ◌∙◌}
use mathlib.Core.List.{List}
use lib.ListN.{length, take, drop, get_or}
use lib.Seq.{take_all}
use Rattle.std.proofs.Common.{arith, length-drop}
use Rattle.card_block.specs.Shapes.{unused, record_shaped}
use Rattle.card_block.proofs.shape.record_shaped.Goals as goal

past : (s : List ℕ) (k n : ℕ) → k ≡ n → unused (take (length s - (12 + 4 * k)) (drop (12 + 4 * k) s)) ≡ unused (drop (12 + 4 * n) s)
past s k n e = rw e (ap unused (take_all _ (drop (12 + 4 * n) s) (omega (arith, length-drop (12 + 4 * n) s))))

pub returns-then-bytes-eq0-2 : goal.returns-then-bytes-eq0-2
unfolding record_shaped
returns-then-bytes-eq0-2 c =
    let rest : c.zeros.result ≡ unused (drop (12 + 4 * get_or c.args.bytes.now 8 0) c.args.bytes.now) = c.zeros.ensures ∙ past c.args.bytes.now _ _ c.from.ensures in
    grind arith

pub returns-else-bytes-eq0-2 : goal.returns-else-bytes-eq0-2
unfolding record_shaped
returns-else-bytes-eq0-2 c = grind arith

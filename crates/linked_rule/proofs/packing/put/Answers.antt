-- `packing::put` meets its contract. Assumes nothing.
use mathlib.Core.Path.{ap, ◌∙◌}
use Prim.Native.Nat.{ℕ}
use lib.ListN.{replicate}
use Rattle.std.specs.Prelude.{Ok}
use Rattle.linked_rule.specs.Ruling.{Small}
use Rattle.linked_rule.proofs.RulingLaws.{refused_put, taken_put}
use Rattle.linked_rule.proofs.packing.put.Goals as goal

pub returns-in-Err : goal.returns-in-Err
returns-in-Err c = rw c.in-Err.is (refused_put _ _ _ _ (c.fill.ensures.after (λ y e. e) ∙ ap (λ (k : ℕ). replicate k 0) c.requires.long) c.number_and_place-number.ensures.0 c.number_and_place-number.ensures.1)

pub returns-in-Ok : goal.returns-in-Ok
returns-in-Ok c =
    let s : Small (Ok c.in-Ok.t) = rw c.in-Ok.is at c.requires.small in
    rw c.in-Ok.is (taken_put _ _ _ _ (c.fill.ensures.after (λ y e. e) ∙ ap (λ (k : ℕ). replicate k 0) c.requires.long) s.3 s.4 c.put_names.ensures c.put_names-in-Ok.ensures)

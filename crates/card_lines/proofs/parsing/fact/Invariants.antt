-- No more values are counted than were looked for.
use Rattle.std.proofs.Common.{◌≤◌}
use Rattle.card_lines.proofs.parsing.fact.Given as goal

abbrev pub invariant-loop-place : goal.invariant-loop-place
invariant-loop-place l = l.count ≤ l.place-index

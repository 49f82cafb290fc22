-- `put` meets its contract. Assumes nothing.
use mathlib.Core.Path.{refl}
use Rattle.atomic.proofs.PutLaws.{put_more, put_none}
use Rattle.atomic.proofs.put.Goals as goal

pub returns-then-count-lt3 : goal.returns-then-count-lt3
returns-then-count-lt3 c = put_more _ _ _ _ refl c.if-count-lt3.true

pub returns-else-count-lt3 : goal.returns-else-count-lt3
returns-else-count-lt3 c = put_none _ _ _ c.if-count-lt3.false

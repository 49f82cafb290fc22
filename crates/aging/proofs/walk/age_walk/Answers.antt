-- `age_walk` meets its contract. Assumes nothing.
use Rattle.aging.proofs.TaskLaws.{does_ages}
use Rattle.aging.proofs.walk.age_walk.Goals as goal

pub returns-clause-added : goal.returns-clause-added
returns-clause-added c =
    let a = c.args in
    rw (does_ages a.k a.b a.t _ _ _) c.run.ensures.added

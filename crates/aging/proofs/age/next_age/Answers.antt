-- `next_age` meets its contract. Assumes nothing.
use Rattle.aging.proofs.NextLaws.{next_right, next_within, next_longer}
use Rattle.aging.proofs.age.next_age.Goals as goal

pub returns-then-not-l : goal.returns-then-not-l
returns-then-not-l c = rw (c.then_some-new.ensures, c.if-not-l.true) (next_right _ _ _ _)

pub returns-in-Within : goal.returns-in-Within
returns-in-Within c =
    let q = rw c.in-Within.is at c.older_age-kept.ensures in
    rw (c.in-Within.is, c.or.ensures, c.then_some-new.ensures, c.if-not-l.false) (next_within _ _ _ _ _ q.1 q.0)

pub returns-in-Longer : goal.returns-in-Longer
returns-in-Longer c =
    let q = rw c.in-Longer.is at c.older_age-kept.ensures in
    rw (c.in-Longer.is, c.or-in-Longer.ensures, c.then_some-new.ensures, c.if-not-l.false) (next_longer _ _ _ _ _ q.1 q.0)

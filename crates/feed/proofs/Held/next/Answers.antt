-- `feed::Held::next` meets its contract: the bytes before the first line end are held, or all of them. Assumes nothing.
use Rattle.feed.proofs.EndLaws.{passed_one, passed_all}
use Rattle.feed.proofs.Held.next.Goals as goal

pub returns-in-Some : goal.returns-in-Some
returns-in-Some c = passed_one c.in-Some.ensures c.hold.ensures

pub returns-in-None : goal.returns-in-None
returns-in-None c = passed_all c.in-None.ensures c.hold-in-None.ensures

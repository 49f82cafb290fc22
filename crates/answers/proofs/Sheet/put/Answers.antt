-- `answers::Sheet::put` meets its contract: the bytes passed stand behind what was there. Assumes nothing.
use Rattle.answers.proofs.PutLaws.{put_copied, copied_long}
use Rattle.answers.proofs.Sheet.put.Goals as goal

pub returns-clause-puts : goal.returns-clause-puts
returns-clause-puts c = record { put = put_copied c.requires c.copy_from_slice.ensures.after; long = copied_long c.args.self.now.out.now c.args.self.now.at c.requires c.copy_from_slice.ensures.after }

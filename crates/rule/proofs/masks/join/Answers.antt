-- `rule::masks::join` meets its contract: the bits of both. Assumes nothing.
use Rattle.rule.proofs.MasksLaws.{mask_or}
use Rattle.rule.proofs.masks.join.Goals as goal

pub returns : goal.returns
returns c = mask_or _ _

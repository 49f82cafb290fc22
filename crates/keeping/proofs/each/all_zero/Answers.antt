-- `each::all_zero` meets its contract: the or of numbers tells whether they are 0. Assumes nothing.
use Rattle.std.proofs.Common.{rules, ◌≡◌, bit_or}
use Rattle.std.specs.List.{fold}
use Rattle.keeping.proofs.CheckLaws.{or_tells}
use Rattle.keeping.proofs.each.all_zero.Goals as goal

pub returns : goal.returns
returns c =
    let e : c.fold.result ≡ fold bit_or 0 c.args.xs.now = search rules in
    rw e (or_tells c.args.xs.now)

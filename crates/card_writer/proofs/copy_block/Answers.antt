-- `copy_block` meets its contract. Assumes nothing.
use mathlib.Core.Path.{◌≡◌, ap, ◌∙◌}
use lib.ListN.{length}
use lib.Seq.{sets}
use Rattle.std.proofs.Common.{rules}
use Rattle.card_records.proofs.FactLaws.{put_part}
use Rattle.card_writer.proofs.copy_block.Goals as goal

pub returns : goal.returns
returns c =
    let long : length c.args.block.now ≡ 512 = search rules in
    put_part 512 _ _ _ c.requires (ap length c.copy_from_slice.ensures.after ∙ long) ∙ ap (sets c.args.out.now c.args.at) c.copy_from_slice.ensures.after

-- `put_marks` meets its contract. Assumes nothing.
use mathlib.Core.Path.{◌≡◌, ap, ◌∙◌}
use lib.ListN.{length}
use lib.Seq.{sets}
use Rattle.card_records.specs.Facts.{marks}
use Rattle.card_records.proofs.FactLaws.{put_part, length_marks, flag_is}
use Rattle.card_records.proofs.put_marks.Goals as goal

pub returns : goal.returns
unfolding marks
returns c =
    let put : c.copy_from_slice.new.self ≡ marks c.args.count c.args.last = rw (c.copy_from_slice.ensures.after, c.min.ensures, c.from.ensures, flag_is c.args.last) in
    put_part 4 _ _ _ c.requires (ap length put ∙ length_marks c.args.count c.args.last) ∙ ap (sets c.args.out.now c.args.at) put

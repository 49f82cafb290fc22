-- `put_number` meets its contract. Assumes nothing.
use mathlib.Core.Path.{ap, ◌∙◌}
use lib.ListN.{length}
use lib.Seq.{sets}
use Rattle.card_records.proofs.FactLaws.{le_bytes, put_part, length_four}
use Rattle.card_records.proofs.put_number.Goals as goal

pub returns : goal.returns
returns c =
    let put = c.copy_from_slice.ensures.after ∙ c.to_le_bytes.ensures ∙ le_bytes c.args.n in
    put_part 4 _ _ _ c.requires (ap length put ∙ length_four c.args.n) ∙ ap (sets c.args.out.now c.args.at) put

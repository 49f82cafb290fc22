-- What the reader finds on a card: it is read as the moments of its stretches, or refused at the first bad block. Assumes nothing.
use Rattle.std.specs.Prelude.{ℕ, ◌≡◌, List, map, Result, Ok, Err, ⊤}
use Rattle.cards.specs.Blocks.{pieces}
use Rattle.cards.specs.Reading.{blocks, stretches, moments_of, taken, refused, read}
use Rattle.card_block.specs.Judging.{meant}
use Rattle.card_reader.specs.declared.Bad.{Bad}

abbrev pub Finds : List ℕ → Result ⊤ Bad → Type 0
Finds card (Ok done) = read card ≡ taken (map moments_of (stretches 0 (blocks (pieces card))))
Finds card (Err bad) = read card ≡ refused bad.place (meant bad.why)

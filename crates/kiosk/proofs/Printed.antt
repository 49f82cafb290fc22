-- The theorem: whatever bytes come, and however they are cut into blocks, the bytes put out are `output` of the input. It rests on nothing of the
-- code but the contract of `lines_of`. Assumes nothing.
use Prim.Native.Nat.{ℕ, ◌<◌}
use native.Mathlib.Omega.{arith}
use mathlib.Core.Path.{◌≡◌, refl, sym, subst, ◌∙◌}
use mathlib.Core.Bool.{true, true≢false}
use mathlib.Core.List.{List, [], ◌∷◌, ◌++◌, append_assoc}
use lib.ListN.{length, take}
use lib.Seq.{take-length}
use Rattle.transcript.specs.Output.{opening, ended, output}
use Rattle.transcript.proofs.ByteLaws.{Going, bytes_leave, bytes_print, end_prints_law, leave_append, print_append, ended_prints, output_by_bytes}
use Rattle.session.specs.declared.Part.{Part}
use Rattle.session.specs.declared.Part.TheVariants.{First, Rows, Events, Over}
use Rattle.session.specs.declared.Session.{Session}
use Rattle.session.specs.Lefts.{is_over}
use Rattle.kiosk.specs.Desks.{Desk, block_desk, block_puts, Fills}
use Rattle.kiosk.specs.Runs.{opened_desk, joined, Runs, ends, goes, stops}
use Rattle.kiosk.proofs.ShowLaws.{stand_as}
use Rattle.kiosk.proofs.DeskLaws.{Stands, opened_stands, bytes_stand, end_prints}

-- the bytes that a call put out
put_out : {d d' : Desk} {block out out' : List ℕ} {n : ℕ} → Fills d block out d' out' n → take n out' ≡ block_puts d block
put_out g = g.put.shown

-- a run that has ended stands at its end
over_ended : (p : Part) (s : Session) (rows nodes values work : List ℕ) → is_over p ≡ true → stand_as p s rows nodes values work ≡ ended
unfolding stand_as
over_ended First s rows nodes values work e = absurd (true≢false (sym e))
over_ended Rows s rows nodes values work e = absurd (true≢false (sym e))
over_ended Events s rows nodes values work e = absurd (true≢false (sym e))
over_ended Over s rows nodes values work e = refl

-- from any desk that shows a run
runs_print : {d : Desk} {blocks : List (List ℕ)} {put : List ℕ} (g : Going) → Stands d g → Runs d blocks put
    → put ≡ bytes_print g (joined blocks) ++ end_prints_law (bytes_leave g (joined blocks))
unfolding joined block_puts block_desk
runs_print g p (ends d d' out out' n c) = put_out c ∙ end_prints d g p ∙ (unfold bytes_print bytes_leave in refl)
runs_print g p (goes d d' b bs out out' n blocks put c r) =
    let block : List ℕ = b ∷ bs in
    let rest : List ℕ = joined blocks in
    let after : Going = bytes_leave g block in
    let here = bytes_stand d g block p in
    let now : take n out' ≡ bytes_print g block = put_out c ∙ here.1 in
    let later : put ≡ bytes_print after rest ++ end_prints_law (bytes_leave after rest) = runs_print after (subst (λ (x : Desk). Stands x after) (sym c.desk_is) here.0) r in
    (λ i. now i ++ later i)
    ∙ sym (append_assoc (bytes_print g block) (bytes_print after rest) (end_prints_law (bytes_leave after rest)))
    ∙ (λ i. sym (print_append g block rest) i ++ end_prints_law (sym (leave_append g block rest) i))
runs_print g p (stops d blocks e) =
    sym (ended_prints g (joined blocks) (p.shows.stand_is ∙ over_ended d.session.part d.session d.rows d.nodes d.values d.work e))

-- the bytes put out for an input, cut into any blocks, are exactly `output` of it
pub printed : (blocks : List (List ℕ)) (put : List ℕ) → Runs opened_desk blocks put → put ≡ output (joined blocks)
printed blocks put r = runs_print (record { stand = opening; begun = [] }) opened_stands r ∙ output_by_bytes (joined blocks)

-- a block has an outcome: a slice that just holds its bytes
fills : (d : Desk) (block : List ℕ) → Fills d block (block_puts d block) (block_desk d block) (block_puts d block) (length (block_puts d block))
fills d block = record {
  desk_is = refl;
  put = record { past = omega arith; inside = omega arith; shown = take-length (block_puts d block); rest = refl };
}

-- each block has some bytes
abbrev pub AllSome : List (List ℕ) → Type 0
AllSome [] = Unit {0}
AllSome (block ∷ blocks) = (0 < length block) × AllSome blocks

pub record HasRun (d : Desk) (blocks : List (List ℕ)) : Type 0 where
  pub put : List ℕ
  pub run : Runs d blocks put

-- every input has a run, however it is cut into blocks of some bytes
pub every_input : (d : Desk) (blocks : List (List ℕ)) → AllSome blocks → HasRun d blocks
every_input d [] h = record { put = take (length (block_puts d [])) (block_puts d []); run = ends d (block_desk d []) (block_puts d []) (block_puts d []) (length (block_puts d [])) (fills d []) }
every_input d ([] ∷ blocks) h = absurd (omega (arith, h.0))
every_input d ((b ∷ bs) ∷ blocks) h =
    let later = every_input (block_desk d (b ∷ bs)) blocks h.1 in
    let bytes : List ℕ = block_puts d (b ∷ bs) in
    record { put = take (length bytes) bytes ++ later.put; run = goes d (block_desk d (b ∷ bs)) b bs bytes bytes (length bytes) blocks later.put (fills d (b ∷ bs)) later.run }

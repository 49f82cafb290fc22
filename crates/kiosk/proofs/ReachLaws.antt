-- Desks that are reached block by block. Assumes nothing.
use Prim.Native.Nat.{ℕ}
use mathlib.Core.Path.{◌≡◌, refl, ap, ◌∙◌}
use mathlib.Core.List.{List, [], ◌∷◌, ◌++◌}
use lib.ListN.{take, replicate}
use Rattle.session.specs.Lefts.{opened_session}
use Rattle.session.specs.declared.Session.{Session}
use Rattle.feed.specs.Feeds.{Held, holding}
use Rattle.kiosk.specs.Desks.{Desk, block_desk, Fills}
use Rattle.kiosk.specs.Runs.{opened_desk, after, Reached, Answers}

-- the desk before the first block
pub opened_shown : {s : Session} {h : Held} → s ≡ opened_session → h ≡ holding 0 (replicate 101 0)
    → ◌≡◌ {A = Desk} (record { session = s; held = h; rows = replicate 585 0; nodes = replicate 1536 0; values = replicate 4092 0; work = replicate 9216 0 }) opened_desk
unfolding opened_desk
opened_shown e f = λ i. record { session = e i; held = f i; rows = replicate 585 0; nodes = replicate 1536 0; values = replicate 4092 0; work = replicate 9216 0 }

-- before the first block
pub reached_first : {d : Desk} → d ≡ opened_desk → Reached d
unfolding after
reached_first e = record { blocks = []; desk_is = e }

pub first_count : {d : Desk} → d ≡ opened_desk → d.session.ordinal ≡ 0
unfolding opened_desk opened_session
first_count e = ap (λ (d : Desk). d.session.ordinal) e

-- one block more
after_more : (d : Desk) (blocks : List (List ℕ)) (block : List ℕ) → block_desk (after d blocks) block ≡ after d (blocks ++ (block ∷ []))
unfolding after
after_more d [] block = refl
after_more d (b ∷ bs) block = after_more (block_desk d b) bs block

pub reached_more : {d d' : Desk} {block out out' : List ℕ} {n : ℕ} → Reached d → Fills d block out d' out' n → Reached d'
reached_more {d} {d'} {block} r g =
    record { blocks = r.blocks ++ (block ∷ []); desk_is = g.desk_is ∙ ap (λ (x : Desk). block_desk x block) r.desk_is ∙ after_more opened_desk r.blocks block }

-- what it puts out
pub reached_answers : {d d' : Desk} {block out out' : List ℕ} {n : ℕ} → Reached d → Fills d block out d' out' n → Answers (take n out')
reached_answers {d} {d'} {block} r g = record { desk = d; reached = r; block = block; are = g.put.shown }

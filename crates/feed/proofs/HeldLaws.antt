-- What is held of a line, byte by byte; and a line is read right by its first 101 bytes, since no right line is longer than 100: a longer one is
-- bad, and so is what is held of it. Assumes nothing.
use Prim.Native.Nat.{ℕ, ◌+◌, ◌-◌, min, ◌≤◌, ◌<◌}
use native.Mathlib.Omega.{arith}
use native.Mathlib.Numerals.{add-one}
use mathlib.Core.Path.{◌≡◌, refl, sym, ap, subst, ◌∙◌}
use mathlib.Core.Bool.{Bool, true, false}
use mathlib.Core.List.{List, [], ◌∷◌, ◌++◌, append_assoc}
use lib.Dec.{ltb}
use lib.ListN.{length, take, drop, set, length-append, length-drop, length-set, take-append-drop, drop_of_length-le}
use borrow.Rule.Slice.PartMut.{put_mid, Post-is}
use lib.Seq.{take_all, take-suc-set, length-take-le, drop-set-lt}
use borrow.Author.Tests.{ltb-true, ltb-false, lt-ltb, le-ltb}
use Rattle.lines.specs.Format.{Reads}
use Rattle.lines.specs.declared.Line.{Line}
use Rattle.std.specs.Prelude.{Option, None}
use Rattle.lines.proofs.Readings.{same_reading}
use Rattle.lines.proofs.Long.{long_line_bad}
use Rattle.feed.specs.Feeds.{Held, holding, hold_byte, hold_bytes}

pub held_reads : (bytes : List ℕ) (l : Option Line) → Reads (take 101 bytes) l → Reads bytes l
held_reads bytes l r = go (ltb 101 (length bytes)) refl
  where
    go : (q : Bool) → ltb 101 (length bytes) ≡ q → Reads bytes l
    go true e =
        let h : 101 < length bytes = ltb-true 101 (length bytes) e in
        let cut : length (take 101 bytes) ≡ 101 = length-take-le 101 bytes (omega arith) in
        let bad : l ≡ None = same_reading (take 101 bytes) l None r (long_line_bad (take 101 bytes) (omega arith)) in
        subst (λ (x : Option Line). Reads bytes x) (sym bad) (long_line_bad bytes (omega arith))
    go false e = subst (λ (bs : List ℕ). Reads bs l) (take_all 101 bytes (ltb-false 101 (length bytes) e)) r

-- some bytes and then some more
pub hold_append : (h : Held) (xs ys : List ℕ) → hold_bytes h (xs ++ ys) ≡ hold_bytes (hold_bytes h xs) ys
unfolding hold_bytes
hold_append h [] ys = refl
hold_append h (x ∷ xs) ys = hold_append (hold_byte h x) xs ys

-- a byte for which there is no room, and one for which there is
pub hold_out : (h : Held) (b : ℕ) → length h.line ≤ h.count → hold_byte h b ≡ h
unfolding hold_byte
hold_out h b full = rw (le-ltb h.count (length h.line) full)

pub hold_in : (h : Held) (b : ℕ) → h.count < length h.line → hold_byte h b ≡ holding (h.count + 1) (set h.line h.count b)
unfolding hold_byte
hold_in h b room = rw (lt-ltb h.count (length h.line) room)

-- a slice that is full stays as it is
hold_full : (h : Held) (bytes : List ℕ) → length h.line ≤ h.count → hold_bytes h bytes ≡ h
unfolding hold_bytes
hold_full h [] full = refl
hold_full h (b ∷ bs) full = ap (λ (g : Held). hold_bytes g bs) (hold_out h b full) ∙ hold_full h bs full

-- bytes for which there is room are held behind those that are there
hold_room : (h : Held) (bytes : List ℕ) → h.count + length bytes ≤ length h.line
    → hold_bytes h bytes ≡ holding (h.count + length bytes) (take h.count h.line ++ (bytes ++ drop (h.count + length bytes) h.line))
unfolding hold_bytes
hold_room h [] room =
    let none : h.count + 0 ≡ h.count = omega arith in
    λ i. holding (sym none i) ((sym (take-append-drop h.count h.line) ∙ ap (λ (n : ℕ). take h.count h.line ++ drop n h.line) (sym none)) i)
hold_room h (b ∷ bs) room =
    let next : (h.count + 1) + length bs ≡ h.count + length (b ∷ bs) = omega arith in
    let later = hold_room (holding (h.count + 1) (set h.line h.count b)) bs (omega (arith, length-set h.line h.count b)) in
    let front : take (h.count + 1) (set h.line h.count b) ≡ take h.count h.line ++ (b ∷ []) = rw add-one (take-suc-set h.line h.count b (omega arith)) in
    let back : drop ((h.count + 1) + length bs) (set h.line h.count b) ≡ drop ((h.count + 1) + length bs) h.line =
    drop-set-lt ((h.count + 1) + length bs) h.line h.count b (omega arith) in
    let middle : List ℕ = bs ++ drop ((h.count + 1) + length bs) h.line in
    ap (λ (g : Held). hold_bytes g bs) (hold_in h b (omega arith))
    ∙ later
    ∙ (λ i. holding (next i) (front i ++ (bs ++ back i)))
    ∙ ap (holding (h.count + length (b ∷ bs)))
    (append_assoc (take h.count h.line) (b ∷ []) middle ∙ ap (λ (n : ℕ). take h.count h.line ++ (b ∷ (bs ++ drop n h.line))) next)

-- as many bytes as there is room for are all that are held
module _ (h : Held) (bytes : List ℕ) (taken : ℕ) (is : taken ≡ min (length h.line - h.count) (length bytes)) (few : h.count ≤ length h.line) where
  many : length (take taken bytes) ≡ taken
  many = length-take-le taken bytes (omega (arith, is))

  front : hold_bytes h (take taken bytes) ≡ holding (h.count + taken) (take h.count h.line ++ (take taken bytes ++ drop (h.count + taken) h.line))
  front =
      hold_room h (take taken bytes) (omega (arith, is, many, few))
      ∙ ap (λ (n : ℕ). holding (h.count + n) (take h.count h.line ++ (take taken bytes ++ drop (h.count + n) h.line))) many

  rest : (q : Bool) → ltb taken (length bytes) ≡ q → hold_bytes h (take taken bytes) ≡ hold_bytes (hold_bytes h (take taken bytes)) (drop taken bytes)
  rest true e =
      let more : taken < length bytes = ltb-true taken (length bytes) e in
      let full : length (take h.count h.line ++ (take taken bytes ++ drop (h.count + taken) h.line)) ≤ h.count + taken =
      omega (arith, is, few, many, length-append (take h.count h.line) (take taken bytes ++ drop (h.count + taken) h.line), length-append (take taken bytes) (drop (h.count + taken) h.line), length-take-le h.count h.line few, length-drop (h.count + taken) h.line) in
      sym (hold_full (hold_bytes h (take taken bytes)) (drop taken bytes) (subst (λ (g : Held). length g.line ≤ g.count) (sym front) full))
  rest false e =
      unfold hold_bytes in ap (hold_bytes (hold_bytes h (take taken bytes))) (sym (drop_of_length-le bytes (ltb-false taken (length bytes) e)))

  pub hold_taken : {copy : List ℕ} → copy ≡ take taken bytes
      → holding (h.count + taken) (put_mid h.count ((h.count + taken) - h.count) h.line copy) ≡ hold_bytes h bytes
  hold_taken e =
      (λ i. holding (h.count + taken) (take h.count h.line ++ (e i ++ Post-is h.count (h.count + taken) h.line (omega arith) i)))
      ∙ sym front
      ∙ rest (ltb taken (length bytes)) refl
      ∙ sym (hold_append h (take taken bytes) (drop taken bytes))
      ∙ ap (hold_bytes h) (take-append-drop taken bytes)

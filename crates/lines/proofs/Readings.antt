-- Reading a line has one answer: two readings of one line are the same, and every right line is read from its text. Assumes nothing.
use Prim.Native.Nat.{ℕ, ◌<◌, ◌≤◌}
use native.Mathlib.Omega.{arith}
use mathlib.Core.Path.{◌≡◌, refl, sym, ap, ◌∙◌}
use mathlib.Core.Bool.{Bool, true, false}
use mathlib.Core.List.{List, [], ◌∷◌, ◌++◌}
use Rattle.std.specs.Prelude.{Option, None, Some}
use lib.Dec.{ltb}
use lib.ListN.{length, take, drop, get_or, length-take}
use lib.Seq.{ext_get_or, get_or-take}
use borrow.Author.Tests.{ltb-true, ltb-false}
use Rattle.lines.specs.Numeral.{numeral}
use Rattle.lines.specs.Format.{Fits, Every, spaced, text, Right, RightEvent, Written, Reads}
use Rattle.lines.specs.Parts.{Opens}
use Rattle.lines.specs.declared.Line.{Line}
use Rattle.lines.specs.declared.Line.TheVariants.{Sizes, Row, Event}
use Rattle.lines.proofs.Every.{every_take}
use Rattle.lines.proofs.Opens.{opens_same}
use Rattle.lines.proofs.Spaced.{spaced_opens, spaced_same}
use Rattle.lines.proofs.Text.{text_head}

-- two sizes that are written alike are the same
sizes_same : (k c m d : ℕ) → Right (Sizes k c) → Right (Sizes m d) → text (Sizes k c) ≡ text (Sizes m d) → Sizes k c ≡ Sizes m d
unfolding text
sizes_same k c m d f g e =
    let other : Opens (numeral k ++ spaced (c ∷ [])) m (spaced (d ∷ [])) = rw (← e) at (spaced_opens m (d ∷ []) g.0) in
    let both : (k ≡ m) × (spaced (c ∷ []) ≡ spaced (d ∷ [])) =
    opens_same (numeral k ++ spaced (c ∷ [])) k m (spaced (c ∷ [])) (spaced (d ∷ [])) (spaced_opens k (c ∷ []) f.0) other in
    let run : c ∷ [] ≡ d ∷ [] = spaced_same (c ∷ []) (d ∷ []) (omega arith, tt) (omega arith, tt) both.1 in
    let first : k ≡ m = both.0 in
    cc

-- lists of one length that agree on their first n numbers, and have 0 after those, are the same
padded_same : (n : ℕ) (xs ys : List ℕ) → length xs ≡ length ys → take n xs ≡ take n ys
    → ((i : ℕ) → n ≤ i → get_or xs i 0 ≡ 0) → ((i : ℕ) → n ≤ i → get_or ys i 0 ≡ 0) → xs ≡ ys
padded_same n xs ys long e x y = ext_get_or 0 xs ys long (λ i h. go i (ltb i n) refl)
  where
    go : (i : ℕ) (q : Bool) → ltb i n ≡ q → get_or xs i 0 ≡ get_or ys i 0
    go i true t =
        let low : i < n = ltb-true i n t in
        sym (get_or-take n xs i 0 low) ∙ ap (λ (l : List ℕ). get_or l i 0) e ∙ get_or-take n ys i 0 low
    go i false t = x i (ltb-false i n t) ∙ sym (y i (ltb-false i n t))

-- two right events with the same numbers have the same values
values_same : (p q m n : ℕ) (xs ys : List ℕ) → length xs ≡ 4 → length ys ≡ 4 → RightEvent p m xs → RightEvent q n ys
    → spaced (p ∷ take m xs) ≡ spaced (q ∷ take n ys) → (p ≡ q) × (m ≡ n) × (xs ≡ ys)
values_same p q m n xs ys lx ly f g e =
    let fp : Every Fits (p ∷ take m xs) = (f.fit.0, every_take Fits m xs f.fit.1) in
    let fq : Every Fits (q ∷ take n ys) = (g.fit.0, every_take Fits n ys g.fit.1) in
    let run : p ∷ take m xs ≡ q ∷ take n ys = spaced_same (p ∷ take m xs) (q ∷ take n ys) fp fq e in
    let tails : take m xs ≡ take n ys = cc in
    let count : m ≡ n = omega (arith, ap length tails, length-take m xs, length-take n ys, f.few, g.few) in
    (cc, count, padded_same m xs ys (lx ∙ sym ly) (tails ∙ rw count) f.rest (rw count g.rest))

-- the bytes are the text of one right line at most
pub written_same : (bytes : List ℕ) (l m : Line) → Written bytes l → Written bytes m → l ≡ m
unfolding text
written_same bytes (Sizes k c) (Sizes m d) w v = sizes_same k c m d w.right v.right (sym w.shown ∙ v.shown)
written_same bytes (Sizes k c) (Row ms) w v = absurd (omega (arith, text_head bytes (Sizes k c) w, text_head bytes (Row ms) v))
written_same bytes (Sizes k c) (Event q n ys) w v = absurd (omega (arith, text_head bytes (Sizes k c) w, text_head bytes (Event q n ys) v))
written_same bytes (Row ns) (Sizes m d) w v = absurd (omega (arith, text_head bytes (Row ns) w, text_head bytes (Sizes m d) v))
written_same bytes (Row ns) (Row ms) w v = ap Row (spaced_same ns ms w.right.fit v.right.fit (ap (drop 1) (sym w.shown ∙ v.shown)))
written_same bytes (Row ns) (Event q n ys) w v = absurd (omega (arith, text_head bytes (Row ns) w, text_head bytes (Event q n ys) v))
written_same bytes (Event p m xs) (Sizes k d) w v = absurd (omega (arith, text_head bytes (Event p m xs) w, text_head bytes (Sizes k d) v))
written_same bytes (Event p m xs) (Row ms) w v = absurd (omega (arith, text_head bytes (Event p m xs) w, text_head bytes (Row ms) v))
written_same bytes (Event p m xs) (Event q n ys) w v =
    let all : (p ≡ q) × (m ≡ n) × (xs ≡ ys) = values_same p q m n xs ys w.right.four v.right.four w.right v.right (ap (drop 1) (sym w.shown ∙ v.shown)) in
    cc (all.0, all.1, all.2)

-- two readings of one line are the same
pub same_reading : (bytes : List ℕ) (l m : Option Line) → Reads bytes l → Reads bytes m → l ≡ m
same_reading bytes None None r s = refl
same_reading bytes None (Some m) r s = absurd (r.none m s)
same_reading bytes (Some l) None r s = absurd (s.none l r)
same_reading bytes (Some l) (Some m) r s = ap Some (written_same bytes l m r s)

-- every right line is read from its text
pub every_line_read : (l : Line) → Right l → Reads (text l) (Some l)
every_line_read l r = record { right = r; shown = refl }

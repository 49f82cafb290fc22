-- Laws of a block's lines: piece after piece the same is left and put out as byte after byte. Assumes nothing.
use Prim.Native.Nat.{ℕ, suc, ◌+◌, ◌-◌, ◌≤◌, ◌<◌}
use native.Mathlib.Omega.{arith}
use native.Mathlib.Numerals.{add-one}
use mathlib.Core.Path.{◌≡◌, refl, sym, ap, subst, ◌∙◌}
use mathlib.Core.Bool.{Bool, true, false, cond}
use mathlib.Core.List.{List, [], ◌∷◌, ◌++◌, append_assoc, append-nil}
use lib.Dec.{eqb, ltb, leb-suc-suc}
use lib.ListN.{length, take, drop, length-drop, drop_of_length-le}
use lib.Seq.{length-take-le, take_all}
use borrow.Author.Tests.{ltb-true, ltb-false, lt-ltb}
use Rattle.std.specs.Prelude.{Option, None, Some}
use Rattle.answers.proofs.PutLaws.{drop_later}
use Rattle.feed.specs.Feeds.{Held, hold_byte, hold_bytes, before, Passed}
use Rattle.kiosk.specs.Desks.{Desk, line_desk, line_puts, byte_desk, byte_puts, bytes_desk, bytes_put, served_desk, served_puts, end_desk, end_puts, block_desk, block_puts, Gives, Fills}

-- the desk with another line held
abbrev pub with_held : Desk → Held → Desk
with_held d h = record { session = d.session; held = h; rows = d.rows; nodes = d.nodes; values = d.values; work = d.work }

-- whether a line end is among the bytes
abbrev pub ends : List ℕ → Bool
ends bytes = ltb (before bytes) (length bytes)

-- the desk at the first line end, or past the last byte
abbrev pub reached : Desk → List ℕ → Desk
reached d bytes = with_held d (hold_bytes d.held (take (before bytes) bytes))

-- a byte that is no line end
module _ (d : Desk) (b : ℕ) (bs : List ℕ) (e : eqb b 10 ≡ false) where
  plain : byte_desk d b ≡ with_held d (hold_byte d.held b)
  unfolding byte_desk
  plain = rw e

  one_more : before (b ∷ bs) ≡ suc (before bs)
  unfolding before
  one_more = rw e (add-one (before bs))

  ends_more : ends bs ≡ ends (b ∷ bs)
  ends_more = sym (leb-suc-suc (suc (before bs)) (length bs)) ∙ ap (λ (n : ℕ). ltb n (suc (length bs))) (sym one_more)

  reached_more : reached (byte_desk d b) bs ≡ reached d (b ∷ bs)
  unfolding hold_bytes
  reached_more =
      ap (λ (x : Desk). reached x bs) plain ∙ ap (λ (n : ℕ). with_held d (hold_bytes d.held (take n (b ∷ bs)))) (sym one_more)

  rest_more : drop (before bs + 1) bs ≡ drop (before (b ∷ bs) + 1) (b ∷ bs)
  rest_more =
      ap (λ (n : ℕ). drop n bs) (add-one (before bs)) ∙ ap (λ (n : ℕ). drop n (b ∷ bs)) (sym (add-one (before (b ∷ bs)) ∙ ap suc one_more))

-- the bytes up to the first line end, and then the others
pub piece_desk : (d : Desk) (bytes : List ℕ) → bytes_desk d bytes ≡ bytes_desk (served_desk (ends bytes) (reached d bytes)) (drop (before bytes + 1) bytes)
unfolding bytes_desk byte_desk served_desk before hold_bytes
piece_desk d [] = refl
piece_desk d (b ∷ bs) = go (eqb b 10) refl (piece_desk (byte_desk d b) bs)
  where
    go : (q : Bool) → eqb b 10 ≡ q
        → bytes_desk (byte_desk d b) bs ≡ bytes_desk (served_desk (ends bs) (reached (byte_desk d b) bs)) (drop (before bs + 1) bs)
        → bytes_desk d (b ∷ bs) ≡ bytes_desk (served_desk (ends (b ∷ bs)) (reached d (b ∷ bs))) (drop (before (b ∷ bs) + 1) (b ∷ bs))
    go true e ih = rw (e, lt-ltb 0 (suc (length bs)) (omega arith))
    go false e ih = ih ∙ (λ i. bytes_desk (served_desk (ends_more d b bs e i) (reached_more d b bs e i)) (rest_more d b bs e i))

pub piece_puts : (d : Desk) (bytes : List ℕ)
    → bytes_put d bytes ≡ served_puts (ends bytes) (reached d bytes) ++ bytes_put (served_desk (ends bytes) (reached d bytes)) (drop (before bytes + 1) bytes)
unfolding bytes_put byte_puts byte_desk served_desk served_puts before hold_bytes
piece_puts d [] = refl
piece_puts d (b ∷ bs) = go (eqb b 10) refl (piece_puts (byte_desk d b) bs)
  where
    go : (q : Bool) → eqb b 10 ≡ q
        → bytes_put (byte_desk d b) bs
        ≡ served_puts (ends bs) (reached (byte_desk d b) bs) ++ bytes_put (served_desk (ends bs) (reached (byte_desk d b) bs)) (drop (before bs + 1) bs)
        → bytes_put d (b ∷ bs)
        ≡ served_puts (ends (b ∷ bs)) (reached d (b ∷ bs))
        ++ bytes_put (served_desk (ends (b ∷ bs)) (reached d (b ∷ bs))) (drop (before (b ∷ bs) + 1) (b ∷ bs))
    go true e ih = rw (e, lt-ltb 0 (suc (length bs)) (omega arith))
    go false e ih =
        silent e
        ∙ ih
        ∙ (λ i. served_puts (ends_more d b bs e i) (reached_more d b bs e i)
        ++ bytes_put (served_desk (ends_more d b bs e i) (reached_more d b bs e i)) (rest_more d b bs e i))
      where
        silent : eqb b 10 ≡ false → bytes_put d (b ∷ bs) ≡ bytes_put (byte_desk d b) bs
        silent e = ap (λ (l : List ℕ). l ++ bytes_put (byte_desk d b) bs) (nothing e)
          where
            nothing : eqb b 10 ≡ false → byte_puts d b ≡ []
            nothing e = rw e

-- a block in the middle: what is still to be left and put out is what the whole block is to leave and put out
pub record Feeding (block : List ℕ) (d₀ : Desk) (out₀ : List ℕ) (d : Desk) (out : List ℕ) (at : ℕ) (left : List ℕ) : Type 0 where
  pub desk_is : bytes_desk d left ≡ bytes_desk d₀ block
  pub puts_are : take at out ++ bytes_put d left ≡ bytes_put d₀ block
  pub rest : drop at out ≡ drop at out₀
  pub inside : at ≤ length out

pub feeding_starts : (block : List ℕ) (d : Desk) (out : List ℕ) → Feeding block d out d out 0 block
feeding_starts block d out = record { desk_is = refl; puts_are = refl; rest = refl; inside = omega arith }

-- where a line end was passed, one is among the bytes; where none was, none is
pub record Ends (bytes : List ℕ) (past : ℕ) : Type 0 where
  pub ends_is : ends bytes ≡ true
  pub past_is : past ≡ before bytes + 1
  pub inside : past ≤ length bytes

pub passed_some : {bytes : List ℕ} {h h' : Held} {past : ℕ} → Passed bytes h (Some past) h' → Ends bytes past
passed_some {bytes} {h} {h'} {past} p = go (ends bytes) refl p.next_is
  where
    go : (q : Bool) → ends bytes ≡ q → Some past ≡ cond q (Some (before bytes + 1)) None → Ends bytes past
    go true e f =
        let at : past ≡ before bytes + 1 = cc in
        record { ends_is = e; past_is = at; inside = omega (arith, ltb-true (before bytes) (length bytes) e) }
    go false e f = absurd (let z : ◌≡◌ {A = ℕ} 0 1 = cc in omega arith)

passed_none : {bytes : List ℕ} {h h' : Held} → Passed bytes h None h' → ends bytes ≡ false
passed_none {bytes} {h} {h'} p = go (ends bytes) refl p.next_is
  where
    go : (q : Bool) → ends bytes ≡ q → ◌≡◌ {A = Option ℕ} None (cond q (Some (before bytes + 1)) None) → ends bytes ≡ false
    go true e f = absurd (let z : ◌≡◌ {A = ℕ} 0 1 = cc in omega arith)
    go false e f = e

-- the bytes past a place
past_place : (left : List ℕ) (past : ℕ) → take (length left - past) (drop past left) ≡ drop past left
past_place left past = take_all (length left - past) (drop past left) (omega (arith, length-drop past left))

pub left_long : (left : List ℕ) (past : ℕ) → length (take (length left - past) (drop past left)) ≡ length left - past
left_long left past = ap length (past_place left past) ∙ length-drop past left

-- one line
pub feeding_more : {block : List ℕ} {d₀ : Desk} {out₀ : List ℕ} {d : Desk} {out : List ℕ} {at : ℕ} {left : List ℕ} {past : ℕ} {h' : Held} {d' : Desk} {out' : List ℕ} {next : ℕ}
    → Feeding block d₀ out₀ d out at left → Passed left d.held (Some past) h'
    → Gives (line_desk (with_held d h')) (line_puts (with_held d h')) out at d' out' next
    → Feeding block d₀ out₀ d' out' next (take (length left - past) (drop past left))
unfolding served_desk served_puts
feeding_more {block} {d₀} {out₀} {d} {out} {at} {left} {past} {h'} {d'} {out'} {next} f p g = subst (λ (l : List ℕ). Feeding block d₀ out₀ d' out' next l) (sym (past_place left past))
    (record {
      desk_is = (λ i. bytes_desk (is i) (drop (e.past_is i) left)) ∙ sym (piece_desk d left) ∙ f.desk_is;
      puts_are = (λ i. g.put.shown i ++ bytes_put (is i) (drop (e.past_is i) left))
          ∙ ap (λ (l : List ℕ). (take at out ++ l) ++ bytes_put (served_desk (ends left) (reached d left)) (drop (before left + 1) left)) puts
          ∙ append_assoc (take at out) (served_puts (ends left) (reached d left)) (bytes_put (served_desk (ends left) (reached d left)) (drop (before left + 1) left))
          ∙ ap (λ (l : List ℕ). take at out ++ l) (sym (piece_puts d left))
          ∙ f.puts_are;
      rest = g.put.rest ∙ subst (λ (m : ℕ). drop m out ≡ drop m out₀) (sym g.put.past) (drop_later out out₀ at (length (line_puts (with_held d h'))) f.rest);
      inside = g.put.inside;
    })
  where
    e : Ends left past
    e = passed_some p

    is : d' ≡ served_desk (ends left) (reached d left)
    is = g.desk_is ∙ (λ i. served_desk (sym e.ends_is i) (with_held d (p.held_is i)))

    puts : line_puts (with_held d h') ≡ served_puts (ends left) (reached d left)
    puts = λ i. served_puts (sym e.ends_is i) (with_held d (p.held_is i))

-- the end of the block
feeding_done : {block : List ℕ} {d₀ : Desk} {out₀ : List ℕ} {d : Desk} {out : List ℕ} {at : ℕ} {left : List ℕ} {h' : Held}
    → Feeding block d₀ out₀ d out at left → Passed left d.held None h'
    → Gives (bytes_desk d₀ block) (bytes_put d₀ block) out₀ 0 (with_held d h') out at
unfolding bytes_desk bytes_put served_desk served_puts
feeding_done {block} {d₀} {out₀} {d} {out} {at} {left} {h'} f p =
    let e = passed_none p in
    let none : drop (before left + 1) left ≡ [] =
    drop_of_length-le left (let all = ltb-false (before left) (length left) e in omega arith) in
    let desk : bytes_desk d left ≡ with_held d h' =
    piece_desk d left ∙ (λ i. bytes_desk (served_desk (e i) (with_held d (sym p.held_is i))) (none i)) in
    let quiet : bytes_put d left ≡ [] =
    piece_puts d left ∙ (λ i. served_puts (e i) (reached d left) ++ bytes_put (served_desk (e i) (reached d left)) (none i)) in
    let shown : take at out ≡ bytes_put d₀ block = sym (append-nil (take at out)) ∙ ap (λ (l : List ℕ). take at out ++ l) (sym quiet) ∙ f.puts_are in
    record {
      desk_is = sym desk ∙ f.desk_is;
      put = record {
        past = omega (arith, length-take-le at out f.inside, ap length shown);
        inside = f.inside;
        shown = shown;
        rest = f.rest;
      };
    }

-- a block of some bytes
pub feeding_some : {block : List ℕ} {d₀ : Desk} {out₀ : List ℕ} {d : Desk} {out : List ℕ} {at : ℕ} {left : List ℕ} {h' : Held} → 0 < length block
    → Feeding block d₀ out₀ d out at left → Passed left d.held None h' → Fills d₀ block out₀ (with_held d h') out at
unfolding block_desk block_puts
feeding_some {block = []} some f p = absurd (omega arith)
feeding_some {block = b ∷ bs} some f p =
    let done = feeding_done f p in
    record { desk_is = done.desk_is; put = done.put }

-- a block of no bytes
pub feeding_none : {block : List ℕ} {d : Desk} {out : List ℕ} {d' : Desk} {out' : List ℕ} {next : ℕ} → length block ≡ 0
    → Gives (end_desk d) (end_puts d) out 0 d' out' next → Fills d block out d' out' next
unfolding block_desk block_puts
feeding_none {block = []} none g = record { desk_is = g.desk_is; put = g.put }
feeding_none {block = b ∷ bs} none g = absurd (omega arith)

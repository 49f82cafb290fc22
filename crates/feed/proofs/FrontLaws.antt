-- What is held of a line is its first 101 bytes. Assumes nothing.
use Prim.Native.Nat.{ℕ, ◌+◌, min, ◌≤◌, ◌<◌}
use native.Mathlib.Omega.{arith}
use native.Mathlib.Numerals.{add-one}
use mathlib.Core.Path.{◌≡◌, refl, sym, ap, subst, ◌∙◌}
use mathlib.Core.Bool.{Bool, true, false}
use mathlib.Core.List.{List, [], ◌∷◌, ◌++◌}
use lib.Dec.{ltb}
use lib.ListN.{length, take, set, length-append, length-set}
use lib.Seq.{take_all, take-append-le, take-suc-set}
use borrow.Author.Tests.{ltb-true, ltb-false}
use Rattle.lines.specs.Format.{Reads}
use Rattle.lines.specs.declared.Line.{Line}
use Rattle.std.specs.Prelude.{Option}
use Rattle.feed.specs.Feeds.{Held, holding, hold_byte}
use Rattle.feed.proofs.HeldLaws.{held_reads, hold_in, hold_out}

-- the first 101 of the bytes are held, in a slice of 101
pub record Fronts (h : Held) (bytes : List ℕ) : Type 0 where
  pub long : length h.line ≡ 101
  pub count_is : h.count ≡ min 101 (length bytes)
  pub front : take h.count h.line ≡ take 101 bytes

-- no byte of a line has come
pub fronts_none : (line : List ℕ) → length line ≡ 101 → Fronts (holding 0 line) []
fronts_none line e = record { long = e; count_is = refl; front = refl }

-- one byte more
pub fronts_more : (h : Held) (bytes : List ℕ) (b : ℕ) → Fronts h bytes → Fronts (hold_byte h b) (bytes ++ (b ∷ []))
fronts_more h bytes b p = go (ltb h.count 101) refl
  where
    longer : length (bytes ++ (b ∷ [])) ≡ length bytes + 1
    longer = length-append bytes (b ∷ [])

    go : (q : Bool) → ltb h.count 101 ≡ q → Fronts (hold_byte h b) (bytes ++ (b ∷ []))
    go true e =
        let room : h.count < 101 = ltb-true h.count 101 e in
        let all : take 101 bytes ≡ bytes = take_all 101 bytes (omega (arith, p.count_is)) in
        let whole : take 101 (bytes ++ (b ∷ [])) ≡ bytes ++ (b ∷ []) = take_all 101 (bytes ++ (b ∷ [])) (omega (arith, longer, p.count_is)) in
        subst (λ (g : Held). Fronts g (bytes ++ (b ∷ []))) (sym (hold_in h b (omega (arith, p.long))))
        (record {
          long = length-set h.line h.count b ∙ p.long;
          count_is = omega (arith, longer, p.count_is);
          front = ap (λ (n : ℕ). take n (set h.line h.count b)) (add-one h.count)
              ∙ take-suc-set h.line h.count b (omega (arith, p.long))
              ∙ ap (λ (l : List ℕ). l ++ (b ∷ [])) (p.front ∙ all)
              ∙ sym whole;
        })
    go false e =
        let full : 101 ≤ h.count = ltb-false h.count 101 e in
        subst (λ (g : Held). Fronts g (bytes ++ (b ∷ []))) (sym (hold_out h b (omega (arith, p.long))))
        (record {
          long = p.long;
          count_is = omega (arith, longer, p.count_is);
          front = p.front ∙ sym (take-append-le 101 bytes (b ∷ []) (omega (arith, p.count_is)));
        })

-- the line is read by what is held of it
pub fronts_read : (h : Held) (bytes : List ℕ) (l : Option Line) → Fronts h bytes → Reads (take h.count h.line) l → Reads bytes l
fronts_read h bytes l p r = held_reads bytes l (subst (λ (bs : List ℕ). Reads bs l) p.front r)

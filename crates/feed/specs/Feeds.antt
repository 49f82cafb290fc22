-- What is held of a line, and what a part of a block leaves. Assumes nothing: these are definitions.
use Rattle.std.specs.Prelude.{ℕ, ◌+◌, ◌≡◌, cond, Option, None, Some, List, [], ◌∷◌, eqb, ltb, length, take, set}

-- how many bytes are held, and the slice at whose front they stand
pub record Held : Type 0 where
  pub count : ℕ
  pub line : List ℕ

abbrev pub holding : ℕ → List ℕ → Held
holding n line = record { count = n; line = line }

-- one byte more, if there is room for it
unfoldable pub hold_byte : Held → ℕ → Held
hold_byte h b = cond (ltb h.count (length h.line)) (holding (h.count + 1) (set h.line h.count b)) h

-- some bytes, one after the other
unfoldable pub hold_bytes : Held → List ℕ → Held
hold_bytes h [] = h
hold_bytes h (b ∷ bs) = hold_bytes (hold_byte h b) bs

-- how many bytes stand before the first line end, byte 10: all of them, if there is none
unfoldable pub before : List ℕ → ℕ
before [] = 0
before (b ∷ bs) = cond (eqb b 10) 0 (before bs + 1)

-- the bytes up to the first line end are held, or all if there is none; the next line begins past the line end, if there is one
pub record Passed (bytes : List ℕ) (h : Held) (next : Option ℕ) (h' : Held) : Type 0 where
  pub next_is : next ≡ cond (ltb (before bytes) (length bytes)) (Some (before bytes + 1)) None
  pub held_is : h' ≡ hold_bytes h (take (before bytes) bytes)

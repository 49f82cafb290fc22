-- The output, byte by byte: the bytes of the line that has begun are kept, and a line end has the line told. Assumes nothing.
use Prim.Native.Nat.{ℕ}
use mathlib.Core.Path.{◌≡◌, refl, sym, ap, ◌∙◌}
use mathlib.Core.Bool.{Bool, true, false, cond}
use mathlib.Core.List.{List, [], ◌∷◌, ◌++◌, append_assoc}
use lib.Dec.{eqb}
use Rattle.std.specs.Prelude.{Option, None, Some}
use Rattle.transcript.specs.Reading.{line_of}
use Rattle.lines.specs.declared.Line.{Line}
use Rattle.lines.specs.declared.Line.TheVariants as line
use Rattle.transcript.specs.Output.{Stand, opening, ended, Reply, silent, tell_bad, tell_sizes, tell_row, due, judged, tell_event, tell, told, last_line, lines_from, output}

-- where a run stands in the middle of a line, of which these bytes have come
pub record Going : Type 0 where
  pub stand : Stand
  pub begun : List ℕ

-- one byte: a line end has the line told, and any other byte joins the line
unfoldable pub byte_leaves : Going → ℕ → Going
byte_leaves g b =
    cond (eqb b 10) (record { stand = (tell g.stand (line_of g.begun)).stand; begun = [] }) (record { stand = g.stand; begun = g.begun ++ (b ∷ []) })

unfoldable pub byte_prints : Going → ℕ → List ℕ
byte_prints g b = cond (eqb b 10) (tell g.stand (line_of g.begun)).bytes []

-- some bytes
unfoldable pub bytes_leave : Going → List ℕ → Going
bytes_leave g [] = g
bytes_leave g (b ∷ bs) = bytes_leave (byte_leaves g b) bs

unfoldable pub bytes_print : Going → List ℕ → List ℕ
bytes_print g [] = []
bytes_print g (b ∷ bs) = byte_prints g b ++ bytes_print (byte_leaves g b) bs

-- the end of the input: a line that has begun is told, and then what is due
unfoldable pub end_prints_law : Going → List ℕ
end_prints_law g = told g.stand (last_line g.begun)

-- some bytes and then some more
pub leave_append : (g : Going) (xs ys : List ℕ) → bytes_leave g (xs ++ ys) ≡ bytes_leave (bytes_leave g xs) ys
unfolding bytes_leave
leave_append g [] ys = refl
leave_append g (x ∷ xs) ys = leave_append (byte_leaves g x) xs ys

pub print_append : (g : Going) (xs ys : List ℕ) → bytes_print g (xs ++ ys) ≡ bytes_print g xs ++ bytes_print (bytes_leave g xs) ys
unfolding bytes_leave bytes_print
print_append g [] ys = refl
print_append g (x ∷ xs) ys =
    ap (λ (l : List ℕ). byte_prints g x ++ l) (print_append (byte_leaves g x) xs ys)
    ∙ sym (append_assoc (byte_prints g x) (bytes_print (byte_leaves g x) xs) (bytes_print (bytes_leave (byte_leaves g x) xs) ys))

-- byte by byte the same is printed as line by line
pub by_bytes : (g : Going) (bytes : List ℕ) → bytes_print g bytes ++ end_prints_law (bytes_leave g bytes) ≡ told g.stand (lines_from g.begun bytes)
unfolding bytes_print bytes_leave byte_prints byte_leaves end_prints_law lines_from told
by_bytes g [] = refl
by_bytes g (b ∷ bs) = append_assoc (byte_prints g b) (bytes_print (byte_leaves g b) bs) (end_prints_law (bytes_leave (byte_leaves g b) bs)) ∙ ap (λ (l : List ℕ). byte_prints g b ++ l) (by_bytes (byte_leaves g b) bs) ∙ go (eqb b 10) refl
  where
    go : (q : Bool) → eqb b 10 ≡ q → byte_prints g b ++ told (byte_leaves g b).stand (lines_from (byte_leaves g b).begun bs) ≡ told g.stand (cond (eqb b 10) (g.begun ∷ lines_from [] bs) (lines_from (g.begun ++ (b ∷ [])) bs))
    go true e = rw e
    go false e = rw e

-- the whole input
pub output_by_bytes : (input : List ℕ)
    → bytes_print (record { stand = opening; begun = [] }) input ++ end_prints_law (bytes_leave (record { stand = opening; begun = [] }) input) ≡ output input
unfolding output
output_by_bytes input = by_bytes (record { stand = opening; begun = [] }) input

-- past the last line nothing is printed
tell_ended : (l : Option Line) → tell ended l ≡ silent ended
unfolding tell tell_sizes tell_row tell_event tell_bad due judged silent
tell_ended (Some (line.Sizes k C)) = refl
tell_ended (Some (line.Row nine)) = refl
tell_ended (Some (line.Event p n values)) = refl
tell_ended None = refl

byte_ended : (begun : List ℕ) (b : ℕ) → ((byte_leaves (record { stand = ended; begun = begun }) b).stand ≡ ended) × (byte_prints (record { stand = ended; begun = begun }) b ≡ [])
unfolding byte_leaves byte_prints silent
byte_ended begun b = go (eqb b 10) refl
  where
    go : (q : Bool) → eqb b 10 ≡ q → ((byte_leaves (record { stand = ended; begun = begun }) b).stand ≡ ended) × (byte_prints (record { stand = ended; begun = begun }) b ≡ [])
    go true e = rw e (ap (λ (r : Reply). r.stand) (tell_ended (line_of begun)), ap (λ (r : Reply). r.bytes) (tell_ended (line_of begun)))
    go false e = rw e (refl, refl)

lines_ended : (begun : List ℕ) → told ended (last_line begun) ≡ []
unfolding told last_line due silent
lines_ended [] = refl
lines_ended (b ∷ bs) = rw (tell_ended (line_of (b ∷ bs))) refl

pub ended_prints : (g : Going) (bytes : List ℕ) → g.stand ≡ ended → bytes_print g bytes ++ end_prints_law (bytes_leave g bytes) ≡ []
unfolding bytes_print bytes_leave end_prints_law
ended_prints g [] e = rw e (lines_ended g.begun)
ended_prints g (b ∷ bs) e =
    let now : ((byte_leaves g b).stand ≡ ended) × (byte_prints g b ≡ []) = rw e (byte_ended g.begun b) in
    rw now.1 (ended_prints (byte_leaves g b) bs now.0)

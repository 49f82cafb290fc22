-- Laws of how a state, an answer and what looking a value up tells are laid out as numbers. Assumes nothing.
use Prim.Native.Nat.{ℕ, ◌≤◌}
use mathlib.Core.Path.{◌≡◌, refl, ap, sym, ◌∙◌}
use mathlib.Core.Bool.{Bool, true, false}
use mathlib.Core.List.{List, [], ◌∷◌, ◌++◌, append-nil, append_assoc}
use native.Mathlib.Omega.{arith}
use lib.ListN.{length, get_or, take, drop, set, length-append, length-drop, take-append-drop, drop_of_length-le}
use lib.Seq.{take_all, take_at, drop_at, drop-drop}
use Rattle.meaning.specs.declared.State.{State}
use Rattle.meaning.specs.declared.Answer.{Answer}
use Rattle.meaning.specs.declared.Answer.TheVariants.{Started, Verdict, Refused}
use Rattle.monitor.specs.declared.Figures.{Figures}
use Rattle.monitor.specs.Said.{whole, figures_of as figures}
use Rattle.linked.specs.Packing.{packed_state, figures_of, references_of, sizes_in, unpacked_state, bit, first_four, first_six, packed_answer}
use Rattle.std.specs.Int.{from_bool}
use borrow.Rule.Slice.PartMut.{put_mid}

-- yes is 1 and no is 0
pub bit_is : (y : Bool) → from_bool y ≡ bit y
unfolding bit
bit_is true = refl
bit_is false = refl

-- the ten numbers of an answer, one after the other
pub answer_packed : (a : Answer) (complements swept : ℕ) (ns first : List ℕ) → length ns ≡ 4 → first ≡ first_four a
    → get_or first 0 0 ∷ get_or first 1 0 ∷ get_or first 2 0 ∷ get_or first 3 0 ∷ complements ∷ swept ∷ get_or ns 0 0 ∷ get_or ns 1 0 ∷ get_or ns 2 0 ∷ get_or ns 3 0 ∷ [] ≡ packed_answer a complements swept ns
unfolding first_four first_six packed_answer
answer_packed Started c s (p ∷ q ∷ r ∷ t ∷ []) first h e = rw e refl
answer_packed (Verdict y kept room) c s (p ∷ q ∷ r ∷ t ∷ []) first h e = rw e refl
answer_packed (Refused n o) c s (p ∷ q ∷ r ∷ t ∷ []) first h e = rw e refl
answer_packed a c s [] first h e = absurd (omega arith)
answer_packed a c s (p ∷ []) first h e = absurd (omega arith)
answer_packed a c s (p ∷ q ∷ []) first h e = absurd (omega arith)
answer_packed a c s (p ∷ q ∷ r ∷ []) first h e = absurd (omega arith)
answer_packed a c s (p ∷ q ∷ r ∷ t ∷ x ∷ xs) first h e = absurd (omega arith)

-- nothing of d is left where a list of its length is written over it
all_over : (d s : List ℕ) (n : ℕ) → length d ≤ n → s ++ drop n d ≡ s
all_over d s n h = rw (drop_of_length-le d h, append-nil) refl

-- a list written behind a front, over what stood there
behind : (front rest s xs : List ℕ) (n k : ℕ) → length front ≡ n → xs ≡ front ++ rest → put_mid n k xs s ≡ (front ++ s) ++ drop k rest
behind front rest s xs n k h q =
    let a : take n xs ≡ front = ap (take n) q ∙ take_at front rest n h in
    let b : drop n xs ≡ rest = ap (drop n) q ∙ drop_at front rest n h in
    rw (a, b) (sym (append_assoc front s (drop k rest)))

-- counts written behind three numbers, references behind those, and sizes behind those, over 132 numbers
behind_three : (a b c : ℕ) (xs cs rs zs : List ℕ) → length xs ≡ 132 → length cs ≡ 4 → length rs ≡ 64 → length zs ≡ 64
    → put_mid 71 64 (put_mid 7 64 (put_mid 3 4 (a ∷ b ∷ c ∷ xs) cs) rs) zs ≡ a ∷ b ∷ c ∷ (cs ++ (rs ++ zs))
behind_three a b c xs cs rs zs h hc hr hz =
    let f : List ℕ = a ∷ b ∷ c ∷ [] in
    let p : put_mid 3 4 (a ∷ b ∷ c ∷ xs) cs ≡ (f ++ cs) ++ drop 4 xs = behind f xs cs (a ∷ b ∷ c ∷ xs) 3 4 refl refl in
    let q : put_mid 7 64 (put_mid 3 4 (a ∷ b ∷ c ∷ xs) cs) rs ≡ ((f ++ cs) ++ rs) ++ drop 64 (drop 4 xs) =
    behind (f ++ cs) (drop 4 xs) rs (put_mid 3 4 (a ∷ b ∷ c ∷ xs) cs) 7 64 (simp length-append (omega arith)) p in
    let r : put_mid 71 64 (put_mid 7 64 (put_mid 3 4 (a ∷ b ∷ c ∷ xs) cs) rs) zs ≡ (((f ++ cs) ++ rs) ++ zs) ++ drop 64 (drop 64 (drop 4 xs)) =
    behind ((f ++ cs) ++ rs) (drop 64 (drop 4 xs)) zs (put_mid 7 64 (put_mid 3 4 (a ∷ b ∷ c ∷ xs) cs) rs) 71 64 (simp length-append (omega arith)) q in
    let e : length (drop 64 (drop 4 xs)) ≤ 64 = simp length-drop (omega arith) in
    r ∙ all_over (drop 64 (drop 4 xs)) (((f ++ cs) ++ rs) ++ zs) 64 e ∙ append_assoc (f ++ cs) rs zs

-- a state written over 135 numbers
pub state_written : (s : State) (xs : List ℕ) → length xs ≡ 135 → length s.counts ≡ 4 → length s.refs ≡ 64 → length s.sizes ≡ 64
    → put_mid 71 64 (put_mid 7 64 (put_mid 3 4 (set (set (set xs 0 s.k) 1 s.rows) 2 s.kept) s.counts) s.refs) s.sizes ≡ packed_state s
unfolding packed_state
state_written s [] h hc hr hz = absurd (omega arith)
state_written s (x ∷ []) h hc hr hz = absurd (omega arith)
state_written s (x ∷ y ∷ []) h hc hr hz = absurd (omega arith)
state_written s (x ∷ y ∷ z ∷ xs) h hc hr hz = behind_three s.k s.rows s.kept xs s.counts s.refs s.sizes (omega arith) hc hr hz

-- a state is its figures, its references and its sizes
pub state_same : (s : State) (f : Figures) → f ≡ figures s → whole f s.refs s.sizes ≡ s
state_same s f e = ap (λ (x : Figures). whole x s.refs s.sizes) e

-- what is read from a packed state is the state
pub unpack_pack : (s : State) → length s.counts ≡ 4 → length s.refs ≡ 64 → length s.sizes ≡ 64 → unpacked_state (packed_state s) ≡ s
unfolding packed_state unpacked_state figures_of references_of sizes_in
unpack_pack s hc hr hz =
    let a : take 4 (s.counts ++ (s.refs ++ s.sizes)) ≡ s.counts = take_at s.counts (s.refs ++ s.sizes) 4 hc in
    let b : take 64 (drop 4 (s.counts ++ (s.refs ++ s.sizes))) ≡ s.refs = ap (take 64) (drop_at s.counts (s.refs ++ s.sizes) 4 hc) ∙ take_at s.refs s.sizes 64 hr in
    let c : take 64 (drop 68 (s.counts ++ (s.refs ++ s.sizes))) ≡ s.sizes =
    ap (λ (l : List ℕ). take 64 (drop 68 l)) (sym (append_assoc s.counts s.refs s.sizes))
    ∙ ap (take 64) (drop_at (s.counts ++ s.refs) s.sizes 68 (simp length-append (omega arith)))
    ∙ take_all 64 s.sizes (omega arith) in
    λ i. record { k = s.k; rows = s.rows; kept = s.kept; counts = a i; refs = b i; sizes = c i }

-- every 135 numbers are a packed state
pub pack_unpack : (xs : List ℕ) → length xs ≡ 135 → packed_state (unpacked_state xs) ≡ xs
unfolding packed_state unpacked_state figures_of references_of sizes_in
pack_unpack [] h = absurd (omega arith)
pack_unpack (x ∷ []) h = absurd (omega arith)
pack_unpack (x ∷ y ∷ []) h = absurd (omega arith)
pack_unpack (x ∷ y ∷ z ∷ xs) h =
    let a : take 64 (drop 68 xs) ≡ drop 64 (drop 4 xs) = take_all 64 (drop 68 xs) (simp length-drop (omega arith)) ∙ sym (drop-drop 64 4 xs) in
    ap (λ (l : List ℕ). x ∷ y ∷ z ∷ l)
    (ap (λ (l : List ℕ). take 4 xs ++ (take 64 (drop 4 xs) ++ l)) a ∙ ap (λ (l : List ℕ). take 4 xs ++ l) (take-append-drop 64 (drop 4 xs)) ∙ take-append-drop 4 xs)

-- packing is one to one
pub one_state : (s t : State) → length s.counts ≡ 4 → length s.refs ≡ 64 → length s.sizes ≡ 64 → length t.counts ≡ 4 → length t.refs ≡ 64 → length t.sizes ≡ 64
    → packed_state s ≡ packed_state t → s ≡ t
one_state s t hc hr hz hd he hy e = sym (unpack_pack s hc hr hz) ∙ ap unpacked_state e ∙ unpack_pack t hd he hy

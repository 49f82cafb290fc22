-- Mending under way: a piece that goes, a block that stays, and the end. Assumes nothing.
use Prim.Native.Nat.{ℕ, ◌+◌, ◌-◌, ◌*◌, ◌/◌, ◌≤◌, ◌<◌, min}
use native.Mathlib.Omega.{arith}
use mathlib.Core.Path.{◌≡◌, refl, sym, ap, ◌∙◌}
use mathlib.Core.Bool.{Bool, true, false, ◌&&◌, ◌||◌}
use mathlib.Core.List.{List, [], ◌∷◌, ◌++◌, append-nil, append_assoc}
use lib.ListN.{length, take, drop, length-append, length-drop, take-append-drop}
use lib.Seq.{sets, length-sets, drop-drop, drop_at, take_all, length-take-le}
use Rattle.cards.specs.Bytes.{joined}
use Rattle.cards.specs.Moments.{Record, flagged}
use Rattle.cards.specs.Blocks.{Block, Reason, block_of, block_bytes, Piece, piece_of, pieces}
use Rattle.cards.specs.Reading.{Before, start, runs_on, after, stays, goes, fate, fates}
use Rattle.cards.specs.Mending.{kept, from_first, to_last, mend_from, mended_blocks, card_bytes, mended, Listed, kept_less, gone, listing, listed}
use Rattle.cards.specs.Mending as Mending
use Rattle.cards.specs.Piecewise.{flagged_ahead}
use Rattle.cards.proofs.BlockLaws.{length_block}
use Rattle.cards.proofs.FateLaws.{fates_stays, fates_goes}
use Rattle.cards.proofs.PieceLaws.{pieces_none}
use Rattle.cards.proofs.Ahead.{kept_stays, kept_goes, ahead_flagged}
use Rattle.card_block.specs.Shapes.{records_from}
use Rattle.card_block.specs.Judging.{Carries, meant, nothing}
use Rattle.card_block.proofs.Judgements.{carries_start}
use Rattle.card_block.proofs.PieceEnds.{pieces_cut}
use Rattle.std.proofs.Common.{Ok, Err}
use Rattle.card_writer.specs.Sheets.{block_with}
use Rattle.card_mender.specs.declared.Held.{Held}
use Rattle.card_mender.specs.declared.State.{State}
use Rattle.card_mender.specs.Weighing.{weighed, stay_to}
use Rattle.card_mender.specs.Lines.{word, line_of, lines_of, pieces_in, Room, Mends}
use Rattle.card_mender.specs.Turning.{bytes_to_come, lines_to_come, Going, Ready, Turns, Whole, PutHeld}
use Rattle.card_mender.proofs.FlagLaws.{length_from}
use Rattle.card_mender.proofs.Weights.{Weighs, weighs_right}
use Rattle.card_writer.proofs.StoreLaws.{sets_take, sets_drop}

-- the pieces to come, one by one
bytes_goes : (begun : Bool) (f : Before) (p : Piece) (ps : List Piece) (why : Reason) → fate f p ≡ goes why
    → bytes_to_come begun f (p ∷ ps) ≡ bytes_to_come begun f ps
unfolding bytes_to_come
bytes_goes begun f p ps why e = rw (kept_goes f p ps why e)

lines_goes : (begun : Bool) (f : Before) (p : Piece) (ps : List Piece) (why : Reason) → fate f p ≡ goes why
    → lines_to_come begun f (p ∷ ps) ≡ gone why ∷ lines_to_come begun f ps
unfolding lines_to_come listing kept
lines_goes begun f p ps why e = rw (fates_goes f p ps why e)

-- the records that stay in a block
abbrev staying : Bool → Before → Block → List Piece → List Record
staying begun f b ps = to_last (flagged_ahead (after f b) ps) (from_first (begun && runs_on f.next b) b.records)

abbrev began : Bool → Before → Block → Bool
began begun f b = (begun && runs_on f.next b) || flagged b.records

mend_stays : (begun : Bool) (f : Before) (p : Piece) (ps : List Piece) (b : Block) → fate f p ≡ stays b
    → mend_from begun f.next (kept (fates f (p ∷ ps)))
    ≡ block_with b.number (staying begun f b ps) ∷ mend_from (began begun f b) (after f b).next (kept (fates (after f b) ps))
unfolding mend_from block_with after
mend_stays begun f p ps b e = rw (kept_stays f p ps b e, ahead_flagged (after f b) ps)

bytes_stays : (begun : Bool) (f : Before) (p : Piece) (ps : List Piece) (b : Block) → fate f p ≡ stays b
    → bytes_to_come begun f (p ∷ ps) ≡ block_bytes (block_with b.number (staying begun f b ps)) ++ bytes_to_come (began begun f b) (after f b) ps
unfolding bytes_to_come card_bytes joined
bytes_stays begun f p ps b e = rw (mend_stays begun f p ps b e)

lines_stays : (begun : Bool) (f : Before) (p : Piece) (ps : List Piece) (b : Block) → fate f p ≡ stays b
    → lines_to_come begun f (p ∷ ps) ≡ kept_less (length b.records - length (staying begun f b ps)) ∷ lines_to_come (began begun f b) (after f b) ps
unfolding lines_to_come listing block_with
lines_stays begun f p ps b e = rw (mend_stays begun f p ps b e, fates_stays f p ps b e)

lines_cons : (l : Listed) (ls : List Listed) → lines_of (l ∷ ls) ≡ line_of l ++ lines_of ls
unfolding lines_of joined
lines_cons l ls = refl

-- at the beginning
pub going_start : (card out list : List ℕ) (s : State) → s ≡ record { carried = nothing; begun = true; put = 0 } → Going card out list s card 0 out list
unfolding bytes_to_come lines_to_come mended mended_blocks Mending.list listed start
going_start card out list s e =
    rw e
    (record {
      before = start;
      carries = carries_start;
      here = omega arith;
      behind = omega arith;
      out_size = refl;
      list_size = refl;
      puts = refl;
      tail = refl;
      lines = refl;
      rest = refl;
    })

-- one turn
module _ {piece left : List ℕ} {place : ℕ} {s : State} {out list : List ℕ} (y : Ready piece left place s out list) where
  cut_here : pieces (piece ++ left) ≡ piece_of piece ∷ pieces left
  cut_here =
      pieces_cut (piece ++ left) piece left
      (record { parts = refl; size = omega (arith, y.size, length-append piece left); some = omega (arith, y.some, length-append piece left) })

  next_here : (n : ℕ) → length (piece ++ left) ≡ n - 512 * place → length left ≡ n - 512 * (place + 1)
  next_here n e = omega (arith, y.size, length-append piece left)

  line_more : (list₀ list₁ : List ℕ) (a b : ℕ) → list₁ ≡ sets list (2 * place) (a ∷ b ∷ [])
      → (take (2 * (place + 1)) list₁ ≡ take (2 * place) list ++ (a ∷ b ∷ []))
      × ((drop (2 * place) list ≡ drop (2 * place) list₀) → drop (2 * (place + 1)) list₁ ≡ drop (2 * (place + 1)) list₀)
  line_more list₀ list₁ a b e =
      let two : 2 * (place + 1) ≡ 2 * place + 2 = omega arith in (
        rw (two, e) (sets_take list (2 * place) (a ∷ b ∷ []) y.lines),
        λ r.
            rw (two, e)
            (sets_drop list (2 * place) (a ∷ b ∷ []) y.lines
            ∙ sym (drop-drop 2 (2 * place) list) ∙ ap (drop 2) r ∙ drop-drop 2 (2 * place) list₀),
      )

  pub going_gone : (why : Rattle.card_block.specs.declared.Reason.Reason) (w : ℕ) (list₁ : List ℕ) → Err why ≡ weighed piece s.carried s.begun
      → w ≡ word (meant why) → list₁ ≡ sets list (2 * place) (w ∷ 0 ∷ []) → Turns piece left place s out list s out list₁
  unfolding line_of
  going_gone why w list₁ e v q =
      record {
        on = λ card out₀ list₀ g.
            let goer : fate g.before (piece_of piece) ≡ goes (meant why) =
            rw (sym e) at (weighs_right g.before s.carried s.begun piece g.carries) in
            record {
              before = g.before;
              carries = g.carries;
              here = next_here (length card) g.here;
              behind = omega (arith, g.behind, length-append piece left);
              out_size = g.out_size;
              list_size = ap length q ∙ length-sets list (2 * place) (w ∷ 0 ∷ []) ∙ g.list_size;
              puts =
                  ap (λ (l : List ℕ). take s.put out ++ l)
                  (sym (bytes_goes s.begun g.before (piece_of piece) (pieces left) (meant why) goer) ∙ ap (bytes_to_come s.begun g.before) (sym cut_here))
                  ∙ g.puts;
              tail = g.tail;
              lines =
                  ap (λ (l : List ℕ). l ++ lines_of (lines_to_come s.begun g.before (pieces left))) (line_more list₀ list₁ w 0 q).0
                  ∙ append_assoc (take (2 * place) list) (w ∷ 0 ∷ []) (lines_of (lines_to_come s.begun g.before (pieces left)))
                  ∙ ap (λ (l : List ℕ). take (2 * place) list ++ l)
                  (ap (λ (n : ℕ). n ∷ 0 ∷ lines_of (lines_to_come s.begun g.before (pieces left))) v
                  ∙ sym (lines_cons (gone (meant why)) (lines_to_come s.begun g.before (pieces left)))
                  ∙ ap lines_of
                  (sym (lines_goes s.begun g.before (piece_of piece) (pieces left) (meant why) goer) ∙ ap (lines_to_come s.begun g.before) (sym cut_here)))
                  ∙ g.lines;
              rest = (line_more list₀ list₁ w 0 q).1 g.rest;
            };
      }

  weigher : (h : Held) → Ok h ≡ weighed piece s.carried s.begun → (f : Before) → Carries f s.carried → Weighs f s.begun piece h
  weigher h e f k = rw (sym e) at (weighs_right f s.carried s.begun piece k)

  pub held_whole : (h : Held) → Ok h ≡ weighed piece s.carried s.begun → Whole piece h
  held_whole h e =
      let w : Weighs y.before s.begun piece h = weigher h e y.before y.carries in
      record {
        before = after y.before (block_of piece);
        carries = w.carries;
        whole = w.whole;
        order = w.order;
        most = w.inside;
        few = w.few;
      }

  pub going_kept : (h : Held) (n to : ℕ) (out₁ list₁ : List ℕ) (r : State) → Ok h ≡ weighed piece s.carried s.begun
      → ((f : Before) → Carries f h.carried → PutHeld (flagged_ahead f (pieces left)) piece h s.put out out₁ to)
      → n ≡ h.records - (to - h.«from») → list₁ ≡ sets list (2 * place) (0 ∷ n ∷ [])
      → r ≡ record { carried = h.carried; begun = h.begun; put = s.put + 512 } → Turns piece left place s out list r out₁ list₁
  unfolding line_of
  going_kept h n to out₁ list₁ r e p m q t =
      rw t
      (record {
        on = λ card out₀ list₀ g.
            let w : Weighs g.before s.begun piece h = weigher h e g.before g.carries in
            let ps : List Piece = pieces left in
            let b : Block = block_of piece in
            let z : PutHeld (flagged_ahead (after g.before b) ps) piece h s.put out out₁ to = p (after g.before b) w.carries in
            let room : s.put + 512 ≤ length out = omega (arith, w.whole, y.bytes) in
            let stay : records_from (to - h.«from») (drop (6 + 24 * h.«from») piece) ≡ staying s.begun g.before b ps =
            ap (λ (k : ℕ). records_from (k - h.«from») (drop (6 + 24 * h.«from») piece)) z.to_is ∙ sym (w.keeps (flagged_ahead (after g.before b) ps)) in
            let block : List ℕ = block_bytes (block_with b.number (staying s.begun g.before b ps)) in
            let stored : out₁ ≡ sets out s.put block = z.puts ∙ ap (λ (l : List Record). sets out s.put (block_bytes (block_with b.number l))) stay in
            let long : length block ≡ 512 = length_block (block_with b.number (staying s.begun g.before b ps)) in
            let far : s.put + 512 ≡ s.put + length block = omega (arith, long) in
            let fits : s.put + length block ≤ length out = omega (arith, long, room) in
            let less : n ≡ length b.records - length (staying s.begun g.before b ps) =
            omega (arith, m, w.count, ap length stay, length_from (to - h.«from») (drop (6 + 24 * h.«from») piece)) in
            record {
              before = after g.before b;
              carries = w.carries;
              here = next_here (length card) g.here;
              behind = omega (arith, g.behind, w.whole, length-append piece left);
              out_size = ap length stored ∙ length-sets out s.put block ∙ g.out_size;
              list_size = ap length q ∙ length-sets list (2 * place) (0 ∷ n ∷ []) ∙ g.list_size;
              puts =
                  ap (λ (k : ℕ). take k out₁ ++ bytes_to_come h.begun (after g.before b) ps) far
                  ∙ ap (λ (l : List ℕ). l ++ bytes_to_come h.begun (after g.before b) ps) (ap (take (s.put + length block)) stored ∙ sets_take out s.put block fits)
                  ∙ append_assoc (take s.put out) block (bytes_to_come h.begun (after g.before b) ps)
                  ∙ ap (λ (l : List ℕ). take s.put out ++ l)
                  (ap (λ (k : Bool). block ++ bytes_to_come k (after g.before b) ps) w.begins
                  ∙ sym (bytes_stays s.begun g.before (piece_of piece) ps b w.stay)
                  ∙ ap (bytes_to_come s.begun g.before) (sym cut_here))
                  ∙ g.puts;
              tail =
                  ap (λ (k : ℕ). drop k out₁) far
                  ∙ ap (drop (s.put + length block)) stored
                  ∙ sets_drop out s.put block fits
                  ∙ sym (drop-drop (length block) s.put out)
                  ∙ ap (drop (length block)) g.tail
                  ∙ drop-drop (length block) s.put out₀
                  ∙ ap (λ (k : ℕ). drop k out₀) (sym far);
              lines =
                  ap (λ (l : List ℕ). l ++ lines_of (lines_to_come h.begun (after g.before b) ps)) (line_more list₀ list₁ 0 n q).0
                  ∙ append_assoc (take (2 * place) list) (0 ∷ n ∷ []) (lines_of (lines_to_come h.begun (after g.before b) ps))
                  ∙ ap (λ (l : List ℕ). take (2 * place) list ++ l)
                  (ap (λ (k : ℕ). 0 ∷ k ∷ lines_of (lines_to_come h.begun (after g.before b) ps)) less
                  ∙ sym (lines_cons (kept_less (length b.records - length (staying s.begun g.before b ps))) (lines_to_come h.begun (after g.before b) ps))
                  ∙ ap lines_of
                  (ap (λ (k : Bool). kept_less (length b.records - length (staying s.begun g.before b ps)) ∷ lines_to_come k (after g.before b) ps) w.begins
                  ∙ sym (lines_stays s.begun g.before (piece_of piece) ps b w.stay)
                  ∙ ap (lines_to_come s.begun g.before) (sym cut_here)))
                  ∙ g.lines;
              rest = (line_more list₀ list₁ 0 n q).1 g.rest;
            };
      })

-- how far records stay lies between
pub stay_between : (later : Bool) (h : Held) → h.«from» ≤ h.last → h.last ≤ h.records → (h.«from» ≤ stay_to later h) × (stay_to later h ≤ h.records)
unfolding stay_to
stay_between true h a b = (omega arith, omega arith)
stay_between false h a b = (a, b)

-- at the end
pub going_end : {card out₀ list₀ : List ℕ} {s : State} {left : List ℕ} {place : ℕ} {out list : List ℕ} → Going card out₀ list₀ s left place out list
    → Room card out₀ list₀ → length left ≡ 0 → place ≡ pieces_in (length card) → Mends card out₀ list₀ s.put out list
unfolding bytes_to_come lines_to_come fates kept mend_from listing card_bytes joined lines_of
going_end {card} {out₀} {list₀} {s} {left} {place} {out} {list} g room h e =
    let none : pieces left ≡ [] = pieces_none left (omega arith) in
    let all : take s.put out ≡ mended card =
    sym (append-nil (take s.put out)) ∙ (rw none at g.puts) in
    let each : take (2 * place) list ≡ lines_of (Mending.list card) =
    sym (append-nil (take (2 * place) list)) ∙ (rw none at g.lines) in
    record {
      room = room;
      put = sym (take-append-drop s.put out) ∙ ap (λ (l : List ℕ). l ++ drop s.put out) all ∙ ap (λ (l : List ℕ). mended card ++ l) g.tail;
      count = sym (length-take-le s.put out (omega (arith, g.behind, g.out_size, room.bytes))) ∙ ap length all;
      listed =
          sym (take-append-drop (2 * place) list) ∙ ap (λ (l : List ℕ). l ++ drop (2 * place) list) each
          ∙ ap (λ (l : List ℕ). lines_of (Mending.list card) ++ l) g.rest ∙ ap (λ (k : ℕ). lines_of (Mending.list card) ++ drop (2 * k) list₀) e;
    }

-- the count of turns
pub counted_pieces : (n place : ℕ) → n ≤ 512 * place → 512 * place < n + 512 → place ≡ pieces_in n
unfolding pieces_in
counted_pieces n place a b = omega arith

-- bounds that the code needs
pub to_between : {piece : List ℕ} {h : Held} (later : Bool) (to : ℕ) → Whole piece h → to ≡ stay_to later h → (h.«from» ≤ to) × (to ≤ h.records)
to_between {piece} {h} later to w e = rw e (stay_between later h w.order w.most)

pub ready_lines : (n place list : ℕ) → 512 * place < n → pieces_in n ≤ list / 2 → 2 * place + 2 ≤ list
unfolding pieces_in
ready_lines n place list a b = omega arith

-- the next piece of a card, with the rest behind it
module _ {card out₀ list₀ out list all : List ℕ} {s : State} {count : ℕ} (place : ℕ) (piece left : List ℕ) (g : Going card out₀ list₀ s all count out list) (e : place ≡ count)
    (at : all ≡ drop (512 * count) card) (parts : all ≡ piece ++ left) (size : length piece ≡ min 512 (length all)) (some : 0 < length all) where
  abbrev behind : List ℕ
  behind = take (length card - (512 * place + length piece)) (drop (512 * place + length piece) card)

  behind_is : behind ≡ left
  behind_is =
      take_all (length card - (512 * place + length piece)) (drop (512 * place + length piece) card) (omega (arith, length-drop (512 * place + length piece) card))
      ∙ rw e
      (sym (drop-drop (length piece) (512 * count) card) ∙ ap (drop (length piece)) (sym at ∙ parts) ∙ drop_at piece left (length piece) refl)

  pub ready_next : length card ≤ length out₀ → pieces_in (length card) ≤ length list₀ / 2 → Ready piece behind place s out list
  ready_next room lines =
      rw behind_is
      (record {
        before = g.before;
        carries = g.carries;
        some = omega arith;
        size = omega (arith, size, ap length parts, length-append piece left);
        bytes = omega (arith, size, g.behind, g.out_size, room);
        lines =
            rw e (omega (arith, g.list_size, ready_lines (length card) count (length list₀) (omega (arith, ap length at, length-drop (512 * count) card, some)) lines));
      })

  pub going_next : {r : State} {out₁ list₁ : List ℕ} → Turns piece behind place s out list r out₁ list₁
      → Going card out₀ list₀ r left (count + 1) out₁ list₁
  going_next {r} {out₁} {list₁} t =
      let u : Turns piece left count s out list r out₁ list₁ = rw (behind_is, e) at t in
      u.on card out₀ list₀ (rw parts at g)

  pub counted_next : 512 * (count + 1) < length card + 512
  counted_next = omega (arith, ap length at, length-drop (512 * count) card, some)

-- Two outcomes that keep the promise of a public function are the same. Assumes nothing.
use Prim.Native.Nat.{ℕ}
use mathlib.Core.Path.{◌≡◌, ap, sym, ◌∙◌}
use mathlib.Core.List.{List}
use Rattle.meaning.specs.declared.Turn.{Turn}
use Rattle.meaning.specs.declared.Event.{Event}
use Rattle.meaning.specs.Outcome.{Machine}
use Rattle.meaning.specs.declared.Answer.{Answer}
use Rattle.meaning.specs.declared.Answer.TheVariants.{Started, Verdict, Refused}
use Rattle.monitor.specs.declared.Said.{Said}
use Rattle.monitor.specs.Calls.{Starts, Happens}
use Rattle.monitor.specs.Said.{turn_of}
use Rattle.monitor.specs.Visits.{complements_told, swept_told, Looks}
use Rattle.monitor.specs.Numbered.{numbered_told, Numbers}

-- `start`: the turn and both slices
pub one_start : (k : ℕ) (rows nodes values : List ℕ) (t u : Turn) (ns vs ms ws : List ℕ) → Starts k rows nodes values t ns vs → Starts k rows nodes values u ms ws → (t ≡ u) × (ns ≡ ms) × (vs ≡ ws)
one_start k rows nodes values t u ns vs ms ws a b =
    let p : t.state ≡ u.state = a.state ∙ sym b.state in
    let q : t.answer ≡ u.answer = a.answer ∙ sym b.answer in
    (λ i. record { state = p i; answer = q i }, a.nodes_are ∙ sym b.nodes_are, a.values_are ∙ sym b.values_are)

-- `event`: the turn and the three slices
pub one_event : (rows : List ℕ) (m : Machine) (e : Event) (t u : Turn) (ns vs ws ns' vs' ws' : List ℕ) → Happens rows m e t ns vs ws → Happens rows m e u ns' vs' ws'
    → (t ≡ u) × (ns ≡ ns') × (vs ≡ vs') × (ws ≡ ws')
one_event rows m e t u ns vs ws ns' vs' ws' a b =
    let p : t.state ≡ u.state = a.state ∙ sym b.state in
    let q : t.answer ≡ u.answer = a.answer ∙ sym b.answer in
    (λ i. record { state = p i; answer = q i }, a.nodes_are ∙ sym b.nodes_are, a.values_are ∙ sym b.values_are, a.work_is ∙ sym b.work_is)

-- what is told of the visits is one number each
pub looks_are : (rows : List ℕ) (m : Machine) (e : Event) (a : Answer) (complements swept : ℕ) → Looks rows m e a complements swept → (complements ≡ complements_told rows m e a) × (swept ≡ swept_told rows m e a)
unfolding complements_told swept_told
looks_are rows m e Started complements swept l = l.tells
looks_are rows m e (Verdict y kept room) complements swept l = (l.tells.complements_are, l.tells.sweep_is)
looks_are rows m e (Refused n p) complements swept l = l.tells

-- `event_on`: what is said, the references, the sizes and the three slices
pub one_said : (rows : List ℕ) (m : Machine) (e : Event) (t u : Said) (rs ss zs ys ns vs ws ns' vs' ws' : List ℕ)
    → Happens rows m e (turn_of t rs zs) ns vs ws → Looks rows m e t.answer t.complements t.swept → Numbers rows m e t.answer t.numbered
    → Happens rows m e (turn_of u ss ys) ns' vs' ws' → Looks rows m e u.answer u.complements u.swept → Numbers rows m e u.answer u.numbered
    → (t ≡ u) × (rs ≡ ss) × (zs ≡ ys) × (ns ≡ ns') × (vs ≡ vs') × (ws ≡ ws')
one_said rows m e t u rs ss zs ys ns vs ws ns' vs' ws' a p g b q h =
    let o = one_event rows m e (turn_of t rs zs) (turn_of u ss ys) ns vs ws ns' vs' ws' a b in
    let f : t.figures ≡ u.figures = λ i. (let s = (o.0 i).state in record { k = s.k; rows = s.rows; kept = s.kept; counts = s.counts }) in
    let w : t.answer ≡ u.answer = λ i. (o.0 i).answer in
    let x = looks_are rows m e t.answer t.complements t.swept p in
    let y = looks_are rows m e u.answer u.complements u.swept q in
    let c : t.complements ≡ u.complements = x.0 ∙ ap (complements_told rows m e) w ∙ sym y.0 in
    let d : t.swept ≡ u.swept = x.1 ∙ ap (swept_told rows m e) w ∙ sym y.1 in
    let z : t.numbered ≡ u.numbered = g.tells ∙ ap (numbered_told rows m e) w ∙ sym h.tells in
    (λ i. record { figures = f i; answer = w i; complements = c i; swept = d i; numbered = z i }, λ i. (o.0 i).state.refs, λ i. (o.0 i).state.sizes, o.1, o.2, o.3)

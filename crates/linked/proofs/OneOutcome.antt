-- Two outcomes that keep the promise of a call are the same. Assumes nothing.
use Prim.Native.Nat.{ℕ}
use mathlib.Core.Path.{◌≡◌, sym, ◌∙◌}
use mathlib.Core.Bool.{Bool}
use mathlib.Core.List.{List}
use Rattle.linked.specs.Calls.{LinkedStart, LinkedEvent, LinkedLookup}

-- `moheguzari_start`: what is given back, and the four slices
pub one_start : (k : ℕ) (rows nodes values state answer : List ℕ) (r q : Bool) (ns vs ss as' ms us ts bs : List ℕ)
    → LinkedStart k rows nodes values state answer r ns vs ss as' → LinkedStart k rows nodes values state answer q ms us ts bs
    → (r ≡ q) × (ns ≡ ms) × (vs ≡ us) × (ss ≡ ts) × (as' ≡ bs)
one_start k rows nodes values state answer r q ns vs ss as' ms us ts bs a b =
    (a.called ∙ sym b.called, a.nodes_are ∙ sym b.nodes_are, a.values_are ∙ sym b.values_are, a.state_is ∙ sym b.state_is, a.answer_is ∙ sym b.answer_is)

-- `moheguzari_event`: what is given back, and the five slices
pub one_event : (rows nodes values work facts state answer : List ℕ) (r q : Bool) (ns vs ws ss as' ms us xs ts bs : List ℕ)
    → LinkedEvent rows nodes values work facts state answer r ns vs ws ss as' → LinkedEvent rows nodes values work facts state answer q ms us xs ts bs
    → (r ≡ q) × (ns ≡ ms) × (vs ≡ us) × (ws ≡ xs) × (ss ≡ ts) × (as' ≡ bs)
one_event rows nodes values work facts state answer r q ns vs ws ss as' ms us xs ts bs a b =
    (a.called ∙ sym b.called, a.nodes_are ∙ sym b.nodes_are, a.values_are ∙ sym b.values_are, a.work_is ∙ sym b.work_is, a.state_is ∙ sym b.state_is, a.answer_is ∙ sym b.answer_is)

-- `moheguzari_lookup`: what is given back, and the answer
pub one_lookup : (values state : List ℕ) (v y : ℕ) (answer : List ℕ) (r q : Bool) (as' bs : List ℕ) → LinkedLookup values state v y answer r as' → LinkedLookup values state v y answer q bs → (r ≡ q) × (as' ≡ bs)
one_lookup values state v y answer r q as' bs a b = (a.called ∙ sym b.called, a.answer_is ∙ sym b.answer_is)

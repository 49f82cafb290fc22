-- The cases of document 01 that are marked P, and some of several facts, as one list under one claim about the definitions. Assumes nothing.
use Prim.Native.Nat.{ℕ, suc, ◌*◌}
use mathlib.Core.Path.{◌≡◌, refl}
use mathlib.Core.Bool.{Bool, true, false, ◌&&◌}
use mathlib.Core.List.{List, [], ◌∷◌, ◌++◌}
use lib.ListN.{length, get_or, set, take, replicate}
use Rattle.trees.specs.Bits as Bits
use Rattle.trees.specs.Tree as Tree
use Rattle.trees.specs.Table as Table
use Rattle.trees.specs.Kept as Kept
use Rattle.trees.specs.Sizes as Sizes
use Rattle.trees.specs.Sizes.{same_numbers}
use Rattle.meaning.specs.declared.Event.{Event}
use Rattle.meaning.specs.declared.Fact.{Fact}
use Rattle.meaning.specs.declared.Answer.{Answer}
use Rattle.meaning.specs.declared.Answer.TheVariants.{Started, Verdict, Refused}
use Rattle.meaning.specs.Qtl as Qtl
use Rattle.meaning.specs.Rows as Rows
use Rattle.meaning.specs.Numbering as Numbering
use Rattle.meaning.specs.Step as Step
use Rattle.meaning.specs.Tables as Tables
use Rattle.meaning.specs.Outcome as Outcome
use Rattle.meaning.specs.Outcome.{Machine, machine_of, start_outcome, runs, answers, work_size}
use Rattle.meaning.specs.Tables.{most, padded}

-- what is claimed of a run: its answers; the kept nodes, the rows' references and their sizes at its end; how many values of each variable have
-- numbers; only what was said, 1 for yes, 0 for no, or the refusal's number; that one more event is refused with 4 once the size at a place is
-- one more than it was
data Claim : Type 0 where
  answered : List Answer → Claim
  kept : List ℕ → List ℕ → List ℕ → Claim
  numbered : List ℕ → Claim
  said : List ℕ → Claim
  misfit : ℕ → Event → Claim

-- a run from a fresh start: k, C, the rows, the events
record Case : Type 0 where
  k : ℕ
  C : ℕ
  rows : List ℕ
  events : List Event
  claim : Claim

numbers_of : Answer → List ℕ
numbers_of Started = 0 ∷ []
numbers_of (Verdict true n m) = 1 ∷ 1 ∷ n ∷ m ∷ []
numbers_of (Verdict false n m) = 1 ∷ 0 ∷ n ∷ m ∷ []
numbers_of (Refused n p) = 2 ∷ n ∷ p ∷ []

answers_agree : List Answer → List Answer → Bool
answers_agree [] [] = true
answers_agree [] (b ∷ bs) = false
answers_agree (a ∷ as') [] = false
answers_agree (a ∷ as') (b ∷ bs) = same_numbers (numbers_of a) (numbers_of b) && answers_agree as' bs

sayings : List Answer → List ℕ
sayings [] = []
sayings (Started ∷ as') = sayings as'
sayings (Verdict true n m ∷ as') = 1 ∷ sayings as'
sayings (Verdict false n m ∷ as') = 0 ∷ sayings as'
sayings (Refused n p ∷ as') = n ∷ sayings as'

begun : Case → Machine
begun c = machine_of (start_outcome c.k c.rows (replicate (3 * c.C) 0) (replicate (4 * most c.k) 0)) (replicate (work_size c.C) 0)

-- the size at a place is one more
damaged : ℕ → Machine → Machine
damaged i m =
    let s = m.state in
    record {
      state = record { k = s.k; rows = s.rows; kept = s.kept; counts = s.counts; refs = s.refs; sizes = set s.sizes i (suc (get_or s.sizes i 0)) };
      nodes = m.nodes;
      values = m.values;
      work = m.work;
    }

meets : Case → Claim → Bool
meets c (answered as') = answers_agree (answers c.rows (begun c) c.events) as'
meets c (said ns) = same_numbers (sayings (answers c.rows (begun c) c.events)) ns
meets c (kept nodes refs sizes) =
    let m = runs c.rows (begun c) c.events in
    same_numbers (take (3 * m.state.kept) m.nodes) nodes && (same_numbers (take (length refs) m.state.refs) refs && same_numbers m.state.sizes (padded 64 sizes))
meets c (numbered counts) = same_numbers (runs c.rows (begun c) c.events).state.counts counts
meets c (misfit i e) = same_numbers (sayings (answers c.rows (damaged i (runs c.rows (begun c) c.events)) (e ∷ []))) (4 ∷ [])

all_meet : List Case → Bool
all_meet [] = true
all_meet (c ∷ cs) = meets c c.claim && all_meet cs

-- a fact of n values
fact : ℕ → ℕ → ℕ → ℕ → Fact
fact p n x y = record { predicate = p; count = n; values = record { 0 = x } ∷ record { 0 = y } ∷ record { 0 = 0 } ∷ [] }

-- "The cases of 01 stand as lists of one": events of one fact, and rows
single : Fact → Event
single f = record { count = 1; facts = f ∷ replicate 7 f }

-- an event of up to 8 facts, and one that says 9
moment : List Fact → Event
moment fs = record { count = length fs; facts = take 8 (fs ++ replicate 8 (fact 0 0 0 0)) }

nine : Fact → Event
nine f = record { count = 9; facts = replicate 8 f }

event0 : ℕ → Event
event0 p = single (fact p 0 0 0)

event1 : ℕ → ℕ → Event
event1 p x = single (fact p 1 x 0)

event2 : ℕ → ℕ → ℕ → Event
event2 p x y = single (fact p 2 x y)

row : ℕ → ℕ → ℕ → List ℕ
row kind p q = kind ∷ p ∷ q ∷ 0 ∷ 0 ∷ 0 ∷ 0 ∷ 0 ∷ 0 ∷ []

-- an atom of one argument, and of two variables
atom1 : ℕ → ℕ → ℕ → List ℕ
atom1 p mark x = 2 ∷ p ∷ 1 ∷ mark ∷ x ∷ 0 ∷ 0 ∷ 0 ∷ 0 ∷ []

atom2 : ℕ → ℕ → ℕ → List ℕ
atom2 p x y = 2 ∷ p ∷ 2 ∷ 0 ∷ x ∷ 0 ∷ y ∷ 0 ∷ 0 ∷ []

-- rule K: 1 confirmed, 2 questioned, 3 shelved
rule_k : List ℕ
rule_k = atom1 3 0 0 ++ (atom1 2 0 0 ++ (row 4 1 0 ++ (atom1 1 0 0 ++ (row 5 2 3 ++ (row 4 4 0 ++ (row 3 0 5 ++ (row 7 0 6 ++ row 4 7 0)))))))

events_k : List Event
events_k = event1 1 7 ∷ event1 3 7 ∷ event1 3 8 ∷ event1 2 7 ∷ event1 3 7 ∷ []

-- exists x exists y (p(x,y) and p(y,x))
crossed : List ℕ
crossed = atom2 1 0 1 ++ (atom2 1 1 0 ++ (row 3 0 1 ++ (row 7 1 2 ++ row 7 0 3)))

-- "weighed and scanned at once": exists x (p(x) and q(x))
together : List ℕ
together = atom1 1 0 0 ++ (atom1 2 0 0 ++ (row 3 0 1 ++ row 7 0 2))

-- the cases, in the order of "Both sides of each limit"
cases : List Case
cases =
    record {
      k = 2;
      C = 64;
      rows = rule_k;
      events = events_k;
      claim = answered (Verdict true 4 4 ∷ Verdict true 4 4 ∷ Verdict false 5 6 ∷ Verdict true 4 5 ∷ Verdict false 2 5 ∷ []);
    }
    ∷ record {
      k = 2;
      C = 64;
      rows = rule_k;
      events = event1 1 7 ∷ [];
      claim = kept (1 ∷ 1 ∷ 0 ∷ 0 ∷ 2 ∷ 0 ∷ 1 ∷ 0 ∷ 1 ∷ 0 ∷ 4 ∷ 1 ∷ []) (0 ∷ 0 ∷ 1 ∷ 3 ∷ 3 ∷ 5 ∷ 0 ∷ 0 ∷ 1 ∷ []) (0 ∷ 0 ∷ 0 ∷ 2 ∷ 2 ∷ 2 ∷ []);
    }
    ∷ record {
      k = 2;
      C = 64;
      rows = rule_k;
      events = event1 1 1 ∷ event1 1 2 ∷ event1 1 3 ∷ event1 1 4 ∷ event1 1 1 ∷ [];
      claim = answered (Verdict true 4 4 ∷ Verdict true 3 5 ∷ Verdict true 5 6 ∷ Refused 6 0 ∷ Verdict true 5 6 ∷ []);
    }
    ∷ record {
      k = 2;
      C = 64;
      rows = row 1 0 0 ++ row 6 0 0;
      events = event0 1 ∷ event0 1 ∷ event0 1 ∷ [];
      claim = answered (Verdict false 0 0 ∷ Verdict true 0 0 ∷ Verdict true 0 0 ∷ []);
    }
    ∷ record {
      k = 2;
      C = 64;
      rows = row 1 0 0 ++ (row 4 0 0 ++ row 6 1 0);
      events = event0 1 ∷ event0 1 ∷ [];
      claim = answered (Verdict false 0 0 ∷ Verdict false 0 0 ∷ []);
    }
    ∷ record {
      k = 2;
      C = 64;
      rows = atom2 1 0 0 ++ row 7 0 0;
      events = event2 1 3 3 ∷ event2 1 3 5 ∷ [];
      claim = answered (Verdict true 2 3 ∷ Verdict false 0 2 ∷ []);
    }
    ∷ record { k = 2; C = 64; rows = atom2 1 0 0 ++ row 7 0 0; events = event2 1 3 5 ∷ []; claim = numbered (0 ∷ 0 ∷ 0 ∷ 0 ∷ []) }
    ∷ record {
      k = 1;
      C = 64;
      rows = row 1 0 0 ++ (atom1 1 0 0 ++ (row 5 0 1 ++ (row 4 2 0 ++ row 7 0 3)));
      events = event1 1 3 ∷ [];
      claim = answered (Verdict true 2 2 ∷ []);
    }
    ∷ record { k = 1; C = 64; rows = crossed; events = event2 1 1 1 ∷ []; claim = answered (Verdict true 3 3 ∷ []) }
    ∷ record { k = 1; C = 64; rows = crossed; events = event2 1 1 2 ∷ []; claim = answered (Refused 6 0 ∷ []) }
    ∷ record { k = 2; C = 64; rows = atom1 1 1 6; events = event1 1 6 ∷ event1 1 7 ∷ []; claim = answered (Verdict true 0 0 ∷ Verdict false 0 0 ∷ []) }
    ∷ record {
      k = 2;
      C = 64;
      rows = together;
      events = moment (fact 1 1 3 0 ∷ fact 2 1 3 0 ∷ []) ∷ moment (fact 1 1 3 0 ∷ fact 2 1 4 0 ∷ []) ∷ moment (fact 2 1 5 0 ∷ fact 1 1 5 0 ∷ []) ∷ moment [] ∷ [];
      claim = said (1 ∷ 0 ∷ 1 ∷ 0 ∷ []);
    }
    ∷ record {
      k = 1;
      C = 64;
      rows = together;
      events = moment (fact 1 1 3 0 ∷ fact 2 2 3 0 ∷ []) ∷ nine (fact 1 1 3 0) ∷ moment (fact 1 1 3 0 ∷ fact 2 1 4 0 ∷ []) ∷ moment (fact 9 3 3 4 ∷ fact 1 1 3 0 ∷ []) ∷ [];
      claim = said (5 ∷ 5 ∷ 6 ∷ 0 ∷ []);
    }
    ∷ record {
      k = 2;
      C = 64;
      rows = atom1 1 0 0 ++ row 7 0 0;
      events = moment (fact 1 1 3 0 ∷ fact 1 1 4 0 ∷ []) ∷ moment (fact 1 1 4 0 ∷ fact 1 1 3 0 ∷ []) ∷ [];
      claim = answered (Verdict true 1 2 ∷ Verdict true 1 2 ∷ []);
    }
    ∷ record {
      k = 2;
      C = 64;
      rows = together;
      events = moment (fact 1 1 3 0 ∷ fact 1 1 4 0 ∷ fact 2 1 5 0 ∷ []) ∷ [];
      claim = answered (Verdict false 3 4 ∷ []);
    }
    ∷ record {
      k = 2;
      C = 64;
      rows = together;
      events = moment (fact 2 1 5 0 ∷ fact 1 1 3 0 ∷ fact 1 1 4 0 ∷ []) ∷ [];
      claim = answered (Verdict false 4 5 ∷ []);
    }
    ∷ record { k = 1; C = 64; rows = atom1 1 0 0 ++ row 7 0 0; events = event1 1 3 ∷ []; claim = misfit 0 (event1 1 3) }
    ∷ record { k = 1; C = 64; rows = atom1 1 0 0 ++ row 7 0 0; events = event1 1 3 ∷ []; claim = misfit 2 (event1 1 3) }
    ∷ []

-- every case marked P is as document 01 says; the two before the last two are one set of facts in two orders: kept and room depend on the order
cases_hold : all_meet cases ≡ true
unfolding together sayings moment nine numbers_of answers_agree begun damaged meets all_meet fact single event0 event1 event2 row atom1 atom2 rule_k events_k crossed cases Bits.put Bits.number Bits.drop Bits.drops Tree.eval Tree.same Tree.mk Tree.leaf Tree.tree_from Tree.tree_of Tree.is_on Table.mem Table.push Table.add_tree Table.add_trees Table.at Table.find Table.ref_of Table.show Table.node_at Table.trees_of Kept.all_below Kept.above Kept.node_right Kept.equal_nodes Kept.same_trees Kept.levels Kept.zeros_from Kept.diagrams Kept.well_kept Sizes.sizes_of Sizes.same_numbers Sizes.sizes_right Qtl.free_arguments Qtl.free Rows.field Rows.uses Rows.use_of Rows.field_right Rows.pairs_used Rows.pair_right Rows.row_right Rows.disagree Rows.row_fault Rows.argument_at Rows.of_kind Rows.row_at Rows.rows_up_to Rows.count_of_rows Rows.rule_of Rows.follow Rows.formulas_from Rows.formulas Rows.formula_at Rows.closed Rows.first_below Rows.judge_rows Rows.check_rows Numbering.place Numbering.listed Numbering.noted Numbering.ask Numbering.repeats Numbering.fits Numbering.ask_arguments Numbering.ask_row Numbering.ask_rows Numbering.ask_facts Step.arguments_say Step.fact_says Step.atom_says Step.row_says Step.says_at Step.row_tree Step.row_trees Step.fresh Step.step Step.removals Step.removed Step.turns Step.atom_turns Step.counted Step.room_of Tables.most Tables.part Tables.list_of Tables.read Tables.padded Tables.lay_values Tables.kept_table Tables.lay_nodes Tables.lay_state Tables.free_level Tables.distinct Tables.list_right Tables.well_formed Outcome.k_right Outcome.capacity Outcome.nodes_right Outcome.values_right Outcome.work_size Outcome.cleared Outcome.fact_of Outcome.given Outcome.facts_of Outcome.agrees Outcome.all_agree Outcome.fact_right Outcome.all_right Outcome.count_right Outcome.shortest Outcome.judge_start Outcome.judge_event Outcome.state_of Outcome.settle_start Outcome.decide_start Outcome.start_outcome Outcome.shows Outcome.decide_event Outcome.verdict_of Outcome.settle_event Outcome.event_outcome Outcome.runs Outcome.answers Outcome.machine_of
cases_hold = refl

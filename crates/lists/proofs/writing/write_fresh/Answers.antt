use native.Mathlib.Omega.{arith}
use Prim.Native.Nat.{ℕ, ◌<◌}
use mathlib.Core.List.{List}
use mathlib.Core.Path.{◌≡◌, refl, sym, ◌∙◌}
use lib.ListN.{length, get_or, length-map}
use Rattle.meaning.specs.declared.Value.{Value}
use Rattle.meaning.specs.Tables.{list_of}
use Rattle.numbers.specs.Asking.{bare, with_counts}
use Rattle.numbers.proofs.StartLaws.{most_le, list_length}
use Rattle.lists.proofs.WritingLaws.{fresh_none, fresh_more, fresh_all}
use Rattle.lists.proofs.writing.write_fresh.Goals as goal
use Rattle.lists.proofs.writing.write_fresh.Goals.{Start}

-- the lists before are as long as the counts say
start : (s : Start) (v : ℕ) → v < 4 → length (list_of s.args.k (with_counts s.args.before) s.args.values.now v) ≡ get_or s.args.before v 0
start s v h = list_length s.args.k s.args.before s.args.values.now v h s.requires.parts (omega (arith, s.requires.grown v h, s.requires.room v h))

-- the array of fresh values
sized : (fresh : List Value) → length fresh ≡ 96 → length (bare fresh) ≡ 96
sized fresh e = length-map fresh (λ (x : Value). x.0) ∙ e

pub loop-v-init : goal.loop-v-init
loop-v-init c = (refl, sym (fresh_none c.args.k c.args.before c.args.asked.now.counts (bare c.args.asked.now.fresh) (list_of c.args.k (with_counts c.args.before) c.args.values.now) (start (goal.at.loop-v-init c).Start) c.requires.few c.requires.room c.requires.grown ∙ c.requires.laid))

pub write_list-requires : goal.write_list-requires
write_list-requires c =
    let m = c.most-m.ensures in
    let v : c.loop-v.v < 4 = c.loop-v-test.true in
    record { small = rw m (most_le c.args.k c.requires.bits); variable = v; parts = rw m (c.loop-v.invariant.0 ∙ c.requires.parts); grown = c.requires.grown c.loop-v.v v; few = c.requires.few c.loop-v.v v; room = rw m (c.requires.room c.loop-v.v v) }

pub loop-v-preserved : goal.loop-v-preserved
loop-v-preserved c = (
  c.write_list.auto.values ∙ c.loop-v.invariant.0,
  c.write_list.ensures ∙ rw c.most-m.ensures (fresh_more c.args.k c.args.before c.args.asked.now.counts (bare c.args.asked.now.fresh) (list_of c.args.k (with_counts c.args.before) c.args.values.now) (start (goal.at.loop-v-preserved c).Start) c.requires.few c.requires.room c.requires.grown (sized c.args.asked.now.fresh (omega arith)) c.loop-v.v c.loop-v.values c.loop-v-test.true c.loop-v.invariant.1),
)

pub returns : goal.returns
returns c = c.loop-v.invariant.1 ∙ fresh_all c.args.k c.args.before c.args.asked.now.counts (bare c.args.asked.now.fresh) (list_of c.args.k (with_counts c.args.before) c.args.values.now) (start (goal.at.returns c).Start) c.requires.few c.requires.room c.requires.grown c.loop-v.v (omega arith)

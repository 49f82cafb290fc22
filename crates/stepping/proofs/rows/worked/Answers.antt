-- `worked` meets its contract: the rows, and then the sweep or the refusal. Assumes nothing.
use Prim.Native.Nat.{◌+◌, ◌*◌, ◌/◌}
use mathlib.Core.Path.{refl, ◌∙◌}
use native.Mathlib.Omega.{arith}
use lib.ListN.{length}
use Rattle.std.proofs.Common.{rules}
use Rattle.meaning.specs.Rows.{count_of_rows}
use Rattle.instructions.specs.Planned.{planned}
use Rattle.stepping.proofs.FitLaws.{few_rows}
use Rattle.stepping.proofs.ClearLaws.{filled, cleared_is, rest_two}
use Rattle.stepping.proofs.LendLaws.{desk_ready, fresh_ready, lent_cleared, lent_swept}
use Rattle.stepping.proofs.OutcomeLaws.{full_leaves, sweep_ready, sizes_ready, done_leaves, done_visits, rows_back, zeroed_back, renewal_back}
use Rattle.stepping.proofs.rows.worked.Goals as goal

pub work_rows-requires : goal.work_rows-requires
work_rows-requires c =
    let f = c.requires.fits in
    let r = c.requires.ready.0 in
    let few = c.slots_for-slots.ensures in
    let C = length c.args.nodes.now / 3 in
    let slots = c.slots_for-slots.result in
    let z = filled (4 * C) (5 * C + 4 * slots) c.args.work.now _ (omega arith) (omega (arith, f.room, few.1)) (c.fill.ensures.after (λ y h. h)) in
    record {
      k_bound = (f.most, desk_ready f r c.requires.ready.1 _ few.0 few.1 z);
      leads = (r.leads, refl);
      by_index = (r.none, fresh_ready f r _ z);
    }

pub returns-in_default-clause-leaves : goal.returns-in_default-clause-leaves
returns-in_default-clause-leaves c =
    let s = c.args in
    let f = c.requires.fits in
    let C = length c.args.nodes.now / 3 in
    let slots = c.slots_for-slots.result in
    let z = filled (4 * C) (5 * C + 4 * slots) c.args.work.now _ (omega arith) (omega (arith, f.room, c.slots_for-slots.ensures.1)) (c.fill.ensures.after (λ y h. h)) in
    full_leaves s.k (count_of_rows s.moment.rows.now) (planned s.moment.rows.now s.moment.event.now s.moment.given.now) s.refs.now s.kept s.nodes.now s.work.now f s.sizes.now c.requires.ready.0 (c.in_default.ensures.all)
    (zeroed_back c.zero.ensures (search rules))
    (lent_cleared s.nodes.now f _ c.slots_for-slots.ensures.1 z _ (c.fill-in_default.ensures.after (λ y h. h)) (search rules))

pub overflow_cast-count : goal.overflow_cast-count
overflow_cast-count c = omega (arith, few_rows _ c.args.moment.right.0)

pub renew-y-requires-clause-awaits : goal.renew-y-requires-clause-awaits
unfolding count_of_rows
renew-y-requires-clause-awaits c = record { wide = c.requires.ready.0.leads.wide; none = c.requires.ready.0.none }

pub renew-y-requires-clause-rows : goal.renew-y-requires-clause-rows
unfolding count_of_rows
renew-y-requires-clause-rows c =
    let s = c.args in
    let t = sweep_ready s.k (count_of_rows s.moment.rows.now) (planned s.moment.rows.now s.moment.event.now s.moment.given.now) s.refs.now s.kept s.nodes.now s.work.now c.requires.fits c.in-Some.ensures.all s.work.now refl c.requires.ready.0 in
    rows_back t.3 (search rules)

pub invariant_of-table : goal.invariant_of-table
unfolding count_of_rows
invariant_of-table c =
    let s = c.args in
    let f = c.requires.fits in
    let C = length c.args.nodes.now / 3 in
    let slots = c.slots_for-slots.result in
    let z = filled (4 * C) (5 * C + 4 * slots) c.args.work.now _ (omega arith) (omega (arith, f.room, c.slots_for-slots.ensures.1)) (c.fill.ensures.after (λ y h. h)) in
    let t = c.in-Some.ensures.all in
    let swept = renewal_back {ns = c.work_rows.new.lent.nodes.now} c.renew-y.ensures (search rules) in
    let after = lent_swept s.nodes.now f _ c.slots_for-slots.ensures.1 z _ (omega (arith, t.size)) swept.rest c.renew-y.auto.work (search rules) in
    let asked = sizes_ready s.k (count_of_rows s.moment.rows.now) (planned s.moment.rows.now s.moment.event.now s.moment.given.now) s.refs.now s.kept s.nodes.now s.work.now f t swept (search rules) after.1 in
    record { table = asked.0.0 }

pub sizes-requires : goal.sizes-requires
unfolding count_of_rows
sizes-requires c =
    let s = c.args in
    let f = c.requires.fits in
    let C = length c.args.nodes.now / 3 in
    let slots = c.slots_for-slots.result in
    let z = filled (4 * C) (5 * C + 4 * slots) c.args.work.now _ (omega arith) (omega (arith, f.room, c.slots_for-slots.ensures.1)) (c.fill.ensures.after (λ y h. h)) in
    let t = c.in-Some.ensures.all in
    let swept = renewal_back {ns = c.work_rows.new.lent.nodes.now} c.renew-y.ensures (search rules) in
    let after = lent_swept s.nodes.now f _ c.slots_for-slots.ensures.1 z _ (omega (arith, t.size)) swept.rest c.renew-y.auto.work (search rules) in
    let asked = sizes_ready s.k (count_of_rows s.moment.rows.now) (planned s.moment.rows.now s.moment.event.now s.moment.given.now) s.refs.now s.kept s.nodes.now s.work.now f t swept (search rules) after.1 in
    record { leading = asked.0.1; count_in_bounds = (asked.1, omega (arith, c.requires.sizes_long, t.new_lead.wide)) }

pub returns : goal.returns
unfolding count_of_rows
returns c =
    let s = c.args in
    let f = c.requires.fits in
    let C = length c.args.nodes.now / 3 in
    let slots = c.slots_for-slots.result in
    let z = filled (4 * C) (5 * C + 4 * slots) c.args.work.now _ (omega arith) (omega (arith, f.room, c.slots_for-slots.ensures.1)) (c.fill.ensures.after (λ y h. h)) in
    let t = c.in-Some.ensures.all in
    let swept = renewal_back {ns = c.work_rows.new.lent.nodes.now} c.renew-y.ensures (search rules) in
    let after = lent_swept s.nodes.now f _ c.slots_for-slots.ensures.1 z _ (omega (arith, t.size)) swept.rest c.renew-y.auto.work (search rules) in
    let asked = sizes_ready s.k (count_of_rows s.moment.rows.now) (planned s.moment.rows.now s.moment.event.now s.moment.given.now) s.refs.now s.kept s.nodes.now s.work.now f t swept (search rules) after.1 in
    let found = c.sizes in
    let ready = sweep_ready s.k (count_of_rows s.moment.rows.now) (planned s.moment.rows.now s.moment.event.now s.moment.given.now) s.refs.now s.kept s.nodes.now s.work.now f t s.work.now refl c.requires.ready.0 in
    record {
      leaves = done_leaves s.k (count_of_rows s.moment.rows.now) (planned s.moment.rows.now s.moment.event.now s.moment.given.now) s.refs.now s.kept s.nodes.now s.work.now f t s.sizes.now swept found.ensures.sizes_after
          (cleared_is C s.work.now f.room (rest_two (16 * C + 1024) after.0 found.ensures.rest (omega arith) (omega (arith, asked.1))) (found.auto.work ∙ after.1)
          (filled 0 _ _ _ (omega arith) (omega (arith, f.room, after.1, found.auto.work)) (c.fill-2.ensures.after (λ y h. h))));
      visits = done_visits s.k (count_of_rows s.moment.rows.now) (planned s.moment.rows.now s.moment.event.now s.moment.given.now) s.refs.now s.kept s.nodes.now s.work.now f t ready.3 swept;
    }

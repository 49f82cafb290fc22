-- `monitor::working::work_on` meets its contract: one law for each end of the step. Assumes nothing.
use mathlib.Core.Path.{◌≡◌, ap, refl}
use native.Mathlib.Omega.{arith}
use lib.ListN.{length}
use Rattle.std.proofs.lemmas.Result.{err_from_is_err_and}
use Rattle.stepping.specs.Answers.{told_of}
use Rattle.monitor.proofs.SaidLaws.{kept_turn, taken_turn, taken_looks}
use Rattle.monitor.proofs.WorkedLaws.{few_facts, rows_few, writes, takes, refuses_step, looks}
use Rattle.monitor.proofs.NumberedLaws.{refused_ends, grown, taken_numbers}
use Rattle.monitor.proofs.working.work_on.Goals as goal

pub step-requires : goal.step-requires
step-requires c = (c.requires.listed.rule_right, few_facts _ _ c.requires.count_is_right, omega arith, c.requires.listed.refs, c.requires.listed.sizes)

pub returns-in_err-stepped : goal.returns-in_err-stepped
returns-in_err-stepped c =
    let p = err_from_is_err_and c.from_residual.result c.from_residual.ensures.1 in
    rw (p.1, p.2)
    (refused_ends _ _ _ _ _ _ _ _ _ _ _ (refuses_step _ _ _ _ _ c.requires _ _ _ _ _ c.step.ensures.leaves _ (ap told_of c.in_err-stepped.was) _ _ (kept_turn _ _ _ _ _ _ _ _ refl) refl))

pub write_fresh-requires : goal.write_fresh-requires
write_fresh-requires c = writes _ _ _ _ _ c.requires _ _ _ _ _ c.step.ensures.leaves _ (ap told_of c.in_ok-stepped.was)

pub taken-requires : goal.taken-requires
taken-requires c = record { rows = rows_few _ _ _ _ _ c.requires; grown = grown _ _ _ _ _ c.requires }

pub returns : goal.returns
returns c =
    let did = c.step.ensures in
    let is = ap told_of c.in_ok-stepped.was in
    let four : length c.args.asked.counts ≡ 4 = omega arith in
    record {
      happens = takes _ _ _ _ _ c.requires _ _ _ _ _ did.leaves _ is four _ _ (taken_turn _ _ _ _ _ _ _ _ _ _ _ _ _ c.taken.ensures) c.write_fresh.ensures;
      looks = taken_looks _ _ _ _ _ _ _ _ _ _ _ _ c.taken.ensures (looks _ _ _ _ _ c.requires _ _ _ _ _ did.leaves _ is _ _ c.in_ok-stepped.ensures.visits);
      numbers = taken_numbers _ _ _ _ _ c.requires _ _ _ _ _ _ _ c.taken.ensures;
    }

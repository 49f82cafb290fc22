-- `monitor::decide::judge` meets its contract: one refusal after the other. Assumes nothing.
use mathlib.Core.Path.{refl, sym, ◌∙◌}
use Rattle.std.proofs.lemmas.Result.{err_from_is_err_and}
use Rattle.meaning.specs.Outcome.{judge_start}
use Rattle.monitor.proofs.StartLaws.{k_small}
use Rattle.monitor.proofs.decide.judge.Goals as goal

pub returns-then-not-k_right-clause-decides : goal.returns-then-not-k_right-clause-decides
unfolding judge_start
returns-then-not-k_right-clause-decides c = rw (sym c.k_right.ensures ∙ c.if-not-k_right.true) refl

pub returns-in_err-free-clause-decides : goal.returns-in_err-free-clause-decides
unfolding judge_start
returns-in_err-free-clause-decides c =
    let p = err_from_is_err_and c.from_residual.result c.from_residual.ensures.1 in
    rw (p.1, p.2, sym c.k_right.ensures ∙ c.if-not-k_right.false, c.in_err-free.ensures) refl

pub lengths_right-requires : goal.lengths_right-requires
lengths_right-requires c = k_small _ (sym c.k_right.ensures ∙ c.if-not-k_right.false)

pub returns-then-not-lengths_right-clause-decides : goal.returns-then-not-lengths_right-clause-decides
unfolding judge_start
returns-then-not-lengths_right-clause-decides c =
    rw (sym c.k_right.ensures ∙ c.if-not-k_right.false, c.in_ok-free.ensures.0, sym c.lengths_right.ensures ∙ c.if-not-lengths_right.true) refl

pub returns-clause-decides : goal.returns-clause-decides
unfolding judge_start
returns-clause-decides c =
    rw (sym c.k_right.ensures ∙ c.if-not-k_right.false, c.in_ok-free.ensures.0, sym c.lengths_right.ensures ∙ c.if-not-lengths_right.false) refl

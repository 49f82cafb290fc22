-- `monitor::working::judged` meets its contract: refusals 5 and 6, and else what the work leaves. Assumes nothing.
use mathlib.Core.Path.{refl, sym, ◌∙◌}
use native.Mathlib.Omega.{arith}
use Rattle.std.proofs.lemmas.Result.{err_from_is_err_and}
use Rattle.lists.specs.Writing.{lowest}
use Rattle.monitor.proofs.StartLaws.{k_small}
use Rattle.monitor.proofs.SaidLaws.{formed_err, formed_ok}
use Rattle.monitor.proofs.WorkedLaws.{askable, asking, refuses_5, refuses_6}
use Rattle.monitor.proofs.NumberedLaws.{refused_ends}
use Rattle.monitor.proofs.working.judged.Goals as goal

pub returns-in_err-formed : goal.returns-in_err-formed
returns-in_err-formed c =
    let p = err_from_is_err_and c.from_residual.result c.from_residual.ensures.1 in
    rw (p.1, p.2)
    (refused_ends _ _ _ _ _ _ _ _ _ _ _
    (refuses_5 _ _ _ _ c.requires (sym c.agrees.ensures ∙ c.if-not-agrees.true) _ _ _ _
    (formed_err _ _ _ _ _ 5 0 c.in_err-formed.ensures.value) c.in_err-formed.ensures.work_after refl refl))

pub returns-then-not-agrees : goal.returns-then-not-agrees
returns-then-not-agrees c =
    refused_ends _ _ _ _ _ _ _ _ _ _ _
    (refuses_5 _ _ _ _ c.requires (sym c.agrees.ensures ∙ c.if-not-agrees.true) _ _ _ _
    (formed_ok _ _ _ _ _ _ _ c.in_ok-formed.ensures.value) c.in_ok-formed.ensures.work_after refl refl)

pub ask-asked-requires : goal.ask-asked-requires
ask-asked-requires c =
    askable _ _ _ _ c.requires (sym c.agrees.ensures ∙ c.if-not-agrees.false)

pub shortest-requires : goal.shortest-requires
shortest-requires c = k_small _ c.requires.k_is_right

pub returns-in_err-formed-2 : goal.returns-in_err-formed-2
unfolding lowest
returns-in_err-formed-2 c =
    let p = err_from_is_err_and c.from_residual-in_err-formed-2.result c.from_residual-in_err-formed-2.ensures.1 in
    rw (p.1, p.2)
    (refused_ends _ _ _ _ _ _ _ _ _ _ _
    (refuses_6 _ _ _ _ c.requires _ c.ask-asked.ensures (sym c.agrees.ensures ∙ c.if-not-agrees.false) c.in-Some.variable c.in-Some.ensures.0 c.in-Some.ensures.1 _ _ _ _
    (formed_err _ _ _ _ _ 6 c.in-Some.variable c.in_err-formed-2.ensures.value) c.in_err-formed-2.ensures.work_after refl refl))

pub returns-in-Some : goal.returns-in-Some
unfolding lowest
returns-in-Some c =
    refused_ends _ _ _ _ _ _ _ _ _ _ _
    (refuses_6 _ _ _ _ c.requires _ c.ask-asked.ensures (sym c.agrees.ensures ∙ c.if-not-agrees.false) c.in-Some.variable c.in-Some.ensures.0 c.in-Some.ensures.1 _ _ _ _
    (formed_ok _ _ _ _ _ _ _ c.in_ok-formed-2.ensures.value) c.in_ok-formed-2.ensures.work_after refl refl)

pub work_on-requires : goal.work_on-requires
unfolding lowest
work_on-requires c =
    asking _ _ _ _ c.requires _ c.ask-asked.ensures (sym c.agrees.ensures ∙ c.if-not-agrees.false) 4 c.in_default.ensures.0 (omega arith) (omega arith)

-- `monitor::tried` meets its contract: one law for each end. Assumes nothing.
use mathlib.Core.Path.{refl, sym, ◌∙◌}
use mathlib.Core.List.{[]}
use native.Mathlib.Omega.{arith}
use Rattle.std.proofs.lemmas.Result.{err_from_is_err_and}
use Rattle.monitor.specs.Calls.{machine}
use Rattle.monitor.specs.Said.{whole}
use Rattle.monitor.proofs.SaidLaws.{lists_same, kept_turn, looks_same}
use Rattle.monitor.proofs.EventLaws.{early, passed, too_short, sizes, bad_lists, clears, listed, lengths_right, happens_same}
use Rattle.monitor.proofs.NumberedLaws.{refused_ends, numbers_same}
use Rattle.monitor.proofs.tried.Goals as goal

pub returns-in_err-free : goal.returns-in_err-free
returns-in_err-free c =
    let m = machine (whole c.args.figures c.args.refs.now c.args.sizes.now) c.args.nodes.now c.args.values.now c.args.work.now in
    let p = err_from_is_err_and c.from_residual.result c.from_residual.ensures.1 in
    rw (p.1, p.2)
    (refused_ends _ m _ _ _ _ _ _ _ _ _ (early _ m _ _ c.judge.ensures.decides _ _ _ _ _ c.in_err-free.was (kept_turn _ _ _ _ _ _ _ _ refl refl refl) refl refl refl))

pub returns-then-work-w : goal.returns-then-work-w
returns-then-work-w c =
    let m = machine (whole c.args.figures c.args.refs.now c.args.sizes.now) c.args.nodes.now c.args.values.now c.args.work.now in
    refused_ends _ m _ _ _ _ _ _ _ _ _
    (too_short _ m _ (passed _ m c.args.event _ c.judge.ensures.decides _ c.in_ok-free.was) _ _ _ _ c.if-work-w.true (kept_turn _ _ _ _ _ _ _ _ refl refl refl) refl refl refl)

pub lists_right-requires : goal.lists_right-requires
lists_right-requires c =
    let m = machine (whole c.args.figures c.args.refs.now c.args.sizes.now) c.args.nodes.now c.args.values.now c.args.work.now in
    record { k_bound = sizes _ m c.args.event (passed _ m c.args.event _ c.judge.ensures.decides _ c.in_ok-free.was); le_w = (omega arith, omega (arith, c.if-work-w.false)) }

pub returns-then-not-lists_right : goal.returns-then-not-lists_right
returns-then-not-lists_right c =
    let m = machine (whole c.args.figures c.args.refs.now c.args.sizes.now) c.args.nodes.now c.args.values.now c.args.work.now in
    refused_ends _ m _ _ _ _ _ _ _ _ _
    (bad_lists _ m _ (passed _ m c.args.event _ c.judge.ensures.decides _ c.in_ok-free.was) _ _ _ _ c.if-work-w.false
    (lists_same c.args.figures _ [] _ [] _ _ ∙ sym c.lists_right.ensures.value ∙ c.if-not-lists_right.true)
    (kept_turn _ _ _ _ _ _ _ _ refl refl refl) refl refl
    (clears c.args.nodes.now _ _ _ _ refl c.if-work-w.false c.lists_right.ensures.beyond (c.fill.ensures.after (λ y h. h))))

pub judged-requires : goal.judged-requires
judged-requires c =
    let m = machine (whole c.args.figures c.args.refs.now c.args.sizes.now) c.args.nodes.now c.args.values.now c.args.work.now in
    listed _ m c.args.event (passed _ m c.args.event _ c.judge.ensures.decides _ c.in_ok-free.was) _ _ c.lists_right.ensures.beyond c.if-work-w.false
    (lists_same c.args.figures _ [] _ [] _ _ ∙ sym c.lists_right.ensures.value ∙ c.if-not-lists_right.false)
    c.in_ok-free.ensures.free c.requires.0 c.requires.1 c.requires.2

pub returns : goal.returns
returns c =
    let m = machine (whole c.args.figures c.args.refs.now c.args.sizes.now) c.args.nodes.now c.args.values.now c.args.work.now in
    let p = passed _ m c.args.event _ c.judge.ensures.decides _ c.in_ok-free.was in
    record {
      happens = happens_same _ _ _ _ _ _ _ c.lists_right.ensures.beyond p.0 p.1 (lengths_right _ m c.args.event p c.if-work-w.false) _ _ _ _ c.judged.ensures.happens;
      looks = looks_same _ _ _ _ _ _ _ _ _ _ c.judged.ensures.looks;
      numbers = numbers_same _ _ _ _ _ _ _ _ _ c.judged.ensures.numbers;
    }

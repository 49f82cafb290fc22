-- `Noted::note` meets its contract: the number was written down, is known, or is new. Assumes nothing.
use mathlib.Core.Path.{sym, ◌∙◌}
use native.Mathlib.Omega.{arith}
use Rattle.meaning.specs.Outcome.{fact_of}
use Rattle.numbers.specs.Asking.{part_of}
use Rattle.numbers.proofs.SheetLaws.{some_of, none_of, noted_old, noted_known, new_inside, noted_new}
use Rattle.numbers.proofs.asking.Noted.note.Goals as goal

pub returns-then-is_some : goal.returns-then-is_some
returns-then-is_some c = noted_old c.args.parts.now.counts (part_of c.args.parts.now.m c.args.parts.now.counts c.args.parts.now.values.now) (fact_of c.args.fact).values c.args.self.now.counts c.args.self.now.fresh c.args.self.now.numbers c.args.v c.args.j c.requires.0 c.requires.3 (omega (arith, c.requires.4, c.requires.2.few)) (some_of _ c.is_some.ensures c.if-is_some.true)

pub returns-then-is_some-2 : goal.returns-then-is_some-2
returns-then-is_some-2 c =
    noted_known c.args.parts.now.counts (part_of c.args.parts.now.m c.args.parts.now.counts c.args.parts.now.values.now) (fact_of c.args.fact).values c.args.self.now.counts c.args.self.now.fresh c.args.self.now.numbers c.args.v c.args.j c.requires.0 c.requires.3 (omega (arith, c.requires.4, c.requires.2.few)) c.value_at-y.result (none_of _ c.is_some.ensures c.if-is_some.false) c.value_at-y.ensures
    c.known-found.result (some_of _ c.is_some-2.ensures c.if-is_some-2.true) c.known-found.ensures

pub bounds-self-v-3 : goal.bounds-self-v-3
bounds-self-v-3 c =
    new_inside c.args.parts.now.counts (part_of c.args.parts.now.m c.args.parts.now.counts c.args.parts.now.values.now) (fact_of c.args.fact).values c.args.self.now.counts c.args.self.now.fresh c.args.self.now.numbers c.args.v c.args.j c.requires.0 c.requires.3 (omega (arith, c.requires.4, c.requires.2.few)) c.value_at-y.result (none_of _ c.is_some.ensures c.if-is_some.false) c.value_at-y.ensures
    (sym c.known-found.ensures ∙ none_of _ c.is_some-2.ensures c.if-is_some-2.false)

pub returns : goal.returns
returns c =
    noted_new c.args.parts.now.counts (part_of c.args.parts.now.m c.args.parts.now.counts c.args.parts.now.values.now) (fact_of c.args.fact).values c.args.self.now.counts c.args.self.now.fresh c.args.self.now.numbers c.args.v c.args.j c.requires.0 c.requires.3 (omega (arith, c.requires.4, c.requires.2.few)) c.value_at-y.result (none_of _ c.is_some.ensures c.if-is_some.false) c.value_at-y.ensures
    (sym c.known-found.ensures ∙ none_of _ c.is_some-2.ensures c.if-is_some-2.false)

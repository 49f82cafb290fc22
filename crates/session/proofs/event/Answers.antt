-- `session::event` meets its contract, by the part that what was due leaves. Assumes nothing.
use native.Mathlib.Omega.{arith}
use borrow.Author.Rules.{rules}
use mathlib.Core.Path.{refl, sym, subst}
use Rattle.session.specs.declared.After.{After}
use Rattle.session.proofs.KeepLaws.{Stays, ready_stays}
use Rattle.session.proofs.PartLaws.{but_events, event_left_other, event_left_started, judges_same}
use Rattle.session.proofs.event.Goals as goal

pub happen-requires : goal.happen-requires
happen-requires c =
    let stays = subst (λ (r : After). Stays c.args.s r) (sym c.ready-begun.ensures.after_is) (ready_stays _ c.args.s _ _ _ c.requires.0) in
    record { sound = (stays.sound, omega (arith, stays.same, c.requires.1)); long = record { rows_long = search rules; nodes_long = search rules; values_long = search rules; work_long = search rules } }

pub returns-in_default : goal.returns-in_default
returns-in_default c =
    let was = c.args.tables.now in
    let ready = c.ready-begun.ensures in
    record {
      judges = event_left_other c.args.s c.args.event was.rows was.nodes was.values was.work _ _ _ ready refl (but_events _ c.in_default.not-Events);
      kept = refl;
    }

pub returns-in-Events : goal.returns-in-Events
returns-in-Events c =
    let was = c.args.tables.now in
    let ready = c.ready-begun.ensures in
    record {
      judges = judges_same (event_left_started c.args.s c.args.event was.rows was.nodes was.values was.work _ _ _ _ _ ready (refl, refl) c.in-Events.is) c.happen.ensures;
      kept = refl;
    }

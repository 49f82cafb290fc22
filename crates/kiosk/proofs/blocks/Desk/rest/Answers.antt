-- The last line, and then what is due. Assumes nothing.
use Rattle.std.proofs.Common.{refl, sym, subst, arith}
use Rattle.session.specs.declared.After.{After}
use Rattle.session.proofs.KeepLaws.{Stays, ready_stays}
use Rattle.kiosk.specs.Desks.{shown}
use Rattle.kiosk.proofs.ServeLaws.{serve_end}
use Rattle.kiosk.proofs.blocks.Desk.rest.Goals as goal

pub invariant_of-self : goal.invariant_of-self
invariant_of-self c =
    let served = c.last-next.new.self in
    let stays = subst (λ (r : After). Stays served.session r) (sym c.ready-after.ensures.after_is) (ready_stays served.session.part served.session _ _ _ served.sound) in
    record { sound = stays.sound }

pub returns-clause-counted : goal.returns-clause-counted
returns-clause-counted c =
    let served = c.last-next.new.self in
    let stays = subst (λ (r : After). Stays served.session r) (sym c.ready-after.ensures.after_is) (ready_stays served.session.part served.session _ _ _ served.sound) in
    omega (arith, stays.same, c.last-next.ensures.counted)

pub returns-clause-ended : goal.returns-clause-ended
returns-clause-ended c =
    serve_end (shown c.args.self.now) (shown c.last-next.new.self) c.last-next.ensures.served c.ready-after.ensures (refl, refl) c.clear.ensures c.put_told.ensures.put

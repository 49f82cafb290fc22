-- `session::ready` meets its contract, by the part. Assumes nothing.
use mathlib.Core.Path.{◌∙◌, ap}
use Rattle.session.specs.Lefts.{Begun}
use Rattle.session.proofs.PartLaws.{ready_first, ready_rows, ready_later}
use Rattle.session.proofs.ready.Goals as goal

pub returns-in-First : goal.returns-in-First
returns-in-First c =
    let e = ready_first _ _ _ _ _ c.in-First.is in
    record { after_is = c.bad.ensures ∙ ap (λ (b : Begun). b.after) e; nodes_are = ap (λ (b : Begun). b.nodes) e; values_are = ap (λ (b : Begun). b.values) e }

pub returns-in-Rows : goal.returns-in-Rows
returns-in-Rows c =
    let e = ready_rows _ _ _ _ _ c.in-Rows.is in
    let b = c.begin.ensures in
    record { after_is = b.after_is ∙ ap (λ (b : Begun). b.after) e; nodes_are = b.nodes_are ∙ ap (λ (b : Begun). b.nodes) e; values_are = b.values_are ∙ ap (λ (b : Begun). b.values) e }

pub returns-in-Events : goal.returns-in-Events
returns-in-Events c =
    let e = ready_later _ _ _ _ _ c.in-Events.is in
    record { after_is = c.quiet.ensures ∙ ap (λ (b : Begun). b.after) e; nodes_are = ap (λ (b : Begun). b.nodes) e; values_are = ap (λ (b : Begun). b.values) e }

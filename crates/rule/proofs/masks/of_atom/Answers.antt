use mathlib.Core.Path.{refl, ap, ◌∙◌}
use mathlib.Core.List.{List, map}
use Rattle.std.proofs.lemmas.Iterator.{YieldsList-from_slice, YieldsList-from_take}
use Rattle.std.proofs.lemmas.Iterator.Consumers.{YieldsList-end}
use Rattle.meaning.specs.Qtl.{free_arguments}
use Rattle.rule.specs.declared.Argument.{Argument}
use Rattle.rule.specs.Decoded.{argument_of}
use Rattle.rule.specs.Masks.{mask_of, digit}
use Rattle.rule.proofs.MasksLaws.{argument_more, take_mapped}
use Rattle.rule.proofs.masks.of_atom.Goals as goal

pub loop-a-init : goal.loop-a-init
unfolding mask_of digit free_arguments
loop-a-init c = refl

pub loop-a-preserved : goal.loop-a-preserved
loop-a-preserved c = argument_more c.loop-a.yielded c.in-Some.a c.loop-a.invariant c.of_argument.ensures c.join-m.ensures

pub returns : goal.returns
returns c =
    let all = YieldsList-end (YieldsList-from_take c.args.atom.count (YieldsList-from_slice c.args.atom.arguments cc) cc) c.loop-a.yielded _ c.loop-a.yielded_by _ _ c.in-None.is c.next.ensures.steps in
    c.loop-a.invariant ∙ ap (λ (xs : List Argument). mask_of (free_arguments (map argument_of xs))) all.0 ∙ ap (λ gs. mask_of (free_arguments gs)) (take_mapped argument_of c.args.atom.arguments c.args.atom.count)

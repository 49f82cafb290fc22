-- `repeats` meets its contract: every later place is asked. Assumes nothing.
use Rattle.std.proofs.Common.{◌≡◌, rules, tests, ◌∙◌}
use Rattle.std.specs.List.{zip, list_all}
use Rattle.std.proofs.lemmas.Iterator.{YieldsList-from_slice, YieldsList-from_zip}
use Rattle.std.proofs.lemmas.Iterator.Search.{all_from_yields_List}
use Rattle.meaning.specs.declared.Value.{Value}
use Rattle.rule.specs.declared.Argument.{Argument}
use Rattle.rule.specs.Decoded.{argument_of}
use Rattle.numbers.specs.Matching.{same_at}
use Rattle.numbers.proofs.FitLaws.{repeats_are}
use Rattle.numbers.proofs.matching.repeats.Goals as goal

pub returns : goal.returns
returns c =
    let all : c.all.result ≡ list_all (λ (p : Argument × Value). same_at c.args.v c.args.y.0 (argument_of p.0) p.1.0) (zip c.args.arguments.now c.args.values.now) =
    all_from_yields_List (λ (p : Argument × Value). same_at c.args.v c.args.y.0 (argument_of p.0) p.1.0) c.all.new.self _ c.all.result c.all.ensures.ran
    (YieldsList-from_zip {s = c.zip.result} (YieldsList-from_slice c.args.arguments.now cc) (YieldsList-from_slice c.args.values.now cc)) (λ x b q k. search (rules, tests)) in
    all ∙ repeats_are c.args.v c.args.y.0 c.args.arguments.now c.args.values.now

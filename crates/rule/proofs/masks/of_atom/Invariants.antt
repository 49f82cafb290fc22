-- `rule::masks::of_atom` meets its contract. The loop keeps the mask of the arguments so far. Assumes nothing.
use mathlib.Core.Path.{◌≡◌}
use mathlib.Core.List.{map}
use denote.Ref.{Bor}
use Rattle.meaning.specs.Qtl.{free_arguments}
use Rattle.rule.specs.declared.Argument.{Argument}
use Rattle.rule.specs.Decoded.{argument_of}
use Rattle.rule.specs.Masks.{mask_of}
use Rattle.rule.proofs.masks.of_atom.Given as goal

abbrev pub invariant-loop-a : goal.invariant-loop-a
invariant-loop-a l = l.m ≡ mask_of (free_arguments (map argument_of (map (λ (a : Bor Argument). a.now) l.yielded)))

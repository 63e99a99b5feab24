use Rattle.std.proofs.Common.{◌∙◌, sym, ap, option_and_then}
use Rattle.mono_uses.specs.of_mono_fits.Fits.{argument_in}
use Rattle.mono_operations.specs.Reads.{sort_in}
use Rattle.mono_operations.proofs.Scopes.{found-then}
use Rattle.mono_operations.proofs.atom.atom_argument.Goals as goal

pub returns : goal.returns
returns c = c.found_argument.ensures ∙ ap (option_and_then (λ k. argument_in (sort_in k))) c.find_local.ensures ∙ sym (found-then argument_in c.args.scope.now.0 c.args.atom)

use Rattle.std.proofs.Common.{◌∙◌, ◌++◌, sym, ap}
use Rattle.mono_uses.specs.of_mono_fits.Asked.{given}
use Rattle.mono_uses.specs.of_mono_fits.Fits.{sort_fits}
use Rattle.mono_operations.specs.Reads.{sort_in}
use Rattle.mono_operations.proofs.Scopes.{found-given}
use Rattle.mono_operations.proofs.operation.use_fits.Goals as goal

pub returns : goal.returns
returns c = c.found_fits.ensures ∙ ap (λ o. given o (λ k. sort_fits c.args.tables.now.types c.args.tables.now.exn (sort_in k) c.args.ty)) c.find.ensures
    ∙ sym (found-given (λ s. sort_fits c.args.tables.now.types c.args.tables.now.exn s c.args.ty) (c.args.scope.now.0 ++ c.args.scope.now.1) c.args.variable)

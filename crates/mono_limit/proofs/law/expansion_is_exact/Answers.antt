use Rattle.mono_limit.proofs.Sizes.{one-size, is-too-large, is-found}
use Rattle.mono_limit.proofs.law.expansion_is_exact.Goals as goal

pub returns-clause-one : goal.returns-clause-one
returns-clause-one c constructors e m n x y = one-size constructors e m n x y

pub returns-clause-too_large : goal.returns-clause-too_large
returns-clause-too_large c p e n x = is-too-large p e n x

pub returns-clause-found : goal.returns-clause-found
returns-clause-found c p n x le = is-found p n x le

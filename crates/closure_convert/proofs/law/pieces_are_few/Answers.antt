use Rattle.closure_convert.proofs.Few.{made-few}
use Rattle.closure_convert.proofs.Curried.{curried-few}
use Rattle.closure_convert.proofs.law.pieces_are_few.Goals as goal

pub returns-clause-gaps : goal.returns-clause-gaps
returns-clause-gaps c = made-few

pub returns-clause-curried : goal.returns-clause-curried
returns-clause-curried c = curried-few

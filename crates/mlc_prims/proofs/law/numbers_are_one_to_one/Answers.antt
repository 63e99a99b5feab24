use Rattle.mlc_prims.proofs.Rows.{numbers-are-one-to-one}
use Rattle.mlc_prims.proofs.law.numbers_are_one_to_one.Goals as goal

pub returns : goal.returns
returns c = numbers-are-one-to-one

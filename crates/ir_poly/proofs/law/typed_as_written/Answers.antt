use Rattle.ir_poly.proofs.ProgTypedLemmas.{said-read}
use Rattle.ir_poly.proofs.SaidLemmas.{said}
use Rattle.ir_poly.proofs.law.typed_as_written.Goals as goal

pub returns-clause-checked : goal.returns-clause-checked
returns-clause-checked c table D G e t h = said h

pub returns-clause-read : goal.returns-clause-read
returns-clause-read c table s G e t h = said-read h

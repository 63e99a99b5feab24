use Rattle.ir_code.proofs.Unique.{one_program}
use Rattle.ir_code.proofs.image_law.one_program_per_image.Goals as goal

pub returns : goal.returns
returns c = one_program

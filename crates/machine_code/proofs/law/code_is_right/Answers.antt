use Rattle.ir_ssa.specs.Meaning.{meaning}
use Rattle.machine_code.specs.Image.{text_of, image_of}
use Rattle.machine_code.proofs.Right.{code_follows}
use Rattle.machine_code.proofs.law.code_is_right.Goals as goal

pub returns : goal.returns
returns c = λ rows right texts p well fit never heap stack small few.
    c.follows_is_same.ensures (text_of texts) (meaning p) (image_of rows texts p) heap stack never
    (λ m. code_follows c.control.ensures c.memory.ensures c.arithmetic.ensures
    (record { next = c.begins.ensures; equal = c.equal.ensures; find = c.find.ensures.member }) c.keeps.ensures rows right texts p well fit heap stack m small few)

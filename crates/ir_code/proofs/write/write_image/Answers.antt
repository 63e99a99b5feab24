use Rattle.ir_code.proofs.Images.{image_parts}
use Rattle.ir_code.proofs.write.write_image.Goals as goal

pub returns : goal.returns
returns c = (
  record {
    constants = rw c.constants-constants.ensures.value at c.in_ok-put_words-2.ensures.are_words;
    code = rw c.code-code.ensures.value at c.in_ok-put_code.ensures.are_words;
    small = c.constants-constants.ensures.small;
  },
  rw (c.in_ok-put_code.ensures.written, c.in_ok-put_words-2.ensures.written, c.in_ok-put_words.ensures.written, c.in_ok-extend_from_slice.ensures.items, c.new-out.ensures.items, c.constants-constants.ensures.value, c.code-code.ensures.value) (image_parts c.args.image.now),
)

use Rattle.std.proofs.Common.{refl}
use Rattle.ir_code.proofs.read.read_instr.Goals as goal

pub returns-clause-unknown : goal.returns-clause-unknown
returns-clause-unknown c = λ none. record {
  row = (c.read_word-op.result.0, c.read_word-a.result.0, c.read_word-b.result.0, c.read_word-c.result.0);
  parts = rw (c.read_word-op.ensures.as_words, c.read_word-a.ensures.as_words, c.read_word-b.ensures.as_words, c.read_word-c.ensures.as_words) refl;
  unknown = c.from_words.ensures.unknown none;
}

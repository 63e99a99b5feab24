use Rattle.std.proofs.Common.{ap, ◌∙◌}
use Rattle.ir_poly.specs.ProgMeaning.{size_of}
use Rattle.pattern_tests.specs.Parts.{field_patterns}
use Rattle.pattern_tests.proofs.Chains.{size-true, size-false}
use Rattle.pattern_tests.proofs.patterns.size.Goals as goal

pub returns-then-further : goal.returns-then-further
returns-then-further c = λ R. ap (λ b. size_of b (field_patterns c.args.fields.now R)) c.if-further.true ∙ size-true R c.args.fields.now

pub returns-else-further : goal.returns-else-further
returns-else-further c = λ R. ap (λ b. size_of b (field_patterns c.args.fields.now R)) c.if-further.false ∙ size-false R c.args.fields.now

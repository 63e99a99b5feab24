use Rattle.closure_first.proofs.Holding.{text-held}
use Rattle.closure_first.proofs.held.constant_is_held.Goals as goal

pub returns-in-Text : goal.returns-in-Text
returns-in-Text c = λ strings h. text-held strings c.args.constant c.in-Text.field-0 c.in-Text.is h

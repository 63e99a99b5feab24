use Rattle.std.proofs.Common.{sym, ◌∙◌}
use Rattle.closure_parts.proofs.Finding.{texts-last}
use Rattle.closure_parts.proofs.operands.operands_named.Goals as goal

pub returns-else-is_stamp-3 : goal.returns-else-is_stamp-3
returns-else-is_stamp-3 c =
    texts-last _ _ _ (sym c.is_stamp.ensures ∙ c.if-is_stamp.false) (sym c.is_stamp-else-is_stamp.ensures ∙ c.if-is_stamp-2.false) (sym c.is_stamp-else-is_stamp-2.ensures ∙ c.if-is_stamp-3.false)

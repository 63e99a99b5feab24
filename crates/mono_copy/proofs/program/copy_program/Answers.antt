use Rattle.mono_parts.specs.of_mono_state.Seen.{held_of}
use Rattle.mono_parts.proofs.of_mono_state.Growing.{same-longer}
use Rattle.mono_copy.proofs.Changing.{passed}
use Rattle.mono_copy.proofs.Whole.{words-are, compared-are, nodes-are, past-limit}
use Rattle.mono_copy.proofs.program.copy_program.Goals as goal

pub walk-requires : goal.walk-requires
walk-requires c = record { open_ = c.in_ok-copier.ensures.is_open; right = c.in_ok-copier.ensures.right c.args.tables.now.types }

pub returns-in_err-walk-clause-too_large : goal.returns-in_err-walk-clause-too_large
returns-in_err-walk-clause-too_large c =
    passed c.from_residual-in_err-walk.result c.in_err-walk.field-0.0 c.from_residual-in_err-walk.ensures.1 _ _
    (past-limit c.args.tables.now c.args.body.now c.in_ok-copier.copier c.in_ok-copier.ensures.groups c.in_ok-copier.ensures.variables c.in_ok-copier.ensures.nothing) c.in_err-walk.ensures.too_large

pub returns-clause-words : goal.returns-clause-words
returns-clause-words c =
    words-are c.args.tables.now c.args.body.now c.in_ok-copier.copier c.in_ok-copier.ensures.groups c.in_ok-copier.ensures.variables c.in_ok-copier.ensures.nothing c.walk.new.copier c.in_ok-walk.ensures.put

pub returns-clause-compared : goal.returns-clause-compared
returns-clause-compared c =
    compared-are c.args.tables.now c.args.body.now c.in_ok-copier.copier c.in_ok-copier.ensures.groups c.in_ok-copier.ensures.variables c.in_ok-copier.ensures.nothing c.walk.new.copier c.in_ok-walk.ensures.put

pub returns-clause-nodes : goal.returns-clause-nodes
returns-clause-nodes c =
    nodes-are c.args.tables.now c.args.body.now c.in_ok-copier.copier c.in_ok-copier.ensures.groups c.in_ok-copier.ensures.variables c.in_ok-copier.ensures.nothing c.walk.new.copier c.in_ok-walk.ensures.put
    (record { longer = same-longer (held_of c.walk.new.copier); types_once = c.len-types_once.ensures.one_to_one; lists_once = c.len-lists_once.ensures.once })

pub returns-clause-few : goal.returns-clause-few
returns-clause-few c = c.in_ok-walk.ensures.put.goes.open_.few

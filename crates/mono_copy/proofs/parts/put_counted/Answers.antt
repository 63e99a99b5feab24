use Rattle.std.proofs.Common.{[]}
use Rattle.mono_parts.specs.of_mono_state.Seen.{held_of}
use Rattle.mono_parts.specs.of_mono_state.declared.word.Word.TheVariants as word
use Rattle.mono_parts.proofs.of_mono_state.Growing.{same-longer}
use Rattle.mono_copy.proofs.Changing.{passed, puts-then, puts-word}
use Rattle.mono_copy.proofs.Leaves.{plain-puts, counted-passes}
use Rattle.mono_copy.proofs.parts.put_counted.Goals as goal

pub returns-in_err-count-clause-too_large : goal.returns-in_err-count-clause-too_large
returns-in_err-count-clause-too_large c =
    passed c.from_residual.result c.in_err-count.field-0.0 c.from_residual.ensures.1 _ _
    (counted-passes c.args.copier.now c.args.nodes
    (record { longer = same-longer (held_of c.args.copier.now); types_once = c.len-types_once.ensures.one_to_one; lists_once = c.len-lists_once.ensures.once }))
    (λ e. c.in_err-count.ensures.too_many)

pub put-requires : goal.put-requires
put-requires c = (c.in_ok-count.ensures.goes []).open_

pub returns-clause-put : goal.returns-clause-put
returns-clause-put c =
    puts-then (plain-puts _ c.in_ok-count.ensures.goes c.in_ok-count.ensures.counted) (puts-word (word.Counted c.args.nodes) c.in_ok-put.ensures.goes c.in_ok-put.ensures.put)

use Rattle.std.proofs.Common.{[]}
use Rattle.mlc_names.proofs.NamesLemmas.{with_texts-more}
use Rattle.mlc_names.proofs.names.Names.new.Goals as goal

pub loop-word-preserved : goal.loop-word-preserved
loop-word-preserved c = with_texts-more _ _ c.loop-word.word-index [] c.loop-word.names c.intern.new.self c.as_bytes.result.now c.loop-word-test.true c.loop-word.invariant c.in_ok-intern.ensures.kept c.as_bytes.ensures.value

use Rattle.std.proofs.Common.{nat_eq}
use Rattle.indexmap.specs.IndexMap.{get}
use Rattle.mono_number.proofs.Heads.{all-behind, one-more, all-there}
use Rattle.mono_number.proofs.steps.number_words.Goals as goal

pub loop-i-preserved : goal.loop-i-preserved
loop-i-preserved c = one-more c.args.limit (get nat_eq c.args.known.now) c.args.words.now c.loop-i.i c.loop-i.walk c.put_word.new.walk c.loop-i-test.true c.loop-i.invariant c.in_ok-put_word.ensures

pub returns : goal.returns
returns c = λ types index strings H N.
    all-there c.args.limit (get nat_eq c.args.known.now) c.args.words.now c.loop-i.i c.loop-i.walk (all-behind c.args.words.now c.loop-i.i c.loop-i-test.false) c.loop-i.invariant types index strings H N

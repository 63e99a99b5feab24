use Rattle.std.proofs.Common.{nat_eq}
use Rattle.indexmap.specs.IndexMap.{get}
use Rattle.mono_read.specs.of_mono_state.declared.word.Word.TheVariants as word
use Rattle.mono_number.proofs.Wording.{at-word, num-exception}
use Rattle.mono_number.proofs.words.word_number.Goals as goal

pub returns-in_ok-argument-in-Exception : goal.returns-in_ok-argument-in-Exception
returns-in_ok-argument-in-Exception c =
    at-word c.args.limit (get nat_eq c.args.known.now) c.args.walk.now.names c.args.walk.now.next c.args.word.now (word.Exception c.in-Exception.variable c.in-Exception.identifier c.in-Exception.argument)
    (word.Exception c.args.walk.now.next c.in-Exception.identifier c.in_ok-argument-in-Exception.argument) c.in-Exception.is
    (num-exception c.args.limit (get nat_eq c.args.known.now) c.args.walk.now.names c.args.walk.now.next c.in-Exception.variable c.in-Exception.identifier c.in-Exception.argument c.in_ok-argument-in-Exception.argument
    (λ types index H N. c.in_ok-argument-in-Exception.ensures c.args.limit types index H N))

pub returns-in_ok-act-in-Act : goal.returns-in_ok-act-in-Act
returns-in_ok-act-in-Act c =
    at-word c.args.limit (get nat_eq c.args.known.now) c.args.walk.now.names c.args.walk.now.next c.args.word.now (word.Act c.in-Act.act) (word.Act c.in_ok-act-in-Act.act) c.in-Act.is c.in_ok-act-in-Act.ensures

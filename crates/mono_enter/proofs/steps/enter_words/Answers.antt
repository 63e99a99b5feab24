use Rattle.std.proofs.Common.{nat_eq}
use Rattle.indexmap.specs.IndexMap.{get}
use Rattle.ir_tables.specs.Rows.{constructors_at}
use Rattle.mono_enter.proofs.Numbers.{known-number}
use Rattle.mono_enter.proofs.Walking.{one-so-far, all-so-far}
use Rattle.mono_enter.proofs.steps.enter_words.Goals as goal

pub loop-at-preserved : goal.loop-at-preserved
loop-at-preserved c =
    let t = c.args.tables.now in
    one-so-far t.closed.now (constructors_at t.sources.now t.constructors.now) c.args.words.now c.args.types.now c.loop-at.at c.loop-at.stand c.move_on.new.stand (get nat_eq c.loop-at.known) (get nat_eq c.want_word.new.known) c.loop-at.types c.want_word.new.types _
    c.index-words-at.result c.loop-at-test.true c.index-words-at.is c.loop-at.invariant c.in_ok-want_word.ensures.entered c.in_ok-want_word.ensures.right c.in_ok-move_on.ensures

pub returns-clause-entered : goal.returns-clause-entered
returns-clause-entered c =
    let t = c.args.tables.now in
    all-so-far t.closed.now (constructors_at t.sources.now t.constructors.now) c.args.words.now c.args.types.now c.loop-at.at c.loop-at.stand (get nat_eq c.loop-at.known) c.loop-at.types c.loop-at-test.false c.loop-at.invariant

pub returns-clause-right : goal.returns-clause-right
returns-clause-right c = c.loop-at.invariant.knows

pub returns-clause-numbers : goal.returns-clause-numbers
returns-clause-numbers c = known-number c.args.tables.now.closed.now (get nat_eq c.loop-at.known) c.loop-at.types c.loop-at.invariant.knows

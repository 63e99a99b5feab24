use Rattle.std.proofs.Common.{ap}
use Rattle.mono_state.specs.declared.word.Word.TheVariants as word
use Rattle.mono_state.specs.declared.word.Act.TheVariants as act
use Rattle.mono_read.proofs.Given.{if-ok}
use Rattle.mono_read.proofs.Stacked.{at-word}
use Rattle.mono_read.proofs.parts.put_listed.Goals as goal

pub returns-in-Record : goal.returns-in-Record
returns-in-Record c = if-ok _ _ c.put_record.result (λ u h. at-word (word.Act c.args.act.now) (word.Act (act.Record c.in-Record.ty)) c.args.stack.now.items c.put_record.new.stack.items (ap word.Act c.in-Record.is) h) c.put_record.ensures

pub returns-in-Perform : goal.returns-in-Perform
returns-in-Perform c = if-ok _ _ c.put_perform.result (λ u h. at-word (word.Act c.args.act.now) (word.Act (act.Perform c.in-Perform.place c.in-Perform.primitive c.in-Perform.ty)) c.args.stack.now.items c.put_perform.new.stack.items (ap word.Act c.in-Perform.is) h) c.put_perform.ensures

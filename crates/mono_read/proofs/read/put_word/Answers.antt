use Rattle.mono_state.specs.declared.word.Word.TheVariants as word
use Rattle.mono_read.proofs.Given.{if-ok}
use Rattle.mono_read.proofs.Stacked.{at-word, counted-put, exception-put, name-put, ret-put, miss-put}
use Rattle.mono_read.proofs.read.put_word.Goals as goal

pub returns-in-Ret : goal.returns-in-Ret
returns-in-Ret c = if-ok _ _ c.push.result (λ u h. at-word c.args.word.now (word.Ret c.in-Ret.atom) c.args.stack.now.items c.push.new.stack.items c.in-Ret.is (λ types strings. ret-put types strings c.in-Ret.atom c.new.result.items _ _ c.new.ensures.items (h types strings))) c.push.ensures

pub returns-in-Miss : goal.returns-in-Miss
returns-in-Miss c = if-ok _ _ c.push-in-Miss.result (λ u h. at-word c.args.word.now (word.Miss) c.args.stack.now.items c.push-in-Miss.new.stack.items c.in-Miss.is (λ types strings. miss-put types strings c.new-in-Miss.result.items _ _ c.new-in-Miss.ensures.items (h types strings))) c.push-in-Miss.ensures

pub returns-in-First : goal.returns-in-First
returns-in-First c = if-ok _ _ c.put_first.result (λ u h. at-word c.args.word.now (word.First) c.args.stack.now.items c.put_first.new.stack.items c.in-First.is h) c.put_first.ensures

pub returns-in-Counted : goal.returns-in-Counted
returns-in-Counted c = if-ok _ _ c.push_step.result (λ u h. at-word c.args.word.now (word.Counted c.in-Counted.nodes) c.args.stack.now.items c.push_step.new.stack.items c.in-Counted.is (λ types strings. counted-put types strings c.in-Counted.nodes _ _ (h types strings))) c.push_step.ensures

pub returns-in-Switch : goal.returns-in-Switch
returns-in-Switch c = if-ok _ _ c.put_switch.result (λ u h. at-word c.args.word.now (word.Switch c.in-Switch.atom c.in-Switch.ty) c.args.stack.now.items c.put_switch.new.stack.items c.in-Switch.is h) c.put_switch.ensures

pub returns-in-Arm : goal.returns-in-Arm
returns-in-Arm c = if-ok _ _ c.put_arm.result (λ u h. at-word c.args.word.now (word.Arm c.in-Arm.case) c.args.stack.now.items c.put_arm.new.stack.items c.in-Arm.is h) c.put_arm.ensures

pub returns-in-Exception : goal.returns-in-Exception
returns-in-Exception c = if-ok _ _ c.push_step-in-Exception.result (λ u h. at-word c.args.word.now (word.Exception c.in-Exception.variable c.in-Exception.identifier c.in-Exception.argument) c.args.stack.now.items c.push_step-in-Exception.new.stack.items c.in-Exception.is (λ types strings. exception-put types strings c.in-Exception.variable c.in-Exception.identifier c.in-Exception.argument _ _ (h types strings))) c.push_step-in-Exception.ensures

pub returns-in-Name : goal.returns-in-Name
returns-in-Name c = if-ok _ _ c.push_step-in-Name.result (λ u h. at-word c.args.word.now (word.Name c.in-Name.variable c.in-Name.exception) c.args.stack.now.items c.push_step-in-Name.new.stack.items c.in-Name.is (λ types strings. name-put types strings c.in-Name.variable c.in-Name.exception _ _ (h types strings))) c.push_step-in-Name.ensures

pub returns-in-Group : goal.returns-in-Group
returns-in-Group c = if-ok _ _ c.put_group.result (λ u h. at-word c.args.word.now (word.Group) c.args.stack.now.items c.put_group.new.stack.items c.in-Group.is h) c.put_group.ensures

pub returns-in-Function : goal.returns-in-Function
returns-in-Function c = if-ok _ _ c.put_head.result (λ u h. at-word c.args.word.now (word.Function c.in-Function.variable c.in-Function.ty) c.args.stack.now.items c.put_head.new.stack.items c.in-Function.is h) c.put_head.ensures

pub returns-in-Let : goal.returns-in-Let
returns-in-Let c = if-ok _ _ c.push-in-Let.result (λ u h. at-word c.args.word.now (word.Let c.in-Let.variable c.in-Let.ty) c.args.stack.now.items c.push-in-Let.new.stack.items c.in-Let.is (λ types strings. h types strings)) c.push-in-Let.ensures

pub returns-in-Fn : goal.returns-in-Fn
returns-in-Fn c = if-ok _ _ c.put_fn.result (λ u h. at-word c.args.word.now (word.Fn) c.args.stack.now.items c.put_fn.new.stack.items c.in-Fn.is h) c.put_fn.ensures

pub returns-in-Parameter : goal.returns-in-Parameter
returns-in-Parameter c = if-ok _ _ c.put_parameter.result (λ u h. at-word c.args.word.now (word.Parameter c.in-Parameter.new) c.args.stack.now.items c.put_parameter.new.stack.items c.in-Parameter.is h) c.put_parameter.ensures

pub returns-in-Last : goal.returns-in-Last
returns-in-Last c = if-ok _ _ c.put_last.result (λ u h. at-word c.args.word.now (word.Last c.in-Last.last) c.args.stack.now.items c.put_last.new.stack.items c.in-Last.is h) c.put_last.ensures

pub returns-in-Block : goal.returns-in-Block
returns-in-Block c = if-ok _ _ c.put_block.result (λ u h. at-word c.args.word.now (word.Block) c.args.stack.now.items c.put_block.new.stack.items c.in-Block.is h) c.put_block.ensures

pub returns-in-Handle : goal.returns-in-Handle
returns-in-Handle c = if-ok _ _ c.put_handle.result (λ u h. at-word c.args.word.now (word.Handle) c.args.stack.now.items c.put_handle.new.stack.items c.in-Handle.is h) c.put_handle.ensures

pub returns-in-Packet : goal.returns-in-Packet
returns-in-Packet c = if-ok _ _ c.put_packet.result (λ u h. at-word c.args.word.now (word.Packet c.in-Packet.packet) c.args.stack.now.items c.put_packet.new.stack.items c.in-Packet.is h) c.put_packet.ensures

pub returns-in-Field : goal.returns-in-Field
returns-in-Field c = if-ok _ _ c.put_field.result (λ u h. at-word c.args.word.now (word.Field c.in-Field.field) c.args.stack.now.items c.put_field.new.stack.items c.in-Field.is h) c.put_field.ensures

pub returns-in-Argument : goal.returns-in-Argument
returns-in-Argument c = if-ok _ _ c.put_argument.result (λ u h. at-word c.args.word.now (word.Argument c.in-Argument.atom) c.args.stack.now.items c.put_argument.new.stack.items c.in-Argument.is h) c.put_argument.ensures

pub returns-in-End : goal.returns-in-End
returns-in-End c = if-ok _ _ c.push-in-End.result (λ u h. at-word c.args.word.now (word.End) c.args.stack.now.items c.push-in-End.new.stack.items c.in-End.is (λ types strings. h types strings)) c.push-in-End.ensures

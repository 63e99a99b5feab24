use Rattle.std.proofs.Common.{refl}
use Rattle.sml_tree.specs.TreeOf.{long_vid_of}
use Rattle.elab_context.specs.declared.entry.Entry.TheVariants.{Constructor, Reference, Raised}
use Rattle.elab_context.proofs.Reading.{context_later}
use Rattle.elab_context.proofs.of_elab_steps.Growing.{grows_same, type_later}
use Rattle.pat_elab.proofs.Matching.{entry-held, entry-is, con_headed, ref_headed, exn_headed}
use Rattle.pat_elab.proofs.matched.before.Goals as goal

pub result_of-requires-clause-context : goal.result_of-requires-clause-context
result_of-requires-clause-context c = context_later c.args.state.now c.write.new.state c.args.context.now c.in_ok-written.ensures.grows c.requires.context

pub result_of-requires-clause-held : goal.result_of-requires-clause-held
result_of-requires-clause-held c =
    entry-held c.args.state.now c.args.state.now c.args.context.now (long_vid_of c.args.long.now) c.in_ok-entry.entry (Constructor c.in-Constructor.scheme c.in-Constructor.number c.in-Constructor.field-2)
    (grows_same c.args.state.now) c.requires.context c.in_ok-entry.ensures.is c.in-Constructor.is

pub result_of-requires-clause-argument : goal.result_of-requires-clause-argument
result_of-requires-clause-argument c = type_later c.args.state.now c.write.new.state c.args.argument c.in_ok-written.ensures.grows c.requires.argument

pub result_of-requires-in-Reference-clause-context : goal.result_of-requires-in-Reference-clause-context
result_of-requires-in-Reference-clause-context c = context_later c.args.state.now c.write.new.state c.args.context.now c.in_ok-written.ensures.grows c.requires.context

pub result_of-requires-in-Reference-clause-held : goal.result_of-requires-in-Reference-clause-held
result_of-requires-in-Reference-clause-held c =
    entry-held c.args.state.now c.args.state.now c.args.context.now (long_vid_of c.args.long.now) c.in_ok-entry.entry (Reference c.in-Reference.scheme)
    (grows_same c.args.state.now) c.requires.context c.in_ok-entry.ensures.is c.in-Reference.is

pub result_of-requires-in-Reference-clause-argument : goal.result_of-requires-in-Reference-clause-argument
result_of-requires-in-Reference-clause-argument c = type_later c.args.state.now c.write.new.state c.args.argument c.in_ok-written.ensures.grows c.requires.argument

pub exception_before-requires-clause-held : goal.exception_before-requires-clause-held
exception_before-requires-clause-held c =
    entry-held c.args.state.now c.write.new.state c.args.context.now (long_vid_of c.args.long.now) c.in_ok-entry.entry (Raised c.in-Raised.number c.in-Raised.held)
    c.in_ok-written.ensures.grows c.requires.context c.in_ok-entry.ensures.is c.in-Raised.is

pub exception_before-requires-clause-argument : goal.exception_before-requires-clause-argument
exception_before-requires-clause-argument c = type_later c.args.state.now c.write.new.state c.args.argument c.in_ok-written.ensures.grows c.requires.argument

pub returns-in_ok-result_of-in-Constructor : goal.returns-in_ok-result_of-in-Constructor
returns-in_ok-result_of-in-Constructor c =
    let x = long_vid_of c.args.long.now in
    let e = c.in-Constructor in
    let r = c.in_ok-result_of-in-Constructor in
    record {
      is = λ p. con_headed c.args.state.now c.write.new.state c.result_of.new.state c.args.context.now p c.args.place x e.scheme e.number e.field-2 c.args.argument _ c.requires.context
          (entry-is c.args.context.now x c.in_ok-entry.entry (Constructor e.scheme e.number e.field-2) c.in_ok-entry.ensures.is e.is)
          c.in_ok-written.ensures.grows c.in_ok-written.ensures.next c.in_ok-written.ensures.is r.ensures.grows r.ensures.is r.ensures.instance r.ensures.next refl;
    }

pub returns-in_ok-result_of-in-Reference : goal.returns-in_ok-result_of-in-Reference
returns-in_ok-result_of-in-Reference c =
    let x = long_vid_of c.args.long.now in
    let e = c.in-Reference in
    let r = c.in_ok-result_of-in-Reference in
    record {
      is = λ p. ref_headed c.args.state.now c.write.new.state c.result_of-in-Reference.new.state c.args.context.now p c.args.place x e.scheme c.args.argument _ c.requires.context
          (entry-is c.args.context.now x c.in_ok-entry.entry (Reference e.scheme) c.in_ok-entry.ensures.is e.is)
          c.in_ok-written.ensures.grows c.in_ok-written.ensures.next c.in_ok-written.ensures.is r.ensures.grows r.ensures.is r.ensures.instance r.ensures.next refl;
    }

pub returns-in_ok-exception_before-in-Raised : goal.returns-in_ok-exception_before-in-Raised
returns-in_ok-exception_before-in-Raised c =
    let x = long_vid_of c.args.long.now in
    let e = c.in-Raised in
    let r = c.in_ok-exception_before-in-Raised in
    record {
      is = λ p. exn_headed c.args.state.now c.write.new.state c.exception_before.new.state c.args.context.now p c.args.place x e.number e.held c.args.argument _ c.requires.context
          (entry-is c.args.context.now x c.in_ok-entry.entry (Raised e.number e.held) c.in_ok-entry.ensures.is e.is)
          c.in_ok-written.ensures.grows c.in_ok-written.ensures.next c.in_ok-written.ensures.is r.ensures.grows r.ensures.is r.ensures.has r.ensures.argument r.ensures.next refl;
    }

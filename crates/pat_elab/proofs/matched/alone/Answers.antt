use Rattle.std.proofs.Common.{refl, ◌∙◌}
use Rattle.sml_tree.specs.TreeOf.{long_vid_of}
use Rattle.elab_context.specs.declared.entry.Entry.TheVariants.{Constructor, Initial, Raised}
use Rattle.std.proofs.Common.{None, ap}
use Rattle.elab_context.proofs.of_elab_steps.Growing.{grows_same}
use Rattle.pat_elab.proofs.Matching.{entry-held, entry-is, con_alone_is, initial_alone_is, raised_alone_is}
use Rattle.pat_elab.proofs.matched.alone.Goals as goal

pub constructor_alone-requires-clause-held : goal.constructor_alone-requires-clause-held
constructor_alone-requires-clause-held c =
    let e = c.in-Constructor in
    entry-held c.args.state.now c.args.state.now c.args.context.now (long_vid_of c.args.long.now) c.in_ok-entry.entry (Constructor e.scheme e.number e.field-2)
    (grows_same c.args.state.now) c.requires.context c.in_ok-entry.ensures.is e.is

pub returns-in_ok-ty-in-Constructor : goal.returns-in_ok-ty-in-Constructor
returns-in_ok-ty-in-Constructor c =
    let e = c.in-Constructor in
    let x = long_vid_of c.args.long.now in
    record {
      is = λ bs. con_alone_is c.args.state.now c.constructor_alone.new.state c.args.context.now c.args.place x e.scheme e.number e.field-2 bs _ c.requires.context
          (entry-is c.args.context.now x c.in_ok-entry.entry (Constructor e.scheme e.number e.field-2) c.in_ok-entry.ensures.is e.is) c.in_ok-ty-in-Constructor.ensures.is refl;
    }

pub returns-in_ok-ty-in-Initial : goal.returns-in_ok-ty-in-Initial
returns-in_ok-ty-in-Initial c =
    let e = c.in-Initial in
    let x = long_vid_of c.args.long.now in
    let r = c.in_ok-ty-in-Initial.ensures in
    record {
      is = λ bs. initial_alone_is c.args.state.now c.packets.new.state c.args.context.now c.args.place x e.field-0 e.number bs _ c.requires.context
          (entry-is c.args.context.now x c.in_ok-entry.entry (Initial e.field-0 e.number) c.in_ok-entry.ensures.is e.is) r.grows r.is r.has r.next refl;
    }

pub returns-in_ok-ty-in-None : goal.returns-in_ok-ty-in-None
returns-in_ok-ty-in-None c =
    let e = c.in-Raised in
    let x = long_vid_of c.args.long.now in
    let r = c.in_ok-ty-in-None.ensures in
    record {
      is = λ bs. raised_alone_is c.args.state.now c.packets-in-None.new.state c.args.context.now c.args.place x e.number bs _ c.requires.context
          (entry-is c.args.context.now x c.in_ok-entry.entry (Raised e.number None) c.in_ok-entry.ensures.is (e.is ∙ ap (Raised e.number) c.in-None.is)) r.grows r.is r.has r.next refl;
    }

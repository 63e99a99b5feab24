use Rattle.std.proofs.Common.{refl}
use Rattle.sml_tree.specs.TreeOf.{long_vid_of}
use Rattle.dec_forms.proofs.Adding.{same_added}
use Rattle.dec_forms.proofs.exns.add_same.Goals as goal

pub returns-clause-added : goal.returns-clause-added
returns-clause-added c S M bs i h =
    same_added S M c.args.context.now bs c.args.place c.args.vid c.in_ok-name.name c.args.long_place (long_vid_of c.args.long.now) c.in_ok-entry.entry c.args.made.now _ i h
    c.in_ok-name.ensures.is c.in_ok-entry.ensures.is c.in_ok-entry.ensures.raised refl c.in_ok-push.ensures.items

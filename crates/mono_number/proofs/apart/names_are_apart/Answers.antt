use Rattle.std.proofs.Common.{subst}
use Rattle.mono_names.specs.Named.{AreHeld}
use Rattle.mono_read.specs.of_mono_state.Seen.{held_of}
use Rattle.mono_number.specs.Moves.{AreWithin}
use Rattle.mono_number.proofs.NamesApart.{copies-apart}
use Rattle.mono_number.proofs.apart.names_are_apart.Goals as goal

pub returns : goal.returns
returns c = λ t.
    copies-apart (held_of c.args.copier.now) c.names_are_once.ensures c.len-types.ensures.one_to_one c.len-lists.ensures.once c.len-copies_once.ensures.once
    (subst (λ k. AreHeld k c.args.copier.now.lists) c.len-types.ensures.is (c.lists_within.ensures c.if-not-lists_within.false))
    (subst (λ k. AreWithin k c.args.copier.now.copies) c.len-lists.ensures.is (c.copies_within.ensures t))

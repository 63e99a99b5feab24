use Rattle.std.proofs.Common.{refl, ap, ◌∙◌, ◌++◌}
use Rattle.mono_state.specs.Seen.{held_of}
use Rattle.mono_state.specs.Going.{slots_for}
use Rattle.mono_state.proofs.Growing.{same-longer}
use Rattle.mono_state.proofs.Standing.{stands-open, nothing-known}
use Rattle.mono_state.proofs.names.stand.Goals as goal

pub returns-clause-stands : goal.returns-clause-stands
returns-clause-stands c =
    let old = c.args.copier.now in
    let e = c.in_ok-put_slots.ensures ∙ ap (λ ns. slots_for c.args.parameters.now ns ++ old.slots) c.numbers_at-types.ensures in
    record {
      open_ = stands-open old (record old { slots = c.put_slots.new.slots; known = c.replace.new.dest }) c.args.parameters.now c.args.list c.requires.is_open c.requires.held e
          (same-longer (held_of old)) refl refl refl;
      right = λ sources. nothing-known sources (record old { slots = c.put_slots.new.slots; known = c.replace.new.dest })
          (ap (λ m. m.entries) c.replace.ensures.after ∙ c.new.ensures.empty);
      slots = e;
      own = refl;
      longer = same-longer (held_of old);
    }

use Rattle.std.proofs.Common.{◌≡◌, ◌++◌, sym, ap, ◌∙◌, subst, OnOk}
use Rattle.machine_routines.specs.EqualCode.{way_code}
use Rattle.emit_equality.specs.Ways.{all_shapes, most, way_in}
use Rattle.emit_equality.proofs.equality.push_part.Goals as goal

pub returns-in-ByWord : goal.returns-in-ByWord
returns-in-ByWord c o long places =
    let shapes = all_shapes c.args.shapes.now in
    subst (λ w. OnOk c.push_word.result (c.push_word.new.code.items ≡ c.args.code.now.items ++ way_code shapes 2 most w o c.args.number c.args.part))
    (sym (ap way_in c.in-ByWord.is) ∙ c.way_of.ensures) (c.push_word.ensures shapes o c.args.part)

pub returns-in-AsInner : goal.returns-in-AsInner
returns-in-AsInner c o long places =
    let shapes = all_shapes c.args.shapes.now in
    subst (λ w. OnOk c.push_inner.result (c.push_inner.new.code.items ≡ c.args.code.now.items ++ way_code shapes 2 most w o c.args.number c.args.part))
    (sym (ap way_in c.in-AsInner.is) ∙ c.way_of.ensures) (c.push_inner.ensures shapes o c.args.part long (c.type_at-target.ensures ∙ places c.args.part))

use Rattle.std.proofs.Common.{◌≡◌, ◌∷◌, [], ◌++◌, sym, ap, ◌∙◌, subst, OnOk, length, get_or}
use Rattle.ir_code.specs.declared.instr.Instr.TheVariants.{Call as CallRow, End}
use Rattle.machine_routines.specs.EqualCode.{equal_code}
use Rattle.emit_known.specs.of_emit_equality.Ways.{all_shapes, ArePlaces, most}
use Rattle.machine_emit.proofs.assemble.push_start.Goals as goal

pub returns : goal.returns
returns c places =
    let first = CallRow (get_or c.args.at.now.funs.items 0 c.args.at.now.funs_end) 0 in
    let two : c.put-2.new.code.items ≡ first ∷ End ∷ [] =
    c.in_ok-put-2.ensures ∙ ap (λ l. l ++ End ∷ [])
    (c.in_ok-put.ensures ∙ ap (λ l. l ++ CallRow c.first_fun.result 0 ∷ []) c.requires ∙ ap (λ n. CallRow n 0 ∷ []) c.first_fun.ensures) in
    subst (λ l. OnOk c.push_equality.result (c.push_equality.new.code.items ≡ l ++ equal_code (all_shapes c.args.tables.now.types.items) 2 most)) two
    (subst (λ s. OnOk c.push_equality.result (c.push_equality.new.code.items ≡ c.put-2.new.code.items ++ equal_code (all_shapes s) 2 most))
    c.deref.ensures.value
    (c.push_equality.ensures (ap length two)
    (subst (λ s. ArePlaces (all_shapes s) c.deref-2.result.now c.args.at.now.types_end) (sym c.deref.ensures.value)
    (subst (λ t. ArePlaces (all_shapes c.args.tables.now.types.items) t c.args.at.now.types_end) (sym c.deref-2.ensures.value) places))))

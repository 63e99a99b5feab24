use Rattle.std.proofs.Common.{◌≡◌, refl, ◌+◌, ◌-◌, ◌∙◌, length, drop, ap, arith}
use Rattle.first_tables.specs.TablesOf.{tables_of}
use Rattle.ssa_tree.specs.TreeOf.{tree_of}
use Rattle.machine_code.specs.Code.{exits_of, with_params}
use Rattle.emit_parts.specs.Labels.{spots_of}
use Rattle.walk_labels.specs.Labels.{Frame, blocked}
use Rattle.walk_labels.specs.Marks.{Mark}
use Rattle.walk_labels.proofs.Marks.{frame-is}
use Rattle.emit_walk.specs.Marks.{frame_of, mark_of}
use Rattle.emit_walk.specs.Walk.{env_of}
use Rattle.emit_walk.proofs.Nodes.{fun-told, fun-walked, passed}
use Rattle.emit_walk.proofs.Parts.{kept-blocked}
use Rattle.emit_walk.proofs.body.emit_fun.Goals as goal

pub returns-in_err-emit_body-clause-told : goal.returns-in_err-emit_body-clause-told
returns-in_err-emit_body-clause-told c =
    let ps = c.args.fun.now.params.items in
    let f : Frame = record { depth = c.bind_all.new.depth; scope = c.bind_all.new.slots; exits = exits_of (spots_of c.args.pass.now.spots.items) } in
    let m1 : Mark = record { place = length c.args.pass.now.code.items; frame = f; found = c.args.pass.now.found.items } in
    let is : f ≡ blocked ps (frame_of c.args.pass.now) =
    frame-is f (blocked ps (frame_of c.args.pass.now)) (c.in_ok-bind_all.ensures.depth ∙ ap (λ l. c.args.pass.now.depth + length l) c.deref.ensures.value)
    (c.in_ok-bind_all.ensures.slots ∙ ap (λ l. with_params l c.args.pass.now.depth c.args.pass.now.slots) c.deref.ensures.value) refl in
    passed _ c.from_residual-in_err-emit_body.result c.in_err-emit_body.field-0.0 c.from_residual-in_err-emit_body.ensures.1
    (λ told. c.in_err-emit_body.ensures.told
    (fun-told (tables_of c.args.tables.now).types ps (tree_of c.args.fun.now.body) (mark_of c.args.pass.now) m1 refl is refl c.args.sure
    c.args.at.now.labels.items told))

pub returns-clause-walked : goal.returns-clause-walked
returns-clause-walked c =
    let ps = c.args.fun.now.params.items in
    let f : Frame = record { depth = c.bind_all.new.depth; scope = c.bind_all.new.slots; exits = exits_of (spots_of c.args.pass.now.spots.items) } in
    let m1 : Mark = record { place = length c.args.pass.now.code.items; frame = f; found = c.args.pass.now.found.items } in
    let is : f ≡ blocked ps (frame_of c.args.pass.now) =
    frame-is f (blocked ps (frame_of c.args.pass.now)) (c.in_ok-bind_all.ensures.depth ∙ ap (λ l. c.args.pass.now.depth + length l) c.deref.ensures.value)
    (c.in_ok-bind_all.ensures.slots ∙ ap (λ l. with_params l c.args.pass.now.depth c.args.pass.now.slots) c.deref.ensures.value) refl in
    fun-walked (tables_of c.args.tables.now).types ps (tree_of c.args.fun.now.body) (mark_of c.args.pass.now) m1 refl is refl c.len.result (mark_of
    c.emit_body.new.pass) _
    c.in_ok-emit_body.ensures.walked (omega (arith, c.len.ensures, c.args.fun.now.params.ok.0)) refl c.leave.ensures.depth c.leave.ensures.slots refl refl

pub returns-clause-kept : goal.returns-clause-kept
returns-clause-kept c p =
    let f = env_of c.emit_body.new.pass in
    let k = c.in_ok-emit_body.ensures.kept p in
    let count : c.len.result ≡ length c.deref.result.now = omega (arith, c.len.ensures, c.args.fun.now.params.ok.0, ap length c.deref.ensures.value) in
    kept-blocked (env_of c.args.pass.now) f _ c.deref.result.now (k.depth ∙ c.in_ok-bind_all.ensures.depth) (k.scope ∙ c.in_ok-bind_all.ensures.slots)
    (c.leave.ensures.depth ∙ ap (λ z. f.depth - z) count) (c.leave.ensures.slots ∙ ap (λ z. drop z f.scope) count) k.spots

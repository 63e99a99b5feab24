use Rattle.std.proofs.Common.{refl, ◌+◌, ◌∷◌, length, map, drop, sym, ap, ◌∙◌, subst, arith}
use Rattle.std.proofs.lemmas.List.{drop_more, drop_all}
use Rattle.first_tables.specs.TablesOf.{tables_of}
use Rattle.ssa_tree.specs.TreeOf.{fun_of}
use Rattle.machine_code.specs.Code.{exits_of}
use Rattle.machine_rows.specs.Table.{rows}
use Rattle.emit_code.specs.PlacesOf.{places_of}
use Rattle.walk_labels.proofs.Marks.{frame-is}
use Rattle.emit_walk.specs.Marks.{frame_of, mark_of}
use Rattle.emit_walk.specs.Walk.{env_of}
use Rattle.emit_walk.proofs.Nodes.{passed}
use Rattle.machine_emit.proofs.Funs.{Laid, no_frame, none-laid, laid-next, laid-told, all-places, all-long, all-labels}
use Rattle.machine_emit.proofs.Whole.{Walked, first-walked, walked-next, walked-code}
use Rattle.machine_emit.proofs.assemble.push_funs.Goals as goal

pub loop-i-init : goal.loop-i-init
loop-i-init c = record {
  code = λ right s.
      subst (λ l. Walked (places_of c.args.tables.now c.args.at.now) right (map fun_of c.args.funs.now) c.args.pass.now.code.items (map fun_of
      c.args.funs.now) (env_of c.args.pass.now)
      c.args.pass.now.code.items l) (sym c.new-found.ensures.items)
      (first-walked (places_of c.args.tables.now c.args.at.now) right (map fun_of c.args.funs.now) c.args.pass.now.code.items (env_of c.args.pass.now)
      c.args.pass.now.code.items
      c.requires.empty refl);
  laid =
      let e = c.requires.empty in
      none-laid rows (tables_of c.args.tables.now).types (map fun_of c.args.funs.now) (length c.args.pass.now.code.items) (mark_of c.args.pass.now)
      c.new-found.result.items
      (frame-is (frame_of c.args.pass.now) no_frame e.depth e.scope (ap exits_of e.spots)) refl c.requires.none c.new-found.ensures.items;
}

pub loop-i-preserved : goal.loop-i-preserved
loop-i-preserved c =
    let all = c.args.funs.now in
    let this = c.index-funs-i.result in
    let i = c.loop-i.i in
    let rest = map fun_of (drop (i + 1) all) in
    let same = ap (map fun_of) (drop_more all i this c.loop-i-test.true) ∙ ap (λ f. fun_of f ∷ rest) (sym c.index-funs-i.is) in
    record {
      code = λ right s.
          let at = places_of c.args.tables.now c.args.at.now in
          let so-far = subst (λ l. Walked at right (map fun_of all) c.args.pass.now.code.items l (env_of c.loop-i.pass) c.loop-i.pass.code.items
          c.loop-i.found.items)
          same (c.loop-i.invariant.code right s) in
          walked-next at right (map fun_of all) c.args.pass.now.code.items (fun_of this) rest (env_of c.loop-i.pass) (env_of c.emit_fun.new.pass)
          c.loop-i.pass.code.items
          c.emit_fun.new.pass.code.items c.loop-i.found.items c.push.new.self.items c.in_ok-here.field-0 so-far (c.in_ok-emit_fun.ensures.code s)
          (c.in_ok-emit_fun.ensures.kept s)
          c.in_ok-here.ensures c.in_ok-push.ensures.items;
      laid =
          let types = (tables_of c.args.tables.now).types in
          let from = length c.args.pass.now.code.items in
          let so-far = subst (λ l. Laid rows types (map fun_of all) from l (mark_of c.loop-i.pass) c.loop-i.found.items) same c.loop-i.invariant.laid in
          laid-next rows types (map fun_of all) from (fun_of this) rest (mark_of c.loop-i.pass) (mark_of c.emit_fun.new.pass) c.loop-i.found.items
          c.push.new.self.items
          c.in_ok-here.field-0 so-far c.in_ok-emit_fun.ensures.walked c.in_ok-here.ensures c.in_ok-push.ensures.items;
    }

pub returns-in_err-emit_fun-clause-told : goal.returns-in_err-emit_fun-clause-told
returns-in_err-emit_fun-clause-told c =
    let all = c.args.funs.now in
    let this = c.index-funs-i.result in
    let i = c.loop-i.i in
    let rest = map fun_of (drop (i + 1) all) in
    let types = (tables_of c.args.tables.now).types in
    let from = length c.args.pass.now.code.items in
    let same = ap (map fun_of) (drop_more all i this c.loop-i-test.true) ∙ ap (λ f. fun_of f ∷ rest) (sym c.index-funs-i.is) in
    let so-far = subst (λ l. Laid rows types (map fun_of all) from l (mark_of c.loop-i.pass) c.loop-i.found.items) same c.loop-i.invariant.laid in
    passed _ c.from_residual-in_err-emit_fun.result c.in_err-emit_fun.field-0.0 c.from_residual-in_err-emit_fun.ensures.1
    (λ told. c.in_err-emit_fun.ensures.told
    (laid-told rows types (map fun_of all) from (fun_of this) rest (mark_of c.loop-i.pass) c.loop-i.found.items so-far c.args.sure c.args.at.now.labels.items
    told))

pub returns-clause-code : goal.returns-clause-code
returns-clause-code c = λ s.
    let at = places_of c.args.tables.now c.args.at.now in
    let all = c.args.funs.now in
    walked-code at c.rows_are_right.ensures (map fun_of all) c.args.pass.now.code.items (env_of c.loop-i.pass) c.loop-i.pass.code.items c.loop-i.found.items
    (subst (λ l. Walked at c.rows_are_right.ensures (map fun_of all) c.args.pass.now.code.items l (env_of c.loop-i.pass) c.loop-i.pass.code.items
    c.loop-i.found.items)
    (ap (map fun_of) (drop_all c.loop-i.i all (omega arith))) (c.loop-i.invariant.code c.rows_are_right.ensures s))

pub returns-clause-places : goal.returns-clause-places
returns-clause-places c =
    let all = c.args.funs.now in
    let types = (tables_of c.args.tables.now).types in
    let from = length c.args.pass.now.code.items in
    all-places rows types (map fun_of all) from (mark_of c.loop-i.pass) c.loop-i.found.items c.in_ok-end.end c.in_ok-end.ensures
    (subst (λ l. Laid rows types (map fun_of all) from l (mark_of c.loop-i.pass) c.loop-i.found.items) (ap (map fun_of) (drop_all c.loop-i.i all (omega
    arith))) c.loop-i.invariant.laid)

pub returns-clause-long : goal.returns-clause-long
returns-clause-long c =
    let all = c.args.funs.now in
    let types = (tables_of c.args.tables.now).types in
    let from = length c.args.pass.now.code.items in
    all-long rows types (map fun_of all) from (mark_of c.loop-i.pass) c.loop-i.found.items
    (subst (λ l. Laid rows types (map fun_of all) from l (mark_of c.loop-i.pass) c.loop-i.found.items) (ap (map fun_of) (drop_all c.loop-i.i all (omega
    arith))) c.loop-i.invariant.laid)

pub returns-clause-labels : goal.returns-clause-labels
returns-clause-labels c =
    let all = c.args.funs.now in
    let types = (tables_of c.args.tables.now).types in
    let from = length c.args.pass.now.code.items in
    all-labels rows types (map fun_of all) from (mark_of c.loop-i.pass) c.loop-i.found.items
    (subst (λ l. Laid rows types (map fun_of all) from l (mark_of c.loop-i.pass) c.loop-i.found.items) (ap (map fun_of) (drop_all c.loop-i.i all (omega
    arith))) c.loop-i.invariant.laid)

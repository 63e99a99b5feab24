use Rattle.std.proofs.Common.{ℕ, ◌+◌, [], ◌∷◌, ◌++◌, length, map, drop, sym, ap, ◌∙◌, subst, arith, append-nil, get_or}
use Rattle.std.proofs.lemmas.List.{drop_more, drop_all}
use Rattle.first_tables.specs.TablesOf.{member_of, set_of}
use Rattle.ssa_tree.specs.TreeOf.{fun_of}
use Rattle.machine_code.specs.Image.{widest, placed, set_code}
use Rattle.emit_sets.proofs.Routines.{SetsSoFar, sets-next, sets-done}
use Rattle.emit_sets.proofs.sets.push_sets.Goals as goal

pub loop-i-preserved : goal.loop-i-preserved
loop-i-preserved c =
    let all = c.args.sets.now in
    let funs = map fun_of c.args.funs.now in
    let fun_at = λ (f : ℕ). get_or c.args.places.now f c.args.other in
    let old = c.args.code.now.items in
    let i = c.loop-i.i in
    let this = c.index-sets-i.result in
    let set = set_of (get_or all i this) in
    let same = ap (map member_of) c.deref.ensures.value ∙ ap set_of c.index-sets-i.is in
    let so-far : SetsSoFar funs fun_at (map set_of all) old (set ∷ map set_of (drop (i + 1) all)) c.loop-i.code.items c.loop-i.found.items =
    subst (λ l. SetsSoFar funs fun_at (map set_of all) old l c.loop-i.code.items c.loop-i.found.items) (ap (map set_of) (drop_more all i this c.loop-i-test.true)) c.loop-i.invariant in
    sets-next funs fun_at (map set_of all) old set (map set_of (drop (i + 1) all)) c.loop-i.code.items c.push_set.new.code.items c.loop-i.found.items c.push.new.self.items
    c.in_ok-here.field-0 so-far
    (c.in_ok-push_set.ensures ∙ ap (λ s. c.loop-i.code.items ++ set_code (length c.loop-i.code.items) (widest funs s) (placed fun_at s)) same)
    c.in_ok-here.ensures c.in_ok-push.ensures.items

pub returns-clause-code : goal.returns-clause-code
returns-clause-code c =
    let all = c.args.sets.now in
    let funs = map fun_of c.args.funs.now in
    let fun_at = λ (f : ℕ). get_or c.args.places.now f c.args.other in
    let old = c.args.code.now.items in
    let so-far : SetsSoFar funs fun_at (map set_of all) old [] c.loop-i.code.items c.loop-i.found.items =
    subst (λ l. SetsSoFar funs fun_at (map set_of all) old l c.loop-i.code.items c.loop-i.found.items) (ap (map set_of) (drop_all c.loop-i.i all (omega arith))) c.loop-i.invariant in
    sym (append-nil c.loop-i.code.items) ∙ so-far.whole

pub returns-clause-places : goal.returns-clause-places
returns-clause-places c =
    let all = c.args.sets.now in
    let funs = map fun_of c.args.funs.now in
    let fun_at = λ (f : ℕ). get_or c.args.places.now f c.args.other in
    let old = c.args.code.now.items in
    sets-done funs fun_at (map set_of all) old c.loop-i.code.items c.loop-i.found.items c.in_ok-end.end c.in_ok-end.ensures
    (subst (λ l. SetsSoFar funs fun_at (map set_of all) old l c.loop-i.code.items c.loop-i.found.items) (ap (map set_of) (drop_all c.loop-i.i all (omega arith))) c.loop-i.invariant)

use Rattle.std.proofs.Common.{◌≡◌, ◌+◌, ◌++◌, length, map, sym, ap, ◌∙◌, subst, OnOk, get_or}
use Rattle.first_tables.specs.TablesOf.{member_of}
use Rattle.ssa_tree.specs.TreeOf.{fun_of}
use Rattle.machine_code.specs.Image.{widest, placed, set_code, tags_end}
use Rattle.emit_code.specs.Tags.{target_of}
use Rattle.emit_sets.proofs.Members.{set-is}
use Rattle.emit_sets.proofs.sets.push_set.Goals as goal

pub returns : goal.returns
returns c =
    let old = c.args.code.now.items in
    let k = widest (map fun_of c.args.funs.now) (map member_of c.args.members.now) in
    let fun_at = λ (f : _). get_or c.args.places.now f c.args.other in
    let set = map target_of c.deref.result.now in
    let same : set ≡ placed fun_at (map member_of c.args.members.now) = ap (map target_of) c.deref.ensures.value ∙ c.in_ok-targets.ensures in
    let tag : c.in_ok-tag.tag ≡ k + 2 = c.in_ok-tag.ensures ∙ ap (λ n. n + 2) (c.in_ok-word.ensures ∙ c.widest.ensures) in
    subst (λ l. OnOk c.push_way.result (c.push_way.new.code.items ≡ l))
    (set-is set old c.put_two.new.code.items c.li.result c.ld.result k c.in_ok-tag.tag c.in_ok-free.free c.in_ok-end.end c.in_ok-put_two.ensures c.li.ensures c.ld.ensures tag
    c.in_ok-free.ensures (c.in_ok-end.ensures fun_at ∙ ap tags_end (sym same)) ∙ ap (λ s. old ++ set_code (length old) k s) same)
    c.push_way.ensures

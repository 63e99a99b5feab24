use Rattle.std.proofs.Common.{ℕ, ◌+◌, ◌++◌, map, drop, ap, ◌∙◌, sym, get_or}
use Rattle.std.proofs.lemmas.List.{drop_more}
use Rattle.first_tables.specs.TablesOf.{member_of}
use Rattle.first_tables.specs.declared.tables.Member.{Member}
use Rattle.machine_code.specs.Image.{placed}
use Rattle.emit_code.specs.Tags.{target_of}
use Rattle.emit_code.specs.declared.choice.Target.{Target}
use Rattle.emit_sets.proofs.Members.{placed-next}
use Rattle.emit_sets.proofs.sets.placed.Goals as goal

pub loop-member-preserved : goal.loop-member-preserved
loop-member-preserved c =
    let all = c.args.members.now in
    let i = c.loop-member.member-index in
    let fun_at = λ (f : ℕ). get_or c.args.funs.now f c.args.other in
    let d : Member = record { tag = 0; function = 0 } in
    let new : Target = record { tag = c.in_ok-tag.tag; place = c.place_of-place.result } in
    placed-next fun_at (get_or all i d) (drop (i + 1) all) c.loop-member.targets.items c.push.new.self.items
    new (placed fun_at (map member_of all))
    (sym (ap (λ l. map target_of c.loop-member.targets.items ++ placed fun_at (map member_of l)) (drop_more all i d c.loop-member-test.true)) ∙ c.loop-member.invariant)
    c.in_ok-push.ensures.items c.in_ok-tag.ensures c.place_of-place.ensures

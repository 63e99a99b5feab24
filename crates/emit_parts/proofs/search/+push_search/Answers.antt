use Rattle.std.proofs.Common.{◌≡◌, ◌≤◌, ◌-◌, ◌/◌, ◌++◌, ◌∙◌, suc, sym, ap, subst, refl, length, arith, OnOk, get_or}
use Rattle.machine_routines.specs.FindCode.{leaf, search_code}
use Rattle.emit_code.specs.Tags.{target_of}
use Rattle.emit_parts.specs.Labels.{no_target}
use Rattle.emit_parts.proofs.Searches.{code_for, one-code, node-code, rest-whole}
use Rattle.emit_parts.proofs.search.+push_search.Goals as goal

pub returns-then-targets-eq1 : goal.returns-then-targets-eq1
returns-then-targets-eq1 t c fuel le =
    let old = c.args.code.now.items in
    subst (λ l. OnOk c.push_leaf.result (c.push_leaf.new.code.items ≡ old ++ l))
    (ap (λ z. search_code (length old) c.args.slot c.args.free c.args.other (leaf c.args.tests (target_of z))) c.first_of.ensures
    ∙ sym (one-code c.args.tests c.args.slot c.args.free c.args.other (length old) fuel c.args.targets.now no_target c.if-targets-eq1.true le))
    (c.push_leaf.ensures (length old))

pub returns : goal.returns
returns t c fuel le =
    let ts = c.args.targets.now in
    let old = c.args.code.now.items in
    let two : 2 ≤ length ts = omega (arith, c.if-targets-eq0.false, c.if-targets-eq1.false) in
    let one : suc (fuel - 1) ≡ fuel = omega (arith, two, le) in
    let w = rest-whole (length ts / 2) ts in
    let left = c.push_search.new.code.items in
    let b = node-code c.args.tests c.args.slot c.args.free c.args.other (fuel - 1) (length ts / 2) c.in_ok-search_size.field-0 c.in_ok-behind.behind ts no_target c.first_of-least.result
    c.li.result c.ult.result c.brz.result old c.put_three.new.code.items c.push_search.new.code.items two (omega (arith, le, one)) refl (c.first_of-least.ensures ∙ ap (λ l. get_or l 0 no_target) w)
    c.in_ok-search_size.ensures (omega (arith, c.in_ok-behind.ensures, c.in_ok-sum.ensures, c.in_ok-here.ensures)) c.li.ensures c.ult.ensures c.brz.ensures
    c.in_ok-put_three.ensures c.in_ok-push_search.ensures in
    subst (λ l. OnOk c.push_search-2.result (c.push_search-2.new.code.items ≡ l))
    (ap (λ l. left ++ code_for c.args.tests c.args.slot c.args.free c.args.other (length left) (fuel - 1) l) w ∙ b.1 ∙ ap (λ z. old ++ code_for c.args.tests c.args.slot c.args.free c.args.other (length old) z ts) one)
    (c.push_search-2.ensures (fuel - 1) (subst (λ l. length l ≤ fuel - 1) (sym w) b.0))

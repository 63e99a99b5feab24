use Rattle.std.proofs.Common.{◌++◌, sym, ap, ◌∙◌}
use Rattle.general_bindings.specs.General.{over_scope, whole, spots_of}
use Rattle.general_bindings.proofs.Recording.{separate-puts, separate-next, separate-spots}
use Rattle.general_bindings.proofs.bindings.push_recorded.Goals as goal

pub returns-clause-next : goal.returns-clause-next
returns-clause-next c =
    let m = c.in_ok-made.ensures in
    separate-next c.args.work.now c.record_body.new.work c.push_general.new.work c.push_split.new.work c.args.pat.now c.args.u c.args.value c.deref.result.now m.next (λ v. ap (spots_of v) c.deref.ensures.value ∙ m.spots v) c.in_ok-whole.ensures.next c.in_ok-found.ensures.next

pub returns-clause-spots : goal.returns-clause-spots
returns-clause-spots c =
    let m = c.in_ok-made.ensures in
    separate-spots c.args.work.now c.record_body.new.work c.push_general.new.work c.args.pat.now c.args.u c.args.value c.deref.result.now c.in_ok-found.found.items c.args.spots.now.items c.extend_from_slice.new.self.items m.next
    (λ v. ap (spots_of v) c.deref.ensures.value ∙ m.spots v) c.in_ok-whole.ensures.next c.in_ok-found.ensures.found
    (c.in_ok-extend_from_slice.ensures.items ∙ ap (λ l. c.args.spots.now.items ++ l) (c.deref-2.ensures.value ∙ c.reverse.ensures.items))

pub returns-clause-puts : goal.returns-clause-puts
returns-clause-puts c = λ f inner.
    let m = c.in_ok-made.ensures in
    let w = c.in_ok-whole.ensures in
    let d = c.in_ok-found.ensures in
    separate-puts c.args.work.now c.args.parameters c.args.pat.now c.args.u c.args.value c.in_ok-made.made.ty c.deref.result.now f m.next (λ v. ap (spots_of v) c.deref.ensures.value ∙ m.spots v)
    (λ v s. m.ty v s ∙ sym (ap (λ l. over_scope (whole l) v) c.deref.ensures.value)) (m.gives f inner) w.is w.next w.keeps w.puts d.keeps d.puts

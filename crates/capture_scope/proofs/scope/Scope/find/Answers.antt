use Rattle.std.proofs.Common.{◌-◌, sym, ap, ◌∙◌}
use Rattle.closure_convert.specs.Scope.{Scope}
use Rattle.capture_scope.specs.Seen.{members_of}
use Rattle.capture_scope.specs.Found.{found_in, member_found}
use Rattle.capture_scope.proofs.Lists.{distinct}
use Rattle.capture_scope.proofs.Finding.{found-nowhere, found-captured, found-behind}
use Rattle.capture_scope.proofs.scope.Scope.find.Goals as goal

pub returns-in-None : goal.returns-in-None
returns-in-None c =
    sym (ap (λ (s : Scope). found_in s c.args.variable) (sym c.self.view_is)
    ∙ found-nowhere c.self.inside.seen.keys c.self.inside.captured (members_of c.self.inside.group.items) c.self.invariant (distinct c.self.inside.seen.keys c.len-seen.ensures.unique) c.args.variable (sym c.get_index_of.ensures.index ∙ c.in-None.is))

pub returns-then-place-self : goal.returns-then-place-self
returns-then-place-self c =
    sym (ap (λ (s : Scope). found_in s c.args.variable) (sym c.self.view_is)
    ∙ found-captured c.self.inside.seen.keys c.self.inside.captured (members_of c.self.inside.group.items) c.self.invariant (distinct c.self.inside.seen.keys c.len-seen.ensures.unique) c.args.variable c.in-Some.place (sym c.get_index_of.ensures.index ∙ c.in-Some.is) c.if-place-self.true)

pub returns-else-place-self : goal.returns-else-place-self
returns-else-place-self c =
    c.member_or_local.ensures ∙ ap (λ l. member_found (members_of l) (c.in-Some.place - c.self.inside.captured)) c.deref.ensures.value
    ∙ sym (ap (λ (s : Scope). found_in s c.args.variable) (sym c.self.view_is)
    ∙ found-behind c.self.inside.seen.keys c.self.inside.captured (members_of c.self.inside.group.items) c.self.invariant (distinct c.self.inside.seen.keys c.len-seen.ensures.unique) c.args.variable c.in-Some.place (sym c.get_index_of.ensures.index ∙ c.in-Some.is) c.if-place-self.false)

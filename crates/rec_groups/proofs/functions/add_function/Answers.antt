use Rattle.std.proofs.Common.{List, true, ◌++◌, map, ap, ◌∙◌}
use Rattle.std.specs.Prelude.{reverse}
use Rattle.dec_forms.specs.of_pat_elab.declared.bound.BoundVariable.{BoundVariable}
use Rattle.rec_groups.specs.Heads.{numbers_of}
use Rattle.elab_steps.proofs.Growing.{grows_on}
use Rattle.rec_groups.proofs.Adding.{function_added}
use Rattle.rec_groups.proofs.functions.add_function.Goals as goal

pub returns-clause-grows : goal.returns-clause-grows
returns-clause-grows c = grows_on c.args.state.now c.unify.new.state c.write.new.state c.in_ok-unify.ensures.grows c.in_ok-ty.ensures.grows

pub returns-clause-added : goal.returns-clause-added
returns-clause-added c S N M rs r q rules hs before head e made =
    function_added S N M c.args.state.now c.unify.new.state c.write.new.state c.args.context.now rs r q rules c.args.funs.now.items c.push.new.self.items hs c.args.head.now c.args.made
    c.in_ok-numbers.numbers c.in_ok-ty.ty before head e made c.in_ok-unify.ensures.grows c.in_ok-unify.ensures.equal c.in_ok-ty.ensures.grows c.in_ok-ty.ensures.is (c.in_ok-numbers.ensures.numbers ∙ ap (λ l. numbers_of (reverse l)) c.deref.ensures.value)
    c.in_ok-push.ensures.items

pub returns-clause-bound : goal.returns-clause-bound
returns-clause-bound c = c.in_ok-numbers.ensures.bound ∙ ap (λ (l : List BoundVariable). c.args.bound.now.items ++ reverse l) c.deref.ensures.value

pub returns-clause-flags : goal.returns-clause-flags
returns-clause-flags c = c.in_ok-numbers.ensures.flags ∙ ap (λ (l : List BoundVariable). c.args.flags.now.items ++ map (λ b. true) (reverse l)) c.deref.ensures.value

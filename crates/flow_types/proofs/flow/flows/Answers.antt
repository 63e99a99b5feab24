use Rattle.std.proofs.Common.{ℕ, List, ◌++◌, ap, ◌∙◌}
use Rattle.mono_bound.specs.Bound.{exp_bound}
use Rattle.mono_bound.specs.Reads.{mono_of}
use Rattle.closure_whole.specs.Rising.{rising}
use Rattle.flow_types.specs.Kinds.{empty_sets, sets_in}
use Rattle.flow_types.specs.Flows.{program_with}
use Rattle.flow_types.proofs.Entered.{has-rising}
use Rattle.flow_types.proofs.flow.flows.Goals as goal

pub returns-clause-rising : goal.returns-clause-rising
returns-clause-rising c = λ strings.
    has-rising c.args.types.now strings c.args.body.now c.push_bound.new.found.items c.deref.result.now c.in_ok-kinds.kinds.items c.deref-2.result.now c.deref-3.result.now
    (record { sets = c.in_ok-sets.sets; numbers = c.in_ok-numbers.numbers }) (c.bound_is_bound.ensures c.args.types.now strings c.args.body.now)
    (c.in_ok-push_bound.ensures ∙ ap (λ l. l ++ exp_bound c.args.types.now c.args.body.now) c.new-found.ensures.items) c.deref.ensures.value (record { long = c.in_ok-kinds.ensures.long; kinds = c.in_ok-kinds.ensures.kinds })
    c.deref-2.ensures.value c.deref-3.ensures.value (c.in_ok-sets.ensures ∙ ap (λ n. sets_in 0 c.deref-2.result.now (empty_sets n)) c.len.ensures.is) c.in_ok-numbers.ensures

pub returns-clause-solves : goal.returns-clause-solves
returns-clause-solves c = λ strings initial expansion w. record {
  whole = rising (program_with initial c.args.types.now expansion (mono_of c.args.types.now strings c.args.body.now));
  has = returns-clause-rising c strings initial expansion;
  solves = c.rising_sets_solve.ensures (program_with initial c.args.types.now expansion (mono_of c.args.types.now strings c.args.body.now)) w;
}

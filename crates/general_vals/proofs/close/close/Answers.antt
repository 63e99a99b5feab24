use Rattle.std.proofs.Common.{◌≡◌, ◌+◌, suc, length, ap, refl, subst, sym, ◌∙◌, arith}
use Rattle.std.specs.Prelude.{option_map}
use Rattle.ty_solve.specs.Said.{said}
use Rattle.elab_state.specs.States.{limit_in}
use Rattle.ty_solve.specs.Limits.{limit_at}
use Rattle.elab_steps.specs.Tidy.{IsTidy}
use Rattle.general_vals.proofs.Ending.{limits-end, limits-wide, low-enough, ends-with, list-with, tidy-with}
use Rattle.general_vals.proofs.close.close.Goals as goal

pub invariant_of-state-2 : goal.invariant_of-state-2
invariant_of-state-2 c =
    let s = c.args.state.now in
    let up : c.args.level + 1 ≡ suc c.args.level = omega arith in
    let low = low-enough s c.args.level (omega (arith, c.requires.tidy.low)) (subst (IsTidy s) up c.requires.tidy) in
    let b = limit_in s in
    let d = limit_at c.end_limits.new.limits.items in
    let one : length c.end_limits.new.limits.items ≡ length s.solver.subst.slots.items = c.end_limits.ensures.length ∙ s.solver.each_has_one in
    let limited = limits-end b d c.args.level c.args.first c.end_limits.ensures.each c.requires.outer (said s.solver.subst) low s.solver.limited in
    let wide = limits-wide b d c.args.level c.args.first c.end_limits.ensures.each c.requires.outer s.solver.wide in
    ((one, (limited, (wide, tt))), (s.held, (s.ordered, (s.rows, tt))))

pub returns-clause-ends : goal.returns-clause-ends
returns-clause-ends c = λ list is.
    ends-with c.args.state.now _ c.args.level c.args.first c.len-list.result list c.in-Some.parameters (record {
      limits = c.end_limits.ensures.each;
      solver = refl;
      written = refl;
      namings = refl;
      types = refl;
      constructors = refl;
      lists = c.in_ok-push.ensures.items;
      strings = refl;
      next = refl;
      deeper = c.requires.level;
      level = refl;
      number = omega (arith, c.len-list.ensures, c.args.state.now.tables.parameters.ok.0);
      found = sym c.in_ok-parameters.ensures ∙ ap (option_map (λ qs. qs.items)) c.in-Some.is;
    }) is c.requires.tidy.low c.requires.outer c.requires.tidy

pub returns-clause-list : goal.returns-clause-list
returns-clause-list c = λ list is.
    list-with c.args.state.now _ c.args.level c.args.first c.len-list.result list c.in-Some.parameters (record {
      limits = c.end_limits.ensures.each;
      solver = refl;
      written = refl;
      namings = refl;
      types = refl;
      constructors = refl;
      lists = c.in_ok-push.ensures.items;
      strings = refl;
      next = refl;
      deeper = c.requires.level;
      level = refl;
      number = omega (arith, c.len-list.ensures, c.args.state.now.tables.parameters.ok.0);
      found = sym c.in_ok-parameters.ensures ∙ ap (option_map (λ qs. qs.items)) c.in-Some.is;
    }) is c.requires.tidy.low c.requires.outer c.requires.tidy

pub returns-clause-tidy : goal.returns-clause-tidy
returns-clause-tidy c = λ list is.
    tidy-with c.args.state.now _ c.args.level c.args.first c.len-list.result list c.in-Some.parameters (record {
      limits = c.end_limits.ensures.each;
      solver = refl;
      written = refl;
      namings = refl;
      types = refl;
      constructors = refl;
      lists = c.in_ok-push.ensures.items;
      strings = refl;
      next = refl;
      deeper = c.requires.level;
      level = refl;
      number = omega (arith, c.len-list.ensures, c.args.state.now.tables.parameters.ok.0);
      found = sym c.in_ok-parameters.ensures ∙ ap (option_map (λ qs. qs.items)) c.in-Some.is;
    }) is c.requires.tidy.low c.requires.outer c.requires.tidy

use Rattle.std.proofs.Common.{◌≡◌, [], length, map, sym, subst, ◌∙◌, arith}
use Rattle.sml_tree.specs.TreeOf.{dec_of}
use Rattle.elab_steps.specs.Flexible.{AreSettled, OneIsFlexible}
use Rattle.run_end.specs.Chosen.{AreChosen}
use Rattle.run_end.specs.Settled.{IsSettled}
use Rattle.project_elab.proofs.Closing.{both-answer, declared-later}
use Rattle.project_elab.proofs.Sources.{source-more}
use Rattle.project_elab.proofs.project.Elaborating.source.Goals as goal

pub is_settled-requires : goal.is_settled-requires
is_settled-requires c = c.in_ok-choose_classes.ensures.grows.tidy c.in_ok-decs_from.ensures.stands.context.tidy

pub returns-clause-elaborated : goal.returns-clause-elaborated
returns-clause-elaborated c =
    let e = c.args.self.now in
    let T = c.decs_from.new.state in
    let U = c.choose_classes.new.state in
    let D = c.decs_from.new.context in
    let ds = map dec_of c.args.decs.now in
    let k = c.in_ok-choose_classes.ensures in
    source-more e (record { state = U; context = D; body = c.decs_from.new.made; nodes = c.saturating_add-self.result }) ds c.new-brought.result c.decs_from.new.brought c.requires
    (let n = c.decs_nodes.ensures in let s = c.saturating_add-self.ensures in omega (arith, n, s))
    (declared-later e.state T U e.context D ds k.grows k.next e.body.items c.decs_from.new.made.items c.new-brought.result c.decs_from.new.brought
    c.in_ok-decs_from.ensures)

pub returns-clause-closed : goal.returns-clause-closed
returns-clause-closed c =
    let k = c.in_ok-choose_classes.ensures in
    let U = c.choose_classes.new.state in
    let n = length c.args.self.now.state.flexible.items in
    let same : c.len-first_flexible.result ≡ n = omega (arith, c.len-first_flexible.ensures, c.args.self.now.state.flexible.ok.0) in
    let answers = both-answer c.in_ok-settled.settled c.are_settled-are_known.result (IsSettled U c.decs_from.new.brought) (AreSettled U n []) (OneIsFlexible U n [])
    c.in_ok-settled.ensures (λ e. subst (λ m. AreSettled U m []) same (c.are_settled-are_known.ensures.settled e))
    (λ e. subst (λ m. OneIsFlexible U m []) same (c.are_settled-are_known.ensures.open e)) in
    record {
      between = c.decs_from.new.state;
      nothing = c.new-brought.result;
      brought = c.decs_from.new.brought;
      empty = c.new-brought.ensures.values;
      declared = c.in_ok-decs_from.ensures;
      grows = k.grows;
      chosen = subst (AreChosen c.decs_from.new.state c.choose_classes.new.state) c.variables_made-first.ensures k.chosen;
      settled = λ e. answers.0 (sym c.both.ensures ∙ e);
      unsettled = λ e. answers.1 (sym c.both.ensures ∙ e);
    }

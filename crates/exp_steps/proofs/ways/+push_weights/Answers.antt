use Rattle.std.proofs.Common.{sym, ap, ◌∙◌}
use Rattle.match_compile.specs.Compile.{weighed}
use Rattle.prog_tree.specs.TreeOf.{tree_of}
use Rattle.exp_steps.specs.Made.{counted}
use Rattle.exp_steps.proofs.Counting.{weighs-none, weighs-as, counted-weighs}
use Rattle.exp_steps.proofs.Heads.{atom-alone, used-alone, let-alone, case-alone, test-alone, handle-alone, raise-alone, fn-alone, record-weightless, counted-node, apply-many, apply-alone, infix-many, infix-alone, sequence-many, sequence-alone}
use Rattle.exp_steps.proofs.ways.+push_weights.Goals as goal

pub returns-in-Atom : goal.returns-in-Atom
returns-in-Atom t c = λ w. weighs-none w _ (λ R. tree_of R c.args.exp.now) (λ R rest. ap (λ e. weighed (tree_of R e) rest) c.in-Atom.is ∙ (atom-alone R c.in-Atom.field-0 c.in-Atom.field-1).weights rest)

pub returns-in-Use : goal.returns-in-Use
returns-in-Use t c = λ w. weighs-none w _ (λ R. tree_of R c.args.exp.now) (λ R rest. ap (λ e. weighed (tree_of R e) rest) c.in-Use.is ∙ (used-alone R c.in-Use.field-0 c.in-Use.field-1 c.in-Use.field-2).weights rest)

pub returns-in-Let : goal.returns-in-Let
returns-in-Let t c = λ w. weighs-none w _ (λ R. tree_of R c.args.exp.now) (λ R rest. ap (λ e. weighed (tree_of R e) rest) c.in-Let.is ∙ (let-alone R c.in-Let.field-0 c.in-Let.field-1 c.in-Let.field-2).weights rest)

pub returns-in-Case : goal.returns-in-Case
returns-in-Case t c = λ w. weighs-none w _ (λ R. tree_of R c.args.exp.now) (λ R rest. ap (λ e. weighed (tree_of R e) rest) c.in-Case.is ∙ (case-alone R c.in-Case.field-0 c.in-Case.field-1 c.in-Case.field-2 c.in-Case.field-3).weights rest)

pub returns-in-Test : goal.returns-in-Test
returns-in-Test t c = λ w. weighs-none w _ (λ R. tree_of R c.args.exp.now) (λ R rest. ap (λ e. weighed (tree_of R e) rest) c.in-Test.is ∙ (test-alone R c.in-Test.field-0 c.in-Test.field-1 c.in-Test.field-2 c.in-Test.field-3).weights rest)

pub returns-in-Handle : goal.returns-in-Handle
returns-in-Handle t c = λ w. weighs-none w _ (λ R. tree_of R c.args.exp.now) (λ R rest. ap (λ e. weighed (tree_of R e) rest) c.in-Handle.is ∙ (handle-alone R c.in-Handle.field-0 c.in-Handle.field-1 c.in-Handle.field-2).weights rest)

pub returns-in-Raise : goal.returns-in-Raise
returns-in-Raise t c = λ w. weighs-none w _ (λ R. tree_of R c.args.exp.now) (λ R rest. ap (λ e. weighed (tree_of R e) rest) c.in-Raise.is ∙ (raise-alone R c.in-Raise.field-0 c.in-Raise.field-1).weights rest)

pub returns-in-Fn : goal.returns-in-Fn
returns-in-Fn t c = λ w. weighs-none w _ (λ R. tree_of R c.args.exp.now) (λ R rest. ap (λ e. weighed (tree_of R e) rest) c.in-Fn.is ∙ (fn-alone R c.in-Fn.field-0 c.in-Fn.field-1).weights rest)

pub returns-in-Record : goal.returns-in-Record
returns-in-Record t c = λ w. weighs-none w _ (λ R. tree_of R c.args.exp.now) (λ R rest. ap (λ e. weighed (tree_of R e) rest) c.in-Record.is ∙ record-weightless R c.in-Record.field-0 c.in-Record.field-1 rest)

pub returns-in_ok-push_weights-in-Counted : goal.returns-in_ok-push_weights-in-Counted
returns-in_ok-push_weights-in-Counted t c = λ w.
    weighs-as (counted c.in-Counted.count c.in-Counted.field-1 (λ R. tree_of R c.in-Counted.inner.value)) (λ R. tree_of R c.args.exp.now)
    (λ R. ap (tree_of R) c.in-Counted.is ∙ counted-node R c.in-Counted.count c.in-Counted.field-1 c.in-Counted.inner)
    (counted-weighs c.in-Counted.count c.in-Counted.field-1 (c.in_ok-push_counted-in-Counted.ensures w)
    (weighs-as _ (λ R. tree_of R c.in-Counted.inner.value) (λ R. ap (tree_of R) (sym c.deref.ensures)) (c.in_ok-push_weights-in-Counted.ensures w)))

pub returns-in_ok-push_weights-in-Apply : goal.returns-in_ok-push_weights-in-Apply
returns-in_ok-push_weights-in-Apply t c = λ w.
    weighs-as _ (λ R. tree_of R c.args.exp.now) (λ R. ap (tree_of R) c.in-Apply.is ∙ apply-alone R c.in-Apply.field-0 c.in-Apply.inner c.in-Apply.rest (sym c.is_empty.ensures ∙ c.if-is_empty.true) ∙ ap (tree_of R) (sym c.deref-then-is_empty.ensures)) (c.in_ok-push_weights-in-Apply.ensures w)

pub returns-else-is_empty : goal.returns-else-is_empty
returns-else-is_empty t c = λ w.
    weighs-none w _ (λ R. tree_of R c.args.exp.now)
    (λ R rest. ap (λ e. weighed (tree_of R e) rest) c.in-Apply.is ∙ (apply-many R c.in-Apply.field-0 c.in-Apply.inner c.in-Apply.rest (sym c.is_empty.ensures ∙ c.if-is_empty.false)).alone.weights rest)

pub returns-in_ok-push_weights-in-Infix : goal.returns-in_ok-push_weights-in-Infix
returns-in_ok-push_weights-in-Infix t c = λ w.
    weighs-as _ (λ R. tree_of R c.args.exp.now) (λ R. ap (tree_of R) c.in-Infix.is ∙ infix-alone R c.in-Infix.field-0 c.in-Infix.inner c.in-Infix.rest (sym c.is_empty-in-Infix.ensures ∙ c.if-is_empty-2.true) ∙ ap (tree_of R) (sym c.deref-then-is_empty-2.ensures)) (c.in_ok-push_weights-in-Infix.ensures w)

pub returns-else-is_empty-2 : goal.returns-else-is_empty-2
returns-else-is_empty-2 t c = λ w.
    weighs-none w _ (λ R. tree_of R c.args.exp.now)
    (λ R rest. ap (λ e. weighed (tree_of R e) rest) c.in-Infix.is ∙ (infix-many R c.in-Infix.field-0 c.in-Infix.inner c.in-Infix.rest (sym c.is_empty-in-Infix.ensures ∙ c.if-is_empty-2.false)).alone.weights rest)

pub returns-in_ok-push_weights-in-Sequence : goal.returns-in_ok-push_weights-in-Sequence
returns-in_ok-push_weights-in-Sequence t c = λ w.
    weighs-as _ (λ R. tree_of R c.args.exp.now) (λ R. ap (tree_of R) c.in-Sequence.is ∙ sequence-alone R c.in-Sequence.field-0 c.in-Sequence.field-1 c.in-Sequence.dropped c.in-Sequence.inner (sym c.is_empty-in-Sequence.ensures ∙ c.if-is_empty-3.true) ∙ ap (tree_of R) (sym c.deref-then-is_empty-3.ensures)) (c.in_ok-push_weights-in-Sequence.ensures w)

pub returns-else-is_empty-3 : goal.returns-else-is_empty-3
returns-else-is_empty-3 t c = λ w.
    weighs-none w _ (λ R. tree_of R c.args.exp.now)
    (λ R rest. ap (λ e. weighed (tree_of R e) rest) c.in-Sequence.is ∙ (sequence-many R c.in-Sequence.field-0 c.in-Sequence.field-1 c.in-Sequence.dropped c.in-Sequence.inner (sym c.is_empty-in-Sequence.ensures ∙ c.if-is_empty-3.false)).alone.weights rest)

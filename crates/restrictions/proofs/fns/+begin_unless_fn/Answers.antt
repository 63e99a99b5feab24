use Rattle.std.proofs.Common.{ap, ◌∙◌, arith}
use Rattle.sml_tree.specs.Phrases.{bind}
use Rattle.sml_tree.specs.TreeOf.{exp_of}
use Rattle.sml_tree.specs.declared.tree.Exp.{Exp}
use Rattle.core_rules.specs.Restrictions.{unless_fn}
use Rattle.restrictions.proofs.Functions.{fn-Apply, fn-Apply-alone, fn-Chain, fn-Chain-alone, fn-List, fn-Sequence, fn-Sequence-alone}
use Rattle.restrictions.proofs.fns.+begin_unless_fn.Goals as goal

pub returns-in-List : goal.returns-in-List
returns-in-List t c p a = fn-List p a c.args.exp.now c.in-List.place c.in-List.field-1 c.in-List.is

pub returns-then-len-eq0 : goal.returns-then-len-eq0
returns-then-len-eq0 t c p a =
    let n = c.in-Sequence.rest.ok.0 in
    let m = c.len.ensures in
    let z = c.if-len-eq0.true in
    c.begin_unless_fn.ensures p a ∙ ap (λ (e : Exp). unless_fn (bind p a (exp_of e))) c.deref.ensures
    ∙ fn-Sequence-alone p a c.args.exp.now c.in-Sequence.place c.in-Sequence.first c.in-Sequence.rest c.in-Sequence.is (omega (arith, n, m, z))

pub returns-else-len-eq0 : goal.returns-else-len-eq0
returns-else-len-eq0 t c p a =
    let n = c.in-Sequence.rest.ok.0 in
    let m = c.len.ensures in
    let z = c.if-len-eq0.false in
    fn-Sequence p a c.args.exp.now c.in-Sequence.place c.in-Sequence.first c.in-Sequence.rest c.in-Sequence.is (omega (arith, n, m, z))

pub returns-then-len-eq0-2 : goal.returns-then-len-eq0-2
returns-then-len-eq0-2 t c p a =
    let n = c.in-Apply.arguments.ok.0 in
    let m = c.len-in-Apply.ensures in
    let z = c.if-len-eq0-2.true in
    c.begin_unless_fn-then-len-eq0-2.ensures p a ∙ ap (λ (e : Exp). unless_fn (bind p a (exp_of e))) c.deref-then-len-eq0-2.ensures
    ∙ fn-Apply-alone p a c.args.exp.now c.in-Apply.place c.in-Apply.function c.in-Apply.arguments c.in-Apply.is (omega (arith, n, m, z))

pub returns-else-len-eq0-2 : goal.returns-else-len-eq0-2
returns-else-len-eq0-2 t c p a =
    let n = c.in-Apply.arguments.ok.0 in
    let m = c.len-in-Apply.ensures in
    let z = c.if-len-eq0-2.false in
    fn-Apply p a c.args.exp.now c.in-Apply.place c.in-Apply.function c.in-Apply.arguments c.in-Apply.is (omega (arith, n, m, z))

pub returns-then-len-eq0-3 : goal.returns-then-len-eq0-3
returns-then-len-eq0-3 t c p a =
    let n = c.in-Chain.parts.ok.0 in
    let m = c.len-in-Chain.ensures in
    let z = c.if-len-eq0-3.true in
    c.begin_unless_fn-then-len-eq0-3.ensures p a ∙ ap (λ (e : Exp). unless_fn (bind p a (exp_of e))) c.deref-then-len-eq0-3.ensures
    ∙ fn-Chain-alone p a c.args.exp.now c.in-Chain.place c.in-Chain.field-1 c.in-Chain.first c.in-Chain.parts c.in-Chain.is (omega (arith, n, m, z))

pub returns-else-len-eq0-3 : goal.returns-else-len-eq0-3
returns-else-len-eq0-3 t c p a =
    let n = c.in-Chain.parts.ok.0 in
    let m = c.len-in-Chain.ensures in
    let z = c.if-len-eq0-3.false in
    fn-Chain p a c.args.exp.now c.in-Chain.place c.in-Chain.field-1 c.in-Chain.first c.in-Chain.parts c.in-Chain.is (omega (arith, n, m, z))

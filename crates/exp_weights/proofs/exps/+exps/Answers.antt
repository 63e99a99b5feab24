use Rattle.std.proofs.Common.{arith}
use Rattle.exp_weights.proofs.ExpNodes.{record-nodes, tuple-nodes, list-nodes, sequence-nodes, let-nodes, apply-nodes, chain-nodes}
use Rattle.exp_weights.proofs.exps.+exps.Goals as goal

pub exp_nodes-returns-in-Record : goal.exp_nodes-returns-in-Record
exp_nodes-returns-in-Record t c =
    rw (c.in-Record.is)
    (let e = record-nodes c.in-Record.field-0 c.in-Record.fields in let q = c.saturating_add.ensures in
    let r = rw c.deref.ensures.value at c.fields_nodes.ensures in omega (arith, e, q, r))

pub exp_nodes-returns-in-Tuple : goal.exp_nodes-returns-in-Tuple
exp_nodes-returns-in-Tuple t c =
    rw (c.in-Tuple.is)
    (let e = tuple-nodes c.in-Tuple.field-0 c.in-Tuple.parts in let q = c.saturating_add-in-Tuple.ensures in
    let r = rw c.deref-in-Tuple.ensures.value at c.parts_nodes.ensures in omega (arith, e, q, r))

pub exp_nodes-returns-in-List : goal.exp_nodes-returns-in-List
exp_nodes-returns-in-List t c =
    rw (c.in-List.is)
    (let e = list-nodes c.in-List.field-0 c.in-List.parts in let q = c.saturating_add-in-List-2.ensures in let u = c.saturating_add-in-List.ensures in
    let m = c.saturating_mul.ensures in let n = c.len.ensures in
    let r = rw c.deref-in-List.ensures.value at c.parts_nodes-in-List.ensures in omega (arith, e, q, u, m, n, r))

pub exp_nodes-returns-in-Sequence : goal.exp_nodes-returns-in-Sequence
exp_nodes-returns-in-Sequence t c =
    rw (c.in-Sequence.is)
    (let e = sequence-nodes c.in-Sequence.field-0 c.in-Sequence.first c.in-Sequence.rest in let q = c.saturating_add-in-Sequence-2.ensures in
    let u = c.saturating_add-in-Sequence.ensures in let m = c.saturating_mul-in-Sequence.ensures in let n = c.len-in-Sequence.ensures in
    let f = rw c.deref-in-Sequence.ensures at c.exp_nodes.ensures in
    let r = rw c.deref-in-Sequence-2.ensures.value at c.parts_nodes-in-Sequence.ensures in omega (arith, e, q, u, m, n, f, r))

pub exp_nodes-returns-in-Let : goal.exp_nodes-returns-in-Let
exp_nodes-returns-in-Let t c =
    rw (c.in-Let.is)
    (let e = let-nodes c.in-Let.field-0 c.in-Let.decs c.in-Let.body in let q = c.saturating_add-in-Let-2.ensures in
    let u = c.saturating_add-in-Let.ensures in
    let r = rw c.deref-in-Let.ensures.value at c.decs_nodes.ensures in
    let f = rw c.deref-in-Let-2.ensures at c.exp_nodes-in-Let.ensures in omega (arith, e, q, u, f, r))

pub exp_nodes-returns-in-Apply : goal.exp_nodes-returns-in-Apply
exp_nodes-returns-in-Apply t c =
    rw (c.in-Apply.is)
    (let e = apply-nodes c.in-Apply.field-0 c.in-Apply.operator c.in-Apply.arguments in let q = c.saturating_add-in-Apply-2.ensures in
    let u = c.saturating_add-in-Apply.ensures in let n = c.len-in-Apply.ensures in
    let f = rw c.deref-in-Apply.ensures at c.exp_nodes-in-Apply.ensures in
    let r = rw c.deref-in-Apply-2.ensures.value at c.parts_nodes-in-Apply.ensures in omega (arith, e, q, u, n, f, r))

pub exp_nodes-returns-in-Chain : goal.exp_nodes-returns-in-Chain
exp_nodes-returns-in-Chain t c =
    rw (c.in-Chain.is)
    (let e = chain-nodes c.in-Chain.field-0 c.in-Chain.field-1 c.in-Chain.first c.in-Chain.parts in let q = c.saturating_add-in-Chain.ensures in
    let f = rw c.deref-in-Chain.ensures at c.exp_nodes-in-Chain.ensures in
    let r = rw c.deref-in-Chain-2.ensures.value at c.chain_nodes.ensures in omega (arith, e, q, f, r))

use Rattle.std.proofs.Common.{add-one, arith}
use Rattle.exp_weights.proofs.Sums.{next-sum, next-sum-is}
use Rattle.exp_weights.proofs.PatNodes.{record-nodes, tuple-nodes, list-nodes, chain-nodes}
use Rattle.exp_weights.specs.Sums.{pat_field_nodes, pat_nodes, pat_part_nodes}
use Rattle.exp_weights.proofs.pats.+pats.Goals as goal

pub fields_nodes-loop-i-preserved : goal.fields_nodes-loop-i-preserved
fields_nodes-loop-i-preserved t c =
    let p = next-sum pat_field_nodes c.args.fields.now c.loop-i.i c.index-fields-i.result c.loop-i-test.true in
    let q = c.saturating_add-nodes.ensures in let r = c.pat_nodes.ensures in let s = c.loop-i.invariant in rw add-one (omega arith)

pub pats_nodes-loop-i-preserved : goal.pats_nodes-loop-i-preserved
pats_nodes-loop-i-preserved t c =
    let p = next-sum-is pat_nodes c.args.parts.now c.loop-i.i c.index-parts-i.result c.loop-i-test.true c.index-parts-i.is in
    let q = c.saturating_add-nodes.ensures in let r = c.pat_nodes.ensures in let s = c.loop-i.invariant in rw add-one (omega arith)

pub chain_nodes-loop-i-preserved : goal.chain_nodes-loop-i-preserved
chain_nodes-loop-i-preserved t c =
    let p = next-sum pat_part_nodes c.args.parts.now c.loop-i.i c.index-parts-i.result c.loop-i-test.true in
    let q = c.saturating_add-nodes.ensures in let u = c.saturating_add.ensures in let r = c.pat_nodes.ensures in let s = c.loop-i.invariant in rw add-one (omega arith)

pub pat_nodes-returns-in-Record : goal.pat_nodes-returns-in-Record
pat_nodes-returns-in-Record t c =
    rw (c.in-Record.is)
    (let e = record-nodes c.in-Record.field-0 c.in-Record.fields c.in-Record.field-2 in let q = c.saturating_add.ensures in
    let r = rw c.deref.ensures.value at c.fields_nodes.ensures in omega (arith, e, q, r))

pub pat_nodes-returns-in-Tuple : goal.pat_nodes-returns-in-Tuple
pat_nodes-returns-in-Tuple t c =
    rw (c.in-Tuple.is)
    (let e = tuple-nodes c.in-Tuple.field-0 c.in-Tuple.parts in let q = c.saturating_add-in-Tuple.ensures in
    let r = rw c.deref-in-Tuple.ensures.value at c.pats_nodes.ensures in omega (arith, e, q, r))

pub pat_nodes-returns-in-List : goal.pat_nodes-returns-in-List
pat_nodes-returns-in-List t c =
    rw (c.in-List.is)
    (let e = list-nodes c.in-List.field-0 c.in-List.parts in let q = c.saturating_add-in-List-2.ensures in let u = c.saturating_add-in-List.ensures in
    let m = c.saturating_mul.ensures in let n = c.len.ensures in
    let r = rw c.deref-in-List.ensures.value at c.pats_nodes-in-List.ensures in omega (arith, e, q, u, m, n, r))

pub pat_nodes-returns-in-Chain : goal.pat_nodes-returns-in-Chain
pat_nodes-returns-in-Chain t c =
    rw (c.in-Chain.is)
    (let e = chain-nodes c.in-Chain.field-0 c.in-Chain.field-1 c.in-Chain.first c.in-Chain.parts in let q = c.saturating_add-in-Chain.ensures in
    let f = rw c.deref-in-Chain.ensures at c.pat_nodes.ensures in
    let r = rw c.deref-in-Chain-2.ensures.value at c.chain_nodes.ensures in omega (arith, e, q, f, r))

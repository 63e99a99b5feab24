-- Copies of what is generalised take no turns: the first one took them.
use Rattle.std.specs.Prelude.{None}
use Rattle.ir_plain.specs.Kind.{Kind}
use Rattle.ir_plain.specs.Tree.{Exp, ret, let_in, exception_in, name_in, rec_in, switch, first, miss, counted, Arms, no_arms, arm, Op, use_of, const, con_alone, construct, ref_alone, refer, content, pack, make_record, select, prim_alone, prim, app, fn, block, handle, raise, raise_initial}

module _ {F : Kind} where
  abbrev mutual
    pub strip : Exp F → Exp F
    strip (ret a) = ret a
    strip (let_in x ps t o e) = let_in x ps t (strip_op o) (strip e)
    strip (exception_in x i t e) = exception_in x i t e
    strip (name_in x y e) = name_in x y (strip e)
    strip (rec_in ps fs e) = rec_in ps fs e
    strip (switch a t arms) = switch a t (strip_arms arms)
    strip (first e d) = first (strip e) (strip d)
    strip miss = miss
    strip (counted n e) = counted n (strip e)

    pub strip_arms : Arms F → Arms F
    strip_arms no_arms = no_arms
    strip_arms (arm c e arms) = arm c (strip e) (strip_arms arms)

    pub strip_op : Op F → Op F
    strip_op (use_of x) = use_of x
    strip_op (const l) = const l
    strip_op (con_alone c t) = con_alone c t
    strip_op (construct m c t a) = construct None c t a
    strip_op (ref_alone t) = ref_alone t
    strip_op (refer m t a) = refer m t a
    strip_op (content t a) = content t a
    strip_op (pack m t x a) = pack None t x a
    strip_op (make_record t row) = make_record t row
    strip_op (select t l a) = select t l a
    strip_op (prim_alone p t) = prim_alone p t
    strip_op (prim m p t as_) = prim m p t as_
    strip_op (app place f a) = app place f a
    strip_op (fn f) = fn f
    strip_op (block e) = block (strip e)
    strip_op (handle e x h) = handle e x h
    strip_op (raise a) = raise a
    strip_op (raise_initial i) = raise_initial i

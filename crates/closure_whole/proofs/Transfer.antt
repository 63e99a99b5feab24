-- Sets that have the same functions solve the same.
use Rattle.std.proofs.Common.{ℕ, List}
use Rattle.ir_values.specs.Primitives.{Sort, compares, assigns, prints, computes}
use Rattle.ir_plain.specs.Tree.{Case, is_literal, is_con, is_con_of, is_exn, is_exn_of, is_record, Atoms, no_atoms, an_atom, Row, no_row, a_row, ret, let_in, exception_in, name_in, rec_in, switch, first, miss, counted, Arms, no_arms, arm, Op, use_of, const, con_alone, construct, ref_alone, refer, pack, make_record, select, prim_alone, prim, app, fn, block, handle, raise, raise_initial, Fun, last, more, Funs, no_funs, fun}
use Rattle.ir_plain.specs.Tree as tree
use Rattle.ir_mono.specs.Types as table
use Rattle.ir_mono.specs.Mono.{mono, Mono}
use Rattle.flow_sets.specs.Member.{Within}
use Rattle.flow_sets.specs.Flow.{Spot, variable, result, field, argument, content, carried, Flow, at, number_of, Connects, SolvesRow, SolvesPrim, SolvesCase, Solves, SolvesArms, SolvesOp, SolvesFun, SolvesFuns}
use Rattle.flow_sets.proofs.Member.{within-further}

pub record SameSets (from to : Flow) : Type 0 where
  pub there : (spot : Spot) → Within (at from spot) (at to spot)
  pub back : (spot : Spot) → Within (at to spot) (at from spot)

module _ (types : List table.Row) (F G : Flow) (s : SameSets F G) where
  -- from spot to spot
  moved : (a b : Spot) → Within (at F a) (at F b) → Within (at G a) (at G b)
  moved a b h = within-further (s.back a) (within-further h (s.there b))

  -- from a spot to what another form of the set is within
  out-of : (a : Spot) {to to' : List ℕ} → Within to to' → Within (at F a) to → Within (at G a) to'
  out-of a w h = within-further (s.back a) (within-further h w)

  connected : (f a : ℕ) {to to' : List ℕ} → Within to to' → Connects types F (at F (variable f)) (at F (variable a)) to → Connects types G (at G (variable f)) (at G (variable a)) to'
  connected f a w c = λ k i. let h = c k ((s.back (variable f)).all k i) in (moved (variable a) (variable k) h.0, out-of (result k) w h.1)

  row-moved : (t : ℕ) (row : Row (mono types)) → SolvesRow types F t row → SolvesRow types G t row
  row-moved t no_row h = tt
  row-moved t (a_row l a row) h = (moved (variable a) (field t l) h.0, row-moved t row h.1)

  prim-moved : (k : Sort) (t : ℕ) (as_ : Atoms (mono types)) → SolvesPrim types F k t as_ → SolvesPrim types G k t as_
  prim-moved assigns t (an_atom r (an_atom a as_)) h = moved (variable a) (content t) h
  prim-moved assigns t (an_atom r no_atoms) h = tt
  prim-moved assigns t no_atoms h = tt
  prim-moved compares t as_ h = tt
  prim-moved prints t as_ h = tt
  prim-moved computes t as_ h = tt

  case-moved : (t : ℕ) (c : Case (mono types)) → SolvesCase types F t c → SolvesCase types G t c
  case-moved t (is_literal l) h = tt
  case-moved t (is_con c) h = tt
  case-moved t (is_con_of c x u) h = moved (argument t c) (variable x) h
  case-moved t (is_exn y) h = tt
  case-moved t (is_exn_of y x u) h = moved (carried u) (variable x) h
  case-moved t (is_record size) h = tt

  mutual
    pub solves-too : {to to' : List ℕ} → Within to to' → (e : Mono types) → Solves types F to e → Solves types G to' e
    solves-too w (ret a) h = out-of (variable a) w h
    solves-too w (let_in x ps t o e) h = (op-solves-too (s.there (variable x)) o h.0, solves-too w e h.1)
    solves-too w (exception_in x i t e) h = solves-too w e h
    solves-too w (name_in x y e) h = solves-too w e h
    solves-too w (rec_in ps fs e) h = (funs-solve-too fs h.0, solves-too w e h.1)
    solves-too w (switch a t arms) h = arms-solve-too w t arms h
    solves-too w (first e d) h = (solves-too w e h.0, solves-too w d h.1)
    solves-too w miss h = tt
    solves-too w (counted n e) h = solves-too w e h

    arms-solve-too : {to to' : List ℕ} → Within to to' → (t : ℕ) (arms : Arms (mono types)) → SolvesArms types F to t arms → SolvesArms types G to' t arms
    arms-solve-too w t no_arms h = tt
    arms-solve-too w t (arm c e arms) h = (case-moved t c h.0, (solves-too w e h.1.0, arms-solve-too w t arms h.1.1))

    op-solves-too : {to to' : List ℕ} → Within to to' → (o : Op (mono types)) → SolvesOp types F to o → SolvesOp types G to' o
    op-solves-too w (use_of x) h = out-of (variable x) w h
    op-solves-too w (const l) h = tt
    op-solves-too w (con_alone c t) h = tt
    op-solves-too w (construct m c t a) h = moved (variable a) (argument t c) h
    op-solves-too w (ref_alone t) h = tt
    op-solves-too w (refer m t a) h = moved (variable a) (content t) h
    op-solves-too w (tree.content t a) h = out-of (content t) w h
    op-solves-too w (pack m t y a) h = moved (variable a) (carried t) h
    op-solves-too w (make_record t row) h = row-moved t row h
    op-solves-too w (select t l a) h = out-of (field t l) w h
    op-solves-too w (prim_alone p t) h = tt
    op-solves-too w (prim m p t as_) h = prim-moved (Rattle.ir_values.specs.Primitives.sort_of p) t as_ h
    op-solves-too w (app place f a) h = connected f a w h
    op-solves-too w (fn f) h = (w.all (number_of types f) h.0, fun-solves-too f h.1)
    op-solves-too w (block e) h = solves-too w e h
    op-solves-too w (handle e x d) h = (solves-too w e h.0, solves-too w d h.1)
    op-solves-too w (raise a) h = tt
    op-solves-too w (raise_initial i) h = tt

    fun-solves-too : (f : Fun (mono types)) → SolvesFun types F f → SolvesFun types G f
    fun-solves-too (last x t e) h = solves-too (s.there (result x)) e h
    fun-solves-too (more x t f) h = ((s.there (result x)).all (number_of types f) h.0, fun-solves-too f h.1)

    funs-solve-too : (fs : Funs (mono types)) → SolvesFuns types F fs → SolvesFuns types G fs
    funs-solve-too no_funs h = tt
    funs-solve-too (fun x t f fs) h = ((s.there (variable x)).all (number_of types f) h.0, (fun-solves-too f h.1.0, funs-solve-too fs h.1.1))

-- The conversion has at most four nodes for each node and each piece: one case a construct.
use Rattle.std.proofs.Common.{◌≡◌, ◌≤◌, ℕ, suc, ◌+◌, ◌*◌, List, [], ◌∷◌, length, Option, Some, None, Bool, true, false, if◌then◌else◌, refl, ap, arith}
use Rattle.mlc_base.specs.declared.place.Place.{Place}
use Rattle.mlc_prims.specs.declared.basis.BasisPrimitive.{BasisPrimitive}
use Rattle.ir_values.specs.Primitives as prims
use Rattle.ir_values.specs.Primitives.{compares, assigns, prints, computes}
use Rattle.ir_plain.specs.Tree as m
use Rattle.ir_plain.specs.Tree.{is_literal, is_con, is_con_of, is_exn, is_exn_of, is_record, Exception, fixed, held, Atoms, no_atoms, an_atom, Row, no_row, a_row, Fun, last, more, Funs, no_funs, fun}
use Rattle.ir_mono.specs.Types as table
use Rattle.ir_mono.specs.Mono.{mono, Mono}
use Rattle.first_values.specs.Operations.{Operands, same, compute, refer, pack}
use Rattle.first_values.specs.Values.{one}
use Rattle.first_values.specs.Raising.{may_raise}
use Rattle.ir_first.specs.Tree as out
use Rattle.ir_first.specs.Size as to
use Rattle.flow_sets.specs.Member.{is_in}
use Rattle.flow_sets.specs.Flow.{Flow, variable, at, number_of}
use Rattle.closure_convert.specs.Scope.{Member, names, Scope, add, add_all, Way, no_way, leads, follows, way, Piece, alone, those, Table, top}
use Rattle.closure_convert.specs.Closed.{scope_of, members, leader}
use Rattle.closure_meaning.specs.Convert.{given, var, Numbering, con_tag, operands, performed, computed, piece_list, outer, access, ready, marked, call_set, used, atom_list, row_pieces, making, following, group_in, name_of, convert, cases, con_arms, convert_op, opening, codes, codes_arms, codes_op, codes_fun, codes_funs}
use Rattle.closure_sizes.specs.Counts as from
use Rattle.closure_sizes.specs.Laws.{ConversionIsSmall}

outer-nodes : (n : Numbering) (cs : List ℕ) (x : ℕ) (w : Way) → to.nodes_op (outer n cs x w) ≤ 2
outer-nodes n cs x no_way = omega arith
outer-nodes n cs x leads = omega arith
outer-nodes n cs x (follows k) = omega arith

access-nodes : (n : Numbering) (s : Scope) (x : ℕ) → to.nodes_op (access n s x) ≤ 2
access-nodes n s x = pick (is_in x s.locals)
  where
    pick : (b : Bool) → to.nodes_op (if b then out.plain same (var x ∷ []) else outer n s.captured x (way x s.group)) ≤ 2
    pick true = omega arith
    pick false = outer-nodes n s.captured x (way x s.group)

ready-nodes : (n : Numbering) (s : Scope) (ps : List Piece) (e : out.Exp) → to.nodes (ready n s ps e) ≤ 3 * length ps + to.nodes e
ready-nodes n s [] e = omega arith
ready-nodes n s (alone y ∷ ps) e = pick (is_in y s.locals) (ready-nodes n s ps e) (access-nodes n s y)
  where
    pick : (b : Bool) → to.nodes (ready n s ps e) ≤ 3 * length ps + to.nodes e → to.nodes_op (access n s y) ≤ 2 → to.nodes (if b then ready n s ps e else out.let_in (var y) (access n s y) (ready n s ps e)) ≤ 3 * suc (length ps) + to.nodes e
    pick true h k = omega (arith, h)
    pick false h k = omega (arith, h, k)
ready-nodes n s (those i k ∷ ps) e = let h = ready-nodes n s ps e in omega (arith, h)

list-nodes : (ps : List Piece) → length (piece_list ps) ≡ length ps
list-nodes [] = refl
list-nodes (alone y ∷ ps) = ap suc (list-nodes ps)
list-nodes (those i n ∷ ps) = ap suc (list-nodes ps)

marked-nodes : (k : Option Place) (e : out.Exp) → to.nodes (marked k e) ≤ 1 + to.nodes e
marked-nodes None e = omega arith
marked-nodes (Some place) e = omega arith

computed-nodes : (k : Operands) (p : BasisPrimitive) (xs : List ℕ) → to.nodes_op (computed k p xs) ≤ 1 + length xs
computed-nodes k p xs = pick (may_raise k p)
  where
    pick : (b : Bool) → to.nodes_op (if b then out.attempt k p xs else out.plain (compute k p) xs) ≤ 1 + length xs
    pick true = omega arith
    pick false = omega arith

performed-nodes : (types : List table.Row) (o : prims.Sort) (p : BasisPrimitive) (t : ℕ) (xs : List ℕ) → to.nodes_op (performed types o p t xs) ≤ 1 + length xs
performed-nodes types compares p t xs = omega arith
performed-nodes types assigns p t xs = omega arith
performed-nodes types prints p t xs = omega arith
performed-nodes types computes p t xs = computed-nodes (operands types p t) p xs

module _ (n : Numbering) (types : List table.Row) (flow : Flow) (captures : Table) where
  abbrev conv : Scope → Mono types → ℕ
  conv s e = to.nodes (convert n types flow captures s e)

  abbrev N : List out.Fun → ℕ
  N = to.nodes_funs

  abbrev P : Mono types → ℕ
  P = from.pieces types captures

  call-nodes : (place : Place) (s : ℕ) (ks : List ℕ) (f a : ℕ) → to.nodes_op (call_set n place s ks f a) ≤ 3
  call-nodes place s [] f a = omega arith
  call-nodes place s (k ∷ []) f a = omega arith
  call-nodes place s (k ∷ l ∷ ks) f a = omega arith

  used-nodes : (b : Bool) (s : Scope) (x y : ℕ) (e : out.Exp) → to.nodes (used n b s x y e) ≤ 9 + to.nodes e
  used-nodes true s x y e = let a = access-nodes n s y in omega (arith, a)
  used-nodes false s x y e = let a = access-nodes n s y in omega (arith, a)

  atoms-nodes : (as_ : Atoms (mono types)) → length (atom_list n types flow captures as_) ≡ from.atoms types as_
  atoms-nodes no_atoms = refl
  atoms-nodes (an_atom a as_) = let h = atoms-nodes as_ in omega (arith, h)

  row-nodes : (row : Row (mono types)) → length (row_pieces n types flow captures row) ≡ from.fields types row
  row-nodes no_row = refl
  row-nodes (a_row l a row) = let h = row-nodes row in omega (arith, h)

  name-nodes : (s : Scope) (y : Exception (mono types)) → to.nodes_op (name_of n types flow captures s y) ≤ 2
  name-nodes s (fixed i) = omega arith
  name-nodes s (held y) = access-nodes n s y

  making-nodes : (s : Scope) (x k : ℕ) (e : out.Exp) → to.nodes (making n types flow captures s x k e) ≤ 4 * from.made types captures k + (2 + to.nodes e)
  making-nodes s x k e =
      let r = ready-nodes n s (captures.pieces k) (out.let_in x (out.make (n.tag k) (piece_list (captures.pieces k))) e) in
      let l = list-nodes (captures.pieces k) in omega (arith, r, l)

  following-nodes : (h : ℕ) (gs : List Member) (e : out.Exp) → to.nodes (following n types flow captures h gs e) ≤ 3 * length gs + to.nodes e
  following-nodes h [] e = omega arith
  following-nodes h (g ∷ gs) e = let r = following-nodes h gs (out.let_in (var g.name) (out.make (n.tag g.number) (one (var h) ∷ [])) e) in omega (arith, r)

  group-nodes : (s : Scope) (fs : Funs (mono types)) (e : out.Exp) → to.nodes (group_in n types flow captures s (members types fs) e) ≤ 4 * from.made types captures (leader types fs) + (3 * length (members types fs) + to.nodes e)
  group-nodes s no_funs e = omega arith
  group-nodes s (fun x t f fs) e =
      let r = making-nodes s (var x) (number_of types f) (following n types flow captures x (members types fs) e) in
      let l = following-nodes x (members types fs) e in omega (arith, r, l)

  opening-nodes : (q : Bool) (e : out.Exp) → to.nodes (opening n types flow captures q e) ≤ 3 + to.nodes e
  opening-nodes true e = omega arith
  opening-nodes false e = omega arith

  mutual
    sized : (e : Mono types) (s : Scope) (cs : List out.Fun) → conv s e + N (codes n types flow captures e cs) ≤ 4 * from.nodes types e + (4 * P e + N cs)
    sized (m.ret a) s cs = omega arith
    sized (m.let_in x ps t o e) s cs =
        let p = op-sized o s x (convert n types flow captures (add x s) e) (codes n types flow captures e cs) in
        let q = sized e (add x s) cs in omega (arith, p, q)
    sized (m.exception_in x i t e) s cs = let q = sized e (add x s) cs in omega (arith, q)
    sized (m.name_in x y e) s cs = let q = sized e (add x s) cs in let k = name-nodes s y in omega (arith, q, k)
    sized (m.rec_in ps fs e) s cs =
        let s' = add_all (names (members types fs)) s in
        let g = group-nodes s fs (convert n types flow captures s' e) in
        let p = funs-sized fs true (leader types fs) (members types fs) (codes n types flow captures e cs) in
        let q = sized e s' cs in omega (arith, g, p, q)
    sized (m.switch a t arms) s cs = let p = cases-sized arms s a t cs in omega (arith, p)
    sized (m.first e d) s cs = let p = sized e s (codes n types flow captures d cs) in let q = sized d s cs in omega (arith, p, q)
    sized m.miss s cs = omega arith
    sized (m.counted k e) s cs = sized e s cs

    cases-sized : (arms : m.Arms (mono types)) (s : Scope) (a t : ℕ) (cs : List out.Fun) → to.nodes (cases n types flow captures s a t arms) + N (codes_arms n types flow captures arms cs) ≤ 1 + (4 * from.arms_nodes types arms + (4 * from.arms_pieces types captures arms + N cs))
    cases-sized m.no_arms s a t cs = omega arith
    cases-sized (m.arm (is_literal l) e arms) s a t cs = let p = sized e s (codes_arms n types flow captures arms cs) in let q = cases-sized arms s a t cs in omega (arith, p, q)
    cases-sized (m.arm (is_con c) e arms) s a t cs = let p = sized e s (codes_arms n types flow captures arms cs) in let q = con-arms-sized arms s a t cs in omega (arith, p, q)
    cases-sized (m.arm (is_con_of c x u) e arms) s a t cs = let p = sized e (add x s) (codes_arms n types flow captures arms cs) in let q = con-arms-sized arms s a t cs in omega (arith, p, q)
    cases-sized (m.arm (is_exn y) e arms) s a t cs = let p = sized e s (codes_arms n types flow captures arms cs) in let q = cases-sized arms s a t cs in omega (arith, p, q)
    cases-sized (m.arm (is_exn_of y x u) e arms) s a t cs = let p = sized e (add x s) (codes_arms n types flow captures arms cs) in let q = cases-sized arms s a t cs in omega (arith, p, q)
    cases-sized (m.arm (is_record z) e arms) s a t cs = let p = sized e s (codes_arms n types flow captures arms cs) in let q = con-arms-sized arms s a t cs in omega (arith, p, q)

    con-arms-sized : (arms : m.Arms (mono types)) (s : Scope) (a t : ℕ) (cs : List out.Fun) → to.nodes_arms (con_arms n types flow captures s a t arms) + N (codes_arms n types flow captures arms cs) ≤ 4 * from.arms_nodes types arms + (4 * from.arms_pieces types captures arms + N cs)
    con-arms-sized m.no_arms s a t cs = omega arith
    con-arms-sized (m.arm (is_literal l) e arms) s a t cs = let p = sized e s (codes_arms n types flow captures arms cs) in let q = con-arms-sized arms s a t cs in omega (arith, p, q)
    con-arms-sized (m.arm (is_con c) e arms) s a t cs = let p = sized e s (codes_arms n types flow captures arms cs) in let q = con-arms-sized arms s a t cs in omega (arith, p, q)
    con-arms-sized (m.arm (is_con_of c x u) e arms) s a t cs = let p = sized e (add x s) (codes_arms n types flow captures arms cs) in let q = con-arms-sized arms s a t cs in omega (arith, p, q)
    con-arms-sized (m.arm (is_exn y) e arms) s a t cs = let p = sized e s (codes_arms n types flow captures arms cs) in let q = con-arms-sized arms s a t cs in omega (arith, p, q)
    con-arms-sized (m.arm (is_exn_of y x u) e arms) s a t cs = let p = sized e s (codes_arms n types flow captures arms cs) in let q = con-arms-sized arms s a t cs in omega (arith, p, q)
    con-arms-sized (m.arm (is_record z) e arms) s a t cs = let p = sized e s (codes_arms n types flow captures arms cs) in let q = con-arms-sized arms s a t cs in omega (arith, p, q)

    op-sized : (o : m.Op (mono types)) (s : Scope) (x : ℕ) (e : out.Exp) (cs : List out.Fun) → to.nodes (convert_op n types flow captures s x o e) + N (codes_op n types flow captures o cs) ≤ 4 * (1 + from.op_nodes types o) + (4 * from.op_pieces types captures o + (to.nodes e + N cs))
    op-sized (m.use_of y) s x e cs = let a = used-nodes (n.is_name y) s (var x) y e in omega (arith, a)
    op-sized (m.const l) s x e cs = omega arith
    op-sized (m.con_alone c t) s x e cs = omega arith
    op-sized (m.construct k c t a) s x e cs = let h = marked-nodes k (out.let_in (var x) (out.make (con_tag types t c) (one (var a) ∷ [])) e) in omega (arith, h)
    op-sized (m.ref_alone t) s x e cs = omega arith
    op-sized (m.refer k t a) s x e cs = let h = marked-nodes k (out.let_in (var x) (out.plain refer (var a ∷ [])) e) in omega (arith, h)
    op-sized (m.content t a) s x e cs = omega arith
    op-sized (m.pack k t y a) s x e cs = let h = marked-nodes k (out.let_in (var x) (out.plain pack (var y ∷ var a ∷ [])) e) in omega (arith, h)
    op-sized (m.make_record t row) s x e cs = let h = row-nodes row in omega (arith, h)
    op-sized (m.select t l a) s x e cs = omega arith
    op-sized (m.prim_alone p t) s x e cs = omega arith
    op-sized (m.prim k p t as_) s x e cs =
        let h = marked-nodes k (out.let_in (var x) (performed types (prims.sort_of p) p t (atom_list n types flow captures as_)) e) in
        let g = performed-nodes types (prims.sort_of p) p t (atom_list n types flow captures as_) in
        let l = atoms-nodes as_ in omega (arith, h, g, l)
    op-sized (m.app place f a) s x e cs = let c = call-nodes place (flow.number (variable f)) (at flow (variable f)) (var f) (var a) in omega (arith, c)
    op-sized (m.fn f) s x e cs =
        let g = making-nodes s (var x) (number_of types f) e in
        let p = fun-sized f (number_of types f) [] cs in omega (arith, g, p)
    op-sized (m.block b) s x e cs = let p = sized b s cs in omega (arith, p)
    op-sized (m.handle b y d) s x e cs = let p = sized b s (codes n types flow captures d cs) in let q = sized d (add y s) cs in omega (arith, p, q)
    op-sized (m.raise a) s x e cs = omega arith
    op-sized (m.raise_initial i) s x e cs = omega arith

    -- two nodes are left for making the closure
    fun-sized : (f : Fun (mono types)) (g : ℕ) (ms : List Member) (cs : List out.Fun) → 2 + N (codes_fun n types flow captures true g ms f cs) ≤ 4 * from.fun_nodes types f + (4 * from.fun_pieces types captures f + N cs)
    fun-sized (last x t e) g ms cs = let p = sized e (scope_of (captures.captured g) ms x) cs in omega (arith, p)
    fun-sized (more x t f) g ms cs =
        let k = making-nodes (scope_of (captures.captured g) ms x) given (number_of types f) (out.ret given) in
        let p = fun-sized f (number_of types f) [] cs in omega (arith, k, p)

    -- of a group: three for each making, with its name's
    member-sized : (f : Fun (mono types)) (q : Bool) (g : ℕ) (ms : List Member) (cs : List out.Fun) → 3 + N (codes_fun n types flow captures q g ms f cs) ≤ 4 * (1 + from.fun_nodes types f) + (4 * from.fun_pieces types captures f + N cs)
    member-sized (last x t e) q g ms cs =
        let s = scope_of (captures.captured g) ms x in
        let p = sized e s cs in
        let o = opening-nodes q (convert n types flow captures s e) in omega (arith, p, o)
    member-sized (more x t f) q g ms cs =
        let s = scope_of (captures.captured g) ms x in
        let k = making-nodes s given (number_of types f) (out.ret given) in
        let p = fun-sized f (number_of types f) [] cs in
        let o = opening-nodes q (making n types flow captures s given (number_of types f) (out.ret given)) in omega (arith, k, p, o)

    funs-sized : (fs : Funs (mono types)) (q : Bool) (g : ℕ) (ms : List Member) (cs : List out.Fun) → 3 * length (members types fs) + N (codes_funs n types flow captures q g ms fs cs) ≤ 4 * from.funs_nodes types fs + (4 * from.funs_pieces types captures fs + N cs)
    funs-sized no_funs q g ms cs = omega arith
    funs-sized (fun x t f fs) q g ms cs =
        let p = member-sized f q g ms (codes_funs n types flow captures false g ms fs cs) in
        let r = funs-sized fs false g ms cs in omega (arith, p, r)

  pub program-sized : (e : Mono types) → conv top e + N (codes n types flow captures e []) ≤ 4 * from.nodes types e + (4 * P e + 0)
  program-sized e = sized e top []

pub conversion-is-small : ConversionIsSmall
conversion-is-small n strings flow captures p = let h = program-sized n p.types flow captures p.body in omega (arith, h)

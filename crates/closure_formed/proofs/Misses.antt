-- In a conversion nothing misses that is not to.
use Rattle.std.proofs.Common.{◌≡◌, ℕ, Bool, true, false, List, [], ◌∷◌, Option, Some, None, if◌then◌else◌, refl, ◌∙◌}
use Rattle.std.specs.List.{AllByRecursion}
use Rattle.mlc_base.specs.declared.place.Place.{Place}
use Rattle.mlc_prims.specs.declared.basis.BasisPrimitive.{BasisPrimitive}
use Rattle.ir_values.specs.Primitives as prims
use Rattle.ir_values.specs.Primitives.{compares, assigns, prints, computes}
use Rattle.ir_plain.specs.Tree as m
use Rattle.ir_plain.specs.Tree.{is_literal, is_con, is_con_of, is_exn, is_exn_of, is_record, Exception, fixed, held, Fun, last, more, Funs, no_funs, fun}
use Rattle.ir_mono.specs.Types as table
use Rattle.ir_mono.specs.Mono.{mono, Mono}
use Rattle.ir_mono.specs.Typing as tt
use Rattle.ir_mono.specs.Typing.{Sorts, FunTyped, t_last, t_more, FunsTyped, t_no_funs, t_fun}
use Rattle.first_values.specs.Operations.{Operands, same, compute}
use Rattle.first_values.specs.Raising.{may_raise}
use Rattle.ir_first.specs.Tree as out
use Rattle.ir_first.specs.Whole.{may_miss, HasWhole, OpHasWhole, ArmsHaveWhole, FunIsWhole}
use Rattle.flow_sets.specs.Member.{is_in}
use Rattle.flow_sets.specs.Flow.{Flow, variable, at, number_of}
use Rattle.closure_convert.specs.Scope.{Member, names, Scope, add, add_all, Way, no_way, leads, follows, way, Piece, alone, those, Table}
use Rattle.closure_convert.specs.Closed.{scope_of, members, leader}
use Rattle.closure_meaning.specs.Convert.{given, var, Numbering, operands, performed, computed, outer, access, ready, packed, marked, call_set, used, making, following, group_in, name_of, convert, cases, con_arms, convert_op, opening, codes, codes_arms, codes_op, codes_fun, codes_funs, atom_list}

-- around an expression: it misses where that does, and inside nothing does that is not to
record Keeps (e f : out.Exp) : Type 0 where
  misses : may_miss f ≡ may_miss e
  inside : HasWhole e → HasWhole f

as-it-is : (e : out.Exp) → Keeps e e
as-it-is e = record { misses = refl; inside = λ h. h }

then-keeps : {e f g : out.Exp} → Keeps e f → Keeps f g → Keeps e g
then-keeps h k = record { misses = k.misses ∙ h.misses; inside = λ i. k.inside (h.inside i) }

record OpWhole (o : out.Op) : Type 0 where
  is : OpHasWhole o

let-keeps : {x : ℕ} {o : out.Op} (e : out.Exp) → OpWhole o → Keeps e (out.let_in x o e)
let-keeps e h = record { misses = refl; inside = λ i. (h.is, i) }

outer-whole : (n : Numbering) (cs : List ℕ) (y : ℕ) (w : Way) → OpWhole (outer n cs y w)
outer-whole n cs y no_way = record { is = tt }
outer-whole n cs y leads = record { is = tt }
outer-whole n cs y (follows k) = record { is = tt }

access-whole : (n : Numbering) (s : Scope) (y : ℕ) → OpWhole (access n s y)
access-whole n s y = by (is_in y s.locals)
  where
    by : (b : Bool) → OpWhole (if b then out.plain same (var y ∷ []) else outer n s.captured y (way y s.group))
    by true = record { is = tt }
    by false = outer-whole n s.captured y (way y s.group)

ready-keeps : (n : Numbering) (s : Scope) (ps : List Piece) (e : out.Exp) → Keeps e (ready n s ps e)
ready-keeps n s [] e = as-it-is e
ready-keeps n s (alone y ∷ ps) e = by (is_in y s.locals) (ready-keeps n s ps e)
  where
    by : (b : Bool) → Keeps e (ready n s ps e) → Keeps e (if b then ready n s ps e else out.let_in (var y) (access n s y) (ready n s ps e))
    by true h = h
    by false h = then-keeps h (let-keeps (ready n s ps e) (access-whole n s y))
ready-keeps n s (those from count ∷ ps) e = ready-keeps n s ps e

marked-keeps : (k : Option Place) (e : out.Exp) → Keeps e (marked k e)
marked-keeps None e = as-it-is e
marked-keeps (Some place) e = record { misses = refl; inside = λ h. h }

packed-keeps : (x : ℕ) (e : out.Exp) → Keeps e (packed x e)
packed-keeps x e = record { misses = refl; inside = λ h. (tt, (tt, h)) }

computed-whole : (k : Operands) (p : BasisPrimitive) (xs : List ℕ) → OpWhole (computed k p xs)
computed-whole k p xs = by (may_raise k p)
  where
    by : (b : Bool) → OpWhole (if b then out.attempt k p xs else out.plain (compute k p) xs)
    by true = record { is = tt }
    by false = record { is = tt }

performed-whole : (types : List table.Row) (o : prims.Sort) (p : BasisPrimitive) (t : ℕ) (xs : List ℕ) → OpWhole (performed types o p t xs)
performed-whole types compares p t xs = record { is = tt }
performed-whole types assigns p t xs = record { is = tt }
performed-whole types prints p t xs = record { is = tt }
performed-whole types computes p t xs = computed-whole (operands types p t) p xs

module _ (types : List table.Row) (n : Numbering) (flow : Flow) (captures : Table) where
  call-whole : (place : Place) (s : ℕ) (ks : List ℕ) (f a : ℕ) → OpWhole (call_set n place s ks f a)
  call-whole place s [] f a = record { is = tt }
  call-whole place s (k ∷ []) f a = record { is = tt }
  call-whole place s (k ∷ l ∷ ks) f a = record { is = tt }

  used-keeps : (b : Bool) (s : Scope) (x y : ℕ) (e : out.Exp) → Keeps e (used n b s x y e)
  used-keeps true s x y e = then-keeps (packed-keeps x e) (let-keeps (packed x e) (access-whole n s y))
  used-keeps false s x y e = let-keeps e (access-whole n s y)

  making-keeps : (s : Scope) (x k : ℕ) (e : out.Exp) → Keeps e (making n types flow captures s x k e)
  making-keeps s x k e = then-keeps (let-keeps e (record { is = tt })) (ready-keeps n s (captures.pieces k) _)

  following-keeps : (h : ℕ) (gs : List Member) (e : out.Exp) → Keeps e (following n types flow captures h gs e)
  following-keeps h [] e = as-it-is e
  following-keeps h (g ∷ gs) e = then-keeps (let-keeps e (record { is = tt })) (following-keeps h gs _)

  group-keeps : (s : Scope) (ms : List Member) (e : out.Exp) → Keeps e (group_in n types flow captures s ms e)
  group-keeps s [] e = as-it-is e
  group-keeps s (g ∷ gs) e = then-keeps (following-keeps g.name gs e) (making-keeps s (var g.name) g.number _)

  opening-keeps : (q : Bool) (e : out.Exp) → Keeps e (opening n types flow captures q e)
  opening-keeps true e = as-it-is e
  opening-keeps false e = let-keeps e (record { is = tt })

  name-whole : (s : Scope) (y : Exception (mono types)) → OpWhole (name_of n types flow captures s y)
  name-whole s (fixed i) = record { is = tt }
  name-whole s (held y) = access-whole n s y

  abbrev conv : Scope → Mono types → out.Exp
  conv s e = convert n types flow captures s e

  pub record Inside (e : out.Exp) : Type 0 where
    pub is : HasWhole e

  pub record ArmsInside (arms : out.Arms) : Type 0 where
    pub is : ArmsHaveWhole arms

  around : {e f : out.Exp} → Keeps e f → Inside e → Inside f
  around k h = record { is = k.inside h.is }

  arm : {i : ℕ} {e : out.Exp} {arms : out.Arms} → Inside e → ArmsInside arms → ArmsInside (out.arm i e arms)
  arm h g = record { is = (h.is, g.is) }

  mutual
    pub whole : {b : Bool} {G : Sorts} {e : Mono types} {t : ℕ} (s : Scope) → tt.Typed types b G e t → Inside (conv s e)
    whole s (tt.t_ret e) = record { is = tt }
    whole s (tt.t_let {x = x} {e = e} h l) = around (op-keeps s x (conv (add x s) e) h) (whole (add x s) l)
    whole s (tt.t_exception {x = x} l) = around (let-keeps _ (record { is = tt })) (whole (add x s) l)
    whole s (tt.t_name {x = x} {y = y} e l) = around (let-keeps _ (name-whole s y)) (whole (add x s) l)
    whole s (tt.t_rec {fs = fs} h l) = around (group-keeps s (members types fs) _) (whole (add_all (names (members types fs)) s) l)
    whole s (tt.t_switch {x = x} {u = u} e arms) = cases-whole s x u arms
    whole s (tt.t_first h l) = record { is = ((whole s h).is, (whole s l).is) }
    whole s tt.t_miss = record { is = tt }
    whole s (tt.t_counted l) = whole s l

    clean : {b : Bool} {G : Sorts} {e : Mono types} {t : ℕ} (s : Scope) → b ≡ false → tt.Typed types b G e t → may_miss (conv s e) ≡ false
    clean s q (tt.t_ret e) = refl
    clean s q (tt.t_let {x = x} {e = e} h l) = (op-keeps s x (conv (add x s) e) h).misses ∙ clean (add x s) q l
    clean s q (tt.t_exception {x = x} l) = clean (add x s) q l
    clean s q (tt.t_name {x = x} e l) = clean (add x s) q l
    clean s q (tt.t_rec {fs = fs} {e = e} h l) = (group-keeps s (members types fs) (conv (add_all (names (members types fs)) s) e)).misses ∙ clean (add_all (names (members types fs)) s) q l
    clean s q (tt.t_switch e arms) = absurd (cc)
    clean s q (tt.t_first h l) = clean s q l
    clean s q tt.t_miss = absurd (cc)
    clean s q (tt.t_counted l) = clean s q l

    cases-whole : {G : Sorts} {arms : m.Arms (mono types)} {u t : ℕ} (s : Scope) (a i : ℕ) → tt.ArmsTyped types G arms u t → Inside (cases n types flow captures s a i arms)
    cases-whole s a i tt.t_no_arms = record { is = tt }
    cases-whole s a i (tt.t_arm {c = is_literal w} h l r) = record { is = ((whole s l).is, (cases-whole s a i r).is) }
    cases-whole s a i (tt.t_arm {c = is_con w} h l r) = record { is = ((whole s l).is, (con-arms-whole s a i r).is) }
    cases-whole s a i (tt.t_arm {c = is_con_of w x z} h l r) = record { is = ((tt, (whole (add x s) l).is), (con-arms-whole s a i r).is) }
    cases-whole s a i (tt.t_arm {c = is_exn y} h l r) = record { is = ((whole s l).is, (cases-whole s a i r).is) }
    cases-whole s a i (tt.t_arm {c = is_exn_of y x z} h l r) = record { is = ((tt, (whole (add x s) l).is), (cases-whole s a i r).is) }
    cases-whole s a i (tt.t_arm {c = is_record z} h l r) = whole s l

    con-arms-whole : {G : Sorts} {arms : m.Arms (mono types)} {u t : ℕ} (s : Scope) (a i : ℕ) → tt.ArmsTyped types G arms u t → ArmsInside (con_arms n types flow captures s a i arms)
    con-arms-whole s a i tt.t_no_arms = record { is = tt }
    con-arms-whole s a i (tt.t_arm {c = is_con w} h l r) = arm (whole s l) (con-arms-whole s a i r)
    con-arms-whole s a i (tt.t_arm {c = is_con_of w x z} h l r) = arm (record { is = (tt, (whole (add x s) l).is) }) (con-arms-whole s a i r)
    con-arms-whole s a i (tt.t_arm {c = is_literal w} h l r) = record { is = tt }
    con-arms-whole s a i (tt.t_arm {c = is_exn y} h l r) = record { is = tt }
    con-arms-whole s a i (tt.t_arm {c = is_exn_of y x z} h l r) = record { is = tt }
    con-arms-whole s a i (tt.t_arm {c = is_record z} h l r) = record { is = tt }

    op-keeps : {G : Sorts} {o : m.Op (mono types)} {t : ℕ} (s : Scope) (x : ℕ) (e : out.Exp) → tt.OpTyped types G o t → Keeps e (convert_op n types flow captures s x o e)
    op-keeps s x e (tt.t_use {x = y} h) = used-keeps (n.is_name y) s (var x) y e
    op-keeps s x e (tt.t_use_exception {x = y} h i) = used-keeps (n.is_name y) s (var x) y e
    op-keeps s x e (tt.t_const h) = let-keeps e (record { is = tt })
    op-keeps s x e (tt.t_con_alone h i) = let-keeps e (record { is = tt })
    op-keeps s x e (tt.t_construct {m = m} h i) = then-keeps (let-keeps e (record { is = tt })) (marked-keeps m _)
    op-keeps s x e (tt.t_ref_alone h i) = let-keeps e (record { is = tt })
    op-keeps s x e (tt.t_refer {m = m} h i) = then-keeps (let-keeps e (record { is = tt })) (marked-keeps m _)
    op-keeps s x e (tt.t_content h i) = let-keeps e (record { is = tt })
    op-keeps s x e (tt.t_pack {m = m} h i j) = then-keeps (let-keeps e (record { is = tt })) (marked-keeps m _)
    op-keeps s x e (tt.t_make_record h i j) = let-keeps e (record { is = tt })
    op-keeps s x e (tt.t_select h i j) = let-keeps e (record { is = tt })
    op-keeps s x e (tt.t_prim_alone h i j) = let-keeps e (record { is = tt })
    op-keeps s x e (tt.t_prim {m = m} {p = p} {u = u} {as_ = as_} h i) = then-keeps (let-keeps e (performed-whole types (prims.sort_of p) p u (atom_list n types flow captures as_))) (marked-keeps m _)
    op-keeps s x e (tt.t_app {place = place} {f = f} {x = y} h i j) = let-keeps e (call-whole place (flow.number (variable f)) (at flow (variable f)) (var f) (var y))
    op-keeps s x e (tt.t_fn {f = f} h) = making-keeps s (var x) (number_of types f) e
    op-keeps s x e (tt.t_block l) = let-keeps e (record { is = (clean s refl l, (whole s l).is) })
    op-keeps s x e (tt.t_handle {x = y} l i r) = let-keeps e (record { is = ((clean s refl l, (whole s l).is), (clean (add y s) refl r, (whole (add y s) r).is)) })
    op-keeps s x e (tt.t_raise h i) = let-keeps e (record { is = tt })
    op-keeps s x e (tt.t_raise_initial h) = record { misses = refl; inside = λ h. (tt, (tt, (tt, (tt, h)))) }

  pub clean-program : {G : Sorts} {e : Mono types} {t : ℕ} (s : Scope) → tt.Typed types false G e t → may_miss (conv s e) ≡ false
  clean-program s l = clean s refl l

  pub record CodesWhole (cs : List out.Fun) : Type 0 where
    pub are : AllByRecursion FunIsWhole cs

  code-more : {c : out.Fun} {cs : List out.Fun} → may_miss c.body ≡ false → Inside c.body → CodesWhole cs → CodesWhole (c ∷ cs)
  code-more q h g = record { are = ((q, h.is), g.are) }

  mutual
    pub codes-whole : {b : Bool} {G : Sorts} {e : Mono types} {t : ℕ} {cs : List out.Fun} → tt.Typed types b G e t → CodesWhole cs → CodesWhole (codes n types flow captures e cs)
    codes-whole (tt.t_ret e) r = r
    codes-whole (tt.t_let h l) r = op-codes h (codes-whole l r)
    codes-whole (tt.t_exception l) r = codes-whole l r
    codes-whole (tt.t_name e l) r = codes-whole l r
    codes-whole (tt.t_rec {fs = fs} h l) r = funs-codes true (leader types fs) (members types fs) h (codes-whole l r)
    codes-whole (tt.t_switch e arms) r = arms-codes arms r
    codes-whole (tt.t_first h l) r = codes-whole h (codes-whole l r)
    codes-whole tt.t_miss r = r
    codes-whole (tt.t_counted l) r = codes-whole l r

    arms-codes : {G : Sorts} {arms : m.Arms (mono types)} {u t : ℕ} {cs : List out.Fun} → tt.ArmsTyped types G arms u t → CodesWhole cs → CodesWhole (codes_arms n types flow captures arms cs)
    arms-codes tt.t_no_arms r = r
    arms-codes (tt.t_arm h l a) r = codes-whole l (arms-codes a r)

    op-codes : {G : Sorts} {o : m.Op (mono types)} {t : ℕ} {cs : List out.Fun} → tt.OpTyped types G o t → CodesWhole cs → CodesWhole (codes_op n types flow captures o cs)
    op-codes (tt.t_fn {f = f} h) r = fun-codes true (number_of types f) [] h r
    op-codes (tt.t_block l) r = codes-whole l r
    op-codes (tt.t_handle l i j) r = codes-whole l (codes-whole j r)
    op-codes (tt.t_use i) r = r
    op-codes (tt.t_use_exception i j) r = r
    op-codes (tt.t_const i) r = r
    op-codes (tt.t_con_alone i j) r = r
    op-codes (tt.t_construct i j) r = r
    op-codes (tt.t_ref_alone i j) r = r
    op-codes (tt.t_refer i j) r = r
    op-codes (tt.t_content i j) r = r
    op-codes (tt.t_pack i j l) r = r
    op-codes (tt.t_make_record i j l) r = r
    op-codes (tt.t_select i j l) r = r
    op-codes (tt.t_prim_alone i j l) r = r
    op-codes (tt.t_prim i j) r = r
    op-codes (tt.t_app i j l) r = r
    op-codes (tt.t_raise i j) r = r
    op-codes (tt.t_raise_initial j) r = r

    fun-codes : {G : Sorts} {f : Fun (mono types)} {t : ℕ} {cs : List out.Fun} (q : Bool) (v : ℕ) (ms : List Member) → FunTyped types G f t → CodesWhole cs → CodesWhole (codes_fun n types flow captures q v ms f cs)
    fun-codes q v ms (t_last {x = x} {e = e} i l) r =
        let s = scope_of (captures.captured v) ms x in
        let k = opening-keeps q (conv s e) in
        code-more (k.misses ∙ clean s refl l) (around k (whole s l)) (codes-whole l r)
    fun-codes q v ms (t_more {x = x} {f = f} i l) r =
        let s = scope_of (captures.captured v) ms x in
        let h = making-keeps s given (number_of types f) (out.ret given) in
        let k = then-keeps h (opening-keeps q _) in
        code-more k.misses (record { is = k.inside tt }) (fun-codes true (number_of types f) [] l r)

    funs-codes : {G : Sorts} {fs : Funs (mono types)} {cs : List out.Fun} (q : Bool) (v : ℕ) (ms : List Member) → FunsTyped types G fs → CodesWhole cs → CodesWhole (codes_funs n types flow captures q v ms fs cs)
    funs-codes q v ms t_no_funs r = r
    funs-codes q v ms (t_fun h l) r = fun-codes q v ms h (funs-codes false v ms l r)

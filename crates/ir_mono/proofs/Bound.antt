-- In a well typed program every variable that is named is bound around.
use Rattle.std.proofs.Common.{◌≡◌, ℕ, List, [], ◌∷◌, Bool, true, false, Option, Some, nat_eq, if◌then◌else◌, refl, subst, ap}
use Rattle.ir_poly.specs.of_mlc_names.declared.label.Label.{Label}
use Rattle.ir_poly.specs.of_ir_plain.Tree.{Case, Exception, Atoms, Row, Exp, Arms, Op, Fun, Funs, no_funs, fun}
use Rattle.ir_poly.specs.of_ir_plain.Scoped.{IsAmong, among_here, among_there, group_onto, AtomsScoped, no_atoms_scoped, an_atom_scoped, RowScoped, no_row_scoped, a_row_scoped, CaseScoped, literal_scoped, con_scoped, con_of_scoped, exn_scoped, exn_of_scoped, record_scoped, ReachesName, IsBound, ret_scoped, let_scoped, exception_scoped, name_scoped, rec_scoped, switch_scoped, first_scoped, miss_scoped, counted_scoped, ArmsScoped, no_arms_scoped, arm_scoped, OpScoped, use_scoped, const_scoped, con_alone_scoped, construct_scoped, ref_alone_scoped, refer_scoped, content_scoped, pack_scoped, make_record_scoped, select_scoped, prim_alone_scoped, prim_scoped, app_scoped, fn_scoped, block_scoped, handle_scoped, raise_scoped, raise_initial_scoped, FunScoped, last_scoped, more_scoped, FunsScoped, no_funs_scoped, fun_scoped}
use Rattle.ir_mono.specs.Types as table
use Rattle.ir_mono.specs.Mono.{mono, Program}
use Rattle.ir_mono.specs.Typing as tt
use Rattle.ir_mono.specs.Typing.{Sort, Sorts, sort_of, group_sorts}
use Rattle.ir_mono.specs.WellFormed.{IsWellFormed}

module _ (types : List table.Row) where
  abbrev names : Sorts → List ℕ
  names [] = []
  names (p ∷ G) = p.0 ∷ names G

  group-names : (fs : Funs (mono types)) (G : Sorts) → names (group_sorts types fs G) ≡ group_onto (mono types) fs (names G)
  group-names no_funs G = refl
  group-names (fun x t f fs) G = ap (λ l. x ∷ l) (group-names fs G)

  among : (G : Sorts) {x : ℕ} {s : Sort} → sort_of G x ≡ Some s → IsAmong (mono types) x (names G)
  among [] e = absurd (cc)
  among (p ∷ G) {x = x} {s = s} e = go (nat_eq x p.0) refl e (λ q. among G q)
    where
      go : (b : Bool) → nat_eq x p.0 ≡ b → (if b then Some p.1 else sort_of G x) ≡ Some s → (sort_of G x ≡ Some s → IsAmong (mono types) x (names G)) → IsAmong (mono types) x (p.0 ∷ names G)
      go true q e h = among_here q
      go false q e h = among_there (h e)

  atoms-bound : {G : Sorts} {as_ : Atoms (mono types)} {ts : List ℕ} → tt.AtomsTyped types G as_ ts → AtomsScoped (mono types) (names G) as_
  atoms-bound tt.no_atoms_typed = no_atoms_scoped
  atoms-bound {G = G} (tt.an_atom_typed e k) = an_atom_scoped (among G e) (atoms-bound k)

  row-bound : {G : Sorts} {row : Row (mono types)} {ls : List Label} {ts : List ℕ} → tt.RowTyped types G row ls ts → RowScoped (mono types) (names G) row
  row-bound tt.no_row_typed = no_row_scoped
  row-bound {G = G} (tt.a_row_typed e k) = a_row_scoped (among G e) (row-bound k)

  name-bound : {G : Sorts} {y : Exception (mono types)} {a : Option ℕ} → tt.NameTyped types G y a → ReachesName (mono types) true y (names G)
  name-bound (tt.fixed_typed e) = tt
  name-bound {G = G} (tt.held_typed e) = among G e

  case-bound : {G G' : Sorts} {c : Case (mono types)} {u : ℕ} → tt.CaseTyped types G c u G' → CaseScoped (mono types) (names G) c (names G')
  case-bound (tt.literal_typed k) = literal_scoped
  case-bound (tt.con_typed k) = con_scoped
  case-bound (tt.con_of_typed k) = con_of_scoped
  case-bound {G = G} (tt.exn_typed e i) = exn_scoped (among G e)
  case-bound {G = G} (tt.exn_of_typed e i) = exn_of_scoped (among G e)
  case-bound (tt.record_typed i n) = record_scoped

  mutual
    pub bound : {m : Bool} {G : Sorts} {e : Exp (mono types)} {t : ℕ} → tt.Typed types m G e t → IsBound (mono types) (names G) e
    bound {G = G} (tt.t_ret e) = ret_scoped (among G e)
    bound (tt.t_let o l) = let_scoped (op-bound o) (bound l)
    bound (tt.t_exception l) = exception_scoped (bound l)
    bound (tt.t_name e l) = name_scoped (name-bound e) (bound l)
    bound {G = G} (tt.t_rec {fs = fs} {e = e} k l) = rec_scoped (subst (λ xs. FunsScoped (mono types) true xs fs) (group-names fs G) (funs-bound k)) (subst (λ xs. IsBound (mono types) xs e) (group-names fs G) (bound l))
    bound {G = G} (tt.t_switch e arms) = switch_scoped (among G e) (arms-bound arms)
    bound (tt.t_first l d) = first_scoped (bound l) (bound d)
    bound tt.t_miss = miss_scoped
    bound (tt.t_counted l) = counted_scoped (bound l)

    arms-bound : {G : Sorts} {arms : Arms (mono types)} {u t : ℕ} → tt.ArmsTyped types G arms u t → ArmsScoped (mono types) true (names G) arms
    arms-bound tt.t_no_arms = no_arms_scoped
    arms-bound (tt.t_arm c l arms) = arm_scoped (case-bound c) (bound l) (arms-bound arms)

    op-bound : {G : Sorts} {o : Op (mono types)} {t : ℕ} → tt.OpTyped types G o t → OpScoped (mono types) true (names G) o
    op-bound {G = G} (tt.t_use e) = use_scoped (among G e)
    op-bound {G = G} (tt.t_use_exception e i) = use_scoped (among G e)
    op-bound (tt.t_const c) = const_scoped
    op-bound (tt.t_con_alone e i) = con_alone_scoped
    op-bound {G = G} (tt.t_construct q e) = construct_scoped (among G e)
    op-bound (tt.t_ref_alone e i) = ref_alone_scoped
    op-bound {G = G} (tt.t_refer e i) = refer_scoped (among G e)
    op-bound {G = G} (tt.t_content e i) = content_scoped (among G e)
    op-bound {G = G} (tt.t_pack e d i) = pack_scoped (among G e) (among G d)
    op-bound (tt.t_make_record r i d) = make_record_scoped (row-bound r)
    op-bound {G = G} (tt.t_select e i q) = select_scoped (among G e)
    op-bound (tt.t_prim_alone p t i) = prim_alone_scoped
    op-bound (tt.t_prim p r) = prim_scoped (atoms-bound r)
    op-bound {G = G} (tt.t_app e i d) = app_scoped (among G e) (among G d)
    op-bound (tt.t_fn f) = fn_scoped (fun-bound f)
    op-bound (tt.t_block l) = block_scoped (bound l)
    op-bound (tt.t_handle l i d) = handle_scoped (bound l) (bound d)
    op-bound {G = G} (tt.t_raise e i) = raise_scoped (among G e)
    op-bound (tt.t_raise_initial e) = raise_initial_scoped

    fun-bound : {G : Sorts} {f : Fun (mono types)} {t : ℕ} → tt.FunTyped types G f t → FunScoped (mono types) true (names G) f
    fun-bound (tt.t_last i l) = last_scoped (bound l)
    fun-bound (tt.t_more i f) = more_scoped (fun-bound f)

    funs-bound : {G : Sorts} {fs : Funs (mono types)} → tt.FunsTyped types G fs → FunsScoped (mono types) true (names G) fs
    funs-bound tt.t_no_funs = no_funs_scoped
    funs-bound (tt.t_fun f fs) = fun_scoped (fun-bound f) (funs-bound fs)

pub well-formed-bound : (p : Program) → IsWellFormed p → IsBound (mono p.types) [] p.body
well-formed-bound p h = bound p.types h.typed

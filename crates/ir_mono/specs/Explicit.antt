-- Programs in which what is a function by itself stands nowhere as a value: a constructor or an exception that takes an argument, `ref`, a primitive.
use Rattle.std.specs.Prelude.{◌≡◌, ℕ, Bool, true, false, List, ◌∷◌, Option, Some, None, ⊤}
use Rattle.ir_poly.specs.of_ir_plain.Tree.{Exp, ret, let_in, exception_in, name_in, rec_in, switch, first, miss, counted, Arms, no_arms, arm, Op, use_of, const, con_alone, construct, ref_alone, refer, content, pack, make_record, select, prim_alone, prim, app, fn, block, handle, raise, raise_initial, Fun, last, more, Funs, no_funs, fun}
use Rattle.ir_mono.specs.Types as table
use Rattle.ir_mono.specs.Types.{constructor_at}
use Rattle.ir_mono.specs.Mono.{mono}
use Rattle.ir_mono.specs.Typing.{of_type, exception, Sorts, sort_of, group_sorts, NameTyped, CaseTyped}

-- asked only where the first says so
abbrev pub Unless : Bool → Type 0 → Type 0
Unless true P = ⊤
Unless false P = P

-- in scope of variables of these sorts
module _ (types : List table.Row) where
  abbrev mutual
    pub IsExplicit : Sorts → Exp (mono types) → Type 0
    IsExplicit G (ret a) = ⊤
    IsExplicit G (let_in x ps t o e) = OpExplicit G o × IsExplicit ((x, of_type t) ∷ G) e
    IsExplicit G (exception_in x i a e) = IsExplicit ((x, exception a) ∷ G) e
    IsExplicit G (name_in x y e) = (a : Option ℕ) → NameTyped types G y a → IsExplicit ((x, exception a) ∷ G) e
    IsExplicit G (rec_in ps fs e) = FunsExplicit (group_sorts types fs G) fs × IsExplicit (group_sorts types fs G) e
    IsExplicit G (switch a t arms) = ArmsExplicit G arms
    IsExplicit G (first e d) = IsExplicit G e × IsExplicit G d
    IsExplicit G miss = ⊤
    IsExplicit G (counted k e) = IsExplicit G e

    pub ArmsExplicit : Sorts → Arms (mono types) → Type 0
    ArmsExplicit G no_arms = ⊤
    ArmsExplicit G (arm c e arms) = ((t : ℕ) (H : Sorts) → CaseTyped types G c t H → IsExplicit H e) × ArmsExplicit G arms

    pub OpExplicit : Sorts → Op (mono types) → Type 0
    OpExplicit G (use_of x) = (a : ℕ) → sort_of G x ≡ Some (exception (Some a)) → ⊥
    OpExplicit G (const l) = ⊤
    OpExplicit G (con_alone c t) = constructor_at types t c ≡ Some None
    OpExplicit G (construct k c t a) = ⊤
    OpExplicit G (ref_alone t) = ⊥
    OpExplicit G (refer k t a) = ⊤
    OpExplicit G (content t a) = ⊤
    OpExplicit G (pack k t y a) = ⊤
    OpExplicit G (make_record t row) = ⊤
    OpExplicit G (select t l a) = ⊤
    OpExplicit G (prim_alone p t) = ⊥
    OpExplicit G (prim k p t as_) = ⊤
    OpExplicit G (app place f a) = ⊤
    OpExplicit G (fn f) = FunExplicit G f
    OpExplicit G (block e) = IsExplicit G e
    OpExplicit G (handle e x d) = IsExplicit G e × ((t : ℕ) → IsExplicit ((x, of_type t) ∷ G) d)
    OpExplicit G (raise a) = ⊤
    OpExplicit G (raise_initial i) = ⊤

    pub FunExplicit : Sorts → Fun (mono types) → Type 0
    FunExplicit G (last x t e) = IsExplicit ((x, of_type t) ∷ G) e
    FunExplicit G (more x t f) = FunExplicit ((x, of_type t) ∷ G) f

    pub FunsExplicit : Sorts → Funs (mono types) → Type 0
    FunsExplicit G no_funs = ⊤
    FunsExplicit G (fun x t f fs) = FunExplicit G f × FunsExplicit G fs

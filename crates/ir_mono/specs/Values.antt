-- Types of values, under the types of what is stored and of the arguments of the exceptions made. Constants keep no type; a constructor, an exception, `ref`
-- and a primitive are functions too.
use Rattle.std.specs.Prelude.{◌≡◌, ℕ, Bool, true, List, [], ◌∷◌, Option, Some, None, slice_get}
use Rattle.ir_poly.specs.of_mlc_names.declared.label.Label.{Label}
use Rattle.ir_poly.specs.of_mlc_prims.LitOf.{Literal}
use Rattle.ir_poly.specs.of_mlc_prims.declared.basis.BasisPrimitive.{BasisPrimitive}
use Rattle.ir_poly.specs.of_ty_core.Types.{labels}
use Rattle.ir_poly.specs.of_ir_values.Values.{literal, record_of, con, con_of, exn, exn_of, ref, address, primitive, closure, no_fields, field, empty, bind}
use Rattle.ir_poly.specs.of_ir_plain.Tree.{Fun, Funs}
use Rattle.ir_poly.specs.of_ir_plain.Meaning.{V, Scope, Parts, alone, one_of, argument_tag}
use Rattle.ir_mono.specs.Types.{Row, constructor_at, Is, IsFunction, IsRef, IsExn, HasLiteral, AreDistinct, IsTuple}
use Rattle.ir_mono.specs.Mono.{mono}
use Rattle.ir_mono.specs.Explicit.{Unless, FunExplicit, FunsExplicit}
use Rattle.ir_mono.specs.Typing.{Sort, of_type, exception, Sorts, group_sorts, PrimAt, FunTyped, FunsTyped}

-- the types of what is stored, and of the arguments of the exceptions made; and whether what is a function by itself may be a value
pub record Shape : Type 0 where
  pub store : List ℕ
  pub exceptions : List (Option ℕ)
  pub bare : Bool

module _ (types : List Row) where
  module _ (S : Shape) where
    mutual
      pub data ValueTyped : V (mono types) → ℕ → Type 0 where
        literal_is : {l : Literal} {n : ℕ} → HasLiteral types l n → ValueTyped (literal l) n
        record_is : {fs : Parts (mono types)} {ls : List Label} {ps : List ℕ} {n : ℕ} → Is types n (labels ls) ps → AreDistinct ls → FieldsTyped fs ls ps
            → ValueTyped (record_of n fs) n
        con_is : {c n : ℕ} → constructor_at types n c ≡ Some None → ValueTyped (con n c) n
        con_function_is : {c g n a : ℕ} → S.bare ≡ true → constructor_at types g c ≡ Some (Some a) → IsFunction types n a g → ValueTyped (con g c) n
        con_of_is : {c n a : ℕ} {v : V (mono types)} → constructor_at types n c ≡ Some (Some a) → ValueTyped v a → ValueTyped (con_of n c v) n
        exn_is : {g i n : ℕ} → slice_get S.exceptions i ≡ Some None → IsExn types n → ValueTyped (exn g i) n
        exn_function_is : {i a e n : ℕ} → S.bare ≡ true → slice_get S.exceptions i ≡ Some (Some a) → IsFunction types n a e → IsExn types e
            → ValueTyped (exn a i) n
        exn_of_is : {i a n : ℕ} {v : V (mono types)} → slice_get S.exceptions i ≡ Some (Some a) → ValueTyped v a → IsExn types n → ValueTyped (exn_of a i v) n
        ref_is : {a r n : ℕ} → S.bare ≡ true → IsFunction types n a r → IsRef types r a → ValueTyped (ref a) n
        address_is : {i a n : ℕ} → slice_get S.store i ≡ Some a → IsRef types n a → ValueTyped (address i) n
        primitive_is : {p : BasisPrimitive} {u a r n : ℕ} {ns : List ℕ} → S.bare ≡ true → PrimAt types p u ns r → IsTuple types ns a → IsFunction types n a r
            → ValueTyped (primitive u p) n
        closure_is : {f : Fun (mono types)} {env : Scope (mono types)} {G : Sorts} {n a b : ℕ} → EnvTyped env G → IsFunction types n a b → FunTyped types G f n
            → Unless S.bare (FunExplicit types G f) → ValueTyped (closure (alone f) env) n
        group_is : {f : Fun (mono types)} {fs : Funs (mono types)} {env : Scope (mono types)} {G : Sorts} {n a b : ℕ} → EnvTyped env G
            → FunsTyped types (group_sorts types fs G) fs → IsFunction types n a b → FunTyped types (group_sorts types fs G) f n
            → Unless S.bare (FunsExplicit types (group_sorts types fs G) fs) → Unless S.bare (FunExplicit types (group_sorts types fs G) f)
            → ValueTyped (closure (one_of f fs) env) n

      pub data FieldsTyped : Parts (mono types) → List Label → List ℕ → Type 0 where
        no_fields_are : FieldsTyped no_fields [] []
        a_field_is : {l : Label} {v : V (mono types)} {t : ℕ} {fs : Parts (mono types)} {ls : List Label} {ts : List ℕ} → ValueTyped v t → FieldsTyped fs ls ts
            → FieldsTyped (field l v fs) (l ∷ ls) (t ∷ ts)

      pub data SortTyped : V (mono types) → Sort → Type 0 where
        value_is : {v : V (mono types)} {t : ℕ} → ValueTyped v t → SortTyped v (of_type t)
        name_is : {i : ℕ} {a : Option ℕ} → slice_get S.exceptions i ≡ Some a → SortTyped (exn (argument_tag (mono types) a) i) (exception a)

      pub data EnvTyped : Scope (mono types) → Sorts → Type 0 where
        empty_is : EnvTyped empty []
        bind_is : {x : ℕ} {v : V (mono types)} {s : Sort} {env : Scope (mono types)} {G : Sorts} → SortTyped v s → EnvTyped env G
            → EnvTyped (bind x v env) ((x, s) ∷ G)

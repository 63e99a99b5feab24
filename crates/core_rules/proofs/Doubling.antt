-- fun d x = (x, x): each further d doubles the type.
use Rattle.std.proofs.Common.{◌≡◌, ℕ, zero, suc, ◌+◌, ◌≤◌, ◌<◌, [], ◌∷◌, Option, Some, refl, sym, ap, ◌∙◌, subst, arith}
use Rattle.std.specs.Prelude.{unwrap_or}
use Rattle.ty_basis.specs.of_ty_core.Types.{Typ, var, con, none, more, no_variable, nodes}
use Rattle.ty_basis.specs.of_ty_core.declared.mark.Mark.TheVariants.{Any}
use Rattle.ty_basis.specs.of_ty_core.declared.env.Status.TheVariants.{Variable}
use Rattle.sml_tree.specs.BareTree.{Exp}
use Rattle.ty_basis.specs.Types.{function_type, pair_type}
use Rattle.core_rules.specs.Objects.{Context, Value, monomorphic, plus, values_env}
use Rattle.core_rules.specs.Choices.{Choices}
use Rattle.core_rules.specs.Initial.{for_all}
use Rattle.core_rules.specs.Typing.{HasType, IsInstance, vid_has, app_has}
use Rattle.core_rules.proofs.Basics.{put-none}
use Rattle.core_rules.proofs.Words.{v, vid, ap as app, word_d, word_x}
use Rattle.core_rules.proofs.Typings.{start}

abbrev doubled : ℕ → Typ → Typ
doubled zero t = t
doubled (suc n) t = pair_type (doubled n t) (doubled n t)

abbrev d_value : Value
d_value = record { scheme = for_all Any (function_type (var 0) (pair_type (var 0) (var 0))); status = Variable }

abbrev x_value : Typ → Value
x_value t = record { scheme = monomorphic t; status = Variable }

-- where x has the type t
abbrev under : Typ → Context
under t = record { names = start.names; tyvars = []; env = plus start.env (values_env ((vid word_d, d_value) ∷ (vid word_x, x_value t) ∷ [])) }

-- d (d (.. x))
abbrev many : ℕ → Exp
many zero = v word_x
many (suc n) = app (v word_d) (many n)

abbrev part : ℕ → Typ → Typ
part n (var u) = var u
part zero (con h none) = var 0
part zero (con h (more t ts)) = t
part (suc n) (con h none) = var 0
part (suc n) (con h (more t ts)) = part n (con h ts)

value-of : {o : Option Value} {a b : Value} → o ≡ Some a → o ≡ Some b → a ≡ b
value-of {a = a} e d = ap (λ o. unwrap_or o a) (sym e ∙ d)

-- its only type
many-type : (n : ℕ) (t u : Typ) (k : Choices) → HasType no_variable (under t) (many n) u k → u ≡ doubled n t
many-type zero t u k (vid_has p {v = w} e i) =
    let i' : IsInstance no_variable (under t) (monomorphic t) u k = subst (λ w. IsInstance no_variable (under t) w.scheme u k) (value-of e refl) i in
    i'.is ∙ put-none i'.types t
many-type (suc n) t u k (app_has p {t = a} {k = j} {j = l} (vid_has q {v = w} e i) h) =
    let i' : IsInstance no_variable (under t) d_value.scheme (function_type a u) j = subst (λ w. IsInstance no_variable (under t) w.scheme (function_type a u) j) (value-of e refl) i in
    let from : a ≡ i'.types 0 = ap (part 0) i'.is in
    let to : u ≡ pair_type (i'.types 0) (i'.types 0) = ap (part 1) i'.is in
    to ∙ ap (λ b. pair_type b b) (sym from ∙ many-type n t a l h)

-- nodes after n doublings, from s
abbrev size : ℕ → ℕ → ℕ
size zero s = s
size (suc n) s = suc (size n s + (size n s + 0))

nodes-doubled : (n : ℕ) (t : Typ) → nodes (doubled n t) ≡ size n (nodes t)
nodes-doubled zero t = refl
nodes-doubled (suc n) t = ap (λ s. suc (s + (s + 0))) (nodes-doubled n t)

size-grows : (n s : ℕ) → 1 ≤ s → size n 1 ≤ size n s
size-grows zero s h = h
size-grows (suc n) s h = let k : size n 1 ≤ size n s = size-grows n s h in omega (arith, k)

a-node : (t : Typ) → 1 ≤ nodes t
a-node (var v) = omega arith
a-node (con h ts) = omega arith

-- with seventeen of them every type of the expression has over 65,536 nodes
seventeen : (t u : Typ) (k : Choices) → HasType no_variable (under t) (many 17) u k → 65536 < nodes u
seventeen t u k h =
    let e : nodes u ≡ size 17 (nodes t) = ap nodes (many-type 17 t u k h) ∙ nodes-doubled 17 t in
    let l : size 17 1 ≤ size 17 (nodes t) = size-grows 17 (nodes t) (a-node t) in
    let s : size 17 1 ≡ 262143 = refl in
    subst (λ n. 65536 < n) (sym e) (let m : 65536 < size 17 (nodes t) = omega (arith, l, s) in m)

-- with eight, 511 above a variable
eight : nodes (doubled 8 (var 0)) ≡ 511
eight = refl

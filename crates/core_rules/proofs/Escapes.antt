-- No type name of a `let` escapes: let datatype t = A in A end has no typing.
use Rattle.std.proofs.Common.{◌≡◌, ℕ, zero, suc, Bool, true, false, List, [], ◌∷◌, length, Option, Some, None, sym, ap, ◌∙◌, subst}
use Rattle.std.specs.Prelude.{unwrap_or, if◌then◌else◌}
use Rattle.ty_basis.specs.of_ty_core.Types.{Typ, con, none, name as symbol, no_variable}
use Rattle.ty_basis.specs.of_ty_core.declared.name.TyName.{TyName}
use Rattle.ty_basis.specs.of_ty_core.declared.name.Equality.TheVariants.{ByArguments, Never}
use Rattle.ty_basis.specs.of_ty_core.declared.env.Status.TheVariants.{Constructor}
use Rattle.sml_tree.specs.BareTree.{fn, no_rules, Exp, DataBind, datatype_dec, let_in}
use Rattle.core_rules.specs.Objects.{Context, Value, Map, TypeStructure, Over, with_env, monomorphic, plus, no_env}
use Rattle.core_rules.specs.Choices.{Choices, no_choice}
use Rattle.core_rules.specs.Elaborated.{datatypes, datatypes_env}
use Rattle.core_rules.specs.Typing.{with_bound, app_has, fn_has, rule_has, constructor_has, variable_has, HasType, IsInstance, vid_has, let_has, dec_has, no_dec_has, datatype_has}
use Rattle.core_rules.proofs.Words.{pv, one_rule, unit, at, v, vid, decs, word_A, word_t, word_x}
use Rattle.core_rules.proofs.Basics.{put-none}
use Rattle.core_rules.proofs.Typings.{start}
use Rattle.sml_tree.specs.Derived.{case_of}

abbrev only_a : List DataBind
only_a = record { place = at; tyvars = []; tycon = word_t; cons = record { place = at; vid = vid word_A; of_ty = None } ∷ [] } ∷ []

abbrev escaping : Exp
escaping = let_in at (decs (datatype_dec at only_a ∷ [])) (v word_A)

abbrev new_name : Bool → TyName
new_name q = record { stamp = 8; arity = 0; equality = if q then ByArguments else Never }

abbrev a_value : Bool → Value
a_value q = record { scheme = monomorphic (con (symbol (new_name q)) none); status = Constructor }

abbrev Holds : Bool → Type 0
Holds true = Unit {0}
Holds false = ⊥

abbrev One : ℕ → Type 0
One zero = ⊥
One (suc zero) = Unit {0}
One (suc (suc n)) = ⊥

-- under the datatype
abbrev inside : List Bool → Map ℕ TypeStructure → Context
inside qs ts = with_env start 1 (plus (datatypes_env ts) no_env)

no-type : (q : Bool) (t : Typ) (k : Choices) → HasType no_variable (inside (q ∷ []) (unwrap_or (datatypes start (q ∷ []) only_a) [])) (v word_A) t k → Over start.names t → ⊥
no-type q t k (vid_has p {v = w} e i) o =
    let same : a_value q ≡ w = ap (λ o. unwrap_or o w) e in
    let i' : IsInstance no_variable (inside (q ∷ []) (unwrap_or (datatypes start (q ∷ []) only_a) [])) (a_value q).scheme t k =
    subst (λ w. IsInstance no_variable (inside (q ∷ []) (unwrap_or (datatypes start (q ∷ []) only_a) [])) w.scheme t k) (sym same) i in
    let over : Over start.names (con (symbol (new_name q)) none) = subst (Over start.names) i'.is o in
    let bad : Holds false = subst Holds (sym over.0) tt in absurd bad

by-attributes : (qs : List Bool) (ts : Map ℕ TypeStructure) (t : Typ) (k : Choices) → length qs ≡ 1 → datatypes start qs only_a ≡ Some ts → HasType no_variable (inside qs ts) (v word_A) t k → Over start.names t → ⊥
by-attributes [] ts t k l e h o = let bad : One 0 = subst One (sym l) tt in absurd bad
by-attributes (q ∷ q' ∷ qs) ts t k l e h o = let bad : One (length (q ∷ q' ∷ qs)) = subst One (sym l) tt in absurd bad
by-attributes (q ∷ []) ts t k l e h o = no-type q t k (subst (λ ts. HasType no_variable (inside (q ∷ []) ts) (v word_A) t k) (sym (ap (λ o. unwrap_or o ts) e)) h) o

no_escape : (t : Typ) (k : Choices) → HasType no_variable start escaping t k → ⊥
no_escape t k (let_has p {j = j} (dec_has (datatype_has q qs l e r b) no_dec_has) h o) = by-attributes qs _ t j l e h o

-- Types are guessed over the names that are there: fn x => let datatype t = A in case x of A => () end has no typing.
abbrev guesses : Exp
guesses = fn at (one_rule (pv word_x) (let_in at (decs (datatype_dec at only_a ∷ [])) (case_of at (v word_x) (one_rule (pv word_A) unit no_rules))) no_rules)

-- where x has the type t
abbrev with_x : Typ → Context
with_x t = with_bound start ((vid word_x, t) ∷ [])

abbrev inside_x : Typ → List Bool → Map ℕ TypeStructure → Context
inside_x t qs ts = with_env (with_x t) 1 (plus (datatypes_env ts) no_env)

abbrev made_x : Typ → Bool → Context
made_x t q = inside_x t (q ∷ []) (unwrap_or (datatypes (with_x t) (q ∷ []) only_a) [])

abbrev case_x : Exp
case_x = case_of at (v word_x) (one_rule (pv word_A) unit no_rules)

no-case : (q : Bool) (t u : Typ) (k : Choices) → HasType no_variable (made_x t q) case_x u k → Over start.names t → ⊥
no-case q t u k (app_has p {t = a} (fn_has p1 (rule_has p2 (constructor_has p3 {v = w} {n = n} {ts = us} e m i) d b r)) (vid_has p4 {v = w'} {k = j} e' i')) o =
    let x : IsInstance no_variable (made_x t q) (monomorphic t) (con (symbol n) us) j =
    subst (λ w. IsInstance no_variable (made_x t q) w.scheme (con (symbol n) us) j) (sym (ap (λ o. unwrap_or o w') e')) i' in
    let y : IsInstance no_variable (made_x t q) (a_value q).scheme (con (symbol n) us) no_choice =
    subst (λ w. IsInstance no_variable (made_x t q) w.scheme (con (symbol n) us) no_choice) (sym (ap (λ o. unwrap_or o w) e)) i in
    let over : Over start.names (con (symbol (new_name q)) none) = subst (Over start.names) (sym (x.is ∙ put-none x.types t) ∙ y.is) o in
    let bad : Holds false = subst Holds (sym over.0) tt in absurd bad
no-case q t u k (app_has p (fn_has p1 (rule_has p2 (variable_has p3 m n i) d b r)) a) o = let bad : Holds false = subst Holds m tt in absurd bad

by-attributes_x : (qs : List Bool) (ts : Map ℕ TypeStructure) (t u : Typ) (k : Choices) → length qs ≡ 1 → datatypes (with_x t) qs only_a ≡ Some ts → HasType no_variable (inside_x t qs ts) case_x u k → Over start.names t → ⊥
by-attributes_x [] ts t u k l e h o = let bad : One 0 = subst One (sym l) tt in absurd bad
by-attributes_x (q ∷ q' ∷ qs) ts t u k l e h o = let bad : One (length (q ∷ q' ∷ qs)) = subst One (sym l) tt in absurd bad
by-attributes_x (q ∷ []) ts t u k l e h o = no-case q t u k (subst (λ ts. HasType no_variable (inside_x t (q ∷ []) ts) case_x u k) (sym (ap (λ o. unwrap_or o ts) e)) h) o

abbrev NoValue : Option Value → Type 0
NoValue None = Unit {0}
NoValue (Some w) = ⊥

no_later_name : (u : Typ) (k : Choices) → HasType no_variable start guesses u k → ⊥
no_later_name u k (fn_has p (rule_has q (variable_has q' {t = t} m m' o) d (let_has p' {t = b} {j = j} (dec_has (datatype_has q1 qs l e r x) no_dec_has) h o') s)) = by-attributes_x qs _ t b j l e h o
no_later_name u k (fn_has p (rule_has q (constructor_has q' {v = w} e m i) d b r)) = let bad : NoValue (Some w) = subst NoValue e tt in absurd bad

-- Variables by name, at depths of the frame.
use Rattle.std.proofs.Common.{◌≡◌, ℕ, suc, ◌+◌, List, [], ◌∷◌, ◌++◌, length, Option, Some, None, Bool, true, false, refl, sym, ap, subst, arith, append_assoc, append-nil, length-append}
use Rattle.std.specs.Prelude.{slice_get, nat_eq, if◌then◌else◌}
use Rattle.ir_ssa.specs.of_first_values.Values.{Value, Env, bind, look_up, look_all, bind_all, first_some}
use Rattle.machine_routines.specs.Layout.{Word, Is}
use Rattle.machine_routines.proofs.Seams.{get_left, get_here}
use Rattle.machine_code.specs.Agrees.{AreAll, none, more, Begins}
use Rattle.machine_code.specs.Code.{Scope, depth_in, depths_in, with_params}
use Rattle.machine_code.proofs.Kept.{is_kept}

-- each variable has its word at its depth
pub data Scoped (lay : List Word) (ws : List ℕ) : Scope → Env → Type 0 where
  no_vars : Scoped lay ws [] []
  a_var : (x d : ℕ) (v : Value) (word : ℕ) {scope : Scope} {env : Env} → slice_get ws d ≡ Some word → Is lay v word → Scoped lay ws scope env → Scoped lay ws ((x, d) ∷ scope) ((x, v) ∷ env)

pub scoped_kept : (lay lay' : List Word) (ws extra : List ℕ) {scope : Scope} {env : Env} → Begins lay lay' → Scoped lay ws scope env → Scoped lay' (ws ++ extra) scope env
scoped_kept lay lay' ws extra k no_vars = no_vars
scoped_kept lay lay' ws extra k (a_var x d v word e i h) = a_var x d v word (get_left ws extra d word e) (is_kept lay lay' v word k i) (scoped_kept lay lay' ws extra k h)

-- one more variable
pub bound : (lay : List Word) (ws : List ℕ) (d x y : ℕ) (v : Value) {scope : Scope} {env : Env} → length ws ≡ d → Is lay v y → Scoped lay ws scope env → Scoped lay (ws ++ y ∷ []) ((x, d) ∷ scope) (bind x v env)
bound lay ws d x y v e i h =
    a_var x d v y (subst (λ n. slice_get (ws ++ y ∷ []) n ≡ Some y) e (get_here ws [] y)) i (scoped_kept lay lay ws (y ∷ []) (record { rest = []; is = sym (append-nil lay) }) h)

-- a variable's value and its word
pub data Found (lay : List Word) (ws : List ℕ) (d : ℕ) : Option Value → Type 0 where
  lost : Found lay ws d None
  found : (v : Value) (word : ℕ) → slice_get ws d ≡ Some word → Is lay v word → Found lay ws d (Some v)

pub look : (lay : List Word) (ws : List ℕ) {scope : Scope} {env : Env} (x : ℕ) → Scoped lay ws scope env → Found lay ws (depth_in x scope) (look_up x env)
look lay ws x no_vars = lost
look lay ws x (a_var y d v word {scope = scope} {env = env} e i h) = by (nat_eq x y) (look lay ws x h)
  where
    by : (b : Bool) → Found lay ws (depth_in x scope) (look_up x env) → Found lay ws (if b then d else depth_in x scope) (if b then Some v else look_up x env)
    by true g = found v word e i
    by false g = g

-- words at depths, which stand for values
pub data Args (lay : List Word) (ws : List ℕ) : List ℕ → List Value → List ℕ → Type 0 where
  no_args : Args lay ws [] [] []
  an_arg : (d : ℕ) (v : Value) (y : ℕ) {ds : List ℕ} {vs : List Value} {ys : List ℕ} → slice_get ws d ≡ Some y → Is lay v y → Args lay ws ds vs ys → Args lay ws (d ∷ ds) (v ∷ vs) (y ∷ ys)

pub args_more : (lay : List Word) (ws extra : List ℕ) {ds : List ℕ} {vs : List Value} {ys : List ℕ} → Args lay ws ds vs ys → Args lay (ws ++ extra) ds vs ys
args_more lay ws extra no_args = no_args
args_more lay ws extra (an_arg d v y e i h) = an_arg d v y (get_left ws extra d y e) i (args_more lay ws extra h)

-- .. the words alone
abbrev pub Reads : List ℕ → List ℕ → List ℕ → Type 0
Reads ws [] [] = Unit {0}
Reads ws [] (y ∷ ys) = ⊥
Reads ws (x ∷ xs) [] = ⊥
Reads ws (x ∷ xs) (y ∷ ys) = (slice_get ws x ≡ Some y) × Reads ws xs ys

pub args_read : {lay : List Word} {ws ds : List ℕ} {vs : List Value} {ys : List ℕ} → Args lay ws ds vs ys → Reads ws ds ys
args_read no_args = tt
args_read (an_arg d v y e i h) = (e, args_read h)

pub reads_more : (ws extra xs ys : List ℕ) → Reads ws xs ys → Reads (ws ++ extra) xs ys
reads_more ws extra [] [] h = tt
reads_more ws extra [] (y ∷ ys) h = absurd h
reads_more ws extra (x ∷ xs) [] h = absurd h
reads_more ws extra (x ∷ xs) (y ∷ ys) h = (get_left ws extra x y h.0, reads_more ws extra xs ys h.1)

pub reads_length : (ws xs ys : List ℕ) → Reads ws xs ys → length ys ≡ length xs
reads_length ws [] [] h = refl
reads_length ws [] (y ∷ ys) h = absurd h
reads_length ws (x ∷ xs) [] h = absurd h
reads_length ws (x ∷ xs) (y ∷ ys) h = ap suc (reads_length ws xs ys h.1)

pub args_are : {lay : List Word} {ws ds : List ℕ} {vs : List Value} {ys : List ℕ} → Args lay ws ds vs ys → AreAll lay vs ys
args_are no_args = none
args_are (an_arg d v y e i h) = more v y i (args_are h)

pub args_length : {lay : List Word} {ws ds : List ℕ} {vs : List Value} {ys : List ℕ} → Args lay ws ds vs ys → length ys ≡ length ds
args_length no_args = refl
args_length (an_arg d v y e i h) = ap suc (args_length h)

pub depths_length : (xs : List ℕ) (scope : Scope) → length (depths_in xs scope) ≡ length xs
depths_length [] scope = refl
depths_length (x ∷ xs) scope = ap suc (depths_length xs scope)

pub data FoundAll (lay : List Word) (ws ds : List ℕ) : Option (List Value) → Type 0 where
  all_lost : FoundAll lay ws ds None
  all_found : (vs : List Value) (ys : List ℕ) → Args lay ws ds vs ys → FoundAll lay ws ds (Some vs)

pub look_every : (lay : List Word) (ws : List ℕ) {scope : Scope} {env : Env} (xs : List ℕ) → Scoped lay ws scope env → FoundAll lay ws (depths_in xs scope) (look_all xs env)
look_every lay ws [] h = all_found [] [] no_args
look_every lay ws {scope} {env} (x ∷ xs) h = both (depth_in x scope) (depths_in xs scope) (look_up x env) (look_all xs env) (look lay ws x h) (look_every lay ws xs h)
  where
    both : (d : ℕ) (ds : List ℕ) (o : Option Value) (p : Option (List Value)) → Found lay ws d o → FoundAll lay ws ds p → FoundAll lay ws (d ∷ ds) (first_some o p)
    both d ds o p lost q = all_lost
    both d ds o p (found v y e i) all_lost = all_lost
    both d ds o p (found v y e i) (all_found vs ys a) = all_found (v ∷ vs) (y ∷ ys) (an_arg d v y e i a)

-- parameters at the end of a frame
pub data Bound (lay : List Word) (ws : List ℕ) (scope : Scope) : ℕ → Option Env → Type 0 where
  unbound : (n : ℕ) → Bound lay ws scope n None
  all_bound : (n : ℕ) (env : Env) → length ws ≡ n → Scoped lay ws scope env → Bound lay ws scope n (Some env)

pub bind_params : (lay : List Word) (ws : List ℕ) (d : ℕ) (params : List ℕ) {vs : List Value} {ys : List ℕ} (scope : Scope) (env : Env) → length ws ≡ d → AreAll lay vs ys → Scoped lay ws scope env → Bound lay (ws ++ ys) (with_params params d scope) (d + length params) (bind_all params vs env)
bind_params lay ws d [] scope env e none h = all_bound (d + 0) env (omega (arith, length-append ws [])) (subst (λ z. Scoped lay z scope env) (sym (append-nil ws)) h)
bind_params lay ws d [] scope env e (more v y i a) h = unbound (d + 0)
bind_params lay ws d (x ∷ params) scope env e none h = unbound (d + suc (length params))
bind_params lay ws d (x ∷ params) scope env e (more v y {vs = vs} {xs = ys} i a) h =
    let n : suc d + length params ≡ d + suc (length params) = omega arith in
    subst (λ z. Bound lay (ws ++ y ∷ ys) (with_params params (suc d) ((x, d) ∷ scope)) z (bind_all params vs (bind x v env))) n
    (subst (λ z. Bound lay z (with_params params (suc d) ((x, d) ∷ scope)) (suc d + length params) (bind_all params vs (bind x v env))) (append_assoc ws (y ∷ []) ys)
    (bind_params lay (ws ++ y ∷ []) (suc d) params ((x, d) ∷ scope) (bind x v env) (omega (arith, length-append ws (y ∷ []))) a (bound lay ws d x y v e i h)))

-- Expressions, arms and functions, from their parts.
use Rattle.std.proofs.Common.{◌≡◌, ℕ, ◌+◌, ◌<◌, Bool, true, false, ◌&&◌, List, [], ◌∷◌, map, drop, length, slice_index_or, Option, Some, None, refl, sym, ap, ◌∙◌}
use Rattle.ir_plain.specs.Tree as clean
use Rattle.ir_mono.specs.Mono.{mono}
use Rattle.ir_known.specs.declared.known.Known.TheVariants.{OfType}
use Rattle.plain_tree.specs.declared.tree.Exp.{Exp}
use Rattle.plain_tree.specs.declared.tree.Step.{Step}
use Rattle.plain_tree.specs.declared.tree.Arm.{Arm}
use Rattle.plain_tree.specs.declared.tree.Function.{Function}
use Rattle.plain_tree.specs.declared.tree.Parameter.{Parameter}
use Rattle.plain_tree.specs.TreeOf.{ArmTree, FunctionTree, onto, firsts, arms_of, funs_of, fun_of, tree_of, step_of, arm_of, function_of, case_of}
use Rattle.mono_fits.specs.Asked.{given}
use Rattle.mono_fits.specs.Fits.{is_new, is_atom, case_onto, exp_fits, funs_fit}
use Rattle.mono_operations.specs.Reads.{reading, Names, local, all}
use Rattle.mono_operations.specs.declared.tables.Tables.{Tables}
use Rattle.mono_check.specs.Walk.{holding, opened, Brings, Enters, fits, all_fit, case_right, arm_right, arms_right, handler_right, fun_right, functions_right}
use Rattle.mono_check.proofs.Lists.{and-false, and-and, left-next, left-stops, left-all}
use Rattle.mono_check.proofs.Rolls.{arm-parts, function-is}
use Rattle.mono_check.proofs.Groups.{function-type}
use Rattle.mono_check.proofs.Steps.{opened-fits}

module _ (t : Tables) (m : Bool) (s : Names) (e : Exp) (u : ℕ) where
  abbrev Read : clean.Exp (mono t.types) → Type 0
  Read c = tree_of (reading t) e ≡ c

  read : (c : clean.Exp (mono t.types)) (y : Bool) → Read c → y ≡ fits t m s c u → y ≡ fits t m s (tree_of (reading t) e) u
  read c y i k = k ∙ ap (λ c. fits t m s c u) (sym i)

  pub steps-refused : (now : Names) (ss : List Step) (r : Exp) (b : Bool) → Read (onto (map (step_of (reading t)) ss) (tree_of (reading t) r)) → Brings t m u s now b (onto (map (step_of (reading t)) ss)) → b ≡ false
      → false ≡ fits t m s (tree_of (reading t) e) u
  steps-refused now ss r b i k f = read _ false i (sym (k.whole (tree_of (reading t) r) u (λ _. refl) ∙ ap (λ b. b && fits t m now (tree_of (reading t) r) u) f))

  pub steps-fit : (now : Names) (ss : List Step) (r : Exp) (b y : Bool) → Read (onto (map (step_of (reading t)) ss) (tree_of (reading t) r)) → Brings t m u s now b (onto (map (step_of (reading t)) ss)) → b ≡ true
      → y ≡ fits t m now (tree_of (reading t) r) u → y ≡ fits t m s (tree_of (reading t) e) u
  steps-fit now ss r b y i k f n = read _ y i (n ∙ sym (k.whole (tree_of (reading t) r) u (λ _. refl) ∙ ap (λ b. b && fits t m now (tree_of (reading t) r) u) f))

  pub ret-fits : (a : ℕ) (b : Bool) → Read (clean.ret a) → b ≡ is_atom (local s) a u → b ≡ fits t m s (tree_of (reading t) e) u
  ret-fits a b i k = read (clean.ret a) b i k

  pub miss-fits : Read clean.miss → m ≡ fits t m s (tree_of (reading t) e) u
  miss-fits i = read clean.miss m i refl

  module _ (a o : ℕ) (arms : clean.Arms (mono t.types)) (i : Read (clean.switch a o arms)) where
    pub switch-misses : m ≡ false → false ≡ fits t m s (tree_of (reading t) e) u
    switch-misses f = read (clean.switch a o arms) false i (sym (ap (λ m. m && (is_atom (local s) a o && arms_right t s arms o u)) f))

    pub switch-atom : (b : Bool) → b ≡ is_atom (local s) a o → b ≡ false → false ≡ fits t m s (tree_of (reading t) e) u
    switch-atom b k f = read (clean.switch a o arms) false i (sym (ap (λ q. m && (q && arms_right t s arms o u)) (sym k ∙ f) ∙ and-false m))

    pub switch-fits : (b y : Bool) → m ≡ true → b ≡ is_atom (local s) a o → b ≡ true → y ≡ arms_right t s arms o u → y ≡ fits t m s (tree_of (reading t) e) u
    switch-fits b y f k g r = read (clean.switch a o arms) y i (r ∙ sym (ap (λ m. m && (is_atom (local s) a o && arms_right t s arms o u)) f ∙ ap (λ q. q && arms_right t s arms o u) (sym k ∙ g)))

  firsts-are : (es : List (clean.Exp (mono t.types))) (d : clean.Exp (mono t.types)) → fits t m s (firsts es d) u ≡ (all_fit t s es u && fits t m s d u)
  firsts-are [] d = refl
  firsts-are (c ∷ es) d = ap (λ q. fits t true s c u && q) (firsts-are es d) ∙ and-and (fits t true s c u) (all_fit t s es u) (fits t m s d u)

  module _ (es : List Exp) (d : Exp) (i : Read (firsts (map (tree_of (reading t)) es) (tree_of (reading t) d))) (b : Bool) (k : b ≡ all_fit t s (map (tree_of (reading t)) es) u) where
    pub first-misfits : b ≡ false → false ≡ fits t m s (tree_of (reading t) e) u
    first-misfits f = read _ false i (sym (firsts-are (map (tree_of (reading t)) es) (tree_of (reading t) d) ∙ ap (λ q. q && fits t m s (tree_of (reading t) d) u) (sym k ∙ f)))

    pub first-fits : (now : Names) (y : Bool) → b ≡ true → now ≡ s → y ≡ fits t m now (tree_of (reading t) d) u → y ≡ fits t m s (tree_of (reading t) e) u
    first-fits now y f j r = read _ y i (r ∙ ap (λ s. fits t m s (tree_of (reading t) d) u) j
        ∙ sym (firsts-are (map (tree_of (reading t)) es) (tree_of (reading t) d) ∙ ap (λ q. q && fits t m s (tree_of (reading t) d) u) (sym k ∙ f)))

-- arms

module _ (t : Tables) (s : Names) (u v : ℕ) (a : Arm) where
  arm-is : arm_right t s (arm_of (reading t) a) u v ≡ (case_right t s (case_of (reading t) a.case) u
      && exp_fits t.types t.exn true (case_onto t.types t.exn (case_of (reading t) a.case) (all s)) (case_onto t.types t.exn (case_of (reading t) a.case) (local s)) (tree_of (reading t) a.body) v)
  arm-is = ap (λ (r : ArmTree (mono t.types)). arm_right t s r u v) (arm-parts (reading t) a)

  pub arm-misfits : (o : Bool) → o ≡ case_right t s (case_of (reading t) a.case) u → o ≡ false → false ≡ arm_right t s (arm_of (reading t) a) u v
  arm-misfits o k f = sym (arm-is
      ∙ ap (λ q. q && exp_fits t.types t.exn true (case_onto t.types t.exn (case_of (reading t) a.case) (all s)) (case_onto t.types t.exn (case_of (reading t) a.case) (local s)) (tree_of (reading t) a.body) v) (sym k ∙ f))

  pub arm-fits : (now : Names) (o y : Bool) → o ≡ case_right t s (case_of (reading t) a.case) u → o ≡ true → now ≡ opened a.case s → y ≡ fits t true now (tree_of (reading t) a.body) v → y ≡ arm_right t s (arm_of (reading t) a) u v
  arm-fits now o y k f i r = r ∙ opened-fits t a.case s now (tree_of (reading t) a.body) v i ∙ sym (arm-is
      ∙ ap (λ q. q && exp_fits t.types t.exn true (case_onto t.types t.exn (case_of (reading t) a.case) (all s)) (case_onto t.types t.exn (case_of (reading t) a.case) (local s)) (tree_of (reading t) a.body) v) (sym k ∙ f))

-- handlers

module _ (t : Tables) (s : Names) (x u : ℕ) (h : Exp) where
  pub handler-known : (n : Bool) → n ≡ is_new (all s) x → n ≡ false → false ≡ handler_right t s x (tree_of (reading t) h) u
  handler-known n k f = sym (ap (λ q. q && fits t false (holding s x (OfType t.exn)) (tree_of (reading t) h) u) (sym k ∙ f))

  pub handler-fits : (now : Names) (n y : Bool) → n ≡ is_new (all s) x → n ≡ true → now ≡ holding s x (OfType t.exn) → y ≡ fits t false now (tree_of (reading t) h) u → y ≡ handler_right t s x (tree_of (reading t) h) u
  handler-fits now n y k f i r = r ∙ ap (λ s. fits t false s (tree_of (reading t) h) u) i ∙ sym (ap (λ q. q && fits t false (holding s x (OfType t.exn)) (tree_of (reading t) h) u) (sym k ∙ f))

-- functions

module _ (t : Tables) (s now : Names) (xs : List Parameter) (x : Parameter) (u : ℕ) (e : Exp) (found : Option ℕ) (k : Enters t s now xs x u found) where
  pub fun-unentered : found ≡ None → false ≡ fun_right t s (fun_of (reading t) xs x (tree_of (reading t) e)) u
  fun-unentered f = sym (k.whole (tree_of (reading t) e) ∙ ap (λ o. given o (fits t false now (tree_of (reading t) e))) f)

  pub fun-fits : (r : ℕ) (y : Bool) → found ≡ Some r → y ≡ fits t false now (tree_of (reading t) e) r → y ≡ fun_right t s (fun_of (reading t) xs x (tree_of (reading t) e)) u
  fun-fits r y f i = i ∙ sym (k.whole (tree_of (reading t) e) ∙ ap (λ o. given o (fits t false now (tree_of (reading t) e))) f)

pub function-fits : (t : Tables) (s : Names) (f : Function) (ls : List Parameter) (y : Bool) → ls ≡ f.parameters.items → y ≡ fun_right t s (fun_of (reading t) ls f.last (tree_of (reading t) f.body)) f.ty
    → y ≡ fun_right t s (function_of (reading t) f).function (function_of (reading t) f).type
function-fits t s f ls y i r = r ∙ ap (λ g. fun_right t s g f.ty) (sym (function-is (reading t) f ls i)) ∙ ap (fun_right t s (function_of (reading t) f).function) (sym (function-type t f))

-- lists that are gone along; now is what is in scope by then

module _ (t : Tables) (s : Names) (u : ℕ) (xs : List Exp) (n : ℕ) where
  abbrev pub AttemptsLeft : Type 0
  AttemptsLeft = all_fit t s (map (tree_of (reading t)) xs) u ≡ all_fit t s (drop n (map (tree_of (reading t)) xs)) u

  module _ (w : AttemptsLeft) where
    pub attempts-next : (x : Exp) (y : Bool) (now : Names) → n < length xs → x ≡ slice_index_or xs n x → now ≡ s → y ≡ fits t true now (tree_of (reading t) x) u → y ≡ true
        → all_fit t s (map (tree_of (reading t)) xs) u ≡ all_fit t s (drop (n + 1) (map (tree_of (reading t)) xs)) u
    attempts-next x y now lt e i k f = left-next (tree_of (reading t)) (λ e. fits t true s e u) (λ es. all_fit t s es u) refl (λ e es. refl) xs n x y lt e (k ∙ ap (λ s. fits t true s (tree_of (reading t) x) u) i) f w

    pub attempts-stop : (x : Exp) (y : Bool) (now : Names) → n < length xs → x ≡ slice_index_or xs n x → now ≡ s → y ≡ fits t true now (tree_of (reading t) x) u → y ≡ false → false ≡ all_fit t s (map (tree_of (reading t)) xs) u
    attempts-stop x y now lt e i k f = left-stops (tree_of (reading t)) (λ e. fits t true s e u) (λ es. all_fit t s es u) refl (λ e es. refl) xs n x y lt e (k ∙ ap (λ s. fits t true s (tree_of (reading t) x) u) i) f w

    pub attempts-all : n ≡ length xs → true ≡ all_fit t s (map (tree_of (reading t)) xs) u
    attempts-all i = left-all (tree_of (reading t)) (λ e. fits t true s e u) (λ es. all_fit t s es u) refl (λ e es. refl) xs n i w

module _ (t : Tables) (s : Names) (u v : ℕ) (xs : List Arm) (n : ℕ) where
  abbrev pub ArmsLeft : Type 0
  ArmsLeft = arms_right t s (arms_of (map (arm_of (reading t)) xs)) u v ≡ arms_right t s (arms_of (drop n (map (arm_of (reading t)) xs))) u v

  one-arm : (a : ArmTree (mono t.types)) (as_ : List (ArmTree (mono t.types))) → arms_right t s (arms_of (a ∷ as_)) u v ≡ (arm_right t s a u v && arms_right t s (arms_of as_) u v)
  one-arm a as_ = and-and (case_right t s a.case u) (exp_fits t.types t.exn true (case_onto t.types t.exn a.case (all s)) (case_onto t.types t.exn a.case (local s)) a.body v) (arms_right t s (arms_of as_) u v)

  module _ (w : ArmsLeft) where
    pub arms-next : (x : Arm) (y : Bool) (now : Names) → n < length xs → x ≡ slice_index_or xs n x → now ≡ s → y ≡ arm_right t now (arm_of (reading t) x) u v → y ≡ true
        → arms_right t s (arms_of (map (arm_of (reading t)) xs)) u v ≡ arms_right t s (arms_of (drop (n + 1) (map (arm_of (reading t)) xs))) u v
    arms-next x y now lt e i k f = left-next (arm_of (reading t)) (λ a. arm_right t s a u v) (λ as_. arms_right t s (arms_of as_) u v) refl one-arm xs n x y lt e (k ∙ ap (λ s. arm_right t s (arm_of (reading t) x) u v) i) f w

    pub arms-stop : (x : Arm) (y : Bool) (now : Names) → n < length xs → x ≡ slice_index_or xs n x → now ≡ s → y ≡ arm_right t now (arm_of (reading t) x) u v → y ≡ false → false ≡ arms_right t s (arms_of (map (arm_of (reading t)) xs)) u v
    arms-stop x y now lt e i k f = left-stops (arm_of (reading t)) (λ a. arm_right t s a u v) (λ as_. arms_right t s (arms_of as_) u v) refl one-arm xs n x y lt e (k ∙ ap (λ s. arm_right t s (arm_of (reading t) x) u v) i) f w

    pub arms-all : n ≡ length xs → true ≡ arms_right t s (arms_of (map (arm_of (reading t)) xs)) u v
    arms-all i = left-all (arm_of (reading t)) (λ a. arm_right t s a u v) (λ as_. arms_right t s (arms_of as_) u v) refl one-arm xs n i w

module _ (t : Tables) (s : Names) (xs : List Function) (n : ℕ) where
  abbrev one_right : FunctionTree (mono t.types) → Bool
  one_right f = fun_right t s f.function f.type

  abbrev all_right : List (FunctionTree (mono t.types)) → Bool
  all_right fs = funs_fit t.types t.exn (all s) (funs_of fs)

  abbrev pub FunctionsLeft : Type 0
  FunctionsLeft = functions_right t s xs ≡ funs_fit t.types t.exn (all s) (funs_of (drop n (map (function_of (reading t)) xs)))

  module _ (w : FunctionsLeft) where
    pub functions-next : (x : Function) (y : Bool) (now : Names) → n < length xs → x ≡ slice_index_or xs n x → now ≡ s → y ≡ fun_right t now (function_of (reading t) x).function (function_of (reading t) x).type → y ≡ true
        → functions_right t s xs ≡ funs_fit t.types t.exn (all s) (funs_of (drop (n + 1) (map (function_of (reading t)) xs)))
    functions-next x y now lt e i k f = left-next (function_of (reading t)) one_right all_right refl (λ f fs. refl) xs n x y lt e (k ∙ ap (λ s. fun_right t s (function_of (reading t) x).function (function_of (reading t) x).type) i) f w

    pub functions-stop : (x : Function) (y : Bool) (now : Names) → n < length xs → x ≡ slice_index_or xs n x → now ≡ s → y ≡ fun_right t now (function_of (reading t) x).function (function_of (reading t) x).type → y ≡ false
        → false ≡ functions_right t s xs
    functions-stop x y now lt e i k f = left-stops (function_of (reading t)) one_right all_right refl (λ f fs. refl) xs n x y lt e (k ∙ ap (λ s. fun_right t s (function_of (reading t) x).function (function_of (reading t) x).type) i) f w

    pub functions-all : n ≡ length xs → true ≡ functions_right t s xs
    functions-all i = left-all (function_of (reading t)) one_right all_right refl (λ f fs. refl) xs n i w

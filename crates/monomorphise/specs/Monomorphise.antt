-- The pass as a function: of each generalised binding a copy at unit, which takes the turns, and one at each further list of closed types that what follows
-- needs. A copy is named by its variable and these types.
use Rattle.std.specs.Prelude.{◌≡◌, ℕ, Bool, true, false, ◌&&◌, ◌||◌, not, List, [], ◌∷◌, ◌++◌, map, Option, Some, None, nat_eq, if◌then◌else◌, ⊤}
use Rattle.std.specs.Map.{lookup}
use Rattle.mlc_names.specs.declared.label.Label.{Label}
use Rattle.ty_core.specs.Types.{Symbol, arrow, labels, name, Typ, var, con, Typs, none, more}
use Rattle.ty_core.specs.Marks.{is_inhabited, overloaded}
use Rattle.ty_core.specs.Statics.{replace}
use Rattle.ty_core.specs.declared.mark.Class.{Class}
use Rattle.ty_core.specs.declared.mark.Mark.{Mark}
use Rattle.ty_core.specs.declared.mark.Mark.TheVariants.{Any, Equality, Class as OfClass}
use Rattle.ty_core.specs.declared.name.TyName.{TyName}
use Rattle.ty_core.specs.declared.name.Equality as attribute
use Rattle.ty_core.specs.declared.name.Equality.TheVariants.{Always, ByArguments, Never}
use Rattle.ty_core.specs.declared.scheme.Quantified.{Quantified}
use Rattle.ir_mono.specs.of_ir_values.Tags.{untagged}
use Rattle.ir_mono.specs.of_ir_values.Values.{same_label}
use Rattle.ir_mono.specs.of_ir_plain.Copies.{strip_op}
use Rattle.ir_mono.specs.of_ir_plain.Kind.{Kind}
use Rattle.ir_mono.specs.of_ir_plain.Tree.{Case, is_literal, is_con, is_con_of, is_exn, is_exn_of, is_record, Exception, fixed, held, Atoms, no_atoms, an_atom, Row, no_row, a_row, Exp, ret, let_in, exception_in, name_in, rec_in, switch, first, miss, counted, Arms, no_arms, arm, Op, use_of, const, con_alone, construct, ref_alone, refer, content, pack, make_record, select, prim_alone, prim, app, fn, block, handle, raise, raise_initial, Fun, last, more as more_of, Funs, no_funs, fun}
use Rattle.ir_mono.specs.of_ir_poly.Tests.{Use, inst, poly}
use Rattle.ir_mono.specs.of_ir_poly.Types.{of_name, unit_type, changed, Constructor}
use Rattle.ir_mono.specs.of_ir_poly.TestsChecked.{HasConstructor}
use Rattle.monomorphise.specs.Copies.{Target, kind_of}

-- Whether two types are one.

abbrev pub same_attribute : attribute.Equality → attribute.Equality → Bool
same_attribute Always Always = true
same_attribute ByArguments ByArguments = true
same_attribute Never Never = true
same_attribute _ _ = false

abbrev pub same_name : TyName → TyName → Bool
same_name y z = nat_eq y.stamp z.stamp && (nat_eq y.arity z.arity && same_attribute y.equality z.equality)

abbrev pub same_labels : List Label → List Label → Bool
same_labels [] [] = true
same_labels (l ∷ ls) (k ∷ ks) = same_label l k && same_labels ls ks
same_labels _ _ = false

abbrev pub same_symbol : Symbol → Symbol → Bool
same_symbol arrow arrow = true
same_symbol (labels ls) (labels ks) = same_labels ls ks
same_symbol (name y) (name z) = same_name y z
same_symbol _ _ = false

abbrev mutual
  pub same_type : Typ → Typ → Bool
  same_type (var v) (var u) = nat_eq v u
  same_type (con h ts) (con k us) = same_symbol h k && same_parts ts us
  same_type _ _ = false

  pub same_parts : Typs → Typs → Bool
  same_parts none none = true
  same_parts (more t ts) (more u us) = same_type t u && same_parts ts us
  same_parts _ _ = false

abbrev pub same_types : List Typ → List Typ → Bool
same_types [] [] = true
same_types (t ∷ ts) (u ∷ us) = same_type t u && same_types ts us
same_types _ _ = false

-- a variable at closed types
pub data Name : Type 0 where
  copy_of : ℕ → List Typ → Name

abbrev pub is_same : Name → Name → Bool
is_same (copy_of x a) (copy_of y b) = if nat_eq x y then same_types a b else false

-- copies with names, and with types as they are, whose constructors are those of the program
abbrev pub named : List Constructor → Target
named constructors = record {
  Name = Name;
  same = is_same;
  Type_of = Typ;
  tags = untagged;
  tag_of = λ t. tt;
  Is = λ n t. n ≡ t;
  Has = λ t c. (a : Option Typ) × HasConstructor constructors c t a;
}

abbrev pub Named : Kind
Named = kind_of (named [])

-- The first copy: each parameter at unit, or at the first type of its class.

abbrev pub of_class : Class → Typ
of_class c =
    if c.int then of_name (overloaded 0) else (if c.word then of_name (overloaded 1) else (if c.char then of_name (overloaded 2) else of_name (overloaded 3)))

abbrev pub unit_for : Mark → Typ
unit_for Any = unit_type
unit_for Equality = unit_type
unit_for (OfClass c) = of_class c

abbrev pub units : List Quantified → List Typ
units [] = []
units (q ∷ qs) = unit_for q.mark ∷ units qs

-- outside all parameters; no type there has a variable
abbrev pub nowhere : ℕ → Typ
nowhere v = unit_type

abbrev pub is_among : ℕ → List ℕ → Bool
is_among x [] = false
is_among x (y ∷ vs) = if nat_eq x y then true else is_among x vs

abbrev pub is_in : List Typ → List (List Typ) → Bool
is_in a [] = false
is_in a (b ∷ bs) = if same_types a b then true else is_in a bs

-- the types other than u, each once, at which the names have the variables
abbrev pub others : List ℕ → List Typ → List Name → List (List Typ)
others vs u [] = []
others vs u (copy_of x a ∷ w) = if is_among x vs && not (same_types u a || is_in a (others vs u w)) then a ∷ others vs u w else others vs u w

-- the names without the variables
abbrev pub without : List ℕ → List Name → List Name
without vs [] = []
without vs (copy_of x a ∷ w) = if is_among x vs then without vs w else copy_of x a ∷ without vs w

-- the functions of groups around, with the types that their copy is at
abbrev pub Groups : Type 0
Groups = List (ℕ × List Typ)

abbrev pub fun_vars : Funs poly → List ℕ
fun_vars no_funs = []
fun_vars (fun x t f fs) = x ∷ fun_vars fs

abbrev pub group_at : Funs poly → List Typ → Groups → Groups
group_at no_funs a g = g
group_at (fun x t f fs) a g = (x, a) ∷ group_at fs a g

abbrev pub own_or : Option (List Typ) → List Typ → List Typ
own_or None a = a
own_or (Some b) a = b

-- the copy that is used: inside a group that of the group, else the one at these types
abbrev pub used : Groups → (ℕ → Typ) → Use → Name
used g s (inst x ts) = copy_of x (own_or (lookup (nat_eq x) g) (map (replace s) ts))

-- that of an atom, which is not generalised
abbrev pub atom : Use → Name
atom (inst x ts) = copy_of x []

abbrev pub alone : ℕ → Name
alone x = copy_of x []

-- What a copy needs from outside.

abbrev pub all_needs : (List Typ → List Name) → List (List Typ) → List Name
all_needs f [] = []
all_needs f (a ∷ ts) = f a ++ all_needs f ts

abbrev pub atoms_needs : Atoms poly → List Name
atoms_needs no_atoms = []
atoms_needs (an_atom u as_) = atom u ∷ atoms_needs as_

abbrev pub row_needs : Row poly → List Name
row_needs no_row = []
row_needs (a_row l u row) = atom u ∷ row_needs row

abbrev pub name_needs : Exception poly → List Name
name_needs (fixed n) = []
name_needs (held u) = atom u ∷ []

abbrev pub case_vars : Case poly → List ℕ
case_vars (is_literal l) = []
case_vars (is_con c) = []
case_vars (is_con_of c x t) = x ∷ []
case_vars (is_exn u) = []
case_vars (is_exn_of u x t) = x ∷ []
case_vars (is_record size) = []

abbrev pub case_needs : Case poly → List Name
case_needs (is_literal l) = []
case_needs (is_con c) = []
case_needs (is_con_of c x t) = []
case_needs (is_exn u) = atom u ∷ []
case_needs (is_exn_of u x t) = atom u ∷ []
case_needs (is_record size) = []

-- of the copies of a binding, and what follows it
abbrev pub let_needs : List Typ → List ℕ → (List Typ → List Name) → List Name → List Name
let_needs u vs f w = all_needs f (u ∷ others vs u w) ++ without vs w

abbrev pub group_needs : List Typ → List ℕ → (List Typ → List Name) → List Name → List Name
group_needs u vs f w = without vs (all_needs f (u ∷ others vs u w)) ++ without vs w

abbrev mutual
  pub needs : Groups → (ℕ → Typ) → Exp poly → List Name
  needs g s (ret u) = atom u ∷ []
  needs g s (let_in x ps t o e) = let_needs (units ps) (x ∷ []) (λ a. op_needs g (changed ps a s) o) (needs g s e)
  needs g s (exception_in x i t e) = without (x ∷ []) (needs g s e)
  needs g s (name_in x y e) = name_needs y ++ without (x ∷ []) (needs g s e)
  needs g s (rec_in ps fs e) = group_needs (units ps) (fun_vars fs) (λ a. funs_needs (group_at fs a g) (changed ps a s) fs) (needs g s e)
  needs g s (switch u t arms) = atom u ∷ arms_needs g s arms
  needs g s (first e d) = needs g s e ++ needs g s d
  needs g s miss = []
  needs g s (counted n e) = needs g s e

  pub arms_needs : Groups → (ℕ → Typ) → Arms poly → List Name
  arms_needs g s no_arms = []
  arms_needs g s (arm c e arms) = case_needs c ++ (without (case_vars c) (needs g s e) ++ arms_needs g s arms)

  pub op_needs : Groups → (ℕ → Typ) → Op poly → List Name
  op_needs g s (use_of u) = used g s u ∷ []
  op_needs g s (const l) = []
  op_needs g s (con_alone c t) = []
  op_needs g s (construct m c t u) = atom u ∷ []
  op_needs g s (ref_alone t) = []
  op_needs g s (refer m t u) = atom u ∷ []
  op_needs g s (content t u) = atom u ∷ []
  op_needs g s (pack m t y u) = atom y ∷ atom u ∷ []
  op_needs g s (make_record t row) = row_needs row
  op_needs g s (select t l u) = atom u ∷ []
  op_needs g s (prim_alone p t) = []
  op_needs g s (prim m p t as_) = atoms_needs as_
  op_needs g s (app place f u) = atom f ∷ atom u ∷ []
  op_needs g s (fn f) = fun_needs g s f
  op_needs g s (block e) = needs g s e
  op_needs g s (handle e x d) = needs g s e ++ without (x ∷ []) (needs g s d)
  op_needs g s (raise u) = atom u ∷ []
  op_needs g s (raise_initial i) = []

  pub fun_needs : Groups → (ℕ → Typ) → Fun poly → List Name
  fun_needs g s (last x t e) = without (x ∷ []) (needs g s e)
  fun_needs g s (more_of x t f) = without (x ∷ []) (fun_needs g s f)

  pub funs_needs : Groups → (ℕ → Typ) → Funs poly → List Name
  funs_needs g s no_funs = []
  funs_needs g s (fun x t f fs) = fun_needs g s f ++ funs_needs g s fs

-- Copies.

abbrev pub copy_atoms : Atoms poly → Atoms Named
copy_atoms no_atoms = no_atoms
copy_atoms (an_atom u as_) = an_atom (atom u) (copy_atoms as_)

abbrev pub copy_row : Row poly → Row Named
copy_row no_row = no_row
copy_row (a_row l u row) = a_row l (atom u) (copy_row row)

abbrev pub copy_name : Exception poly → Exception Named
copy_name (fixed n) = fixed n
copy_name (held u) = held (atom u)

abbrev pub copy_case : (ℕ → Typ) → Case poly → Case Named
copy_case s (is_literal l) = is_literal l
copy_case s (is_con c) = is_con c
copy_case s (is_con_of c x t) = is_con_of c (alone x) (replace s t)
copy_case s (is_exn u) = is_exn (atom u)
copy_case s (is_exn_of u x t) = is_exn_of (atom u) (alone x) (replace s t)
copy_case s (is_record size) = is_record size

abbrev pub copy_argument : (ℕ → Typ) → Option Typ → Option Typ
copy_argument s None = None
copy_argument s (Some t) = Some (replace s t)

-- a copy without turns at each of the types, before what follows
abbrev pub more_lets : (List Typ → ℕ → Typ) → ℕ → Typ → (List Typ → Op Named) → List (List Typ) → Exp Named → Exp Named
more_lets at x t f [] e = e
more_lets at x t f (a ∷ ts) e = let_in (copy_of x a) tt (replace (at a) t) (strip_op (f a)) (more_lets at x t f ts e)

abbrev pub more_groups : (List Typ → Funs Named) → List (List Typ) → Exp Named → Exp Named
more_groups f [] e = e
more_groups f (a ∷ ts) e = rec_in tt (f a) (more_groups f ts e)

abbrev pub all_lets : List Typ → (List Typ → ℕ → Typ) → ℕ → Typ → (List Typ → Op Named) → List Name → Exp Named → Exp Named
all_lets u at x t f w e = let_in (copy_of x u) tt (replace (at u) t) (f u) (more_lets at x t f (others (x ∷ []) u w) e)

abbrev pub all_groups : List Typ → List ℕ → (List Typ → Funs Named) → List Name → Exp Named → Exp Named
all_groups u vs f w e = rec_in tt (f u) (more_groups f (others vs u w) e)

abbrev mutual
  pub copy : Groups → (ℕ → Typ) → Exp poly → Exp Named
  copy g s (ret u) = ret (atom u)
  copy g s (let_in x ps t o e) = all_lets (units ps) (λ a. changed ps a s) x t (λ a. op_copy g (changed ps a s) o) (needs g s e) (copy g s e)
  copy g s (exception_in x i t e) = exception_in (alone x) i (copy_argument s t) (copy g s e)
  copy g s (name_in x y e) = name_in (alone x) (copy_name y) (copy g s e)
  copy g s (rec_in ps fs e) = all_groups (units ps) (fun_vars fs) (λ a. funs_copy a (group_at fs a g) (changed ps a s) fs) (needs g s e) (copy g s e)
  copy g s (switch u t arms) = switch (atom u) (replace s t) (arms_copy g s arms)
  copy g s (first e d) = first (copy g s e) (copy g s d)
  copy g s miss = miss
  copy g s (counted n e) = counted n (copy g s e)

  pub arms_copy : Groups → (ℕ → Typ) → Arms poly → Arms Named
  arms_copy g s no_arms = no_arms
  arms_copy g s (arm c e arms) = arm (copy_case s c) (copy g s e) (arms_copy g s arms)

  pub op_copy : Groups → (ℕ → Typ) → Op poly → Op Named
  op_copy g s (use_of u) = use_of (used g s u)
  op_copy g s (const l) = const l
  op_copy g s (con_alone c t) = con_alone c (replace s t)
  op_copy g s (construct m c t u) = construct m c (replace s t) (atom u)
  op_copy g s (ref_alone t) = ref_alone (replace s t)
  op_copy g s (refer m t u) = refer m (replace s t) (atom u)
  op_copy g s (content t u) = content (replace s t) (atom u)
  op_copy g s (pack m t y u) = pack m (replace s t) (atom y) (atom u)
  op_copy g s (make_record t row) = make_record (replace s t) (copy_row row)
  op_copy g s (select t l u) = select (replace s t) l (atom u)
  op_copy g s (prim_alone p t) = prim_alone p (replace s t)
  op_copy g s (prim m p t as_) = prim m p (replace s t) (copy_atoms as_)
  op_copy g s (app place f u) = app place (atom f) (atom u)
  op_copy g s (fn f) = fn (fun_copy g s f)
  op_copy g s (block e) = block (copy g s e)
  op_copy g s (handle e x d) = handle (copy g s e) (alone x) (copy g s d)
  op_copy g s (raise u) = raise (atom u)
  op_copy g s (raise_initial i) = raise_initial i

  pub fun_copy : Groups → (ℕ → Typ) → Fun poly → Fun Named
  fun_copy g s (last x t e) = last (alone x) (replace s t) (copy g s e)
  fun_copy g s (more_of x t f) = more_of (alone x) (replace s t) (fun_copy g s f)

  pub funs_copy : List Typ → Groups → (ℕ → Typ) → Funs poly → Funs Named
  funs_copy a g s no_funs = no_funs
  funs_copy a g s (fun x t f fs) = fun (copy_of x a) (replace s t) (fun_copy g s f) (funs_copy a g s fs)

-- the whole program
abbrev pub copies : Exp poly → Exp Named
copies e = copy [] nowhere e

-- Each parameter may stand for some type.

abbrev pub AllInhabited : List Quantified → Type 0
AllInhabited [] = ⊤
AllInhabited (q ∷ qs) = (is_inhabited q.mark ≡ true) × AllInhabited qs

abbrev mutual
  pub Inhabited : Exp poly → Type 0
  Inhabited (ret u) = ⊤
  Inhabited (let_in x ps t o e) = AllInhabited ps × OpInhabited o × Inhabited e
  Inhabited (exception_in x i t e) = Inhabited e
  Inhabited (name_in x y e) = Inhabited e
  Inhabited (rec_in ps fs e) = AllInhabited ps × FunsInhabited fs × Inhabited e
  Inhabited (switch u t arms) = ArmsInhabited arms
  Inhabited (first e d) = Inhabited e × Inhabited d
  Inhabited miss = ⊤
  Inhabited (counted n e) = Inhabited e

  pub ArmsInhabited : Arms poly → Type 0
  ArmsInhabited no_arms = ⊤
  ArmsInhabited (arm c e arms) = Inhabited e × ArmsInhabited arms

  pub OpInhabited : Op poly → Type 0
  OpInhabited (fn f) = FunInhabited f
  OpInhabited (block e) = Inhabited e
  OpInhabited (handle e x d) = Inhabited e × Inhabited d
  OpInhabited _ = ⊤

  pub FunInhabited : Fun poly → Type 0
  FunInhabited (last x t e) = Inhabited e
  FunInhabited (more_of x t f) = FunInhabited f

  pub FunsInhabited : Funs poly → Type 0
  FunsInhabited no_funs = ⊤
  FunsInhabited (fun x t f fs) = FunInhabited f × FunsInhabited fs

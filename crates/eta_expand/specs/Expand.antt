-- What is a function by itself (a constructor or an exception that takes an argument, `ref`, a primitive) becomes a `fn` where it stands as a value. New
-- variables have the numbers from n on.
use Rattle.std.specs.Prelude.{◌≡◌, ℕ, suc, ◌+◌, ◌≤◌, Bool, true, false, List, [], ◌∷◌, length, Option, Some, None, nat_eq}
use Rattle.std.specs.Map.{lookup}
use Rattle.mlc_names.specs.declared.label.Label.TheVariants.{Number}
use Rattle.mlc_prims.specs.declared.basis.BasisPrimitive.{BasisPrimitive}
use Rattle.ty_core.specs.Types.{arrow, labels, Typ}
use Rattle.ir_plain.specs.Once.{hit, times}
use Rattle.ir_plain.specs.Tree.{Case, is_literal, is_con, is_con_of, is_exn, is_exn_of, is_record, Exception, fixed, held, Atoms, no_atoms, an_atom, Exp, ret, let_in, exception_in, name_in, rec_in, switch, first, miss, counted, Arms, no_arms, arm, Op, use_of, const, con_alone, construct, ref_alone, refer, content, pack, make_record, select, prim_alone, prim, app, fn, block, handle, raise, raise_initial, Fun, last, more, Funs, no_funs, fun}
use Rattle.ir_poly.specs.Types.{prim_type}
use Rattle.ir_mono.specs.Types as table
use Rattle.ir_mono.specs.Types.{Node, node, node_at, constructor_at}
use Rattle.ir_mono.specs.Mono.{mono, Program}

-- the variables in scope, the innermost first: whether each is the name of an exception that takes an argument
abbrev pub Names : Type 0
Names = List (ℕ × Bool)

abbrev pub or_not : Option Bool → Bool
or_not None = false
or_not (Some b) = b

abbrev pub takes_argument : Names → ℕ → Bool
takes_argument E x = or_not (lookup (nat_eq x) E)

abbrev pub is_given : Option ℕ → Bool
is_given None = false
is_given (Some t) = true

-- what a function takes and gives
abbrev pub takes_at : Option Node → ℕ
takes_at (Some (node arrow (a ∷ b ∷ []))) = a
takes_at o = 0

abbrev pub gives_at : Option Node → ℕ
gives_at (Some (node arrow (a ∷ b ∷ []))) = b
gives_at o = 0

abbrev pub parts_at : Option Node → List ℕ
parts_at (Some (node (labels ls) ps)) = ps
parts_at o = []

abbrev pub is_single : List Typ → Bool
is_single [] = false
is_single (t ∷ []) = true
is_single (t ∷ u ∷ ts) = false

-- the number after as many as these
abbrev pub past : ℕ → List ℕ → ℕ
past m [] = m
past m (q ∷ ps) = past (suc m) ps

module _ (types : List table.Row) where
  abbrev pub E : Type 0
  E = Exp (mono types)

  abbrev pub let1 : ℕ → ℕ → Op (mono types) → E → E
  let1 x t o e = let_in x tt t o e

  -- the result of an operation
  abbrev pub gives_it : ℕ → ℕ → Op (mono types) → E
  gives_it x t o = let1 x t o (ret x)

  -- a construction of a datatype, a reference, a packet of the exception z
  abbrev pub constructing : (n c u a : ℕ) → Fun (mono types)
  constructing n c u a = last n a (gives_it (suc n) u (construct None c u n))

  abbrev pub referring : (n a r : ℕ) → Fun (mono types)
  referring n a r = last n a (gives_it (suc n) r (refer None a n))

  abbrev pub packing : (n a e z : ℕ) → Fun (mono types)
  packing n a e z = last n a (name_in (suc n) (held z) (gives_it (suc (suc n)) e (pack None a (suc n) n)))

  -- the parts of a tuple y of type a, with the labels from k on, in variables from m on
  abbrev pub selecting : (a y k m : ℕ) → List ℕ → E → E
  selecting a y k m [] e = e
  selecting a y k m (q ∷ ps) e = let1 m q (select a (Number k) y) (selecting a y (suc k) (suc m) ps e)

  abbrev pub atoms_from : ℕ → List ℕ → Atoms (mono types)
  atoms_from m [] = no_atoms
  atoms_from m (q ∷ ps) = an_atom m (atoms_from (suc m) ps)

  -- a primitive of one argument, or of a tuple's parts
  abbrev pub performing : (single : Bool) → (n : ℕ) → BasisPrimitive → (u a r : ℕ) → List ℕ → Fun (mono types)
  performing true n p u a r ps = last n a (gives_it (suc n) r (prim None p u (an_atom n no_atoms)))
  performing false n p u a r ps = last n a (selecting a n 1 (suc n) ps (gives_it (past (suc n) ps) r (prim None p u (atoms_from (suc n) ps))))

  -- an exception that takes an argument, at the type t of functions to packets: its name is brought in first
  abbrev pub used_as : (takes : Bool) → (n t x : ℕ) → Op (mono types)
  used_as true n t x = block (name_in n (held x) (gives_it (suc n) t (fn (packing (suc (suc n)) (takes_at (node_at types t)) (gives_at (node_at types t)) n))))
  used_as false n t x = use_of x

  abbrev pub alone_as : Option (Option ℕ) → (n c u : ℕ) → Op (mono types)
  alone_as (Some (Some a)) n c u = fn (constructing n c u a)
  alone_as (Some None) n c u = con_alone c u
  alone_as None n c u = con_alone c u

  -- how many variables these are
  abbrev pub used_news : Bool → ℕ
  used_news true = 5
  used_news false = 0

  abbrev pub alone_news : Option (Option ℕ) → ℕ
  alone_news (Some (Some a)) = 2
  alone_news (Some None) = 0
  alone_news None = 0

  abbrev pub performing_news : Bool → List ℕ → ℕ
  performing_news true ps = 2
  performing_news false ps = 2 + length ps

  abbrev pub name_takes : Names → Exception (mono types) → Bool
  name_takes N (fixed n) = false
  name_takes N (held y) = takes_argument N y

  abbrev pub case_names : Case (mono types) → Names → Names
  case_names (is_literal l) N = N
  case_names (is_con c) N = N
  case_names (is_con_of c x t) N = (x, false) ∷ N
  case_names (is_exn y) N = N
  case_names (is_exn_of y x t) N = (x, false) ∷ N
  case_names (is_record size) N = N

  abbrev pub group_names : Funs (mono types) → Names → Names
  group_names no_funs N = N
  group_names (fun x t f fs) N = (x, false) ∷ group_names fs N

  -- how many new variables there are
  abbrev mutual
    pub news : Names → E → ℕ
    news N (ret a) = 0
    news N (let_in x ps t o e) = op_news N t o + news ((x, false) ∷ N) e
    news N (exception_in x i t e) = news ((x, is_given t) ∷ N) e
    news N (name_in x y e) = news ((x, name_takes N y) ∷ N) e
    news N (rec_in ps fs e) = funs_news (group_names fs N) fs + news (group_names fs N) e
    news N (switch a t arms) = arms_news N arms
    news N (first e d) = news N e + news N d
    news N miss = 0
    news N (counted k e) = news N e

    pub arms_news : Names → Arms (mono types) → ℕ
    arms_news N no_arms = 0
    arms_news N (arm c e arms) = news (case_names c N) e + arms_news N arms

    pub op_news : Names → (t : ℕ) → Op (mono types) → ℕ
    op_news N t (use_of x) = used_news (takes_argument N x)
    op_news N t (const l) = 0
    op_news N t (con_alone c u) = alone_news (constructor_at types u c)
    op_news N t (construct m c u a) = 0
    op_news N t (ref_alone a) = 2
    op_news N t (refer m u a) = 0
    op_news N t (content u a) = 0
    op_news N t (pack m u y a) = 0
    op_news N t (make_record u row) = 0
    op_news N t (select u l a) = 0
    op_news N t (prim_alone p u) = performing_news (is_single (prim_type p).arguments) (parts_at (node_at types (takes_at (node_at types t))))
    op_news N t (prim m p u as_) = 0
    op_news N t (app place f a) = 0
    op_news N t (fn f) = fun_news N f
    op_news N t (block e) = news N e
    op_news N t (handle e x d) = news N e + news ((x, false) ∷ N) d
    op_news N t (raise a) = 0
    op_news N t (raise_initial i) = 0

    pub fun_news : Names → Fun (mono types) → ℕ
    fun_news N (last x t e) = news ((x, false) ∷ N) e
    fun_news N (more x t f) = fun_news ((x, false) ∷ N) f

    pub funs_news : Names → Funs (mono types) → ℕ
    funs_news N no_funs = 0
    funs_news N (fun x t f fs) = fun_news N f + funs_news N fs

  abbrev mutual
    pub expand : Names → (n : ℕ) → E → E
    expand N n (ret a) = ret a
    expand N n (let_in x ps t o e) = let_in x ps t (expand_op N n t o) (expand ((x, false) ∷ N) (n + op_news N t o) e)
    expand N n (exception_in x i t e) = exception_in x i t (expand ((x, is_given t) ∷ N) n e)
    expand N n (name_in x y e) = name_in x y (expand ((x, name_takes N y) ∷ N) n e)
    expand N n (rec_in ps fs e) = rec_in ps (expand_funs (group_names fs N) n fs) (expand (group_names fs N) (n + funs_news (group_names fs N) fs) e)
    expand N n (switch a t arms) = switch a t (expand_arms N n arms)
    expand N n (first e d) = first (expand N n e) (expand N (n + news N e) d)
    expand N n miss = miss
    expand N n (counted k e) = counted k (expand N n e)

    pub expand_arms : Names → (n : ℕ) → Arms (mono types) → Arms (mono types)
    expand_arms N n no_arms = no_arms
    expand_arms N n (arm c e arms) = arm c (expand (case_names c N) n e) (expand_arms N (n + news (case_names c N) e) arms)

    -- an operation that gives a value of type t
    pub expand_op : Names → (n t : ℕ) → Op (mono types) → Op (mono types)
    expand_op N n t (use_of x) = used_as (takes_argument N x) n t x
    expand_op N n t (const l) = const l
    expand_op N n t (con_alone c u) = alone_as (constructor_at types u c) n c u
    expand_op N n t (construct m c u a) = construct m c u a
    expand_op N n t (ref_alone a) = fn (referring n a (gives_at (node_at types t)))
    expand_op N n t (refer m u a) = refer m u a
    expand_op N n t (content u a) = content u a
    expand_op N n t (pack m u y a) = pack m u y a
    expand_op N n t (make_record u row) = make_record u row
    expand_op N n t (select u l a) = select u l a
    expand_op N n t (prim_alone p u) =
        fn (performing (is_single (prim_type p).arguments) n p u (takes_at (node_at types t)) (gives_at (node_at types t))
        (parts_at (node_at types (takes_at (node_at types t)))))
    expand_op N n t (prim m p u as_) = prim m p u as_
    expand_op N n t (app place f a) = app place f a
    expand_op N n t (fn f) = fn (expand_fun N n f)
    expand_op N n t (block e) = block (expand N n e)
    expand_op N n t (handle e x d) = handle (expand N n e) x (expand ((x, false) ∷ N) (n + news N e) d)
    expand_op N n t (raise a) = raise a
    expand_op N n t (raise_initial i) = raise_initial i

    pub expand_fun : Names → (n : ℕ) → Fun (mono types) → Fun (mono types)
    expand_fun N n (last x t e) = last x t (expand ((x, false) ∷ N) n e)
    expand_fun N n (more x t f) = more x t (expand_fun ((x, false) ∷ N) n f)

    pub expand_funs : Names → (n : ℕ) → Funs (mono types) → Funs (mono types)
    expand_funs N n no_funs = no_funs
    expand_funs N n (fun x t f fs) = fun x t (expand_fun N n f) (expand_funs N (n + fun_news N f) fs)

-- no variable from n on is bound
abbrev pub IsFresh : (n : ℕ) → Program → Type 0
IsFresh n p = (k : ℕ) → n ≤ k → times {F = mono p.types} (λ x. hit k x) p.body ≡ 0

abbrev pub expanded : (n : ℕ) → Program → Program
expanded n p = record { initial = p.initial; types = p.types; expansion = p.expansion; body = expand p.types [] n p.body }

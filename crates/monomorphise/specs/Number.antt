-- Numbers for the names of copies, counted upwards in the order of binding, each binder its own; and the numbers of types in a table.
use Rattle.std.specs.Prelude.{◌≡◌, ℕ, suc, ◌+◌, ◌≤◌, List, Option, Some, None, if◌then◌else◌, ⊤}
use Rattle.ty_core.specs.Types.{Typ}
use Rattle.ir_mono.specs.of_ir_plain.Once.{times, op_times, fun_times}
use Rattle.ir_mono.specs.of_ir_plain.Tree.{Case, is_literal, is_con, is_con_of, is_exn, is_exn_of, is_record, Exception, fixed, held, Atoms, no_atoms, an_atom, Row, no_row, a_row, Exp, ret, let_in, exception_in, name_in, rec_in, switch, first, miss, counted, Arms, no_arms, arm, Op, use_of, const, con_alone, construct, ref_alone, refer, content, pack, make_record, select, prim_alone, prim, app, fn, block, handle, raise, raise_initial, Fun, last, more, Funs, no_funs, fun}
use Rattle.ir_mono.specs.Types as table
use Rattle.ir_mono.specs.Types.{constructor_at}
use Rattle.ir_mono.specs.Mono.{mono}
use Rattle.monomorphise.specs.Monomorphise.{Name, is_same, Named}
use Rattle.monomorphise.specs.Simple.{IsType}

-- the numbers given so far, the last one first
pub data Given : Type 0 where
  none_given : Given
  given : Name → ℕ → Given → Given

abbrev pub number_of : Name → Given → ℕ
number_of k none_given = 0
number_of k (given j n g) = if is_same k j then n else number_of k g

-- how many variables are bound
abbrev pub each_one : Name → ℕ
each_one k = 1

abbrev pub binders : Exp Named → ℕ
binders e = times each_one e

abbrev pub op_binders : Op Named → ℕ
op_binders o = op_times each_one o

abbrev pub fun_binders : Fun Named → ℕ
fun_binders f = fun_times each_one f

abbrev pub heads : Funs Named → ℕ
heads no_funs = 0
heads (fun k t f fs) = suc (heads fs)

abbrev pub bodies : Funs Named → ℕ
bodies no_funs = 0
bodies (fun k t f fs) = fun_binders f + bodies fs

-- the first function of a group is bound last
abbrev pub group_given : ℕ → Funs Named → Given → Given
group_given b no_funs g = g
group_given b (fun k t f fs) g = given k (b + heads fs) (group_given b fs g)

-- what is given after an arm's variable, and the next number
abbrev pub case_given : Given → ℕ → Case Named → Given
case_given g b (is_literal l) = g
case_given g b (is_con c) = g
case_given g b (is_con_of c k t) = given k b g
case_given g b (is_exn j) = g
case_given g b (is_exn_of j k t) = given k b g
case_given g b (is_record size) = g

abbrev pub case_next : ℕ → Case Named → ℕ
case_next b (is_literal l) = b
case_next b (is_con c) = b
case_next b (is_con_of c k t) = suc b
case_next b (is_exn j) = b
case_next b (is_exn_of j k t) = suc b
case_next b (is_record size) = b

module _ (types : List table.Row) (index : Typ → ℕ) where
  abbrev pub number_atoms : Given → Atoms Named → Atoms (mono types)
  number_atoms g no_atoms = no_atoms
  number_atoms g (an_atom k as_) = an_atom (number_of k g) (number_atoms g as_)

  abbrev pub number_row : Given → Row Named → Row (mono types)
  number_row g no_row = no_row
  number_row g (a_row l k row) = a_row l (number_of k g) (number_row g row)

  abbrev pub number_name : Given → Exception Named → Exception (mono types)
  number_name g (fixed n) = fixed n
  number_name g (held k) = held (number_of k g)

  abbrev pub number_argument : Option Typ → Option ℕ
  number_argument None = None
  number_argument (Some t) = Some (index t)

  abbrev pub number_case : Given → ℕ → Case Named → Case (mono types)
  number_case g b (is_literal l) = is_literal l
  number_case g b (is_con c) = is_con c
  number_case g b (is_con_of c k t) = is_con_of c b (index t)
  number_case g b (is_exn j) = is_exn (number_of j g)
  number_case g b (is_exn_of j k t) = is_exn_of (number_of j g) b (index t)
  number_case g b (is_record size) = is_record size

  -- with numbers from b on
  abbrev mutual
    pub number : Given → ℕ → Exp Named → Exp (mono types)
    number g b (ret k) = ret (number_of k g)
    number g b (let_in k u t o e) = let_in (b + op_binders o) u (index t) (number_op g b o) (number (given k (b + op_binders o) g) (suc (b + op_binders o)) e)
    number g b (exception_in k i t e) = exception_in b i (number_argument t) (number (given k b g) (suc b) e)
    number g b (name_in k j e) = name_in b (number_name g j) (number (given k b g) (suc b) e)
    number g b (rec_in u fs e) = rec_in u (number_funs (group_given b fs g) b (b + heads fs) fs) (number (group_given b fs g) (b + heads fs + bodies fs) e)
    number g b (switch k t arms) = switch (number_of k g) (index t) (number_arms g b arms)
    number g b (first e d) = first (number g b e) (number g (b + binders e) d)
    number g b miss = miss
    number g b (counted n e) = counted n (number g b e)

    pub number_arms : Given → ℕ → Arms Named → Arms (mono types)
    number_arms g b no_arms = no_arms
    number_arms g b (arm c e arms) = arm (number_case g b c) (number (case_given g b c) (case_next b c) e) (number_arms g (case_next b c + binders e) arms)

    pub number_op : Given → ℕ → Op Named → Op (mono types)
    number_op g b (use_of k) = use_of (number_of k g)
    number_op g b (const l) = const l
    number_op g b (con_alone c t) = con_alone c (index t)
    number_op g b (construct m c t k) = construct m c (index t) (number_of k g)
    number_op g b (ref_alone t) = ref_alone (index t)
    number_op g b (refer m t k) = refer m (index t) (number_of k g)
    number_op g b (content t k) = content (index t) (number_of k g)
    number_op g b (pack m t j k) = pack m (index t) (number_of j g) (number_of k g)
    number_op g b (make_record t row) = make_record (index t) (number_row g row)
    number_op g b (select t l k) = select (index t) l (number_of k g)
    number_op g b (prim_alone p t) = prim_alone p (index t)
    number_op g b (prim m p t as_) = prim m p (index t) (number_atoms g as_)
    number_op g b (app place j k) = app place (number_of j g) (number_of k g)
    number_op g b (fn f) = fn (number_fun g b f)
    number_op g b (block e) = block (number g b e)
    number_op g b (handle e k d) = handle (number g b e) (b + binders e) (number (given k (b + binders e) g) (suc (b + binders e)) d)
    number_op g b (raise k) = raise (number_of k g)
    number_op g b (raise_initial i) = raise_initial i

    pub number_fun : Given → ℕ → Fun Named → Fun (mono types)
    number_fun g b (last k t e) = last b (index t) (number (given k b g) (suc b) e)
    number_fun g b (more k t f) = more b (index t) (number_fun (given k b g) (suc b) f)

    -- the functions' own numbers from n on, those of what they bind from b on
    pub number_funs : Given → (n b : ℕ) → Funs Named → Funs (mono types)
    number_funs g n b no_funs = no_funs
    number_funs g n b (fun k t f fs) = fun (n + heads fs) (index t) (number_fun g b f) (number_funs g n (b + fun_binders f) fs)

  -- The table has each type that stands in the tree, at its number, and with the constructors that are used.

  abbrev pub Known : Typ → Type 0
  Known t = IsType types (index t) t

  abbrev pub Lists : Typ → ℕ → Type 0
  Lists t c = (a : Option ℕ) × (constructor_at types (index t) c ≡ Some a)

  abbrev pub ArgumentKnown : Option Typ → Type 0
  ArgumentKnown None = ⊤
  ArgumentKnown (Some t) = Known t

  -- an arm for values of the type u
  abbrev pub CaseKnown : Typ → Case Named → Type 0
  CaseKnown u (is_literal l) = ⊤
  CaseKnown u (is_con c) = Lists u c
  CaseKnown u (is_con_of c k t) = Lists u c × Known t
  CaseKnown u (is_exn j) = ⊤
  CaseKnown u (is_exn_of j k t) = Known t
  CaseKnown u (is_record size) = ⊤

  abbrev mutual
    pub AllKnown : Exp Named → Type 0
    AllKnown (ret k) = ⊤
    AllKnown (let_in k u t o e) = Known t × OpKnown o × AllKnown e
    AllKnown (exception_in k i t e) = ArgumentKnown t × AllKnown e
    AllKnown (name_in k j e) = AllKnown e
    AllKnown (rec_in u fs e) = FunsKnown fs × AllKnown e
    AllKnown (switch k t arms) = Known t × ArmsKnown t arms
    AllKnown (first e d) = AllKnown e × AllKnown d
    AllKnown miss = ⊤
    AllKnown (counted n e) = AllKnown e

    pub ArmsKnown : Typ → Arms Named → Type 0
    ArmsKnown u no_arms = ⊤
    ArmsKnown u (arm c e arms) = CaseKnown u c × AllKnown e × ArmsKnown u arms

    pub OpKnown : Op Named → Type 0
    OpKnown (use_of k) = ⊤
    OpKnown (const l) = ⊤
    OpKnown (con_alone c t) = Known t × Lists t c
    OpKnown (construct m c t k) = Known t × Lists t c
    OpKnown (ref_alone t) = Known t
    OpKnown (refer m t k) = Known t
    OpKnown (content t k) = Known t
    OpKnown (pack m t j k) = Known t
    OpKnown (make_record t row) = Known t
    OpKnown (select t l k) = Known t
    OpKnown (prim_alone p t) = Known t
    OpKnown (prim m p t as_) = Known t
    OpKnown (app place j k) = ⊤
    OpKnown (fn f) = FunKnown f
    OpKnown (block e) = AllKnown e
    OpKnown (handle e k d) = AllKnown e × AllKnown d
    OpKnown (raise k) = ⊤
    OpKnown (raise_initial i) = ⊤

    pub FunKnown : Fun Named → Type 0
    FunKnown (last k t e) = Known t × AllKnown e
    FunKnown (more k t f) = Known t × FunKnown f

    pub FunsKnown : Funs Named → Type 0
    FunsKnown no_funs = ⊤
    FunsKnown (fun k t f fs) = Known t × FunKnown f × FunsKnown fs

  -- Numbers rise: each variable has a greater number than those that were bound before it and are in scope.

  -- above the names of a group, the first of which is bound last
  abbrev pub top : ℕ → Funs (mono types) → ℕ
  top b no_funs = b
  top b (fun x t f fs) = suc x

  abbrev pub NamesRise : ℕ → Funs (mono types) → Type 0
  NamesRise b no_funs = ⊤
  NamesRise b (fun x t f fs) = top b fs ≤ x × NamesRise b fs

  -- above the variable of an arm
  abbrev pub case_top : ℕ → Case (mono types) → ℕ
  case_top b (is_literal l) = b
  case_top b (is_con c) = b
  case_top b (is_con_of c x t) = suc x
  case_top b (is_exn y) = b
  case_top b (is_exn_of y x t) = suc x
  case_top b (is_record size) = b

  abbrev pub CaseRises : ℕ → Case (mono types) → Type 0
  CaseRises b (is_literal l) = ⊤
  CaseRises b (is_con c) = ⊤
  CaseRises b (is_con_of c x t) = b ≤ x
  CaseRises b (is_exn y) = ⊤
  CaseRises b (is_exn_of y x t) = b ≤ x
  CaseRises b (is_record size) = ⊤

  -- where all in scope are below b
  abbrev mutual
    pub Rises : ℕ → Exp (mono types) → Type 0
    Rises b (ret a) = ⊤
    Rises b (let_in x u t o e) = OpRises b o × b ≤ x × Rises (suc x) e
    Rises b (exception_in x i t e) = b ≤ x × Rises (suc x) e
    Rises b (name_in x y e) = b ≤ x × Rises (suc x) e
    Rises b (rec_in u fs e) = NamesRise b fs × FunsRise (top b fs) fs × Rises (top b fs) e
    Rises b (switch a t arms) = ArmsRise b arms
    Rises b (first e d) = Rises b e × Rises b d
    Rises b miss = ⊤
    Rises b (counted n e) = Rises b e

    pub ArmsRise : ℕ → Arms (mono types) → Type 0
    ArmsRise b no_arms = ⊤
    ArmsRise b (arm c e arms) = CaseRises b c × Rises (case_top b c) e × ArmsRise b arms

    pub OpRises : ℕ → Op (mono types) → Type 0
    OpRises b (fn f) = FunRises b f
    OpRises b (block e) = Rises b e
    OpRises b (handle e x d) = Rises b e × b ≤ x × Rises (suc x) d
    OpRises b _ = ⊤

    pub FunRises : ℕ → Fun (mono types) → Type 0
    FunRises b (last x t e) = b ≤ x × Rises (suc x) e
    FunRises b (more x t f) = b ≤ x × FunRises (suc x) f

    pub FunsRise : ℕ → Funs (mono types) → Type 0
    FunsRise b no_funs = ⊤
    FunsRise b (fun x t f fs) = FunRises b f × FunsRise b fs

-- Functions to cells with what they capture: the conversion, for any flow sets and any table of captures. Programs have no function by itself (a constructor,
-- `ref`, a primitive or an exception as a function): each is a `fn` by now.
use Rattle.std.specs.Prelude.{ℕ, zero, suc, Bool, true, false, List, [], ◌∷◌, map, Option, Some, None, nat_eq, if◌then◌else◌, slice_get}
use Rattle.mlc_names.specs.declared.label.Label.{Label}
use Rattle.mlc_base.specs.declared.place.Place.{Place}
use Rattle.mlc_prims.specs.LitOf.{Literal, int, word, char, string, truth}
use Rattle.mlc_prims.specs.declared.basis.BasisPrimitive.{BasisPrimitive}
use Rattle.mlc_prims.specs.declared.basis.BasisPrimitive.TheVariants as basis
use Rattle.ty_core.specs.Types.{arrow, labels, name}
use Rattle.ir_values.specs.Values.{same_label, false_number, true_number}
use Rattle.ir_values.specs.Primitives.{Sort, compares, assigns, prints, computes, sort_of, is_overloaded}
use Rattle.ir_plain.specs.Tree as m
use Rattle.ir_plain.specs.Tree.{Case, is_literal, is_con, is_con_of, is_exn, is_exn_of, is_record, Exception, fixed, held, Atoms, no_atoms, an_atom, Row, no_row, a_row, Fun, last, more, Funs, no_funs, fun}
use Rattle.ir_explicit.specs.of_ir_poly.Types.{int_name, word_name, char_name, string_name, ref_name}
use Rattle.ir_explicit.specs.of_ir_mono.Types as table
use Rattle.ir_explicit.specs.of_ir_mono.Types.{Node, node, node_at, is_named, holds, bool_number}
use Rattle.ir_explicit.specs.of_ir_mono.Mono as source
use Rattle.ir_explicit.specs.of_ir_mono.Mono.{mono, Mono}
use Rattle.first_values.specs.Values as cells
use Rattle.first_values.specs.Equality.{Shape, numbers, texts, references, opaque}
use Rattle.first_values.specs.Equality as equality
use Rattle.first_values.specs.Operations as op
use Rattle.first_values.specs.Operations.{Tables, Constant, Operands, ints, words, chars}
use Rattle.first_values.specs.Raising.{may_raise}
use Rattle.ir_first.specs.Tree as out
use Rattle.closure_convert.specs.of_flow_sets.Member.{is_in}
use Rattle.closure_convert.specs.of_flow_sets.Flow.{Flow, variable, at, number_of}
use Rattle.closure_convert.specs.Scope.{Member, names, Scope, add, add_all, Way, no_way, leads, follows, way, index_of, Piece, alone, those, Table, top}
use Rattle.closure_convert.specs.Closed.{scope_of, members, leader}

-- Names. In the body of a function `holder` is the cell that has what was captured: the closure of a function alone, or of the first of its group. Another of a
-- group is `follower` when it is entered, and has the first as its one part. `given` is the function that one of several parameters gives; `spare` and it
-- are also what stands for a step between.
abbrev pub holder : ℕ
holder = 0

abbrev pub follower : ℕ
follower = 1

abbrev pub given : ℕ
given = 2

abbrev pub spare : ℕ
spare = 3

abbrev pub var : ℕ → ℕ
var x = suc (suc (suc (suc x)))

-- what numbers stand for in the converted program: the function that has a closure's code and the tag of its cell, the string, and whether a variable is the
-- name of an exception
pub record Numbering : Type 0 where
  pub function : ℕ → ℕ
  pub tag : ℕ → ℕ
  pub text : List ℕ → ℕ
  pub is_name : ℕ → Bool

-- Types

abbrev pub constructor_index : ℕ → List (ℕ × Option ℕ) → ℕ
constructor_index c [] = zero
constructor_index c (k ∷ ks) = if nat_eq c k.0 then zero else suc (constructor_index c ks)

abbrev pub constructors_in : Option table.Row → List (ℕ × Option ℕ)
constructors_in None = []
constructors_in (Some r) = r.constructors

-- of truth values false and true have the first two, wherever they stand
abbrev pub tag_among : (truths : Bool) → ℕ → List (ℕ × Option ℕ) → ℕ
tag_among false c ks = constructor_index c ks
tag_among true c ks = if nat_eq c false_number then 0 else (if nat_eq c true_number then 1 else suc (suc (constructor_index c ks)))

-- the tag of a constructor: its place among those of its datatype that the program uses
abbrev pub con_tag : List table.Row → (t c : ℕ) → ℕ
con_tag types t c = tag_among (nat_eq t bool_number) c (constructors_in (slice_get types t))

abbrev pub label_index : Label → List Label → ℕ
label_index l [] = zero
label_index l (k ∷ ks) = if same_label l k then zero else suc (label_index l ks)

abbrev pub labels_in : Option Node → List Label
labels_in (Some (node (labels ls) ps)) = ls
labels_in o = []

abbrev pub argument_types : Option ℕ → List ℕ
argument_types None = []
argument_types (Some a) = a ∷ []

abbrev pub part_types : List (ℕ × Option ℕ) → List (List ℕ)
part_types [] = []
part_types (k ∷ ks) = argument_types k.1 ∷ part_types ks

-- the types of the parts at each tag
abbrev pub parts_among : (truths : Bool) → List (ℕ × Option ℕ) → List (List ℕ)
parts_among false ks = part_types ks
parts_among true ks = [] ∷ [] ∷ part_types ks

abbrev pub shape_of : (truths : Bool) → table.Row → Node → Shape
shape_of truths r (node arrow ps) = opaque
shape_of truths r (node (labels ls) ps) = equality.cells (ps ∷ [])
shape_of truths r (node (name y) ps) =
    if nat_eq y.stamp string_name.stamp then texts
    else (if nat_eq y.stamp ref_name.stamp then references
    else (if nat_eq y.stamp int_name.stamp then numbers
    else (if nat_eq y.stamp word_name.stamp then numbers
    else (if nat_eq y.stamp char_name.stamp then numbers else equality.cells (parts_among truths r.constructors)))))

-- of the types from the i-th on
abbrev pub shapes_from : (i : ℕ) → List table.Row → List Shape
shapes_from i [] = []
shapes_from i (r ∷ rs) = shape_of (nat_eq i bool_number) r r.type ∷ shapes_from (suc i) rs

abbrev pub shapes : List table.Row → List Shape
shapes types = shapes_from 0 types

-- Primitives

abbrev pub operands_at : Option Node → Operands
operands_at o =
    if holds (is_named int_name) o then ints else (if holds (is_named word_name) o then words else (if holds (is_named char_name) o then chars else op.texts))

-- of one that has no choice of types
abbrev pub operands_of : BasisPrimitive → Operands
operands_of basis.BitsAnd = words
operands_of basis.BitsOr = words
operands_of basis.BitsXor = words
operands_of basis.BitsNot = words
operands_of basis.ShiftLeft = words
operands_of basis.ShiftRight = words
operands_of basis.ShiftSigned = words
operands_of basis.ToInt = words
operands_of basis.ToIntSigned = words
operands_of basis.CharCode = chars
operands_of basis.StringOf = chars
operands_of basis.SizeOf = op.texts
operands_of basis.CharAt = op.texts
operands_of basis.PartOf = op.texts
operands_of basis.Concat = op.texts
operands_of p = ints

abbrev pub operands : List table.Row → BasisPrimitive → (t : ℕ) → Operands
operands types p t = if is_overloaded p then operands_at (node_at types t) else operands_of p

abbrev pub computed : Operands → BasisPrimitive → List ℕ → out.Op
computed k p xs = if may_raise k p then out.attempt k p xs else out.plain (op.compute k p) xs

abbrev pub performed : List table.Row → Sort → BasisPrimitive → (t : ℕ) → List ℕ → out.Op
performed types compares p t xs = out.plain (op.equal t) xs
performed types assigns p t xs = out.plain op.assign xs
performed types prints p t xs = out.plain op.print xs
performed types computes p t xs = computed (operands types p t) p xs

-- Pieces, and what a body finds

abbrev pub piece_list : List Piece → List cells.Piece
piece_list [] = []
piece_list (alone y ∷ ps) = cells.one (var y) ∷ piece_list ps
piece_list (those from count ∷ ps) = cells.run holder from count ∷ piece_list ps

module _ (n : Numbering) where
  abbrev pub outer : List ℕ → ℕ → Way → out.Op
  outer captured x no_way = out.plain (op.field (index_of x captured)) (holder ∷ [])
  outer captured x leads = out.plain op.same (holder ∷ [])
  outer captured x (follows k) = out.make (n.tag k) (cells.one holder ∷ [])

  abbrev pub access : Scope → ℕ → out.Op
  access s x = if is_in x s.locals then out.plain op.same (var x ∷ []) else outer s.captured x (way x s.group)

  -- what is not in the body yet is brought there
  abbrev pub ready : Scope → List Piece → out.Exp → out.Exp
  ready s [] e = e
  ready s (alone y ∷ ps) e = if is_in y s.locals then ready s ps e else out.let_in (var y) (access s y) (ready s ps e)
  ready s (those from count ∷ ps) e = ready s ps e

abbrev pub unit_cell : out.Op
unit_cell = out.make 0 []

-- a packet of the name that `given` is, without an argument
abbrev pub packed : (x : ℕ) → out.Exp → out.Exp
packed x e = out.let_in spare unit_cell (out.let_in x (out.plain op.pack (given ∷ spare ∷ [])) e)

abbrev pub marked : Option Place → out.Exp → out.Exp
marked None e = e
marked (Some place) e = out.turn place e

module _ (n : Numbering) where
  abbrev pub constant : Literal → Constant
  constant (int z) = op.an_int z
  constant (word k) = op.a_word k
  constant (char k) = op.a_char k
  constant (string s) = op.a_text (n.text s)
  constant (truth b) = op.a_truth b

  -- one function alone is called directly
  abbrev pub call_set : Place → (s : ℕ) → List ℕ → (f a : ℕ) → out.Op
  call_set p s [] f a = out.call p (op.one_of s f) (a ∷ [])
  call_set p s (k ∷ []) f a = out.call p (op.known (n.function k)) (f ∷ a ∷ [])
  call_set p s (k ∷ l ∷ ks) f a = out.call p (op.one_of s f) (a ∷ [])

  abbrev pub set_of : List ℕ → List op.Member
  set_of [] = []
  set_of (k ∷ ks) = record { tag = n.tag k; function = n.function k } ∷ set_of ks

  abbrev pub used : Bool → Scope → (x y : ℕ) → out.Exp → out.Exp
  used true s x y e = out.let_in given (access n s y) (packed x e)
  used false s x y e = out.let_in x (access n s y) e

  module _ (types : List table.Row) (flow : Flow) (captures : Table) where
    abbrev pub atom_list : Atoms (mono types) → List ℕ
    atom_list no_atoms = []
    atom_list (an_atom a as_) = var a ∷ atom_list as_

    abbrev pub row_pieces : Row (mono types) → List cells.Piece
    row_pieces no_row = []
    row_pieces (a_row l a row) = cells.one (var a) ∷ row_pieces row

    -- x is the closure of a function alone, or of the first of a group
    abbrev pub making : Scope → (x k : ℕ) → out.Exp → out.Exp
    making s x k e = ready n s (captures.pieces k) (out.let_in x (out.make (n.tag k) (piece_list (captures.pieces k))) e)

    -- the others of a group, the last first
    abbrev pub following : (h : ℕ) → List Member → out.Exp → out.Exp
    following h [] e = e
    following h (g ∷ gs) e = following h gs (out.let_in (var g.name) (out.make (n.tag g.number) (cells.one (var h) ∷ [])) e)

    abbrev pub group_in : Scope → List Member → out.Exp → out.Exp
    group_in s [] e = e
    group_in s (g ∷ gs) e = making s (var g.name) g.number (following g.name gs e)

    abbrev pub name_of : Scope → Exception (mono types) → out.Op
    name_of s (fixed i) = out.plain (op.initial i) []
    name_of s (held y) = access n s y

    abbrev mutual
      pub convert : Scope → Mono types → out.Exp
      convert s (m.ret a) = out.ret (var a)
      convert s (m.let_in x ps t o e) = convert_op s x o (convert (add x s) e)
      convert s (m.exception_in x i t e) = out.let_in (var x) (out.plain (op.exception i) []) (convert (add x s) e)
      convert s (m.name_in x y e) = out.let_in (var x) (name_of s y) (convert (add x s) e)
      convert s (m.rec_in ps fs e) = group_in s (members types fs) (convert (add_all (names (members types fs)) s) e)
      convert s (m.switch a t arms) = cases s a t arms
      convert s (m.first e d) = out.first (convert s e) (convert s d)
      convert s m.miss = out.miss
      convert s (m.counted k e) = convert s e

      -- constructors up to an arm of another kind are one switch; the others are tested one by one
      pub cases : Scope → (a t : ℕ) → m.Arms (mono types) → out.Exp
      cases s a t m.no_arms = out.miss
      cases s a t (m.arm (is_literal l) e arms) = out.branch (op.is (constant l)) (var a ∷ []) (convert s e) (cases s a t arms)
      cases s a t (m.arm (is_con c) e arms) = out.switch (var a) (out.arm (con_tag types t c) (convert s e) (con_arms s a t arms))
      cases s a t (m.arm (is_con_of c x u) e arms) =
          out.switch (var a)
          (out.arm (con_tag types t c) (out.let_in (var x) (out.plain (op.field 0) (var a ∷ [])) (convert (add x s) e)) (con_arms s a t arms))
      cases s a t (m.arm (is_exn y) e arms) = out.branch op.is_of (var a ∷ var y ∷ []) (convert s e) (cases s a t arms)
      cases s a t (m.arm (is_exn_of y x u) e arms) =
          out.branch op.is_of (var a ∷ var y ∷ []) (out.let_in (var x) (out.plain op.argument (var a ∷ [])) (convert (add x s) e)) (cases s a t arms)
      cases s a t (m.arm (is_record size) e arms) = convert s e

      pub con_arms : Scope → (a t : ℕ) → m.Arms (mono types) → out.Arms
      con_arms s a t m.no_arms = out.no_arms
      con_arms s a t (m.arm (is_con c) e arms) = out.arm (con_tag types t c) (convert s e) (con_arms s a t arms)
      con_arms s a t (m.arm (is_con_of c x u) e arms) =
          out.arm (con_tag types t c) (out.let_in (var x) (out.plain (op.field 0) (var a ∷ [])) (convert (add x s) e)) (con_arms s a t arms)
      con_arms s a t (m.arm (is_literal l) e arms) = out.no_arms
      con_arms s a t (m.arm (is_exn y) e arms) = out.no_arms
      con_arms s a t (m.arm (is_exn_of y x u) e arms) = out.no_arms
      con_arms s a t (m.arm (is_record size) e arms) = out.no_arms

      -- with what comes after it
      pub convert_op : Scope → (x : ℕ) → m.Op (mono types) → out.Exp → out.Exp
      convert_op s x (m.use_of y) e = used (n.is_name y) s (var x) y e
      convert_op s x (m.const l) e = out.let_in (var x) (out.plain (op.constant (constant l)) []) e
      convert_op s x (m.con_alone c t) e = out.let_in (var x) (out.make (con_tag types t c) []) e
      convert_op s x (m.construct k c t a) e = marked k (out.let_in (var x) (out.make (con_tag types t c) (cells.one (var a) ∷ [])) e)
      convert_op s x (m.ref_alone t) e = out.let_in (var x) unit_cell e
      convert_op s x (m.refer k t a) e = marked k (out.let_in (var x) (out.plain op.refer (var a ∷ [])) e)
      convert_op s x (m.content t a) e = out.let_in (var x) (out.plain op.content (var a ∷ [])) e
      convert_op s x (m.pack k t y a) e = marked k (out.let_in (var x) (out.plain op.pack (var y ∷ var a ∷ [])) e)
      convert_op s x (m.make_record t row) e = out.let_in (var x) (out.make 0 (row_pieces row)) e
      convert_op s x (m.select t l a) e = out.let_in (var x) (out.plain (op.field (label_index l (labels_in (node_at types t)))) (var a ∷ [])) e
      convert_op s x (m.prim_alone p t) e = out.let_in (var x) unit_cell e
      convert_op s x (m.prim k p t as_) e = marked k (out.let_in (var x) (performed types (sort_of p) p t (atom_list as_)) e)
      convert_op s x (m.app place f a) e = out.let_in (var x) (call_set place (flow.number (variable f)) (at flow (variable f)) (var f) (var a)) e
      convert_op s x (m.fn f) e = making s (var x) (number_of types f) e
      convert_op s x (m.block b) e = out.let_in (var x) (out.block (convert s b)) e
      convert_op s x (m.handle b y h) e = out.let_in (var x) (out.handle (convert s b) (var y) (convert (add y s) h)) e
      convert_op s x (m.raise a) e = out.let_in (var x) (out.raise (var a)) e
      convert_op s x (m.raise_initial i) e = out.let_in given (out.plain (op.initial i) []) (packed given (out.let_in (var x) (out.raise given) e))

    abbrev pub body : Scope → Fun (mono types) → out.Exp
    body s (last x t e) = convert s e
    body s (more x t f) = making s given (number_of types f) (out.ret given)

    -- a function alone or the first of its group (true) is entered with the holder; another of the group finds it
    abbrev pub self_name : Bool → ℕ
    self_name true = holder
    self_name false = follower

    abbrev pub opening : Bool → out.Exp → out.Exp
    opening true e = e
    opening false e = out.let_in holder (out.plain (op.field 0) (follower ∷ [])) e

    abbrev pub code : Bool → (g : ℕ) → List Member → Fun (mono types) → out.Fun
    code q g ms f =
        record { params = self_name q ∷ var (number_of types f) ∷ []; body = opening q (body (scope_of (captures.captured g) ms (number_of types f)) f) }

    -- the functions of a program, before those that are there
    abbrev mutual
      pub codes : Mono types → List out.Fun → List out.Fun
      codes (m.ret a) cs = cs
      codes (m.let_in x ps t o e) cs = codes_op o (codes e cs)
      codes (m.exception_in x i t e) cs = codes e cs
      codes (m.name_in x y e) cs = codes e cs
      codes (m.rec_in ps fs e) cs = codes_funs true (leader types fs) (members types fs) fs (codes e cs)
      codes (m.switch a t arms) cs = codes_arms arms cs
      codes (m.first e d) cs = codes e (codes d cs)
      codes m.miss cs = cs
      codes (m.counted k e) cs = codes e cs

      pub codes_arms : m.Arms (mono types) → List out.Fun → List out.Fun
      codes_arms m.no_arms cs = cs
      codes_arms (m.arm c e arms) cs = codes e (codes_arms arms cs)

      pub codes_op : m.Op (mono types) → List out.Fun → List out.Fun
      codes_op (m.fn f) cs = codes_fun true (number_of types f) [] f cs
      codes_op (m.block e) cs = codes e cs
      codes_op (m.handle e x d) cs = codes e (codes d cs)
      codes_op (m.use_of x) cs = cs
      codes_op (m.const l) cs = cs
      codes_op (m.con_alone c t) cs = cs
      codes_op (m.construct k c t a) cs = cs
      codes_op (m.ref_alone t) cs = cs
      codes_op (m.refer k t a) cs = cs
      codes_op (m.content t a) cs = cs
      codes_op (m.pack k t y a) cs = cs
      codes_op (m.make_record t row) cs = cs
      codes_op (m.select t l a) cs = cs
      codes_op (m.prim_alone p t) cs = cs
      codes_op (m.prim k p t as_) cs = cs
      codes_op (m.app place f a) cs = cs
      codes_op (m.raise a) cs = cs
      codes_op (m.raise_initial i) cs = cs

      pub codes_fun : Bool → (g : ℕ) → List Member → Fun (mono types) → List out.Fun → List out.Fun
      codes_fun q g ms (last x t e) cs = code q g ms (last x t e) ∷ codes e cs
      codes_fun q g ms (more x t f) cs = code q g ms (more x t f) ∷ codes_fun true (number_of types f) [] f cs

      pub codes_funs : Bool → (g : ℕ) → List Member → Funs (mono types) → List out.Fun → List out.Fun
      codes_funs q g ms no_funs cs = cs
      codes_funs q g ms (fun x t f fs) cs = codes_fun q g ms f (codes_funs false g ms fs cs)

module _ (types : List table.Row) where
  -- the numbers of the functions of a program, in the order of their codes, before those that are there
  abbrev mutual
    pub numbers_in : Mono types → List ℕ → List ℕ
    numbers_in (m.ret a) ks = ks
    numbers_in (m.let_in x ps t o e) ks = numbers_op o (numbers_in e ks)
    numbers_in (m.exception_in x i t e) ks = numbers_in e ks
    numbers_in (m.name_in x y e) ks = numbers_in e ks
    numbers_in (m.rec_in ps fs e) ks = numbers_funs fs (numbers_in e ks)
    numbers_in (m.switch a t arms) ks = numbers_arms arms ks
    numbers_in (m.first e d) ks = numbers_in e (numbers_in d ks)
    numbers_in m.miss ks = ks
    numbers_in (m.counted k e) ks = numbers_in e ks

    pub numbers_arms : m.Arms (mono types) → List ℕ → List ℕ
    numbers_arms m.no_arms ks = ks
    numbers_arms (m.arm c e arms) ks = numbers_in e (numbers_arms arms ks)

    pub numbers_op : m.Op (mono types) → List ℕ → List ℕ
    numbers_op (m.fn f) ks = numbers_fun f ks
    numbers_op (m.block b) ks = numbers_in b ks
    numbers_op (m.handle b x d) ks = numbers_in b (numbers_in d ks)
    numbers_op (m.use_of x) ks = ks
    numbers_op (m.const l) ks = ks
    numbers_op (m.con_alone c t) ks = ks
    numbers_op (m.construct k c t a) ks = ks
    numbers_op (m.ref_alone t) ks = ks
    numbers_op (m.refer k t a) ks = ks
    numbers_op (m.content t a) ks = ks
    numbers_op (m.pack k t y a) ks = ks
    numbers_op (m.make_record t row) ks = ks
    numbers_op (m.select t l a) ks = ks
    numbers_op (m.prim_alone p t) ks = ks
    numbers_op (m.prim k p t as_) ks = ks
    numbers_op (m.app place f a) ks = ks
    numbers_op (m.raise a) ks = ks
    numbers_op (m.raise_initial i) ks = ks

    pub numbers_fun : Fun (mono types) → List ℕ → List ℕ
    numbers_fun (last x t e) ks = x ∷ numbers_in e ks
    numbers_fun (more x t f) ks = x ∷ numbers_fun f ks

    pub numbers_funs : Funs (mono types) → List ℕ → List ℕ
    numbers_funs no_funs ks = ks
    numbers_funs (fun x t f fs) ks = numbers_fun f (numbers_funs fs ks)

-- beside the functions: the strings of the program
abbrev pub tables : Numbering → List (List ℕ) → List ℕ → List table.Row → Flow → Tables
tables n strings initial types flow = record { initial = initial; strings = strings; types = shapes types; sets = map (set_of n) flow.sets }

abbrev pub program : Numbering → List (List ℕ) → Flow → Table → source.Program → out.Program
program n strings flow captures p = record {
  tables = tables n strings p.initial p.types flow;
  funs = record { params = []; body = convert n p.types flow captures top p.body } ∷ codes n p.types flow captures p.body [];
}

-- What operations become.
use Rattle.std.proofs.Common.{◌≡◌, ℕ, Bool, true, false, List, [], ◌∷◌, map, length, get_or, slice_index_or, Option, Some, None, Result, Ok, Err, IfOk, Vec, Global, refl, sym, ap, ap₂, ◌∙◌}
use Rattle.mlc_base.specs.declared.place.Place.{Place}
use Rattle.mlc_names.specs.declared.label.Label.{Label}
use Rattle.mlc_prims.specs.declared.basis.BasisPrimitive.{BasisPrimitive}
use Rattle.ir_values.specs.Primitives.{sort_of}
use Rattle.ir_tables.specs.declared.tables.Constant.{Constant as Literal}
use Rattle.ir_tables.specs.Tables.{literal_at}
use Rattle.ir_mono.specs.Types as table
use Rattle.ir_mono.specs.Types.{node_at}
use Rattle.plain_tree.specs.declared.tree.Field.{Field}
use Rattle.plain_tree.specs.declared.tree.Operation.{Operation}
use Rattle.plain_tree.specs.declared.tree.Operation.TheVariants as code
use Rattle.plain_tree.specs.TreeOf.{atoms_of, row_of, operation_of}
use Rattle.mono_bound.specs.Reads.{reading}
use Rattle.flow_sets.specs.Flow.{Flow, variable, at}
use Rattle.flow_types.specs.Kinds.{items_of}
use Rattle.flow_types.specs.Flows.{Has}
use Rattle.flow_types.specs.declared.flow.Flow as code_flow
use Rattle.closure_convert.specs.Scope.{Scope, Table}
use Rattle.first_values.specs.Operations as op
use Rattle.first_values.specs.Values as cells
use Rattle.ir_first.specs.Tree as out
use Rattle.first_tree.specs.declared.tree.Step.{Step}
use Rattle.closure_meaning.specs.Convert.{Numbering, var, given, con_tag, label_index, labels_in, constant, performed, packed, marked, used, call_set, atom_list, row_pieces, access, convert_op}
use Rattle.closure_parts.specs.Pieces.{a_plain, a_make}
use Rattle.closure_parts.specs.Puts.{before, Puts, sole_of, call_by, field_pieces}
use Rattle.closure_parts.proofs.Putting.{puts-as}

pub if-ok : {A E : Type 0} (P Q : A → Type 0) (r : Result A E) → ((a : A) → P a → Q a) → IfOk r P → IfOk r Q
if-ok P Q (Ok a) k h = k a h
if-ok P Q (Err e) k h = h

-- calls

pub call-by : (n : Numbering) (p : Place) (s f a : ℕ) (ks : List ℕ) (sole : Option ℕ) → sole ≡ sole_of ks → call_by n sole p s f a ≡ call_set n p s ks f a
call-by n p s f a ks sole h = ap (λ o. call_by n o p s f a) h ∙ by ks
  where
    by : (ks : List ℕ) → call_by n (sole_of ks) p s f a ≡ call_set n p s ks f a
    by [] = refl
    by (k ∷ []) = refl
    by (k ∷ l ∷ ks) = refl

module _ (n : Numbering) (flow : code_flow.Flow) (F : Flow) (has : Has flow F) (p : Place) (f a set : ℕ) (h : set ≡ slice_index_or flow.numbers.items f (length flow.sets.items)) where
  set-is : set ≡ F.number (variable f)
  set-is = h ∙ has.numbers f

  members-are : get_or (items_of flow.sets.items) set [] ≡ at F (variable f)
  members-are = ap₂ (λ l i. get_or l i []) has.sets set-is

  pub call-is : (sole found : Option ℕ) → found ≡ sole → found ≡ sole_of (get_or (items_of flow.sets.items) set []) → call_by n sole p set (var f) (var a) ≡ call_set n p (F.number (variable f)) (at F (variable f)) (var f) (var a)
  call-is sole found e k =
      ap (λ i. call_by n sole p i (var f) (var a)) set-is ∙ call-by n p (F.number (variable f)) (var f) (var a) (at F (variable f)) sole (sym e ∙ k ∙ ap sole_of members-are)

  pub call-known : (sole : ℕ) (found : Option ℕ) → found ≡ Some sole → found ≡ sole_of (get_or (items_of flow.sets.items) set []) → (known : ℕ) → known ≡ n.function sole → (xs : List ℕ) (y z : ℕ) → xs ≡ y ∷ z ∷ [] → y ≡ var f → z ≡ var a
      → out.call p (op.known known) xs ≡ call_set n p (F.number (variable f)) (at F (variable f)) (var f) (var a)
  call-known sole found e k known j xs y z w u v =
      ap₂ (λ i l. out.call p (op.known i) l) j (w ∙ ap₂ (λ q r. q ∷ r ∷ []) u v) ∙ call-is (Some sole) found e k

  pub call-one-of : (found : Option ℕ) → found ≡ None → found ≡ sole_of (get_or (items_of flow.sets.items) set []) → (xs : List ℕ) (y z : ℕ) → xs ≡ z ∷ [] → y ≡ var f → z ≡ var a
      → out.call p (op.one_of set y) xs ≡ call_set n p (F.number (variable f)) (at F (variable f)) (var f) (var a)
  call-one-of found e k xs y z w u v = ap₂ (λ i l. out.call p (op.one_of set i) l) u (w ∙ ap (λ r. r ∷ []) v) ∙ call-is None found e k

-- uses

module _ (n : Numbering) (s : Scope) (x y : ℕ) where
  pub used-name : (old now new : List Step) (o : out.Op) → n.is_name y ≡ true → o ≡ access n s y → Puts old now (out.let_in given o) → Puts now new (packed x) → Puts old new (used n (n.is_name y) s x y)
  used-name old now new o t h p q e =
      q e ∙ p (packed x e) ∙ ap (λ v. before old (out.let_in given v (packed x e))) h ∙ ap (λ (b : Bool). before old (used n b s x y e)) (sym t)

  pub used-value : (old new : List Step) (o : out.Op) → n.is_name y ≡ false → o ≡ access n s y → Puts old new (out.let_in x o) → Puts old new (used n (n.is_name y) s x y)
  used-value old new o t h p e = p e ∙ ap (λ v. before old (out.let_in x v e)) h ∙ ap (λ (b : Bool). before old (used n b s x y e)) (sym t)

-- arguments and fields

pub atoms-named : (types : List table.Row) (strings : List (List ℕ)) (n : Numbering) (F : Flow) (T : Table) (as_ : List ℕ) → map var as_ ≡ atom_list n types F T (atoms_of (reading types strings) as_)
atoms-named types strings n F T [] = refl
atoms-named types strings n F T (a ∷ as_) = ap (λ l. var a ∷ l) (atoms-named types strings n F T as_)

pub fields-named : (types : List table.Row) (strings : List (List ℕ)) (n : Numbering) (F : Flow) (T : Table) (fs : List Field) → field_pieces fs ≡ row_pieces n types F T (row_of (reading types strings) fs)
fields-named types strings n F T [] = refl
fields-named types strings n F T (f ∷ fs) = ap (λ l. cells.one (var f.atom) ∷ l) (fields-named types strings n F T fs)

-- whole operations

module _ (n : Numbering) (types : List table.Row) (strings : List (List ℕ)) (F : Flow) (T : Table) (s : Scope) (x : ℕ) (o : Operation) (old new : List Step) where
  abbrev put : Operation → out.Exp → out.Exp
  put k e = convert_op n types F T s x (operation_of (reading types strings) k) e

  -- steps that are put for an operation are put for what is that
  pub puts-op : (k : Operation) (g : out.Exp → out.Exp) → o ≡ k → ((e : out.Exp) → g e ≡ put k e) → Puts old new g → Puts old new (put o)
  puts-op k g is h = puts-as old new g (put o) (λ e. h e ∙ ap (λ v. put v e) (sym is))

  pub puts-use : (y : ℕ) (ts : Vec ℕ Global) → o ≡ code.Use y ts → Puts old new (used n (n.is_name y) s (var x) y) → Puts old new (put o)
  puts-use y ts is = puts-op (code.Use y ts) (used n (n.is_name y) s (var x) y) is (λ e. refl)

  pub puts-constant : (l : Literal) (k : op.Constant) → o ≡ code.Constant l → k ≡ constant n (literal_at strings l) → Puts old new (out.let_in (var x) (out.plain (op.constant k) [])) → Puts old new (put o)
  puts-constant l k is h = puts-op (code.Constant l) (out.let_in (var x) (out.plain (op.constant k) [])) is (λ e. ap (λ v. out.let_in (var x) (out.plain (op.constant v) []) e) h)

  pub puts-constructor : (c u i : ℕ) → o ≡ code.Constructor c u → i ≡ con_tag types u c → Puts old new (out.let_in (var x) (out.make i [])) → Puts old new (put o)
  puts-constructor c u i is h = puts-op (code.Constructor c u) (out.let_in (var x) (out.make i [])) is (λ e. ap (λ v. out.let_in (var x) (out.make v []) e) h)

  pub puts-construct : (k : Option Place) (c u a i : ℕ) → o ≡ code.Construct k c u a → i ≡ con_tag types u c → Puts old new (λ e. marked k (out.let_in (var x) (a_make i (var a)) e)) → Puts old new (put o)
  puts-construct k c u a i is h = puts-op (code.Construct k c u a) (λ e. marked k (out.let_in (var x) (a_make i (var a)) e)) is (λ e. ap (λ v. marked k (out.let_in (var x) (a_make v (var a)) e)) h)

  pub puts-reference : (u : ℕ) → o ≡ code.Reference u → Puts old new (out.let_in (var x) (out.make 0 [])) → Puts old new (put o)
  puts-reference u is = puts-op (code.Reference u) (out.let_in (var x) (out.make 0 [])) is (λ e. refl)

  pub puts-refer : (k : Option Place) (u a : ℕ) → o ≡ code.Refer k u a → Puts old new (λ e. marked k (out.let_in (var x) (out.plain op.refer (var a ∷ [])) e)) → Puts old new (put o)
  puts-refer k u a is = puts-op (code.Refer k u a) (λ e. marked k (out.let_in (var x) (out.plain op.refer (var a ∷ [])) e)) is (λ e. refl)

  pub puts-content : (u a : ℕ) → o ≡ code.Content u a → Puts old new (out.let_in (var x) (a_plain op.content (var a))) → Puts old new (put o)
  puts-content u a is = puts-op (code.Content u a) (out.let_in (var x) (a_plain op.content (var a))) is (λ e. refl)

  pub puts-pack : (k : Option Place) (u y a : ℕ) → o ≡ code.Pack k u y a → Puts old new (λ e. marked k (out.let_in (var x) (out.plain op.pack (var y ∷ var a ∷ [])) e)) → Puts old new (put o)
  puts-pack k u y a is = puts-op (code.Pack k u y a) (λ e. marked k (out.let_in (var x) (out.plain op.pack (var y ∷ var a ∷ [])) e)) is (λ e. refl)

  pub puts-record : (u : ℕ) (fs : Vec Field Global) (taken : List Field) (ps : List cells.Piece) → o ≡ code.Record u fs → taken ≡ fs.items → ps ≡ field_pieces taken → Puts old new (out.let_in (var x) (out.make 0 ps)) → Puts old new (put o)
  puts-record u fs taken ps is a h = puts-op (code.Record u fs) (out.let_in (var x) (out.make 0 ps)) is (λ e. ap (λ v. out.let_in (var x) (out.make 0 v) e) (h ∙ ap field_pieces a ∙ fields-named types strings n F T fs.items))

  pub puts-select : (u : ℕ) (l : Label) (a i : ℕ) → o ≡ code.Select u l a → i ≡ label_index l (labels_in (node_at types u)) → Puts old new (out.let_in (var x) (a_plain (op.field i) (var a))) → Puts old new (put o)
  puts-select u l a i is h = puts-op (code.Select u l a) (out.let_in (var x) (a_plain (op.field i) (var a))) is (λ e. ap (λ v. out.let_in (var x) (a_plain (op.field v) (var a)) e) h)

  pub puts-primitive : (p : BasisPrimitive) (u : ℕ) → o ≡ code.Primitive p u → Puts old new (out.let_in (var x) (out.make 0 [])) → Puts old new (put o)
  puts-primitive p u is = puts-op (code.Primitive p u) (out.let_in (var x) (out.make 0 [])) is (λ e. refl)

  pub puts-perform : (k : Option Place) (p : BasisPrimitive) (u : ℕ) (as_ : Vec ℕ Global) (taken : List ℕ) → o ≡ code.Perform k p u as_ → taken ≡ as_.items
      → Puts old new (λ e. marked k (out.let_in (var x) (performed types (sort_of p) p u (map var taken)) e)) → Puts old new (put o)
  puts-perform k p u as_ taken is a = puts-op (code.Perform k p u as_) (λ e. marked k (out.let_in (var x) (performed types (sort_of p) p u (map var taken)) e)) is
      (λ e. ap (λ v. marked k (out.let_in (var x) (performed types (sort_of p) p u v) e)) (ap (map var) a ∙ atoms-named types strings n F T as_.items))

  pub puts-apply : (p : Place) (f a : ℕ) (r : out.Op) → o ≡ code.Apply p f a → r ≡ call_set n p (F.number (variable f)) (at F (variable f)) (var f) (var a) → Puts old new (out.let_in (var x) r) → Puts old new (put o)
  puts-apply p f a r is h = puts-op (code.Apply p f a) (out.let_in (var x) r) is (λ e. ap (λ v. out.let_in (var x) v e) h)

  pub puts-raise : (a y : ℕ) → o ≡ code.Raise a → y ≡ var a → Puts old new (out.let_in (var x) (out.raise y)) → Puts old new (put o)
  puts-raise a y is h = puts-op (code.Raise a) (out.let_in (var x) (out.raise y)) is (λ e. ap (λ v. out.let_in (var x) (out.raise v) e) h)

  pub puts-initial : (i : ℕ) → o ≡ code.RaiseInitial i → Puts old new (λ e. out.let_in given (out.plain (op.initial i) []) (packed given (out.let_in (var x) (out.raise given) e))) → Puts old new (put o)
  puts-initial i is = puts-op (code.RaiseInitial i) (λ e. out.let_in given (out.plain (op.initial i) []) (packed given (out.let_in (var x) (out.raise given) e))) is (λ e. refl)

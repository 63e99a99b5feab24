-- What an operation's word says, and what an operation puts.
use Rattle.std.proofs.Common.{◌≡◌, ◌+◌, ℕ, Bool, true, false, List, [], ◌∷◌, ◌++◌, map, Option, None, Vec, Global, refl, sym, ap, ap₂, subst, ◌∙◌, arith}
use Rattle.mlc_base.specs.declared.place.Place.{Place}
use Rattle.mlc_prims.specs.declared.basis.BasisPrimitive.{BasisPrimitive}
use Rattle.ty_core.specs.Types.{Typ}
use Rattle.ty_table.specs.TypeAt.{type_at}
use Rattle.ir_tables.specs.Tables.{strings_of}
use Rattle.ir_tables.specs.declared.tables.Tables.{Tables}
use Rattle.ir_plain.specs.Copies.{strip_op}
use Rattle.ir_plain.specs.Tree.{Op, use_of, con_alone, construct, ref_alone, refer, content, pack, select, prim_alone, app, raise}
use Rattle.ir_plain.specs.Weight.{op_weight}
use Rattle.ir_poly.specs.Tests.{inst}
use Rattle.plain_tree.specs.TreeOf.{operation_of, row_of, atoms_of}
use Rattle.plain_tree.specs.declared.tree.Field.{Field}
use Rattle.plain_tree.specs.declared.tree.Operation.{Operation}
use Rattle.plain_tree.specs.declared.tree.Operation.TheVariants as op
use Rattle.tests_check.specs.Reads.{reading}
use Rattle.monomorphise.specs.Expansion.{op_compared, if_equals}
use Rattle.monomorphise.specs.Monomorphise.{Name, Named, Groups, copy_row, copy_atoms, row_needs, atoms_needs, op_copy, used}
use Rattle.mono_scopes.specs.Scopes.{noting}
use Rattle.mono_state.specs.of_mono_words.Words.{Sign, op_sign, record_sign, perform_sign, spell_op, spell_row, spell_atoms}
use Rattle.mono_state.specs.of_mono_words.Made.{turned_op, op_made}
use Rattle.mono_state.specs.of_mono_words.Seen.{Seen, with_sign, with_needs, with_compared, made}
use Rattle.mono_close.specs.Closing.{standing}
use Rattle.mono_state.specs.Seen.{Held, name_in, groups_in, sign_of_act}
use Rattle.mono_state.specs.declared.copier.Copier.{Copier}
use Rattle.mono_state.specs.declared.word.Act.{Act}
use Rattle.mono_state.specs.declared.word.Act.TheVariants as act
use Rattle.mono_parts.proofs.Putting.{needs-both}
use Rattle.mono_parts.specs.Operations.{type_in, first_in, second_in, act_with, IfType, IfName, FirstIs, first_needs, if_needs, own_needs, own_sign, list_made, compared_in}

-- an operation that is no use of a variable says an atom first, or none
pub first-needs-atom : (t : Tables) (g : Groups) (s : ℕ → Typ) (o : Operation) → ((x : ℕ) (us : Vec ℕ Global) → o ≡ op.Use x us → ⊥) → first_needs t g s o ≡ if_needs (first_in o)
first-needs-atom t g s (op.Use x us) h = absurd (h x us refl)
first-needs-atom t g s (op.Constant c) h = refl
first-needs-atom t g s (op.Constructor c v) h = refl
first-needs-atom t g s (op.Construct m c v k) h = refl
first-needs-atom t g s (op.Reference v) h = refl
first-needs-atom t g s (op.Refer m v k) h = refl
first-needs-atom t g s (op.Content v k) h = refl
first-needs-atom t g s (op.Pack m v x k) h = refl
first-needs-atom t g s (op.Record v fs) h = refl
first-needs-atom t g s (op.Select v l k) h = refl
first-needs-atom t g s (op.Primitive p v) h = refl
first-needs-atom t g s (op.Perform m p v as_) h = refl
first-needs-atom t g s (op.Apply place f k) h = refl
first-needs-atom t g s (op.Raise k) h = refl
first-needs-atom t g s (op.RaiseInitial j) h = refl

pub first-is-atom : (H : Held) (t : Tables) (g : Groups) (s : ℕ → Typ) (o : Operation) (n : ℕ) → ((x : ℕ) (us : Vec ℕ Global) → o ≡ op.Use x us → ⊥) → IfName H (first_in o) n → FirstIs H t g s o n
first-is-atom H t g s (op.Use x us) n h w = absurd (h x us refl)
first-is-atom H t g s (op.Constant c) n h w = w
first-is-atom H t g s (op.Constructor c v) n h w = w
first-is-atom H t g s (op.Construct m c v k) n h w = w
first-is-atom H t g s (op.Reference v) n h w = w
first-is-atom H t g s (op.Refer m v k) n h w = w
first-is-atom H t g s (op.Content v k) n h w = w
first-is-atom H t g s (op.Pack m v x k) n h w = w
first-is-atom H t g s (op.Record v fs) n h w = w
first-is-atom H t g s (op.Select v l k) n h w = w
first-is-atom H t g s (op.Primitive p v) n h w = w
first-is-atom H t g s (op.Perform m p v as_) n h w = w
first-is-atom H t g s (op.Apply place f k) n h w = w
first-is-atom H t g s (op.Raise k) n h w = w
first-is-atom H t g s (op.RaiseInitial j) n h w = w

-- the types at which a word compares values
abbrev sign_compared : Sign → List Typ
sign_compared (op_sign o) = op_compared o
sign_compared (perform_sign m p t) = if_equals p t
sign_compared _ = []

compared-sign : (t : Tables) (H : Held) (a : Act) → compared_in H a ≡ sign_compared (sign_of_act (strings_of t) H a)
compared-sign t H (act.Use n) = refl
compared-sign t H (act.Constant c) = refl
compared-sign t H (act.Constructor c v) = refl
compared-sign t H (act.Construct m c v n) = refl
compared-sign t H (act.Reference v) = refl
compared-sign t H (act.Refer m v n) = refl
compared-sign t H (act.Content v n) = refl
compared-sign t H (act.Pack m v x n) = refl
compared-sign t H (act.Record v) = refl
compared-sign t H (act.Select v l n) = refl
compared-sign t H (act.Primitive p v) = refl
compared-sign t H (act.Perform m p v) = refl
compared-sign t H (act.Apply place f n) = refl
compared-sign t H (act.Raise n) = refl
compared-sign t H (act.RaiseInitial n) = refl

module _ (t : Tables) (H : Held) (g : Groups) (s : ℕ → Typ) where
  -- its copy, with turns or without
  abbrev its : Bool → Operation → Op Named
  its strip o = turned_op strip (op_copy g s (operation_of (reading t) o))

  same-turned : (strip : Bool) (x : Op Named) → strip_op x ≡ x → turned_op strip x ≡ x
  same-turned true x e = e
  same-turned false x e = refl

  pub act-is : (o : Operation) (strip : Bool) (u a b : ℕ) → IfType H s t.types (type_in o) u → FirstIs H t g s o a → IfName H (second_in o) b
      → sign_of_act (strings_of t) H (act_with o strip u a b) ≡ own_sign (its strip o)
  act-is (op.Use x us) true u a b p q r = ap (λ k. op_sign (use_of k)) q
  act-is (op.Use x us) false u a b p q r = ap (λ k. op_sign (use_of k)) q
  act-is (op.Constant c) true u a b p q r = refl
  act-is (op.Constant c) false u a b p q r = refl
  act-is (op.Constructor c v) true u a b p q r = ap (λ y. op_sign (con_alone c y)) p
  act-is (op.Constructor c v) false u a b p q r = ap (λ y. op_sign (con_alone c y)) p
  act-is (op.Reference v) true u a b p q r = ap (λ y. op_sign (ref_alone y)) p
  act-is (op.Reference v) false u a b p q r = ap (λ y. op_sign (ref_alone y)) p
  act-is (op.Refer m v k) true u a b p q r = ap₂ (λ y z. op_sign (refer m y z)) p q
  act-is (op.Refer m v k) false u a b p q r = ap₂ (λ y z. op_sign (refer m y z)) p q
  act-is (op.Content v k) true u a b p q r = ap₂ (λ y z. op_sign (content y z)) p q
  act-is (op.Content v k) false u a b p q r = ap₂ (λ y z. op_sign (content y z)) p q
  act-is (op.Record v fs) true u a b p q r = ap record_sign p
  act-is (op.Record v fs) false u a b p q r = ap record_sign p
  act-is (op.Select v l k) true u a b p q r = ap₂ (λ y z. op_sign (select y l z)) p q
  act-is (op.Select v l k) false u a b p q r = ap₂ (λ y z. op_sign (select y l z)) p q
  act-is (op.Primitive y v) true u a b p q r = ap (λ z. op_sign (prim_alone y z)) p
  act-is (op.Primitive y v) false u a b p q r = ap (λ z. op_sign (prim_alone y z)) p
  act-is (op.Perform m y v as_) true u a b p q r = ap (λ z. perform_sign m y z) p
  act-is (op.Perform m y v as_) false u a b p q r = ap (λ z. perform_sign m y z) p
  act-is (op.Apply place f k) true u a b p q r = ap₂ (λ y z. op_sign (app place y z)) q r
  act-is (op.Apply place f k) false u a b p q r = ap₂ (λ y z. op_sign (app place y z)) q r
  act-is (op.Raise k) true u a b p q r = ap (λ y. op_sign (raise y)) q
  act-is (op.Raise k) false u a b p q r = ap (λ y. op_sign (raise y)) q
  act-is (op.RaiseInitial j) true u a b p q r = refl
  act-is (op.RaiseInitial j) false u a b p q r = refl
  act-is (op.Construct m c v k) true u a b p q r = ap₂ (λ y z. op_sign (construct None c y z)) p q
  act-is (op.Construct m c v k) false u a b p q r = ap₂ (λ y z. op_sign (construct m c y z)) p q
  act-is (op.Pack m v x k) true u a b p q r = λ i. op_sign (pack None (p i) (q i) (r i))
  act-is (op.Pack m v x k) false u a b p q r = λ i. op_sign (pack m (p i) (q i) (r i))

  plain-put : (x : Op Named) (v : List Name) (n : Seen) → ((ws : List Sign) → spell_op x ws ≡ own_sign x ∷ ws) → sign_compared (own_sign x) ≡ op_compared x → op_weight x ≡ 0
      → with_sign (own_sign x) (with_compared (sign_compared (own_sign x)) (with_needs v n)) ≡ made (spell_op x) v (op_compared x) (op_weight x) n
  plain-put x v n f c k =
      let p : own_sign x ∷ n.signs ≡ spell_op x n.signs = sym (f n.signs) in
      let q : sign_compared (own_sign x) ++ n.compared ≡ op_compared x ++ n.compared = ap (λ z. z ++ n.compared) c in
      let r : n.nodes ≡ n.nodes + op_weight x = omega (arith, k) in
      λ i. record { signs = p i; scopes = noting v n.scopes; compared = q i; nodes = r i }

  op-put : (o : Operation) (strip : Bool) (n : Seen)
      → with_sign (own_sign (its strip o)) (with_compared (sign_compared (own_sign (its strip o))) (with_needs (own_needs t g s o) (list_made t o n))) ≡ op_made strip g s (operation_of (reading t) o) n
  op-put (op.Use x us) true n = plain-put (its true (op.Use x us)) (own_needs t g s (op.Use x us)) n (λ ws. refl) refl refl
  op-put (op.Use x us) false n = plain-put (its false (op.Use x us)) (own_needs t g s (op.Use x us)) n (λ ws. refl) refl refl
  op-put (op.Constant c) true n = plain-put (its true (op.Constant c)) (own_needs t g s (op.Constant c)) n (λ ws. refl) refl refl
  op-put (op.Constant c) false n = plain-put (its false (op.Constant c)) (own_needs t g s (op.Constant c)) n (λ ws. refl) refl refl
  op-put (op.Constructor c v) true n = plain-put (its true (op.Constructor c v)) (own_needs t g s (op.Constructor c v)) n (λ ws. refl) refl refl
  op-put (op.Constructor c v) false n = plain-put (its false (op.Constructor c v)) (own_needs t g s (op.Constructor c v)) n (λ ws. refl) refl refl
  op-put (op.Construct m c v k) true n = plain-put (its true (op.Construct m c v k)) (own_needs t g s (op.Construct m c v k)) n (λ ws. refl) refl refl
  op-put (op.Construct m c v k) false n = plain-put (its false (op.Construct m c v k)) (own_needs t g s (op.Construct m c v k)) n (λ ws. refl) refl refl
  op-put (op.Reference v) true n = plain-put (its true (op.Reference v)) (own_needs t g s (op.Reference v)) n (λ ws. refl) refl refl
  op-put (op.Reference v) false n = plain-put (its false (op.Reference v)) (own_needs t g s (op.Reference v)) n (λ ws. refl) refl refl
  op-put (op.Refer m v k) true n = plain-put (its true (op.Refer m v k)) (own_needs t g s (op.Refer m v k)) n (λ ws. refl) refl refl
  op-put (op.Refer m v k) false n = plain-put (its false (op.Refer m v k)) (own_needs t g s (op.Refer m v k)) n (λ ws. refl) refl refl
  op-put (op.Content v k) true n = plain-put (its true (op.Content v k)) (own_needs t g s (op.Content v k)) n (λ ws. refl) refl refl
  op-put (op.Content v k) false n = plain-put (its false (op.Content v k)) (own_needs t g s (op.Content v k)) n (λ ws. refl) refl refl
  op-put (op.Pack m v x k) true n = plain-put (its true (op.Pack m v x k)) (own_needs t g s (op.Pack m v x k)) n (λ ws. refl) refl refl
  op-put (op.Pack m v x k) false n = plain-put (its false (op.Pack m v x k)) (own_needs t g s (op.Pack m v x k)) n (λ ws. refl) refl refl
  op-put (op.Select v l k) true n = plain-put (its true (op.Select v l k)) (own_needs t g s (op.Select v l k)) n (λ ws. refl) refl refl
  op-put (op.Select v l k) false n = plain-put (its false (op.Select v l k)) (own_needs t g s (op.Select v l k)) n (λ ws. refl) refl refl
  op-put (op.Primitive p v) true n = plain-put (its true (op.Primitive p v)) (own_needs t g s (op.Primitive p v)) n (λ ws. refl) refl refl
  op-put (op.Primitive p v) false n = plain-put (its false (op.Primitive p v)) (own_needs t g s (op.Primitive p v)) n (λ ws. refl) refl refl
  op-put (op.Apply place f k) true n = plain-put (its true (op.Apply place f k)) (own_needs t g s (op.Apply place f k)) n (λ ws. refl) refl refl
  op-put (op.Apply place f k) false n = plain-put (its false (op.Apply place f k)) (own_needs t g s (op.Apply place f k)) n (λ ws. refl) refl refl
  op-put (op.Raise k) true n = plain-put (its true (op.Raise k)) (own_needs t g s (op.Raise k)) n (λ ws. refl) refl refl
  op-put (op.Raise k) false n = plain-put (its false (op.Raise k)) (own_needs t g s (op.Raise k)) n (λ ws. refl) refl refl
  op-put (op.RaiseInitial j) true n = plain-put (its true (op.RaiseInitial j)) (own_needs t g s (op.RaiseInitial j)) n (λ ws. refl) refl refl
  op-put (op.RaiseInitial j) false n = plain-put (its false (op.RaiseInitial j)) (own_needs t g s (op.RaiseInitial j)) n (λ ws. refl) refl refl
  op-put (op.Record v fs) true n = refl
  op-put (op.Record v fs) false n = refl
  op-put (op.Perform m y v as_) true n = refl
  op-put (op.Perform m y v as_) false n = refl

  pub op-signed : (o : Operation) (strip : Bool) (act : Act) (n₀ n₁ n₂ n₃ n₄ : Seen) → n₁ ≡ list_made t o n₀ → n₂ ≡ with_needs (own_needs t g s o) n₁ → n₃ ≡ with_compared (compared_in H act) n₂
      → n₄ ≡ with_sign (sign_of_act (strings_of t) H act) n₃ → sign_of_act (strings_of t) H act ≡ own_sign (its strip o) → n₄ ≡ op_made strip g s (operation_of (reading t) o) n₀
  op-signed o strip act n₀ n₁ n₂ n₃ n₄ p q r u e =
      u ∙ ap (with_sign (sign_of_act (strings_of t) H act)) (r ∙ ap₂ with_compared (compared-sign t H act) (q ∙ ap (with_needs (own_needs t g s o)) p))
      ∙ ap (λ w. with_sign w (with_compared (sign_compared w) (with_needs (own_needs t g s o) (list_made t o n₀)))) e
      ∙ op-put o strip n₀

-- a variable at types, as the code reads it
pub use-noted : (t : Tables) (g : Groups) (s : ℕ → Typ) (o : Operation) (x : ℕ) (us : Vec ℕ Global) (taken : List ℕ) (n₀ n₁ : Seen) → o ≡ op.Use x us → taken ≡ us.items
    → n₁ ≡ with_needs (used g s (inst x (map (type_at t.types) taken)) ∷ []) n₀ → n₁ ≡ with_needs (first_needs t g s o) n₀
use-noted t g s o x us taken n₀ n₁ e k p =
    p ∙ ap (λ l. with_needs (used g s (inst x (map (type_at t.types) l)) ∷ []) n₀) k ∙ ap (λ z. with_needs (first_needs t g s z) n₀) (sym e)

pub use-is : (H : Held) (t : Tables) (g : Groups) (s : ℕ → Typ) (o : Operation) (x : ℕ) (us : Vec ℕ Global) (taken : List ℕ) (n : ℕ) → o ≡ op.Use x us → taken ≡ us.items
    → name_in H n ≡ used g s (inst x (map (type_at t.types) taken)) → FirstIs H t g s o n
use-is H t g s o x us taken n e k p = subst (λ z. FirstIs H t g s z n) (sym e) (p ∙ ap (λ l. used g s (inst x (map (type_at t.types) l))) k)

pub atom-noted : (t : Tables) (g : Groups) (s : ℕ → Typ) (o : Operation) (said : Option ℕ) (n₀ n₁ : Seen) → ((x : ℕ) (us : Vec ℕ Global) → o ≡ op.Use x us → ⊥) → said ≡ first_in o
    → n₁ ≡ with_needs (if_needs said) n₀ → n₁ ≡ with_needs (first_needs t g s o) n₀
atom-noted t g s o said n₀ n₁ h e p = p ∙ ap (λ v. with_needs (if_needs v) n₀) e ∙ ap (λ w. with_needs w n₀) (sym (first-needs-atom t g s o h))

pub atom-is : (H : Held) (t : Tables) (g : Groups) (s : ℕ → Typ) (o : Operation) (said : Option ℕ) (n : ℕ) → ((x : ℕ) (us : Vec ℕ Global) → o ≡ op.Use x us → ⊥) → said ≡ first_in o → IfName H said n → FirstIs H t g s o n
atom-is H t g s o said n h e p = first-is-atom H t g s o n h (subst (λ v. IfName H v n) e p)

-- lists of atoms, as the code reads them
pub record-list : (t : Tables) (o : Operation) (u : ℕ) (fs : Vec Field Global) (taken : List Field) (n₀ n₁ : Seen) → o ≡ op.Record u fs → taken ≡ fs.items
    → n₁ ≡ made (spell_row (copy_row (row_of (reading t) taken))) (row_needs (row_of (reading t) taken)) [] 0 n₀ → n₁ ≡ list_made t o n₀
record-list t o u fs taken n₀ n₁ e k p =
    p ∙ ap (λ l. made (spell_row (copy_row (row_of (reading t) l))) (row_needs (row_of (reading t) l)) [] 0 n₀) k ∙ ap (λ z. list_made t z n₀) (sym e)

pub perform-list : (t : Tables) (o : Operation) (m : Option Place) (q : BasisPrimitive) (u : ℕ) (as_ : Vec ℕ Global) (taken : List ℕ) (n₀ n₁ : Seen) → o ≡ op.Perform m q u as_ → taken ≡ as_.items
    → n₁ ≡ made (spell_atoms (copy_atoms (atoms_of (reading t) taken))) (atoms_needs (atoms_of (reading t) taken)) [] 0 n₀ → n₁ ≡ list_made t o n₀
perform-list t o m q u as_ taken n₀ n₁ e k p =
    p ∙ ap (λ l. made (spell_atoms (copy_atoms (atoms_of (reading t) l))) (atoms_needs (atoms_of (reading t) l)) [] 0 n₀) k ∙ ap (λ z. list_made t z n₀) (sym e)

pub no-list : (t : Tables) (o : Operation) (n : Seen) → ((u : ℕ) (fs : Vec Field Global) → o ≡ op.Record u fs → ⊥) → ((m : Option Place) (q : BasisPrimitive) (u : ℕ) (as_ : Vec ℕ Global) → o ≡ op.Perform m q u as_ → ⊥)
    → n ≡ list_made t o n
no-list t (op.Record v fs) n h k = absurd (h v fs refl)
no-list t (op.Perform m p v as_) n h k = absurd (k m p v as_ refl)
no-list t (op.Use x us) n h k = refl
no-list t (op.Constant c) n h k = refl
no-list t (op.Constructor c v) n h k = refl
no-list t (op.Construct m c v a) n h k = refl
no-list t (op.Reference v) n h k = refl
no-list t (op.Refer m v a) n h k = refl
no-list t (op.Content v a) n h k = refl
no-list t (op.Pack m v x a) n h k = refl
no-list t (op.Select v l a) n h k = refl
no-list t (op.Primitive p v) n h k = refl
no-list t (op.Apply place f a) n h k = refl
no-list t (op.Raise a) n h k = refl
no-list t (op.RaiseInitial j) n h k = refl

-- what an operation says, where the walk stood in the same groups and under the same types
pub both-noted : (t : Tables) (H : Held) (o : Operation) (old mid : Copier) (n₀ n₁ n₂ : Seen) → mid.own ≡ old.own → mid.slots ≡ old.slots → n₁ ≡ with_needs (if_needs (second_in o)) n₀
    → n₂ ≡ with_needs (first_needs t (groups_in H mid.own) (standing H.types mid.slots) o) n₁ → n₂ ≡ with_needs (own_needs t (groups_in H old.own) (standing H.types old.slots) o) n₀
both-noted t H o old mid n₀ n₁ n₂ a b p q =
    q
    ∙ (λ i. with_needs (first_needs t (groups_in H (a i)) (standing H.types (b i)) o) (p i))
    ∙ needs-both (first_needs t (groups_in H old.own) (standing H.types old.slots) o) (if_needs (second_in o)) n₀

pub act-made : (t : Tables) (H : Held) (o : Operation) (old mid : Copier) (strip : Bool) (u a b : ℕ) (act : Act) → mid.own ≡ old.own → mid.slots ≡ old.slots → act ≡ act_with o strip u a b
    → IfType H (standing H.types old.slots) t.types (type_in o) u → FirstIs H t (groups_in H mid.own) (standing H.types mid.slots) o a → IfName H (second_in o) b
    → sign_of_act (strings_of t) H act ≡ own_sign (turned_op strip (op_copy (groups_in H old.own) (standing H.types old.slots) (operation_of (reading t) o)))
act-made t H o old mid strip u a b act e f is p q r =
    ap (sign_of_act (strings_of t) H) is
    ∙ act-is t H (groups_in H old.own) (standing H.types old.slots) o strip u a b p (subst₂' (λ x y. FirstIs H t (groups_in H x) (standing H.types y) o a) e f q) r
  where
    subst₂' : {x y : List (ℕ × ℕ)} {z w : List (ℕ × ℕ)} (P : List (ℕ × ℕ) → List (ℕ × ℕ) → Type 0) → x ≡ y → z ≡ w → P x z → P y w
    subst₂' {y = y} {z = z} P p q h = subst (P y) q (subst (λ v. P v z) p h)

-- and puts, where its word was made behind its list
pub op-whole : (t : Tables) (H : Held) (o : Operation) (strip : Bool) (act : Act) (old mid : Copier) (n₀ n₁ n₂ n₃ n₄ : Seen) → mid.own ≡ old.own → mid.slots ≡ old.slots → n₁ ≡ list_made t o n₀
    → n₂ ≡ with_needs (own_needs t (groups_in H mid.own) (standing H.types mid.slots) o) n₁ → n₃ ≡ with_compared (compared_in H act) n₂ → n₄ ≡ with_sign (sign_of_act (strings_of t) H act) n₃
    → sign_of_act (strings_of t) H act ≡ own_sign (turned_op strip (op_copy (groups_in H mid.own) (standing H.types mid.slots) (operation_of (reading t) o)))
    → n₄ ≡ op_made strip (groups_in H old.own) (standing H.types old.slots) (operation_of (reading t) o) n₀
op-whole t H o strip act old mid n₀ n₁ n₂ n₃ n₄ a b p q r u e =
    op-signed t H (groups_in H mid.own) (standing H.types mid.slots) o strip act n₀ n₁ n₂ n₃ n₄ p q r u e
    ∙ (λ i. op_made strip (groups_in H (a i)) (standing H.types (b i)) (operation_of (reading t) o) n₀)

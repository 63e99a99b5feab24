-- The heads of functions that are declared together: patterns that bind identifiers, all of the function's one type.
use Rattle.std.specs.Prelude.{◌≡◌, ◌≤◌, ◌+◌, ℕ, Bool, true, false, List, [], ◌∷◌, ◌++◌, map, reverse}
use Rattle.std.specs.List.{AllByRecursion}
use Rattle.ty_core.specs.Types.{Typ}
use Rattle.sml_tree.specs.BareTree as bare
use Rattle.sml_tree.specs.declared.ident.Vid.{Vid}
use Rattle.core_rules.specs.Objects.{Over, value_in}
use Rattle.core_rules.specs.Restrictions.{is_kept}
use Rattle.core_rules.specs.Typing.{Bound, is_matched_in}
use Rattle.core_elab.specs.Resolves.{HeadTo}
use Rattle.core_elab.specs.Scopes.{Scope}
use Rattle.elab_typed.specs.Contexts.{Around, generic}
use Rattle.elab_typed.specs.Elaborates.{HeadElab}
use Rattle.elab_state.specs.declared.state.State.{State}
use Rattle.elab_steps.specs.Growing.{Always, Grows, HasType, IsWithin}
use Rattle.elab_steps.specs.World.{World, Comes, type_of}
use Rattle.elab_context.specs.Entries.{limit_of}
use Rattle.elab_context.specs.Telling.{Tells}
use Rattle.elab_context.specs.declared.context.Context.{Context}
use Rattle.elab_context.specs.declared.entry.Entry.{Entry}
use Rattle.elab_context.specs.declared.entry.Entry.TheVariants.{Own}
use Rattle.dec_forms.specs.of_pat_elab.Elaborated.{AreVariables, scope_onto}
use Rattle.dec_forms.specs.of_pat_elab.declared.bound.BoundVariable.{BoundVariable}
use Rattle.dec_forms.specs.of_exp_forms.Rules.{vids_of}
use Rattle.dec_forms.specs.Telling.{with_all}
use Rattle.rec_groups.specs.declared.head.Head.{Head}

-- a pattern that may be a head
abbrev pub is_head : bare.Pat → Bool
is_head (bare.wild_pat p) = true
is_head (bare.constant_pat p c) = false
is_head (bare.vid_pat p x) = elim x.qualifiers [ [] ↦ true | q ∷ qs ↦ false ]
is_head (bare.built_pat p b) = false
is_head (bare.fields_pat p fs b) = false
is_head (bare.con_pat p q x a) = false
is_head (bare.built_con_pat p b a) = false
is_head (bare.typed_pat p a t) = is_head a
is_head (bare.as_pat p x t a) = is_head a

-- its identifiers, the outermost first
abbrev pub head_vids : bare.Pat → List Vid
head_vids (bare.wild_pat p) = []
head_vids (bare.constant_pat p c) = []
head_vids (bare.vid_pat p x) = x.vid ∷ []
head_vids (bare.built_pat p b) = []
head_vids (bare.fields_pat p fs b) = []
head_vids (bare.con_pat p q x a) = []
head_vids (bare.built_con_pat p b a) = []
head_vids (bare.typed_pat p a t) = head_vids a
head_vids (bare.as_pat p x t a) = x ∷ head_vids a

abbrev pub numbers_of : List BoundVariable → List ℕ
numbers_of = map (λ b. b.number)

-- What is reserved

-- an identifier gets the next variable
pub record IsTaken (S : State) (x : Vid) (ty : ℕ) (before after : List BoundVariable) (T : State) : Type 0 where
  pub grows : Grows S T
  pub is : HasType T ty
  pub next : T.next ≡ S.next + 1
  pub added : after ≡ before ++ record { vid = x; number = S.next; ty = ty } ∷ []
  pub unkept : is_kept x ≡ false

-- the scope of a head in front of another, and the next variable, which is at most the j-th
pub record HeadUpTo (h : ℕ) (a : bare.Pat) (ns : List ℕ) (r q : Scope) (j : ℕ) : Type 0 where
  pub next : ℕ
  pub most : next ≤ j
  pub to : HeadTo h a ns r next q

-- the variables of a head, of one type, the innermost first
pub record Reserves (S : State) (a : bare.Pat) (ty : ℕ) (vars : List BoundVariable) (T : State) : Type 0 where
  pub grows : Grows S T
  pub have : AreVariables T vars
  pub typed : AllByRecursion (λ b. b.ty ≡ ty) vars
  pub shape : is_head a ≡ true
  pub vids : vids_of (reverse vars) ≡ head_vids a
  pub unkept : AllByRecursion (λ x. is_kept x ≡ false) (head_vids a)
  pub to : (h : ℕ) → h ≤ S.next → (r : Scope) → HeadUpTo h a (numbers_of (reverse vars)) r (scope_onto r vars) T.next

-- a head, at a type over what is in scope
pub record IsReserved (S : State) (C : Context) (a : bare.Pat) (T : State) (head : Head) : Type 0 where
  pub is : HasType T head.ty
  pub within : Always T (λ W. IsWithin W (limit_of C) head.ty)
  pub reserves : Reserves S a head.ty head.variables.items T

-- those of a group, the last function first
pub data AreReserved : State → Context → List bare.Pat → State → List Head → Type 0 where
  none_reserved : {S : State} {C : Context} → AreReserved S C [] S []
  one_reserved : {S M T : State} {C : Context} {a : bare.Pat} {as_ : List bare.Pat} {h : Head} {hs : List Head} → AreReserved S C as_ M hs
      → IsReserved M C a T h → AreReserved S C (a ∷ as_) T (h ∷ hs)

-- Their variables, as they are numbered, and the other way round.

abbrev pub rising : List Head → List BoundVariable
rising [] = []
rising (h ∷ hs) = rising hs ++ h.variables.items

abbrev pub falling : List Head → List BoundVariable
falling [] = []
falling (h ∷ hs) = reverse h.variables.items ++ falling hs

-- In scope, each as a function inside its group

abbrev pub own_entries : List BoundVariable → List (Vid × Entry)
own_entries = map (λ b. (b.vid, Own b.ty b.number))

abbrev pub with_own : Context → List Head → Context
with_own C hs = with_all C (own_entries (rising hs))

-- What is written in it

abbrev pub head_bound : Typ → List Vid → Bound
head_bound t = map (λ x. (x, t))

-- what is asked of it but that its types are those that are written: in its scope its identifiers are variables
pub record IsFitHead (A : Around) (a : bare.Pat) (t : Typ) : Type 0 where
  pub names : Over A.names t
  pub unmatched : AllByRecursion (λ x. is_matched_in (value_in (generic A).env x) ≡ false) (head_vids a)
  pub unkept : AllByRecursion (λ x. is_kept x ≡ false) (head_vids a)
  pub shape : is_head a ≡ true

abbrev pub IsHeadIn : Around → bare.Pat → Typ → Type 0
IsHeadIn A a t = IsFitHead A a t → HeadElab A a t (head_bound t (head_vids a))

-- the types that are written in a head are its type
pub record IsAnnotatedHead (S : State) (E : Context) (a : bare.Pat) (ty : ℕ) (T : State) : Type 0 where
  pub grows : Grows S T
  pub next : T.next ≡ S.next
  pub gives : (W : World) → Comes T W → (A : Around) → Tells E W A → IsHeadIn A a (type_of W ty)

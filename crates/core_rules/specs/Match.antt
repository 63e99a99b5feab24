-- Matching, and equality of values. [Definition 6.7, rules 133 to 149] A status tells an identifier that binds from one that is matched.
use Rattle.std.specs.Prelude.{ℕ, suc, Bool, true, false, ◌&&◌, ◌||◌, List, [], ◌∷◌, Option, Some, None, option_map, option_and_then, nat_eq, slice_get, if◌then◌else◌}
use Rattle.ty_basis.specs.of_mlc_prims.LitOf.{Literal, int, word, char, string}
use Rattle.ty_basis.specs.of_mlc_prims.Table.{literal_eq}
use Rattle.sml_tree.specs.Terminal as term
use Rattle.sml_tree.specs.Terminal.{LongVid}
use Rattle.sml_tree.specs.BareTree.{Pat, wild_pat, constant_pat, vid_pat, built_pat, fields_pat, con_pat, built_con_pat, typed_pat, as_pat, PatFields, no_pat_fields, pat_field}
use Rattle.sml_tree.specs.declared.ident.Vid.{Vid}
use Rattle.sml_tree.specs.declared.ident.BuiltIn.{BuiltIn}
use Rattle.sml_tree.specs.declared.ident.BuiltIn.TheVariants.{True, False, Nil, Cons}
use Rattle.ty_basis.specs.of_ty_core.declared.env.Status.{Status}
use Rattle.ty_basis.specs.of_ty_core.declared.env.Status.TheVariants.{Variable, Constructor, Exception}
use Rattle.core_rules.specs.Words.{same_vid}
use Rattle.core_rules.specs.Values.{Con, built, declared, Value, literal, record_of, con, con_of, ref, address, exn, exn_of, Fields, no_fields, field, Env, nothing, value, plus, Found, long_value_in, field_in, count}

abbrev pub constant_of : term.Constant → Literal
constant_of k = elim k [ term.int z ↦ int z | term.word n ↦ word n | term.char n ↦ char n | term.string s ↦ string s ]

-- What a value is.

abbrev pub literal_in : Value → Option Literal
literal_in v = elim v [ literal l ↦ Some l | u ↦ None ]

abbrev pub fields_in : Value → Option Fields
fields_in v = elim v [ record_of fs ↦ Some fs | u ↦ None ]

abbrev pub address_in : Value → Option ℕ
address_in v = elim v [ address a ↦ Some a | u ↦ None ]

-- a constructor, or an exception name, and its argument if it has one
pub record Tagged (A : Type 0) : Type 0 where
  pub tag : A
  pub argument : Option Value

abbrev pub con_in : Value → Option (Tagged Con)
con_in v = elim v [ con c ↦ Some (record { tag = c; argument = None }) | con_of c w ↦ Some (record { tag = c; argument = Some w }) | u ↦ None ]

abbrev pub exn_in : Value → Option (Tagged ℕ)
exn_in v = elim v [ exn n ↦ Some (record { tag = n; argument = None }) | exn_of n w ↦ Some (record { tag = n; argument = Some w }) | u ↦ None ]

abbrev pub same_built : BuiltIn → BuiltIn → Bool
same_built True True = true
same_built False False = true
same_built Nil Nil = true
same_built Cons Cons = true
same_built b c = false

abbrev pub same_con : Con → Con → Bool
same_con (built b) (built c) = same_built b c
same_con (declared x) (declared y) = same_vid x y
same_con c d = false

-- Equality: of all parts; of references by identity. Functions and packets have none, nor has what has such a part, wherever it stands.

-- the answer for two parts: both have one, and both say yes
abbrev pub both_equal : Option Bool → Option Bool → Option Bool
both_equal o more = option_and_then (λ b. option_map (λ c. b && c) more) o

abbrev mutual
  pub same_value : Value → Value → Option Bool
  same_value (literal l) w = option_and_then (literal_eq l) (literal_in w)
  same_value (record_of fs) w = option_and_then (same_fields fs) (fields_in w)
  same_value (con c) w = option_map (λ d. same_con c d.tag) (con_in w)
  same_value (con_of c v) w = option_and_then (λ d. if same_con c d.tag then option_and_then (same_value v) d.argument else Some false) (con_in w)
  same_value (address a) w = option_map (nat_eq a) (address_in w)
  same_value v w = None

  pub same_fields : Fields → Fields → Option Bool
  same_fields no_fields gs = Some true
  same_fields (field l v fs) gs = both_equal (option_and_then (same_value v) (field_in l gs)) (same_fields fs gs)

-- Matching

-- what a pattern gives: bindings, failure, or neither, for a value of a wrong kind
pub data Matching : Type 0 where
  binds : Env → Matching
  fails : Matching
  misfits : Matching

abbrev pub then_match : Matching → (Env → Matching) → Matching
then_match m go = elim m [ binds d ↦ go d | fails ↦ fails | misfits ↦ misfits ]

-- goes on where a test of values of one kind says yes
abbrev pub where_same : Option Bool → Matching → Matching
where_same o go = elim o [ None ↦ misfits | Some true ↦ go | Some false ↦ fails ]

-- goes on with a value
abbrev pub on_found : Option Value → (Value → Matching) → Matching
on_found o go = elim o [ None ↦ misfits | Some v ↦ go v ]

-- goes on with the argument behind the same tag
abbrev pub behind : {A : Type 0} → (A → A → Bool) → A → Option (Tagged A) → (Value → Matching) → Matching
behind same t o go = elim o [ None ↦ misfits | Some u ↦ if same t u.tag then on_found u.argument go else fails ]

-- a constructor, `ref` or an exception name f against v, whose argument is for go
abbrev pub against : List Value → Value → Value → (Value → Matching) → Matching
against store (con c) v go = behind same_con c (con_in v) go
against store ref v go = on_found (option_and_then (slice_get store) (address_in v)) go
against store (exn n) v go = behind nat_eq n (exn_in v) go
against store f v go = misfits

-- the same without an argument
abbrev pub unless_argument : Option Value → Matching
unless_argument o = elim o [ None ↦ binds nothing | Some v ↦ misfits ]

abbrev pub tagged : {A : Type 0} → (A → A → Bool) → A → Option (Tagged A) → Matching
tagged same t o = elim o [ None ↦ misfits | Some u ↦ if same t u.tag then unless_argument u.argument else fails ]

abbrev pub alone : Value → Value → Matching
alone (con c) v = tagged same_con c (con_in v)
alone (exn n) v = tagged nat_eq n (exn_in v)
alone f v = misfits

abbrev pub is_variable : Status → Bool
is_variable s = elim s [ Constructor ↦ false | Exception ↦ false | other ↦ true ]

abbrev pub bound_to : Vid → Value → Env
bound_to x v = value x Variable v nothing

-- an identifier by what it is in scope; a variable has no qualifiers
abbrev pub match_variable : List ℕ → Vid → Value → Matching
match_variable qs x v = elim qs [ [] ↦ binds (bound_to x v) | q ∷ rest ↦ misfits ]

abbrev pub match_vid : Option Found → LongVid → Value → Matching
match_vid None x v = match_variable x.qualifiers x.vid v
match_vid (Some f) x v = if is_variable f.status then match_variable x.qualifiers x.vid v else alone f.value v

abbrev pub match_con : Option Found → List Value → Value → (Value → Matching) → Matching
match_con o store v go = elim o [ None ↦ misfits | Some f ↦ if is_variable f.status then misfits else against store f.value v go ]

-- the fields of a record: those of the pattern, and others only where `...` ends it
abbrev pub pat_count : PatFields → ℕ
pat_count no_pat_fields = 0
pat_count (pat_field l a fs) = suc (pat_count fs)

abbrev pub on_fields : ℕ → Bool → Option Fields → (Fields → Matching) → Matching
on_fields n further o go = elim o [ None ↦ misfits | Some gs ↦ if further || nat_eq n (count gs) then go gs else misfits ]

-- under the environment e, with the references of the store
abbrev mutual
  pub match : Env → List Value → Pat → Value → Matching
  match e store (wild_pat p) v = binds nothing
  match e store (constant_pat p c) v = where_same (option_and_then (literal_eq (constant_of c)) (literal_in v)) (binds nothing)
  match e store (vid_pat p x) v = match_vid (long_value_in e x) x v
  match e store (built_pat p b) v = alone (con (built b)) v
  match e store (fields_pat p fs further) v = on_fields (pat_count fs) further (fields_in v) (match_fields e store fs)
  match e store (con_pat p q x a) v = match_con (long_value_in e x) store v (match e store a)
  match e store (built_con_pat p b a) v = against store (con (built b)) v (match e store a)
  match e store (typed_pat p a t) v = match e store a v
  match e store (as_pat p x t a) v = then_match (match e store a v) (λ d. binds (plus (bound_to x v) d))

  pub match_fields : Env → List Value → PatFields → Fields → Matching
  match_fields e store no_pat_fields gs = binds nothing
  match_fields e store (pat_field l a fs) gs =
      on_found (field_in l gs) (λ v. then_match (match e store a v) (λ d. then_match (match_fields e store fs gs) (λ d'. binds (plus d d'))))

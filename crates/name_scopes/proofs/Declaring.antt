-- Declarations of types and exceptions: what stands in them, and what they bring into scope.
use Rattle.std.proofs.Common.{◌≡◌, ◌≤◌, ℕ, zero, Bool, true, false, List, [], ◌∷◌, ◌++◌, drop, length, map, nat_eq, reverse, Option, Some, None, refl, sym, ap, ap₂, subst, ◌∙◌, append_assoc, arith}
use Rattle.std.specs.Prelude.{◌-◌, cond, flat_map, is_some, option_and_then, option_map, unwrap_or}
use Rattle.std.specs.List.{Contains}
use Rattle.std.specs.Map.{lookup}
use Rattle.std.proofs.lemmas.List.{drop_at, length-append, length-map, length-reverse}
use Rattle.mlc_base.specs.declared.place.Place.{Place}
use Rattle.sml_tree.specs.BareTree as bare
use Rattle.sml_tree.specs.Derived.{binding_of, expand_bind, expand_con, expand_some, expand_ty}
use Rattle.sml_tree.specs.Phrases.{Phrase, con_bind, data_bind, ex_bind, some_ty, ty}
use Rattle.sml_tree.specs.TreeOf.{con_bind_of, data_bind_of, ex_bind_of, long_vid_of, some_ty_of, ty_of, type_bind_of}
use Rattle.sml_tree.specs.declared.ident.LongVid.{LongVid}
use Rattle.sml_tree.specs.declared.ident.Vid.{Vid}
use Rattle.sml_tree.specs.declared.tree.ConBind.{ConBind}
use Rattle.sml_tree.specs.declared.tree.DataBind.{DataBind}
use Rattle.sml_tree.specs.declared.tree.ExBind.{ExBind}
use Rattle.sml_tree.specs.declared.tree.ExBind.TheVariants as exn
use Rattle.sml_tree.specs.declared.tree.Ty.{Ty}
use Rattle.sml_tree.specs.declared.tree.TypeBind.{TypeBind}
use Rattle.core_rules.specs.Eval.{datatypes_env, types_env}
use Rattle.core_rules.specs.Restrictions.{exn_vids}
use Rattle.core_rules.specs.Unbound.{Unbound, all_in, exns_names, tycons_names, unless_bound, value_at}
use Rattle.core_rules.specs.Values.{Env, along, long_value_in, nothing, plus, tycon, tycon_in}
use Rattle.name_scopes.specs.Covering.{Brings, Covers, TyconFits}
use Rattle.name_scopes.specs.Entries.{con_entries, data_entries, type_entries}
use Rattle.name_scopes.specs.Nodes.{exn_phrase, type_phrase, ty_phrase}
use Rattle.name_scopes.specs.Parts.{expanded, some_ty_phrases}
use Rattle.name_scopes.specs.Placed.{AnyAt, Asks, At, Brought, Declared, FoundAt, place_of}
use Rattle.name_scopes.specs.Scopes.{tycon_found}
use Rattle.name_scopes.specs.declared.bound.Bound.{Bound}
use Rattle.name_scopes.specs.declared.bound.Bound.TheVariants.{Tycon}
use Rattle.name_scopes.specs.declared.sought.Sought.{Sought}
use Rattle.name_scopes.specs.declared.sought.What.TheVariants as whats
use Rattle.name_scopes.proofs.Covering.{both-bring, datas-bring, exns-bring, nothing-brings, replica-brings, tycons-bring, types-bring}
use Rattle.name_scopes.proofs.DecNodes.{datatypes-expanded, ex-bind-Same, tycons-expanded, type-bind-at}
use Rattle.name_scopes.proofs.Placing.{first-in, in-map, parts-at}

-- an identifier that isn't bound
pub at-unbound : {A : Type 0} (p : Sought) (o : Option A) (u : Unbound) → Asks p whats.Unbound (place_of u) → o ≡ None → At p (unless_bound o u)
at-unbound p o u at none = subst (λ o. At p (unless_bound o u)) (sym none) (record { unbound = u; is = first-in u []; place = at.place; what = at.what })

-- one of some phrases
any-in : (p : Sought) (e : Env) (xs : List Phrase) (x : Phrase) → Contains xs x → FoundAt p e x → AnyAt p (all_in e xs)
any-in p e xs x has h = record { scoped = record { scope = e; phrase = x }; is = in-map (λ x. record { scope = e; phrase = x }) xs x has; at = h }

pub in-types : (p : Sought) (e : Env) (bs : List TypeBind) (b : TypeBind) → Contains bs b → FoundAt p e (ty_phrase b.ty) → AnyAt p (all_in e (map type_phrase bs))
in-types p e bs b has h = any-in p e (map type_phrase bs) (type_phrase b) (in-map type_phrase bs b has) (type-bind-at p e b h)

pub in-exns : (p : Sought) (e : Env) (bs : List ExBind) (b : ExBind) → Contains bs b → FoundAt p e (exn_phrase b) → AnyAt p (all_in e (map exn_phrase bs))
in-exns p e bs b has h = any-in p e (map exn_phrase bs) (exn_phrase b) (in-map exn_phrase bs b has) h

pub in-some : (p : Sought) (e : Env) (bs : List bare.TypeBind) (o : Option Ty) (t : Ty) → o ≡ Some t → FoundAt p e (ty (expand_ty bs (ty_of t)))
    → AnyAt p (all_in e (some_ty (expand_some bs (some_ty_of o))))
in-some p e bs o t is h =
    subst (λ o. AnyAt p (all_in e (some_ty (expand_some bs (some_ty_of o))))) (sym is)
    (any-in p e (ty (expand_ty bs (ty_of t)) ∷ []) _ (first-in (ty (expand_ty bs (ty_of t))) []) h)

pub in-cons : (p : Sought) (e : Env) (bs : List bare.TypeBind) (cs : List ConBind) (c : ConBind) → Contains cs c
    → AnyAt p (all_in e (some_ty (expand_some bs (some_ty_of c.of_ty)))) → AnyAt p (all_in e (map con_bind (map (expand_con bs) (map con_bind_of cs))))
in-cons p e bs cs c has h =
    any-in p e _ _ (in-map con_bind _ _ (in-map (expand_con bs) _ _ (in-map con_bind_of cs c has))) (parts-at p e (con_bind (expand_con bs (con_bind_of c))) h)

pub in-datas : (p : Sought) (e : Env) (bs : List bare.TypeBind) (ds : List DataBind) (d : DataBind) → Contains ds d
    → AnyAt p (all_in e (map con_bind (map (expand_con bs) (map con_bind_of d.cons.items)))) → AnyAt p (all_in e (map data_bind (expanded bs ds)))
in-datas p e bs ds d has h =
    any-in p e _ _ (in-map data_bind _ _ (in-map (expand_bind bs) _ _ (in-map data_bind_of ds d has))) (parts-at p e (data_bind (expand_bind bs (data_bind_of d))) h)

some-are : (o : Option Ty) → some_ty (some_ty_of o) ≡ some_ty_phrases o
some-are None = refl
some-are (Some t) = refl

pub exn-New : (p : Sought) (e : Env) (b : ExBind) (q : Place) (v : Vid) (o : Option Ty) → b ≡ exn.New q v o → AnyAt p (all_in e (some_ty_phrases o)) → FoundAt p e (exn_phrase b)
exn-New p e b q v o is h =
    subst (λ z. FoundAt p e (ex_bind z)) (sym (ap ex_bind_of is))
    (parts-at p e (ex_bind (bare.new_exn q v (some_ty_of o))) (subst (λ l. AnyAt p (all_in e l)) (sym (some-are o)) h))

pub exn-Same : (p : Sought) (e : Env) (b : ExBind) (q : Place) (v : Vid) (r : Place) (y : LongVid) → b ≡ exn.Same q v r y → Asks p whats.Unbound r → long_value_in e (long_vid_of y) ≡ None
    → FoundAt p e (exn_phrase b)
exn-Same p e b q v r y is at none = ex-bind-Same p e b q v r y is (at-unbound p (long_value_in e (long_vid_of y)) (value_at r (long_vid_of y)) at none)

-- the names of abbreviations

abbrev pub named_types : List TypeBind → List (ℕ × ℕ)
named_types bs = map (λ b. (b.tycon, 0)) bs

pub named-are : (bs : List TypeBind) (x : ℕ) → is_some (lookup (nat_eq x) (named_types bs)) ≡ is_some (binding_of x (map type_bind_of bs))
named-are [] x = refl
named-are (b ∷ bs) x = by (nat_eq x b.tycon) (named-are bs x)
  where
    by : (t : Bool) → is_some (lookup (nat_eq x) (named_types bs)) ≡ is_some (binding_of x (map type_bind_of bs))
        → is_some (cond t (Some zero) (lookup (nat_eq x) (named_types bs))) ≡ is_some (cond t (Some (type_bind_of b)) (binding_of x (map type_bind_of bs)))
    by true h = refl
    by false h = h

-- what comes into scope

pub types-brought : (bs : List TypeBind) (old new : List Bound) → new ≡ type_entries (map (λ b. b.tycon) (map type_bind_of bs)) ++ old
    → Brought old new (λ e. types_env (map type_bind_of bs))
types-brought bs old new is = record { more = _; is = is; brings = λ e c. types-bring (map type_bind_of bs) }

pub tycons-brought : (as_ : List bare.TypeBind) (ds : List DataBind) (old new : List Bound) → new ≡ type_entries (map (λ b. b.tycon) (map data_bind_of ds)) ++ old
    → Brought old new (λ e. tycons_names (expanded as_ ds))
tycons-brought as_ ds old new is = record {
  more = _;
  is = is;
  brings = λ e c. subst (Brings (type_entries (map (λ b. b.tycon) (map data_bind_of ds)))) (sym (tycons-expanded as_ (map data_bind_of ds))) (tycons-bring (map data_bind_of ds));
}

pub datas-brought : (as_ : List bare.TypeBind) (ds : List DataBind) (old new : List Bound) → new ≡ flat_map data_entries (map data_bind_of ds) ++ old
    → Brought old new (λ e. datatypes_env (expanded as_ ds))
datas-brought as_ ds old new is = record {
  more = _;
  is = is;
  brings = λ e c. subst (Brings (flat_map data_entries (map data_bind_of ds))) (sym (datatypes-expanded as_ (map data_bind_of ds))) (datas-bring (map data_bind_of ds));
}

pub exns-brought : (bs : List ExBind) (old new : List Bound) → new ≡ con_entries (exn_vids (map ex_bind_of bs)) ++ old → Brought old new (λ e. exns_names (map ex_bind_of bs))
exns-brought bs old new is = record { more = _; is = is; brings = λ e c. exns-bring (map ex_bind_of bs) }

-- a datatype and its constructors
pub data-entries : (d : DataBind) (n : ℕ) (old mid new : List Bound) → n ≡ length d.cons.items → mid ≡ con_entries (map (λ c. c.vid) d.cons.items) ++ old → new ≡ Tycon d.tycon n ∷ mid
    → new ≡ data_entries (data_bind_of d) ++ old
data-entries d n old mid new len cons is =
    is
    ∙ ap₂ (λ k l. Tycon d.tycon k ∷ l) (len ∙ sym (length-map d.cons.items con_bind_of)) (cons ∙ ap (λ l. con_entries l ++ old) (sym (vids-are d.cons.items)))
  where
    vids-are : (cs : List ConBind) → map (λ c. c.vid) (map con_bind_of cs) ≡ map (λ c. c.vid) cs
    vids-are [] = refl
    vids-are (c ∷ cs) = ap (λ l. c.vid ∷ l) (vids-are cs)

-- a type constructor without qualifiers, as it is replicated

short-tycon : (e : Env) (qs : List ℕ) (x : ℕ) → length qs ≤ 0 → option_and_then (λ d. tycon_in d x) (along e qs) ≡ tycon_in e x
short-tycon e [] x le = refl
short-tycon e (q ∷ qs) x le = absurd (omega (arith, le))

replica-of : (name : ℕ) (cs : List Bound) (p : Option Env) → TyconFits (Some cs) p → Brings (Tycon name (length cs) ∷ cs) (unwrap_or (option_map (λ d. tycon name d d) p) nothing)
replica-of name cs None h = absurd h
replica-of name cs (Some d) h = replica-brings name cs d h

pub replica-brought : (old mid new : List Bound) (name : ℕ) (qs : List ℕ) (x n : ℕ) (cs : List Bound) → length qs ≤ 0 → Some (reverse cs) ≡ tycon_found old x → n ≡ length cs
    → mid ≡ reverse cs ++ old → new ≡ Tycon name n ∷ mid
    → Brought old new (λ e. unwrap_or (option_map (λ d. tycon name d d) (option_and_then (λ d. tycon_in d x) (along e qs))) nothing)
replica-brought old mid new name qs x n cs le found len front is = record {
  more = Tycon name (length (reverse cs)) ∷ reverse cs;
  is = is ∙ ap₂ (λ k l. Tycon name k ∷ l) (len ∙ sym (length-reverse cs)) front;
  brings = λ e c.
      subst (λ p. Brings (Tycon name (length (reverse cs)) ∷ reverse cs) (unwrap_or (option_map (λ d. tycon name d d) p) nothing)) (sym (short-tycon e qs x le))
      (replica-of name (reverse cs) (tycon_in e x) (subst (λ o. TyconFits o (tycon_in e x)) (sym found) (c.tycons x)));
}

pub none-replicated : (old : List Bound) (name : ℕ) (qs : List ℕ) (x : ℕ) → ((e : Env) → Covers old e → option_and_then (λ d. tycon_in d x) (along e qs) ≡ None)
    → Brought old old (λ e. unwrap_or (option_map (λ d. tycon name d d) (option_and_then (λ d. tycon_in d x) (along e qs))) nothing)
none-replicated old name qs x none = record {
  more = [];
  is = refl;
  brings = λ e c. subst (λ p. Brings [] (unwrap_or (option_map (λ d. tycon name d d) p) nothing)) (sym (none e c)) nothing-brings;
}

-- walks through declarations

pub declared-found : (old new : List Bound) (P : Env → Type 0) (names : Env → Env) → ((e : Env) → Covers old e → P e) → Declared true old new P names
declared-found old new P names h = record { right = λ u. h; brought = λ q. absurd (cc) }

pub declared-brought : (old new : List Bound) (P : Env → Type 0) (names : Env → Env) → Brought old new names → Declared false old new P names
declared-brought old new P names h = record { right = λ u. absurd (cc); brought = λ q. h }

-- what was found already
pub declared-before : (found : Bool) (old new : List Bound) (P Q : Env → Type 0) (names names' : Env → Env) → Declared found old new P names → found ≡ true → ((e : Env) → P e → Q e)
    → Declared true old new Q names'
declared-before found old new P Q names names' h is k = declared-found old new Q names' (λ e c. k e (h.right is e c))

-- an environment covers what it was brought into
pub brought-covers : (old new : List Bound) (names : Env → Env) → Brought old new names → (e : Env) → Covers old e → Covers new (plus e (names e))
brought-covers old new names h e c = subst (λ l. Covers l (plus e (names e))) (sym h.is) (h.brings e c old e c)

-- what was brought is left again
pub left-again : (old now : List Bound) (names : Env → Env) (n : ℕ) → Brought old now names → n ≡ length old → drop (length now - n) now ≡ old
left-again old now names n h len =
    ap (λ l. drop (length l - n) l) h.is
    ∙ drop_at h.more old (length (h.more ++ old) - n) (let sum = length-append h.more old in omega (arith, sum, len))

-- one declaration behind another
pub declared-then : (found : Bool) (old mid new : List Bound) (P Q : Env → Type 0) (first rest : Env → Env) → Brought old mid first
    → Declared found mid new (λ e. P e) rest → ((e : Env) → P (plus e (first e)) → Q e)
    → Declared found old new Q (λ e. plus (first e) (rest (plus e (first e))))
declared-then found old mid new P Q first rest a b k = record {
  right = λ u e c. k e (b.right u (plus e (first e)) (brought-covers old mid first a e c));
  brought = λ q.
      let d = b.brought q in
      record {
        more = d.more ++ a.more;
        is = d.is ∙ ap (λ l. d.more ++ l) a.is ∙ sym (append_assoc d.more a.more old);
        brings = λ e c. both-bring a.more d.more (first e) (rest (plus e (first e))) (a.brings e c) (d.brings (plus e (first e)) (brought-covers old mid first a e c));
      };
}

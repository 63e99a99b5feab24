-- From the parts of a node to the node, where they are told together.
use Rattle.std.proofs.Common.{◌≡◌, ◌<◌, ℕ, Bool, true, List, [], ◌∷◌, map, length, get_or, Vec, Box, Global, ◌⊎◌, inl, inr, Option, Some, None, ◌++◌, refl, sym, ap, ap₂, subst}
use Rattle.std.proofs.lemmas.List.Elements.{Contains-append_cases}
use Rattle.mlc_base.specs.declared.place.Place.{Place}
use Rattle.sml_tree.specs.BareTree as bare
use Rattle.sml_tree.specs.Derived.{expand_bind, expand_con, expand_some, first_pats}
use Rattle.sml_tree.specs.Phrases.{data_bind}
use Rattle.sml_tree.specs.Terminal as term
use Rattle.sml_tree.specs.TreeOf.{clause_of, data_bind_of}
use Rattle.sml_tree.specs.declared.tree.Clause.{Clause}
use Rattle.sml_tree.specs.declared.tree.DataBind.{DataBind}
use Rattle.sml_tree.specs.declared.tree.Dec.{Dec}
use Rattle.sml_tree.specs.declared.tree.Dec.TheVariants as decs
use Rattle.sml_tree.specs.declared.tree.Exp.{Exp}
use Rattle.sml_tree.specs.declared.tree.Exp.TheVariants as exps
use Rattle.sml_tree.specs.declared.tree.Function.{Function, out-Function}
use Rattle.sml_tree.specs.declared.tree.Joint.{Joint}
use Rattle.sml_tree.specs.declared.tree.Joint.TheVariants.{AndAlso, OrElse, Infix}
use Rattle.sml_tree.specs.declared.tree.Part.{Part}
use Rattle.sml_tree.specs.declared.tree.TypeBind.{TypeBind}
use Rattle.sml_tree.specs.declared.tree.TyvarSeq.{TyvarSeq}
use Rattle.core_rules.proofs.Fitting.{not-false}
use Rattle.core_rules.specs.Unbound.{value_at, unless_bound, Scoped, all_in, tycons_names}
use Rattle.core_rules.specs.Values.{Env, long_value_in, plus}
use Rattle.name_scopes.specs.Bindings.{fun_phrase}
use Rattle.name_scopes.specs.Covering.{Covers}
use Rattle.name_scopes.specs.Nodes.{clause_phrase, data_phrase, dec_phrase, exp_phrase, fresh_onto, function_phrase}
use Rattle.name_scopes.specs.Parts.{InParts, datatype_scopes, joint_unbound, withtype_scopes}
use Rattle.name_scopes.specs.Placed.{AnyAt, Asks, At, FoundAt, Walked}
use Rattle.name_scopes.specs.declared.bound.Bound.{Bound}
use Rattle.name_scopes.specs.declared.sought.Sought.{Sought}
use Rattle.name_scopes.specs.declared.sought.What.TheVariants as whats
use Rattle.name_scopes.proofs.Covering.{fresh-onto-covers}
use Rattle.name_scopes.proofs.DecNodes.{dec-Fun, dec-Fun-own, dec-Withtype-datas, dec-Withtype-types, function-in-clauses}
use Rattle.name_scopes.proofs.ExpNodes.{exp-Chain-rest, exp-Chain-vid}
use Rattle.name_scopes.proofs.Placing.{first-in, none-in}
use Rattle.name_scopes.proofs.Abbreviating.{as-it-was}
use Rattle.scope_walks.specs.Functions.{IsInFun, fun_names}
use Rattle.scope_walks.proofs.Walking.{any-in, is-in}

none-at : {A : Type 0} (p : Sought) → At p [] → A
none-at p h = absurd (none-in h.unbound h.is)

pub chain-parts : (p : Sought) (e : Env) (x : Exp) (q : Place) (right : Bool) (first : Box Exp Global) (parts : Vec Part Global) → x ≡ exps.Chain q right first parts → InParts p e parts.items
    → FoundAt p e (exp_phrase x)
chain-parts p e x q right first parts is h = elim h.at [
  | inl a ↦ joined h.part.joint refl a
  | inr u ↦ exp-Chain-rest p e x q right first parts is (any-in p e (λ (o : Part). exp_phrase o.exp) parts.items h.part h.is u)
]
  where
    joined : (j : Joint) → h.part.joint ≡ j → At p (joint_unbound e j) → FoundAt p e (exp_phrase x)
    joined AndAlso f a = none-at p a
    joined OrElse f a = none-at p a
    joined (Infix r v) f a = exp-Chain-vid p e x q right first parts is h.part r v h.is f a

pub part-found : (p : Sought) (xs : List Part) (i : ℕ) (x : Part) (b : Bool) (old mid new : List Bound) → i < length xs → x ≡ get_or xs i x → b ≡ true → mid ≡ old
    → Walked b mid new (λ e. FoundAt p e (exp_phrase x.exp)) → Walked true old new (λ e. InParts p e xs)
part-found p xs i x b old mid new lt e t m w = record {
  right = λ h d c. record { part = x; is = is-in xs i x lt e; at = inr (w.right t d (subst (λ s. Covers s d) (sym m) c)) };
  same = λ n. not-false n;
}

pub joint-found : (p : Sought) (xs : List Part) (i : ℕ) (x : Part) (b : Bool) (old mid new : List Bound) → i < length xs → x ≡ get_or xs i x → b ≡ true → mid ≡ old
    → (b ≡ true → (e : Env) → Covers mid e → At p (joint_unbound e x.joint)) → Walked true old new (λ e. InParts p e xs)
joint-found p xs i x b old mid new lt e t m w = record {
  right = λ h d c. record { part = x; is = is-in xs i x lt e; at = inl (w t d (subst (λ s. Covers s d) (sym m) c)) };
  same = λ n. not-false n;
}

-- in the clauses of a function its arguments have variables that no program names
pub function-found : (p : Sought) (gs : List Function) (i : ℕ) (g : Function) (cs : List Clause) (b : Bool) (old mid new : List Bound) → i < length gs → g ≡ get_or gs i g → b ≡ true → mid ≡ old
    → cs ≡ (out-Function g).clauses.items → Walked b mid new (λ e. AnyAt p (all_in e (map clause_phrase cs))) → Walked true old new (λ e. AnyAt p (all_in e (map function_phrase gs)))
function-found p gs i g cs b old mid new lt e t m k w = record {
  right = λ h d c.
      let q = (out-Function g).place in
      let as_ = first_pats (map clause_of (out-Function g).clauses.items) in
      let inner = fresh_onto q 1 as_ d in
      any-in p d function_phrase gs g (is-in gs i g lt e)
      (function-in-clauses p d g
      (subst (λ l. AnyAt p (all_in inner (map clause_phrase l))) k (w.right t inner (fresh-onto-covers mid d q 1 as_ (subst (λ s. Covers s d) (sym m) c)))));
  same = λ n. not-false n;
}

-- an identifier that isn't bound
pub own-value : (p : Sought) (e : Env) (q : Place) (x : term.LongVid) → Asks p whats.Unbound q → long_value_in e x ≡ None → At p (unless_bound (long_value_in e x) (value_at q x))
own-value p e q x f n = subst (λ o. At p (unless_bound o (value_at q x))) (sym n) (record { unbound = value_at q x; is = first-in (value_at q x) []; place = f.place; what = f.what })

-- Datatypes without abbreviations are as they are written.

no-abbreviation-of : (o : Option bare.Ty) → expand_some [] o ≡ o
no-abbreviation-of None = refl
no-abbreviation-of (Some t) = ap Some (as-it-was t)

no-abbreviations-of : (cs : List bare.ConBind) → map (expand_con []) cs ≡ cs
no-abbreviations-of [] = refl
no-abbreviations-of (c ∷ cs) = ap₂ (λ (o : Option bare.Ty) l. record { place = c.place; vid = c.vid; of_ty = o } ∷ l) (no-abbreviation-of c.of_ty) (no-abbreviations-of cs)

no-abbreviations : (ds : List bare.DataBind) → map (expand_bind []) ds ≡ ds
no-abbreviations [] = refl
no-abbreviations (d ∷ ds) = ap₂ (λ (cs : List bare.ConBind) l. record { place = d.place; tyvars = d.tyvars; tycon = d.tycon; cons = cs } ∷ l) (no-abbreviations-of d.cons) (no-abbreviations ds)

phrases-of : (ds : List DataBind) → map data_bind (map data_bind_of ds) ≡ map data_phrase ds
phrases-of [] = refl
phrases-of (d ∷ ds) = ap (λ l. data_phrase d ∷ l) (phrases-of ds)

pub plain-datatype : (p : Sought) (e : Env) (ds : List DataBind) → AnyAt p (datatype_scopes [] e ds) → AnyAt p (all_in (plus e (tycons_names (map data_bind_of ds))) (map data_phrase ds))
plain-datatype p e ds h =
    subst (λ xs. AnyAt p (all_in (plus e (tycons_names (map data_bind_of ds))) xs)) (phrases-of ds)
    (subst (λ l. AnyAt p (all_in (plus e (tycons_names l)) (map data_bind l))) (no-abbreviations (map data_bind_of ds)) h)

any-parts : (p : Sought) (ss ts : List Scoped) → AnyAt p (ss ++ ts) → AnyAt p ss ⊎ AnyAt p ts
any-parts p ss ts h = elim (Contains-append_cases ss ts h.scoped h.is) [
  | inl l ↦ inl (record { scoped = h.scoped; is = l; at = h.at })
  | inr r ↦ inr (record { scoped = h.scoped; is = r; at = h.at })
]

pub withtype-parts : (p : Sought) (e : Env) (d : Dec) (q : Place) (ds : Vec DataBind Global) (bs : Vec TypeBind Global) → d ≡ decs.Withtype q ds bs → AnyAt p (withtype_scopes e ds.items bs.items)
    → FoundAt p e (dec_phrase d)
withtype-parts p e d q ds bs is h = elim (any-parts p _ _ h) [
  | inl a ↦ dec-Withtype-datas p e d q ds bs is a
  | inr b ↦ dec-Withtype-types p e d q ds bs is b
]

pub fun-parts : (p : Sought) (e : Env) (d : Dec) (q : Place) (as_ : TyvarSeq) (gs : Vec Function Global) → d ≡ decs.Fun q as_ gs → (fs : List Function) → fs ≡ gs.items → IsInFun p e q fs
    → FoundAt p e (dec_phrase d)
fun-parts p e d q as_ gs is fs g (inl h) =
    dec-Fun-own p e d q as_ gs is (subst (λ (l : List Function). FoundAt p e (fun_phrase q as_.place as_.tyvars.items l)) g (h as_.place as_.tyvars.items))
fun-parts p e d q as_ gs is fs g (inr h) = dec-Fun p e d q as_ gs is (subst (λ (l : List Function). AnyAt p (all_in (plus e (fun_names l)) (map function_phrase l))) g h)

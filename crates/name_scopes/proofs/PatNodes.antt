-- From the parts of each node of patterns to the node.
use Rattle.std.proofs.Common.{◌≡◌, ℕ, suc, Bool, true, false, List, [], ◌∷◌, map, Vec, Box, Global, Option, Some, None, ◌⊎◌, inl, inr, refl, sym, ap, ap₂, subst, ◌∙◌}
use Rattle.std.specs.List.{Contains}
use Rattle.mlc_base.specs.declared.place.Place.{Place}
use Rattle.sml_tree.specs.BareTree as bare
use Rattle.sml_tree.specs.Derived.{Operand, VidAt, chain_of, join_pats, left_chain, list_pat_of, numbered_pats, one_or_tuple_pat, right_chain, short, tuple_pat}
use Rattle.sml_tree.specs.Phrases.{pat, pat_field_list}
use Rattle.sml_tree.specs.TreeOf.{PatFieldOf, long_vid_of, pat_field_of, pat_fields_of, pat_of, pat_part_of, some_ty_of}
use Rattle.sml_tree.specs.declared.ident.BuiltIn.{BuiltIn as Built}
use Rattle.sml_tree.specs.declared.ident.LongVid.{LongVid}
use Rattle.sml_tree.specs.declared.ident.Vid.{Vid}
use Rattle.sml_tree.specs.declared.tree.Pat.{Pat}
use Rattle.sml_tree.specs.declared.tree.Pat.TheVariants as pats
use Rattle.sml_tree.specs.declared.tree.PatField.{PatField}
use Rattle.sml_tree.specs.declared.tree.PatPart.{PatPart}
use Rattle.sml_tree.specs.declared.tree.Ty.{Ty}
use Rattle.core_rules.specs.Unbound.{all_in, own_unbound, unless_bound, value_at}
use Rattle.core_rules.specs.Values.{Env, long_value_in}
use Rattle.name_scopes.specs.Nodes.{pat_phrase, ty_phrase}
use Rattle.name_scopes.specs.Placed.{AnyAt, At, FoundAt}
use Rattle.name_scopes.specs.declared.sought.Sought.{Sought}
use Rattle.name_scopes.proofs.Anywhere.{any-cases, any-first, any-none, any-of, any-rest, in-parts, standing}
use Rattle.name_scopes.proofs.PatForms.{as-is, built-con-is, chain-is, con-is, list-is, operand_of, pat-field, pat-part, record-is, tuple-is, typed-is, vid-is}
use Rattle.name_scopes.proofs.Placing.{first-in, first-or-rest, none-in, own-at, parts-at, rest-in}

-- the phrases of lists

fields-are : (fs : List PatField) → pat_field_list (pat_fields_of (map pat_field_of fs)) ≡ map (λ f. pat_phrase f.pat) fs
fields-are [] = refl
fields-are (f ∷ fs) = ap₂ (λ a b. a ∷ b) (ap (λ (r : PatFieldOf). pat r.pat) (pat-field f)) (fields-are fs)

numbered-are : (k : ℕ) (as_ : List Pat) → pat_field_list (numbered_pats k (map pat_of as_)) ≡ map pat_phrase as_
numbered-are k [] = refl
numbered-are k (a ∷ as_) = ap (λ l. pat_phrase a ∷ l) (numbered-are (suc k) as_)

-- tuples, lists and chains

tuple-part : (p : Sought) (e : Env) (q : Place) (as_ : List Pat) → AnyAt p (all_in e (map pat_phrase as_)) → FoundAt p e (pat (tuple_pat q (map pat_of as_)))
tuple-part p e q as_ h = in-parts p e (pat (tuple_pat q (map pat_of as_))) _ _ _ refl refl (numbered-are 1 as_) h

two-left : (p : Sought) (e : Env) (q : Place) (a b : bare.Pat) → FoundAt p e (pat a) → FoundAt p e (pat (tuple_pat q (a ∷ b ∷ [])))
two-left p e q a b h = parts-at p e (pat (tuple_pat q (a ∷ b ∷ []))) (any-first p _ _ h)

two-right : (p : Sought) (e : Env) (q : Place) (a b : bare.Pat) → FoundAt p e (pat b) → FoundAt p e (pat (tuple_pat q (a ∷ b ∷ [])))
two-right p e q a b h = parts-at p e (pat (tuple_pat q (a ∷ b ∷ []))) (any-rest p _ _ (any-first p _ [] h))

list-part : (p : Sought) (e : Env) (q : Place) (as_ : List Pat) → AnyAt p (all_in e (map pat_phrase as_)) → FoundAt p e (pat (list_pat_of q (map pat_of as_)))
list-part p e q [] h = any-none p h
list-part p e q (a ∷ as_) h =
    let rest = list_pat_of q (map pat_of as_) in
    parts-at p e (pat (list_pat_of q (map pat_of (a ∷ as_)))) (any-first p _ [] (elim (any-cases p _ _ h) [
      | inl f ↦ two-left p e q (pat_of a) rest f
      | inr r ↦ two-right p e q (pat_of a) rest (list-part p e q as_ r)
    ]))

join-left : (p : Sought) (e : Env) (v : VidAt) (q : Place) (a b : bare.Pat) → FoundAt p e (pat a) → FoundAt p e (pat (join_pats v q a b))
join-left p e v q a b h = parts-at p e (pat (join_pats v q a b)) (any-first p _ [] (two-left p e q a b h))

join-right : (p : Sought) (e : Env) (v : VidAt) (q : Place) (a b : bare.Pat) → FoundAt p e (pat b) → FoundAt p e (pat (join_pats v q a b))
join-right p e v q a b h = parts-at p e (pat (join_pats v q a b)) (any-first p _ [] (two-right p e q a b h))

-- the constructor that joins an operand to what is before it, or the operand
abbrev InPart : Sought → Env → Operand VidAt bare.Pat → Type 0
InPart p e b = At p (unless_bound (long_value_in e (short b.joint.vid)) (value_at b.joint.place (short b.joint.vid))) ⊎ FoundAt p e (pat b.operand)

left-first : (p : Sought) (e : Env) (q : Place) (a : bare.Pat) (bs : List (Operand VidAt bare.Pat)) → FoundAt p e (pat a) → FoundAt p e (pat (left_chain join_pats q a bs))
left-first p e q a [] h = h
left-first p e q a (b ∷ bs) h = left-first p e q (join_pats b.joint q a b.operand) bs (join-left p e b.joint q a b.operand h)

left-part : (p : Sought) (e : Env) (q : Place) (a : bare.Pat) (bs : List (Operand VidAt bare.Pat)) (b : Operand VidAt bare.Pat)
    → Contains bs b → InPart p e b → FoundAt p e (pat (left_chain join_pats q a bs))
left-part p e q a [] b c h = absurd (none-in b c)
left-part p e q a (d ∷ ds) b c h = elim (first-or-rest d ds c) [
  | inl s ↦ left-first p e q (join_pats d.joint q a d.operand) ds (here (subst (InPart p e) (sym s) h))
  | inr r ↦ left-part p e q (join_pats d.joint q a d.operand) ds b r h
]
  where
    here : InPart p e d → FoundAt p e (pat (join_pats d.joint q a d.operand))
    here (inl o) = own-at p e (pat (join_pats d.joint q a d.operand)) o
    here (inr o) = join-right p e d.joint q a d.operand o

right-first : (p : Sought) (e : Env) (q : Place) (a : bare.Pat) (bs : List (Operand VidAt bare.Pat)) → FoundAt p e (pat a) → FoundAt p e (pat (right_chain join_pats q a bs))
right-first p e q a [] h = h
right-first p e q a (b ∷ bs) h = join-left p e b.joint q a (right_chain join_pats b.place b.operand bs) h

right-part : (p : Sought) (e : Env) (q : Place) (a : bare.Pat) (bs : List (Operand VidAt bare.Pat)) (b : Operand VidAt bare.Pat)
    → Contains bs b → InPart p e b → FoundAt p e (pat (right_chain join_pats q a bs))
right-part p e q a [] b c h = absurd (none-in b c)
right-part p e q a (d ∷ ds) b c h = elim (first-or-rest d ds c) [
  | inl s ↦ here (subst (InPart p e) (sym s) h)
  | inr r ↦ join-right p e d.joint q a (right_chain join_pats d.place d.operand ds) (right-part p e d.place d.operand ds b r h)
]
  where
    here : InPart p e d → FoundAt p e (pat (right_chain join_pats q a (d ∷ ds)))
    here (inl o) = own-at p e (pat (right_chain join_pats q a (d ∷ ds))) o
    here (inr o) = join-right p e d.joint q a (right_chain join_pats d.place d.operand ds) (right-first p e d.place d.operand ds o)

chain-first : (p : Sought) (e : Env) (r : Bool) (q : Place) (a : bare.Pat) (bs : List (Operand VidAt bare.Pat))
    → FoundAt p e (pat a) → FoundAt p e (pat (chain_of join_pats r q a bs))
chain-first p e true q a bs h = right-first p e q a bs h
chain-first p e false q a bs h = left-first p e q a bs h

chain-part : (p : Sought) (e : Env) (r : Bool) (q : Place) (a : bare.Pat) (bs : List (Operand VidAt bare.Pat)) (b : Operand VidAt bare.Pat)
    → Contains bs b → InPart p e b → FoundAt p e (pat (chain_of join_pats r q a bs))
chain-part p e true q a bs b c h = right-part p e q a bs b c h
chain-part p e false q a bs b c h = left-part p e q a bs b c h

part-among : (os : List PatPart) (o : PatPart) → Contains os o → Contains (map pat_part_of os) (operand_of o)
part-among [] o c = absurd (none-in o c)
part-among (d ∷ ds) o c = elim (first-or-rest d ds c) [
  | inl s ↦ subst (Contains (map pat_part_of (d ∷ ds))) (pat-part d ∙ ap operand_of s) (first-in (pat_part_of d) (map pat_part_of ds))
  | inr r ↦ rest-in (pat_part_of d) (map pat_part_of ds) (part-among ds o r)
]

-- nodes

pub pat-Vid : (p : Sought) (e : Env) (x : Pat) (q : Place) (v : LongVid) → x ≡ pats.Vid q v
    → At p (own_unbound e (pat (bare.vid_pat q (long_vid_of v)))) → FoundAt p e (pat_phrase x)
pat-Vid p e x q v s h = standing p e _ _ (ap pat (vid-is x q v s)) (own-at p e _ h)

pub pat-Record : (p : Sought) (e : Env) (x : Pat) (q : Place) (fs : Vec PatField Global) (b : Bool) → x ≡ pats.Record q fs b
    → AnyAt p (all_in e (map (λ f. pat_phrase f.pat) fs.items)) → FoundAt p e (pat_phrase x)
pat-Record p e x q fs b s h = in-parts p e _ _ _ _ (ap pat (record-is x q fs b s)) refl (fields-are fs.items) h

pub pat-Tuple : (p : Sought) (e : Env) (x : Pat) (q : Place) (as_ : Vec Pat Global) → x ≡ pats.Tuple q as_
    → AnyAt p (all_in e (map pat_phrase as_.items)) → FoundAt p e (pat_phrase x)
pat-Tuple p e x q as_ s h = standing p e _ _ (ap pat (tuple-is x q as_ s)) (tuple-part p e q as_.items h)

pub pat-List : (p : Sought) (e : Env) (x : Pat) (q : Place) (as_ : Vec Pat Global) → x ≡ pats.List q as_
    → AnyAt p (all_in e (map pat_phrase as_.items)) → FoundAt p e (pat_phrase x)
pat-List p e x q as_ s h = standing p e _ _ (ap pat (list-is x q as_ s)) (list-part p e q as_.items h)

pub pat-Con : (p : Sought) (e : Env) (x : Pat) (q r : Place) (v : LongVid) (a : Box Pat Global) → x ≡ pats.Con q r v a
    → FoundAt p e (pat_phrase a.value) → FoundAt p e (pat_phrase x)
pat-Con p e x q r v a s h = standing p e _ _ (ap pat (con-is x q r v a s)) (parts-at p e _ (any-first p _ [] h))

-- the constructor itself
pub pat-Con-own : (p : Sought) (e : Env) (x : Pat) (q r : Place) (v : LongVid) (a : Box Pat Global) → x ≡ pats.Con q r v a
    → At p (unless_bound (long_value_in e (long_vid_of v)) (value_at r (long_vid_of v))) → FoundAt p e (pat_phrase x)
pat-Con-own p e x q r v a s h = standing p e _ _ (ap pat (con-is x q r v a s)) (own-at p e _ h)

pub pat-BuiltCon : (p : Sought) (e : Env) (x : Pat) (q : Place) (b : Built) (a : Box Pat Global) → x ≡ pats.BuiltCon q b a
    → FoundAt p e (pat_phrase a.value) → FoundAt p e (pat_phrase x)
pat-BuiltCon p e x q b a s h = standing p e _ _ (ap pat (built-con-is x q b a s)) (parts-at p e _ (any-first p _ [] h))

pub pat-Chain-first : (p : Sought) (e : Env) (x : Pat) (q : Place) (r : Bool) (a : Box Pat Global) (os : Vec PatPart Global) → x ≡ pats.Chain q r a os
    → FoundAt p e (pat_phrase a.value) → FoundAt p e (pat_phrase x)
pat-Chain-first p e x q r a os s h = standing p e _ _ (ap pat (chain-is x q r a os s)) (chain-first p e r q (pat_of a.value) (map pat_part_of os.items) h)

pub pat-Chain-parts : (p : Sought) (e : Env) (x : Pat) (q : Place) (r : Bool) (a : Box Pat Global) (os : Vec PatPart Global) → x ≡ pats.Chain q r a os
    → AnyAt p (all_in e (map (λ o. pat_phrase o.pat) os.items)) → FoundAt p e (pat_phrase x)
pat-Chain-parts p e x q r a os s h =
    standing p e _ _ (ap pat (chain-is x q r a os s))
    (any-of p e (λ o. pat_phrase o.pat) os.items (λ o. λ c. λ u. chain-part p e r q (pat_of a.value) (map pat_part_of os.items) _ (part-among os.items o c) (inr u)) h)

-- the constructor of a part
pub pat-Chain-own : (p : Sought) (e : Env) (x : Pat) (q : Place) (r : Bool) (a : Box Pat Global) (os : Vec PatPart Global) (o : PatPart) → x ≡ pats.Chain q r a os
    → Contains os.items o → At p (unless_bound (long_value_in e (short o.vid)) (value_at o.vid_place (short o.vid))) → FoundAt p e (pat_phrase x)
pat-Chain-own p e x q r a os o s c h =
    standing p e _ _ (ap pat (chain-is x q r a os s)) (chain-part p e r q (pat_of a.value) (map pat_part_of os.items) _ (part-among os.items o c) (inl h))

pub pat-Typed : (p : Sought) (e : Env) (x : Pat) (q : Place) (a : Box Pat Global) (t : Ty) → x ≡ pats.Typed q a t
    → FoundAt p e (pat_phrase a.value) → FoundAt p e (pat_phrase x)
pat-Typed p e x q a t s h = standing p e _ _ (ap pat (typed-is x q a t s)) (parts-at p e _ (any-first p _ _ h))

pub pat-Typed-ty : (p : Sought) (e : Env) (x : Pat) (q : Place) (a : Box Pat Global) (t : Ty) → x ≡ pats.Typed q a t
    → FoundAt p e (ty_phrase t) → FoundAt p e (pat_phrase x)
pat-Typed-ty p e x q a t s h = standing p e _ _ (ap pat (typed-is x q a t s)) (parts-at p e _ (any-rest p _ _ (any-first p _ [] h)))

pub pat-As : (p : Sought) (e : Env) (x : Pat) (q : Place) (v : Vid) (t : Option Ty) (a : Box Pat Global) → x ≡ pats.As q v t a
    → FoundAt p e (pat_phrase a.value) → FoundAt p e (pat_phrase x)
pat-As p e x q v t a s h = standing p e _ _ (ap pat (as-is x q v t a s)) (inner t)
  where
    inner : (t : Option Ty) → FoundAt p e (pat (bare.as_pat q v (some_ty_of t) (pat_of a.value)))
    inner None = parts-at p e _ (any-first p _ [] h)
    inner (Some t) = parts-at p e _ (any-rest p _ _ (any-first p _ [] h))

pub pat-As-ty : (p : Sought) (e : Env) (x : Pat) (q : Place) (v : Vid) (t : Ty) (a : Box Pat Global) → x ≡ pats.As q v (Some t) a
    → FoundAt p e (ty_phrase t) → FoundAt p e (pat_phrase x)
pat-As-ty p e x q v t a s h = standing p e _ _ (ap pat (as-is x q v (Some t) a s)) (parts-at p e _ (any-first p _ _ h))

pub one-or-tuple : (p : Sought) (e : Env) (q : Place) (as_ : List Pat) → AnyAt p (all_in e (map pat_phrase as_)) → FoundAt p e (pat (one_or_tuple_pat q (map pat_of as_)))
one-or-tuple p e q [] h = any-none p h
one-or-tuple p e q (a ∷ []) h = elim (any-cases p _ _ h) [ inl f ↦ f | inr r ↦ any-none p r ]
one-or-tuple p e q (a ∷ b ∷ as_) h = tuple-part p e q (a ∷ b ∷ as_) h

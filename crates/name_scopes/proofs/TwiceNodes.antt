-- Where identifiers are bound twice: the places, and from what the code looks at to the phrase.
use Rattle.std.proofs.Common.{◌≡◌, Bool, true, false, not, ◌&&◌, List, [], ◌∷◌, ◌++◌, map, length, Vec, Box, Global, Option, refl, sym, ap, ap₂, subst, ◌∙◌, arith}
use Rattle.std.specs.Prelude.{flat_map, if◌then◌else◌}
use Rattle.std.specs.List.{Contains}
use Rattle.std.proofs.lemmas.List.Elements.{Contains-append_left, Contains-append_right}
use Rattle.mlc_base.specs.declared.place.Place.{Place}
use Rattle.sml_tree.specs.BareTree as bare
use Rattle.sml_tree.specs.Derived.{Operand, VidAt, chain_of, function_binds, join_pats, left_chain, list_pat_of}
use Rattle.sml_tree.specs.Derived as derived
use Rattle.sml_tree.specs.Phrases.{dec, pat, rule}
use Rattle.sml_tree.specs.TreeOf.{RuleOf, bind_of, binds_of, function_of, long_vid_of, pat_of, pat_part_of, some_ty_of}
use Rattle.sml_tree.specs.declared.ident.LongVid.{LongVid}
use Rattle.sml_tree.specs.declared.ident.Tyvar.{Tyvar}
use Rattle.sml_tree.specs.declared.ident.Vid.{Vid}
use Rattle.sml_tree.specs.declared.tree.Bind.{Bind}
use Rattle.sml_tree.specs.declared.tree.Function.{Function, out-Function}
use Rattle.sml_tree.specs.declared.tree.Pat.{Pat}
use Rattle.sml_tree.specs.declared.tree.Pat.TheVariants as pats
use Rattle.sml_tree.specs.declared.tree.PatPart.{PatPart}
use Rattle.sml_tree.specs.declared.tree.Ty.{Ty}
use Rattle.core_rules.specs.Restrictions.{distinct, is_kept, unless}
use Rattle.core_rules.specs.Values.{Env, long_value_in, value_in}
use Rattle.core_rules.specs.Words.{same_vid}
use Rattle.name_scopes.specs.Bindings.{AsksOne, are_proper}
use Rattle.name_scopes.specs.Nodes.{pat_phrase}
use Rattle.name_scopes.specs.Patterns.{binds_vids, pat_vids, rec_vids}
use Rattle.name_scopes.specs.Placed.{Asks, FoundAt}
use Rattle.name_scopes.specs.Twice.{alone_kept, binding_places, is_matched, own_twice, pat_place}
use Rattle.name_scopes.specs.declared.sought.Sought.{Sought}
use Rattle.name_scopes.specs.declared.sought.What.{What}
use Rattle.name_scopes.specs.declared.sought.What.TheVariants as whats
use Rattle.name_scopes.proofs.Anywhere.{standing}
use Rattle.name_scopes.proofs.BindVids.{bind-is, function-is}
use Rattle.name_scopes.proofs.PatForms.{as-is, chain-is, list-is, vid-is}
use Rattle.name_scopes.proofs.Placing.{first-in, in-flat, own-twice-at, rest-in}

-- places

module _ (s : Sought) (w : What) where
  pub asks-rest : (p : Place) (ps : List Place) → AsksOne s w ps → AsksOne s w (p ∷ ps)
  asks-rest p ps h = record { what = h.what; is = rest-in p ps h.is }

  pub asks-left : (ps qs : List Place) → AsksOne s w ps → AsksOne s w (ps ++ qs)
  asks-left ps qs h = record { what = h.what; is = Contains-append_left ps qs s.place h.is }

  pub asks-right : (ps qs : List Place) → AsksOne s w qs → AsksOne s w (ps ++ qs)
  asks-right ps qs h = record { what = h.what; is = Contains-append_right ps qs s.place h.is }

  pub binding-at : (bs : List Bind) (b : Bind) → Contains bs b → AsksOne s w (b.place ∷ pat_place (pat_of b.pat) ∷ []) → AsksOne s w (binding_places (binds_of (map bind_of bs)))
  binding-at bs b c h = record {
    what = h.what;
    is = subst (λ l. Contains l s.place) (sym (are bs)) (in-flat (λ b. b.place ∷ pat_place (pat_of b.pat) ∷ []) bs b s.place c h.is);
  }
    where
      are : (bs : List Bind) → binding_places (binds_of (map bind_of bs)) ≡ flat_map (λ b. b.place ∷ pat_place (pat_of b.pat) ∷ []) bs
      are [] = refl
      are (b ∷ bs) = ap₂ (λ x y. x ++ y) (ap (λ (r : RuleOf). r.place ∷ pat_place r.pat ∷ []) (bind-is b)) (are bs)

  pub function-at : (gs : List Function) (g : Function) → Contains gs g → AsksOne s w ((out-Function g).place ∷ (out-Function g).vid_place ∷ [])
      → AsksOne s w (binding_places (function_binds (map function_of gs)))
  function-at gs g c h = record {
    what = h.what;
    is = subst (λ l. Contains l s.place) (sym (are gs)) (in-flat (λ g. (out-Function g).place ∷ (out-Function g).vid_place ∷ []) gs g s.place c h.is);
  }
    where
      are : (gs : List Function) → binding_places (function_binds (map function_of gs)) ≡ flat_map (λ g. (out-Function g).place ∷ (out-Function g).vid_place ∷ []) gs
      are [] = refl
      are (g ∷ gs) = ap₂ (λ x y. x ++ y) (ap (λ (r : derived.Function). r.place ∷ r.vid_place ∷ []) (function-is g)) (are gs)

-- the place of a pattern of the code's tree

pub list-place : (x : Pat) (q : Place) (as_ : Vec Pat Global) → x ≡ pats.List q as_ → pat_place (pat_of x) ≡ q
list-place x q as_ s = ap pat_place (list-is x q as_ s) ∙ at (map pat_of as_.items)
  where
    at : (bs : List bare.Pat) → pat_place (list_pat_of q bs) ≡ q
    at [] = refl
    at (b ∷ bs) = refl

left-place : (q : Place) (a : bare.Pat) (os : List (Operand VidAt bare.Pat)) → pat_place a ≡ q → pat_place (left_chain join_pats q a os) ≡ q
left-place q a [] h = h
left-place q a (o ∷ os) h = left-place q (join_pats o.joint q a o.operand) os refl

pub chain-alone : (x : Pat) (q : Place) (r : Bool) (a : Box Pat Global) (os : Vec PatPart Global) → x ≡ pats.Chain q r a os → length os.items ≡ 0
    → pat_place (pat_of x) ≡ pat_place (pat_of a.value)
chain-alone x q r a os s n = ap pat_place (chain-is x q r a os s) ∙ at r os.items n
  where
    at : (r : Bool) (os : List PatPart) → length os ≡ 0 → pat_place (chain_of join_pats r q (pat_of a.value) (map pat_part_of os)) ≡ pat_place (pat_of a.value)
    at true [] n = refl
    at false [] n = refl
    at r (o ∷ os) n = absurd (omega (arith, n))

pub chain-place : (x : Pat) (q : Place) (r : Bool) (a : Box Pat Global) (os : Vec PatPart Global) → x ≡ pats.Chain q r a os → (length os.items ≡ 0 → ⊥)
    → pat_place (pat_of x) ≡ q
chain-place x q r a os s n = ap pat_place (chain-is x q r a os s) ∙ at r os.items n
  where
    at : (r : Bool) (os : List PatPart) → (length os ≡ 0 → ⊥) → pat_place (chain_of join_pats r q (pat_of a.value) (map pat_part_of os)) ≡ q
    at r [] n = absurd (n refl)
    at true (o ∷ os) n = refl
    at false (o ∷ os) n = left-place q (join_pats (pat_part_of o).joint q (pat_of a.value) (pat_part_of o).operand) (map pat_part_of os) refl

-- phrases

pub rule-twice : (s : Sought) (e : Env) (q : Place) (a : bare.Pat) (b : bare.Exp) → AsksOne s whats.Twice (q ∷ pat_place a ∷ []) → distinct same_vid (pat_vids e a) ≡ false
    → FoundAt s e (rule q a b)
rule-twice s e q a b h n = own-twice-at s e (rule q a b) h.what (subst (λ (c : Bool). Contains (if c then [] else q ∷ pat_place a ∷ []) s.place) (sym n) h.is)

pub val-twice : (s : Sought) (e : Env) (p q : Place) (as_ : List Tyvar) (bs rs : bare.Binds) → AsksOne s whats.Twice (p ∷ binding_places bs ++ binding_places rs)
    → are_proper (binds_vids e bs) (rec_vids rs) ≡ false → FoundAt s e (dec (bare.val_dec p q as_ bs rs))
val-twice s e p q as_ bs rs h n =
    own-twice-at s e (dec (bare.val_dec p q as_ bs rs)) h.what
    (subst (λ (c : Bool). Contains (if c then [] else p ∷ binding_places bs ++ binding_places rs) s.place) (sym n) h.is)

-- an identifier that stands alone in a pattern

pub pat-Vid-twice : (s : Sought) (e : Env) (x : Pat) (q : Place) (v : LongVid) → x ≡ pats.Vid q v → Asks s whats.Twice q
    → Contains (alone_kept v.qualifiers.items (is_matched (long_value_in e (long_vid_of v))) (is_kept v.vid) q) q → FoundAt s e (pat_phrase x)
pat-Vid-twice s e x q v is h c =
    standing s e _ _ (ap pat (vid-is x q v is))
    (own-twice-at s e (pat (bare.vid_pat q (long_vid_of v))) h.what
    (subst (Contains (own_twice e (pat (bare.vid_pat q (long_vid_of v))))) h.place c))

-- one before `as`

pub pat-As-twice : (s : Sought) (e : Env) (x : Pat) (q : Place) (v : Vid) (t : Option Ty) (a : Box Pat Global) → x ≡ pats.As q v t a → Asks s whats.Twice q
    → (not (is_matched (value_in e v)) && not (is_kept v)) ≡ false → FoundAt s e (pat_phrase x)
pat-As-twice s e x q v t a is h n =
    standing s e _ _ (ap pat (as-is x q v t a is))
    (own-twice-at s e (pat (bare.as_pat q v (some_ty_of t) (pat_of a.value))) h.what
    (subst (λ (c : Bool). Contains (unless c q) s.place) (sym n) (subst (Contains (q ∷ [])) h.place (first-in q []))))

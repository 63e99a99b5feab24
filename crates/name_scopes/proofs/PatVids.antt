-- The identifiers that each node of patterns binds: those of its parts, in order.
use Rattle.std.proofs.Common.{◌≡◌, ℕ, suc, Bool, true, false, List, [], ◌∷◌, ◌++◌, map, Vec, Box, Global, Option, refl, sym, ap, ap₂, ◌∙◌, append_assoc}
use Rattle.std.specs.Prelude.{flat_map}
use Rattle.std.proofs.lemmas.List.{append-nil}
use Rattle.mlc_base.specs.declared.place.Place.{Place}
use Rattle.sml_tree.specs.BareTree as bare
use Rattle.sml_tree.specs.Derived.{Operand, VidAt, chain_of, join_pats, left_chain, list_pat_of, numbered_pats, one_or_tuple_pat, right_chain, tuple_pat}
use Rattle.sml_tree.specs.TreeOf.{PatFieldOf, pat_field_of, pat_fields_of, pat_of, pat_part_of}
use Rattle.sml_tree.specs.declared.ident.Vid.{Vid}
use Rattle.sml_tree.specs.declared.tree.Pat.{Pat}
use Rattle.sml_tree.specs.declared.tree.Pat.TheVariants as pats
use Rattle.sml_tree.specs.declared.tree.PatField.{PatField}
use Rattle.sml_tree.specs.declared.tree.PatPart.{PatPart}
use Rattle.sml_tree.specs.declared.tree.Ty.{Ty}
use Rattle.core_rules.specs.Values.{Env}
use Rattle.name_scopes.specs.Patterns.{fields_vids, pat_vids}
use Rattle.name_scopes.proofs.PatForms.{as-is, chain-is, list-is, pat-field, pat-part, record-is, tuple-is}

module _ (e : Env) where
  fields-have : (fs : List PatField) → fields_vids e (pat_fields_of (map pat_field_of fs)) ≡ flat_map (λ f. pat_vids e (pat_of f.pat)) fs
  fields-have [] = refl
  fields-have (f ∷ fs) = ap₂ (λ a b. a ++ b) (ap (λ (r : PatFieldOf). pat_vids e r.pat) (pat-field f)) (fields-have fs)

  numbered-have : (k : ℕ) (as_ : List Pat) → fields_vids e (numbered_pats k (map pat_of as_)) ≡ flat_map (λ a. pat_vids e (pat_of a)) as_
  numbered-have k [] = refl
  numbered-have k (a ∷ as_) = ap (λ l. pat_vids e (pat_of a) ++ l) (numbered-have (suc k) as_)

  two-have : (q : Place) (a b : bare.Pat) → pat_vids e (tuple_pat q (a ∷ b ∷ [])) ≡ pat_vids e a ++ pat_vids e b
  two-have q a b = ap (λ l. pat_vids e a ++ l) (append-nil (pat_vids e b))

  list-has : (q : Place) (as_ : List Pat) → pat_vids e (list_pat_of q (map pat_of as_)) ≡ flat_map (λ a. pat_vids e (pat_of a)) as_
  list-has q [] = refl
  list-has q (a ∷ as_) = two-have q (pat_of a) (list_pat_of q (map pat_of as_)) ∙ ap (λ l. pat_vids e (pat_of a) ++ l) (list-has q as_)

  part-has : (o : PatPart) → pat_vids e (pat_part_of o).operand ≡ pat_vids e (pat_of o.pat)
  part-has o = ap (λ (r : Operand VidAt bare.Pat). pat_vids e r.operand) (pat-part o)

  left-has : (q : Place) (a : bare.Pat) (os : List PatPart)
      → pat_vids e (left_chain join_pats q a (map pat_part_of os)) ≡ pat_vids e a ++ flat_map (λ o. pat_vids e (pat_of o.pat)) os
  left-has q a [] = sym (append-nil (pat_vids e a))
  left-has q a (o ∷ os) =
      let rest = flat_map (λ o. pat_vids e (pat_of o.pat)) os in
      left-has q (join_pats (pat_part_of o).joint q a (pat_part_of o).operand) os
      ∙ ap (λ l. l ++ rest) (two-have q a (pat_part_of o).operand ∙ ap (λ l. pat_vids e a ++ l) (part-has o))
      ∙ append_assoc (pat_vids e a) (pat_vids e (pat_of o.pat)) rest

  right-has : (q : Place) (a : bare.Pat) (os : List PatPart)
      → pat_vids e (right_chain join_pats q a (map pat_part_of os)) ≡ pat_vids e a ++ flat_map (λ o. pat_vids e (pat_of o.pat)) os
  right-has q a [] = sym (append-nil (pat_vids e a))
  right-has q a (o ∷ os) =
      let b = pat_part_of o in
      two-have q a (right_chain join_pats b.place b.operand (map pat_part_of os))
      ∙ ap (λ l. pat_vids e a ++ l) (right-has b.place b.operand os ∙ ap (λ l. l ++ flat_map (λ o. pat_vids e (pat_of o.pat)) os) (part-has o))

  chain-has : (r : Bool) (q : Place) (a : bare.Pat) (os : List PatPart)
      → pat_vids e (chain_of join_pats r q a (map pat_part_of os)) ≡ pat_vids e a ++ flat_map (λ o. pat_vids e (pat_of o.pat)) os
  chain-has true q a os = right-has q a os
  chain-has false q a os = left-has q a os

  pub vids-Record : (x : Pat) (q : Place) (fs : Vec PatField Global) (b : Bool) → x ≡ pats.Record q fs b
      → pat_vids e (pat_of x) ≡ flat_map (λ f. pat_vids e (pat_of f.pat)) fs.items
  vids-Record x q fs b s = ap (pat_vids e) (record-is x q fs b s) ∙ fields-have fs.items

  pub vids-Tuple : (x : Pat) (q : Place) (as_ : Vec Pat Global) → x ≡ pats.Tuple q as_
      → pat_vids e (pat_of x) ≡ flat_map (λ a. pat_vids e (pat_of a)) as_.items
  vids-Tuple x q as_ s = ap (pat_vids e) (tuple-is x q as_ s) ∙ numbered-have 1 as_.items

  pub vids-List : (x : Pat) (q : Place) (as_ : Vec Pat Global) → x ≡ pats.List q as_
      → pat_vids e (pat_of x) ≡ flat_map (λ a. pat_vids e (pat_of a)) as_.items
  vids-List x q as_ s = ap (pat_vids e) (list-is x q as_ s) ∙ list-has q as_.items

  pub vids-Chain : (x : Pat) (q : Place) (r : Bool) (a : Box Pat Global) (os : Vec PatPart Global) → x ≡ pats.Chain q r a os
      → pat_vids e (pat_of x) ≡ pat_vids e (pat_of a.value) ++ flat_map (λ o. pat_vids e (pat_of o.pat)) os.items
  vids-Chain x q r a os s = ap (pat_vids e) (chain-is x q r a os s) ∙ chain-has r q (pat_of a.value) os.items

  pub vids-As : (x : Pat) (q : Place) (v : Vid) (t : Option Ty) (a : Box Pat Global) → x ≡ pats.As q v t a
      → pat_vids e (pat_of x) ≡ v ∷ pat_vids e (pat_of a.value)
  vids-As x q v t a s = ap (pat_vids e) (as-is x q v t a s)

  -- the patterns of a clause, as one
  pub vids-one-or-tuple : (q : Place) (as_ : List Pat) → pat_vids e (one_or_tuple_pat q (map pat_of as_)) ≡ flat_map (λ a. pat_vids e (pat_of a)) as_
  vids-one-or-tuple q [] = refl
  vids-one-or-tuple q (a ∷ []) = sym (append-nil (pat_vids e (pat_of a)))
  vids-one-or-tuple q (a ∷ b ∷ as_) = numbered-have 1 (a ∷ b ∷ as_)

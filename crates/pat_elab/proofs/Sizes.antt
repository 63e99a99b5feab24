-- Parts of a pattern are less deep than it.
use Rattle.std.proofs.Common.{◌≡◌, ◌<◌, ◌≤◌, ℕ, Bool, List, Option, Vec, Box, Global, length, get_or, ap, arith}
use denote.Param.Weighed.{most, at_most}
use Rattle.mlc_base.specs.declared.place.Place.{Place}
use Rattle.sml_tree.specs.declared.ident.Vid.{Vid}
use Rattle.sml_tree.specs.declared.tree.Ty.{Ty}
use Rattle.sml_tree.specs.declared.tree.Pat.{Pat, size-Pat}
use Rattle.sml_tree.specs.declared.tree.Pat.TheVariants as node
use Rattle.sml_tree.specs.declared.tree.Pat.TheViews.{sized-Record, sized-Chain, sized-As}
use Rattle.sml_tree.specs.declared.tree.PatField.{PatField, size-PatField, size_is-PatField}
use Rattle.sml_tree.specs.declared.tree.PatPart.{PatPart, size-PatPart, size_is-PatPart}

pub field-size : (fs : List PatField) (i : ℕ) (d : PatField) → i < length fs → size-Pat (get_or fs i d).pat ≤ most size-PatField fs
field-size fs i d lt = omega (arith, at_most size-PatField fs i d lt, size_is-PatField (get_or fs i d))

pub part-size : (ps : List PatPart) (i : ℕ) (d : PatPart) → i < length ps → size-Pat (get_or ps i d).pat ≤ most size-PatPart ps
part-size ps i d lt = omega (arith, at_most size-PatPart ps i d lt, size_is-PatPart (get_or ps i d))

pub pat-size : (as_ : List Pat) (i : ℕ) (a : Pat) → i < length as_ → a ≡ get_or as_ i a → size-Pat a ≤ most size-Pat as_
pat-size as_ i a lt e = omega (arith, at_most size-Pat as_ i a lt, ap size-Pat e)

pub fields-size : (p : Pat) (q : Place) (fs : Vec PatField Global) (b : Bool) (xs : List PatField) → p ≡ node.Record q fs b → xs ≡ fs.items → most size-PatField xs < size-Pat p
fields-size p q fs b xs is e = omega (arith, sized-Record q fs b, ap size-Pat is, ap (most size-PatField) e)

pub parts-size : (p : Pat) (q : Place) (r : Bool) (a : Box Pat Global) (ps : Vec PatPart Global) (xs : List PatPart) → p ≡ node.Chain q r a ps → xs ≡ ps.items
    → most size-PatPart xs < size-Pat p
parts-size p q r a ps xs is e = omega (arith, sized-Chain q r a ps, ap size-Pat is, ap (most size-PatPart) e)

pub named-size : (p : Pat) (q : Place) (v : Vid) (t : Option Ty) (a : Box Pat Global) (x : Pat) → p ≡ node.As q v t a → x ≡ a.value → size-Pat x < size-Pat p
named-size p q v t a x is e = omega (arith, sized-As q v t a, ap size-Pat is, ap size-Pat e)

-- Primitives on related values.
use Rattle.std.proofs.Common.{◌≡◌, ℕ, zero, suc, Bool, true, false, List, [], ◌∷◌, Option, Some, None, refl, sym, subst}
use Rattle.std.specs.Prelude.{option_and_then, option_map}
use Rattle.mlc_names.specs.declared.label.Label.TheVariants.{Number}
use Rattle.mlc_runs.specs.Run.{World, Answer, gives, or_fail}
use Rattle.mlc_runs.specs.Agreement.{AllRelated, none, more, BothOrNeither, neither, both, SameWorlds}
use Rattle.mlc_runs.proofs.RunLaws.{writes-same}
use Rattle.mlc_prims.specs.LitOf.{Literal, int, word, char, string, truth}
use Rattle.mlc_prims.specs.PrimOf.{Gives, made as gives_literal, raised}
use Rattle.mlc_prims.specs.Table.{row_of}
use Rattle.mlc_prims.specs.declared.prim.PrimExn.{PrimExn}
use Rattle.mlc_prims.specs.declared.prim.PrimExn.TheVariants.{Overflow, Div, Subscript, Size, Chr}
use Rattle.mlc_prims.specs.declared.basis.BasisPrimitive.{BasisPrimitive}
use Rattle.mlc_prims.specs.declared.basis.BasisPrimitive.TheVariants as prim
use Rattle.core_rules.specs.of_sml_tree.declared.ident.BuiltIn.TheVariants.{True, False}
use Rattle.core_rules.specs.Values.{built, Value, Fields, count}
use Rattle.core_rules.specs.Match.{same_value}
use Rattle.core_rules.specs.Eval.{packet_of, raise_value, truth_value, value_of, giving, parts, arguments, literals, perform_equals, perform_assign, perform_print, perform}
use Rattle.ir_poly.specs.of_ir_values.Tags.{untagged}
use Rattle.ir_poly.specs.of_ir_values.Values as made
use Rattle.ir_poly.specs.of_ir_values.Primitives as call
use Rattle.ir_poly.proofs.of_ir_values.PrimitiveLemmas.{untagged-row}
use Rattle.ir_poly.specs.ProgMeaning.{V, Parts}
use Rattle.core_elab.proofs.Agreeing.{Agree, both_give, both_raise, both_stop, assign-agree}
use Rattle.core_elab.proofs.Related.{Rel, rel_literal, rel_record, rel_con, rel_con_of, rel_ref, rel_address, rel_exn, rel_exn_of, rel_primitive, rel_alone, rel_one_of, RelFields, rel_no_fields, Stored, in_cell}
use Rattle.core_elab.proofs.Same.{field-rel, count-rel, literal-rel, same-rel}

abbrev pub Alike : World Value → World V → Type 0
Alike w u = SameWorlds Stored w u

abbrev pub Ends : Answer Value Value → Answer V V → Type 0
Ends = Agree Rel Stored Rel

pub made-rel : (l : Literal) → Rel (value_of l) (made.value_of untagged l)
made-rel (int z) = rel_literal _
made-rel (word n) = rel_literal _
made-rel (char n) = rel_literal _
made-rel (string s) = rel_literal _
made-rel (truth true) = rel_con (built True) refl
made-rel (truth false) = rel_con (built False) refl

packet-rel : (e : PrimExn) → Rel (packet_of e) (call.packet untagged (call.raised_name e))
packet-rel Overflow = rel_exn _
packet-rel Div = rel_exn _
packet-rel Subscript = rel_exn _
packet-rel Size = rel_exn _
packet-rel Chr = rel_exn _

-- Arguments

data AllBoth : Option (List Value) → Option (List V) → Type 0 where
  all_neither : AllBoth None None
  all_both : {vs : List Value} {us : List V} → AllRelated Rel vs us → AllBoth (Some vs) (Some us)

cons-both : {v : Value} {u : V} {o : Option (List Value)} {p : Option (List V)} → Rel v u → AllBoth o p
    → AllBoth (option_map (λ vs. v ∷ vs) o) (option_map (λ us. u ∷ us) p)
cons-both r all_neither = all_neither
cons-both r (all_both h) = all_both (more r h)

with-both : {o : Option Value} {o' : Option V} {p : Option (List Value)} {p' : Option (List V)} → BothOrNeither Rel o o' → AllBoth p p'
    → AllBoth (option_and_then (λ v. option_map (λ vs. v ∷ vs) p) o) (option_and_then (λ u. option_map (λ us. u ∷ us) p') o')
with-both neither h = all_neither
with-both (both r) h = cons-both r h

parts-rel : (k n : ℕ) {fs : Fields} {gs : Parts} → RelFields fs gs → AllBoth (parts k n fs) (call.parts k n gs)
parts-rel k zero h = all_both none
parts-rel k (suc n) h = with-both (field-rel (Number k) h) (parts-rel (suc k) n h)

or-alone : {v : Value} {u : V} {o : Option (List Value)} {p : Option (List V)} → Rel v u → AllBoth o p
    → AllRelated Rel (elim o [ None ↦ v ∷ [] | Some vs ↦ vs ]) (elim p [ None ↦ u ∷ [] | Some vs ↦ vs ])
or-alone r all_neither = more r none
or-alone r (all_both h) = h

pub arguments-rel : {v : Value} {u : V} → Rel v u → AllRelated Rel (arguments v) (call.arguments u)
arguments-rel (rel_record {fs = fs} {gs = gs} h) =
    or-alone (rel_record h) (subst (λ n. AllBoth (parts 1 (count fs) fs) (call.parts 1 n gs)) (sym (count-rel h)) (parts-rel 1 (count fs) h))
arguments-rel (rel_literal l) = more (rel_literal l) none
arguments-rel (rel_con c e) = more (rel_con c e) none
arguments-rel (rel_con_of c e h) = more (rel_con_of c e h) none
arguments-rel rel_ref = more rel_ref none
arguments-rel (rel_address a) = more (rel_address a) none
arguments-rel (rel_exn n) = more (rel_exn n) none
arguments-rel (rel_exn_of n h) = more (rel_exn_of n h) none
arguments-rel (rel_primitive q) = more (rel_primitive q) none
arguments-rel (rel_alone c f) = more (rel_alone c f) none
arguments-rel (rel_one_of c h fs f) = more (rel_one_of c h fs f) none

literals-rel : {vs : List Value} {us : List V} → AllRelated Rel vs us → call.literals us ≡ literals vs
literals-rel none = refl
literals-rel (more r h) = λ i. option_and_then (λ l. option_map (λ ls. l ∷ ls) (literals-rel h i)) (literal-rel r i)

-- What they do

giving-rel : (g : Gives) {w : World Value} {u : World V} → Alike w u → Ends (giving g w) (call.giving untagged g u)
giving-rel (gives_literal l) s = both_give (made-rel l) s
giving-rel (raised e) s = both_raise (packet-rel e) s

given-rel : (o : Option Gives) {w : World Value} {u : World V} → Alike w u
    → Ends (or_fail o w (λ g. giving g w)) (or_fail o u (λ g. call.giving untagged g u))
given-rel None s = both_stop _ s
given-rel (Some g) s = giving-rel g s

row-rel : (q : BasisPrimitive) (ls : List Literal) {w : World Value} {u : World V} → Alike w u
    → Ends (or_fail (row_of q ls) w (λ g. giving g w)) (or_fail (call.row_at untagged tt q ls) u (λ g. call.giving untagged g u))
row-rel q ls s = rw (untagged-row q ls) (given-rel (row_of q ls) s)

print-rel : (ls : List Literal) (w : World Value) (u : World V) → Alike w u → Ends (perform_print ls w) (call.print_literals untagged ls u)
print-rel [] w u s = both_stop _ s
print-rel (string t ∷ []) w u s = both_give (rel_record rel_no_fields) (writes-same Stored t w u s)
print-rel (int z ∷ []) w u s = both_stop _ s
print-rel (word n ∷ []) w u s = both_stop _ s
print-rel (char n ∷ []) w u s = both_stop _ s
print-rel (truth b ∷ []) w u s = both_stop _ s
print-rel (int z ∷ l ∷ ls) w u s = both_stop _ s
print-rel (word z ∷ l ∷ ls) w u s = both_stop _ s
print-rel (char z ∷ l ∷ ls) w u s = both_stop _ s
print-rel (string z ∷ l ∷ ls) w u s = both_stop _ s
print-rel (truth z ∷ l ∷ ls) w u s = both_stop _ s

truth-rel : (b : Bool) → Rel (truth_value b) (made.truth_value untagged b)
truth-rel true = rel_con (built True) refl
truth-rel false = rel_con (built False) refl

told-rel : (o : Option Bool) {w : World Value} {u : World V} → Alike w u
    → Ends (or_fail o w (λ b. gives (truth_value b) w)) (or_fail o u (λ b. gives (made.truth_value untagged b) u))
told-rel None s = both_stop _ s
told-rel (Some b) s = both_give (truth-rel b) s

equals-rel : {vs : List Value} {us : List V} (w : World Value) (u : World V) → AllRelated Rel vs us → Alike w u
    → Ends (perform_equals vs w) (call.compare_values untagged tt us u)
equals-rel w u none s = both_stop _ s
equals-rel w u (more r none) s = both_stop _ s
equals-rel w u (more {v = a} r (more {v = b} q none)) s =
    subst (λ o. Ends (or_fail (same_value a b) w (λ b. gives (truth_value b) w)) (or_fail o u (λ b. gives (made.truth_value untagged b) u)))
    (sym (same-rel r q)) (told-rel (same_value a b) s)
equals-rel w u (more r (more q (more p h))) s = both_stop _ s

assign-rel : {vs : List Value} {us : List V} (w : World Value) (u : World V) → AllRelated Rel vs us → Alike w u
    → Ends (perform_assign vs w) (call.assign_value untagged tt us u)
assign-rel w u none s = both_stop _ s
assign-rel w u (more r none) s = both_stop _ s
assign-rel w u (more (rel_address a) (more q none)) s =
    assign-agree Rel Stored Rel a _ _ w u _ _ (in_cell q) s (λ w u s. both_give (rel_record rel_no_fields) s)
assign-rel w u (more (rel_literal l) (more q none)) s = both_stop _ s
assign-rel w u (more (rel_record l) (more q none)) s = both_stop _ s
assign-rel w u (more (rel_con l e) (more q none)) s = both_stop _ s
assign-rel w u (more (rel_con_of l e h) (more q none)) s = both_stop _ s
assign-rel w u (more rel_ref (more q none)) s = both_stop _ s
assign-rel w u (more (rel_exn l) (more q none)) s = both_stop _ s
assign-rel w u (more (rel_exn_of l h) (more q none)) s = both_stop _ s
assign-rel w u (more (rel_primitive l) (more q none)) s = both_stop _ s
assign-rel w u (more (rel_alone c f) (more q none)) s = both_stop _ s
assign-rel w u (more (rel_one_of c h fs f) (more q none)) s = both_stop _ s
assign-rel w u (more r (more q (more p h))) s = both_stop _ s

on-literals : {vs : List Value} {us : List V} (w : World Value) (u : World V) (go : List Literal → Answer Value Value) (go' : List Literal → Answer V V)
    → AllRelated Rel vs us → ((ls : List Literal) → Ends (go ls) (go' ls)) → Alike w u → Ends (or_fail (literals vs) w go) (or_fail (call.literals us) u go')
on-literals {vs} w u go go' r h s = subst (λ o. Ends (or_fail (literals vs) w go) (or_fail o u go')) (sym (literals-rel r)) (each (literals vs))
  where
    each : (o : Option (List Literal)) → Ends (or_fail o w go) (or_fail o u go')
    each None = both_stop _ s
    each (Some ls) = h ls

pub perform-rel : (q : BasisPrimitive) {vs : List Value} {us : List V} (w : World Value) (u : World V) → AllRelated Rel vs us → Alike w u
    → Ends (perform q vs w) (call.perform untagged tt q us u)
perform-rel prim.Equals w u h s = equals-rel w u h s
perform-rel prim.Assign w u h s = assign-rel w u h s
perform-rel prim.Print w u h s = on-literals w u _ _ h (λ ls. print-rel ls w u s) s
perform-rel q w u h s = on-literals w u _ _ h (λ ls. row-rel q ls s) s

pub raised-rel : {v : Value} {z : V} (w : World Value) (u : World V) → Rel v z → Alike w u → Ends (raise_value v w) (call.raise_value z u)
raised-rel w u (rel_exn n) s = both_raise (rel_exn n) s
raised-rel w u (rel_exn_of n h) s = both_raise (rel_exn_of n h) s
raised-rel w u (rel_literal l) s = both_stop _ s
raised-rel w u (rel_record l) s = both_stop _ s
raised-rel w u (rel_con l e) s = both_stop _ s
raised-rel w u (rel_con_of l e h) s = both_stop _ s
raised-rel w u rel_ref s = both_stop _ s
raised-rel w u (rel_address l) s = both_stop _ s
raised-rel w u (rel_primitive l) s = both_stop _ s
raised-rel w u (rel_alone c f) s = both_stop _ s
raised-rel w u (rel_one_of c h fs f) s = both_stop _ s

-- Numbers of constructors, fields, and equality of values.
use Rattle.std.proofs.Common.{◌≡◌, ℕ, suc, Bool, true, false, ◌||◌, if◌then◌else◌, Option, Some, None, refl, sym, ap, subst, ◌∙◌, eqb-true, eq-eqb}
use Rattle.std.specs.Prelude.{option_and_then, option_map, nat_eq}
use Rattle.mlc_names.specs.declared.label.Label.{Label}
use Rattle.mlc_names.specs.declared.label.Label.TheVariants.{Number, Word}
use Rattle.mlc_runs.specs.Agreement.{BothOrNeither, neither, both}
use Rattle.mlc_prims.specs.Table.{literal_eq}
use Rattle.core_rules.specs.of_sml_tree.declared.ident.Vid.TheVariants.{Named, Equals, Fresh}
use Rattle.core_rules.specs.of_sml_tree.declared.ident.BuiltIn.{BuiltIn}
use Rattle.core_rules.specs.of_sml_tree.declared.ident.BuiltIn.TheVariants.{True, False, Nil, Cons}
use Rattle.core_rules.specs.Words as words
use Rattle.core_rules.specs.Restrictions.{is_kept}
use Rattle.core_rules.specs.Values.{Con, built, declared, Value, Fields, field_in, count}
use Rattle.core_rules.specs.Match.{literal_in, address_in, same_built, same_con, same_value, same_fields, both_equal}
use Rattle.ir_poly.specs.of_ir_values.Tags.{untagged}
use Rattle.ir_poly.specs.of_ir_values.Values as made
use Rattle.ir_poly.specs.of_ir_values.Equality as made_same
use Rattle.ir_poly.specs.ProgMeaning.{V, Parts}
use Rattle.core_elab.specs.Scopes.{built_number, con_number}
use Rattle.core_elab.proofs.Related.{Among, among_here, among_past, Rel, rel_literal, rel_record, rel_con, rel_con_of, rel_ref, rel_address, rel_exn, rel_exn_of, rel_primitive, rel_alone, rel_one_of, RelFields, rel_no_fields, rel_field}

-- Numbers of constructors

abbrev number-or : Option ℕ → ℕ
number-or None = 0
number-or (Some n) = n

told : {n m : ℕ} → Some n ≡ Some m → n ≡ m
told e = ap number-or e

built-same : (b d : BuiltIn) → nat_eq (built_number b) (built_number d) ≡ same_built b d
built-same True True = refl
built-same True False = refl
built-same True Nil = refl
built-same True Cons = refl
built-same False True = refl
built-same False False = refl
built-same False Nil = refl
built-same False Cons = refl
built-same Nil True = refl
built-same Nil False = refl
built-same Nil Nil = refl
built-same Nil Cons = refl
built-same Cons True = refl
built-same Cons False = refl
built-same Cons Nil = refl
built-same Cons Cons = refl

unkept : {b : Bool} {x n : ℕ} → (if b then None else Some x) ≡ Some n → (b ≡ false) × (x ≡ n)
unkept {b = true} e = absurd (cc)
unkept {b = false} e = (refl, told e)

or-first : (a b : Bool) → (a || b) ≡ false → a ≡ false
or-first true b e = absurd (cc)
or-first false b e = refl

or-second : (a b : Bool) → (a || b) ≡ false → b ≡ false
or-second true b e = absurd (cc)
or-second false b e = e

built-unkept : (b : BuiltIn) (x : ℕ) → is_kept (Named x) ≡ false → nat_eq x (built_number b) ≡ false
built-unkept True x e = or-first _ _ e
built-unkept False x e = or-first _ _ (or-second (nat_eq x 11) _ e)
built-unkept Nil x e = or-first _ _ (or-second (nat_eq x 12) _ (or-second (nat_eq x 11) _ e))
built-unkept Cons x e = or-first _ _ (or-second (nat_eq x 13) _ (or-second (nat_eq x 12) _ (or-second (nat_eq x 11) _ e)))

eq-turned : (n m : ℕ) → nat_eq n m ≡ false → nat_eq m n ≡ false
eq-turned n m e = go (nat_eq m n) refl
  where
    go : (b : Bool) → nat_eq m n ≡ b → b ≡ false
    go true h = let k : nat_eq n m ≡ true = eq-eqb n m (sym (eqb-true m n h)) in absurd (cc)
    go false h = refl

both-are : {n n' m m' : ℕ} {b : Bool} → n ≡ n' → m ≡ m' → nat_eq n m ≡ b → nat_eq n' m' ≡ b
both-are {b = b} p q e = (λ i. nat_eq (sym p i) (sym q i)) ∙ e

pub same-numbers : (c d : Con) {n m : ℕ} → con_number c ≡ Some n → con_number d ≡ Some m → nat_eq n m ≡ same_con c d
same-numbers (built b) (built d) p q = both-are (told p) (told q) (built-same b d)
same-numbers (built b) (declared (Named x)) p q = let u = unkept q in both-are (told p) u.1 (eq-turned x (built_number b) (built-unkept b x u.0))
same-numbers (declared (Named x)) (built b) p q = let u = unkept p in both-are u.1 (told q) (built-unkept b x u.0)
same-numbers (declared (Named x)) (declared (Named y)) p q = both-are (unkept p).1 (unkept q).1 refl
same-numbers (declared Equals) d p q = absurd (cc)
same-numbers (declared (Fresh k)) d p q = absurd (cc)
same-numbers (built b) (declared Equals) p q = absurd (cc)
same-numbers (built b) (declared (Fresh k)) p q = absurd (cc)
same-numbers (declared (Named x)) (declared Equals) p q = absurd (cc)
same-numbers (declared (Named x)) (declared (Fresh k)) p q = absurd (cc)

-- Fields

labels-same : (l k : Label) → made.same_label l k ≡ words.same_label l k
labels-same (Number m) (Number n) = refl
labels-same (Number m) (Word x) = refl
labels-same (Word x) (Number n) = refl
labels-same (Word x) (Word y) = refl

found-if : {b b' : Bool} {v : Value} {u : V} {o : Option Value} {p : Option V} → b' ≡ b → Rel v u → BothOrNeither Rel o p
    → BothOrNeither Rel (if b then Some v else o) (if b' then Some u else p)
found-if {b} {b'} {v} {u} {o} {p} e r h = subst (λ c. BothOrNeither Rel (if b then Some v else o) (if c then Some u else p)) (sym e) (go b)
  where
    go : (c : Bool) → BothOrNeither Rel (if c then Some v else o) (if c then Some u else p)
    go true = both r
    go false = h

label-is : (l k : Label) → made.same_label l k ≡ true → l ≡ k
label-is (Number m) (Number n) e = ap Number (eqb-true m n e)
label-is (Number m) (Word x) e = absurd (cc)
label-is (Word x) (Number n) e = absurd (cc)
label-is (Word x) (Word y) e = ap Word (eqb-true x y e)

-- no label is equal to two that differ
not-both : (l k j : Label) → made.same_label k j ≡ false → made.same_label l j ≡ true → made.same_label l k ≡ true → ⊥
not-both l k j d e h = let a : l ≡ k = label-is l k h in let b : made.same_label k j ≡ true = subst (λ z. made.same_label z j ≡ true) a e in absurd (cc)

exchanged : {A : Type 0} (a b : Bool) (x y z : A) → (a ≡ true → b ≡ true → ⊥) → (if a then x else (if b then y else z)) ≡ (if b then y else (if a then x else z))
exchanged true true x y z h = absurd (h refl refl)
exchanged true false x y z h = refl
exchanged false b x y z h = refl

among-found : (l : Label) {k : Label} {u : V} {gs hs : Parts} → Among k u gs hs
    → made.field_in l hs ≡ (if made.same_label l k then Some u else made.field_in l gs)
among-found l among_here = refl
among-found l {k} {u} (among_past j z {gs = gs} d a) =
    (λ i. if made.same_label l j then Some z else among-found l a i) ∙ exchanged (made.same_label l j) (made.same_label l k) (Some z) (Some u) (made.field_in l gs) (not-both l k j d)

among-count : {k : Label} {u : V} {gs hs : Parts} → Among k u gs hs → made.count hs ≡ suc (made.count gs)
among-count among_here = refl
among-count (among_past j z d a) = ap suc (among-count a)

pub field-rel : {fs : Fields} {gs : Parts} (l : Label) → RelFields fs gs → BothOrNeither Rel (field_in l fs) (made.field_in l gs)
field-rel l rel_no_fields = neither
field-rel {fs} l (rel_field k r rs a) = subst (BothOrNeither Rel (field_in l fs)) (sym (among-found l a)) (found-if (labels-same l k) r (field-rel l rs))

pub count-rel : {fs : Fields} {gs : Parts} → RelFields fs gs → made.count gs ≡ count fs
count-rel rel_no_fields = refl
count-rel (rel_field l r rs a) = among-count a ∙ ap suc (count-rel rs)

pub literal-rel : {v : Value} {u : V} → Rel v u → made.literal_in u ≡ literal_in v
literal-rel (rel_literal l) = refl
literal-rel (rel_record r) = refl
literal-rel (rel_con c e) = refl
literal-rel (rel_con_of c e r) = refl
literal-rel rel_ref = refl
literal-rel (rel_address a) = refl
literal-rel (rel_exn n) = refl
literal-rel (rel_exn_of n r) = refl
literal-rel (rel_primitive q) = refl
literal-rel (rel_alone c f) = refl
literal-rel (rel_one_of c h fs f) = refl

pub address-rel : {v : Value} {u : V} → Rel v u → made.address_in u ≡ address_in v
address-rel (rel_literal l) = refl
address-rel (rel_record r) = refl
address-rel (rel_con c e) = refl
address-rel (rel_con_of c e r) = refl
address-rel rel_ref = refl
address-rel (rel_address a) = refl
address-rel (rel_exn n) = refl
address-rel (rel_exn_of n r) = refl
address-rel (rel_primitive q) = refl
address-rel (rel_alone c f) = refl
address-rel (rel_one_of c h fs f) = refl

-- Equality

abbrev equal : V → V → Option Bool
equal v u = made_same.same_at untagged tt v u

both-same : (o p : Option Bool) → made_same.both_equal o p ≡ both_equal o p
both-same None p = refl
both-same (Some b) p = refl

both-exchanged : (a b c : Option Bool) → made_same.both_equal a (made_same.both_equal b c) ≡ made_same.both_equal b (made_same.both_equal a c)
both-exchanged None None c = refl
both-exchanged None (Some b) c = refl
both-exchanged (Some a) None c = refl
both-exchanged (Some a) (Some b) None = refl
both-exchanged (Some true) (Some b) (Some c) = refl
both-exchanged (Some false) (Some true) (Some c) = refl
both-exchanged (Some false) (Some false) (Some c) = refl

-- where a field stands among others makes no difference
among-equal : {l : Label} {u : V} {gs hs : Parts} → Among l u gs hs → (js : Parts) → made_same.same_fields untagged tt hs js
    ≡ made_same.both_equal (option_and_then (equal u) (made.field_in l js)) (made_same.same_fields untagged tt gs js)
among-equal among_here js = refl
among-equal {l} {u} (among_past k z {gs = gs} d a) js =
    (λ i. made_same.both_equal (option_and_then (equal z) (made.field_in k js)) (among-equal a js i))
    ∙ both-exchanged (option_and_then (equal z) (made.field_in k js)) (option_and_then (equal u) (made.field_in l js)) (made_same.same_fields untagged tt gs js)

found-same : (v : Value) (t : V) {o : Option Value} {p : Option V} → ((u : Value) (z : V) → Rel u z → equal t z ≡ same_value v u) → BothOrNeither Rel o p
    → option_and_then (equal t) p ≡ option_and_then (same_value v) o
found-same v t h neither = refl
found-same v t h (both k) = h _ _ k

mutual
  pub same-rel : {v : Value} {t : V} → Rel v t → {u : Value} {z : V} → Rel u z → equal t z ≡ same_value v u
  same-rel (rel_literal l) k = ap (option_and_then (literal_eq l)) (literal-rel k)
  same-rel (rel_address a) k = ap (option_map (nat_eq a)) (address-rel k)
  same-rel (rel_exn n) k = refl
  same-rel (rel_exn_of n r) k = refl
  same-rel rel_ref k = refl
  same-rel (rel_primitive q) k = refl
  same-rel (rel_alone c f) k = refl
  same-rel (rel_one_of c h fs f) k = refl
  same-rel (rel_record r) (rel_record k) = same-fields-rel r k
  same-rel (rel_record r) (rel_literal l) = refl
  same-rel (rel_record r) (rel_con c e) = refl
  same-rel (rel_record r) (rel_con_of c e k) = refl
  same-rel (rel_record r) rel_ref = refl
  same-rel (rel_record r) (rel_address a) = refl
  same-rel (rel_record r) (rel_exn n) = refl
  same-rel (rel_record r) (rel_exn_of n k) = refl
  same-rel (rel_record r) (rel_primitive q) = refl
  same-rel (rel_record r) (rel_alone c f) = refl
  same-rel (rel_record r) (rel_one_of c h fs f) = refl
  same-rel (rel_con c e) (rel_con d e') = ap Some (same-numbers c d e e')
  same-rel (rel_con c e) (rel_con_of d e' k) = ap Some (same-numbers c d e e')
  same-rel (rel_con c e) (rel_literal l) = refl
  same-rel (rel_con c e) (rel_record k) = refl
  same-rel (rel_con c e) rel_ref = refl
  same-rel (rel_con c e) (rel_address a) = refl
  same-rel (rel_con c e) (rel_exn n) = refl
  same-rel (rel_con c e) (rel_exn_of n k) = refl
  same-rel (rel_con c e) (rel_primitive q) = refl
  same-rel (rel_con c e) (rel_alone d f) = refl
  same-rel (rel_con c e) (rel_one_of d h fs f) = refl
  same-rel (rel_con_of c e r) (rel_con d e') = λ i. if same-numbers c d e e' i then None else Some false
  same-rel (rel_con_of c e r) (rel_con_of d e' k) = λ i. if same-numbers c d e e' i then same-rel r k i else Some false
  same-rel (rel_con_of c e r) (rel_literal l) = refl
  same-rel (rel_con_of c e r) (rel_record k) = refl
  same-rel (rel_con_of c e r) rel_ref = refl
  same-rel (rel_con_of c e r) (rel_address a) = refl
  same-rel (rel_con_of c e r) (rel_exn n) = refl
  same-rel (rel_con_of c e r) (rel_exn_of n k) = refl
  same-rel (rel_con_of c e r) (rel_primitive q) = refl
  same-rel (rel_con_of c e r) (rel_alone d f) = refl
  same-rel (rel_con_of c e r) (rel_one_of d h fs f) = refl

  same-fields-rel : {fs : Fields} {gs : Parts} → RelFields fs gs → {hs : Fields} {js : Parts} → RelFields hs js
      → made_same.same_fields untagged tt gs js ≡ same_fields fs hs
  same-fields-rel rel_no_fields k = refl
  same-fields-rel (rel_field l {v = v} {u = t} {gs = gs} r rs a) {js = js} k =
      among-equal a js ∙ both-same (option_and_then (equal t) (made.field_in l js)) (made_same.same_fields untagged tt gs js)
      ∙ (λ i. both_equal (found-same v t (λ u z q. same-rel r q) (field-rel l k) i) (same-fields-rel rs k i))

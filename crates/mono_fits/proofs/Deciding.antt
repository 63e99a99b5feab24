-- What is decided of a table is so, and the other way round.
use Rattle.std.proofs.Common.{◌≡◌, ℕ, zero, suc, Bool, true, false, ◌&&◌, List, [], ◌∷◌, length, Option, Some, None, option_and_then, nat_eq, cond, refl, sym, ap, ap₂, ◌∙◌, subst}
use Rattle.std.proofs.lemmas.Bool.{eqb-true, and_parts, and_from}
use Rattle.mlc_names.specs.declared.label.Label.{Label}
use Rattle.mlc_prims.specs.LitOf.{Literal, int, word, char, string, truth}
use Rattle.ty_core.specs.Types.{Symbol, arrow, labels, name, con, none}
use Rattle.ty_core.specs.Marks.{has, overloaded}
use Rattle.ty_core.specs.declared.mark.Class.{Class}
use Rattle.ty_core.specs.declared.mark.Mark.{Mark}
use Rattle.ty_core.specs.declared.mark.Mark.TheVariants.{Any, Equality, Class as OfClass}
use Rattle.ty_core.specs.declared.name.TyName.{TyName}
use Rattle.ir_values.specs.Values.{same_label}
use Rattle.prog_check.specs.of_ir_poly.Types.{int_name, word_name, char_name, string_name, ref_name, exn_name}
use Rattle.prog_check.specs.of_ir_poly.TestsChecked.{is_size}
use Rattle.ir_mono.specs.Types.{Row, Node, node, node_at, constructor_at, admits, part, part_of, Is, IsFunction, IsRef, IsExn, HasLiteral, has_int, has_word, has_char, has_string, IsOther, other_none, other_more, AreDistinct, distinct_none, distinct_more}
use Rattle.ir_mono.specs.Typing.{IsOf, Allows, ExceptionAt, packet_at, to_packets_at, AloneAt, value_at, function_at}
use Rattle.prog_check.specs.Same.{same_name, same_labels, same_symbol, same_type}
use Rattle.prog_check.proofs.SameLemmas.{name-same, same-name, same-number, type-same, same-since}
use Rattle.mono_fits.specs.Asked.{given, same_argument, same_numbers, headed, is_record_node, is_name_node, result_in, function_in, class_has, is_other, are_distinct, is_named, is_exn, is_reference, result_from, is_function, has_literal, has_constructor, is_alone, is_alone_use, is_exception, is_maker, field_of, is_sized, allows}

pub some-is : {A : Type 0} {a b : A} → Some a ≡ Some b → a ≡ b
some-is e = cc

-- what is given
pub record IsGiven {A : Type 0} (o : Option A) (f : A → Bool) : Type 0 where
  pub value : A
  pub is : o ≡ Some value
  pub so : f value ≡ true

pub given-sound : {A : Type 0} (o : Option A) (f : A → Bool) → given o f ≡ true → IsGiven o f
given-sound None f e = absurd (cc)
given-sound (Some a) f e = record { value = a; is = refl; so = e }

pub given-since : {A : Type 0} (o : Option A) (f : A → Bool) (a : A) → o ≡ Some a → f a ≡ true → given o f ≡ true
given-since o f a e p = ap (λ o. given o f) e ∙ p

pub record IsThen {A B : Type 0} (o : Option A) (f : A → Option B) (b : B) : Type 0 where
  pub value : A
  pub is : o ≡ Some value
  pub gives : f value ≡ Some b

pub then-sound : {A B : Type 0} (o : Option A) (f : A → Option B) (b : B) → option_and_then f o ≡ Some b → IsThen o f b
then-sound None f b e = absurd (cc)
then-sound (Some a) f b e = record { value = a; is = refl; gives = e }

pub if-true : {A : Type 0} (b : Bool) (x y : A) → b ≡ true → cond b x y ≡ x
if-true true x y e = refl
if-true false x y e = absurd (cc)

-- Symbols, numbers, arguments

symbol-by : {h k : Symbol} → con h none ≡ con k none → h ≡ k
symbol-by e = cc

pub symbol-same : (h k : Symbol) → same_symbol h k ≡ true → h ≡ k
symbol-same h k e = symbol-by (type-same (con h none) (con k none) (and_from (same_symbol h k) true e refl))

pub same-symbol : (h : Symbol) → same_symbol h h ≡ true
same-symbol h = (and_parts (same_symbol h h) true (same-since {t = con h none} refl)).0

labels-by : {ls ks : List Label} → labels ls ≡ labels ks → ls ≡ ks
labels-by e = cc

pub labels-same : (ls ks : List Label) → same_labels ls ks ≡ true → ls ≡ ks
labels-same ls ks e = labels-by (symbol-same (labels ls) (labels ks) e)

pub same-labels : (ls : List Label) → same_labels ls ls ≡ true
same-labels ls = same-symbol (labels ls)

pub numbers-same : (ms ns : List ℕ) → same_numbers ms ns ≡ true → ms ≡ ns
numbers-same [] [] e = refl
numbers-same [] (n ∷ ns) e = absurd (cc)
numbers-same (m ∷ ms) [] e = absurd (cc)
numbers-same (m ∷ ms) (n ∷ ns) e = let a = and_parts (nat_eq m n) (same_numbers ms ns) e in ap₂ (λ k l. k ∷ l) (eqb-true m n a.0) (numbers-same ms ns a.1)

pub same-numbers : (ns : List ℕ) → same_numbers ns ns ≡ true
same-numbers [] = refl
same-numbers (n ∷ ns) = and_from (nat_eq n n) (same_numbers ns ns) (same-number n) (same-numbers ns)

pub argument-same : (a b : Option ℕ) → same_argument a b ≡ true → a ≡ b
argument-same None None e = refl
argument-same None (Some n) e = absurd (cc)
argument-same (Some m) None e = absurd (cc)
argument-same (Some m) (Some n) e = ap Some (eqb-true m n e)

pub same-argument : (a : Option ℕ) → same_argument a a ≡ true
same-argument None = refl
same-argument (Some n) = same-number n

-- Nodes

pub record IsHeaded (h : Symbol) (f : List ℕ → Bool) (k : Node) : Type 0 where
  pub parts : List ℕ
  pub is : k ≡ node h parts
  pub so : f parts ≡ true

pub headed-sound : (h : Symbol) (f : List ℕ → Bool) (k : Node) → headed h f k ≡ true → IsHeaded h f k
headed-sound h f (node g ps) e = let a = and_parts (same_symbol g h) (f ps) e in record { parts = ps; is = ap (λ g. node g ps) (symbol-same g h a.0); so = a.1 }

pub headed-since : (h : Symbol) (f : List ℕ → Bool) (ps : List ℕ) → f ps ≡ true → headed h f (node h ps) ≡ true
headed-since h f ps p = and_from (same_symbol h h) (f ps) (same-symbol h) p

pub record IsNameNode (f : TyName → Bool) (k : Node) : Type 0 where
  pub named : TyName
  pub is : k ≡ node (name named) []
  pub so : f named ≡ true

pub name-node-sound : (f : TyName → Bool) (k : Node) → is_name_node f k ≡ true → IsNameNode f k
name-node-sound f (node (name y) []) e = record { named = y; is = refl; so = e }
name-node-sound f (node (name y) (p ∷ ps)) e = absurd (cc)
name-node-sound f (node arrow ps) e = absurd (cc)
name-node-sound f (node (labels ls) ps) e = absurd (cc)

module _ (types : List Row) where
  -- Names

  pub named-sound : (n : ℕ) (y : TyName) → is_named types n y ≡ true → Is types n (name y) []
  named-sound n y e =
      let g = given-sound (node_at types n) (is_name_node (λ z. same_name z y)) e in
      let k = name-node-sound (λ z. same_name z y) g.value g.so in
      g.is ∙ ap Some (k.is ∙ ap (λ z. node (name z) []) (name-same k.named y k.so))

  pub named-since : (n : ℕ) (y : TyName) → Is types n (name y) [] → is_named types n y ≡ true
  named-since n y i = given-since (node_at types n) (is_name_node (λ z. same_name z y)) (node (name y) []) i (same-name y)

  -- References and functions

  pub reference-sound : (n a : ℕ) → is_reference types n a ≡ true → IsRef types n a
  reference-sound n a e =
      let g = given-sound (node_at types n) (headed (name ref_name) (same_numbers (a ∷ []))) e in
      let k = headed-sound (name ref_name) (same_numbers (a ∷ [])) g.value g.so in
      g.is ∙ ap Some (k.is ∙ ap (node (name ref_name)) (sym (numbers-same (a ∷ []) k.parts k.so)))

  pub reference-since : (n a : ℕ) → IsRef types n a → is_reference types n a ≡ true
  reference-since n a i =
      given-since (node_at types n) (headed (name ref_name) (same_numbers (a ∷ []))) (node (name ref_name) (a ∷ [])) i
      (headed-since (name ref_name) (same_numbers (a ∷ [])) (a ∷ []) (same-numbers (a ∷ [])))

  parts-sound : (a u : ℕ) (ps : List ℕ) → result_in a ps ≡ Some u → ps ≡ a ∷ u ∷ []
  parts-sound a u [] e = absurd (cc)
  parts-sound a u (b ∷ []) e = absurd (cc)
  parts-sound a u (b ∷ v ∷ p ∷ ps) e = absurd (cc)
  parts-sound a u (b ∷ v ∷ []) e = by (nat_eq b a) refl e
    where
      by : (c : Bool) → nat_eq b a ≡ c → cond c (Some v) None ≡ Some u → b ∷ v ∷ [] ≡ a ∷ u ∷ []
      by true d e = ap₂ (λ b v. b ∷ v ∷ []) (eqb-true b a d) (some-is e)
      by false d e = absurd (cc)

  function-node : (a u : ℕ) (k : Node) → function_in a k ≡ Some u → k ≡ node arrow (a ∷ u ∷ [])
  function-node a u (node arrow ps) e = ap (node arrow) (parts-sound a u ps e)
  function-node a u (node (labels ls) ps) e = absurd (cc)
  function-node a u (node (name y) ps) e = absurd (cc)

  pub result-sound : (n a u : ℕ) → result_from types n a ≡ Some u → IsFunction types n a u
  result-sound n a u e = let g = then-sound (node_at types n) (function_in a) u e in g.is ∙ ap Some (function-node a u g.value g.gives)

  pub result-since : (n a u : ℕ) → IsFunction types n a u → result_from types n a ≡ Some u
  result-since n a u i = ap (option_and_then (function_in a)) i ∙ if-true (nat_eq a a) (Some u) None (same-number a)

  pub function-sound : (n a u : ℕ) → is_function types n a u ≡ true → IsFunction types n a u
  function-sound n a u e = let g = given-sound (result_from types n a) (nat_eq u) e in result-sound n a u (g.is ∙ ap Some (sym (eqb-true u g.value g.so)))

  pub function-since : (n a u : ℕ) → IsFunction types n a u → is_function types n a u ≡ true
  function-since n a u i = given-since (result_from types n a) (nat_eq u) u (result-since n a u i) (same-number u)

  -- Constants

  pub literal-sound : (l : Literal) (n : ℕ) → has_literal types l n ≡ true → HasLiteral types l n
  literal-sound (int z) n e = has_int z (named-sound n int_name e)
  literal-sound (word k) n e = has_word k (named-sound n word_name e)
  literal-sound (char k) n e = has_char k (named-sound n char_name e)
  literal-sound (string s) n e = has_string s (named-sound n string_name e)
  literal-sound (truth b) n e = absurd (cc)

  pub literal-since : (l : Literal) (n : ℕ) → HasLiteral types l n → has_literal types l n ≡ true
  literal-since l n (has_int z i) = named-since n int_name i
  literal-since l n (has_word k i) = named-since n word_name i
  literal-since l n (has_char k i) = named-since n char_name i
  literal-since l n (has_string s i) = named-since n string_name i

  -- Constructors and exceptions

  pub constructor-sound : (n c : ℕ) (a : Option ℕ) → has_constructor types n c a ≡ true → constructor_at types n c ≡ Some a
  constructor-sound n c a e = let g = given-sound (constructor_at types n c) (same_argument a) e in g.is ∙ ap Some (sym (argument-same a g.value g.so))

  pub constructor-since : (n c : ℕ) (a : Option ℕ) → constructor_at types n c ≡ Some a → has_constructor types n c a ≡ true
  constructor-since n c a i = given-since (constructor_at types n c) (same_argument a) a i (same-argument a)

  pub alone-sound : (a : Option ℕ) (u n : ℕ) → is_alone types a u n ≡ true → AloneAt types a u n
  alone-sound None u n e = subst (AloneAt types None u) (eqb-true u n e) value_at
  alone-sound (Some a) u n e = function_at (function-sound n a u e)

  pub alone-since : (a : Option ℕ) (u n : ℕ) → AloneAt types a u n → is_alone types a u n ≡ true
  alone-since None u n (value_at) = same-number u
  alone-since (Some a) u n (function_at i) = function-since n a u i

  pub exception-sound : (a : Option ℕ) (n : ℕ) → is_exception types a n ≡ true → ExceptionAt types a n
  exception-sound None n e = packet_at (named-sound n exn_name e)
  exception-sound (Some a) n e = let g = given-sound (result_from types n a) (is_exn types) e in to_packets_at (result-sound n a g.value g.is) (named-sound g.value exn_name g.so)

  pub exception-since : (a : Option ℕ) (n : ℕ) → ExceptionAt types a n → is_exception types a n ≡ true
  exception-since None n (packet_at i) = named-since n exn_name i
  exception-since (Some a) n (to_packets_at {e = u} i j) = given-since (result_from types n a) (is_exn types) u (result-since n a u i) (named-since u exn_name j)

  -- Records

  pub record HasField (n : ℕ) (l : Label) (t : ℕ) : Type 0 where
    pub names : List Label
    pub parts : List ℕ
    pub is : Is types n (labels names) parts
    pub there : part l names parts ≡ Some t

  field-node : (n : ℕ) (l : Label) (t : ℕ) (k : Node) → node_at types n ≡ Some k → part_of l k ≡ Some t → HasField n l t
  field-node n l t (node (labels ls) ps) i e = record { names = ls; parts = ps; is = i; there = e }
  field-node n l t (node arrow ps) i e = absurd (cc)
  field-node n l t (node (name y) ps) i e = absurd (cc)

  pub field-sound : (n : ℕ) (l : Label) (t : ℕ) → field_of types n l ≡ Some t → HasField n l t
  field-sound n l t e = let g = then-sound (node_at types n) (part_of l) t e in field-node n l t g.value g.is g.gives

  pub field-since : (n : ℕ) (l : Label) (t : ℕ) (ls : List Label) (ps : List ℕ) → Is types n (labels ls) ps → part l ls ps ≡ Some t → field_of types n l ≡ Some t
  field-since n l t ls ps i e = ap (option_and_then (part_of l)) i ∙ e

  pub record IsRecordAt (n : ℕ) (f : List Label → List ℕ → Bool) : Type 0 where
    pub names : List Label
    pub parts : List ℕ
    pub is : Is types n (labels names) parts
    pub so : f names parts ≡ true

  record-node : (n : ℕ) (f : List Label → List ℕ → Bool) (k : Node) → node_at types n ≡ Some k → is_record_node f k ≡ true → IsRecordAt n f
  record-node n f (node (labels ls) ps) i e = record { names = ls; parts = ps; is = i; so = e }
  record-node n f (node arrow ps) i e = absurd (cc)
  record-node n f (node (name y) ps) i e = absurd (cc)

  pub record-sound : (n : ℕ) (f : List Label → List ℕ → Bool) → given (node_at types n) (is_record_node f) ≡ true → IsRecordAt n f
  record-sound n f e = let g = given-sound (node_at types n) (is_record_node f) e in record-node n f g.value g.is g.so

  pub record-since : (n : ℕ) (f : List Label → List ℕ → Bool) (ls : List Label) (ps : List ℕ) → Is types n (labels ls) ps → f ls ps ≡ true → given (node_at types n) (is_record_node f) ≡ true
  record-since n f ls ps i e = given-since (node_at types n) (is_record_node f) (node (labels ls) ps) i e

  -- Marks

  name-by : (y : TyName) (k : ℕ) → y ≡ overloaded k → y.stamp ≡ k
  name-by y k e = ap (λ (z : TyName). z.stamp) e

  pub allows-sound : (q : Mark) (n : ℕ) → allows types q n ≡ true → Allows types q n
  allows-sound Any n e = tt
  allows-sound Equality n e = e
  allows-sound (OfClass c) n e =
      let g = given-sound (node_at types n) (is_name_node (class_has c)) e in
      let k = name-node-sound (class_has c) g.value g.so in
      let a = and_parts (has c k.named.stamp) (same_name k.named (overloaded k.named.stamp)) k.so in
      record { number = k.named.stamp; is = g.is ∙ ap Some (k.is ∙ ap (λ z. node (name z) []) (name-same k.named (overloaded k.named.stamp) a.1)); held = a.0 }

  pub allows-since : (q : Mark) (n : ℕ) → Allows types q n → allows types q n ≡ true
  allows-since Any n p = refl
  allows-since Equality n p = p
  allows-since (OfClass c) n p =
      given-since (node_at types n) (is_name_node (class_has c)) (node (name (overloaded p.number)) []) p.is
      (and_from (has c p.number) (same_name (overloaded p.number) (overloaded p.number)) p.held (same-name (overloaded p.number)))

-- Labels

other-sound : (l : Label) (ls : List Label) → is_other l ls ≡ true → IsOther l ls
other-sound l [] e = other_none
other-sound l (k ∷ ls) e = by (same_label k l) refl e (other-sound l ls)
  where
    by : (b : Bool) → same_label k l ≡ b → cond b false (is_other l ls) ≡ true → (is_other l ls ≡ true → IsOther l ls) → IsOther l (k ∷ ls)
    by true d e rest = absurd (cc)
    by false d e rest = other_more d (rest e)

other-since : (l : Label) (ls : List Label) → IsOther l ls → is_other l ls ≡ true
other-since l [] other_none = refl
other-since l (k ∷ ls) (other_more d o) = ap (λ b. cond b false (is_other l ls)) d ∙ other-since l ls o

pub distinct-sound : (ls : List Label) → are_distinct ls ≡ true → AreDistinct ls
distinct-sound [] e = distinct_none
distinct-sound (l ∷ ls) e = let a = and_parts (is_other l ls) (are_distinct ls) e in distinct_more (other-sound l ls a.0) (distinct-sound ls a.1)

pub distinct-since : (ls : List Label) → AreDistinct ls → are_distinct ls ≡ true
distinct-since [] distinct_none = refl
distinct-since (l ∷ ls) (distinct_more o d) = and_from (is_other l ls) (are_distinct ls) (other-since l ls o) (distinct-since ls d)

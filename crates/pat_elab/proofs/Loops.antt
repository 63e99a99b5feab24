-- Loops along the parts of a pattern.
use Rattle.std.proofs.Common.{◌≡◌, ◌<◌, ◌≤◌, ◌+◌, ℕ, zero, suc, Bool, true, false, List, [], ◌∷◌, ◌++◌, map, take, length, get_or, refl, sym, ap, ap₂, subst, ◌∙◌, Result, IfOk, Box, Vec, Global, arith}
use Rattle.mlc_names.specs.declared.label.Label.{Label}
use Rattle.mlc_names.specs.declared.label.Label.TheVariants.{Number}
use Rattle.mlc_base.specs.declared.place.Place.{Place}
use Rattle.sml_tree.specs.BareTree as bare
use Rattle.sml_tree.specs.Derived.{VidAt, Operand, tuple_pat, chain_of, left_chain, right_chain, join_pats}
use Rattle.sml_tree.specs.TreeOf.{PatFieldOf, pat_of, pat_field_of, pat_fields_of, pat_part_of}
use Rattle.sml_tree.specs.declared.ident.Vid.{Vid}
use Rattle.sml_tree.specs.declared.tree.Pat.{Pat}
use Rattle.sml_tree.specs.declared.tree.Pat.TheVariants as node
use Rattle.sml_tree.specs.declared.tree.PatField.{PatField}
use Rattle.sml_tree.specs.declared.tree.PatPart.{PatPart}
use Rattle.prog_tree.specs.declared.tree.PatPart.{PatPart as ProgramPart}
use Rattle.elab_types.proofs.Lists.{all-map, next-map-at}
use Rattle.elab_context.specs.of_elab_state.declared.state.State.{State}
use Rattle.elab_context.specs.of_elab_steps.Growing.{HasType, Grows}
use Rattle.elab_context.proofs.of_elab_steps.Changing.{if-ok}
use Rattle.elab_context.proofs.of_elab_steps.Growing.{grows_on, grows_same, type_later}
use Rattle.elab_context.specs.declared.context.Context.{Context}
use Rattle.pat_elab.specs.Elaborated.{IsPat}
use Rattle.pat_elab.specs.declared.bound.BoundVariable.{BoundVariable}
use Rattle.pat_elab.specs.declared.bound.TypedPat.{TypedPat}
use Rattle.pat_elab.specs.Chains.{IsJoined, IsLeft, IsRight}
use Rattle.pat_elab.specs.Fields.{numbered, AreFields}
use Rattle.pat_elab.specs.Lists.{AreElements}
use Rattle.pat_elab.specs.declared.parts.Fields.{Fields}
use Rattle.pat_elab.specs.declared.parts.Joined.{Joined}
use Rattle.pat_elab.specs.declared.parts.LeftChain.{LeftChain}
use Rattle.pat_elab.specs.declared.parts.Listed.{Listed}
use Rattle.pat_elab.specs.declared.parts.RightChain.{RightChain}
use Rattle.pat_elab.proofs.FieldsDo.{numbered-are}
use Rattle.pat_elab.specs.declared.stopped.Stopped.{Stopped}
use Rattle.pat_elab.proofs.Sources.{field-is, part-is, numbered-snoc, source-Chain}

-- an element of a list is the same whatever stands in for it
same-at : {A : Type 0} (xs : List A) (i : ℕ) (d e : A) → i < length xs → get_or xs i d ≡ get_or xs i e
same-at [] i d e lt = absurd (omega arith)
same-at (x ∷ xs) zero d e lt = refl
same-at (x ∷ xs) (suc i) d e lt = same-at xs i d e (omega (arith, lt))

length-first : {A B : Type 0} (f : A → B) (xs : List A) (i : ℕ) → i ≤ length xs → length (map f (take i xs)) ≡ i
length-first f xs zero le = refl
length-first f [] (suc i) le = absurd (omega arith)
length-first f (x ∷ xs) (suc i) le = ap suc (length-first f xs i (omega (arith, le)))

-- fields

pub field_more : (S T : State) (C : Context) (fields : List PatField) (i : ℕ) (d e : PatField) (before after : List BoundVariable) (m : Fields) → i < length fields
    → AreFields S C (map pat_field_of (take i fields) ++ record { label = (get_or fields i e).label; pat = pat_of (get_or fields i d).pat } ∷ []) T before after m
    → AreFields S C (map pat_field_of (take (i + 1) fields)) T before after m
field_more S T C fields i d e before after m lt h =
    let one : record { label = (get_or fields i e).label; pat = pat_of (get_or fields i d).pat } ≡ pat_field_of (get_or fields i d)
    = ap (λ (f : PatField). record { label = f.label; pat = pat_of (get_or fields i d).pat }) (same-at fields i e d lt) ∙ sym (field-is (get_or fields i d)) in
    subst (λ l. AreFields S C l T before after m) (sym (next-map-at pat_field_of fields i d lt))
    (subst (λ f. AreFields S C (map pat_field_of (take i fields) ++ f ∷ []) T before after m) one h)

pub fields_end : (S T U : State) (C : Context) (place : Place) (fields : List PatField) (i : ℕ) (b : Bool) (before after : List BoundVariable) (m : Fields) (r : TypedPat) → length fields ≤ i
    → ((S : State) (before after : List BoundVariable) (fs : List PatFieldOf) (place : Place) → AreFields S C fs T before after m → IsPat S C (bare.fields_pat place (pat_fields_of fs) b) U before after r)
    → AreFields S C (map pat_field_of (take i fields)) T before after m → IsPat S C (bare.fields_pat place (pat_fields_of (map pat_field_of fields)) b) U before after r
fields_end S T U C place fields i b before after m r le made h =
    made S before after (map pat_field_of fields) place (subst (λ l. AreFields S C l T before after m) (all-map pat_field_of fields i le) h)

-- the parts of a tuple

pub part_more : (S T : State) (C : Context) (parts : List Pat) (i : ℕ) (d : Pat) (l : Label) (before after : List BoundVariable) (m : Fields) → i < length parts → d ≡ get_or parts i d
    → l ≡ Number (i + 1) → AreFields S C (numbered 1 (map pat_of (take i parts)) ++ record { label = l; pat = pat_of d } ∷ []) T before after m
    → AreFields S C (numbered 1 (map pat_of (take (i + 1) parts))) T before after m
part_more S T C parts i d l before after m lt is e k =
    let h = subst (λ (a : Pat). AreFields S C (numbered 1 (map pat_of (take i parts)) ++ record { label = l; pat = pat_of a } ∷ []) T before after m) is k in
    let first = map pat_of (take i parts) in
    let n = length-first pat_of parts i (omega (arith, lt)) in
    let count : i + 1 ≡ 1 + length first = omega (arith, n) in
    let whole : numbered 1 (map pat_of (take (i + 1) parts)) ≡ numbered 1 first ++ record { label = Number (1 + length first); pat = pat_of (get_or parts i d) } ∷ []
    = ap (numbered 1) (next-map-at pat_of parts i d lt) ∙ numbered-snoc 1 first (pat_of (get_or parts i d)) in
    subst (λ l. AreFields S C l T before after m) (sym whole)
    (subst (λ l. AreFields S C (numbered 1 first ++ record { label = l; pat = pat_of (get_or parts i d) } ∷ []) T before after m) (e ∙ ap Number count) h)

pub parts_end : (S T U : State) (C : Context) (place : Place) (parts : List Pat) (i : ℕ) (before after : List BoundVariable) (m : Fields) (r : TypedPat) → length parts ≤ i
    → ((S : State) (before after : List BoundVariable) (fs : List PatFieldOf) (place : Place) → AreFields S C fs T before after m → IsPat S C (bare.fields_pat place (pat_fields_of fs) false) U before after r)
    → AreFields S C (numbered 1 (map pat_of (take i parts))) T before after m → IsPat S C (tuple_pat place (map pat_of parts)) U before after r
parts_end S T U C place parts i before after m r le made h =
    subst (λ fs. IsPat S C (bare.fields_pat place fs false) U before after r) (sym (numbered-are 1 (map pat_of parts)))
    (made S before after (numbered 1 (map pat_of parts)) place (subst (λ l. AreFields S C (numbered 1 l) T before after m) (all-map pat_of parts i le) h))

-- the elements of a list

pub element_more : (S T : State) (C : Context) (l : Listed) (elements : List Pat) (i : ℕ) (d : Pat) (before after : List BoundVariable) (gs : List ProgramPart) → i < length elements
    → d ≡ get_or elements i d → AreElements S C l (map pat_of (take i elements) ++ pat_of d ∷ []) T before after gs → AreElements S C l (map pat_of (take (i + 1) elements)) T before after gs
element_more S T C l elements i d before after gs lt is h =
    subst (λ as_. AreElements S C l as_ T before after gs) (sym (next-map-at pat_of elements i d lt))
    (subst (λ (a : Pat). AreElements S C l (map pat_of (take i elements) ++ pat_of a ∷ []) T before after gs) is h)

pub elements_end : (S T : State) (C : Context) (l : Listed) (elements : List Pat) (i : ℕ) (before after : List BoundVariable) (gs : List ProgramPart) → length elements ≤ i
    → AreElements S C l (map pat_of (take i elements)) T before after gs → AreElements S C l (map pat_of elements) T before after gs
elements_end S T C l elements i before after gs le h = subst (λ as_. AreElements S C l as_ T before after gs) (all-map pat_of elements i le) h

-- chains

next-operands : (parts : List PatPart) (i : ℕ) (d e f : PatPart) → i < length parts
    → map pat_part_of (take (i + 1) parts)
    ≡ map pat_part_of (take i parts) ++ record { joint = record { place = (get_or parts i d).vid_place; vid = (get_or parts i e).vid }; place = (get_or parts i f).place; operand = pat_of (get_or parts i f).pat } ∷ []
next-operands parts i d e f lt =
    let g : PatPart = get_or parts i f in
    next-map-at pat_part_of parts i f lt
    ∙ ap (λ o. map pat_part_of (take i parts) ++ o ∷ [])
    (part-is g
    ∙ ap₂ (λ (a b : PatPart). record { joint = record { place = a.vid_place; vid = b.vid }; place = (get_or parts i f).place; operand = pat_of (get_or parts i f).pat }) (same-at parts i f d lt) (same-at parts i f e lt))

-- to the left, from the first operand on
pub record LeftSoFar (S : State) (C : Context) (b : List BoundVariable) (m : LeftChain) (os : List (Operand VidAt bare.Pat)) (T : State) (c : List BoundVariable) (n : LeftChain) : Type 0 where
  pub grows : Grows S T
  pub is : HasType T n.ty
  pub left : (R : State) (place : Place) (a : bare.Pat) (before : List BoundVariable) → IsLeft R C place a [] S before b m → IsLeft R C place a os T before c n

pub left_begins : (S : State) (C : Context) (b : List BoundVariable) (m : LeftChain) → HasType S m.ty → LeftSoFar S C b m [] S b m
left_begins S C b m h = record { grows = grows_same S; is = h; left = λ R place a before k. k }

pub left_goes : (S T N U : State) (C : Context) (b c k : List BoundVariable) (m n r : LeftChain) (parts : List PatPart) (i : ℕ) (d e f : PatPart) (at : Place) (vid : Vid) (one : TypedPat)
    → i < length parts → LeftSoFar S C b m (map pat_part_of (take i parts)) T c n → IsPat T C (pat_of (get_or parts i f).pat) N c k one → Grows N U → HasType U r.ty
    → ((R M : State) (whole : Place) (a : bare.Pat) (os : List (Operand VidAt bare.Pat)) (o : Operand VidAt bare.Pat) (before mid after : List BoundVariable)
    → o.joint ≡ record { place = at; vid = vid } → IsLeft R C whole a os M before mid n → IsPat M C o.operand N mid after one → IsLeft R C whole a (os ++ o ∷ []) U before after r)
    → at ≡ (get_or parts i d).vid_place → vid ≡ (get_or parts i e).vid → LeftSoFar S C b m (map pat_part_of (take (i + 1) parts)) U k r
left_goes S T N U C b c k m n r parts i d e f at vid one lt h p g is add ep ev =
    let o : Operand VidAt bare.Pat = record { joint = record { place = (get_or parts i d).vid_place; vid = (get_or parts i e).vid }; place = (get_or parts i f).place; operand = pat_of (get_or parts i f).pat } in
    let joint : o.joint ≡ record { place = at; vid = vid } = ap₂ (λ (x : Place) (v : Vid). record { place = x; vid = v }) (sym ep) (sym ev) in
    subst (λ os. LeftSoFar S C b m os U k r) (sym (next-operands parts i d e f lt)) (record {
      grows = grows_on S T U h.grows (grows_on T N U p.grows g);
      is = is;
      left = λ R place a before q. add R T place a (map pat_part_of (take i parts)) o before c k joint (h.left R place a before q) p;
    })

pub left_ends : (S T : State) (C : Context) (b c : List BoundVariable) (m n : LeftChain) (parts : List PatPart) (i : ℕ) → length parts ≤ i → LeftSoFar S C b m (map pat_part_of (take i parts)) T c n
    → LeftSoFar S C b m (map pat_part_of parts) T c n
left_ends S T C b c m n parts i le h = subst (λ os. LeftSoFar S C b m os T c n) (all-map pat_part_of parts i le) h

-- and to the right
pub record RightSoFar (S : State) (C : Context) (b : List BoundVariable) (m : RightChain) (os : List (Operand VidAt bare.Pat)) (T : State) (c : List BoundVariable) (n : RightChain) : Type 0 where
  pub grows : Grows S T
  pub last : HasType T n.last
  pub hole : HasType T n.hole
  pub right : (R : State) (a : bare.Pat) (before : List BoundVariable) → IsRight R C a [] S before b m → IsRight R C a os T before c n

pub right_begins : (S : State) (C : Context) (b : List BoundVariable) (m : RightChain) → HasType S m.last → HasType S m.hole → RightSoFar S C b m [] S b m
right_begins S C b m h k = record { grows = grows_same S; last = h; hole = k; right = λ R a before k. k }

pub right_goes : (S T N U : State) (C : Context) (b c k : List BoundVariable) (m n r : RightChain) (parts : List PatPart) (i : ℕ) (d e f : PatPart) (at : Place) (vid : Vid) (one : TypedPat)
    (joined : Joined) (hole : ℕ) → i < length parts → RightSoFar S C b m (map pat_part_of (take i parts)) T c n
    → IsJoined T C (join_pats (record { place = at; vid = vid })) n.last hole n.hole N joined → IsPat N C (pat_of (get_or parts i f).pat) U c k one → r.last ≡ one.ty → r.hole ≡ hole
    → ((R M N T : State) (C : Context) (a : bare.Pat) (os : List (Operand VidAt bare.Pat)) (o : Operand VidAt bare.Pat) (before mid after : List BoundVariable) → IsRight R C a os M before mid n
    → IsJoined M C (join_pats o.joint) n.last hole n.hole N joined → IsPat N C o.operand T mid after one → IsRight R C a (os ++ o ∷ []) T before after r)
    → at ≡ (get_or parts i d).vid_place → vid ≡ (get_or parts i e).vid → RightSoFar S C b m (map pat_part_of (take (i + 1) parts)) U k r
right_goes S T N U C b c k m n r parts i d e f at vid one joined hole lt h j p el eh add ep ev =
    let o : Operand VidAt bare.Pat = record { joint = record { place = (get_or parts i d).vid_place; vid = (get_or parts i e).vid }; place = (get_or parts i f).place; operand = pat_of (get_or parts i f).pat } in
    let here = subst (λ (v : VidAt). IsJoined T C (join_pats v) n.last hole n.hole N joined) (ap₂ (λ (x : Place) (v : Vid). record { place = x; vid = v }) ep ev) j in
    subst (λ os. RightSoFar S C b m os U k r) (sym (next-operands parts i d e f lt)) (record {
      grows = grows_on S T U h.grows (grows_on T N U j.grows p.grows);
      last = subst (HasType U) (sym el) p.is;
      hole = subst (HasType U) (sym eh) (type_later N U hole p.grows j.right_is);
      right = λ R a before q. add R T N U C a (map pat_part_of (take i parts)) o before c k (h.right R a before q) here p;
    })

pub right_ends : (S T : State) (C : Context) (b c : List BoundVariable) (m n : RightChain) (parts : List PatPart) (i : ℕ) → length parts ≤ i → RightSoFar S C b m (map pat_part_of (take i parts)) T c n
    → RightSoFar S C b m (map pat_part_of parts) T c n
right_ends S T C b c m n parts i le h = subst (λ os. RightSoFar S C b m os T c n) (all-map pat_part_of parts i le) h

-- the pattern of a node
pub of_source : (S T : State) (C : Context) (before after : List BoundVariable) (r : TypedPat) (p q : Pat) (a : bare.Pat) → p ≡ q → pat_of q ≡ a → IsPat S C a T before after r
    → IsPat S C (pat_of p) T before after r
of_source S T C before after r p q a e s h = subst (λ z. IsPat S C z T before after r) (sym (ap pat_of e ∙ s)) h

-- and that of a chain, behind its first operand
module _ (S M T : State) (C : Context) (before mid after : List BoundVariable) (first : TypedPat) (r : Result TypedPat Stopped) (p : Pat) (place : Place) (right : Bool) (a : Box Pat Global)
    (ps : Vec PatPart Global) (inner : Pat) (parts : List PatPart) where
  chain-node : (is : p ≡ node.Chain place right a ps) → inner ≡ a.value → parts ≡ ps.items → (b : Bool) → right ≡ b
      → pat_of p ≡ chain_of (λ v. join_pats v) b place (pat_of inner) (map pat_part_of parts)
  chain-node is ea ep b eb =
      ap pat_of is ∙ source-Chain place right a ps ∙ ap₂ (λ c os. chain_of (λ v. join_pats v) c place (pat_of a.value) os) eb (ap (map pat_part_of) (sym ep))
      ∙ ap (λ (x : Pat). chain_of (λ v. join_pats v) b place (pat_of x) (map pat_part_of parts)) (sym ea)

  pub to_right : p ≡ node.Chain place right a ps → right ≡ true → inner ≡ a.value → parts ≡ ps.items → IsPat S C (pat_of inner) M before mid first
      → IfOk r (λ r. (S : State) (place : Place) (a : bare.Pat) (before : List BoundVariable) → IsPat S C a M before mid first
      → IsPat S C (right_chain (λ v. join_pats v) place a (map pat_part_of parts)) T before after r)
      → IfOk r (λ r. IsPat S C (pat_of p) T before after r)
  to_right is b ea ep h made =
      if-ok r (λ r k. subst (λ z. IsPat S C z T before after r) (sym (chain-node is ea ep true b)) (k S place (pat_of inner) before h)) made

  pub to_left : p ≡ node.Chain place right a ps → right ≡ false → inner ≡ a.value → parts ≡ ps.items → IsPat S C (pat_of inner) M before mid first
      → IfOk r (λ r. (S : State) (place : Place) (a : bare.Pat) (before : List BoundVariable) → IsPat S C a M before mid first
      → IsPat S C (left_chain (λ v. join_pats v) place a (map pat_part_of parts)) T before after r)
      → IfOk r (λ r. IsPat S C (pat_of p) T before after r)
  to_left is b ea ep h made =
      if-ok r (λ r k. subst (λ z. IsPat S C z T before after r) (sym (chain-node is ea ep false b)) (k S place (pat_of inner) before h)) made

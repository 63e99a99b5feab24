-- Lists of patterns.
use Rattle.std.proofs.Common.{◌≡◌, ℕ, List, [], ◌∷◌, ◌++◌, map, length, slice_index_or, Vec, Box, Global, refl, sym, ap, ap₂, subst, ◌∙◌, arith}
use Rattle.std.specs.Prelude.{remove}
use Rattle.std.proofs.lemmas.List.{append_assoc}
use Rattle.mlc_base.specs.declared.place.Place.{Place}
use Rattle.ty_basis.specs.Types.{list_type, pair_type}
use Rattle.sml_tree.specs.BareTree as bare
use Rattle.sml_tree.specs.declared.ident.BuiltIn.TheVariants.{Cons, Nil}
use Rattle.sml_tree.specs.Derived.{list_pat_of}
use Rattle.ir_poly.specs.Prog as prog
use Rattle.core_elab.specs.Scopes.{built_number}
use Rattle.prog_tree.specs.TreeOf.{pat_of, pat_part_of, join_pats, right_pats, PatPartTree}
use Rattle.prog_tree.specs.declared.tree.Head.TheVariants as head
use Rattle.prog_tree.specs.declared.tree.Pair.{Pair}
use Rattle.prog_tree.specs.declared.tree.Pat.{Pat}
use Rattle.prog_tree.specs.declared.tree.Pat.TheVariants as tree
use Rattle.prog_tree.specs.declared.tree.PatPart.{PatPart}
use Rattle.prog_tree.specs.declared.tree.Side.TheVariants as side
use Rattle.prog_tree.proofs.ExpOf.{pat_of-Chain}
use Rattle.elab_context.specs.of_elab_typed.Contexts.{Around}
use Rattle.elab_context.specs.of_elab_typed.Numbers.{type_as}
use Rattle.elab_context.specs.of_elab_state.declared.state.State.{State}
use Rattle.elab_context.specs.of_elab_steps.Growing.{HasType, Grows, Always, IsWithin}
use Rattle.elab_context.specs.of_elab_steps.World.{World, type_of}
use Rattle.elab_context.proofs.of_elab_steps.Growing.{grows_on, grows_same, type_later, comes_before}
use Rattle.elab_context.specs.Entries.{limit_of}
use Rattle.elab_context.specs.Telling.{IsContext}
use Rattle.elab_context.specs.declared.context.Context.{Context}
use Rattle.pat_elab.proofs.Forms.{all-later}
use Rattle.pat_elab.proofs.Leaves.{no-more, within-names, within-parameters}
use Rattle.pat_elab.proofs.Trees.{pat_part_of-is, pat_of-Constructor}
use Rattle.pat_elab.specs.Elaborated.{Elaborates, IsPat}
use Rattle.pat_elab.specs.declared.bound.BoundVariable.{BoundVariable}
use Rattle.pat_elab.specs.declared.bound.TypedPat.{TypedPat}
use Rattle.pat_elab.proofs.Listing.{cons_heads, nil_at}
use Rattle.pat_elab.proofs.Matching.{as-written}
use Rattle.pat_elab.specs.declared.headed.Headed.{Headed}
use Rattle.pat_elab.proofs.Chains.{head_joins}
use Rattle.pat_elab.proofs.FieldsDo.{all-append}
use Rattle.pat_elab.specs.Chains.{IsJoin}
use Rattle.pat_elab.specs.Lists.{cons_pat, AreListed, IsListed, Elements, no_elements, an_element, AreElements}
use Rattle.pat_elab.specs.declared.parts.Listed.{Listed}

-- the types of a list

pair-parts : (a b c : ℕ) (p : Pair) → p ≡ record { ty = a; left = b; right = c } → (p.ty ≡ a) × (p.left ≡ b) × (p.right ≡ c)
pair-parts a b c p e = (ap (λ z. z.ty) e, ap (λ z. z.left) e, ap (λ z. z.right) e)

pub listed_is : (S E L P X Y Z : State) (C : Context) (element ty whole w left right : ℕ) (l : Listed) → IsContext S C → Grows S E → HasType E element → Always E (λ W. IsWithin W (limit_of C) element)
    → E.next ≡ S.next → Grows E L → HasType L ty → Always L (λ W. type_of W ty ≡ list_type (type_of W element)) → L.next ≡ E.next
    → Grows L P → Always P (λ W. type_of W whole ≡ pair_type (type_of W element) (type_of W ty)) → P.next ≡ L.next
    → Grows P X → Always X (λ W. W.reading.type w ≡ type_as (W.naming C.naming) (type_of W whole)) → X.next ≡ P.next
    → Grows X Y → Always Y (λ W. W.reading.type left ≡ type_as (W.naming C.naming) (type_of W element)) → Y.next ≡ X.next
    → Grows Y Z → Always Z (λ W. W.reading.type right ≡ type_as (W.naming C.naming) (type_of W ty)) → Z.next ≡ Y.next
    → l.head ≡ head.Constructor (built_number Cons) → l.pair ≡ record { ty = w; left = left; right = right } → l.element ≡ element → l.ty ≡ ty → IsListed S C Z l
listed_is S E L P X Y Z C element ty whole w left right l i ge is inside ne gl tyis list nl gp both np gx wx nx gy wy ny gz wz nz eh ep ee et =
    let yz = gz in let xz = grows_on X Y Z gy gz in let pz = grows_on P X Z gx xz in let lz = grows_on L P Z gp pz in let ez = grows_on E L Z gl lz in record {
      grows = grows_on S E Z ge ez;
      next = nz ∙ ny ∙ nx ∙ np ∙ nl ∙ ne;
      element = subst (HasType Z) (sym ee) (type_later E Z element ez is);
      is = subst (HasType Z) (sym et) (type_later L Z ty lz tyis);
      gives = λ W c A t.
          let u = type_of W element in
          let within = inside W (comes_before E Z W ez c) in
          let names = within-names C W A element t within in
          let parameters = within-parameters S C W A element i t within in
          let elements : type_of W ty ≡ list_type u = list W (comes_before L Z W lz c) in
          let pairs : type_of W whole ≡ pair_type u (list_type u) = both W (comes_before P Z W pz c) ∙ ap (pair_type u) elements in
          let h : Headed = record { head = l.head; written = w; ty = ty } in
          let parts = pair-parts w left right l.pair ep in
          let heads = λ (place : Place). cons_heads S C W A place u (pair_type u (list_type u)) h i t names parameters refl eh
          (as-written C W A w (pair_type u (list_type u)) t (wx W (comes_before X Z W xz c) ∙ ap (type_as (W.naming C.naming)) pairs)) elements in
          subst (λ k. AreListed W A (record l { ty = k })) (sym et) (subst (λ k. AreListed W A (record l { element = k; ty = ty })) (sym ee) (record {
            joins = λ g qh qp.
                subst (λ z. IsJoin W A cons_pat g u z (type_of W ty)) (sym elements)
                (head_joins W A (λ place. bare.built_con_pat place Cons) u (list_type u) h g heads qh (ap (λ z. z.ty) qp ∙ parts.0)
                (ap W.reading.type (ap (λ z. z.left) qp ∙ parts.1) ∙ as-written C W A left u t (wy W (comes_before Y Z W yz c)))
                (ap W.reading.type (ap (λ z. z.right) qp ∙ parts.2) ∙ as-written C W A right (list_type u) t (wz W c ∙ ap (type_as (W.naming C.naming)) elements)));
            nil = λ place k. subst (λ z. Elaborates W A k (bare.built_pat place Nil) (prog.con_pat (built_number Nil)) z [] k) (sym elements) (nil_at S C W A place k u i t names parameters);
          }));
    }

-- elements one after the other

elements-snoc : {W : World} {A : Around} {l : Listed} {k i j : ℕ} {as_ : List bare.Pat} {a : bare.Pat} {gs : List PatPart} (g : PatPart) {bs cs ds : List BoundVariable} → Elements W A l k as_ gs bs i
    → g.head ≡ l.head → g.pair ≡ l.pair → Elaborates W A i a (pat_of W.reading g.pat) (type_of W l.element) cs j → ds ≡ bs ++ cs → Elements W A l k (as_ ++ a ∷ []) (gs ++ g ∷ []) ds j
elements-snoc g {cs = cs} no_elements eh ep x e = an_element eh ep x no_elements (e ∙ no-more cs)
elements-snoc g {cs = cs} (an_element {bs = ps} {cs = qs} fh fp y rest d) eh ep x e =
    an_element fh fp y (elements-snoc g rest eh ep x refl) (e ∙ ap (λ m. m ++ cs) d ∙ append_assoc ps qs cs)

pub none_are : (S : State) (C : Context) (l : Listed) (bs : List BoundVariable) (gs : List PatPart) → gs ≡ [] → AreElements S C l [] S bs bs gs
none_are S C l bs gs e = record {
  added = [];
  bound = no-more bs;
  grows = grows_same S;
  have = tt;
  gives = λ W c A t. subst (λ hs. Elements W A l S.next [] hs [] S.next) (sym e) no_elements;
}

pub one_added : (S M N T : State) (C : Context) (l : Listed) (before mid after : List BoundVariable) (as_ : List bare.Pat) (a : bare.Pat) (one : TypedPat) (gs hs : List PatPart) → Grows N T
    → Always T (λ W. type_of W one.ty ≡ type_of W l.element) → T.next ≡ N.next → hs ≡ gs ++ record { head = l.head; pair = l.pair; pat = one.pat } ∷ []
    → AreElements S C l as_ M before mid gs → IsPat M C a N mid after one → AreElements S C l (as_ ++ a ∷ []) T before after hs
one_added S M N T C l before mid after as_ a one gs hs g same n e h k =
    let up = grows_on M N T k.grows g in record {
      added = h.added ++ k.added;
      bound = k.bound ∙ ap (λ l. l ++ k.added) h.bound ∙ append_assoc before h.added k.added;
      grows = grows_on S M T h.grows up;
      have = all-append T h.added k.added (all-later M T up h.added h.have) (all-later N T g k.added k.have);
      gives = λ W c A t.
          let x = subst (Elaborates W A M.next a (pat_of W.reading one.pat) (type_of W one.ty) k.added) (sym n) (k.gives W (comes_before N T W g c) A t) in
          let y = subst (λ u. Elaborates W A M.next a (pat_of W.reading one.pat) u k.added T.next) (same W c) x in
          subst (λ z. Elements W A l S.next (as_ ++ a ∷ []) z (h.added ++ k.added) T.next) (sym e) (elements-snoc (record { head = l.head; pair = l.pair; pat = one.pat }) (h.gives W (comes_before M T W up c) A t) refl refl y refl);
    }

-- the whole list, where e is its end
module _ (W : World) (A : Around) (l : Listed) (place : Place) (e : PatPart) (m : AreListed W A l) (eh : e.head ≡ l.head) (ep : e.pair ≡ l.pair) (ez : pat_of W.reading e.pat ≡ prog.con_pat (built_number Nil)) where
  list-do : {k i j : ℕ} {a : bare.Pat} {as_ : List bare.Pat} {p : prog.Pat} {gs : List PatPart} {bs cs ds : List BoundVariable} → Elaborates W A k a p (type_of W l.element) bs i
      → Elements W A l i as_ gs cs j → ds ≡ bs ++ cs
      → Elaborates W A k (list_pat_of place (a ∷ as_)) (right_pats p (map (pat_part_of W.reading) (gs ++ e ∷ []))) (type_of W l.ty) ds j
  list-do {k = k} {i = i} {a = a} {p = p} {bs = bs} x no_elements d =
      subst (λ b. Elaborates W A k (cons_pat place a (bare.built_pat place Nil)) (join_pats (pat_part_of W.reading e) p (pat_part_of W.reading e).pat) (type_of W l.ty) b i) (sym d)
      (subst (λ q. Elaborates W A k (cons_pat place a (bare.built_pat place Nil)) (join_pats (pat_part_of W.reading e) p q) (type_of W l.ty) (bs ++ []) i)
      (sym (ap (λ (z : PatPartTree). z.pat) (pat_part_of-is W.reading e) ∙ ez))
      ((m.joins e eh ep).joins place k i i a (bare.built_pat place Nil) p (prog.con_pat (built_number Nil)) bs [] x (m.nil place i)))
  list-do {k = k} {i = i} {j = j} {a = a} {p = p} {bs = bs} x (an_element {a = b} {as_ = as_} {g = g} {gs = gs} {ds = cs} gh gp y rest f) d =
      let inner = list-do {k = i} y rest f in
      let qs = map (pat_part_of W.reading) (gs ++ e ∷ []) in
      subst (λ b'. Elaborates W A k (cons_pat place a (list_pat_of place (b ∷ as_))) (join_pats (pat_part_of W.reading g) p (right_pats (pat_part_of W.reading g).pat qs)) (type_of W l.ty) b' j) (sym d)
      (subst (λ q. Elaborates W A k (cons_pat place a (list_pat_of place (b ∷ as_))) (join_pats (pat_part_of W.reading g) p (right_pats q qs)) (type_of W l.ty) (bs ++ cs) j)
      (sym (ap (λ (z : PatPartTree). z.pat) (pat_part_of-is W.reading g)))
      ((m.joins g gh gp).joins place k i j a (list_pat_of place (b ∷ as_)) p (right_pats (pat_of W.reading g.pat) qs) bs cs x inner))

  list-all : {k j : ℕ} {as_ : List bare.Pat} {gs : List PatPart} {ds : List BoundVariable} (first : PatPart) (rest : List PatPart) → Elements W A l k as_ gs ds j → (gs ≡ [] → ⊥) → gs ++ e ∷ [] ≡ first ∷ rest
      → Elaborates W A k (list_pat_of place as_) (right_pats (pat_of W.reading first.pat) (map (pat_part_of W.reading) rest)) (type_of W l.ty) ds j
  list-all first rest no_elements n q = absurd (n refl)
  list-all {k = k} {j = j} {ds = ds} first rest (an_element {a = a} {as_ = as_} {g = g} {gs = gs} gh gp x more d) n q =
      let same : g ≡ first = cc in
      let behind : gs ++ e ∷ [] ≡ rest = cc in
      subst (λ z. Elaborates W A k (list_pat_of place (a ∷ as_)) (right_pats (pat_of W.reading z.pat) (map (pat_part_of W.reading) rest)) (type_of W l.ty) ds j) same
      (subst (λ z. Elaborates W A k (list_pat_of place (a ∷ as_)) (right_pats (pat_of W.reading g.pat) (map (pat_part_of W.reading) z)) (type_of W l.ty) ds j) behind (list-do x more d))

  list-none : {k j : ℕ} {as_ : List bare.Pat} {gs : List PatPart} {ds : List BoundVariable} → Elements W A l k as_ gs ds j → gs ≡ []
      → Elaborates W A k (list_pat_of place as_) (prog.con_pat (built_number Nil)) (type_of W l.ty) ds j
  list-none {k = k} no_elements q = m.nil place k
  list-none (an_element gh gp x more d) q = absurd (cc)

pub list_none : (S L T : State) (C : Context) (place : Place) (before after : List BoundVariable) (as_ : List bare.Pat) (l : Listed) (gs : List PatPart) (r : TypedPat) → gs ≡ []
    → r.pat ≡ tree.Constructor (built_number Nil) → r.ty ≡ l.ty → IsListed S C L l → AreElements L C l as_ T before after gs → IsPat S C (list_pat_of place as_) T before after r
list_none S L T C place before after as_ l gs r q p et h k = record {
  added = k.added;
  bound = k.bound;
  grows = grows_on S L T h.grows k.grows;
  is = subst (HasType T) (sym et) (type_later L T l.ty k.grows h.is);
  have = k.have;
  gives = λ W c A t.
      let m = h.gives W (comes_before L T W k.grows c) A t in
      let e : PatPart = record { head = l.head; pair = l.pair; pat = tree.Constructor (built_number Nil) } in
      subst (λ n. Elaborates W A n (list_pat_of place as_) (pat_of W.reading r.pat) (type_of W r.ty) k.added T.next) h.next
      (subst (λ z. Elaborates W A L.next (list_pat_of place as_) z (type_of W r.ty) k.added T.next) (sym (ap (pat_of W.reading) p ∙ pat_of-Constructor W.reading (built_number Nil)))
      (subst (λ z. Elaborates W A L.next (list_pat_of place as_) (prog.con_pat (built_number Nil)) (type_of W z) k.added T.next) (sym et)
      (list-none W A l place e m refl refl (pat_of-Constructor W.reading (built_number Nil)) (k.gives W c A t) q)));
}

pub list_is : (S L T : State) (C : Context) (place : Place) (before after : List BoundVariable) (as_ : List bare.Pat) (l : Listed) (gs : List PatPart) (r : TypedPat) (e first : PatPart)
    (rest : Vec PatPart Global) (boxed : Box Pat Global) → (gs ≡ [] → ⊥) → e.head ≡ l.head → e.pair ≡ l.pair → e.pat ≡ tree.Constructor (built_number Nil) → gs ++ e ∷ [] ≡ first ∷ rest.items
    → boxed.value ≡ first.pat → r.pat ≡ tree.Chain side.Right boxed rest → r.ty ≡ l.ty → IsListed S C L l → AreElements L C l as_ T before after gs → IsPat S C (list_pat_of place as_) T before after r
list_is S L T C place before after as_ l gs r e first rest boxed n eh ep ez q v p et h k = record {
  added = k.added;
  bound = k.bound;
  grows = grows_on S L T h.grows k.grows;
  is = subst (HasType T) (sym et) (type_later L T l.ty k.grows h.is);
  have = k.have;
  gives = λ W c A t.
      let m = h.gives W (comes_before L T W k.grows c) A t in
      let done = list-all W A l place e m eh ep (ap (pat_of W.reading) ez ∙ pat_of-Constructor W.reading (built_number Nil)) first rest.items (k.gives W c A t) n q in
      subst (λ n. Elaborates W A n (list_pat_of place as_) (pat_of W.reading r.pat) (type_of W r.ty) k.added T.next) h.next
      (subst (λ z. Elaborates W A L.next (list_pat_of place as_) z (type_of W r.ty) k.added T.next)
      (sym (ap (pat_of W.reading) p ∙ pat_of-Chain W.reading side.Right boxed rest ∙ ap (λ z. right_pats (pat_of W.reading z) (map (pat_part_of W.reading) rest.items)) v))
      (subst (λ z. Elaborates W A L.next (list_pat_of place as_) (right_pats (pat_of W.reading first.pat) (map (pat_part_of W.reading) rest.items)) (type_of W z) k.added T.next) (sym et) done));
}

-- what the code's tests and edits of a list say
pub empty-list : (n : ℕ) (gs : List PatPart) → n ≡ 0 → n ≡ length gs → gs ≡ []
empty-list n [] e q = refl
empty-list n (g ∷ gs) e q = absurd (omega (arith, e, q))

pub full-list : (n : ℕ) (gs : List PatPart) → (n ≡ 0 → ⊥) → n ≡ length gs → gs ≡ [] → ⊥
full-list n gs e q z = e (q ∙ ap length z)

pub first-removed : (e first : PatPart) (all gs rest : List PatPart) → all ≡ gs ++ e ∷ [] → first ≡ slice_index_or all 0 first → rest ≡ remove all 0 → gs ++ e ∷ [] ≡ first ∷ rest
first-removed e first all [] rest a f r =
    ap₂ (λ x l. x ∷ l) (sym (f ∙ ap (λ l. slice_index_or l 0 first) a)) (sym (r ∙ ap (λ l. remove l 0) a))
first-removed e first all (g ∷ gs) rest a f r =
    ap₂ (λ x l. x ∷ l) (sym (f ∙ ap (λ l. slice_index_or l 0 first) a)) (sym (r ∙ ap (λ l. remove l 0) a))

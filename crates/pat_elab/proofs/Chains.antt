-- Patterns joined by constructors.
use Rattle.std.proofs.Common.{◌≡◌, ℕ, true, false, ◌&&◌, List, [], ◌∷◌, ◌++◌, map, Box, Global, refl, sym, ap, ap₂, subst, ◌∙◌}
use Rattle.std.proofs.lemmas.List.{append_assoc, map-append}
use Rattle.mlc_names.specs.declared.label.Label.TheVariants.{Number}
use Rattle.mlc_base.specs.declared.place.Place.{Place}
use Rattle.ty_core.specs.Types.{Typ}
use Rattle.ty_basis.specs.Types.{pair_type}
use Rattle.sml_tree.specs.BareTree as bare
use Rattle.sml_tree.specs.declared.ident.Vid.{Vid}
use Rattle.sml_tree.specs.Derived.{Operand, VidAt, tuple_pat, join_pats as join_source, short, right_chain, left_chain}
use Rattle.core_rules.specs.Choices.{no_choice, both}
use Rattle.ir_poly.specs.Prog as prog
use Rattle.prog_tree.specs.TreeOf.{pat_of, pat_part_of, join_pats, right_pats, left_pats, before, PatPartTree}
use Rattle.prog_tree.specs.declared.tree.Pat.{Pat}
use Rattle.prog_tree.specs.declared.tree.Pat.TheVariants as tree
use Rattle.prog_tree.specs.declared.tree.Pair.{Pair}
use Rattle.prog_tree.specs.declared.tree.PatPart.{PatPart}
use Rattle.prog_tree.specs.declared.tree.Side.TheVariants as side
use Rattle.prog_tree.proofs.ExpOf.{pat_of-Chain}
use Rattle.elab_context.specs.of_elab_typed.Contexts.{Around}
use Rattle.elab_context.specs.of_elab_typed.Elaborates.{no_pats_elab, fields_elab}
use Rattle.elab_context.specs.of_elab_typed.Instances.{as_typed}
use Rattle.elab_context.specs.of_elab_typed.Numbers.{type_as}
use Rattle.elab_context.specs.of_elab_state.declared.state.State.{State}
use Rattle.elab_context.specs.of_elab_steps.Growing.{HasType, Grows, Always}
use Rattle.elab_context.specs.of_elab_steps.World.{World, type_of}
use Rattle.elab_context.proofs.of_elab_steps.Growing.{grows_on, type_later, comes_before}
use Rattle.elab_context.specs.declared.context.Context.{Context}
use Rattle.pat_elab.proofs.Forms.{all-later}
use Rattle.pat_elab.proofs.Leaves.{no-more}
use Rattle.pat_elab.proofs.Trees.{pat_part_of-is}
use Rattle.pat_elab.specs.Elaborated.{Elaborates, IsPat}
use Rattle.pat_elab.specs.declared.bound.BoundVariable.{BoundVariable}
use Rattle.pat_elab.specs.declared.bound.TypedPat.{TypedPat}
use Rattle.pat_elab.proofs.Matching.{as-written}
use Rattle.pat_elab.specs.Matched.{IsHead, IsHeaded}
use Rattle.pat_elab.specs.declared.headed.Headed.{Headed}
use Rattle.pat_elab.proofs.FieldsDo.{one-more, all-append}
use Rattle.pat_elab.specs.Chains.{IsJoin, IsJoined, Right, none_right, one_right, IsRight, IsLeft}
use Rattle.pat_elab.specs.declared.parts.Joined.{Joined}
use Rattle.pat_elab.specs.declared.parts.LeftChain.{LeftChain}
use Rattle.pat_elab.specs.declared.parts.RightChain.{RightChain}

-- a pair of patterns
pub pair_do : (W : World) (A : Around) (place : Place) (k i j : ℕ) (a b : bare.Pat) (p q : prog.Pat) (l r v w : Typ) (bs cs : List BoundVariable) → Elaborates W A k a p l bs i
    → Elaborates W A i b q r cs j → v ≡ as_typed A l → w ≡ as_typed A r
    → Elaborates W A k (tuple_pat place (a ∷ b ∷ [])) (prog.fields_pat false (prog.a_pat (Number 1) v p (prog.a_pat (Number 2) w q prog.no_pats))) (pair_type l r) (bs ++ cs) j
pair_do W A place k i j a b p q l r v w bs cs x y ev ew =
    let whole = (Number 1, l) ∷ (Number 2, r) ∷ [] in
    let second = one-more W A whole i j j (Number 2) b q r cs [] cs y.choices no_choice bare.no_pat_fields prog.no_pats [] (Number 2) (Number 2) w refl y.parameters y.elab no_pats_elab (no-more cs) refl refl ew in
    let first = one-more W A whole k i j (Number 1) a p l bs cs (bs ++ cs) x.choices (both y.choices no_choice) (bare.pat_field (Number 2) b bare.no_pat_fields)
    (prog.a_pat (Number 2) w q prog.no_pats) ((Number 2, r) ∷ []) (Number 1) (Number 1) v refl x.parameters x.elab second refl refl refl ev in
    record {
      choices = both x.choices (both y.choices no_choice);
      elab = fields_elab place first refl;
      names = (tt, (x.names, (y.names, tt)));
      parameters = ap₂ (λ a b. a && (b && true)) x.parameters y.parameters;
    }

-- what stands before a pair joins its parts
abbrev pair-tree : World → PatPart → prog.Pat → prog.Pat → prog.Pat
pair-tree W g p q = prog.fields_pat false (prog.a_pat (Number 1) (W.reading.type g.pair.left) p (prog.a_pat (Number 2) (W.reading.type g.pair.right) q prog.no_pats))

part-of : (W : World) (g : PatPart) (p q : prog.Pat) → join_pats (pat_part_of W.reading g) p q ≡ before g.head (W.reading.type g.pair.ty) (pair-tree W g p q)
part-of W g p q = ap (λ (j : PatPartTree). join_pats j p q) (pat_part_of-is W.reading g)

pub head_joins : (W : World) (A : Around) (source : Place → bare.Pat → bare.Pat) (l r : Typ) (h : Headed) (g : PatPart) → ((place : Place) → IsHead W A (source place) (pair_type l r) h)
    → g.head ≡ h.head → g.pair.ty ≡ h.written → W.reading.type g.pair.left ≡ as_typed A l → W.reading.type g.pair.right ≡ as_typed A r
    → IsJoin W A (λ place a b. source place (tuple_pat place (a ∷ b ∷ []))) g l r (type_of W h.ty)
head_joins W A source l r h g b eh ew el er = record {
  joins = λ place k i j a c p q bs cs x y.
      let pair = pair_do W A place k i j a c p q l r (W.reading.type g.pair.left) (W.reading.type g.pair.right) bs cs x y el er in
      subst (λ z. Elaborates W A k (source place (tuple_pat place (a ∷ c ∷ []))) z (type_of W h.ty) (bs ++ cs) j)
      (sym (part-of W g p q ∙ ap₂ (λ z n. before z (W.reading.type n) (pair-tree W g p q)) eh ew))
      ((b place).heads k j (tuple_pat place (a ∷ c ∷ [])) (pair-tree W g p q) (bs ++ cs) pair);
}

-- chains to the right
module _ {J : Type 0} (join : J → Place → bare.Pat → bare.Pat → bare.Pat) where
  pub right_do : {W : World} {A : Around} {k j : ℕ} {l t v h : Typ} {os : List (Operand J bare.Pat)} {gs : List PatPart} {cs : List BoundVariable}
      → Right join W A k l t os gs v h cs j → v ≡ h → (place : Place) (n : ℕ) (a : bare.Pat) (p : prog.Pat) (bs : List BoundVariable) → Elaborates W A n a p l bs k
      → Elaborates W A n (right_chain join place a os) (right_pats p (map (pat_part_of W.reading) gs)) t (bs ++ cs) j
  right_do {W = W} {A = A} {k = k} {l = l} none_right e place n a p bs x = subst (λ u. Elaborates W A n a p u (bs ++ []) k) e (subst (λ b. Elaborates W A n a p l b k) (no-more bs) x)
  right_do {W = W} {A = A} (one_right {k = k} {i = i} {j = j} {l = l} {t = t} {r = r} {u = u} {o = o} {os = os} {g = g} {gs = gs} {bs = bs'} {cs = cs} y z rest d) e place n a p bs x =
      let inner = right_do rest e o.place k o.operand (pat_of W.reading g.pat) bs' z in
      let ps = map (pat_part_of W.reading) gs in
      subst (λ b. Elaborates W A n (join o.joint place a (right_chain join o.place o.operand os)) (join_pats (pat_part_of W.reading g) p (right_pats (pat_part_of W.reading g).pat ps)) t (bs ++ b) j) (sym d)
      (subst (λ m. Elaborates W A n (join o.joint place a (right_chain join o.place o.operand os)) (join_pats (pat_part_of W.reading g) p (right_pats m ps)) t (bs ++ (bs' ++ cs)) j)
      (sym (ap (λ (m : PatPartTree). m.pat) (pat_part_of-is W.reading g)))
      (y.joins place n k j a (right_chain join o.place o.operand os) p (right_pats (pat_of W.reading g.pat) ps) bs (bs' ++ cs) x inner))

  pub right-snoc : {W : World} {A : Around} {k i j : ℕ} {l t v h r u : Typ} {os : List (Operand J bare.Pat)} {gs : List PatPart} {bs cs ds : List BoundVariable} (o : Operand J bare.Pat) (g : PatPart)
      → Right join W A k l t os gs v h bs i → IsJoin W A (join o.joint) g v r h → Elaborates W A i o.operand (pat_of W.reading g.pat) u cs j → ds ≡ bs ++ cs
      → Right join W A k l t (os ++ o ∷ []) (gs ++ g ∷ []) u r ds j
  right-snoc {cs = cs} o g none_right y z e = one_right y z none_right (e ∙ no-more cs)
  right-snoc {cs = cs} o g (one_right {bs = ps} {cs = qs} x w rest d) y z e = one_right x w (right-snoc o g rest y z refl) (e ∙ ap (λ m. m ++ cs) d ∙ append_assoc ps qs cs)

-- chains to the left
pub left-snoc : {J : Type 0} (join : J → Place → bare.Pat → bare.Pat → bare.Pat) (place : Place) (a : bare.Pat) (os : List (Operand J bare.Pat)) (o : Operand J bare.Pat)
    → left_chain join place a (os ++ o ∷ []) ≡ join o.joint place (left_chain join place a os) o.operand
left-snoc join place a [] o = refl
left-snoc join place a (b ∷ os) o = left-snoc join place (join b.joint place a b.operand) os o

pub left_pats-snoc : (p : prog.Pat) (gs : List PatPartTree) (g : PatPartTree) → left_pats p (gs ++ g ∷ []) ≡ join_pats g (left_pats p gs) g.pat
left_pats-snoc p [] g = refl
left_pats-snoc p (h ∷ gs) g = left_pats-snoc (join_pats h p h.pat) gs g

-- what the code makes

eq-part : (a b c : ℕ) (p : Pair) → p ≡ record { ty = a; left = b; right = c } → (p.ty ≡ a) × (p.left ≡ b) × (p.right ≡ c)
eq-part a b c p e = (ap (λ z. z.ty) e, ap (λ z. z.left) e, ap (λ z. z.right) e)

pub infix_is : (S T : State) (C : Context) (place : Place) (vid : Vid) (pair : ℕ) (h : Headed) (qs : List ℕ) → qs ≡ []
    → ((p : Place) → IsHeaded S C (bare.con_pat p place (record { qualifiers = qs; vid = vid })) pair T h) → (p : Place) → IsHeaded S C (bare.con_pat p place (short vid)) pair T h
infix_is S T C place vid pair h qs e k p = subst (λ (q : List ℕ). IsHeaded S C (bare.con_pat p place (record { qualifiers = q; vid = vid })) pair T h) e (k p)

pub joined_is : (S M N P T : State) (C : Context) (v : VidAt) (left right pair wl wr : ℕ) (h : Headed) (d : Joined) → Grows S M → M.next ≡ S.next
    → Always M (λ W. type_of W pair ≡ pair_type (type_of W left) (type_of W right)) → HasType S right → ((place : Place) → IsHeaded M C (bare.con_pat place v.place (short v.vid)) pair N h)
    → Grows N P → Always P (λ W. W.reading.type wl ≡ type_as (W.naming C.naming) (type_of W left)) → P.next ≡ N.next
    → Grows P T → Always T (λ W. W.reading.type wr ≡ type_as (W.naming C.naming) (type_of W right)) → T.next ≡ P.next
    → d.head ≡ h.head → d.pair ≡ record { ty = h.written; left = wl; right = wr } → d.ty ≡ h.ty → IsJoined S C (join_source v) left right d.ty T d
joined_is S M N P T C v left right pair wl wr h d g n is r b g' il n' g'' ir n'' eh ep et =
    let b' = b v.place in let up = grows_on N P T g' g'' in let all = grows_on M N T b'.grows up in record {
      grows = grows_on S M T g all;
      next = n'' ∙ n' ∙ b'.next ∙ n;
      right_is = type_later S T right (grows_on S M T g all) r;
      whole_is = subst (HasType T) (sym et) (type_later N T h.ty up b'.is);
      gives = λ W c A t p qh qp.
          let cn = comes_before N T W up c in
          let parts = eq-part h.written wl wr p.pair (qp ∙ ep) in
          let pairs : type_of W pair ≡ pair_type (type_of W left) (type_of W right) = is W (comes_before M N W b'.grows cn) in
          subst (λ z. IsJoin W A (join_source v) p (type_of W left) (type_of W right) (type_of W z)) (sym et)
          (head_joins W A (λ place. bare.con_pat place v.place (short v.vid)) (type_of W left) (type_of W right) h p
          (λ place. subst (λ u. IsHead W A (bare.con_pat place v.place (short v.vid)) u h) pairs ((b place).gives W cn A t)) (qh ∙ eh) parts.0
          (ap W.reading.type parts.1 ∙ as-written C W A wl (type_of W left) t (il W (comes_before P T W g'' c)))
          (ap W.reading.type parts.2 ∙ as-written C W A wr (type_of W right) t (ir W c)));
    }

pub joined_new : (S M N T : State) (C : Context) (v : VidAt) (left right whole : ℕ) (d : Joined) → Grows S M → M.next ≡ S.next → HasType S whole → IsJoined M C (join_source v) left right d.ty N d
    → Grows N T → Always T (λ W. type_of W whole ≡ type_of W d.ty) → T.next ≡ N.next → IsJoined S C (join_source v) left right whole T d
joined_new S M N T C v left right whole d g n i j h same m =
    let up = grows_on M N T j.grows h in record {
      grows = grows_on S M T g up;
      next = m ∙ j.next ∙ n;
      right_is = type_later N T right h j.right_is;
      whole_is = type_later S T whole (grows_on S M T g up) i;
      gives = λ W c A t p qh qp. subst (IsJoin W A (join_source v) p (type_of W left) (type_of W right)) (sym (same W c)) (j.gives W (comes_before N T W h c) A t p qh qp);
    }

-- chains as the code makes them

pub left_starts : (S T : State) (C : Context) (place : Place) (a : bare.Pat) (before after : List BoundVariable) (first : TypedPat) (m : LeftChain) → m.first ≡ first.pat → m.ty ≡ first.ty
    → m.parts.items ≡ [] → IsPat S C a T before after first → IsLeft S C place a [] T before after m
left_starts S T C place a before after first m ef et ep h = record {
  added = h.added;
  bound = h.bound;
  grows = h.grows;
  is = subst (HasType T) (sym et) h.is;
  have = h.have;
  gives = λ W c A t.
      subst (λ u. Elaborates W A S.next a (left_pats (pat_of W.reading m.first) (map (pat_part_of W.reading) u)) (type_of W m.ty) h.added T.next) (sym ep)
      (subst (λ u. Elaborates W A S.next a (pat_of W.reading u) (type_of W m.ty) h.added T.next) (sym ef)
      (subst (λ u. Elaborates W A S.next a (pat_of W.reading first.pat) (type_of W u) h.added T.next) (sym et) (h.gives W c A t)));
}

pub left_more : (S M N T : State) (C : Context) (whole : Place) (a : bare.Pat) (os : List (Operand VidAt bare.Pat)) (o : Operand VidAt bare.Pat) (before mid after : List BoundVariable)
    (one : TypedPat) (d : Joined) (m r : LeftChain) → IsJoined N C (join_source o.joint) m.ty one.ty d.ty T d → r.first ≡ m.first → r.ty ≡ d.ty
    → r.parts.items ≡ m.parts.items ++ record { head = d.head; pair = d.pair; pat = one.pat } ∷ [] → IsLeft S C whole a os M before mid m → IsPat M C o.operand N mid after one
    → IsLeft S C whole a (os ++ o ∷ []) T before after r
left_more S M N T C whole a os o before mid after one d m r j ef et ep h k =
    let up = grows_on M N T k.grows j.grows in record {
      added = h.added ++ k.added;
      bound = k.bound ∙ ap (λ l. l ++ k.added) h.bound ∙ append_assoc before h.added k.added;
      grows = grows_on S M T h.grows up;
      is = subst (HasType T) (sym et) j.whole_is;
      have = all-append T h.added k.added (all-later M T up h.added h.have) (all-later N T j.grows k.added k.have);
      gives = λ W c A t.
          let g : PatPart = record { head = d.head; pair = d.pair; pat = one.pat } in
          let cn = comes_before N T W j.grows c in
          let x = h.gives W (comes_before M T W up c) A t in
          let y = k.gives W cn A t in
          let left = left_pats (pat_of W.reading m.first) (map (pat_part_of W.reading) m.parts.items) in
          let source = left_chain (λ v. join_source v) whole a os in
          let whole_type = type_of W d.ty in
          let joined : Elaborates W A S.next (join_source o.joint whole source o.operand) (join_pats (pat_part_of W.reading g) left (pat_of W.reading one.pat)) whole_type (h.added ++ k.added) T.next
          = subst (Elaborates W A S.next (join_source o.joint whole source o.operand) (join_pats (pat_part_of W.reading g) left (pat_of W.reading one.pat)) whole_type (h.added ++ k.added)) (sym j.next)
          ((j.gives W c A t g refl refl).joins whole S.next M.next N.next source o.operand left (pat_of W.reading one.pat) h.added k.added x y) in
          let tree : left_pats (pat_of W.reading r.first) (map (pat_part_of W.reading) r.parts.items) ≡ join_pats (pat_part_of W.reading g) left (pat_of W.reading one.pat)
          = ap₂ (λ f l. left_pats (pat_of W.reading f) (map (pat_part_of W.reading) l)) ef ep
          ∙ ap (left_pats (pat_of W.reading m.first)) (map-append (pat_part_of W.reading) m.parts.items (g ∷ []))
          ∙ left_pats-snoc (pat_of W.reading m.first) (map (pat_part_of W.reading) m.parts.items) (pat_part_of W.reading g)
          ∙ ap (join_pats (pat_part_of W.reading g) left) (ap (λ (z : PatPartTree). z.pat) (pat_part_of-is W.reading g)) in
          subst (λ z. Elaborates W A S.next z (left_pats (pat_of W.reading r.first) (map (pat_part_of W.reading) r.parts.items)) (type_of W r.ty) (h.added ++ k.added) T.next)
          (sym (left-snoc (λ v. join_source v) whole a os o))
          (subst (λ z. Elaborates W A S.next (join_source o.joint whole source o.operand) z (type_of W r.ty) (h.added ++ k.added) T.next) (sym tree)
          (subst (λ z. Elaborates W A S.next (join_source o.joint whole source o.operand) (join_pats (pat_part_of W.reading g) left (pat_of W.reading one.pat)) (type_of W z) (h.added ++ k.added) T.next) (sym et) joined));
    }

pub left_is : (S T : State) (C : Context) (place : Place) (a : bare.Pat) (os : List (Operand VidAt bare.Pat)) (before after : List BoundVariable) (m : LeftChain) (r : TypedPat)
    (first : Box Pat Global) → first.value ≡ m.first → r.pat ≡ tree.Chain side.Left first m.parts → r.ty ≡ m.ty → IsLeft S C place a os T before after m
    → IsPat S C (left_chain (λ v. join_source v) place a os) T before after r
left_is S T C place a os before after m r first ef ep et h = record {
  added = h.added;
  bound = h.bound;
  grows = h.grows;
  is = subst (HasType T) (sym et) h.is;
  have = h.have;
  gives = λ W c A t.
      let source = left_chain (λ v. join_source v) place a os in
      subst (λ z. Elaborates W A S.next source z (type_of W r.ty) h.added T.next)
      (sym (ap (pat_of W.reading) ep ∙ pat_of-Chain W.reading side.Left first m.parts ∙ ap (λ f. left_pats (pat_of W.reading f) (map (pat_part_of W.reading) m.parts.items)) ef))
      (subst (λ z. Elaborates W A S.next source (left_pats (pat_of W.reading m.first) (map (pat_part_of W.reading) m.parts.items)) (type_of W z) h.added T.next) (sym et) (h.gives W c A t));
}

pub right_starts : (S M T : State) (C : Context) (a : bare.Pat) (before after : List BoundVariable) (first : TypedPat) (m : RightChain) → Grows M T → HasType T m.whole → T.next ≡ M.next
    → m.first ≡ first.pat → m.last ≡ first.ty → m.hole ≡ m.whole → m.parts.items ≡ [] → IsPat S C a M before after first → IsRight S C a [] T before after m
right_starts S M T C a before after first m g w n ef el eh ep h = record {
  added = h.added;
  bound = h.bound;
  grows = grows_on S M T h.grows g;
  last_is = subst (HasType T) (sym el) (type_later M T first.ty g h.is);
  hole_is = subst (HasType T) (sym eh) w;
  whole_is = w;
  have = all-later M T g h.added h.have;
  gives = λ W c A t.
      let x = h.gives W (comes_before M T W g c) A t in
      record {
        type = type_of W first.ty;
        mid = T.next;
        front = h.added;
        back = [];
        first = subst (λ u. Elaborates W A S.next a (pat_of W.reading u) (type_of W first.ty) h.added T.next) (sym ef)
            (subst (Elaborates W A S.next a (pat_of W.reading first.pat) (type_of W first.ty) h.added) (sym n) x);
        rest =
            subst (λ l. Right (λ v. join_source v) W A T.next (type_of W first.ty) (type_of W m.whole) [] l (type_of W m.last) (type_of W m.hole) [] T.next) (sym ep)
            (subst (λ l. Right (λ v. join_source v) W A T.next (type_of W first.ty) (type_of W m.whole) [] [] (type_of W l) (type_of W m.hole) [] T.next) (sym el)
            (subst (λ l. Right (λ v. join_source v) W A T.next (type_of W first.ty) (type_of W m.whole) [] [] (type_of W first.ty) (type_of W l) [] T.next) (sym eh) none_right));
        all = no-more h.added;
      };
}

pub right_more : (S M N T : State) (C : Context) (a : bare.Pat) (os : List (Operand VidAt bare.Pat)) (o : Operand VidAt bare.Pat) (before mid after : List BoundVariable) (one : TypedPat)
    (d : Joined) (hole : ℕ) (m r : RightChain) → r.first ≡ m.first → r.last ≡ one.ty → r.hole ≡ hole → r.whole ≡ m.whole
    → r.parts.items ≡ m.parts.items ++ record { head = d.head; pair = d.pair; pat = one.pat } ∷ [] → IsRight S C a os M before mid m
    → IsJoined M C (join_source o.joint) m.last hole m.hole N d → IsPat N C o.operand T mid after one → IsRight S C a (os ++ o ∷ []) T before after r
right_more S M N T C a os o before mid after one d hole m r ef el eh ew ep h j k =
    let up = grows_on M N T j.grows k.grows in record {
      added = h.added ++ k.added;
      bound = k.bound ∙ ap (λ l. l ++ k.added) h.bound ∙ append_assoc before h.added k.added;
      grows = grows_on S M T h.grows up;
      last_is = subst (HasType T) (sym el) k.is;
      hole_is = subst (HasType T) (sym eh) (type_later N T hole k.grows j.right_is);
      whole_is = subst (HasType T) (sym ew) (type_later M T m.whole up h.whole_is);
      have = all-append T h.added k.added (all-later M T up h.added h.have) k.have;
      gives = λ W c A t.
          let g : PatPart = record { head = d.head; pair = d.pair; pat = one.pat } in
          let cn = comes_before N T W k.grows c in
          let x = h.gives W (comes_before M N W j.grows cn) A t in
          let y = subst (λ n. Elaborates W A n o.operand (pat_of W.reading one.pat) (type_of W one.ty) k.added T.next) j.next (k.gives W c A t) in
          let more = right-snoc (λ v. join_source v) o g x.rest (j.gives W cn A t g refl refl) y refl in
          record {
            type = x.type;
            mid = x.mid;
            front = x.front;
            back = x.back ++ k.added;
            first = subst (λ u. Elaborates W A S.next a (pat_of W.reading u) x.type x.front x.mid) (sym ef) x.first;
            rest =
                subst (λ l. Right (λ v. join_source v) W A x.mid x.type (type_of W r.whole) (os ++ o ∷ []) l (type_of W r.last) (type_of W r.hole) (x.back ++ k.added) T.next) (sym ep)
                (subst (λ l. Right (λ v. join_source v) W A x.mid x.type (type_of W l) (os ++ o ∷ []) (m.parts.items ++ g ∷ []) (type_of W r.last) (type_of W r.hole) (x.back ++ k.added) T.next) (sym ew)
                (subst (λ l. Right (λ v. join_source v) W A x.mid x.type (type_of W m.whole) (os ++ o ∷ []) (m.parts.items ++ g ∷ []) (type_of W l) (type_of W r.hole) (x.back ++ k.added) T.next) (sym el)
                (subst (λ l. Right (λ v. join_source v) W A x.mid x.type (type_of W m.whole) (os ++ o ∷ []) (m.parts.items ++ g ∷ []) (type_of W one.ty) (type_of W l) (x.back ++ k.added) T.next) (sym eh) more)));
            all = ap (λ l. l ++ k.added) x.all ∙ append_assoc x.front x.back k.added;
          };
    }

pub right_is : (S M T : State) (C : Context) (place : Place) (a : bare.Pat) (os : List (Operand VidAt bare.Pat)) (before after : List BoundVariable) (m : RightChain) (r : TypedPat)
    (first : Box Pat Global) → Grows M T → Always T (λ W. type_of W m.last ≡ type_of W m.hole) → T.next ≡ M.next → first.value ≡ m.first → r.pat ≡ tree.Chain side.Right first m.parts
    → r.ty ≡ m.whole → IsRight S C a os M before after m → IsPat S C (right_chain (λ v. join_source v) place a os) T before after r
right_is S M T C place a os before after m r first g e n ef ep et h = record {
  added = h.added;
  bound = h.bound;
  grows = grows_on S M T h.grows g;
  is = subst (HasType T) (sym et) (type_later M T m.whole g h.whole_is);
  have = all-later M T g h.added h.have;
  gives = λ W c A t.
      let source = right_chain (λ v. join_source v) place a os in
      let x = h.gives W (comes_before M T W g c) A t in
      let done = right_do (λ v. join_source v) x.rest (e W c) place S.next a (pat_of W.reading m.first) x.front x.first in
      subst (λ z. Elaborates W A S.next source z (type_of W r.ty) h.added T.next)
      (sym (ap (pat_of W.reading) ep ∙ pat_of-Chain W.reading side.Right first m.parts ∙ ap (λ f. right_pats (pat_of W.reading f) (map (pat_part_of W.reading) m.parts.items)) ef))
      (subst (λ z. Elaborates W A S.next source (right_pats (pat_of W.reading m.first) (map (pat_part_of W.reading) m.parts.items)) (type_of W z) h.added T.next) (sym et)
      (subst (λ b. Elaborates W A S.next source (right_pats (pat_of W.reading m.first) (map (pat_part_of W.reading) m.parts.items)) (type_of W m.whole) b T.next) (sym x.all)
      (subst (Elaborates W A S.next source (right_pats (pat_of W.reading m.first) (map (pat_part_of W.reading) m.parts.items)) (type_of W m.whole) (x.front ++ x.back)) (sym n) done)));
}

-- Chains of expressions.
use Rattle.std.proofs.Common.{◌≡◌, ℕ, List, [], ◌∷◌, ◌++◌, map, Box, Global, refl, sym, ap, ap₂, subst, ◌∙◌}
use Rattle.std.proofs.lemmas.List.{map-append}
use Rattle.mlc_base.specs.declared.place.Place.{Place}
use Rattle.ty_core.specs.Types.{Typ}
use Rattle.sml_tree.specs.BareTree as bare
use Rattle.sml_tree.specs.Derived.{Operand, left_chain, right_chain}
use Rattle.sml_tree.specs.Derived as source
use Rattle.sml_tree.specs.declared.tree.Joint.{Joint}
use Rattle.ir_poly.specs.Prog as prog
use Rattle.prog_tree.specs.TreeOf.{join, join_of, left_joins, right_joins, tree_of}
use Rattle.prog_tree.specs.declared.tree.Exp.{Exp}
use Rattle.prog_tree.specs.declared.tree.Exp.TheVariants as tree
use Rattle.prog_tree.specs.declared.tree.Join.{Join}
use Rattle.prog_tree.specs.declared.tree.Side.TheVariants as side
use Rattle.prog_tree.proofs.ExpOf.{tree_of-Infix}
use Rattle.elab_typed.specs.Contexts.{Around}
use Rattle.pat_elab.specs.of_elab_state.declared.state.State.{State}
use Rattle.pat_elab.specs.of_elab_steps.Growing.{HasType, Grows, Always}
use Rattle.pat_elab.specs.of_elab_steps.World.{World, type_of}
use Rattle.pat_elab.proofs.of_elab_steps.Growing.{grows_on, type_later, comes_before}
use Rattle.pat_elab.specs.of_elab_context.declared.context.Context.{Context}
use Rattle.use_elab.specs.Elaborated.{ElaboratesExp, IsExp}
use Rattle.use_elab.specs.declared.typed.TypedExp.{TypedExp}
use Rattle.exp_forms.proofs.Joining.{fewer}
use Rattle.exp_forms.specs.Chains.{IsJoin, IsJoined, Operands, Right, none_right, one_right, IsRight, IsLeft}
use Rattle.exp_forms.specs.declared.parts.Joined.{Joined}
use Rattle.exp_forms.specs.declared.parts.LeftChain.{LeftChain}
use Rattle.exp_forms.specs.declared.parts.RightChain.{RightChain}
use Rattle.exp_forms.proofs.JoiningChains.{itself, join-fewer}

-- to the right

right-do : {W : World} {A : Around} {k : ℕ} {p q : Place} {l t v h : Typ} {os : Operands} {gs : List (Join × Exp × Exp)} → Right W A k p l t os gs q v h → v ≡ h → (a : bare.Exp) (x : prog.Exp)
    → ElaboratesExp W A k a x l → ElaboratesExp W A k (right_chain source.join p a os) (right_joins W.reading.type x (map (join_of W.reading) gs)) t
right-do {W = W} {A = A} {k = k} none_right e a x d = subst (ElaboratesExp W A k a x) e d
right-do {W = W} {k = k} (one_right {o = o} {os = os} {g = g} {gs = gs} y z rest) e a x d =
    y.joins k (itself k) a (right_chain source.join o.place o.operand os) x (right_joins W.reading.type (tree_of W.reading g.2) (map (join_of W.reading) gs)) d
    (right-do rest e o.operand (tree_of W.reading g.2) z)

right-snoc : {W : World} {A : Around} {k : ℕ} {p q : Place} {l t v h r u : Typ} {os : Operands} {gs : List (Join × Exp × Exp)} (o : Operand Joint bare.Exp) (g : Join × Exp × Exp)
    → Right W A k p l t os gs q v h → IsJoin W A k (source.join o.joint q) g.0 g.1 v r h → ElaboratesExp W A k o.operand (tree_of W.reading g.2) u
    → Right W A k p l t (os ++ o ∷ []) (gs ++ g ∷ []) o.place u r
right-snoc o g none_right y z = one_right y z none_right
right-snoc o g (one_right x w rest) y z = one_right x w (right-snoc o g rest y z)

pub right_starts : (S M T : State) (C : Context) (place : Place) (a : bare.Exp) (first : TypedExp) (m : RightChain) → Grows M T → HasType T m.whole → m.first ≡ first.exp → m.place ≡ place
    → m.last ≡ first.ty → m.hole ≡ m.whole → m.parts.items ≡ [] → IsExp S C a M first → IsRight S C place a [] T m
right_starts S M T C place a first m g w ef ep el eh es h = record {
  grows = grows_on S M T h.grows g;
  last_is = subst (HasType T) (sym el) (type_later M T first.ty g h.is);
  hole_is = subst (HasType T) (sym eh) w;
  whole_is = w;
  gives = λ W c A t.
      let d = h.gives W (comes_before M T W g c) A t in
      let u = type_of W first.ty in
      record {
        type = u;
        first = subst (λ z. ElaboratesExp W A S.next a (tree_of W.reading z) u) (sym ef) d;
        rest =
            subst (λ z. Right W A S.next place u (type_of W m.whole) [] z m.place (type_of W m.last) (type_of W m.hole)) (sym es)
            (subst (λ z. Right W A S.next place u (type_of W m.whole) [] [] z (type_of W m.last) (type_of W m.hole)) (sym ep)
            (subst (λ z. Right W A S.next place u (type_of W m.whole) [] [] place (type_of W z) (type_of W m.hole)) (sym el)
            (subst (λ z. Right W A S.next place u (type_of W m.whole) [] [] place u (type_of W z)) (sym eh) none_right)));
      };
}

pub right_more : (S M N T : State) (C : Context) (place : Place) (a : bare.Exp) (os : Operands) (o : Operand Joint bare.Exp) (one : TypedExp) (d : Joined) (hole : ℕ) (m r : RightChain)
    → IsJoined N C (source.join o.joint m.place) m.last hole m.hole T d → r.first ≡ m.first → r.place ≡ o.place → r.last ≡ one.ty → r.hole ≡ hole → r.whole ≡ m.whole
    → r.parts.items ≡ m.parts.items ++ (d.join, d.operator, one.exp) ∷ [] → IsRight S C place a os M m → IsExp M C o.operand N one → IsRight S C place a (os ++ o ∷ []) T r
right_more S M N T C place a os o one d hole m r j ef ep el eh ew es h i =
    let mt = grows_on M N T i.grows j.grows in
    let sn = grows_on S M N h.grows i.grows in
    record {
      grows = grows_on S M T h.grows mt;
      last_is = subst (HasType T) (sym el) (type_later N T one.ty j.grows i.is);
      hole_is = subst (HasType T) (sym eh) j.right_is;
      whole_is = subst (HasType T) (sym ew) (type_later M T m.whole mt h.whole_is);
      gives = λ W c A t.
          let g : Join × Exp × Exp = (d.join, d.operator, one.exp) in
          let before = h.gives W (comes_before M T W mt c) A t in
          let operand = fewer W A S.next M.next o.operand (tree_of W.reading one.exp) (type_of W one.ty) h.grows.next (i.gives W (comes_before N T W j.grows c) A t) in
          let joins = join-fewer W A S.next N.next (source.join o.joint m.place) d.join d.operator (type_of W m.last) (type_of W hole) (type_of W m.hole) sn.next (j.gives W c A t) in
          let more = right-snoc o g before.rest joins operand in
          let gs = m.parts.items ++ g ∷ [] in
          record {
            type = before.type;
            first = subst (λ z. ElaboratesExp W A S.next a (tree_of W.reading z) before.type) (sym ef) before.first;
            rest =
                subst (λ z. Right W A S.next place before.type (type_of W r.whole) (os ++ o ∷ []) z r.place (type_of W r.last) (type_of W r.hole)) (sym es)
                (subst (λ z. Right W A S.next place before.type (type_of W z) (os ++ o ∷ []) gs r.place (type_of W r.last) (type_of W r.hole)) (sym ew)
                (subst (λ z. Right W A S.next place before.type (type_of W m.whole) (os ++ o ∷ []) gs z (type_of W r.last) (type_of W r.hole)) (sym ep)
                (subst (λ z. Right W A S.next place before.type (type_of W m.whole) (os ++ o ∷ []) gs o.place (type_of W z) (type_of W r.hole)) (sym el)
                (subst (λ z. Right W A S.next place before.type (type_of W m.whole) (os ++ o ∷ []) gs o.place (type_of W one.ty) (type_of W z)) (sym eh) more))));
          };
    }

pub right_is : (S M T : State) (C : Context) (place : Place) (a : bare.Exp) (os : Operands) (m : RightChain) (r : TypedExp) (first : Box Exp Global) → Grows M T
    → Always T (λ W. type_of W m.last ≡ type_of W m.hole) → first.value ≡ m.first → r.exp ≡ tree.Infix side.Right first m.parts → r.ty ≡ m.whole → IsRight S C place a os M m
    → IsExp S C (right_chain source.join place a os) T r
right_is S M T C place a os m r first g e ef ex et h = record {
  grows = grows_on S M T h.grows g;
  is = subst (HasType T) (sym et) (type_later M T m.whole g h.whole_is);
  gives = λ W c A t.
      let chain = right_chain source.join place a os in
      let d = h.gives W (comes_before M T W g c) A t in
      let gs = map (join_of W.reading) m.parts.items in
      let done = right-do d.rest (e W c) a (tree_of W.reading m.first) d.first in
      subst (λ z. ElaboratesExp W A S.next chain z (type_of W r.ty))
      (sym (ap (tree_of W.reading) ex ∙ tree_of-Infix W.reading side.Right first m.parts ∙ ap (λ z. right_joins W.reading.type (tree_of W.reading z) gs) ef))
      (subst (λ z. ElaboratesExp W A S.next chain (right_joins W.reading.type (tree_of W.reading m.first) gs) (type_of W z)) (sym et) done);
}

-- to the left

left-snoc : (place : Place) (a : bare.Exp) (os : Operands) (o : Operand Joint bare.Exp)
    → left_chain source.join place a (os ++ o ∷ []) ≡ source.join o.joint place (left_chain source.join place a os) o.operand
left-snoc place a [] o = refl
left-snoc place a (b ∷ os) o = left-snoc place (source.join b.joint place a b.operand) os o

joins-snoc : (g : ℕ → Typ) (x : prog.Exp) (js : List (Join × prog.Exp × prog.Exp)) (j : Join × prog.Exp × prog.Exp)
    → left_joins g x (js ++ j ∷ []) ≡ join g j.0 j.1 (left_joins g x js) j.2
joins-snoc g x [] j = refl
joins-snoc g x (i ∷ js) j = joins-snoc g (join g i.0 i.1 x i.2) js j

pub left_starts : (S T : State) (C : Context) (place : Place) (a : bare.Exp) (first : TypedExp) (m : LeftChain) → m.first ≡ first.exp → m.ty ≡ first.ty → m.parts.items ≡ []
    → IsExp S C a T first → IsLeft S C place a [] T m
left_starts S T C place a first m ef et es h = record {
  grows = h.grows;
  is = subst (HasType T) (sym et) h.is;
  gives = λ W c A t.
      subst (λ z. ElaboratesExp W A S.next a (left_joins W.reading.type (tree_of W.reading m.first) (map (join_of W.reading) z)) (type_of W m.ty)) (sym es)
      (subst (λ z. ElaboratesExp W A S.next a (tree_of W.reading z) (type_of W m.ty)) (sym ef)
      (subst (λ z. ElaboratesExp W A S.next a (tree_of W.reading first.exp) (type_of W z)) (sym et) (h.gives W c A t)));
}

pub left_more : (S M N T : State) (C : Context) (place : Place) (a : bare.Exp) (os : Operands) (o : Operand Joint bare.Exp) (one : TypedExp) (d : Joined) (m r : LeftChain)
    → IsJoined N C (source.join o.joint place) m.ty one.ty d.ty T d → r.first ≡ m.first → r.ty ≡ d.ty → r.parts.items ≡ m.parts.items ++ (d.join, d.operator, one.exp) ∷ []
    → IsLeft S C place a os M m → IsExp M C o.operand N one → IsLeft S C place a (os ++ o ∷ []) T r
left_more S M N T C place a os o one d m r j ef et es h i =
    let mt = grows_on M N T i.grows j.grows in
    let sn = grows_on S M N h.grows i.grows in
    record {
      grows = grows_on S M T h.grows mt;
      is = subst (HasType T) (sym et) j.whole_is;
      gives = λ W c A t.
          let g : Join × Exp × Exp = (d.join, d.operator, one.exp) in
          let R = W.reading in
          let x = left_joins R.type (tree_of R m.first) (map (join_of R) m.parts.items) in
          let chain = left_chain source.join place a os in
          let before = h.gives W (comes_before M T W mt c) A t in
          let operand = fewer W A S.next M.next o.operand (tree_of R one.exp) (type_of W one.ty) h.grows.next (i.gives W (comes_before N T W j.grows c) A t) in
          let made = (j.gives W c A t).joins S.next sn.next chain o.operand x (tree_of R one.exp) before operand in
          let shape : left_joins R.type (tree_of R r.first) (map (join_of R) r.parts.items) ≡ join R.type d.join (tree_of R d.operator) x (tree_of R one.exp)
          = ap₂ (λ (f : Exp) (l : List (Join × Exp × Exp)). left_joins R.type (tree_of R f) (map (join_of R) l)) ef es
          ∙ ap (left_joins R.type (tree_of R m.first)) (map-append (join_of R) m.parts.items (g ∷ []))
          ∙ joins-snoc R.type (tree_of R m.first) (map (join_of R) m.parts.items) (join_of R g) in
          subst (λ z. ElaboratesExp W A S.next z (left_joins R.type (tree_of R r.first) (map (join_of R) r.parts.items)) (type_of W r.ty)) (sym (left-snoc place a os o))
          (subst (λ z. ElaboratesExp W A S.next (source.join o.joint place chain o.operand) z (type_of W r.ty)) (sym shape)
          (subst (λ z. ElaboratesExp W A S.next (source.join o.joint place chain o.operand) (join R.type d.join (tree_of R d.operator) x (tree_of R one.exp)) (type_of W z)) (sym et) made));
    }

pub left_is : (S T : State) (C : Context) (place : Place) (a : bare.Exp) (os : Operands) (m : LeftChain) (r : TypedExp) (first : Box Exp Global) → first.value ≡ m.first
    → r.exp ≡ tree.Infix side.Left first m.parts → r.ty ≡ m.ty → IsLeft S C place a os T m → IsExp S C (left_chain source.join place a os) T r
left_is S T C place a os m r first ef ex et h = record {
  grows = h.grows;
  is = subst (HasType T) (sym et) h.is;
  gives = λ W c A t.
      let chain = left_chain source.join place a os in
      let gs = map (join_of W.reading) m.parts.items in
      subst (λ z. ElaboratesExp W A S.next chain z (type_of W r.ty))
      (sym (ap (tree_of W.reading) ex ∙ tree_of-Infix W.reading side.Left first m.parts ∙ ap (λ z. left_joins W.reading.type (tree_of W.reading z) gs) ef))
      (subst (λ z. ElaboratesExp W A S.next chain (left_joins W.reading.type (tree_of W.reading m.first) gs) (type_of W z)) (sym et) (h.gives W c A t));
}

-- chains whose joints are of several kinds

pub left-append : (place : Place) (a : bare.Exp) (os ps : Operands) → left_chain source.join place a (os ++ ps) ≡ left_chain source.join place (left_chain source.join place a os) ps
left-append place a [] ps = refl
left-append place a (o ∷ os) ps = left-append place (source.join o.joint place a o.operand) os ps

pub right-append : (place : Place) (a : bare.Exp) (os : Operands) (o : Operand Joint bare.Exp) (ps : Operands)
    → right_chain source.join place a (os ++ o ∷ ps) ≡ right_chain source.join place a (os ++ record o { operand = right_chain source.join o.place o.operand ps } ∷ [])
right-append place a [] o ps = refl
right-append place a (b ∷ os) o ps = ap (source.join b.joint place a) (right-append b.place b.operand os o ps)

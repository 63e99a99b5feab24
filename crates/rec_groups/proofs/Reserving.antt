-- Variables of heads, the innermost first.
use Rattle.std.proofs.Common.{◌≡◌, ◌≤◌, ◌+◌, ℕ, suc, Bool, true, false, List, [], ◌∷◌, ◌++◌, map, Option, refl, sym, ap, subst, ◌∙◌, arith}
use Rattle.std.specs.Prelude.{reverse, length}
use Rattle.std.proofs.lemmas.List.{reverse-append}
use Rattle.mlc_base.specs.declared.place.Place.{Place}
use Rattle.sml_tree.specs.BareTree as bare
use Rattle.sml_tree.specs.Derived.{chain_of, join_pats}
use Rattle.sml_tree.specs.Terminal.{LongVid}
use Rattle.sml_tree.specs.TreeOf.{pat_part_of}
use Rattle.sml_tree.specs.declared.tree.PatPart.{PatPart}
use Rattle.sml_tree.specs.declared.ident.Vid.{Vid}
use Rattle.core_rules.specs.Restrictions.{is_kept}
use Rattle.core_elab.specs.Resolves.{HeadTo, head_wild, head_variable, head_typed, head_as}
use Rattle.core_elab.specs.Scopes.{Scope, scoped, variable}
use Rattle.elab_state.specs.declared.state.State.{State}
use Rattle.elab_steps.specs.Growing.{Always, Grows, HasType, IsWithin}
use Rattle.elab_steps.proofs.Growing.{always_later, grows_on, grows_same, type_later}
use Rattle.elab_context.specs.Entries.{limit_of}
use Rattle.elab_context.specs.declared.context.Context.{Context}
use Rattle.dec_forms.specs.of_pat_elab.Elaborated.{HasVariable, scope_onto}
use Rattle.dec_forms.specs.of_pat_elab.declared.bound.BoundVariable.{BoundVariable}
use Rattle.dec_forms.proofs.of_pat_elab.Forms.{all-later}
use Rattle.dec_forms.specs.of_exp_forms.Rules.{vids_of}
use Rattle.dec_forms.proofs.Listed.{all-append}
use Rattle.rec_groups.specs.Heads.{IsReserved, IsTaken, Reserves, numbers_of}
use Rattle.rec_groups.specs.declared.head.Head.{Head}

pub reverse-last : {A : Type 0} (xs : List A) (x : A) → reverse (xs ++ x ∷ []) ≡ x ∷ reverse xs
reverse-last xs x = reverse-append xs (x ∷ [])

onto-last : (s : Scope) (bs : List BoundVariable) (b : BoundVariable) → scope_onto s (bs ++ b ∷ []) ≡ scoped b.vid (variable b.number) (scope_onto s bs)
onto-last s [] b = refl
onto-last s (c ∷ bs) b = onto-last (scoped c.vid (variable c.number) s) bs b

-- `_`
pub wild_reserved : (S : State) (p : Place) (ty : ℕ) (vars : List BoundVariable) → vars ≡ [] → Reserves S (bare.wild_pat p) ty vars S
wild_reserved S p ty vars q =
    subst (λ l. Reserves S (bare.wild_pat p) ty l S) (sym q) (record {
      grows = grows_same S;
      have = tt;
      typed = tt;
      shape = refl;
      vids = refl;
      unkept = tt;
      to = λ h le r. record { next = h; most = le; to = head_wild p };
    })

abbrev taken : State → Vid → ℕ → BoundVariable
taken S x ty = record { vid = x; number = S.next; ty = ty }

taken-has : (S T : State) (x : Vid) (ty : ℕ) (before after : List BoundVariable) → IsTaken S x ty before after T → HasVariable T (taken S x ty)
taken-has S T x ty before after h = record { is = h.is; below = let n = h.next in omega (arith, n) }

-- an identifier
pub vid_reserved : (S T : State) (p : Place) (x : LongVid) (ty : ℕ) (vars : List BoundVariable) → x.qualifiers ≡ [] → IsTaken S x.vid ty [] vars T → Reserves S (bare.vid_pat p x) ty vars T
vid_reserved S T p x ty vars q h =
    subst (λ l. Reserves S (bare.vid_pat p x) ty l T) (sym h.added) (record {
      grows = h.grows;
      have = (taken-has S T x.vid ty [] vars h, tt);
      typed = (refl, tt);
      shape = ap (λ l. elim l [ [] ↦ true | y ∷ ys ↦ false ]) q;
      vids = refl;
      unkept = (h.unkept, tt);
      to = λ i le r. record { next = suc S.next; most = let n = h.next in omega (arith, n); to = head_variable p x S.next le };
    })

pub typed_reserved : (S T : State) (p : Place) (a : bare.Pat) (t : bare.Ty) (ty : ℕ) (vars : List BoundVariable) → Reserves S a ty vars T → Reserves S (bare.typed_pat p a t) ty vars T
typed_reserved S T p a t ty vars h = record {
  grows = h.grows;
  have = h.have;
  typed = h.typed;
  shape = h.shape;
  vids = h.vids;
  unkept = h.unkept;
  to = λ i le r. let u = h.to i le r in record { next = u.next; most = u.most; to = head_typed p u.to };
}

-- a name for a head
pub as_reserved : (S M T : State) (p : Place) (x : Vid) (t : Option bare.Ty) (a : bare.Pat) (ty : ℕ) (before vars : List BoundVariable) → Reserves S a ty before M → IsTaken M x ty before vars T
    → Reserves S (bare.as_pat p x t a) ty vars T
as_reserved S M T p x t a ty before vars h k =
    subst (λ l. Reserves S (bare.as_pat p x t a) ty l T) (sym k.added) (record {
      grows = grows_on S M T h.grows k.grows;
      have = all-append (HasVariable T) before (taken M x ty) (all-later M T k.grows before h.have) (taken-has M T x ty before vars k);
      typed = all-append (λ b. b.ty ≡ ty) before (taken M x ty) h.typed refl;
      shape = h.shape;
      vids = ap vids_of (reverse-last before (taken M x ty)) ∙ ap (λ l. x ∷ l) h.vids;
      unkept = (k.unkept, h.unkept);
      to = λ i le r.
          let u = h.to i le r in
          record {
            next = suc M.next;
            most = let n = k.next in omega (arith, n);
            to =
                subst (λ l. HeadTo i (bare.as_pat p x t a) (numbers_of l) r (suc M.next) (scope_onto r (before ++ taken M x ty ∷ []))) (sym (reverse-last before (taken M x ty)))
                (subst (HeadTo i (bare.as_pat p x t a) (numbers_of (taken M x ty ∷ reverse before)) r (suc M.next)) (sym (onto-last r before (taken M x ty))) (head_as p x M.next u.to u.most));
          };
    })

-- at a new type
pub reserved_is : (S M T : State) (C : Context) (a : bare.Pat) (head : Head) → Grows S M → HasType M head.ty → Always M (λ W. IsWithin W (limit_of C) head.ty) → M.next ≡ S.next
    → Reserves M a head.ty head.variables.items T → IsReserved S C a T head
reserved_is S M T C a head g h w n r = record {
  is = type_later M T head.ty r.grows h;
  within = always_later M T (λ W. IsWithin W (limit_of C) head.ty) r.grows w;
  reserves = record {
    grows = grows_on S M T g r.grows;
    have = r.have;
    typed = r.typed;
    shape = r.shape;
    vids = r.vids;
    unkept = r.unkept;
    to = λ i le. r.to i (omega (arith, n, le));
  };
}

-- as the code takes a variable
pub taken_is : (S T : State) (x : Vid) (ty : ℕ) (before after : List BoundVariable) (n : ℕ) → HasType S ty → Grows S T → n ≡ S.next → T.next ≡ n + 1
    → after ≡ before ++ record { vid = x; number = n; ty = ty } ∷ [] → is_kept x ≡ false → IsTaken S x ty before after T
taken_is S T x ty before after n h g e m a k = record {
  grows = g;
  is = type_later S T ty g h;
  next = omega (arith, e, m);
  added = a ∙ ap (λ (i : ℕ). before ++ record { vid = x; number = i; ty = ty } ∷ []) e;
  unkept = k;
}

pub reserves_at : (S T : State) (a b : bare.Pat) (ty : ℕ) (vars : List BoundVariable) → a ≡ b → Reserves S b ty vars T → Reserves S a ty vars T
reserves_at S T a b ty vars e h = subst (λ z. Reserves S z ty vars T) (sym e) h

-- what has no elements
pub empty-list : {A : Type 0} (xs : List A) → length xs ≤ 0 → xs ≡ []
empty-list [] le = refl
empty-list (x ∷ xs) le = absurd (omega (arith, le))

pub no-parts : (r : Bool) (p : Place) (a : bare.Pat) (os : List PatPart) → length os ≤ 0 → chain_of join_pats r p a (map pat_part_of os) ≡ a
no-parts true p a [] le = refl
no-parts false p a [] le = refl
no-parts r p a (o ∷ os) le = absurd (omega (arith, le))

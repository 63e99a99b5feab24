-- New variables, one after the other.
use Rattle.std.proofs.Common.{◌≡◌, ◌<◌, ◌≤◌, ◌+◌, ℕ, zero, suc, true, ◌&&◌, List, [], ◌∷◌, ◌++◌, length, map, take, get_or, Option, Some, None, refl, sym, ap, ap₂, subst, ◌∙◌, arith}
use Rattle.std.proofs.lemmas.Option.{slice_get_within, get_or_from_slice_get}
use Rattle.std.proofs.lemmas.List.{length-append, map-append}
use Rattle.std.proofs.Math.Seq.{take-suc}
use Rattle.ty_core.specs.Types.{Typ, var, typs_of}
use Rattle.ty_core.specs.Marks.{Allows}
use Rattle.ty_core.specs.Statics.{replace}
use Rattle.ty_core.specs.declared.mark.Mark.{Mark}
use Rattle.ty_solve.specs.Substitution.{Entry, sub, Meets, free}
use Rattle.ty_solve.specs.SlotsOf.{look, entries, entry_of, seen}
use Rattle.ty_solve.specs.declared.limit.Limit.{Limit}
use Rattle.ty_solve.specs.declared.subst.Slot.{Slot}
use Rattle.ty_solve.specs.declared.subst.Slot.TheVariants.{Open}
use Rattle.ty_solve.specs.declared.subst.Subst.{Subst}
use Rattle.core_rules.specs.Objects.{AllAllowed, AllOver}
use Rattle.ir_poly.specs.Types.{nth_type, all_over}
use Rattle.elab_context.specs.of_elab_state.States.{types_in, said_in, dead_level}
use Rattle.elab_context.specs.of_elab_state.Namings.{IsAmong}
use Rattle.elab_context.specs.of_elab_state.declared.state.State.{State}
use Rattle.elab_context.specs.of_elab_typed.Numbers.{type_as}
use Rattle.elab_context.specs.of_elab_steps.Growing.{HasType, AreTypes, Begins, Grows, Always}
use Rattle.elab_context.specs.of_elab_steps.Instances.{IsInstance}
use Rattle.elab_context.specs.of_elab_steps.World.{World, type_of}
use Rattle.elab_context.proofs.of_elab_steps.Growing.{grows_same, grows_on, type_later, comes_before}
use Rattle.elab_context.proofs.of_elab_steps.Changing.{Freshened, freshened_within}
use Rattle.use_elab.specs.Fresh.{IsFresh, AreFresh, images_of}

-- types stay types

pub types_later : (S T : State) → Grows S T → (ks : List ℕ) → AreTypes S ks → AreTypes T ks
types_later S T g [] h = tt
types_later S T g (k ∷ ks) h = (type_later S T k g h.0, types_later S T g ks h.1)

pub types-snoc : (S : State) (ks : List ℕ) (k : ℕ) → AreTypes S ks → HasType S k → AreTypes S (ks ++ k ∷ [])
types-snoc S [] k h i = (i, tt)
types-snoc S (j ∷ ks) k h i = (h.0, types-snoc S ks k h.1 i)

pub type-at : (S : State) (ks : List ℕ) (i d : ℕ) → AreTypes S ks → i < length ks → HasType S (get_or ks i d)
type-at S [] i d h lt = absurd (omega arith)
type-at S (k ∷ ks) zero d h lt = h.0
type-at S (k ∷ ks) (suc i) d h lt = type-at S ks i d h.1 (omega arith)

-- one variable

look-last : (es : List Entry) (k : Mark) (n : ℕ) → n ≡ length es → look (es ++ free k ∷ []) n ≡ free k
look-last [] k n e = ap (look (free k ∷ [])) e
look-last (x ∷ es) k n e = ap (look (x ∷ (es ++ free k ∷ []))) e ∙ look-last es k (length es) refl

entries-count : (ts : List Typ) (os : List Slot) → length (entries ts os) ≡ length os
entries-count ts [] = refl
entries-count ts (o ∷ os) = ap suc (entries-count ts os)

pub freshened_fresh : (S T : State) (mid : Subst) (mark : Mark) (limit : Limit) (v r : ℕ) → Freshened S T mid (Open mark) limit v r → Always T (λ W. IsFresh W limit mark r)
freshened_fresh S T mid mark limit v r h W c =
    let os = S.solver.subst.slots.items in
    let said : said_in T v ≡ free mark =
    ap (λ f. f v) h.says ∙ ap (λ (l : List Slot). seen mid.types l v) h.mid_slots ∙ ap (λ l. look l v) (map-append (entry_of mid.types) os (Open mark ∷ []))
    ∙ look-last (entries mid.types os) mark v (h.number ∙ sym (entries-count mid.types os)) in
    let is : type_of W r ≡ W.value v = ap (sub W.value) (c.types r (slice_get_within (types_in T) r (var v) h.is) ∙ get_or_from_slice_get (types_in T) r (var v) (var 0) h.is) in
    record {
      allowed = subst (Allows mark W.admits) (sym is) (subst (Meets W.admits W.value (W.value v)) said (c.solves v));
      within = freshened_within S T mid (Open mark) limit v r h W c;
    }

-- and all of them

fresh-snoc : (W : World) (limit : Limit) (ms : List Mark) (ks : List ℕ) (m : Mark) (k : ℕ) → AreFresh W limit ms ks → IsFresh W limit m k → AreFresh W limit (ms ++ m ∷ []) (ks ++ k ∷ [])
fresh-snoc W limit [] [] m k h f = (f, tt)
fresh-snoc W limit [] (j ∷ ks) m k h f = absurd h
fresh-snoc W limit (n ∷ ms) [] m k h f = absurd h
fresh-snoc W limit (n ∷ ms) (j ∷ ks) m k h f = (h.0, fresh-snoc W limit ms ks m k h.1 f)

pub record Freshly (S T : State) (limit : Limit) (ms : List Mark) (ks : List ℕ) : Type 0 where
  pub grows : Grows S T
  pub next : T.next ≡ S.next
  pub are : AreTypes T ks
  pub count : length ks ≡ length ms
  pub fresh : Always T (λ W. AreFresh W limit ms ks)

pub freshly_none : (S : State) (limit : Limit) (ks : List ℕ) → ks ≡ [] → Freshly S S limit [] ks
freshly_none S limit ks e = subst (Freshly S S limit []) (sym e) (record { grows = grows_same S; next = refl; are = tt; count = refl; fresh = λ W c. tt })

pub freshly_more : (S M T : State) (limit : Limit) (marks : List Mark) (i : ℕ) (d : Mark) (ks js : List ℕ) (k : ℕ) → i < length marks → Freshly S M limit (take i marks) ks
    → Grows M T → HasType T k → Always T (λ W. IsFresh W limit (get_or marks i d) k) → T.next ≡ M.next → js ≡ ks ++ k ∷ [] → Freshly S T limit (take (i + 1) marks) js
freshly_more S M T limit marks i d ks js k lt f g h fresh n e =
    let s : suc i ≡ i + 1 = omega arith in
    let more : Freshly S T limit (take i marks ++ get_or marks i d ∷ []) (ks ++ k ∷ []) = record {
      grows = grows_on S M T f.grows g;
      next = n ∙ f.next;
      are = types-snoc T ks k (types_later M T g ks f.are) h;
      count = omega (arith, f.count, length-append ks (k ∷ []), length-append (take i marks) (get_or marks i d ∷ []));
      fresh = λ W c. fresh-snoc W limit (take i marks) ks (get_or marks i d) k (f.fresh W (comes_before M T W g c)) (fresh W c);
    } in
    subst (λ (l : List Mark). Freshly S T limit l js) (sym (take-suc marks i d lt) ∙ ap (λ j. take j marks) s) (subst (Freshly S T limit (take i marks ++ get_or marks i d ∷ [])) (sym e) more)

-- the variables make an instance

pub images-count : (W : World) (limit : Limit) (ms : List Mark) (ks : List ℕ) → AreFresh W limit ms ks → length (images_of W ks) ≡ length ms
images-count W limit [] [] h = refl
images-count W limit [] (k ∷ ks) h = absurd h
images-count W limit (m ∷ ms) [] h = absurd h
images-count W limit (m ∷ ms) (k ∷ ks) h = ap suc (images-count W limit ms ks h.1)

pub fresh_count : (W : World) (limit : Limit) (ms : List Mark) (ks : List ℕ) → AreFresh W limit ms ks → length ks ≡ length ms
fresh_count W limit [] [] h = refl
fresh_count W limit [] (k ∷ ks) h = absurd h
fresh_count W limit (m ∷ ms) [] h = absurd h
fresh_count W limit (m ∷ ms) (k ∷ ks) h = ap suc (fresh_count W limit ms ks h.1)

pub images-allowed : (W : World) (limit : Limit) (ms : List Mark) (ks : List ℕ) (r : ℕ → Typ) (n : ℕ) → ((i : ℕ) → r (n + i) ≡ nth_type (images_of W ks) i) → AreFresh W limit ms ks
    → AllAllowed W.admits r n ms
images-allowed W limit [] ks r n e h = tt
images-allowed W limit (m ∷ ms) [] r n e h = absurd h
images-allowed W limit (m ∷ ms) (k ∷ ks) r n e h =
    let z : n ≡ n + 0 = omega arith in (
      subst (Allows m W.admits) (sym (ap r z ∙ e 0)) h.0.allowed,
      images-allowed W limit ms ks r (suc n) (λ i. let s : suc n + i ≡ n + suc i = omega arith in ap r s ∙ e (suc i)) h.1,
    )

pub images-names : (W : World) (limit : Limit) (ms : List Mark) (ks : List ℕ) → AreFresh W limit ms ks → AllOver limit.names (typs_of (images_of W ks))
images-names W limit [] [] h = tt
images-names W limit [] (k ∷ ks) h = absurd h
images-names W limit (m ∷ ms) [] h = absurd h
images-names W limit (m ∷ ms) (k ∷ ks) h = (h.0.within.names, images-names W limit ms ks h.1)

pub images-parameters : (W : World) (limit : Limit) (ms : List Mark) (ks : List ℕ) → limit.level < dead_level → AreFresh W limit ms ks
    → all_over (W.parameters limit.level) (typs_of (images_of W ks)) ≡ true
images-parameters W limit [] [] d h = refl
images-parameters W limit [] (k ∷ ks) d h = absurd h
images-parameters W limit (m ∷ ms) [] d h = absurd h
images-parameters W limit (m ∷ ms) (k ∷ ks) d h = ap₂ (λ a b. a && b) (h.0.within.parameters d) (images-parameters W limit ms ks d h.1)

abbrev pub fresh_instance : (W : World) (limit : Limit) (ms : List Mark) (ks : List ℕ) (body t : Typ) → AreFresh W limit ms ks → t ≡ replace (nth_type (images_of W ks)) body
    → IsInstance W limit ms body t
fresh_instance W limit ms ks body t h e = record {
  images = images_of W ks;
  count = images-count W limit ms ks h;
  allowed = images-allowed W limit ms ks (nth_type (images_of W ks)) 0 (λ i. let z : 0 + i ≡ i = omega arith in ap (nth_type (images_of W ks)) z) h;
  names = images-names W limit ms ks h;
  parameters = λ d. images-parameters W limit ms ks d h;
  is = e;
}

-- types that are written

pub record Writes (S T : State) (naming : Option ℕ) (ts ks : List ℕ) : Type 0 where
  pub grows : Grows S T
  pub next : T.next ≡ S.next
  pub are : Always T (λ W. map W.reading.type ks ≡ map (type_as (W.naming naming)) (images_of W ts))

pub writes_none : (S : State) (naming : Option ℕ) (ks : List ℕ) → ks ≡ [] → Writes S S naming [] ks
writes_none S naming ks e = subst (Writes S S naming []) (sym e) (record { grows = grows_same S; next = refl; are = λ W c. refl })

pub writes_more : (S M T : State) (naming : Option ℕ) (ts : List ℕ) (i d : ℕ) (ks js : List ℕ) (k : ℕ) → i < length ts → Writes S M naming (take i ts) ks → Grows M T
    → Always T (λ W. W.reading.type k ≡ type_as (W.naming naming) (type_of W (get_or ts i d))) → T.next ≡ M.next → js ≡ ks ++ k ∷ [] → Writes S T naming (take (i + 1) ts) js
writes_more S M T naming ts i d ks js k lt w g a n e =
    let s : suc i ≡ i + 1 = omega arith in
    let t = get_or ts i d in
    let more : Writes S T naming (take i ts ++ t ∷ []) (ks ++ k ∷ []) = record {
      grows = grows_on S M T w.grows g;
      next = n ∙ w.next;
      are = λ W c.
          map-append W.reading.type ks (k ∷ []) ∙ ap₂ (λ (x y : List Typ). x ++ y) (w.are W (comes_before M T W g c)) (ap (λ u. u ∷ []) (a W c))
          ∙ sym (map-append (type_as (W.naming naming)) (images_of W (take i ts)) (type_of W t ∷ [])) ∙ ap (map (type_as (W.naming naming))) (sym (map-append (type_of W) (take i ts) (t ∷ [])));
    } in
    subst (λ (l : List ℕ). Writes S T naming l js) (sym (take-suc ts i d lt) ∙ ap (λ j. take j ts) s) (subst (Writes S T naming (take i ts ++ t ∷ [])) (sym e) more)

-- namings stay
longer-list : {A : Type 0} (xs ys : List A) → Begins xs ys → length xs ≤ length ys
longer-list [] ys e = omega arith
longer-list (x ∷ xs) [] e = cc
longer-list (x ∷ xs) (y ∷ ys) e = let h : take (length xs) ys ≡ xs = cc in let k = longer-list xs ys h in omega (arith, k)

pub among-later : (S T : State) (o : Option ℕ) → Grows S T → IsAmong (length S.namings.items) o → IsAmong (length T.namings.items) o
among-later S T None g h = tt
among-later S T (Some k) g h = let le = longer-list S.namings.items T.namings.items g.namings in omega (arith, le, h)

-- The declaration of exceptions.
use Rattle.std.proofs.Common.{◌≡◌, ◌≤◌, ℕ, true, List, [], ◌∷◌, ◌++◌, map, Option, Some, None, refl, sym, ap, ap₂, subst, ◌∙◌, arith}
use Rattle.std.specs.Prelude.{option_map}
use Rattle.std.specs.Option.{option_or}
use Rattle.std.specs.List.{AllByRecursion}
use Rattle.mlc_base.specs.declared.place.Place.{Place}
use Rattle.ty_core.specs.Types.{Typ}
use Rattle.ty_core.specs.Statics.{replace}
use Rattle.ty_core.specs.declared.env.Status.TheVariants.{Exception}
use Rattle.sml_tree.specs.BareTree.{ExBind, exception_dec}
use Rattle.sml_tree.specs.declared.ident.Vid.{Vid}
use Rattle.core_rules.specs.Choices.{no_choice}
use Rattle.core_rules.specs.Elaborated.{exception_type}
use Rattle.core_rules.specs.Objects.{monomorphic}
use Rattle.core_rules.specs.Restrictions.{distinct}
use Rattle.core_rules.specs.Words.{same_vid}
use Rattle.ir_poly.specs.Prog as prog
use Rattle.ir_poly.specs.TestsChecked.{Known, Knowns}
use Rattle.ir_poly.specs.TestsChecked as checked
use Rattle.ir_poly.specs.Types.{in_scope}
use Rattle.ir_poly.proofs.ReplaceLemmas.{replace-agree}
use Rattle.core_elab.specs.Scopes.{Scope, denotes_in}
use Rattle.prog_tree.specs.TreeOf.{dec_of, decs_of}
use Rattle.prog_tree.specs.declared.tree.Dec.{Dec}
use Rattle.elab_typed.specs.Contexts.{Around, KeptValues, value_under, values_under}
use Rattle.elab_typed.specs.Elaborates.{DecElab, ExnsElab, exception_elab, no_exns_elab, new_exn_elab, same_exn_elab}
use Rattle.closed_types.specs.of_elab_state.declared.state.State.{State}
use Rattle.closed_types.specs.of_elab_steps.World.{World, type_of}
use Rattle.exp_forms.specs.of_elab_context.Telling.{IsContext, IsFit, IsInUseIf, Tells, denotes_of, known_of, kept_of, kept_entries, scope_of_entries, vids_in}
use Rattle.exp_forms.specs.of_elab_context.declared.context.Context.{Context}
use Rattle.exp_forms.specs.of_elab_context.declared.entry.Entry.{Entry}
use Rattle.exp_forms.specs.of_elab_context.declared.entry.Entry.TheVariants.{Constructor, Reference, Initial, Primitive, Raised, Single, Own, General}
use Rattle.exp_forms.proofs.of_elab_context.Reading.{context_later, numbered_later}
use Rattle.exp_forms.specs.of_elab_context.Numbered.{IsNumbered}
use Rattle.exp_forms.proofs.Entering.{context_with, number-known}
use Rattle.dec_forms.specs.Telling.{with_all}
use Rattle.dec_forms.proofs.Telling.{AreFurther}
use Rattle.dec_forms.specs.Bringing.{Brings, IsBringing}
use Rattle.dec_forms.specs.declared.brought.Brought.{Brought}
use Rattle.dec_forms.proofs.Listed.{alone-listed, denotes-listed, kept-listed, last-among, last-first, untyped-listed}
use Rattle.dec_forms.proofs.Plain.{numbered_values, values_add, values_bring, values_effect}
use Rattle.dec_forms.specs.Exceptions.{AreExns, ElaboratesExns, is_raised}
use Rattle.dec_forms.specs.declared.made.ExnsMade.{ExnsMade}

-- from a lower variable on
record Lower (A : Around) (G : Knowns) (h : ℕ) (bs : List ExBind) (ds : prog.Decs) (vs : KeptValues) (r : Scope) (j : ℕ) (G' : Knowns) : Type 0 where
  next : ℕ
  most : next ≤ j
  elab : ExnsElab A G h bs ds vs r next G'

lower : {A : Around} {G G' : Knowns} {k j : ℕ} {bs : List ExBind} {ds : prog.Decs} {vs : KeptValues} {r : Scope} (h : ℕ) → h ≤ k → ExnsElab A G k bs ds vs r j G'
    → Lower A G h bs ds vs r j G'
lower h le no_exns_elab = record { next = h; most = le; elab = no_exns_elab }
lower {j = j} h le (new_exn_elab p x n a l b o f) = record { next = j; most = omega arith; elab = new_exn_elab p x n a (omega (arith, l, le)) b o f }
lower h le (same_exn_elab p x q e i d f) = let s = lower h le f in record { next = s.next; most = s.most; elab = same_exn_elab p x q e i d s.elab }

-- nothing is said of other parameters than those in scope

argument-same : (W : World) (A : Around) (o : Option ℕ) → IsInUseIf W A o → (s f : ℕ → Typ) → ((v : ℕ) → in_scope A.parameters v ≡ true → s v ≡ f v)
    → option_map (replace s) (option_map (type_of W) o) ≡ option_map (replace f) (option_map (type_of W) o)
argument-same W A None h s f a = refl
argument-same W A (Some k) h s f a = ap Some (replace-agree A.parameters (type_of W k) h.parameters s f a)

value-same : (C : Context) (W : World) (A : Around) (e : Entry) → IsFit C W A e → is_raised e ≡ true → (s f : ℕ → Typ) → ((v : ℕ) → in_scope A.parameters v ≡ true → s v ≡ f v)
    → value_under s (kept_of C W e) ≡ value_under f (kept_of C W e)
value-same C W A (Constructor i n y) h r s f a = cc
value-same C W A (Reference i) h r s f a = cc
value-same C W A (Initial i n) h r s f a = refl
value-same C W A (Primitive i q) h r s f a = cc
value-same C W A (Raised n o) h r s f a = ap (λ u. record { scheme = monomorphic (exception_type u); status = Exception }) (argument-same W A o (use-of o h) s f a)
  where
    use-of : (o : Option ℕ) → IsFit C W A (Raised n o) → IsInUseIf W A o
    use-of None h = tt
    use-of (Some k) h = h
value-same C W A (Single t n) h r s f a = cc
value-same C W A (Own t n) h r s f a = cc
value-same C W A (General l t n o) h r s f a = cc

values-same : (C : Context) (W : World) (A : Around) (es : List (Vid × Entry)) → AllByRecursion (λ e. IsFit C W A e.1) es → AllByRecursion (λ e. is_raised e.1 ≡ true) es → (s f : ℕ → Typ)
    → ((v : ℕ) → in_scope A.parameters v ≡ true → s v ≡ f v) → values_under s (kept_entries C W es) ≡ values_under f (kept_entries C W es)
values-same C W A [] h r s f a = refl
values-same C W A (e ∷ es) h r s f a = ap₂ (λ v vs. (e.0, v) ∷ vs) (value-same C W A e.1 h.0 r.0 s f a) (values-same C W A es h.1 r.1 s f a)

-- what they are in scope
exns-further : (C : Context) (W : World) (A : Around) (k j : ℕ) (bs : List ExBind) (x : prog.Decs) (es : List (Vid × Entry)) → Tells C W A → IsNumbered k C → distinct same_vid (vids_in es) ≡ true
    → AllByRecursion (λ e. is_raised e.1 ≡ true) es → (e : ElaboratesExns C W A k bs x es j) → AreFurther C W A es (kept_entries C W es) (scope_of_entries es) e.known
exns-further C W A k j bs x es t num d r e = record {
  kept = λ y. kept-listed C W es y ∙ ap (option_map (kept_of C W)) (sym (last-first es y d));
  denotes = λ s y.
      denotes-listed s es y ∙ ap (λ o. option_or (option_map denotes_of o) (denotes_in s y)) (sym (last-first es y d));
  alone = λ s q. alone-listed s es q;
  untyped = λ s x. untyped-listed s es x;
  fit = λ y v h. last-among (IsFit C W A) es y v e.fit h;
  new = λ y v n u h q. last-among (λ z. (i : ℕ) (w : Known) → known_of W A z ≡ Some (i, w) → checked.at e.known i ≡ Some w) es y v e.newer h n u q;
  over = values-same C W A es e.fit r;
  old = λ y v n u h q. e.older n (num y.qualifiers y.vid v h n (number-known W A v n u q)) ∙ t.known y v n u h q;
}

append-nil : {A : Type 0} (xs : List A) → xs ≡ xs ++ []
append-nil [] = refl
append-nil (x ∷ xs) = ap (λ l. x ∷ l) (append-nil xs)

pub exns_bring : (S T : State) (C D : Context) (p : Place) (bs : List ExBind) (made : ExnsMade) (decs : List Dec) (old new : Brought) → AreExns S C bs T made
    → distinct same_vid (vids_in made.values.items) ≡ true → D ≡ with_all C made.values.items → decs ≡ made.decs.items → new.values.items ≡ old.values.items ++ made.values.items
    → new.types.items ≡ old.types.items → IsBringing S C (exception_dec p bs) T D decs old new
exns_bring S T C D p bs made decs old new h d q ed ev et =
    let es = made.values.items in
    record {
      values = es;
      types = [];
      all_values = ev;
      all_types = et ∙ append-nil old.types.items;
      adds = values_add C D es q;
      grows = h.grows;
      numbered = λ n. numbered_values T.next C D es (numbered_later S.next T.next C h.grows.next n) (h.below n) q;
      gives = λ n W c A t.
          let e = h.gives n W c A t in
          let m = values_effect A (kept_entries C W es) (scope_of_entries es) e.known in
          let f = exns-further C W A S.next T.next bs (decs_of (map (dec_of W.reading) made.decs.items)) es t n d h.raised e in
          record {
            effect = m;
            choices = no_choice;
            elab = λ i le.
                let s = lower i le e.elab in
                record {
                  next = s.next;
                  most = s.most;
                  elab =
                      subst (λ z. DecElab W.table A i (exception_dec p bs) (decs_of (map (dec_of W.reading) z)) 0 A.number m.env m.scope e.known no_choice s.next)
                      (sym ed) (exception_elab p s.elab);
                };
            brings =
                subst (λ D. Brings D W A S.next es [] m) (sym q)
                (values_bring C W A S.next es (kept_entries C W es) (scope_of_entries es) e.known t f e.older);
          };
    }

pub context_of_exns : (S T : State) (C D : Context) (bs : List ExBind) (made : ExnsMade) → IsContext S C → AreExns S C bs T made → D ≡ with_all C made.values.items → IsContext T D
context_of_exns S T C D bs made i h q = context_with T C D made.values.items (context_later S T C h.grows i) h.held (h.below i.numbered) q

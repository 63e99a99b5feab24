-- An operand of andalso and orelse: two rules in the source, two tests in the program.
use Rattle.std.proofs.Common.{◌≡◌, ℕ, Bool, true, false, if◌then◌else◌, Some, refl, sym, ap, subst, ◌∙◌, arith, eqb-true}
use Rattle.std.specs.Prelude.{nat_eq}
use Rattle.mlc_runs.specs.Run.{World, Answer, gives, raises}
use Rattle.mlc_names.specs.StandardWords.{word_true, word_false}
use Rattle.core_rules.specs.of_sml_tree.declared.ident.BuiltIn.{BuiltIn}
use Rattle.core_rules.specs.of_sml_tree.declared.ident.BuiltIn.TheVariants.{True, False}
use Rattle.core_rules.specs.Values.{Con, built, Value, con, con_of, Env, nothing}
use Rattle.core_rules.specs.Match.{binds, fails, misfits, con_in, same_con, tagged}
use Rattle.core_rules.specs.Eval.{match_packet, on_match}
use Rattle.ir_poly.specs.of_ir_values.Tags.{untagged}
use Rattle.ir_poly.specs.of_ir_values.Values as made
use Rattle.ir_poly.specs.of_ir_values.Match.{matches, no_match, mismatch, after_match}
use Rattle.ir_poly.specs.of_ir_values.Primitives.{packet, match_name}
use Rattle.ir_poly.specs.ProgMeaning.{V, on_operand}
use Rattle.core_elab.specs.Scopes.{con_number, built_number}
use Rattle.core_elab.proofs.Agreeing.{both_give, both_raise, both_stop}
use Rattle.core_elab.proofs.Related.{Rel, rel_literal, rel_record, rel_con, rel_con_of, rel_ref, rel_address, rel_exn, rel_exn_of, rel_primitive, rel_alone, rel_one_of}
use Rattle.core_elab.proofs.Same.{same-numbers}
use Rattle.core_elab.proofs.Performing.{Alike, Ends}

-- what the source does with v where b is tested first, giving `first`, and then the other truth value, giving `second`
abbrev tests : BuiltIn → BuiltIn → Value → World Value → (Env → World Value → Answer Value Value)
    → (Env → World Value → Answer Value Value) → Answer Value Value
tests b d v w first second =
    on_match (tagged same_con (built b) (con_in v)) w first
    (λ w. on_match (tagged same_con (built d) (con_in v)) w second (λ w. raises match_packet w))

abbrev tested : Bool → Bool → V → World V → Answer V V → Answer V V
tested p q z u go =
    after_match (if p then matches made.empty else no_match) u (λ e w. go)
    (λ w. after_match (if q then matches made.empty else no_match) w (λ e w. gives z w) (λ w. raises (packet untagged match_name) w))

-- the same where the constructor has an argument
abbrev misfitted : Bool → Bool → V → World V → Answer V V → Answer V V
misfitted p q z u go =
    after_match {A = V} (if p then mismatch else no_match) u (λ e w. go)
    (λ w. after_match (if q then mismatch else no_match) w (λ e w. gives z w) (λ w. raises (packet untagged match_name) w))

-- the value that was tested is the constructor
is-built : (b : BuiltIn) (c : Con) {n : ℕ} → con_number c ≡ Some n → same_con (built b) c ≡ true → Rel (con (built b)) (made.con tt n)
is-built b c {n} e h = rel_con (built b) (ap Some (eqb-true (built_number b) n (same-numbers (built b) c refl e ∙ h)))

module _ (w : World Value) (u : World V) (s : Alike w u) (go : Env → World Value → Answer Value Value) {go' : Answer V V} (h : Ends (go nothing w) go') where
  and-con : (c : Con) {n : ℕ} → con_number c ≡ Some n
      → Ends (tests True False (con c) w go (λ d w. gives (con (built False)) w)) (on_operand true (made.con tt n) u go')
  and-con c {n} e =
      subst (λ p. Ends (tests True False (con c) w go (λ d w. gives (con (built False)) w)) (tested p (nat_eq word_false n) (made.con tt n) u go'))
      (sym (same-numbers (built True) c refl e))
      (subst (λ q. Ends (tests True False (con c) w go (λ d w. gives (con (built False)) w)) (tested (same_con (built True) c) q (made.con tt n) u go'))
      (sym (same-numbers (built False) c refl e)) (go-on (same_con (built True) c) (same_con (built False) c) refl))
    where
      go-on : (p q : Bool) → same_con (built False) c ≡ q
          → Ends (on_match (if p then binds nothing else fails) w go (λ w. on_match (if q then binds nothing else fails) w
          (λ d w. gives (con (built False)) w) (λ w. raises match_packet w)))
          (tested p q (made.con tt n) u go')
      go-on true q r = h
      go-on false true r = both_give (is-built False c e r) s
      go-on false false r = both_raise (rel_exn 0) s

  or-con : (c : Con) {n : ℕ} → con_number c ≡ Some n
      → Ends (tests True False (con c) w (λ d w. gives (con (built True)) w) go) (on_operand false (made.con tt n) u go')
  or-con c {n} e =
      subst (λ p. Ends (tests True False (con c) w (λ d w. gives (con (built True)) w) go) (tested p (nat_eq word_true n) (made.con tt n) u go'))
      (sym (same-numbers (built False) c refl e))
      (subst (λ q. Ends (tests True False (con c) w (λ d w. gives (con (built True)) w) go) (tested (same_con (built False) c) q (made.con tt n) u go'))
      (sym (same-numbers (built True) c refl e)) (go-on (same_con (built True) c) (same_con (built False) c) refl refl))
    where
      go-on : (p q : Bool) → same_con (built True) c ≡ p → same_con (built False) c ≡ q
          → Ends (on_match (if p then binds nothing else fails) w (λ d w. gives (con (built True)) w)
          (λ w. on_match (if q then binds nothing else fails) w go (λ w. raises match_packet w)))
          (tested q p (made.con tt n) u go')
      go-on true true r r' = absurd (omega (
        arith,
        eqb-true word_true n (same-numbers (built True) c refl e ∙ r),
        eqb-true word_false n
            (same-numbers (built False) c refl e ∙ r'),
      ))
      go-on true false r r' = both_give (is-built True c e r) s
      go-on false true r r' = h
      go-on false false r r' = both_raise (rel_exn 0) s

  -- a constructor with an argument is none of the two, or of a wrong kind
  and-con-of : (c : Con) {n : ℕ} (x : Value) (y : V) → con_number c ≡ Some n
      → Ends (tests True False (con_of c x) w go (λ d w. gives (con (built False)) w)) (on_operand true (made.con_of tt n y) u go')
  and-con-of c {n} x y e =
      subst (λ p. Ends (tests True False (con_of c x) w go (λ d w. gives (con (built False)) w)) (misfitted p (nat_eq word_false n) (made.con_of tt n y) u go'))
      (sym (same-numbers (built True) c refl e))
      (subst (λ q. Ends (tests True False (con_of c x) w go (λ d w. gives (con (built False)) w))
      (misfitted (same_con (built True) c) q (made.con_of tt n y) u go'))
      (sym (same-numbers (built False) c refl e)) (go-on (same_con (built True) c) (same_con (built False) c)))
    where
      go-on : (p q : Bool)
          → Ends (on_match (if p then misfits else fails) w go (λ w. on_match (if q then misfits else fails) w (λ d w. gives (con (built False)) w)
          (λ w. raises match_packet w)))
          (misfitted p q (made.con_of tt n y) u go')
      go-on true q = both_stop _ s
      go-on false true = both_stop _ s
      go-on false false = both_raise (rel_exn 0) s

  or-con-of : (c : Con) {n : ℕ} (x : Value) (y : V) → con_number c ≡ Some n
      → Ends (tests True False (con_of c x) w (λ d w. gives (con (built True)) w) go) (on_operand false (made.con_of tt n y) u go')
  or-con-of c {n} x y e =
      subst (λ p. Ends (tests True False (con_of c x) w (λ d w. gives (con (built True)) w) go) (misfitted p (nat_eq word_true n) (made.con_of tt n y) u go'))
      (sym (same-numbers (built False) c refl e))
      (subst (λ q. Ends (tests True False (con_of c x) w (λ d w. gives (con (built True)) w) go)
      (misfitted (same_con (built False) c) q (made.con_of tt n y) u go'))
      (sym (same-numbers (built True) c refl e)) (go-on (same_con (built True) c) (same_con (built False) c)))
    where
      go-on : (p q : Bool)
          → Ends (on_match (if p then misfits else fails) w (λ d w. gives (con (built True)) w)
          (λ w. on_match (if q then misfits else fails) w go (λ w. raises match_packet w)))
          (misfitted q p (made.con_of tt n y) u go')
      go-on true true = both_stop _ s
      go-on true false = both_stop _ s
      go-on false true = both_stop _ s
      go-on false false = both_raise (rel_exn 0) s

  pub and-rel : {v : Value} {z : V} → Rel v z → Ends (tests True False v w go (λ d w. gives (con (built False)) w)) (on_operand true z u go')
  and-rel (rel_con c e) = and-con c e
  and-rel (rel_con_of c {v = x} {u = y} e q) = and-con-of c x y e
  and-rel (rel_literal l) = both_stop _ s
  and-rel (rel_record q) = both_stop _ s
  and-rel rel_ref = both_stop _ s
  and-rel (rel_address a) = both_stop _ s
  and-rel (rel_exn n) = both_stop _ s
  and-rel (rel_exn_of n q) = both_stop _ s
  and-rel (rel_primitive q) = both_stop _ s
  and-rel (rel_alone c f) = both_stop _ s
  and-rel (rel_one_of c b fs f) = both_stop _ s

  pub or-rel : {v : Value} {z : V} → Rel v z → Ends (tests True False v w (λ d w. gives (con (built True)) w) go) (on_operand false z u go')
  or-rel (rel_con c e) = or-con c e
  or-rel (rel_con_of c {v = x} {u = y} e q) = or-con-of c x y e
  or-rel (rel_literal l) = both_stop _ s
  or-rel (rel_record q) = both_stop _ s
  or-rel rel_ref = both_stop _ s
  or-rel (rel_address a) = both_stop _ s
  or-rel (rel_exn n) = both_stop _ s
  or-rel (rel_exn_of n q) = both_stop _ s
  or-rel (rel_primitive q) = both_stop _ s
  or-rel (rel_alone c f) = both_stop _ s
  or-rel (rel_one_of c b fs f) = both_stop _ s

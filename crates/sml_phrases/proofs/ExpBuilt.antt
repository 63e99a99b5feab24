-- What is made of expressions that were read.
use Rattle.std.proofs.Common.{◌≡◌, ℕ, max, ◌+◌, ◌<◌, ◌≤◌, List, ◌∷◌, length, refl, sym, ap, ◌∙◌, subst, arith}
use Rattle.mlc_names.specs.declared.token.Token.{Token}
use Rattle.sml_tree.specs.Terminal.{Terminal}
use Rattle.sml_tree.specs.Fixity.{Fixity}
use Rattle.sml_tree.specs.BareTree as bare
use Rattle.sml_tree.specs.Bare.{bare_exp, at, exp_list}
use Rattle.sml_tree.specs.Derived.{app_of, tuple, list_of, sequence_of, case_of, if_of, while_of}
use Rattle.sml_tree.specs.TreeOf.{exp_of, exp_fields_of, rules_of, ExpFieldOf, RuleOf}
use Rattle.sml_tree.specs.declared.tree.Exp.{Exp}
use Rattle.sml_tree.specs.ReadTree as read
use Rattle.sml_tree.specs.ReadTree.{Exps, exp, ExpFields, Rules, case, fn, record_exp, tuple_exp, list_exp, sequence, paren_exp, if_then, while, raise, exp_place}
use Rattle.sml_tree.specs.Depth.{depth_exps, depth_exp_fields, depth_rules}
use Rattle.sml_grammar.specs.Answer.{Read}
use Rattle.sml_grammar.specs.Terminals.{place_at, tail}
use Rattle.sml_grammar.specs.Expressions.{applied}
use Rattle.phrase_base.specs.declared.source.Source.{Source}
use Rattle.phrase_base.specs.Left.{left}
use Rattle.sml_phrases.specs.ExpressionsRead.{IsExp, IsAtom, IsList, field_list, rule_list}
use Rattle.sml_phrases.proofs.ExpLemmas.{fields_all, rules_all, tail-short}
use Rattle.sml_phrases.proofs.ExpForms.{applied-bare, applied-depth, applied-place, applied-level}

module _ (f : Fixity) (s : Source) (n : ℕ) (i : List Terminal) where
  pub is-applied : {e made : Exp} {d d2 : ℕ} {o o2 : List Token} {xs : List bare.Exp} (r : Read read.Exp) (es : Read Exps) → IsAtom f s (n + 1) i e d o r → d ≤ n →
      IsList (exp_list s.file) depth_exps s n (left s o) xs d2 o2 es → exp_of made ≡ app_of (at s.file (place_at i)) (exp_of e) xs →
      IsAtom f s (n + 1) i made (max d d2 + 1) o2 (record { tree = applied r.tree es.tree; rest = es.rest })
  is-applied {e} {made} {d} {d2} {o} {o2} {xs} r es is low l h =
      let some = subst (λ z. 0 < length z) l.same l.some in
      let deep = applied-depth s.file r.tree es.tree some in
      let q = is.is.deep in
      let q2 = l.deep in
      let lt = subst (λ z. length z < length i) (sym is.is.rest) is.is.shorter in
      record {
        is = record {
          rest = l.rest;
          bare = h ∙ ap (λ p. app_of (at s.file p) (exp_of e) xs) (sym is.is.place) ∙ ap (λ z. app_of (at s.file (exp_place r.tree)) z xs) is.is.bare
              ∙ ap (λ z. app_of (at s.file (exp_place r.tree)) (bare_exp s.file r.tree) z) l.same ∙ sym (applied-bare s.file r.tree es.tree);
          deep = omega (arith, deep, q, q2);
          place = applied-place r.tree es.tree ∙ is.is.place;
          fits = omega (arith, deep, q, q2, l.fits, low);
          shorter = omega (arith, l.shorter, lt);
        };
        high = applied-level f s.file r.tree es.tree some;
      }

  pub is-record : {made : Exp} {d : ℕ} {o : List Token} {xs : List ExpFieldOf} (fs : Read ExpFields) → IsList (field_list s.file) depth_exp_fields s n (tail i) xs d o fs → exp_of made ≡ bare.fields_exp (at s.file (place_at i)) (exp_fields_of xs) →
      IsAtom f s (n + 1) i made (d + 1) o (record { tree = record_exp (place_at i) fs.tree; rest = fs.rest })
  is-record fs l h =
      let q = l.deep in
      record {
        is = record {
          rest = l.rest;
          bare = h ∙ ap (λ z. bare.fields_exp (at s.file (place_at i)) (exp_fields_of z)) l.same ∙ ap (bare.fields_exp (at s.file (place_at i))) (fields_all s.file fs.tree);
          deep = omega (arith, q);
          place = refl;
          fits = omega (arith, l.fits);
          shorter = omega (arith, l.shorter, tail-short i);
        };
        high = refl;
      }

  module _ {e : Exp} {d : ℕ} {o : List Token} (r : Read read.Exp) (is : IsExp s n (tail i) e d o r) where
    pub is-tuple : {made : Exp} {d2 : ℕ} {o2 : List Token} {m : List Terminal} {xs : List bare.Exp} (es : Read Exps) → length m < length (left s o) → IsList (exp_list s.file) depth_exps s n m xs d2 o2 es →
        exp_of made ≡ tuple (at s.file (place_at i)) (exp_of e ∷ xs) → IsAtom f s (n + 1) i made (max d d2 + 1) o2 (record { tree = tuple_exp (place_at i) (exp r.tree es.tree); rest = es.rest })
    is-tuple {xs} es lt l h =
        let q = is.deep in
        let q2 = l.deep in
        let ls = subst (λ z. length z < length (tail i)) (sym is.rest) is.shorter in
        record {
          is = record {
            rest = l.rest;
            bare = h ∙ ap (λ z. tuple (at s.file (place_at i)) (z ∷ xs)) is.bare ∙ ap (λ z. tuple (at s.file (place_at i)) (bare_exp s.file r.tree ∷ z)) l.same;
            deep = omega (arith, q, q2);
            place = refl;
            fits = omega (arith, is.fits, l.fits);
            shorter = omega (arith, l.shorter, lt, ls, tail-short i);
          };
          high = refl;
        }

    pub is-sequence : {made : Exp} {d2 : ℕ} {o2 : List Token} {m : List Terminal} {xs : List bare.Exp} (es : Read Exps) → length m < length (left s o) → IsList (exp_list s.file) depth_exps s n m xs d2 o2 es →
        exp_of made ≡ sequence_of (at s.file (place_at i)) (exp_of e) xs → IsAtom f s (n + 1) i made (max d d2 + 1) o2 (record { tree = sequence (place_at i) (exp r.tree es.tree); rest = es.rest })
    is-sequence {xs} es lt l h =
        let q = is.deep in
        let q2 = l.deep in
        let ls = subst (λ z. length z < length (tail i)) (sym is.rest) is.shorter in
        record {
          is = record {
            rest = l.rest;
            bare = h ∙ ap (λ z. sequence_of (at s.file (place_at i)) z xs) is.bare ∙ ap (λ z. sequence_of (at s.file (place_at i)) (bare_exp s.file r.tree) z) l.same;
            deep = omega (arith, q, q2);
            place = refl;
            fits = omega (arith, is.fits, l.fits);
            shorter = omega (arith, l.shorter, lt, ls, tail-short i);
          };
          high = refl;
        }

    pub is-raise : {made : Exp} → exp_of made ≡ bare.raise (at s.file (place_at i)) (exp_of e) → IsExp s (n + 1) i made (d + 1) o (record { tree = raise (place_at i) r.tree; rest = r.rest })
    is-raise h =
        let q = is.deep in
        record { rest = is.rest; bare = h ∙ ap (bare.raise (at s.file (place_at i))) is.bare; deep = omega (arith, q); place = refl; fits = omega (arith, is.fits); shorter = omega (arith, is.shorter, tail-short i) }

    module _ {e2 : Exp} {d2 : ℕ} {o2 : List Token} (r2 : Read read.Exp) (is2 : IsExp s n (tail r.rest) e2 d2 o2 r2) where
      pub is-while : {made : Exp} → exp_of made ≡ while_of (at s.file (place_at i)) (exp_of e) (exp_of e2) → IsExp s (n + 1) i made (max d d2 + 1) o2 (record { tree = while (place_at i) r.tree r2.tree; rest = r2.rest })
      is-while h =
          let q = is.deep in
          let q2 = is2.deep in
          record {
            rest = is2.rest;
            bare = h ∙ ap (λ z. while_of (at s.file (place_at i)) z (exp_of e2)) is.bare ∙ ap (λ z. while_of (at s.file (place_at i)) (bare_exp s.file r.tree) z) is2.bare;
            deep = omega (arith, q, q2);
            place = refl;
            fits = omega (arith, is.fits, is2.fits);
            shorter = omega (arith, is.shorter, is2.shorter, tail-short i, tail-short r.rest);
          }

      pub is-if : {e3 made : Exp} {d3 : ℕ} {o3 : List Token} (r3 : Read read.Exp) → IsExp s n (tail r2.rest) e3 d3 o3 r3 → exp_of made ≡ if_of (at s.file (place_at i)) (exp_of e) (exp_of e2) (exp_of e3) →
          IsExp s (n + 1) i made (max d (max d2 d3) + 1) o3 (record { tree = if_then (place_at i) r.tree r2.tree r3.tree; rest = r3.rest })
      is-if {e3} r3 is3 h =
          let q = is.deep in
          let q2 = is2.deep in
          let q3 = is3.deep in
          record {
            rest = is3.rest;
            bare = h ∙ ap (λ z. if_of (at s.file (place_at i)) z (exp_of e2) (exp_of e3)) is.bare ∙ ap (λ z. if_of (at s.file (place_at i)) (bare_exp s.file r.tree) z (exp_of e3)) is2.bare
                ∙ ap (λ z. if_of (at s.file (place_at i)) (bare_exp s.file r.tree) (bare_exp s.file r2.tree) z) is3.bare;
            deep = omega (arith, q, q2, q3);
            place = refl;
            fits = omega (arith, is.fits, is2.fits, is3.fits);
            shorter = omega (arith, is.shorter, is2.shorter, is3.shorter, tail-short i, tail-short r.rest, tail-short r2.rest);
          }

-- `case`, and a match after `fn`
module _ (f : Fixity) (s : Source) (n : ℕ) (i : List Terminal) where
  pub is-case : {e made : Exp} {d d2 : ℕ} {o o2 : List Token} {m : List Terminal} {xs : List RuleOf} (r : Read read.Exp) (rs : Read Rules) → IsExp s n (tail i) e d o r → length m < length (left s o) → IsList (rule_list s.file) depth_rules s n m xs d2 o2 rs →
      exp_of made ≡ case_of (at s.file (place_at i)) (exp_of e) (rules_of xs) → IsExp s (n + 1) i made (max d d2 + 1) o2 (record { tree = case (place_at i) r.tree rs.tree; rest = rs.rest })
  is-case {e} {xs} r rs is lt l h =
      let q = is.deep in
      let q2 = l.deep in
      let ls = subst (λ z. length z < length (tail i)) (sym is.rest) is.shorter in
      record {
        rest = l.rest;
        bare = h ∙ ap (λ z. case_of (at s.file (place_at i)) z (rules_of xs)) is.bare ∙ ap (λ z. case_of (at s.file (place_at i)) (bare_exp s.file r.tree) (rules_of z)) l.same
            ∙ ap (case_of (at s.file (place_at i)) (bare_exp s.file r.tree)) (rules_all s.file rs.tree);
        deep = omega (arith, q, q2);
        place = refl;
        fits = omega (arith, is.fits, l.fits);
        shorter = omega (arith, l.shorter, lt, ls, tail-short i);
      }

  pub is-fn : {made : Exp} {d : ℕ} {o : List Token} {xs : List RuleOf} (rs : Read Rules) → IsList (rule_list s.file) depth_rules s n (tail i) xs d o rs → exp_of made ≡ bare.fn (at s.file (place_at i)) (rules_of xs) →
      IsExp s (n + 1) i made (d + 1) o (record { tree = fn (place_at i) rs.tree; rest = rs.rest })
  is-fn rs l h =
      let q = l.deep in
      record { rest = l.rest; bare = h ∙ ap (λ z. bare.fn (at s.file (place_at i)) (rules_of z)) l.same ∙ ap (bare.fn (at s.file (place_at i))) (rules_all s.file rs.tree); deep = omega (arith, q); place = refl; fits = omega (arith, l.fits); shorter = omega (arith, l.shorter, tail-short i) }

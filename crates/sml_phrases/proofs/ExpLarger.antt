-- What an expression becomes with what goes on with it.
use Rattle.std.proofs.Common.{◌≡◌, ℕ, max, ◌+◌, ◌≤◌, List, refl, ap, ◌∙◌, arith}
use Rattle.mlc_names.specs.declared.token.Token.{Token}
use Rattle.mlc_base.specs.declared.place.Place.{Place}
use Rattle.sml_tree.specs.Terminal.{Terminal}
use Rattle.sml_tree.specs.Fixity.{Fixity}
use Rattle.sml_tree.specs.BareTree as bare
use Rattle.sml_tree.specs.Bare.{bare_exp, at, operands}
use Rattle.sml_tree.specs.Derived.{Operand, chain_of, join}
use Rattle.sml_tree.specs.TreeOf.{exp_of, rules_of, RuleOf}
use Rattle.sml_tree.specs.declared.tree.Exp.{Exp}
use Rattle.sml_tree.specs.declared.tree.Joint as tree
use Rattle.sml_tree.specs.ReadTree as read
use Rattle.sml_tree.specs.ReadTree.{Parts, Rules, chain, handle, exp_place}
use Rattle.sml_tree.specs.Depth.{depth, depth_parts, depth_rules}
use Rattle.sml_tree.specs.Levels.{joint_level, joint_right}
use Rattle.sml_grammar.specs.Answer.{Read, ok, read, then_read}
use Rattle.sml_grammar.specs.Expressions.{Reader, whole_parts, read_match}
use Rattle.phrase_base.specs.declared.source.Source.{Source}
use Rattle.phrase_base.specs.Gives.{Gave}
use Rattle.sml_phrases.specs.Ties.{joint_from}
use Rattle.sml_phrases.specs.ExpressionsRead.{IsLarger, IsList, rule_list}
use Rattle.sml_phrases.proofs.ExpLemmas.{rules_all}
use Rattle.sml_phrases.proofs.ExpSteps.{after-ok}
use Rattle.sml_phrases.proofs.ExpLevels.{chain-level}

module _ (self : Reader) (f : Fixity) (s : Source) (n : ℕ) (i : List Terminal) (a : read.Exp) (before : Exp) {made : Exp} {below d : ℕ} {p : Place} {o : List Token} (e : exp_of before ≡ bare_exp s.file a) (dq : below ≡ depth a) (pq : p ≡ at s.file (exp_place a)) (low : below ≤ n) where
  pub is-chain : {xs : List (Operand tree.Joint bare.Exp)} (j : tree.Joint) (ps : Read Parts) → whole_parts self f (joint_from j) i ≡ ok ps → IsList (operands s.file) depth_parts s n i xs d o ps →
      exp_of made ≡ chain_of join (joint_right f (joint_from j)) p (exp_of before) xs →
      Gave (λ (y : Unit {0}) r. IsLarger f s (n + 1) i (exp_place a) (joint_level f (joint_from j)) made (max below d + 1) o r) tt
      (then_read (whole_parts self f (joint_from j) i) (λ qs k. read (chain (joint_right f (joint_from j)) a qs) k))
  is-chain {xs} j ps h l m =
      let q = l.deep in
      record {
        got = record { tree = chain (joint_right f (joint_from j)) a ps.tree; rest = ps.rest };
        is = after-ok (λ qs k. read (chain (joint_right f (joint_from j)) a qs) k) h;
        same = record {
          rest = l.rest;
          bare = m ∙ ap (λ z. chain_of join (joint_right f (joint_from j)) z (exp_of before) xs) pq ∙ ap (λ z. chain_of join (joint_right f (joint_from j)) (at s.file (exp_place a)) z xs) e
              ∙ ap (λ z. chain_of join (joint_right f (joint_from j)) (at s.file (exp_place a)) (bare_exp s.file a) z) l.same;
          deep = omega (arith, q, dq);
          place = refl;
          fits = omega (arith, l.fits, dq, low);
          shorter = l.shorter;
          high = chain-level self f (joint_from j) i ps h;
        };
      }

  pub is-handle : {xs : List RuleOf} (rs : Read Rules) → read_match n self f i ≡ ok rs → IsList (rule_list s.file) depth_rules s n i xs d o rs → exp_of made ≡ bare.handle p (exp_of before) (rules_of xs) →
      Gave (λ (y : Unit {0}) r. IsLarger f s (n + 1) i (exp_place a) 0 made (max below d + 1) o r) tt (then_read (read_match n self f i) (λ qs k. read (handle a qs) k))
  is-handle {xs} rs h l m =
      let q = l.deep in
      record {
        got = record { tree = handle a rs.tree; rest = rs.rest };
        is = after-ok (λ qs k. read (handle a qs) k) h;
        same = record {
          rest = l.rest;
          bare = m ∙ ap (λ z. bare.handle z (exp_of before) (rules_of xs)) pq ∙ ap (λ z. bare.handle (at s.file (exp_place a)) z (rules_of xs)) e
              ∙ ap (λ z. bare.handle (at s.file (exp_place a)) (bare_exp s.file a) (rules_of z)) l.same ∙ ap (bare.handle (at s.file (exp_place a)) (bare_exp s.file a)) (rules_all s.file rs.tree);
          deep = omega (arith, q, dq);
          place = refl;
          fits = omega (arith, l.fits, dq, low);
          shorter = l.shorter;
          high = refl;
        };
      }

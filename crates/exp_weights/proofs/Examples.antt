-- Counts of certain phrases, each of whose parts is one node.
use Rattle.std.proofs.Common.{◌≡◌, [], ◌∷◌, refl}
use Rattle.mlc_base.specs.declared.place.Place.{Place}
use Rattle.sml_tree.specs.BareTree as bare
use Rattle.sml_tree.specs.BareTree.{bind, dec, fn, let_in, local_dec, no_binds, no_decs, no_rules, open_dec, val_dec}
use Rattle.sml_tree.specs.Derived.{Clause, Function, app_of, clause_rules, fun_dec_of, if_of, join, join_pats, list_of, list_pat_of, sequence_of, short, tuple}
use Rattle.sml_tree.specs.Terminal.{string}
use Rattle.sml_tree.specs.declared.ident.Vid.TheVariants.{Named}
use Rattle.sml_tree.specs.declared.tree.Joint.TheVariants.{AndAlso, Infix}
use Rattle.exp_weights.specs.Nodes.{bound_count, dec_count, exp_count, outer_count, outer_dec_count, pat_count, rules_count}
use Rattle.exp_weights.specs.Own.{head_count, with_head}

module _ (p : Place) where
  -- x, as an expression and as a pattern
  abbrev e : bare.Exp
  e = bare.vid_exp p (short (Named 0))

  abbrev a : bare.Pat
  a = bare.vid_pat p (short (Named 0))

  -- "ab"
  a-string : exp_count (bare.constant_exp p (string (97 ∷ 98 ∷ []))) ≡ 3
  a-string = refl

  -- (x, x)
  a-pair : exp_count (tuple p (e ∷ e ∷ [])) ≡ 3
  a-pair = refl

  -- [x, x]: an application, a constructor and a record for each, and `nil`
  a-list : exp_count (list_of p (e ∷ e ∷ [])) ≡ 9
  a-list = refl

  a-list-pattern : pat_count (list_pat_of p (a ∷ a ∷ [])) ≡ 7
  a-list-pattern = refl

  -- x x x
  an-application : exp_count (app_of p e (e ∷ e ∷ [])) ≡ 5
  an-application = refl

  -- (x; x): (fn _ => x) x
  a-sequence : exp_count (sequence_of p e (e ∷ [])) ≡ 6
  a-sequence = refl

  -- x andalso x: (fn true => x | false => false) x
  a-test : exp_count (join AndAlso p e e) ≡ 9
  a-test = refl

  -- x v x, in patterns too
  an-infix : exp_count (join (Infix p (Named 1)) p e e) ≡ 5
  an-infix = refl

  an-infix-pattern : pat_count (join_pats (record { place = p; vid = Named 1 }) p a a) ≡ 4
  an-infix-pattern = refl

  -- if x then x else x
  a-choice : exp_count (if_of p e e e) ≡ 9
  a-choice = refl

  -- x x = x
  abbrev clause : Clause
  clause = record { place = p; pats = a ∷ a ∷ []; body = e }

  abbrev function : Function
  function = record { place = p; vid_place = p; vid = Named 0; clauses = clause ∷ [] }

  -- fun x x x = x: val rec x = fn v1 => fn v2 => case (v1, v2) of (x, x) => x
  a-function : dec_count (fun_dec_of p p [] (function ∷ [])) ≡ 19
  a-function = refl

  -- of these the head of the function, x = fn v1 => fn v2 => case (v1, v2) of .., and its clause; one more is the declaration
  its-head : head_count function ≡ 13
  its-head = refl

  its-clause : rules_count (clause_rules (clause ∷ [])) ≡ 5
  its-clause = refl

  -- the head is counted with the first clause alone
  a-first-clause : with_head 13 0 5 ≡ 18
  a-first-clause = refl

  a-second-clause : with_head 13 1 5 ≡ 5
  a-second-clause = refl

  -- x = fn ..: a binding, its pattern and the function
  a-head-behind-rec : bound_count a (fn p no_rules) ≡ 3
  a-head-behind-rec = refl

  -- local val x = x in val x = x and x = x; open end: three declarations in one
  a-local : outer_dec_count (local_dec p (dec (val_dec p p [] (bind p a e no_binds) no_binds) no_decs)
      (dec (val_dec p p [] (bind p a e (bind p a e no_binds)) no_binds) (dec (open_dec p []) no_decs))) ≡ 4
  a-local = refl

  -- declarations in an expression are counted with it
  a-let : outer_count (dec (val_dec p p [] (bind p a (let_in p (dec (open_dec p []) no_decs) e) no_binds) no_binds) no_decs) ≡ 1
  a-let = refl

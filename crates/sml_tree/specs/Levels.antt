-- Fixities after declarations, the levels of phrases, and what a phrase's right edge could go on with.
use Rattle.std.specs.Prelude.{ℕ, suc, ◌+◌, Bool, true, false, ◌||◌, List, [], ◌∷◌, ◌++◌, Option, Some, None, min, nat_le}
use Rattle.mlc_names.specs.declared.token.Reserved.TheVariants as res
use Rattle.sml_tree.specs.Terminal.{Terminal, reserved, alpha, symbol, star}
use Rattle.sml_tree.specs.declared.ident.Vid.{Vid}
use Rattle.sml_tree.specs.declared.ident.Vid.TheVariants.{Named, Equals}
use Rattle.sml_tree.specs.Fixity.{Fixity, fix_of, directives_for}
use Rattle.sml_tree.specs.declared.fixity.Infix.{Infix}
use Rattle.sml_tree.specs.declared.fixity.Directive.{Directive}
use Rattle.sml_tree.specs.ReadTree.{Ty, var_ty, record_ty, con_ty, product_ty, arrow_ty, paren_ty, Pat, wild_pat, constant_pat, vid_pat, record_pat, unit_pat, tuple_pat, list_pat, paren_pat, con_pat, chain_pat, typed_pat, as_pat, PatParts, last_pat_part, pat_part, Joint, and_also, or_else, infixed, Exp, constant_exp, vid_exp, record_exp, selector, unit_exp, tuple_exp, list_exp, sequence, paren_exp, let_in, app, chain, typed, handle, raise, if_then, while, case, fn, Parts, last_part, part, Rules, last_rule, rule, Decs, no_decs, dec, Dec, val_dec, fun_dec, type_dec, datatype_dec, withtype_dec, replicate_dec, exception_dec, local_dec, open_dec, fixity_dec}

-- The directives that are in force after declarations because of them, the newest first: those of a `local`'s first part end with it,
-- and those of a `let` end with it (the Definition, section 2.6).
abbrev mutual
  pub added : Decs → List Directive
  added no_decs = []
  added (dec d ds) = added ds ++ added_by d

  pub added_by : Dec → List Directive
  added_by (fixity_dec p status xs) = directives_for status xs
  added_by (local_dec p ds es) = added es
  added_by (val_dec p q as_ bs) = []
  added_by (fun_dec p q as_ fs) = []
  added_by (type_dec p bs) = []
  added_by (datatype_dec p bs) = []
  added_by (withtype_dec p bs cs) = []
  added_by (replicate_dec p x c) = []
  added_by (exception_dec p bs) = []
  added_by (open_dec p xs) = []

abbrev pub after : Fixity → Decs → Fixity
after f ds = added ds ++ f

abbrev pub after_dec : Fixity → Dec → Fixity
after_dec f d = added_by d ++ f

-- Levels of types: `->` binds looser than `*` (section 2.9, Appendix B).
abbrev pub ty_level : Ty → ℕ
ty_level (arrow_ty t ts) = 0
ty_level (product_ty t ts) = 1
ty_level (var_ty p a) = 2
ty_level (record_ty p fs) = 2
ty_level (con_ty p ts c) = 2
ty_level (paren_ty p t) = 2

-- A precedence p has level 8 + p. Atoms and applications are above all.
abbrev pub infix_level : Option Infix → ℕ
infix_level (Some d) = 8 + min d.precedence 9
infix_level None = 8

abbrev pub infix_right : Option Infix → Bool
infix_right (Some d) = d.right
infix_right None = false

abbrev pub vid_level : Fixity → Vid → ℕ
vid_level f v = infix_level (fix_of v f)

abbrev pub vid_right : Fixity → Vid → Bool
vid_right f v = infix_right (fix_of v f)

-- Levels of patterns: `as` binds looser than `:`, and `:` looser than infix constructors.
abbrev pub pat_parts_level : Fixity → PatParts → ℕ
pat_parts_level f (last_pat_part x a) = vid_level f (Named x.it)
pat_parts_level f (pat_part x a ps) = vid_level f (Named x.it)

abbrev pub pat_level : Fixity → Pat → ℕ
pat_level f (as_pat p v t a) = 0
pat_level f (typed_pat a t) = 5
pat_level f (chain_pat r a ps) = pat_parts_level f ps
pat_level f (wild_pat p) = 1000
pat_level f (constant_pat p c) = 1000
pat_level f (vid_pat p x) = 1000
pat_level f (record_pat p fs b) = 1000
pat_level f (unit_pat p) = 1000
pat_level f (tuple_pat p as_) = 1000
pat_level f (list_pat p as_) = 1000
pat_level f (paren_pat p a) = 1000
pat_level f (con_pat p x a) = 1000

-- Levels of expressions: handle 0, orelse 1, andalso 3, a form that begins with a keyword 4, typed 5 (Appendix B).
abbrev pub joint_level : Fixity → Joint → ℕ
joint_level f and_also = 3
joint_level f or_else = 1
joint_level f (infixed v) = vid_level f v.it

abbrev pub joint_right : Fixity → Joint → Bool
joint_right f and_also = true
joint_right f or_else = true
joint_right f (infixed v) = vid_right f v.it

abbrev pub parts_level : Fixity → Parts → ℕ
parts_level f (last_part j e) = joint_level f j
parts_level f (part j e ps) = joint_level f j

abbrev pub level : Fixity → Exp → ℕ
level f (handle e rs) = 0
level f (chain r e ps) = parts_level f ps
level f (raise p e) = 4
level f (if_then p a b c) = 4
level f (while p a b) = 4
level f (case p e rs) = 4
level f (fn p rs) = 4
level f (typed e t) = 5
level f (constant_exp p c) = 1000
level f (vid_exp p x) = 1000
level f (record_exp p fs) = 1000
level f (selector p l) = 1000
level f (unit_exp p) = 1000
level f (tuple_exp p es) = 1000
level f (list_exp p es) = 1000
level f (sequence p es) = 1000
level f (paren_exp p e) = 1000
level f (let_in p ds es) = 1000
level f (app e a es) = 1000

-- the value identifier that a terminal is, `=` among them, where it has no qualifier
abbrev pub vid_at : Terminal → Option Vid
vid_at (alpha p x) = Some (Named x)
vid_at (symbol p x) = Some (Named x)
vid_at (star p x) = Some (Named x)
vid_at (reserved p res.Equals) = Some Equals
vid_at t = None

abbrev pub level_if : Option Infix → Option ℕ
level_if (Some d) = Some (infix_level (Some d))
level_if None = None

abbrev pub infix_tie : Fixity → Option Vid → Option ℕ
infix_tie f (Some v) = level_if (fix_of v f)
infix_tie f None = None

-- the level of the phrase that the terminal at the head would make of an expression before it
abbrev pub tie : Fixity → List Terminal → Option ℕ
tie f (reserved p res.Colon ∷ i) = Some 5
tie f (reserved p res.Andalso ∷ i) = Some 3
tie f (reserved p res.Orelse ∷ i) = Some 1
tie f (reserved p res.Handle ∷ i) = Some 0
tie f (t ∷ i) = infix_tie f (vid_at t)
tie f [] = None

abbrev pub at_least : ℕ → Option ℕ → Bool
at_least l (Some n) = nat_le l n
at_least l None = false

-- an expression that has to have level l or more could go on with the terminal at the head
abbrev pub could_go_on : Fixity → ℕ → List Terminal → Bool
could_go_on f l i = at_least l (tie f i)

abbrev pub begins_bar : List Terminal → Bool
begins_bar (reserved p res.Bar ∷ i) = true
begins_bar _ = false

-- A smaller expression, or a match, at the right end could go on with the terminal at the head. A form that begins with a keyword
-- extends as far right as it can (Appendix B): where this holds, the phrase may not be followed so.
abbrev mutual
  pub goes_on : Fixity → Exp → List Terminal → Bool
  goes_on f (chain r a ps) i = parts_go_on f ps i
  goes_on f (handle e rs) i = begins_bar i || rules_go_on f rs i
  goes_on f (raise p e) i = could_go_on f 0 i || goes_on f e i
  goes_on f (if_then p a b c) i = could_go_on f 0 i || goes_on f c i
  goes_on f (while p a b) i = could_go_on f 0 i || goes_on f b i
  goes_on f (case p e rs) i = begins_bar i || rules_go_on f rs i
  goes_on f (fn p rs) i = begins_bar i || rules_go_on f rs i
  goes_on f (typed e t) i = false
  goes_on f (constant_exp p c) i = false
  goes_on f (vid_exp p x) i = false
  goes_on f (record_exp p fs) i = false
  goes_on f (selector p l) i = false
  goes_on f (unit_exp p) i = false
  goes_on f (tuple_exp p es) i = false
  goes_on f (list_exp p es) i = false
  goes_on f (sequence p es) i = false
  goes_on f (paren_exp p e) i = false
  goes_on f (let_in p ds es) i = false
  goes_on f (app e a es) i = false

  pub parts_go_on : Fixity → Parts → List Terminal → Bool
  parts_go_on f (last_part j e) i = could_go_on f (suc (joint_level f j)) i || goes_on f e i
  parts_go_on f (part j e ps) i = parts_go_on f ps i

  pub rules_go_on : Fixity → Rules → List Terminal → Bool
  rules_go_on f (last_rule p e) i = could_go_on f 0 i || goes_on f e i
  rules_go_on f (rule p e rs) i = rules_go_on f rs i
